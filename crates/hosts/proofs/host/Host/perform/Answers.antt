use Rattle.std.proofs.Common.{◌∙◌, ap, sym}
use Rattle.mig_base.specs.Flat.{reply_of}
use Rattle.mig_model.specs.Host.{memory}
use Rattle.hosts.proofs.UnwatchedLemmas.{access_needs, call_needs, never_missing, access_reply_is, accessed_host, called_host, stays_after_access, stays_after_call, memory_kept}
use Rattle.hosts.proofs.host.Host.perform.Goals as goal

pub unreachable-requires : goal.unreachable-requires
unreachable-requires c = never_missing c.self.inside.space c.args.command _ c.self.invariant c.in_ok-reply.ensures.access (λ reply h. c.in_default.not-Answered reply h)

pub invariant_of-self-then-is_access : goal.invariant_of-self-then-is_access
invariant_of-self-then-is_access c = stays_after_access c.self.inside.space c.access.new.self 0 c.args.command (sym c.is_access.ensures ∙ c.if-is_access.true) c.self.invariant c.in_ok-reply.ensures.space

pub invariant_of-self-else-is_access : goal.invariant_of-self-else-is_access
invariant_of-self-else-is_access c = stays_after_call c.self.inside.space c.map_call.new.self 0 c.args.command (sym c.is_access.ensures ∙ c.if-is_access.false) c.self.invariant c.in_ok-reply-2.ensures.space

pub returns-in-Answered-clause-reply : goal.returns-in-Answered-clause-reply
returns-in-Answered-clause-reply c =
    access_reply_is c.self.inside.space c.args.command _ c.in-Answered.reply c.self.invariant c.in_ok-reply.ensures.access c.in-Answered.is ∙ ap (λ h. reply_of (memory h) c.args.command) c.self.view_is

pub returns-in-Answered-clause-memory : goal.returns-in-Answered-clause-memory
returns-in-Answered-clause-memory c =
    memory_kept c.self.inside.space.host c.args.self.now c.access.new.self.host c.args.command c.self.view_is c.self.invariant.sound.host (accessed_host c.self.inside.space c.access.new.self 0 c.args.command c.self.invariant c.in_ok-reply.ensures.space)

pub returns-in_ok-reply-2-clause-memory : goal.returns-in_ok-reply-2-clause-memory
returns-in_ok-reply-2-clause-memory c =
    memory_kept c.self.inside.space.host c.args.self.now c.map_call.new.self.host c.args.command c.self.view_is c.self.invariant.sound.host (called_host c.self.inside.space c.map_call.new.self 0 c.args.command c.self.invariant c.in_ok-reply-2.ensures.space)

pub returns-in_ok-reply-2-clause-reply : goal.returns-in_ok-reply-2-clause-reply
returns-in_ok-reply-2-clause-reply c = c.in_ok-reply-2.ensures.reply ∙ ap (λ h. reply_of (memory h) c.args.command) c.self.view_is

pub returns-in_err-reply-clause-needs : goal.returns-in_err-reply-clause-needs
returns-in_err-reply-clause-needs c =
    access_needs c.from_residual.result c.self.inside.space c.args.self.now c.args.command c.self.view_is (sym c.is_access.ensures ∙ c.if-is_access.true) c.self.invariant c.in_err-reply.ensures.needs

pub returns-in_err-reply-2-clause-needs : goal.returns-in_err-reply-2-clause-needs
returns-in_err-reply-2-clause-needs c =
    call_needs c.from_residual-in_err-reply-2.result c.self.inside.space c.args.self.now c.args.command c.self.view_is (sym c.is_access.ensures ∙ c.if-is_access.false) c.self.invariant c.in_err-reply-2.ensures.needs
