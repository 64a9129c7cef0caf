use Rattle.std.proofs.Common.{◌∙◌, ◌/◌, ◌+◌, ap, sym, min, refl, length}
use Rattle.std.proofs.lemmas.Bool.{false≢true}
use Rattle.mig_base.specs.declared.command.Command.TheVariants.{DontNeed}
use Rattle.mig_base.specs.declared.message.Message.TheVariants.{Remove}
use Rattle.mig_model.specs.Space.{called, message_if, all_queued}
use Rattle.uffd_ioctl.specs.Spaces.{machine_space}
use Rattle.uffd_ioctl.proofs.CallLemmas.{space_dropped, queued_dropped, needs_dropped, sound_called}
use Rattle.uffd_ioctl.proofs.space.Space.dontneed.Goals as goal

pub invariant_of-self-2 : goal.invariant_of-self-2
invariant_of-self-2 c =
    sound_called _ (machine_space c.self.inside.areas c.self.inside.pages c.self.inside.object) c.args.cpu (DontNeed c.args.addr c.args.len) refl c.self.invariant
    (space_dropped (machine_space c.self.inside.areas c.self.inside.pages c.self.inside.object) c.drop_range.new.self c.queue_if_due.new.object c.args.cpu c.args.addr c.args.len c.min-first.result c.min-end.result c.page_address.result c.dontneed_reply-reply.result c.self.invariant
    (c.dontneed_reply-reply.ensures c.self.inside.pages.bytes c.self.invariant.host)
    (λ same. false≢true (sym c.if-is_invalid.false ∙ c.is_invalid.ensures.1 same))
    (c.min-first.ensures ∙ ap (min (c.args.addr / 4096)) c.from-high.ensures)
    (c.min-end.ensures ∙ ap (λ n. min (c.args.addr / 4096 + n) c.from-high.result) c.page_count.ensures ∙ ap (min (c.args.addr / 4096 + _)) c.from-high.ensures)
    c.page_address.ensures
    c.drop_range.ensures.bytes c.drop_range.ensures.protected (c.in_ok-queued.ensures.object ∙ ap (λ b. all_queued c.self.inside.object (message_if b (Remove c.args.addr c.page_address.result)) c.args.cpu) c.is_any_registered-is_due.ensures))

pub returns-clause-queued : goal.returns-clause-queued
returns-clause-queued c =
    queued_dropped (machine_space c.self.inside.areas c.self.inside.pages c.self.inside.object) c.args.self.now c.args.addr c.args.len c.min-first.result c.min-end.result c.page_address.result _ c.dontneed_reply-reply.result c.self.view_is c.self.invariant
    (c.dontneed_reply-reply.ensures c.self.inside.pages.bytes c.self.invariant.host)
    (λ same. false≢true (sym c.if-is_invalid.false ∙ c.is_invalid.ensures.1 same))
    (c.min-first.ensures ∙ ap (min (c.args.addr / 4096)) c.from-high.ensures)
    (c.min-end.ensures ∙ ap (λ n. min (c.args.addr / 4096 + n) c.from-high.result) c.page_count.ensures ∙ ap (min (c.args.addr / 4096 + _)) c.from-high.ensures)
    c.page_address.ensures
    (c.in_ok-queued.ensures.count ∙ ap (λ b. length (message_if b (Remove c.args.addr c.page_address.result))) c.is_any_registered-is_due.ensures)

pub returns-clause-space : goal.returns-clause-space
returns-clause-space c =
    space_dropped (machine_space c.self.inside.areas c.self.inside.pages c.self.inside.object) c.drop_range.new.self c.queue_if_due.new.object c.args.cpu c.args.addr c.args.len c.min-first.result c.min-end.result c.page_address.result c.dontneed_reply-reply.result c.self.invariant
    (c.dontneed_reply-reply.ensures c.self.inside.pages.bytes c.self.invariant.host)
    (λ same. false≢true (sym c.if-is_invalid.false ∙ c.is_invalid.ensures.1 same))
    (c.min-first.ensures ∙ ap (min (c.args.addr / 4096)) c.from-high.ensures)
    (c.min-end.ensures ∙ ap (λ n. min (c.args.addr / 4096 + n) c.from-high.result) c.page_count.ensures ∙ ap (min (c.args.addr / 4096 + _)) c.from-high.ensures)
    c.page_address.ensures
    c.drop_range.ensures.bytes c.drop_range.ensures.protected (c.in_ok-queued.ensures.object ∙ ap (λ b. all_queued c.self.inside.object (message_if b (Remove c.args.addr c.page_address.result)) c.args.cpu) c.is_any_registered-is_due.ensures)
    ∙ ap (λ s. called s c.args.cpu (DontNeed c.args.addr c.args.len)) c.self.view_is

pub returns-in_err-queued-clause-needs : goal.returns-in_err-queued-clause-needs
returns-in_err-queued-clause-needs c =
    needs_dropped c.from_residual.result (machine_space c.self.inside.areas c.self.inside.pages c.self.inside.object) c.args.self.now c.args.addr c.args.len c.min-first.result c.min-end.result c.page_address.result c.dontneed_reply-reply.result c.self.view_is c.self.invariant
    (c.dontneed_reply-reply.ensures c.self.inside.pages.bytes c.self.invariant.host)
    (λ same. false≢true (sym c.if-is_invalid.false ∙ c.is_invalid.ensures.1 same))
    (c.min-first.ensures ∙ ap (min (c.args.addr / 4096)) c.from-high.ensures)
    (c.min-end.ensures ∙ ap (λ n. min (c.args.addr / 4096 + n) c.from-high.result) c.page_count.ensures ∙ ap (min (c.args.addr / 4096 + _)) c.from-high.ensures)
    c.page_address.ensures
    (sym c.in_err-queued.ensures.due ∙ c.is_any_registered-is_due.ensures)
