use Rattle.std.proofs.Common.{◌∙◌, ◌/◌, ◌<◌, ap, sym, subst, arith}
use Rattle.std.specs.FinMap.{contains_key}
use Rattle.mig_base.specs.declared.TheConstants.{HIGH_PAGE}
use Rattle.mig_model.specs.Space.{IsSoundSpace}
use Rattle.mig_base.specs.Commands.{page_of}
use Rattle.uffd_ioctl.specs.Spaces.{machine_space}
use Rattle.uffd_ioctl.proofs.AccessLemmas.{made_mapped, made_below, memory_stored}
use Rattle.uffd_ioctl.proofs.space.Space.access.Goals as goal

pub page-page-requires : goal.page-page-requires
page-page-requires c =
    made_below c.args.self.now c.args.command c.reply_to-reply.result (subst IsSoundSpace c.self.view_is c.self.invariant) c.requires c.reply_to-reply.ensures c.if-not-is_made.ensures

pub write-requires-clause-high : goal.write-requires-clause-high
write-requires-clause-high c =
    let below = made_below c.args.self.now c.args.command c.reply_to-reply.result (subst IsSoundSpace c.self.view_is c.self.invariant) c.requires c.reply_to-reply.ensures c.if-not-is_made.ensures in
    let here : c.in-Store.addr / 4096 < HIGH_PAGE = subst (λ command. page_of command < HIGH_PAGE) c.in-Store.is below in
    omega arith

pub write-requires-clause-mapped : goal.write-requires-clause-mapped
write-requires-clause-mapped c =
    ap (λ command. contains_key c.args.self.now.host.areas (page_of command)) (sym c.in-Store.is)
    ∙ made_mapped c.args.self.now.host c.args.command c.reply_to-reply.result c.requires c.reply_to-reply.ensures c.if-not-is_made.ensures

pub returns-in_ok-write-clause-memory : goal.returns-in_ok-write-clause-memory
returns-in_ok-write-clause-memory c =
    memory_stored (machine_space c.self.inside.areas c.self.inside.pages c.self.inside.object) c.args.self.now c.write.new.self c.in-Store.addr c.in-Store.width c.in-Store.value c.args.command c.reply_to-reply.result
    c.self.view_is c.self.invariant c.in-Store.is c.reply_to-reply.ensures (sym c.is_made.ensures ∙ c.if-not-is_made.false) c.in_ok-write.ensures.ok
