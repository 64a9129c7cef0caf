use Rattle.std.proofs.Common.{◌≡◌, ◌+◌, ◌-◌, ◌%◌, ◌/◌, ◌∙◌, ap, arith, sym}
use Rattle.std.specs.FinMap.{get}
use Rattle.uffd_ioctl.proofs.AnswerLemmas.{number_present, number_missing, digits_read, digits_count}
use Rattle.uffd_ioctl.proofs.space.Space.number_at.Goals as goal

pub returns-in-Some : goal.returns-in-Some
returns-in-Some c =
    let host = c.args.self.now.host in
    let found = c.in-Some.ensures ∙ ap (λ s. get s.host.bytes (c.args.addr / 4096)) c.self.view_is in
    let whole = c.self.invariant.host.whole (c.args.addr / 4096) c.in-Some.bytes.now (sym c.in-Some.ensures) in
    let taken : c.args.addr % 4096 + c.from.result - c.args.addr % 4096 ≡ c.args.width = omega arith in
    c.number.ensures
    ∙ number_present host c.args.addr c.args.width c.in-Some.bytes.now _ (sym c.requires.aligned) c.requires.mapped found
    (digits_count c.in-Some.bytes.now c.args.addr _ c.args.width whole taken c.requires.aligned)
    (λ i l. digits_read c.in-Some.bytes.now (c.args.addr % 4096) _ c.args.width i taken l)

pub returns-in-None : goal.returns-in-None
returns-in-None c = number_missing c.args.self.now.host c.args.addr c.args.width (sym c.requires.aligned) c.requires.mapped (c.in-None.ensures ∙ ap (λ s. get s.host.bytes (c.args.addr / 4096)) c.self.view_is)
