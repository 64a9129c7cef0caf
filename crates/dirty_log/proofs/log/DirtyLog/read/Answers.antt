use Rattle.std.proofs.Common.{◌≡◌, ℕ, ◌∙◌, Option, ap, sym, unwrap_or}
use Rattle.std.specs.Option.{option_map}
use Rattle.mig_base.specs.declared.message.Message.{Message}
use Rattle.mig_model.specs.Guest.{Guest}
use Rattle.dirty_log.proofs.HandlerLemmas.{read_log, read_whole}
use Rattle.dirty_log.specs.contracts.log.DirtyLog.{the_view}
use Rattle.dirty_log.proofs.RoundLemmas.{read_come}
use Rattle.dirty_log.proofs.log.DirtyLog.read.Goals as goal

pub returns-clause-read : goal.returns-clause-read
returns-clause-read c noted next =
    let peeked : c.in-Some.message ≡ noted.message = ap (λ o. unwrap_or o noted.message) (sym c.in-Some.is ∙ c.next_message.ensures ∙ ap (option_map (λ n. n.message)) next) in
    let same : (c.in-Ok.message, c.in-Ok.cpu) ≡ (noted.message, noted.cpu) =
    ap (λ (o : Option (Message × ℕ)). unwrap_or {T = Message × ℕ} o (noted.message, noted.cpu)) (sym c.in-Ok.ensures.message ∙ ap (option_map (λ n. (n.message, n.cpu))) next) in
    let log =
    read_log c.args.self.now (the_view c.self.inside) c.remove_changed.new.pages c.remove_changed-2.new.pages c.in-Some.message c.in-Ok.message noted.message peeked (ap (λ pair. pair.0) same)
    (c.self.view_is ∙ c.in_ok-hold.ensures.ok) c.remove_changed.ensures c.remove_changed-2.ensures in
    let guest : Guest = record { space = c.args.space.now; cpus = c.args.cpus.now } in
    read_whole c.args.self.now guest noted _ c.read_message.new.self c.read-effect.new.self c.in-Ok.message c.in-Ok.cpu log c.in-Ok.ensures.ok c.read_message.ensures.space (ap (λ pair. pair.0) same) (ap (λ pair. pair.1) same) c.read-effect.ensures.cpus

pub invariant_of-self : goal.invariant_of-self
invariant_of-self c = (rw c.remove_changed-2.ensures (read_come c.self.inside.todo c.in-Ok.message c.self.inside.from c.self.invariant.0), c.self.invariant.1)
