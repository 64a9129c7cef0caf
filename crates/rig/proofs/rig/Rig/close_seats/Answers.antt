use Rattle.std.proofs.Common.{◌<◌, ◌≤◌, ℕ, length, arith, refl, subst}
use Rattle.std.specs.List.{All}
use Rattle.mig_base.specs.declared.TheConstants.{MAX_CPUS}
use Rattle.mig_base.specs.declared.command.Entry.{Entry}
use Rattle.rig.specs.Seats.{Handed, IsRight}
use Rattle.rig.proofs.SeatLemmas.{counted, few_entries, few_number, same_right}
use Rattle.rig.proofs.rig.Rig.close_seats.Goals as goal

pub returns-in-None-clause-right : goal.returns-in-None-clause-right
returns-in-None-clause-right c k less =
    same_right c.deref.ensures.value c.deref-2.ensures.value c.self.view_is refl c.transcript.ensures.entries c.cpus.ensures.count (c.in-None.ensures.none k less)

pub returns-in-None-clause-answered : goal.returns-in-None-clause-answered
returns-in-None-clause-answered c =
    let world = c.into_inner-world.result in
    let cpus = length world.source.guest.cpus in
    let right : (k : ℕ) → k < MAX_CPUS → IsRight c.args.self c.args.seats.now world.transcript cpus k = returns-in-None-clause-right c in
    let number : (k : ℕ) → k < cpus → k < MAX_CPUS = λ k less. few_number k _ _ c.cpus.ensures.count c.cpus.ensures.range less in
    let most : cpus ≤ MAX_CPUS = omega (arith, c.cpus.ensures.count, c.cpus.ensures.range) in
    let known : All (λ (e : Entry). e.cpu < length c.args.self.handed) c.args.self.opening × (length c.args.self.handed ≤ MAX_CPUS) = subst (λ (r : Handed). All (λ (e : Entry). e.cpu < length r.handed) r.opening × (length r.handed ≤ MAX_CPUS)) c.self.view_is c.self.invariant in
    let few : length c.args.self.handed ≤ MAX_CPUS = omega (arith, known.1) in
    let within : All (λ (e : Entry). e.cpu < cpus) world.transcript = subst (All (λ (e : Entry). e.cpu < cpus)) c.transcript.ensures.entries c.transcript.ensures.within in
    record {
      answers = λ k less. (right k (number k less)).answers;
      once = λ k less. (right k (number k less)).once;
      count = counted c.args.self c.args.seats.now world.transcript cpus MAX_CPUS right
          (few_entries cpus MAX_CPUS world.transcript most within)
          (few_entries (length c.args.self.handed) MAX_CPUS c.args.self.opening few known.0)
          c.in-None.ensures.numbers;
    }
