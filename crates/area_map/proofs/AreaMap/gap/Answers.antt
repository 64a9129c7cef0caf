use Rattle.std.proofs.Common.{sym, arith, ap, ◌∙◌}
use Rattle.mig_base.proofs.FreePlaceLemmas.{free_place-zero}
use Rattle.mig_base.specs.FreePlaces.{free_place}
use Rattle.std.specs.FinMap.{contains_key}
use Rattle.std.proofs.Common.{◌/◌}
use Rattle.area_map.proofs.GapLemmas.{gap_answer, no_gap_answer}
use Rattle.area_map.proofs.AreaMap.gap.Goals as goal

pub returns-then-len-eq0 : goal.returns-then-len-eq0
returns-then-len-eq0 c = sym (ap (λ n. free_place (λ addr. contains_key c.args.self.now (addr / 4096)) n) c.if-len-eq0.true ∙ free_place-zero (λ addr. contains_key c.args.self.now (addr / 4096)))

pub returns-in-Some : goal.returns-in-Some
returns-in-Some c = gap_answer c.self.inside.areas.items _ c.args.self.now c.args.len c.div_ceil.result c.in-Some.page (omega arith) (omega (arith, c.div_ceil.ensures)) c.in-Some.ensures.found c.deref.ensures.value c.self.view_is

pub returns-in-None : goal.returns-in-None
returns-in-None c = no_gap_answer c.self.inside.areas.items _ c.args.self.now c.args.len c.div_ceil.result (omega (arith, c.div_ceil.ensures)) c.in-None.ensures.none c.deref.ensures.value c.self.view_is
