-- Where a contradiction is as it says, no order explains the history.
use Rattle.std.proofs.Common.{◌≡◌, ℕ, ◌<◌, Bool, Some, None, List, [], ◌∷◌, sym, ◌∙◌, subst, inl, inr, length, get_or}
use Rattle.std.specs.Bool.{OnTrue}
use Rattle.std.specs.List.{Contains}
use Rattle.std.proofs.lemmas.Bool.{OnTrue_at, OnTrue_from}
use Rattle.std.proofs.lemmas.List.{get_or_default}
use Rattle.history.specs.declared.contradiction.Contradiction.{Contradiction}
use Rattle.history.specs.declared.contradiction.Contradiction.TheVariants.{NoSource, Fork, Cycle, Backward, OneTick, Overlap}
use Rattle.history.specs.declared.cycle.Value.{Value}
use Rattle.history.specs.declared.operation.Clock.{Clock}
use Rattle.history.specs.declared.operation.Operation.{Operation}
use Rattle.history.specs.Histories.{Explains, IsKept}
use Rattle.history.specs.Contradictions.{IsAt, IsLocation, WasBefore, IsRound, IsCycle, Contradicts}
use Rattle.history.proofs.Sources.{no_source, never_backward, never_overlap, never_shared}
use Rattle.history.proofs.Readers.{ComesFirst, read_first, left_first, then_first, never_first, fork}

pub at_index : (history : List Operation) (index : ℕ) (d : Operation) → index < length history → IsAt history index (get_or history index d)
at_index history index d inside = (inside, get_or_default history index (get_or history index d) d inside)

one_at : (history : List Operation) (index : ℕ) (x y : Operation) → IsAt history index x → IsAt history index y → x ≡ y
one_at history index x y one other = sym one.1 ∙ get_or_default history index x y one.0 ∙ other.1

there : (history : List Operation) (index : ℕ) (x : Operation) → IsAt history index x → Contains history x
there history index x at = (index, at.0, at.1)

-- what a contradiction says where it needs no clock
pub with_clock : (clock : Clock) (history : List Operation) (it like : Contradiction) (told : Bool) → it ≡ like → OnTrue told ((any : Clock) → Contradicts any history like) → OnTrue told (Contradicts clock history it)
with_clock clock history it like told is says = subst (λ (x : Contradiction). OnTrue told (Contradicts clock history x)) (sym is) (OnTrue_from told (Contradicts clock history like) (λ e. OnTrue_at e says clock))

-- the source of a value comes before that of another
abbrev Leads : List Operation → Value → Value → Type 0
Leads history value next = (source after : Operation) × IsAt history value.source source × IsAt history next.source after × ComesFirst history source after

leads : (history : List Operation) (place size : ℕ) (value next : Value) → IsLocation history place size → WasBefore history place value next → Leads history value next
leads history place size value next location it = elim (it.8) [
  | inl reads ↦ (it.0, it.2, it.4, it.6, read_first history place size it.0 it.2 location reads)
  | inr left ↦ (it.0, it.2, it.4, it.6, left_first history place size it.0 it.1 it.2 it.3 location (there history value.early it.1 it.5) (there history next.late it.3 it.7) left)
]

round_leads : (history : List Operation) (place size : ℕ) (first last : Value) (values : List Value) → IsLocation history place size → IsRound history place first last values → Leads history last first
round_leads history place size first last [] location round = leads history place size last first location round
round_leads history place size first last (next ∷ values) location round =
    let one = leads history place size last next location round.0 in
    let rest = round_leads history place size first next values location round.1 in
    let on : ComesFirst history one.1 rest.1 = subst (λ (x : Operation). ComesFirst history x rest.1) (one_at history next.source rest.0 one.1 rest.2 one.3) rest.4 in
    (one.0, rest.1, one.2, rest.3, then_first history one.0 one.1 rest.1 (there history next.source one.1 one.3) one.4 on)

no_cycle : (history order : List Operation) (place size : ℕ) (values : List Value) → IsLocation history place size → IsCycle history place values → Explains history order → ⊥
no_cycle history order place size [] location round explains = round
no_cycle history order place size (first ∷ values) location round explains =
    let it = round_leads history place size first first values location round in
    never_first history order it.0 (there history first.source it.0 it.2) (subst (λ (x : Operation). ComesFirst history it.0 x) (one_at history first.source it.1 it.0 it.3 it.2) it.4) explains

pub refuted : (clock : Clock) (history : List Operation) (contradiction : Contradiction) → Contradicts clock history contradiction → IsKept clock history → ⊥
refuted clock history (NoSource reader None) it kept = no_source history kept.order it.2 it.3 it.4 it.0 None it.5 kept.explains
refuted clock history (NoSource reader (Some between)) it kept = no_source history kept.order it.4 it.5 it.6 it.0 (Some it.1) it.7 kept.explains
refuted clock history (Fork source first second) it kept = fork history kept.order it.6 it.7 it.0 it.1 it.2 it.8 kept.explains
refuted clock history (Cycle place size values) it kept = no_cycle history kept.order place size values.items it.0 it.1 kept.explains
refuted clock history (Backward at) it kept = never_backward clock history kept.order it.0 (there history at it.0 it.1) it.2 kept.ticked kept.explains
refuted clock history (OneTick first second) it kept = never_shared clock history first second it.1 it.2 it.0 it.3 it.4 it.5 kept.ticked
refuted clock history (Overlap first second) it kept = never_overlap history kept.order it.0 it.1 (there history first it.0 it.2) (there history second it.1 it.3) it.4 kept.explains
