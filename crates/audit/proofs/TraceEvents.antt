-- Events that are added one after another.
use Rattle.std.proofs.Common.{◌≡◌, ℕ, ◌+◌, Bool, List, [], ◌∷◌, ◌++◌, refl, sym, ap, ◌∙◌, append-nil}
use Rattle.std.proofs.lemmas.List.{flat_map_more, length-append}
use Rattle.audit.specs.declared.audit.Asked.{Asked}
use Rattle.audit.specs.declared.audit.Verdict.{Verdict}
use Rattle.audit.specs.declared.audit.Verdict.TheVariants as verdict
use Rattle.audit.specs.TraceEvents.{AddsEvents, AreEvents, IsTraced, event_line}
use Rattle.audit.specs.Verdicts.{HasVerdict}

pub one_added : (count : ℕ) (before old new fields : List ℕ) → AddsEvents count before old → new ≡ old ++ event_line fields → AddsEvents (count + 1) before new
one_added count before old new fields so_far added =
    let (events, many, is) = so_far in (
      events ++ fields ∷ [],
      length-append events (fields ∷ []) ∙ ap (λ n. n + 1) many,
      added ∙ ap (λ (t : List ℕ). t ++ event_line fields) is ∙ flat_map_more event_line before events fields,
    )

-- the events of a log that was judged
pub traced : (asked : Asked) (v : Verdict) (fails : Bool) (before after text : List ℕ) → HasVerdict v fails → AreEvents asked text → after ≡ before ++ text → IsTraced asked v before after
traced asked verdict.Certified fails before after text fits are is = (text, are, is)
traced asked verdict.Clean fails before after text fits are is = (text, are, is)
traced asked verdict.Found fails before after text fits are is = (text, are, is)
traced asked verdict.Unexplained fails before after text fits are is = (text, are, is)
traced asked verdict.Doubtful fails before after text fits are is = (text, are, is)
traced asked verdict.Undecided fails before after text fits are is = (text, are, is)
traced asked verdict.Nothing fails before after text fits are is = (text, are, is)
traced asked verdict.Wrong fails before after text fits are is = absurd fits
