use Rattle.std.proofs.Common.{arith, Result, Ok, Err, Option, List, ℕ, ◌≡◌, subst, sym}
use Rattle.std.specs.Prelude.{IfOk}
use Rattle.foundation.specs.declared.NoMemory.{NoMemory}
use Rattle.frame_decoder.specs.declared.stream.Next.{Next}
use Rattle.frame_decoder.specs.declared.version.Version.{Version}
use Rattle.frame_decoder.specs.Reading.{front_of, next_at}
use Rattle.frame_decoder.specs.Taking.{Stands}
use Rattle.frame_decoder.proofs.FieldLemmas.{IsBytes}
use Rattle.frame_decoder.proofs.Fronts.{next_stands}
use Rattle.frame_decoder.proofs.stream.front.Goals as goal

answer : (fixed : Option Version) (bytes : List ℕ) (r : Result Next NoMemory) → IsBytes bytes → IfOk r (λ next. front_of next ≡ next_at fixed bytes) → IfOk r (λ next. Stands fixed bytes (front_of next))
answer fixed bytes (Ok next) fits e = subst (Stands fixed bytes) (sym e) (next_stands fixed bytes fits)
answer fixed bytes (Err error) fits e = tt

pub returns : goal.returns
returns c = answer c.args.fixed c.args.bytes.now c.next_frame.result (λ i. omega (arith, c.type_inv.bytes i)) c.next_frame.ensures
