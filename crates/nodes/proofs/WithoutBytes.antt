-- Frames as they are entered at a node without bytes.
use Rattle.std.proofs.Common.{◌≡◌, ℕ, Bool, true, if◌then◌else◌, List, [], ◌∷◌, length, map, replicate, refl, sym, ap}
use Rattle.std.proofs.lemmas.Simd.{splat_is_map}
use Rattle.mig_base.specs.Bytes.{zero_page}
use Rattle.foundation.specs.declared.TheConstants.{PAGE_SIZE}
use Rattle.mig_model.specs.Bounds.{ArePageBytes}
use Rattle.mig_model.specs.Wire.{Frame, is_zeros}
use Rattle.mig_model.specs.Wire.Frame.{Page, Zero}
use Rattle.mig_laws.specs.Drivers.{no_byte}
use Rattle.mig_laws.specs.Worlds.{frame_under}

no-bytes : (bytes : List ℕ) → is_zeros (map no_byte bytes) ≡ true
no-bytes [] = refl
no-bytes (byte ∷ bytes) = no-bytes bytes

pub page-without : (page : ℕ) (bytes : List ℕ) → frame_under no_byte (Page page bytes) ≡ Zero page
page-without page bytes = ap (λ (b : Bool). if b then Zero page else Page page (map no_byte bytes)) (no-bytes bytes)

zeros : (bytes : List ℕ) → length bytes ≡ PAGE_SIZE → map no_byte bytes ≡ zero_page
unfolding zero_page
zeros bytes whole = sym (splat_is_map bytes PAGE_SIZE 0 whole)

pub pages-without : (pages : List (List ℕ)) → ArePageBytes pages → map (map no_byte) pages ≡ replicate (length pages) zero_page
pages-without [] whole = refl
pages-without (bytes ∷ pages) whole = λ i. zeros bytes whole.0.0 i ∷ pages-without pages whole.1 i
