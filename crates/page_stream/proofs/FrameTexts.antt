-- What stands of a frame's text once its parts are written.
use Rattle.std.proofs.Common.{◌≡◌, ℕ, ◌+◌, ◌*◌, ◌≤◌, List, ◌++◌, length, refl, ap, ◌∙◌, arith, vec_len, vec_capacity}
use Rattle.std.specs.Global.{Vec}
use Rattle.std.specs.Int.{w32, to_be_bytes}
use Rattle.std.proofs.lemmas.List.{length-append}
use Rattle.mig_model.specs.Bounds.{IsFrame}
use Rattle.mig_model.specs.Lengths.{body_len}
use Rattle.mig_model.specs.Wire.{Frame}
use Rattle.page_stream.specs.Texts.{HasWholePages, body_text, header_text, tag_code, text}
use Rattle.page_stream.specs.Texts.Version.{Two}
use Rattle.page_stream.proofs.Encodable.{encodable}
use Rattle.page_stream.proofs.TextLemmas.{length-text}
use Rattle.page_stream.specs.Writing.{Puts}
use Rattle.page_stream.proofs.Puts.{puts_then}

-- Three texts, one after the other

pub room_of_first : (old : Vec ℕ) (x y z : List ℕ) → vec_len old + length (x ++ y ++ z) ≤ vec_capacity old → vec_len old + length x ≤ vec_capacity old
room_of_first old x y z room = omega (arith, length-append (x ++ y) z, length-append x y)

pub room_of_second : (old now : Vec ℕ) (x y z : List ℕ) → vec_len old + length (x ++ y ++ z) ≤ vec_capacity old → Puts old now x → vec_len now + length y ≤ vec_capacity now
room_of_second old now x y z room p = omega (arith, p.len, p.capacity, length-append (x ++ y) z, length-append x y)

pub room_of_third : (old mid now : Vec ℕ) (x y z : List ℕ) → vec_len old + length (x ++ y ++ z) ≤ vec_capacity old → Puts old mid x → Puts mid now y → vec_len now + length z ≤ vec_capacity now
room_of_third old mid now x y z room p q = omega (arith, p.len, p.capacity, q.len, q.capacity, length-append (x ++ y) z, length-append x y)

-- Header and body

length-whole_body : (frame : Frame) → HasWholePages frame → length (body_text frame) ≡ body_len frame
unfolding text
length-whole_body frame whole =
    let all = length-text Two 0 frame refl whole in
    omega (arith, all, length-append (header_text Two (tag_code frame) 0 (length (body_text frame))) (body_text frame))

pub length-body_text : (frame : Frame) → IsFrame frame → length (body_text frame) ≡ body_len frame
length-body_text frame is = length-whole_body frame (encodable 0 frame (omega arith) is).whole

pub encoded : (old room a new : Vec ℕ) (tag epoch len : ℕ) (frame : Frame) → room.items ≡ old.items → tag ≡ tag_code frame → len ≡ length (body_text frame) → Puts room a (header_text Two tag epoch len) → Puts a new (body_text frame)
    → new.items ≡ old.items ++ text Two epoch frame
unfolding text
encoded old room a new tag epoch len frame same is_tag is_len p q =
    let made : ℕ → ℕ → List ℕ = λ k n. header_text Two k epoch n ++ body_text frame in
    let whole = puts_then room a new (header_text Two tag epoch len) (body_text frame) p q in
    whole.items ∙ ap (λ (x : List ℕ). x ++ made tag len) same ∙ ap (λ (k : ℕ). old.items ++ made k len) is_tag ∙ ap (λ (n : ℕ). old.items ++ made (tag_code frame) n) is_len

-- Pages and their bytes

pub page_long : (page : ℕ) (bytes : List ℕ) → length bytes ≡ 4096 → length (to_be_bytes w32 page ++ bytes) ≡ 4100
page_long page bytes whole = omega (arith, whole, length-append (to_be_bytes w32 page) bytes)

pub run_long : (first count : ℕ) (pages : List (List ℕ)) → length pages ≡ count → HasWholePages (Frame.Run first pages) → length (body_text (Frame.Run first pages)) ≡ 8 + 4096 * count
run_long first count pages many whole = length-whole_body (Frame.Run first pages) whole ∙ ap (λ n. 8 + 4096 * n) many
