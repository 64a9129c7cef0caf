-- The numbers in the head of a Page or a Run.
use Rattle.std.proofs.Common.{◌≡◌, ℕ, zero, suc, ◌+◌, ◌*◌, ◌<◌, ◌^◌, List, [], ◌∷◌, ◌++◌, length, get_or, refl, sym, ap, ◌∙◌, arith}
use Rattle.std.specs.Prelude.{◌≢◌, Bool, false, nat_eq, not, replicate, true}
use Rattle.std.specs.Cmp.Lexicographic.{other_text, pointwise}
use Rattle.std.specs.List.{flat_map, AllByRecursion}
use Rattle.std.specs.Int.{w32, from_be_bytes, to_be_bytes}
use Rattle.std.proofs.lemmas.List.{append_cancel_right}
use Rattle.std.proofs.lemmas.Nat.{from_be_bytes-to_be_bytes_4}
use Rattle.mig_base.proofs.ByteLemmas.{length-zero_page}
use Rattle.mig_base.specs.Bytes.{zero_page}
use Rattle.foundation.specs.declared.TheConstants.{PAGE_SIZE}
use Rattle.page_stream.specs.Texts.{header_text, text}
use Rattle.page_stream.specs.Texts.Version.{Two}
use Rattle.page_stream.proofs.FrameTexts.{page_long, run_long}
use Rattle.nodes.specs.Heads.{IsHeadOfPage, IsHeadOfRun, IsPageHead, IsRunHead}

-- the number of 32 bits whose four bytes stand from a place on
abbrev pub number_in : List ℕ → ℕ → ℕ
number_in bytes at = from_be_bytes w32 (get_or bytes at 0 ∷ get_or bytes (at + 1) 0 ∷ get_or bytes (at + 2) 0 ∷ get_or bytes (at + 3) 0 ∷ [])

-- A Page

-- the 16 bytes in front of those of a page
abbrev pub page_head_bytes : ℕ → ℕ → List ℕ
page_head_bytes epoch page = header_text Two 2 epoch 4100 ++ to_be_bytes w32 page

pub page_bytes : (bytes : List ℕ) (epoch page : ℕ) → IsPageHead bytes epoch page → bytes ≡ page_head_bytes epoch page
unfolding text
page_bytes bytes epoch page head =
    append_cancel_right bytes (page_head_bytes epoch page) zero_page
    (head zero_page length-zero_page ∙ ap (λ (n : ℕ). header_text Two 2 epoch n ++ to_be_bytes w32 page ++ zero_page) (page_long page zero_page length-zero_page))

pub page_length : (bytes : List ℕ) (epoch page : ℕ) → IsPageHead bytes epoch page → length bytes ≡ 16
page_length bytes epoch page head = ap length (page_bytes bytes epoch page head)

pub page_epoch : (bytes : List ℕ) (epoch page : ℕ) → IsPageHead bytes epoch page → epoch < 2 ^ 32 → number_in bytes 4 ≡ epoch
page_epoch bytes epoch page head fits = ap (λ (b : List ℕ). number_in b 4) (page_bytes bytes epoch page head) ∙ from_be_bytes-to_be_bytes_4 epoch fits

pub page_number : (bytes : List ℕ) (epoch page : ℕ) → IsPageHead bytes epoch page → page < 2 ^ 32 → number_in bytes 12 ≡ page
page_number bytes epoch page head fits = ap (λ (b : List ℕ). number_in b 12) (page_bytes bytes epoch page head) ∙ from_be_bytes-to_be_bytes_4 page fits

-- A Run

-- pages of zeros
abbrev pub zero_pages : ℕ → List (List ℕ)
zero_pages count = replicate count zero_page

pub zeros_whole : (count : ℕ) → AllByRecursion (λ (page : List ℕ). length page ≡ PAGE_SIZE) (zero_pages count)
zeros_whole zero = tt
zeros_whole (suc count) = (length-zero_page, zeros_whole count)

pub zeros_many : (count : ℕ) → length (zero_pages count) ≡ count
zeros_many zero = refl
zeros_many (suc count) = ap suc (zeros_many count)

-- the 20 bytes in front of those of a run
abbrev pub run_head_bytes : ℕ → ℕ → ℕ → List ℕ
run_head_bytes epoch first count = header_text Two 8 epoch (8 + 4096 * count) ++ to_be_bytes w32 first ++ to_be_bytes w32 count

pub run_bytes : (bytes : List ℕ) (epoch first count : ℕ) → IsRunHead bytes epoch first count → bytes ≡ run_head_bytes epoch first count
unfolding text
run_bytes bytes epoch first count head =
    let pages = zero_pages count in
    let many = zeros_many count in
    let content = flat_map (λ (page : List ℕ). page) pages in
    let shown : ℕ → ℕ → List ℕ = λ len n. header_text Two 8 epoch len ++ to_be_bytes w32 first ++ to_be_bytes w32 n ++ content in
    append_cancel_right bytes (run_head_bytes epoch first count) content
    (head pages many (zeros_whole count) ∙ ap (λ (len : ℕ). shown len (length pages)) (run_long first count pages many (zeros_whole count)) ∙ ap (shown (8 + 4096 * count)) many)

pub run_length : (bytes : List ℕ) (epoch first count : ℕ) → IsRunHead bytes epoch first count → length bytes ≡ 20
run_length bytes epoch first count head = ap length (run_bytes bytes epoch first count head)

pub run_epoch : (bytes : List ℕ) (epoch first count : ℕ) → IsRunHead bytes epoch first count → epoch < 2 ^ 32 → number_in bytes 4 ≡ epoch
run_epoch bytes epoch first count head fits = ap (λ (b : List ℕ). number_in b 4) (run_bytes bytes epoch first count head) ∙ from_be_bytes-to_be_bytes_4 epoch fits

pub run_first : (bytes : List ℕ) (epoch first count : ℕ) → IsRunHead bytes epoch first count → first < 2 ^ 32 → number_in bytes 12 ≡ first
run_first bytes epoch first count head fits = ap (λ (b : List ℕ). number_in b 12) (run_bytes bytes epoch first count head) ∙ from_be_bytes-to_be_bytes_4 first fits

pub run_count : (bytes : List ℕ) (epoch first count : ℕ) → IsRunHead bytes epoch first count → count < 2 ^ 32 → number_in bytes 16 ≡ count
run_count bytes epoch first count head fits = ap (λ (b : List ℕ). number_in b 16) (run_bytes bytes epoch first count head) ∙ from_be_bytes-to_be_bytes_4 count fits

-- What is read is what was written

pub page_again : (bytes head : List ℕ) (epoch page e p : ℕ) → IsHeadOfPage bytes epoch page → e ≡ number_in bytes 4 → p ≡ number_in bytes 12 → IsPageHead head e p → bytes ≡ head
page_again bytes head epoch page e p is same_epoch same_page read =
    let a : e ≡ epoch = same_epoch ∙ page_epoch bytes epoch page is.head is.epoch_fits in
    let b : p ≡ page = same_page ∙ page_number bytes epoch page is.head (omega (arith, is.in_space)) in
    page_bytes bytes epoch page is.head ∙ sym (page_bytes head e p read ∙ (λ i. page_head_bytes (a i) (b i)))

pub run_again : (bytes head : List ℕ) (epoch first count e f n : ℕ) → IsHeadOfRun bytes epoch first count → e ≡ number_in bytes 4 → f ≡ number_in bytes 12 → n ≡ number_in bytes 16 → IsRunHead head e f n → bytes ≡ head
run_again bytes head epoch first count e f n is same_epoch same_first same_count read =
    let a : e ≡ epoch = same_epoch ∙ run_epoch bytes epoch first count is.head is.epoch_fits in
    let b : f ≡ first = same_first ∙ run_first bytes epoch first count is.head (omega (arith, is.in_space)) in
    let d : n ≡ count = same_count ∙ run_count bytes epoch first count is.head (omega (arith, is.few)) in
    run_bytes bytes epoch first count is.head ∙ sym (run_bytes head e f n read ∙ (λ i. run_head_bytes (a i) (b i) (d i)))

-- bytes that a test finds other than these are other bytes
pub other_bytes : (bytes head : List ℕ) → not (pointwise nat_eq bytes head) ≡ true → bytes ≢ head
other_bytes bytes head differ = other_text bytes head (by (pointwise nat_eq bytes head) differ)
  where
    by : (same : Bool) → not same ≡ true → false ≡ same
    by true is = absurd cc
    by false is = refl
