-- The bytes of a number that is changed byte by byte.
use Rattle.std.proofs.Common.{◌≡◌, ℕ, zero, suc, ◌+◌, ◌*◌, ◌/◌, ◌%◌, ◌^◌, ◌<◌, ◌≤◌, Option, Some, None, List, ◌∷◌, map, take, refl, sym, ap, ◌∙◌, arith}
use Rattle.std.specs.Option.{option_map}
use Rattle.std.specs.Int.{byte_at, bytes_low_first}
use Rattle.std.proofs.lemmas.List.{take-map}
use Rattle.std.proofs.Math.Nat.{pow-succ', div-div-eq-div-mul}
use Rattle.mig_base.specs.Flat.{Cell, Memory, byte_of, number_at}
use Rattle.mig_base.specs.Bytes.{low_bytes}
use Rattle.mig_laws.specs.Contents.{IsByteMap, digits_under, memory_under, number_under}

pub digits_zero : (f : ℕ → ℕ) (k : ℕ) → f 0 ≡ 0 → digits_under f k 0 ≡ 0
unfolding digits_under
digits_zero f zero h = refl
digits_zero f (suc k) h = let rest = digits_zero f k h in omega (arith, h, rest)

-- A load

pub byte_of-under : (f : ℕ → ℕ) (o : Option Cell) → f 0 ≡ 0 → byte_of (option_map (λ (cell : Cell). record cell { byte = f cell.byte }) o) ≡ f (byte_of o)
byte_of-under f None h = sym h
byte_of-under f (Some cell) h = refl

one_digit : (f : ℕ → ℕ) (k byte rest : ℕ) → byte < 256 → f byte + 256 * digits_under f k rest ≡ digits_under f (suc k) (byte + 256 * rest)
unfolding digits_under
one_digit f k byte rest l =
    let low : (byte + 256 * rest) % 256 ≡ byte = omega arith in
    let high : (byte + 256 * rest) / 256 ≡ rest = omega arith in
    ap (λ x. f x + 256 * digits_under f k rest) (sym low) ∙ ap (λ y. f ((byte + 256 * rest) % 256) + 256 * digits_under f k y) (sym high)

-- the number that a load reads
pub number_at-under : (f : ℕ → ℕ) → IsByteMap f → (memory : Memory) → ((addr : ℕ) → byte_of (memory addr) < 256) → (addr width k : ℕ) → width ≤ k → number_at (memory_under f memory) addr width ≡ digits_under f k (number_at memory addr width)
number_at-under f is memory bytes addr zero k l = sym (digits_zero f k is.keeps_zero)
number_at-under f is memory bytes addr (suc width) zero l = absurd (omega (arith, l))
number_at-under f is memory bytes addr (suc width) (suc k) l =
    ap (λ x. x + 256 * number_at (memory_under f memory) (addr + 1) width) (byte_of-under f (memory addr) is.keeps_zero)
    ∙ ap (λ y. f (byte_of (memory addr)) + 256 * y) (number_at-under f is memory bytes (addr + 1) width k (omega (arith, l)))
    ∙ one_digit f k (byte_of (memory addr)) (number_at memory (addr + 1) width) (bytes addr)

-- A store

next_byte : (i n : ℕ) → byte_at (suc i) n ≡ byte_at i (n / 256)
next_byte zero n = refl
next_byte (suc i) n = ap (λ p. n / p % 256) (pow-succ' 256 (suc i)) ∙ ap (λ q. q % 256) (sym (div-div-eq-div-mul n 256 (256 ^ suc i)))

byte_at-under : (f : ℕ → ℕ) → IsByteMap f → (i k n : ℕ) → i < k → byte_at i (digits_under f k n) ≡ f (byte_at i n)
unfolding digits_under
byte_at-under f is i zero n l = absurd (omega (arith, l))
byte_at-under f is zero (suc k) n l = let byte = is.byte (n % 256) (omega arith) in omega (arith, byte)
byte_at-under f is (suc i) (suc k) n l =
    let byte = is.byte (n % 256) (omega arith) in
    let high : (f (n % 256) + 256 * digits_under f k (n / 256)) / 256 ≡ digits_under f k (n / 256) = omega (arith, byte) in
    next_byte i (f (n % 256) + 256 * digits_under f k (n / 256))
    ∙ ap (byte_at i) high
    ∙ byte_at-under f is i k (n / 256) (omega (arith, l))
    ∙ ap f (sym (next_byte i n))

low_first-under : (f : ℕ → ℕ) → IsByteMap f → (i k n : ℕ) → i + k ≤ 8 → bytes_low_first i k (number_under f n) ≡ map f (bytes_low_first i k n)
low_first-under f is i zero n l = refl
low_first-under f is i (suc k) n l =
    ap (λ x. x ∷ bytes_low_first (suc i) k (number_under f n)) (byte_at-under f is i 8 n (omega (arith, l)))
    ∙ ap (λ (xs : List ℕ). f (byte_at i n) ∷ xs) (low_first-under f is (suc i) k n (omega (arith, l)))

-- the bytes that a store writes
pub low_bytes-under : (f : ℕ → ℕ) → IsByteMap f → (value width : ℕ) → low_bytes (number_under f value) width ≡ map f (low_bytes value width)
low_bytes-under f is value width = ap (take width) (low_first-under f is 0 8 value (omega arith)) ∙ take-map f width (bytes_low_first 0 8 value)

power_some : (w : ℕ) → 0 < 256 ^ w
power_some zero = omega arith
power_some (suc w) = let less = power_some w in let more = pow-succ' 256 w in omega (arith, less, more)

-- its value fits as before
pub fits-under : (f : ℕ → ℕ) → IsByteMap f → (w k n : ℕ) → n < 256 ^ w → digits_under f k n < 256 ^ w
unfolding digits_under
fits-under f is w zero n l = power_some w
fits-under f is zero (suc k) n l =
    let none : n ≡ 0 = omega (arith, l) in
    let is_zero = digits_zero f (suc k) is.keeps_zero in
    let same : digits_under f (suc k) n ≡ 0 = ap (digits_under f (suc k)) none ∙ is_zero in
    omega (arith, same)
fits-under f is (suc w) (suc k) n l =
    let more = pow-succ' 256 w in
    let byte = is.byte (n % 256) (omega arith) in
    let high : n / 256 < 256 ^ w = omega (arith, l, more) in
    let rest = fits-under f is w k (n / 256) high in
    omega (arith, byte, rest, more)
