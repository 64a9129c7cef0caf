-- The comment that says how a script is made is a line with nothing to do.
use Rattle.std.proofs.Common.{◌≡◌, ℕ, ◌+◌, ◌^◌, ◌<◌, ◌≤◌, Bool, true, false, List, ◌++◌, length, refl, length-append, arith}
use Rattle.std.specs.Prelude.{codes}
use Rattle.std.specs.Fmt.{decimal}
use Rattle.grammar.specs.declared.line.Language.TheVariants.{Script}
use Rattle.grammar.specs.declared.line.Line.TheVariants.{Skipped}
use Rattle.grammar.specs.Lines.{IsLine}
use Rattle.grammar.proofs.Written.{IsPrinted, is_printed, printed_from, printed-append, decimal_printed, comment_line}
use Rattle.explore.specs.declared.plan.Plan.{Plan}
use Rattle.explore.specs.declared.plan.Profile.{Profile}
use Rattle.explore.specs.declared.plan.Profile.TheVariants as profile
use Rattle.explore.specs.Plans.{profile_name, flag_text, numbers_text, guest_text, flags_text, plan_text, comment_text}

-- a text of printed bytes, of which there are this many at most
record IsPart (most : ℕ) (text : List ℕ) : Type 0 where
  printed : IsPrinted text
  few : length text ≤ most

joined : (m n : ℕ) (xs ys : List ℕ) → IsPart m xs → IsPart n ys → IsPart (m + n) (xs ++ ys)
joined m n xs ys p q = record { printed = printed-append xs ys p.printed q.printed; few = omega (arith, length-append xs ys, p.few, q.few) }

number : (n : ℕ) → n < 2 ^ 64 → IsPart 20 (decimal n)
number n lt = let d = decimal_printed n lt in record { printed = d.0; few = d.1 }

words : (text : List ℕ) (most : ℕ) → is_printed text ≡ true → length text ≤ most → IsPart most text
words text most is few = record { printed = printed_from text is; few = few }

name : (p : Profile) → IsPart 8 (profile_name p)
name profile.Commands = words (codes "commands") 8 refl (omega arith)
name profile.Precopy = words (codes "precopy") 8 refl (omega arith)
name profile.Postcopy = words (codes "postcopy") 8 refl (omega arith)
name profile.Moves = words (codes "moves") 8 refl (omega arith)
name profile.Breaks = words (codes "breaks") 8 refl (omega arith)
name profile.Urgent = words (codes "urgent") 8 refl (omega arith)
name profile.Bytes = words (codes "bytes") 8 refl (omega arith)
name profile.Runs = words (codes "runs") 8 refl (omega arith)
name profile.All = words (codes "all") 8 refl (omega arith)

flag : (is : Bool) (word : List ℕ) (most : ℕ) → IsPart most word → IsPart most (flag_text is word)
flag false word most p = record { printed = tt; few = omega arith }
flag true word most p = p

numbers : (seed lines cpus : ℕ) → seed < 2 ^ 64 → lines < 2 ^ 32 → cpus < 256 → IsPart 90 (numbers_text seed lines cpus)
unfolding numbers_text
numbers seed lines cpus s l c =
    let first = joined 10 20 _ _ (words (codes "--seed ") 10 refl (omega arith)) (number seed s) in
    let second = joined 40 20 _ _ (joined 30 10 _ _ first (words (codes " --lines ") 10 refl (omega arith))) (number lines (omega (arith, l))) in
    joined 70 20 _ _ (joined 60 10 _ _ second (words (codes " --cpus ") 10 refl (omega arith))) (number cpus (omega (arith, c)))

guest : (p : Profile) (pages : ℕ) → pages < 2 ^ 16 → IsPart 50 (guest_text p pages)
unfolding guest_text
guest p pages lt =
    let first = joined 12 8 _ _ (words (codes "--profile ") 12 refl (omega arith)) (name p) in
    joined 30 20 _ _ (joined 20 10 _ _ first (words (codes " --pages ") 10 refl (omega arith))) (number pages (omega (arith, lt)))

flags : (finish sweep answers : Bool) → IsPart 30 (flags_text finish sweep answers)
unfolding flags_text
flags finish sweep answers =
    let first = joined 10 10 _ _ (flag finish (codes " --finish") 10 (words (codes " --finish") 10 refl (omega arith))) (flag sweep (codes " --sweep") 10 (words (codes " --sweep") 10 refl (omega arith))) in
    joined 20 10 _ _ first (flag answers (codes " --answers") 10 (words (codes " --answers") 10 refl (omega arith)))

-- the numbers of a plan are of their types
pub record PlanFits (plan : Plan) : Type 0 where
  pub seed : plan.seed < 2 ^ 64
  pub steps : plan.steps < 2 ^ 32
  pub cpus : plan.cpus < 256
  pub pages : plan.pages < 2 ^ 16

whole : (plan : Plan) → PlanFits plan → IsPart 180 (plan_text plan)
unfolding plan_text
whole plan fits =
    let first = joined 90 10 _ _ (numbers plan.seed plan.steps plan.cpus fits.seed fits.steps fits.cpus) (words (codes " ") 10 refl (omega arith)) in
    joined 150 30 _ _ (joined 100 50 _ _ first (guest plan.profile plan.pages fits.pages)) (flags plan.finish plan.sweep plan.answers)

pub comment : (plan : Plan) → PlanFits plan → IsLine Script (comment_text plan) Skipped
unfolding comment_text
comment plan fits =
    let all = joined 30 180 _ _ (words (codes "postmig 0.1.0 explore ") 30 refl (omega arith)) (whole plan fits) in
    comment_line (codes "postmig 0.1.0 explore " ++ plan_text plan) all.printed (omega (arith, all.few))
