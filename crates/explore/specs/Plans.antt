-- The text of a plan, and the comment in which a script has it.
use Rattle.std.specs.Prelude.{ℕ, List, [], ◌++◌, Bool, true, false, codes}
use Rattle.std.specs.Fmt.{decimal}
use Rattle.explore.specs.declared.plan.Plan.{Plan}
use Rattle.explore.specs.declared.plan.Profile.{Profile}
use Rattle.explore.specs.declared.plan.Profile.TheVariants as profile

-- the name of a profile
abbrev pub profile_name : Profile → List ℕ
profile_name profile.Commands = codes "commands"
profile_name profile.Precopy = codes "precopy"
profile_name profile.Postcopy = codes "postcopy"
profile_name profile.Moves = codes "moves"
profile_name profile.Breaks = codes "breaks"
profile_name profile.Urgent = codes "urgent"
profile_name profile.Bytes = codes "bytes"
profile_name profile.Runs = codes "runs"
profile_name profile.All = codes "all"

-- a word that is there or not
abbrev pub flag_text : Bool → List ℕ → List ℕ
flag_text false word = []
flag_text true word = word

-- the options with the seed, the number of lines and that of processors
unfoldable pub numbers_text : ℕ → ℕ → ℕ → List ℕ
numbers_text seed lines cpus = codes "--seed " ++ decimal seed ++ codes " --lines " ++ decimal lines ++ codes " --cpus " ++ decimal cpus

-- the options with the profile and the number of pages
unfoldable pub guest_text : Profile → ℕ → List ℕ
guest_text profile pages = codes "--profile " ++ profile_name profile ++ codes " --pages " ++ decimal pages

-- the options without a value
unfoldable pub flags_text : Bool → Bool → Bool → List ℕ
flags_text finish sweep answers = flag_text finish (codes " --finish") ++ flag_text sweep (codes " --sweep") ++ flag_text answers (codes " --answers")

-- a plan: the arguments that ask for it
unfoldable pub plan_text : Plan → List ℕ
plan_text plan =
    numbers_text plan.seed plan.steps plan.cpus ++ codes " " ++ guest_text plan.profile plan.pages ++ flags_text plan.finish plan.sweep plan.answers

-- the first line of a script, without its line feed
unfoldable pub comment_text : Plan → List ℕ
comment_text plan = codes "# postmig 0.1.0 explore " ++ plan_text plan
