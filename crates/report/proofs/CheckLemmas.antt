-- The first wrong entry of a list, and flat runs that continue by one entry.
use Rattle.std.proofs.Common.{◌≡◌, ℕ, zero, suc, ◌+◌, ◌<◌, List, [], ◌∷◌, Some, sym, ap, ◌∙◌, subst, arith, length, take, get_or}
use Rattle.std.specs.Prelude.{slice_get}
use Rattle.std.proofs.lemmas.List.{take_more, take_all}
use Rattle.std.proofs.lemmas.Option.{slice_get_within}
use Rattle.mig_base.specs.declared.command.Command.TheVariants.{Load}
use Rattle.mig_base.specs.declared.command.Reply.{Reply}
use Rattle.mig_base.specs.declared.command.Reply.TheVariants.{Value}
use Rattle.mig_base.specs.declared.command.Entry.{Entry}
use Rattle.mig_base.specs.Flat.{Memory, no_memory, reply_of, after, IsRunFrom, memory_from, IsFlatRun, memory_of}
use Rattle.mig_base.proofs.FlatLemmas.{memory_from-push, IsRunFrom-push}
use Rattle.report.specs.Checks.{FirstWrong}

-- The laws

-- an entry before the end of a run is answered as the memory before it answers
run_reply : (memory : Memory) (entries : List Entry) (i j : ℕ) (entry : Entry) → i < j → IsRunFrom memory (take j entries) → slice_get entries i ≡ Some entry → entry.reply ≡ reply_of (memory_from memory (take i entries)) entry.command
run_reply memory [] i j entry before run here = absurd (cc)
run_reply memory (e ∷ entries) i zero entry before run here = absurd (omega arith)
run_reply memory (e ∷ entries) zero (suc j) entry before run here =
    let same : e ≡ entry = cc in subst (λ x. x.reply ≡ reply_of memory x.command) same run.0
run_reply memory (e ∷ entries) (suc i) (suc j) entry before run here = run_reply (after memory e.command) entries i j entry (omega arith) run.1 here

not_after : (entries : List Entry) (i j : ℕ) (r : Reply) → FirstWrong entries i r → i < j → IsFlatRun (take j entries) → ⊥
not_after entries i j r wrong before run = wrong.differs (run_reply no_memory entries i j wrong.entry before run wrong.inside ∙ sym wrong.answers)

pub wrong_inside : (entries : List Entry) (i : ℕ) (r : Reply) → FirstWrong entries i r → i < length entries
wrong_inside entries i r wrong = slice_get_within entries i wrong.entry wrong.inside

pub wrong_no_run : (entries : List Entry) (i : ℕ) (r : Reply) → FirstWrong entries i r → IsFlatRun entries → ⊥
wrong_no_run entries i r wrong run = not_after entries i (length entries) r wrong (wrong_inside entries i r wrong) (subst IsFlatRun (sym (take_all (length entries) entries (omega arith))) run)

same_reply : (entries : List Entry) (i : ℕ) (r s : Reply) → FirstWrong entries i r → FirstWrong entries i s → r ≡ s
same_reply entries i r s a b =
    let same : a.entry ≡ b.entry = cc (a.inside, b.inside) in
    a.answers ∙ ap (λ entry. reply_of (memory_of (take i entries)) entry.command) same ∙ sym b.answers

same_index : (i j : ℕ) → (i < j → ⊥) → (j < i → ⊥) → i ≡ j
same_index i j l u = omega arith

pub one_wrong : (entries : List Entry) (i j : ℕ) (r s : Reply) → FirstWrong entries i r → FirstWrong entries j s → (i ≡ j) × (r ≡ s)
one_wrong entries i j r s a b =
    let same = same_index i j (λ l. not_after entries i j r a l b.before) (λ l. not_after entries j i s b l a.before) in
    (same, same_reply entries i r s a (subst (λ k. FirstWrong entries k s) (sym same) b))

-- The loop

-- the entry that a read past the end shows
abbrev pub no_entry : Entry
no_entry = record { cpu = 0; command = Load 0 0; reply = Value 0 }

pub run_more : (entries : List Entry) (i : ℕ) (entry : Entry) → i < length entries → IsFlatRun (take i entries) → (get_or entries i entry).reply ≡ reply_of (memory_of (take i entries)) (get_or entries i entry).command → IsFlatRun (take (i + 1) entries)
run_more entries i entry below run same =
    subst IsFlatRun (sym (take_more entries i entry below)) (IsRunFrom-push no_memory (take i entries) (get_or entries i entry) run same)

pub memory_more : (entries : List Entry) (i : ℕ) (entry : Entry) → i < length entries → memory_of (take (i + 1) entries) ≡ after (memory_of (take i entries)) (get_or entries i entry).command
memory_more entries i entry below =
    ap memory_of (take_more entries i entry below) ∙ memory_from-push no_memory (take i entries) (get_or entries i entry)
