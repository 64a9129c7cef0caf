-- The wrong entries of a list that continues by one entry.
use Rattle.std.proofs.Common.{◌≡◌, ◌≢◌, ℕ, ◌+◌, ◌<◌, List, [], ◌∷◌, ◌++◌, length, take, get_or, refl, subst, sym, inl, inr, arith}
use Rattle.std.proofs.lemmas.List.{take_more, length-take-le}
use Rattle.mig_base.specs.declared.command.Entry.{Entry}
use Rattle.mig_base.specs.declared.command.Reply.{Reply}
use Rattle.mig_base.specs.Flat.{Memory, no_memory, reply_of, after, memory_from, memory_of}
use Rattle.report.proofs.CheckLemmas.{no_entry}
use Rattle.explain.specs.declared.wrong.WrongReply.{WrongReply}
use Rattle.explain.specs.Explaining.{AreWrong}

-- an entry that is right adds none
pub right_more : (memory : Memory) (index : ℕ) (entries : List Entry) (wrongs : List WrongReply) (entry : Entry) → AreWrong memory index entries wrongs → entry.reply ≡ reply_of (memory_from memory entries) entry.command
    → AreWrong memory index (entries ++ entry ∷ []) wrongs
right_more memory index [] wrongs entry are right = inl (right, are)
right_more memory index (e ∷ entries) wrongs entry (inl p) right = inl (p.0, right_more (after memory e.command) (index + 1) entries wrongs entry p.1 right)
right_more memory index (e ∷ entries) wrongs entry (inr p) right = inr (p.0, p.1, p.2, right_more (after memory e.command) (index + 1) entries p.0 entry p.3 right)

-- one that is wrong adds itself
pub wrong_more : (memory : Memory) (index at : ℕ) (entries : List Entry) (wrongs : List WrongReply) (entry : Entry) → at ≡ index + length entries → AreWrong memory index entries wrongs
    → entry.reply ≢ reply_of (memory_from memory entries) entry.command
    → AreWrong memory index (entries ++ entry ∷ []) (wrongs ++ (record { index = at; expected = reply_of (memory_from memory entries) entry.command }) ∷ [])
wrong_more memory index at [] wrongs entry is are differs =
    let same : at ≡ index = omega (arith, is) in
    inr ([], differs, rw (are, same) refl, refl)
wrong_more memory index at (e ∷ entries) wrongs entry is (inl p) differs =
    inl (p.0, wrong_more (after memory e.command) (index + 1) at entries wrongs entry (omega (arith, is)) p.1 differs)
wrong_more memory index at (e ∷ entries) wrongs entry is (inr p) differs =
    inr (p.0 ++ (record { index = at; expected = reply_of (memory_from memory (e ∷ entries)) entry.command }) ∷ [], p.1, rw (p.2) refl, wrong_more (after memory e.command) (index + 1) at entries p.0 entry (omega (arith, is)) p.3 differs)

-- The loop

pub right_step : (entries : List Entry) (i : ℕ) (wrongs : List WrongReply) → i < length entries → AreWrong no_memory 0 (take i entries) wrongs
    → (get_or entries i no_entry).reply ≡ reply_of (memory_of (take i entries)) (get_or entries i no_entry).command → AreWrong no_memory 0 (take (i + 1) entries) wrongs
right_step entries i wrongs below are right =
    subst (λ (es : List Entry). AreWrong no_memory 0 es wrongs) (sym (take_more entries i no_entry below)) (right_more no_memory 0 (take i entries) wrongs (get_or entries i no_entry) are right)

pub wrong_step : (entries : List Entry) (i : ℕ) (wrongs : List WrongReply) (expected : Reply) → i < length entries → AreWrong no_memory 0 (take i entries) wrongs
    → expected ≡ reply_of (memory_of (take i entries)) (get_or entries i no_entry).command → (get_or entries i no_entry).reply ≢ expected
    → AreWrong no_memory 0 (take (i + 1) entries) (wrongs ++ (record { index = i; expected = expected }) ∷ [])
wrong_step entries i wrongs expected below are same differs =
    let entry = get_or entries i no_entry in
    let count : i ≡ 0 + length (take i entries) = omega (arith, length-take-le i entries (omega (arith, below))) in
    let more = wrong_more no_memory 0 i (take i entries) wrongs entry count are (subst (λ (r : Reply). entry.reply ≢ r) same differs) in
    subst (λ (es : List Entry). AreWrong no_memory 0 es (wrongs ++ (record { index = i; expected = expected }) ∷ [])) (sym (take_more entries i no_entry below))
    (subst (λ (r : Reply). AreWrong no_memory 0 (take i entries ++ entry ∷ []) (wrongs ++ (record { index = i; expected = r }) ∷ [])) (sym same) more)
