-- Runs of the entries of operations that are taken one after the other.
use Rattle.std.proofs.Common.{◌≡◌, ℕ, ◌+◌, ◌<◌, List, [], ◌∷◌, ◌++◌, refl, sym, ap, ◌∙◌, subst, append_assoc, append-nil, take, get_or, length}
use Rattle.std.proofs.lemmas.List.{take_more}
use Rattle.mig_base.specs.declared.command.Entry.{Entry}
use Rattle.mig_base.specs.Flat.{Memory, no_memory, after, IsRunFrom, memory_from, IsFlatRun, memory_of}
use Rattle.history.specs.declared.operation.Operation.{Operation}
use Rattle.history.specs.Histories.{entries, entries_of}

IsRunFrom-append : (m : Memory) (xs ys : List Entry) → IsRunFrom m xs → IsRunFrom (memory_from m xs) ys → IsRunFrom m (xs ++ ys)
IsRunFrom-append m [] ys first second = second
IsRunFrom-append m (x ∷ xs) ys first second = (first.0, IsRunFrom-append (after m x.command) xs ys first.1 second)

memory_from-append : (m : Memory) (xs ys : List Entry) → memory_from m (xs ++ ys) ≡ memory_from (memory_from m xs) ys
memory_from-append m [] ys = refl
memory_from-append m (x ∷ xs) ys = memory_from-append (after m x.command) xs ys

entries-push : (operations : List Operation) (operation : Operation) → entries (operations ++ operation ∷ []) ≡ entries operations ++ entries_of operation.thread operation.action
entries-push [] operation = append-nil (entries_of operation.thread operation.action)
entries-push (first ∷ operations) operation =
    ap (λ (t : List Entry). entries_of first.thread first.action ++ t) (entries-push operations operation) ∙ sym (append_assoc (entries_of first.thread first.action) (entries operations) (entries_of operation.thread operation.action))

entries_more : (operations : List Operation) (i : ℕ) (d : Operation) → i < length operations → entries (take (i + 1) operations) ≡ entries (take i operations) ++ entries_of (get_or operations i d).thread (get_or operations i d).action
entries_more operations i d l = ap entries (take_more operations i d l) ∙ entries-push (take i operations) (get_or operations i d)

pub run_more : (operations : List Operation) (i : ℕ) (d : Operation) → i < length operations → IsFlatRun (entries (take i operations)) → IsRunFrom (memory_of (entries (take i operations))) (entries_of (get_or operations i d).thread (get_or operations i d).action) → IsFlatRun (entries (take (i + 1) operations))
run_more operations i d l run more =
    subst IsFlatRun (sym (entries_more operations i d l)) (IsRunFrom-append no_memory (entries (take i operations)) (entries_of (get_or operations i d).thread (get_or operations i d).action) run more)

pub memory_more : (operations : List Operation) (i : ℕ) (d : Operation) → i < length operations → memory_of (entries (take (i + 1) operations)) ≡ memory_from (memory_of (entries (take i operations))) (entries_of (get_or operations i d).thread (get_or operations i d).action)
memory_more operations i d l = ap memory_of (entries_more operations i d l) ∙ memory_from-append no_memory (entries (take i operations)) (entries_of (get_or operations i d).thread (get_or operations i d).action)
