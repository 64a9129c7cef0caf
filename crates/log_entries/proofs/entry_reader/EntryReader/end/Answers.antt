use Rattle.std.proofs.Common.{◌≡◌, ◌∙◌, ◌∷◌, List, false, refl, sym, ap}
use Rattle.std.proofs.lemmas.Result.{on_ok_weaker}
use Rattle.std.specs.Prelude.{filter_map}
use Rattle.uffd_log.specs.declared.call.Message.{Message}
use Rattle.kernel_rules.specs.declared.run.Run.{Run}
use Rattle.kernel_rules.specs.Runs.{Outcome}
use Rattle.log_entries.specs.declared.entry_reader.EntryReader.{EntryReader}
use Rattle.log_entries.specs.declared.log_line.LogLine.{LogLine}
use Rattle.log_entries.specs.Events.{message_in, outcome_from, run_in}
use Rattle.log_entries.specs.Readers.{own}
use Rattle.log_entries.proofs.Entered.{ended, first_rest, lost}
use Rattle.log_entries.proofs.entry_reader.EntryReader.end.Goals as goal

pub returns-in_default : goal.returns-in_default
returns-in_default c = λ lines has. lost lines c.args.self.now (record c.args.self.now { whole = false }) c.args.one refl has

pub returns : goal.returns
returns c =
    let r = first_rest c.deref-2.result.now c.in-Some.first.now c.in-Some.ensures.value in
    let found : own c.args.stamp.pid c.args.number c.args.self.now.kept.items ≡ c.in-Some.first.now ∷ r.0 =
    ap (λ (l : List LogLine). own c.args.stamp.pid c.args.number l) (sym c.deref.ensures.value) ∙ sym c.in_ok-lines.ensures ∙ sym c.deref-2.ensures.value ∙ r.1
    in
    let messages : c.deref-5.result.now ≡ filter_map message_in (c.in-Some.first.now ∷ r.0) =
    c.deref-5.ensures.value ∙ c.in_ok-messages.ensures ∙ ap (λ (l : List LogLine). filter_map message_in l) (c.deref-3.ensures.value ∙ sym c.deref-2.ensures.value ∙ r.1)
    in
    let runs : c.deref-6.result.now ≡ filter_map run_in (c.in-Some.first.now ∷ r.0) =
    c.deref-6.ensures.value ∙ c.in_ok-runs.ensures ∙ ap (λ (l : List LogLine). filter_map run_in l) (c.deref-4.ensures.value ∙ sym c.deref-2.ensures.value ∙ r.1)
    in
    let with_read : List Message → List Run → Outcome = λ m k. record { answer = c.args.answer; messages = m; runs = k } in
    let out : with_read c.deref-5.result.now c.deref-6.result.now ≡ outcome_from (c.in-Some.first.now ∷ r.0) c.args.answer =
    ap (λ (m : List Message). with_read m c.deref-6.result.now) messages ∙ ap (λ (k : List Run). with_read (filter_map message_in (c.in-Some.first.now ∷ r.0)) k) runs
    in
    let new : EntryReader = record c.args.self.now { entries = c.push_end.new.self; kept = c.remove_lines.new.kept } in
    on_ok_weaker c.push_end.result
    (λ e lines has.
    ended lines c.args.self.now new c.args.one c.in-Some.first.now r.0 c.args.stamp c.args.number c.args.answer c.in-Some.first.now.number
    (with_read c.deref-5.result.now c.deref-6.result.now) c.requires refl refl found refl out c.remove_lines.ensures e has)
    c.push_end.ensures.ok
