use Rattle.std.proofs.Common.{ℕ, List, length, ap, sym, ◌∙◌, subst}
use Rattle.std.specs.Prelude.{string_bytes}
use Rattle.std.proofs.lemmas.Result.{err_from_is_err_and}
use Rattle.mig_base.specs.declared.command.Entry.{Entry}
use Rattle.engine.specs.Engine.{Place, kept_entries, nothing_kept}
use Rattle.engine.proofs.Outcomes.{reads_from, stops_from_work}
use Rattle.explain.specs.Explaining.{IsReport}
use Rattle.explain.proofs.Reports.{explain_stopped, explain_memory, explain_done, explain_unwritten}
use Rattle.explain.proofs.explain.explain_script.Goals as goal

pub returns-in_err-read_lines-clause-fault : goal.returns-in_err-read_lines-clause-fault
returns-in_err-read_lines-clause-fault g c =
    let p = err_from_is_err_and c.from_residual.result c.from_residual.ensures.1 in
    let is = ap (λ (p : Place). p.work) c.new-script.ensures ∙ c.keeping.ensures.work in
    rw (p.1, p.2) (explain_stopped c.args.asks _ _ _ _ _ (stops_from_work c.new-script.result.work nothing_kept _ _ _ _ _ is c.in_err-read_lines.ensures.fault))

pub returns-in_err-lines-clause-fault : goal.returns-in_err-lines-clause-fault
returns-in_err-lines-clause-fault g c =
    let p = err_from_is_err_and c.from_residual-in_err-lines.result c.from_residual-in_err-lines.ensures.1 in
    let is = ap (λ (p : Place). p.work) c.new-script.ensures ∙ c.keeping.ensures.work in
    rw (p.1, p.2) (explain_memory c.args.asks _ c.read_lines.new.script.work _ _ _ (reads_from c.new-script.result.work nothing_kept _ _ _ _ _ is c.in_ok-read_lines.ensures.ok))

pub returns-in_err-answer-clause-fault : goal.returns-in_err-answer-clause-fault
returns-in_err-answer-clause-fault g c =
    let p = err_from_is_err_and c.from_residual-in_err-answer.result c.from_residual-in_err-answer.ensures.1 in
    let is = ap (λ (p : Place). p.work) c.new-script.ensures ∙ c.keeping.ensures.work in
    rw (p.1, p.2) (explain_memory c.args.asks _ c.read_lines.new.script.work _ _ _ (reads_from c.new-script.result.work nothing_kept _ _ _ _ _ is c.in_ok-read_lines.ensures.ok))

pub returns-in_err-write_out-clause-fault : goal.returns-in_err-write_out-clause-fault
returns-in_err-write_out-clause-fault g c =
    let p = err_from_is_err_and c.from_residual-in_err-write_out.result c.from_residual-in_err-write_out.ensures.1 in
    let is = ap (λ (p : Place). p.work) c.new-script.ensures ∙ c.keeping.ensures.work in
    let end = c.read_lines.new.script.work in
    let answer = c.in_ok-answer.answer in
    let kept : IsReport c.args.asks (kept_entries end) answer (string_bytes c.write_report.new.text) =
    subst (λ (es : List Entry). IsReport c.args.asks es answer (string_bytes c.write_report.new.text)) c.entries-entries.ensures c.in_ok-answer.ensures in
    let report : IsReport c.args.asks (kept_entries end) answer c.as_bytes.result.now = subst (λ (t : List ℕ). IsReport c.args.asks (kept_entries end) answer t) (sym c.as_bytes.ensures.value) kept in
    rw (p.1, p.2, c.in_err-write_out.ensures.fault)
    (explain_unwritten c.args.asks _ end _ _ _ _ answer c.as_bytes.result.now (reads_from c.new-script.result.work nothing_kept _ _ _ _ _ is c.in_ok-read_lines.ensures.ok) report c.in_err-write_out.ensures.front)

pub returns-clause-ok : goal.returns-clause-ok
returns-clause-ok g c =
    let is = ap (λ (p : Place). p.work) c.new-script.ensures ∙ c.keeping.ensures.work in
    let end = c.read_lines.new.script.work in
    let answer = c.in_ok-answer.answer in
    let kept : IsReport c.args.asks (kept_entries end) answer (string_bytes c.write_report.new.text) =
    subst (λ (es : List Entry). IsReport c.args.asks es answer (string_bytes c.write_report.new.text)) c.entries-entries.ensures c.in_ok-answer.ensures in
    let report : IsReport c.args.asks (kept_entries end) answer c.as_bytes.result.now = subst (λ (t : List ℕ). IsReport c.args.asks (kept_entries end) answer t) (sym c.as_bytes.ensures.value) kept in
    explain_done c.args.asks _ end _ _ _ _ answer _ c.as_bytes.result.now (reads_from c.new-script.result.work nothing_kept _ _ _ _ _ is c.in_ok-read_lines.ensures.ok) (ap length c.entries-entries.ensures) report
    c.in_ok-write_out.ensures.ok
