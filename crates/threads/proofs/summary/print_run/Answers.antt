use Rattle.std.proofs.Common.{◌≡◌, ◌++◌, length, subst, sym}
use Rattle.std.specs.Prelude.{Option, None, Some, OnOk, string_bytes}
use Rattle.rig.specs.declared.rig.CloseFault.{CloseFault}
use Rattle.threads.specs.Report.{report_lines}
use Rattle.threads.proofs.Reports.{printed}
use Rattle.threads.proofs.summary.print_run.Goals as goal

pub returns-in-None-clause-ok : goal.returns-in-None-clause-ok
returns-in-None-clause-ok c =
    let run = c.args.run.now in
    subst (λ (fault : Option CloseFault). OnOk c.print_ok.result (string_bytes c.print_ok.new.text ≡ string_bytes c.args.text.now ++ report_lines run.seats.items (length run.world.transcript) fault)) (sym c.in-None.is)
    (printed c.print_ok.result _ _ _ _ _ _ _ None c.deref.ensures.value c.transcript-entries.ensures.entries c.in_ok-print_seats.ensures.ok c.print_ok.ensures.ok)

pub returns-in-Some-clause-ok : goal.returns-in-Some-clause-ok
returns-in-Some-clause-ok c =
    let run = c.args.run.now in
    subst (λ (fault : Option CloseFault). OnOk c.print_fault.result (string_bytes c.print_fault.new.text ≡ string_bytes c.args.text.now ++ report_lines run.seats.items (length run.world.transcript) fault)) (sym c.in-Some.is)
    (printed c.print_fault.result _ _ _ _ _ _ _ (Some c.in-Some.fault) c.deref.ensures.value c.transcript-entries.ensures.entries c.in_ok-print_seats.ensures.ok c.print_fault.ensures.ok)
