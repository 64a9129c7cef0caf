-- A whole test, from the first read on.
use Rattle.std.proofs.Common.{◌≡◌, ℕ, List, [], ◌++◌, Option, None, Some, refl, sym, subst}
use Rattle.std.specs.Prelude.{IfSome, IfErr, IfOk, Result, Ok, Err}
use Rattle.std.specs.Io.KnownBytes.{Appends, Keeps, Consumes, IsAtEnd}
use Rattle.std.proofs.KnownBytes.{Appends-nil, Consumes-nil, Consumes-trans, Consumes-kept}
use Rattle.engine.specs.declared.fault.RunFault.{RunFault}
use Rattle.engine.specs.declared.fault.RunFault.TheVariants as faults
use Rattle.engine.specs.Engine.{Front}
use Rattle.expected.specs.declared.outcome.Outcome.{Outcome}
use Rattle.expected.specs.declared.outcome.Outcome.TheVariants.{Same, Differs}
use Rattle.expected.specs.declared.tester.Tester.{Tester}
use Rattle.expected.specs.Tests.{SomeMet, Unmet, WrongAt, ReadTo, Comes, HaltsTest, Tests, TestStops}
use Rattle.expected.specs.Parts.{Ran, FaultIn, FaultAtEnd}
use Rattle.expected.proofs.Reached.{none_met}
use Rattle.expected.proofs.Pieces.{met_of}
use Rattle.engine.proofs.Whole.{input_is}

-- what was read so far meets its answers
pub record RanFrom (cpus : ℕ) (r0 r1 : Option (List ℕ)) (t : Tester) : Type 0 where
  pub consumed : List ℕ
  pub consumes : Consumes r0 r1 consumed
  pub ran : Ran cpus consumed t

pub from_none : (cpus : ℕ) (r : Option (List ℕ)) (t : Tester) → Ran cpus [] t → RanFrom cpus r r t
from_none cpus r t ran = record { consumed = []; consumes = Consumes-nil r; ran = ran }

pub from_then : (cpus : ℕ) (chunk : List ℕ) (r0 r1 r2 : Option (List ℕ)) (a b : Tester) → RanFrom cpus r0 r1 a → Consumes r1 r2 chunk → ((front : List ℕ) → Ran cpus front a → Ran cpus (front ++ chunk) b) → RanFrom cpus r0 r2 b
from_then cpus chunk r0 r1 r2 a b so_far more each = record {
  consumed = so_far.consumed ++ chunk;
  consumes = Consumes-trans r0 r1 r2 so_far.consumed chunk so_far.consumes more;
  ran = each so_far.consumed so_far.ran;
}

unmet_in : (name : List ℕ) (cpus : ℕ) (bytes : List ℕ) (answers : ℕ) (report : List ℕ) (r0 r2 : Option (List ℕ)) → Consumes r0 r2 bytes → ((more : List ℕ) → Unmet name cpus (bytes ++ more) answers report)
    → IfSome r0 (λ input. Unmet name cpus input answers report)
unmet_in name cpus bytes answers report None r2 read f = tt
unmet_in name cpus bytes answers report (Some x) None read f = absurd read
unmet_in name cpus bytes answers report (Some x) (Some y) read f = subst (λ (t : List ℕ). Unmet name cpus t answers report) (sym read) (f y)

pub from_unmet : (name : List ℕ) (cpus : ℕ) (chunk : List ℕ) (answers : ℕ) (report : List ℕ) (r0 r1 r2 : Option (List ℕ)) (a : Tester) → RanFrom cpus r0 r1 a → Consumes r1 r2 chunk
    → ((front : List ℕ) → Ran cpus front a → (more : List ℕ) → Unmet name cpus ((front ++ chunk) ++ more) answers report) → IfSome r0 (λ input. Unmet name cpus input answers report)
from_unmet name cpus chunk answers report r0 r1 r2 a so_far more each =
    unmet_in name cpus (so_far.consumed ++ chunk) answers report r0 r2 (Consumes-trans r0 r1 r2 so_far.consumed chunk so_far.consumes more) (each so_far.consumed so_far.ran)

halts_in : (cpus : ℕ) (bytes : List ℕ) (fault : RunFault) (r0 r2 : Option (List ℕ)) → Consumes r0 r2 bytes → FaultIn cpus bytes fault → IfSome r0 (λ input. HaltsTest cpus input r2 fault)
halts_in cpus bytes fault None r2 read f = tt
halts_in cpus bytes fault (Some x) None read f = absurd read
halts_in cpus bytes (faults.Line n) (Some x) (Some y) read f = subst (λ (t : List ℕ). WrongAt cpus t n) (sym read) (f y)
halts_in cpus bytes faults.ReadFault (Some x) (Some y) read f = absurd f
halts_in cpus bytes faults.WriteFault (Some x) (Some y) read f = f
halts_in cpus bytes faults.NoMemory (Some x) (Some y) read f = subst (λ (t : List ℕ). SomeMet cpus t) (sym read) (f y)

pub from_halts : (cpus : ℕ) (chunk : List ℕ) (fault : RunFault) (r0 r1 r2 : Option (List ℕ)) (a : Tester) → RanFrom cpus r0 r1 a → Consumes r1 r2 chunk
    → ((front : List ℕ) → Ran cpus front a → FaultIn cpus (front ++ chunk) fault) → IfSome r0 (λ input. HaltsTest cpus input r2 fault)
from_halts cpus chunk fault r0 r1 r2 a so_far more each =
    halts_in cpus (so_far.consumed ++ chunk) fault r0 r2 (Consumes-trans r0 r1 r2 so_far.consumed chunk so_far.consumes more) (each so_far.consumed so_far.ran)

pub from_read_fault : (cpus : ℕ) (r0 r1 r2 : Option (List ℕ)) (a : Tester) → RanFrom cpus r0 r1 a → Keeps r1 r2 → IfSome r0 (λ input. HaltsTest cpus input r2 faults.ReadFault)
from_read_fault cpus None r1 r2 a so_far kept = tt
from_read_fault cpus (Some x) r1 None a so_far kept = absurd (Consumes-kept (Some x) r1 None so_far.consumed so_far.consumes kept)
from_read_fault cpus (Some x) r1 (Some y) a so_far kept =
    let read : x ≡ so_far.consumed ++ y = Consumes-kept (Some x) r1 (Some y) so_far.consumed so_far.consumes kept in
    let ran = so_far.ran in
    subst (λ (t : List ℕ). ReadTo cpus t (Some y)) (sym read)
    (record { cases = ran.cases; world = a.player.world; rest = a.line.items ++ y; met = met_of cpus so_far.consumed a ran y; held = a.line.items; one = ran.one; read = refl })

-- ---- the end of the input

comes_in : (name : List ℕ) (cpus answers : ℕ) (report : List ℕ) (outcome : Outcome) (r0 r1 r2 : Option (List ℕ)) (a : Tester) → RanFrom cpus r0 r1 a → Consumes r1 r2 [] → IsAtEnd r2
    → ((input : List ℕ) → Ran cpus input a → Comes name cpus input outcome answers report) → IfSome r0 (λ input. Comes name cpus input outcome answers report)
comes_in name cpus answers report outcome None r1 r2 a so_far last e f = tt
comes_in name cpus answers report outcome (Some x) r1 r2 a so_far last e f =
    subst (λ (t : List ℕ). Comes name cpus t outcome answers report) (sym (input_is x so_far.consumed r1 r2 so_far.consumes last e).0) (f so_far.consumed so_far.ran)

pub finished : (result : Result Outcome RunFault) (name : List ℕ) (answers : ℕ) (report : List ℕ) (r0 r1 r2 : Option (List ℕ)) (a b : Tester) → ((cpus : ℕ) → Ran cpus [] a → RanFrom cpus r0 r1 b) → Consumes r1 r2 [] × IsAtEnd r2
    → IfOk result (λ outcome. (cpus : ℕ) (input : List ℕ) → Ran cpus input b → Comes name cpus input outcome answers report)
    → IfOk result (λ outcome. (cpus : ℕ) → Ran cpus [] a → IfSome r0 (λ input. Comes name cpus input outcome answers report))
finished (Err x) name answers report r0 r1 r2 a b so_far end f = tt
finished (Ok outcome) name answers report r0 r1 r2 a b so_far end f = λ cpus ran. comes_in name cpus answers report outcome r0 r1 r2 b (so_far cpus ran) end.0 end.1 (f cpus)

at_end_halts : (cpus : ℕ) (fault : RunFault) (x : List ℕ) (u : Option (List ℕ)) → FaultAtEnd cpus x fault → HaltsTest cpus x u fault
at_end_halts cpus (faults.Line n) x u f = f
at_end_halts cpus faults.ReadFault x u f = absurd f
at_end_halts cpus faults.WriteFault x u f = f
at_end_halts cpus faults.NoMemory x u f = f

halts_at_end : (cpus : ℕ) (fault : RunFault) (r0 r1 r2 : Option (List ℕ)) (a : Tester) → RanFrom cpus r0 r1 a → Consumes r1 r2 [] → IsAtEnd r2 → ((input : List ℕ) → Ran cpus input a → FaultAtEnd cpus input fault)
    → IfSome r0 (λ input. HaltsTest cpus input r2 fault)
halts_at_end cpus fault None r1 r2 a so_far last e f = tt
halts_at_end cpus fault (Some x) r1 r2 a so_far last e f =
    at_end_halts cpus fault x r2 (subst (λ (t : List ℕ). FaultAtEnd cpus t fault) (sym (input_is x so_far.consumed r1 r2 so_far.consumes last e).0) (f so_far.consumed so_far.ran))

pub finish_halts : (result : Result Outcome RunFault) (r0 r1 r2 : Option (List ℕ)) (a b : Tester) → ((cpus : ℕ) → Ran cpus [] a → RanFrom cpus r0 r1 b) → Consumes r1 r2 [] × IsAtEnd r2
    → IfErr result (λ fault. (cpus : ℕ) (input : List ℕ) → Ran cpus input b → FaultAtEnd cpus input fault) → IfErr result (λ fault. (cpus : ℕ) → Ran cpus [] a → IfSome r0 (λ input. HaltsTest cpus input r2 fault))
finish_halts (Ok x) r0 r1 r2 a b so_far end f = tt
finish_halts (Err fault) r0 r1 r2 a b so_far end f = λ cpus ran. halts_at_end cpus fault r0 r1 r2 b (so_far cpus ran) end.0 end.1 (f cpus)

-- ---- what is written

pub all_written : (name : List ℕ) (cpus answers : ℕ) (report : List ℕ) (r w : Option (List ℕ)) → IfSome r (λ input. Comes name cpus input Same answers report) → IfSome r (λ input. Tests name cpus input Same answers w w)
all_written name cpus answers report None w f = tt
all_written name cpus answers report (Some x) w f = (f, Appends-nil w)

pub unmet_written : (name : List ℕ) (cpus answers : ℕ) (report : List ℕ) (r v w : Option (List ℕ)) → IfSome r (λ input. Comes name cpus input Differs answers report) → Appends v w report
    → IfSome r (λ input. Tests name cpus input Differs answers v w)
unmet_written name cpus answers report None v w f appends = tt
unmet_written name cpus answers report (Some x) v w f appends = (report, f, appends)

pub unmet_unwritten : (name : List ℕ) (cpus answers : ℕ) (report : List ℕ) (r u v w : Option (List ℕ)) → IfSome r (λ input. Comes name cpus input Differs answers report) → Front report v w
    → IfSome r (λ input. TestStops name cpus input u faults.WriteFault v w)
unmet_unwritten name cpus answers report None u v w f front = tt
unmet_unwritten name cpus answers report (Some x) u v w f front = (answers, report, f, front)

halts_stops : (name : List ℕ) (cpus : ℕ) (fault : RunFault) (x : List ℕ) (u w : Option (List ℕ)) → HaltsTest cpus x u fault → TestStops name cpus x u fault w w
halts_stops name cpus (faults.Line n) x u w f = (f, Appends-nil w)
halts_stops name cpus faults.ReadFault x u w f = (f, Appends-nil w)
halts_stops name cpus faults.WriteFault x u w f = absurd f
halts_stops name cpus faults.NoMemory x u w f = (f, Appends-nil w)

pub halted : (name : List ℕ) (cpus : ℕ) (fault : RunFault) (r u w : Option (List ℕ)) → IfSome r (λ input. HaltsTest cpus input u fault) → IfSome r (λ input. TestStops name cpus input u fault w w)
halted name cpus fault None u w f = tt
halted name cpus fault (Some x) u w f = halts_stops name cpus fault x u w f

-- a world could not be made
pub not_started : (name : List ℕ) (cpus : ℕ) (r w : Option (List ℕ)) → IfSome r (λ input. TestStops name cpus input r faults.NoMemory w w)
not_started name cpus None w = tt
not_started name cpus (Some x) w = (none_met cpus x, Appends-nil w)
