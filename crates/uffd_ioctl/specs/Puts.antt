-- UFFDIO_COPY and UFFDIO_ZEROPAGE as the code has them: the rows of the machine's table, and what a call does that runs out of memory.
use Rattle.std.specs.Prelude.{◌≡◌, ℕ, ◌+◌, ◌*◌, ◌/◌, ◌<◌, ◌≤◌, ◌==◌, ◌||◌, Bool, true, false, if◌then◌else◌, Option, Some, None, Result, Ok, Err, List}
use Rattle.std.specs.Ordering.{nat_cmp}
use Rattle.std.specs.FinMap.{FinMap, contains_key}
use Rattle.foundation.specs.declared.TheConstants.{PAGE_SIZE}
use Rattle.mig_base.specs.declared.command.Errno.{Errno}
use Rattle.mig_base.specs.declared.command.Errno.TheVariants.{Eagain, Eexist}
use Rattle.mig_base.specs.declared.wake.Wake.{Wake}
use Rattle.mig_base.specs.declared.wake.Wake.TheVariants.{Nobody, Range}
use Rattle.foundation.specs.Bits.{is_one}
use Rattle.mig_model.specs.Space.{Space}
use Rattle.mig_model.specs.Ioctls.{Put, missing_run, installed}
use Rattle.page_table.specs.declared.page_table.PutFault.{PutFault}
use Rattle.page_table.specs.declared.page_table.PutFault.TheVariants as stop
use Rattle.uffd_ioctl.specs.declared.fault.IoctlFault.{IoctlFault}
use Rattle.uffd_ioctl.specs.declared.fault.IoctlFault.TheVariants as fault
use Rattle.uffd_ioctl.specs.declared.fault.Copied.{Copied}
use Rattle.uffd_ioctl.specs.declared.fault.CopyFault.{CopyFault}

-- the result of a call that put this many bytes, and stopped for this reason or put all
abbrev pub result_by : ℕ → Wake → Option IoctlFault → Result Copied CopyFault
result_by bytes wake None = Ok (record { bytes = bytes; wake = wake })
result_by bytes wake (Some fault) = Err (record { copied = bytes; fault = fault; wake = wake })

-- an errno of the machine's table as an error of the code
abbrev pub ioctl_fault_of : Option Errno → Option IoctlFault
ioctl_fault_of None = None
ioctl_fault_of (Some errno) = Some (fault.Errno errno)

-- the result that a row of the machine's table gives
abbrev pub result_of : Put → Result Copied CopyFault
result_of put = result_by put.bytes put.wake (ioctl_fault_of put.fault)

-- the error of a page that could not be put: EEXIST if it is present
abbrev pub own_fault : PutFault → IoctlFault
own_fault stop.Present = fault.Errno Eexist
own_fault stop.NoMemory = fault.NoMemory

-- the error of a call that put `done` pages before it stopped: the page's own error if that is the first page, else EAGAIN
abbrev pub stop_fault : ℕ → Option PutFault → Option IoctlFault
stop_fault done None = None
stop_fault done (Some stop) = Some (if done == 0 then own_fault stop else fault.Errno Eagain)

-- the result of a call that put the first `done` pages from address start on; `quiet` is the DONTWAKE bit of its mode
abbrev pub put_result : ℕ → ℕ → Bool → Option PutFault → Result Copied CopyFault
put_result start done quiet stop = result_by (PAGE_SIZE * done) (if done == 0 || quiet then Nobody else Range start (PAGE_SIZE * done)) (stop_fault done stop)

-- the number of pages that a call has put
abbrev pub pages_put : Result Copied CopyFault → ℕ
pages_put (Ok copied) = copied.bytes / PAGE_SIZE
pages_put (Err fault) = fault.copied / PAGE_SIZE

-- why a call of `count` pages put exactly `done`: they were all, or the next page was present, or memory ran out at a missing page
abbrev pub PutsStop : FinMap nat_cmp (List ℕ) → ℕ → ℕ → ℕ → Option PutFault → Type 0
PutsStop pages first count done None = done ≡ count
PutsStop pages first count done (Some stop.Present) = (done < count) × (contains_key pages (first + done) ≡ true)
PutsStop pages first count done (Some stop.NoMemory) = (done < count) × (contains_key pages (first + done) ≡ false)

-- a call put the first `done` pages of the range, all of which were missing, and `stop` is why it put no more
pub record IsPut (pages : FinMap nat_cmp (List ℕ)) (first count done : ℕ) (stop : Option PutFault) : Type 0 where
  pub few : done ≤ count
  pub missing : (i : ℕ) → i < done → contains_key pages (first + i) ≡ false
  pub stops : PutsStop pages first count done stop

-- a call ran out of memory before the first page that is present: the pages that it put stay, and its result says how many
pub record IsShort (old new : Space) (start count bits : ℕ) (bytes : ℕ → List ℕ) (protect : Bool) (result : Result Copied CopyFault) : Type 0 where
  pub fewer : pages_put result < missing_run old (start / PAGE_SIZE) count
  pub answer : result ≡ put_result start (pages_put result) (is_one bits 0) (Some stop.NoMemory)
  pub space : new ≡ installed old (start / PAGE_SIZE) (pages_put result) bytes protect
