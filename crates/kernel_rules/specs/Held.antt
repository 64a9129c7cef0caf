-- What a table of a kernel holds.
use Rattle.std.specs.Prelude.{ℕ, Option, Some, None, IfSome, nat_eq}
use Rattle.indexmap.specs.IndexMap.{get}
use Rattle.kernel_rules.specs.declared.known.Page.{Page}
use Rattle.kernel_rules.specs.declared.kernel_table.KernelTable.{KernelTable}
use Rattle.kernel_rules.specs.declared.page_table.PageTable.{PageTable}
use Rattle.kernel_rules.specs.State.{Kernel}
use Rattle.kernel_rules.specs.Tables.{pages_of, IsTable}

-- the pages of a space, by its table, if it has one
abbrev pub pages_by : Option PageTable → ℕ → Option Page
pages_by None page = None
pages_by (Some table) page = pages_of table page

-- each table of pages is one
abbrev pub AreTables : KernelTable → Type 0
AreTables table = (space : ℕ) → IfSome (get nat_eq table.spaces space) IsTable

-- the kernel that a table holds
unfoldable pub kernel_of : KernelTable → Kernel
kernel_of table =
    record {
      objects = λ name. get nat_eq table.objects name;
      ranges = table.ranges.items;
      pages = λ space page. pages_by (get nat_eq table.spaces space) page;
      faults = table.faults.items;
      calls = table.calls.items;
      told = table.told.items;
      events = table.events.items;
      queued = table.queued.items;
      untold = table.untold.items;
      clears = table.clears.items;
      protected = table.protected.items;
      differs = table.differs.items;
      unanswered = table.unanswered.items;
      owed = table.owed.items;
      twice = table.twice.items;
      there_before = table.there_before.items;
      outside = table.outside.items;
    }
