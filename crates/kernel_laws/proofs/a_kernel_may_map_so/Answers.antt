use Rattle.kernel_laws.proofs.MapReplies.{mmap-refused, mmap-taken, munmap-refused, munmap-taken}
use Rattle.kernel_laws.proofs.Clearing.{clears-taken, dontneed-taken}
use Rattle.kernel_laws.proofs.Remaps.{mremap-refused, mremap-taken}
use Rattle.kernel_laws.proofs.Returns.{returned-agree}
use Rattle.kernel_laws.proofs.a_kernel_may_map_so.Goals as goal

pub returns-clause-munmap : goal.returns-clause-munmap
returns-clause-munmap c it cpu addr len is = munmap-taken it cpu addr len is

pub returns-clause-munmap_refused : goal.returns-clause-munmap_refused
returns-clause-munmap_refused c it cpu addr len errno is = munmap-refused it cpu addr len errno is

pub returns-clause-mmap : goal.returns-clause-mmap
returns-clause-mmap c it made cpu start is placed = mmap-taken it cpu made.len made.prot made.place start made.addr made.flags is placed

pub returns-clause-mmap_refused : goal.returns-clause-mmap_refused
returns-clause-mmap_refused c it made cpu errno is = mmap-refused it cpu made.len made.prot made.place made.addr made.flags errno is

pub returns-clause-mremap : goal.returns-clause-mremap
returns-clause-mremap c it move cpu target is = mremap-taken it move cpu target is

pub returns-clause-mremap_refused : goal.returns-clause-mremap_refused
returns-clause-mremap_refused c it move cpu errno is = mremap-refused it move cpu errno is

pub returns-clause-dontneed : goal.returns-clause-dontneed
returns-clause-dontneed c it cpu addr len may = dontneed-taken it cpu addr len may.unseen may.inside

pub returns-clause-returns : goal.returns-clause-returns
returns-clause-returns c one key may = returned-agree one key may

pub returns-clause-clears : goal.returns-clause-clears
returns-clause-clears c one key may = clears-taken one key may.span may.due may.told may.gone
