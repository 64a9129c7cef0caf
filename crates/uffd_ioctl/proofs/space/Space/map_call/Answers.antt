use Rattle.uffd_ioctl.specs.Spaces.{machine_space}
use Rattle.uffd_ioctl.proofs.AccessLemmas.{memory_called_ok}
use Rattle.uffd_ioctl.proofs.space.Space.map_call.Goals as goal

pub returns-in-Mmap-clause-memory : goal.returns-in-Mmap-clause-memory
returns-in-Mmap-clause-memory c =
    memory_called_ok c.mmap.result (machine_space c.self.inside.areas c.self.inside.pages c.self.inside.object) c.args.self.now c.mmap.new.self c.args.cpu c.args.command _ c.self.view_is c.self.invariant c.in-Mmap.is c.mmap.ensures.space

pub returns-in-Munmap-clause-memory : goal.returns-in-Munmap-clause-memory
returns-in-Munmap-clause-memory c =
    memory_called_ok c.munmap.result (machine_space c.self.inside.areas c.self.inside.pages c.self.inside.object) c.args.self.now c.munmap.new.self c.args.cpu c.args.command _ c.self.view_is c.self.invariant c.in-Munmap.is c.munmap.ensures.space

pub returns-in-Mremap-clause-memory : goal.returns-in-Mremap-clause-memory
returns-in-Mremap-clause-memory c =
    memory_called_ok c.mremap.result (machine_space c.self.inside.areas c.self.inside.pages c.self.inside.object) c.args.self.now c.mremap.new.self c.args.cpu c.args.command _ c.self.view_is c.self.invariant c.in-Mremap.is c.mremap.ensures.space

pub returns-in-DontNeed-clause-memory : goal.returns-in-DontNeed-clause-memory
returns-in-DontNeed-clause-memory c =
    memory_called_ok c.dontneed.result (machine_space c.self.inside.areas c.self.inside.pages c.self.inside.object) c.args.self.now c.dontneed.new.self c.args.cpu c.args.command _ c.self.view_is c.self.invariant c.in-DontNeed.is c.dontneed.ensures.space
