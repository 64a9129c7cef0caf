use Rattle.mig_model.proofs.memory.SpaceLemmas.{IsSoundSpace-fresh, IsSoundSpace-accessed, IsSoundSpace-called}
use Rattle.mig_model.proofs.memory.IoctlLemmas.{IsSoundSpace-handshaken, IsSoundSpace-range_registered, IsSoundSpace-range_unregistered, IsSoundSpace-copied, IsSoundSpace-zeropaged, IsSoundSpace-write_protected, IsSoundSpace-read_space}
use Rattle.mig_model.proofs.laws.a_space_stays_sound.Goals as goal

pub returns-clause-fresh : goal.returns-clause-fresh
returns-clause-fresh c = IsSoundSpace-fresh

pub returns-clause-access : goal.returns-clause-access
returns-clause-access c space cpu command is sound = IsSoundSpace-accessed space cpu command is sound

pub returns-clause-call : goal.returns-clause-call
returns-clause-call c space cpu command is sound = IsSoundSpace-called space cpu command is sound

pub returns-clause-handshake : goal.returns-clause-handshake
returns-clause-handshake c space api features sound = IsSoundSpace-handshaken space api features sound

pub returns-clause-register : goal.returns-clause-register
returns-clause-register c space start len mode sound = IsSoundSpace-range_registered space start len mode sound

pub returns-clause-unregister : goal.returns-clause-unregister
returns-clause-unregister c space start len sound = IsSoundSpace-range_unregistered space start len sound

pub returns-clause-copy : goal.returns-clause-copy
returns-clause-copy c space start bytes mode sound = IsSoundSpace-copied space start bytes mode sound

pub returns-clause-zeropage : goal.returns-clause-zeropage
returns-clause-zeropage c space start len mode sound = IsSoundSpace-zeropaged space start len mode sound

pub returns-clause-writeprotect : goal.returns-clause-writeprotect
returns-clause-writeprotect c space start len mode sound = IsSoundSpace-write_protected space start len mode sound

pub returns-clause-read : goal.returns-clause-read
returns-clause-read c space sound = IsSoundSpace-read_space space sound
