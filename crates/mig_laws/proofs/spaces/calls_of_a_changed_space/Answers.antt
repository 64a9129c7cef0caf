use Rattle.std.proofs.Common.{refl}
use Rattle.mig_laws.proofs.ObjectCalls.{copied-under, copy_answer-under, handshaken-under, range_unregistered-under, read_space-under, registered-under, write_protected-under, zeropage_answer-under, zeropaged-under}
use Rattle.mig_laws.proofs.spaces.calls_of_a_changed_space.Goals as goal

pub returns-clause-handshake : goal.returns-clause-handshake
returns-clause-handshake c f space api features = refl

pub returns-clause-handshaken : goal.returns-clause-handshaken
returns-clause-handshaken c f space api features = handshaken-under f space api features

pub returns-clause-register : goal.returns-clause-register
returns-clause-register c f space start len bits = refl

pub returns-clause-registered : goal.returns-clause-registered
returns-clause-registered c f space start len bits = registered-under f space start len bits

pub returns-clause-unregister : goal.returns-clause-unregister
returns-clause-unregister c f space start len = refl

pub returns-clause-unregistered : goal.returns-clause-unregistered
returns-clause-unregistered c f space start len = range_unregistered-under f space start len

pub returns-clause-copy : goal.returns-clause-copy
returns-clause-copy c f space start bytes bits = copy_answer-under f space start bytes bits

pub returns-clause-copied : goal.returns-clause-copied
returns-clause-copied c f space start bytes bits = copied-under f space start bytes bits

pub returns-clause-zeropage : goal.returns-clause-zeropage
returns-clause-zeropage c f space start len bits = zeropage_answer-under f space start len bits

pub returns-clause-zeropaged : goal.returns-clause-zeropaged
returns-clause-zeropaged c f space start len bits is = zeropaged-under f is.keeps_zero space start len bits

pub returns-clause-writeprotect : goal.returns-clause-writeprotect
returns-clause-writeprotect c f space start len bits = refl

pub returns-clause-write_protected : goal.returns-clause-write_protected
returns-clause-write_protected c f space start len bits = write_protected-under f space start len bits

pub returns-clause-wake : goal.returns-clause-wake
returns-clause-wake c f space start len = refl

pub returns-clause-read : goal.returns-clause-read
returns-clause-read c f space = refl

pub returns-clause-read_space : goal.returns-clause-read_space
returns-clause-read_space c f space = read_space-under f space
