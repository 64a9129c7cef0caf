use Rattle.kernel_laws.proofs.Calls.{copy-taken, zeropage-taken}
use Rattle.kernel_laws.proofs.Protects.{protect-taken}
use Rattle.kernel_laws.proofs.Registers.{api-taken, register-taken, unregister-taken}
use Rattle.kernel_laws.proofs.Wakes.{wake-taken}
use Rattle.kernel_laws.proofs.a_kernel_may_answer_so.Goals as goal

pub returns-clause-wake : goal.returns-clause-wake
returns-clause-wake c one start len inside = wake-taken one.space one.kernel one.name one.object start len one.agree inside

pub returns-clause-zeropage : goal.returns-clause-zeropage
returns-clause-zeropage c one key start len bits inside = zeropage-taken one.space one.kernel key one.name one.object start len bits one.agree inside

pub returns-clause-copy : goal.returns-clause-copy
returns-clause-copy c one key start from bytes bits inside source = copy-taken one.space one.kernel key one.name one.object start from bytes bits one.agree inside source

pub returns-clause-writeprotect : goal.returns-clause-writeprotect
returns-clause-writeprotect c one key start len bits inside = protect-taken one.space one.kernel key one.name one.object start len bits one.agree inside

pub returns-clause-api : goal.returns-clause-api
returns-clause-api c one api features ioctls offer none = api-taken one.space one.kernel one.name one.object api features ioctls one.agree offer none

pub returns-clause-register : goal.returns-clause-register
returns-clause-register c one start len bits ioctls calls mapped = register-taken one.space one.kernel one.name one.object start len bits ioctls one.agree calls mapped

pub returns-clause-unregister : goal.returns-clause-unregister
returns-clause-unregister c one start len = unregister-taken one.space one.kernel one.name one.object start len one.agree
