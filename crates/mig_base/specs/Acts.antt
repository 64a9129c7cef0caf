-- What a handler reports when it resolves a fault.
use Rattle.std.specs.Prelude.{ℕ, ◌*◌}
use Rattle.foundation.specs.declared.TheConstants.{PAGE_SIZE}
use Rattle.mig_base.specs.declared.act.Act.{Act}
use Rattle.mig_base.specs.declared.effect.Effect.{Effect}

-- the effect of resolving a fault at an address
abbrev pub act_effect : Act → ℕ → Effect
act_effect Act.Unprotected addr = Effect.Unprotected addr
act_effect Act.Zeroed addr = Effect.Zeroed addr
act_effect Act.Woke addr = Effect.Woke addr
act_effect Act.Forgot addr = Effect.Forgot addr
act_effect (Act.Requested origin) addr = Effect.Requested (PAGE_SIZE * origin) addr
