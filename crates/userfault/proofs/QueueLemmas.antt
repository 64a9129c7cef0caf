-- Queues of messages.
use Rattle.std.proofs.Common.{◌≡◌, ℕ, ◌||◌, Bool, List, [], ◌∷◌, Decides, eqb, refl, ap, ap₂}
use Rattle.std.proofs.lemmas.Bool.Decides.{Decides-and, Decides-eqb, Decides-like}
use Rattle.std.specs.List.{list_any}
use Rattle.mig_base.specs.Userfault.{Noted, is_fault_at, waits_fault}
use Rattle.mig_base.specs.declared.message.Message.{Message}
use Rattle.mig_base.specs.contracts.message.MessagePartialEq.TheImpl as messages
use Rattle.mig_base.proofs.EqualLemmas.{same_messages}
use Rattle.userfault.specs.contracts.noted.NotedPartialEq.TheImpl as unread

-- a fault waits where one of the messages is it
pub any_waits : (faults : List Noted) (addr : ℕ) (kind : Bool) → list_any (λ noted. is_fault_at noted.message addr kind) faults ≡ waits_fault faults addr kind
any_waits [] addr kind = refl
any_waits (noted ∷ rest) addr kind = ap (λ b. is_fault_at noted.message addr kind || b) (any_waits rest addr kind)

-- what `==` says of two messages
pub same_noted : (a b : Noted) → Decides (unread.ghosts.eq a b) (a ≡ b)
same_noted a b =
    Decides-like (unread.ghosts.eq a b)
    (λ same. ap₂ (λ (message : Message) (cpu : ℕ). record { message = message; cpu = cpu }) same.0 same.1)
    (λ e. (ap (λ (noted : Noted). noted.message) e, ap (λ (noted : Noted). noted.cpu) e))
    (Decides-and (messages.ghosts.eq a.message b.message) (eqb a.cpu b.cpu) (same_messages a.message b.message) (Decides-eqb a.cpu b.cpu))
