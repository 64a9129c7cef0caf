-- What loads, stores and map calls do in a space once its bytes are changed.
use Rattle.std.proofs.Common.{◌≡◌, ℕ, ◌*◌, ◌&&◌, Bool, true, false, cond, not, List, map, length, refl, ap, ◌∙◌}
use Rattle.std.specs.Ordering.{nat_cmp}
use Rattle.std.specs.FinMap.{contains_key}
use Rattle.std.specs.FinSet.{FinSet, contains}
use Rattle.mig_base.specs.declared.command.Access.{Access}
use Rattle.mig_base.specs.declared.command.Access.TheVariants.{Answered, Missing, Protected}
use Rattle.mig_base.specs.declared.command.Errno.TheVariants.{Enomem}
use Rattle.mig_base.specs.declared.command.Command.{Command}
use Rattle.mig_base.specs.declared.command.Command.TheVariants.{Store, Mmap, Munmap, Mremap, DontNeed}
use Rattle.mig_base.specs.declared.command.Reply.{Reply}
use Rattle.mig_base.specs.declared.command.Reply.TheVariants.{Value, Done, At, Refused}
use Rattle.mig_base.specs.declared.message.Message.{Message}
use Rattle.mig_base.specs.Commands.{is_access, is_store, page_of}
use Rattle.mig_base.specs.Flat.{reply_of}
use Rattle.mig_base.specs.Userfault.{Object, fault_queued}
use Rattle.mig_model.specs.Host.{memory}
use Rattle.mig_model.specs.Space.{Space, access_of, accessed, accessed_by, all_queued, call_messages, called, is_made, modes_after, protected_after, queued_by}
use Rattle.mig_laws.specs.Contents.{AreWholePages, IsByteMap, access_under, command_under, host_under, pages_under, reply_under, space_under}
use Rattle.mig_laws.proofs.Hosts.{host_after-under}
use Rattle.mig_laws.proofs.PageMaps.{contains_key-map_values}
use Rattle.mig_laws.proofs.Replies.{host_replied}

-- Commands

pub page_of-under : (f : ℕ → ℕ) (command : Command) → page_of (command_under f command) ≡ page_of command
page_of-under f (Store addr width value) = refl
page_of-under f _ = refl

pub is_store-under : (f : ℕ → ℕ) (command : Command) → is_store (command_under f command) ≡ is_store command
is_store-under f (Store addr width value) = refl
is_store-under f _ = refl

pub is_access-under : (f : ℕ → ℕ) (command : Command) → is_access (command_under f command) ≡ is_access command
is_access-under f (Store addr width value) = refl
is_access-under f _ = refl

is_made-under : (f : ℕ → ℕ) (reply : Reply) → is_made (reply_under f reply) ≡ is_made reply
is_made-under f (Value number) = refl
is_made-under f _ = refl

-- Loads and stores

abbrev access_at : Space → Reply → Bool → ℕ → Bool → Access
access_at space reply present page store =
    cond (not (is_made reply)) (Answered reply)
    (cond (not present && contains space.object.missing page) Missing
    (cond (store && contains space.object.protect page && contains space.protected page) Protected (Answered reply)))

chosen : (f : ℕ → ℕ) (made missing protect : Bool) (reply : Reply) →
    cond (not made) (Answered (reply_under f reply)) (cond missing Missing (cond protect Protected (Answered (reply_under f reply))))
    ≡ access_under f (cond (not made) (Answered reply) (cond missing Missing (cond protect Protected (Answered reply))))
chosen f false missing protect reply = refl
chosen f true true protect reply = refl
chosen f true false true reply = refl
chosen f true false false reply = refl

pub access_of-under : (f : ℕ → ℕ) → IsByteMap f → (space : Space) → AreWholePages space.host.bytes → (command : Command) → access_of (space_under f space) (command_under f command) ≡ access_under f (access_of space command)
access_of-under f is space whole command =
    let reply = reply_of (memory space.host) command in
    let new = reply_of (memory (host_under f space.host)) (command_under f command) in
    let pages = pages_under f space.host.bytes in
    let page = page_of command in
    let store = is_store (command_under f command) in
    ap (λ p. access_at space new (contains_key pages p) p store) (page_of-under f command)
    ∙ ap (λ b. access_at space new b page store) (contains_key-map_values (map f) space.host.bytes page)
    ∙ ap (λ b. access_at space new (contains_key space.host.bytes page) page b) (is_store-under f command)
    ∙ ap (λ r. access_at space r (contains_key space.host.bytes page) page (is_store command)) (host_replied f is space.host whole command)
    ∙ ap (λ m. cond (not m) (Answered (reply_under f reply))
    (cond (not (contains_key space.host.bytes page) && contains space.object.missing page) Missing
    (cond (is_store command && contains space.object.protect page && contains space.protected page) Protected (Answered (reply_under f reply))))) (is_made-under f reply)
    ∙ chosen f (is_made reply) _ _ reply

accessed_by-under : (f : ℕ → ℕ) → IsByteMap f → (access : Access) (space : Space) (cpu : ℕ) → AreWholePages space.host.bytes → (command : Command) →
    accessed_by (access_under f access) (space_under f space) cpu (command_under f command) ≡ space_under f (accessed_by access space cpu command)
accessed_by-under f is (Answered reply) space cpu whole command = ap (λ h. record space { host = h }) (host_after-under f is space.host whole command)
accessed_by-under f is Missing space cpu whole command =
    ap (λ p. record (space_under f space) { object = fault_queued space.object (4096 * p) (is_store (command_under f command)) false cpu }) (page_of-under f command)
    ∙ ap (λ b. record (space_under f space) { object = fault_queued space.object (4096 * page_of command) b false cpu }) (is_store-under f command)
accessed_by-under f is Protected space cpu whole command =
    ap (λ p. record (space_under f space) { object = fault_queued space.object (4096 * p) true true cpu }) (page_of-under f command)

pub accessed-under : (f : ℕ → ℕ) → IsByteMap f → (space : Space) (cpu : ℕ) → AreWholePages space.host.bytes → (command : Command) → accessed (space_under f space) cpu (command_under f command) ≡ space_under f (accessed space cpu command)
accessed-under f is space cpu whole command =
    ap (λ a. accessed_by a (space_under f space) cpu (command_under f command)) (access_of-under f is space whole command)
    ∙ accessed_by-under f is (access_of space command) space cpu whole command

-- Map calls

messages-under : (f : ℕ → ℕ) (object : Object) (command : Command) (reply : Reply) → call_messages object (command_under f command) (reply_under f reply) ≡ call_messages object command reply
messages-under f object (Mmap len prot place) (At start) = refl
messages-under f object (Munmap addr len) Done = refl
messages-under f object (Mremap addr old_len new_len may_move fixed) (At target) = refl
messages-under f object (DontNeed addr len) Done = refl
messages-under f object (DontNeed addr len) (Refused Enomem) = refl
messages-under f object _ _ = refl

modes-under : (f : ℕ → ℕ) (object : Object) (command : Command) (reply : Reply) → modes_after object (command_under f command) (reply_under f reply) ≡ modes_after object command reply
modes-under f object (Mmap len prot place) (At start) = refl
modes-under f object (Munmap addr len) Done = refl
modes-under f object (Mremap addr old_len new_len may_move fixed) (At target) = refl
modes-under f object _ _ = refl

protected-under : (f : ℕ → ℕ) (pages : FinSet nat_cmp) (command : Command) (reply : Reply) → protected_after pages (command_under f command) (reply_under f reply) ≡ protected_after pages command reply
protected-under f pages (Mmap len prot place) (At start) = refl
protected-under f pages (Munmap addr len) Done = refl
protected-under f pages (Mremap addr old_len new_len may_move fixed) (At target) = refl
protected-under f pages (DontNeed addr len) Done = refl
protected-under f pages (DontNeed addr len) (Refused Enomem) = refl
protected-under f pages _ _ = refl

pub called-under : (f : ℕ → ℕ) → IsByteMap f → (space : Space) (cpu : ℕ) → AreWholePages space.host.bytes → (command : Command) → called (space_under f space) cpu (command_under f command) ≡ space_under f (called space cpu command)
called-under f is space cpu whole command =
    let reply = reply_of (memory space.host) command in
    let new = command_under f command in
    let host = host_after-under f is space.host whole command in
    let replies = host_replied f is space.host whole command in
    let protected = ap (λ (r : Reply). protected_after space.protected new r) replies ∙ protected-under f space.protected command reply in
    let modes = ap (λ (r : Reply). modes_after space.object new r) replies ∙ modes-under f space.object command reply in
    let messages = ap (λ (r : Reply). call_messages space.object new r) replies ∙ messages-under f space.object command reply in
    λ i. record { host = host i; protected = protected i; object = all_queued (modes i) (messages i) cpu }

pub queued_by-under : (f : ℕ → ℕ) → IsByteMap f → (space : Space) → AreWholePages space.host.bytes → (command : Command) → queued_by (space_under f space) (command_under f command) ≡ queued_by space command
queued_by-under f is space whole command =
    let reply = reply_of (memory space.host) command in
    ap (λ (r : Reply). length (call_messages space.object (command_under f command) r)) (host_replied f is space.host whole command)
    ∙ ap (λ (messages : List Message). length messages) (messages-under f space.object command reply)
