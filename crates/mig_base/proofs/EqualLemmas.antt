-- What `==` says of the small types: that two values are the same.
use Rattle.std.proofs.Common.{◌≡◌, ◌∙◌, ℕ, Bool, true, true≢false, refl, sym, ap, ap₂, ◌&&◌, rules, Option, Decides, eqb}
use Rattle.std.proofs.lemmas.Bool.{and_parts, eqb-true}
use Rattle.std.proofs.lemmas.Bool.Decides.{Decides-and, Decides-eqb, Decides-like}
use Rattle.std.specs.Option.{option_eq}
use Rattle.mig_base.specs.declared.Prot.{Prot}
use Rattle.mig_base.specs.declared.Area.{Area}
use Rattle.mig_base.specs.declared.Run.{Run}
use Rattle.mig_base.specs.declared.command.Errno.{Errno}
use Rattle.mig_base.specs.declared.command.Place.{Place}
use Rattle.mig_base.specs.declared.command.Reply.{Reply}
use Rattle.mig_base.specs.declared.command.Command.{Command}
use Rattle.mig_base.specs.declared.command.Entry.{Entry}
use Rattle.mig_base.specs.declared.message.Message.{Message}
use Rattle.mig_base.specs.declared.cpu_state.CpuState.{CpuState}
use Rattle.mig_base.specs.declared.cpu_state.CpuState.TheVariants.{Idle, Asleep, Woken, InCall}
use Rattle.mig_base.specs.contracts.ProtPartialEq.TheImpl as prots
use Rattle.mig_base.specs.contracts.AreaPartialEq.TheImpl as areas
use Rattle.mig_base.specs.contracts.RunPartialEq.TheImpl as runs
use Rattle.mig_base.specs.contracts.command.ErrnoPartialEq.TheImpl as errnos
use Rattle.mig_base.specs.contracts.command.PlacePartialEq.TheImpl as places
use Rattle.mig_base.specs.contracts.command.ReplyPartialEq.TheImpl as replies
use Rattle.mig_base.specs.contracts.command.CommandPartialEq.TheImpl as commands
use Rattle.mig_base.specs.contracts.command.EntryPartialEq.TheImpl as entries
use Rattle.mig_base.specs.contracts.message.MessagePartialEq.TheImpl as messages
use Rattle.mig_base.specs.contracts.cpu_state.CpuStatePartialEq.TheImpl as states

pub same_prots : (a b : Prot) → Decides (prots.ghosts.eq a b) (a ≡ b)
same_prots a b = search rules

pub same_errnos : (a b : Errno) → Decides (errnos.ghosts.eq a b) (a ≡ b)
same_errnos a b = search rules

pub same_options : {A : Type 0} {E : A → A → Bool} → ((a b : A) → Decides (E a b) (a ≡ b)) → (a b : Option A) → Decides (option_eq E a b) (a ≡ b)
same_options decides a b = search rules

pub same_areas : (a b : Area) → Decides (areas.ghosts.eq a b) (a ≡ b)
same_areas a b = search rules

pub same_runs : (a b : Run) → Decides (runs.ghosts.eq a b) (a ≡ b)
same_runs a b = search rules

pub same_places : (a b : Place) → Decides (places.ghosts.eq a b) (a ≡ b)
same_places a b = search rules

pub same_replies : (a b : Reply) → Decides (replies.ghosts.eq a b) (a ≡ b)
same_replies a b = search rules

pub same_commands : (a b : Command) → Decides (commands.ghosts.eq a b) (a ≡ b)
same_commands a b = search rules

pub same_entries : (a b : Entry) → Decides (entries.ghosts.eq a b) (a ≡ b)
same_entries a b =
    Decides-like (entries.ghosts.eq a b)
    (λ same. ap (λ (cpu : ℕ). record a { cpu = cpu }) same.0 ∙ ap₂ (λ (command : Command) (reply : Reply). record { cpu = b.cpu; command = command; reply = reply }) same.1.0 same.1.1)
    (λ e. (ap (λ (entry : Entry). entry.cpu) e, (ap (λ (entry : Entry). entry.command) e, ap (λ (entry : Entry). entry.reply) e)))
    (Decides-and (eqb a.cpu b.cpu) (commands.ghosts.eq a.command b.command && replies.ghosts.eq a.reply b.reply) (Decides-eqb a.cpu b.cpu)
    (Decides-and (commands.ghosts.eq a.command b.command) (replies.ghosts.eq a.reply b.reply) (same_commands a.command b.command) (same_replies a.reply b.reply)))

pub same_messages : (a b : Message) → Decides (messages.ghosts.eq a b) (a ≡ b)
same_messages a b = search rules

told : (a b : CpuState) → states.ghosts.eq a b ≡ true → a ≡ b
told Idle Idle e = refl
told (Asleep command) (Asleep other) e = ap (λ (c : Command). Asleep c) ((same_commands command other).0 e)
told (Woken command) (Woken other) e = ap (λ (c : Command). Woken c) ((same_commands command other).0 e)
told (InCall reply left) (InCall other rest) e = let p = and_parts (replies.ghosts.eq reply other) (eqb left rest) e in ap₂ (λ (r : Reply) (n : ℕ). InCall r n) ((same_replies reply other).0 p.0) (eqb-true left rest p.1)
told Idle _ e = absurd (true≢false (sym e))
told (Asleep command) _ e = absurd (true≢false (sym e))
told (Woken command) _ e = absurd (true≢false (sym e))
told (InCall reply left) _ e = absurd (true≢false (sym e))

pub same_states : (a b : CpuState) → Decides (states.ghosts.eq a b) (a ≡ b)
same_states a b = (told a b, λ e. ap (states.ghosts.eq a) (sym e) ∙ itself a)
  where
    itself : (a : CpuState) → states.ghosts.eq a a ≡ true
    itself Idle = refl
    itself (Asleep command) = (same_commands command command).1 refl
    itself (Woken command) = (same_commands command command).1 refl
    itself (InCall reply left) = search (rules, same_replies)
