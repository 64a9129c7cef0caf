-- Each body has a length that its header may say.
use Rattle.std.proofs.Common.{◌≡◌, ℕ, ◌+◌, ◌-◌, ◌*◌, ◌%◌, ◌≤◌, true, ◌&&◌, eqb, leb, Option, Some, None, List, [], ◌∷◌, length, refl, ap, ◌∙◌, arith}
use Rattle.std.proofs.lemmas.Bool.{and_from, eq-eqb, le-leb}
use Rattle.std.proofs.lemmas.List.{length-append}
use Rattle.foundation.specs.declared.TheConstants.{PAGE_SIZE}
use Rattle.mig_base.specs.declared.TheConstants.{LOW_PAGE, HIGH_PAGE, MAX_CPUS, MAX_RUN}
use Rattle.mig_base.specs.declared.command.Command.{Command}
use Rattle.mig_base.specs.declared.command.Command.TheVariants.{Load, Store}
use Rattle.mig_model.specs.Bounds.{AreRightAccesses}
use Rattle.mig_model.specs.Lengths.{body_len, commands_len, runs_len}
use Rattle.mig_model.specs.Wire.{Frame}
use Rattle.page_stream.specs.Texts.{body_text, header_text, tag_code}
use Rattle.page_stream.specs.Texts.Version.{Two}
use Rattle.page_stream.proofs.Encodable.{encodable}
use Rattle.page_stream.proofs.LengthBounds.{area_count-len, commands_len-bound, discard-bound, run_count-len}
use Rattle.page_stream.proofs.OneText.{text-is}
use Rattle.page_stream.proofs.TextLemmas.{length-text}
use Rattle.frame_decoder.specs.declared.version.Version.{Version}
use Rattle.frame_decoder.specs.Versions.{max_pages, allows, tag_of, IsFrameIn}
use Rattle.frame_decoder.proofs.SetReading.{pages_below}

length-body : (version : Version) (frame : Frame) → IsFrameIn version frame → length (body_text frame) ≡ body_len frame
length-body version frame h =
    let fits = encodable 0 frame (omega arith) h.right in
    omega (arith, length-text Two 0 frame fits.has fits.whole, ap length (text-is Two 0 frame fits.has), length-append (header_text Two (tag_code frame) 0 (length (body_text frame))) (body_text frame))

commands_some : (commands : List (Option Command)) → AreRightAccesses commands → length commands ≤ commands_len commands
commands_some [] h = omega arith
commands_some (None ∷ commands) h = omega (arith, commands_some commands h)
commands_some (Some (Load addr width) ∷ commands) h = omega (arith, commands_some commands h.1)
commands_some (Some (Store addr width value) ∷ commands) h = omega (arith, commands_some commands h.1)
commands_some (Some command ∷ commands) h = absurd h.0

between : (low len high : ℕ) → low ≤ len → len ≤ high → (leb low len && leb len high) ≡ true
between low len high p q = and_from (leb low len) (leb len high) (le-leb low len p) (le-leb len high q)

stepped : (low len high step left : ℕ) → low ≤ len → len ≤ high → len % step ≡ left → (leb low len && leb len high && eqb (len % step) left) ≡ true
stepped low len high step left p q r = and_from (leb low len && leb len high) (eqb (len % step) left) (between low len high p q) (eq-eqb (len % step) left r)

allowed : (version : Version) (frame : Frame) → IsFrameIn version frame → allows version (tag_of frame) (body_len frame) ≡ true
allowed version Frame.Advise h = refl
allowed version (Frame.Page page bytes) h = refl
allowed version (Frame.Zero page) h = refl
allowed version (Frame.Discard pages) h = stepped 4 (runs_len pages) (4 + 4 * (HIGH_PAGE - LOW_PAGE)) 8 4 (omega arith) (discard-bound pages (λ page there. (h.right page there).0)) (omega arith)
allowed version (Frame.Package areas owed commands) h =
    let mapped = area_count-len areas (λ page there. (h.right.0.pages page there).1) in
    let due = run_count-len owed (pages_below owed h.right.1.0) in
    let few = h.few.0 in
    let fewer = h.few.1 in
    let cpus = h.right.3.1 in
    let some = h.right.3.0 in
    let waits = commands_some commands h.right.2 in
    let long = commands_len-bound commands in
    between 10 (body_len (Frame.Package areas owed commands)) (9 + 17 * max_pages version + 18 * MAX_CPUS) (omega (arith, some, waits)) (omega (arith, mapped, due, few, fewer, cpus, long))
allowed version (Frame.End urgent) h = refl
allowed version Frame.Resume h = refl
allowed version (Frame.Run first pages) h =
    let some = h.right.0 in
    let few = h.right.1 in
    stepped (8 + PAGE_SIZE) (body_len (Frame.Run first pages)) (8 + PAGE_SIZE * MAX_RUN) PAGE_SIZE 8 (omega (arith, some)) (omega (arith, few)) (omega arith)
allowed version (Frame.Request page) h = refl
allowed version (Frame.Recv state owed) h =
    let due = run_count-len owed (pages_below owed h.right.0) in
    let few = h.few in
    stepped 5 (body_len (Frame.Recv state owed)) (5 + 8 * max_pages version) 8 5 (omega arith) (omega (arith, due, few)) (omega arith)
allowed version Frame.Done h = refl

pub body_allowed : (version : Version) (frame : Frame) → IsFrameIn version frame → allows version (tag_of frame) (length (body_text frame)) ≡ true
body_allowed version frame h = ap (allows version (tag_of frame)) (length-body version frame h) ∙ allowed version frame h
