-- A frame of the machine can be read back from its text.
use Rattle.std.proofs.lemmas.Bool.Decides.{nat_tests}
use Rattle.std.proofs.Common.{◌≡◌, ℕ, ◌^◌, ◌<◌, true, Option, Some, None, List, [], ◌∷◌, length, arith}
use Rattle.std.specs.List.{AllByRecursion}
use Rattle.mig_base.specs.declared.command.Command.{Command}
use Rattle.mig_base.specs.declared.command.Command.TheVariants.{Load, Store}
use Rattle.mig_base.specs.Flat.{is_width}
use Rattle.page_stream.specs.Texts.{IsEncodable, FitsCommand}
use Rattle.page_stream.specs.Texts.Version.{Two}
use Rattle.mig_model.specs.Bounds.{IsFrame, AreRightAccesses, ArePageBytes}
use Rattle.mig_model.specs.Wire.{Frame}
use Rattle.mig_model.proofs.memory.Facts.{and_left}

pub fits_value : (width value : ℕ) → is_width width ≡ true → value < 256 ^ width → value < 2 ^ 64
fits_value width value h l = grind (arith, nat_tests)

fits_commands : (commands : List (Option Command)) → AreRightAccesses commands → AllByRecursion FitsCommand commands
fits_commands [] h = tt
fits_commands (None ∷ commands) h = (tt, fits_commands commands h)
fits_commands (Some (Load addr width) ∷ commands) h = (h.0.1, fits_commands commands h.1)
fits_commands (Some (Store addr width value) ∷ commands) h = grind (arith, nat_tests, fits_value, and_left, fits_commands commands h.1)
fits_commands (Some command ∷ commands) h = absurd h.0

whole_run : (pages : List (List ℕ)) → ArePageBytes pages → AllByRecursion (λ bytes. length bytes ≡ 4096) pages
whole_run [] h = tt
whole_run (bytes ∷ pages) h = (h.0.0, whole_run pages h.1)

pub encodable : (epoch : ℕ) (frame : Frame) → epoch < 2 ^ 32 → IsFrame frame → IsEncodable Two epoch frame
encodable epoch frame small h = grind (arith, nat_tests, whole_run, fits_commands)
