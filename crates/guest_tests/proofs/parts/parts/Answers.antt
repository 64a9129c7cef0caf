use Rattle.std.proofs.Common.{ℕ}
use Rattle.std.proofs.lemmas.List.{length-replicate}
use Rattle.guest_tests.proofs.SoundLemmas.{two_pages_are_sound}
use Rattle.guest_tests.proofs.parts.parts.Goals as goal

pub returns-clause-sound : goal.returns-clause-sound
returns-clause-sound c = two_pages_are_sound c.in_ok-areas.areas c.in_ok-pages.pages.bytes _ c.in_ok-areas.ensures c.in_ok-pages.ensures.bytes (length-replicate {A = ℕ} 4096 7)
