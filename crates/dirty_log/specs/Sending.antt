-- What is sent for a page, as the code has it.
use Rattle.std.specs.Prelude.{ℕ}
use Rattle.mig_model.specs.Wire.{Frame}
use Rattle.dirty_log.specs.declared.page_content.PageContent.{PageContent}

-- the frame that is sent for a page: with the bytes that are borrowed, or saying that all are zero
abbrev pub frame_sent : ℕ → PageContent → Frame
frame_sent page (PageContent.Page bytes) = Frame.Page page bytes.now
frame_sent page PageContent.Zero = Frame.Zero page
