-- What a handle that C keeps owns.
use base.Fml.{Fml, ftrue, ffalse}
use denote.RawPtr.{Ptr, block_ptr, null_ptr}
use Rattle.std.specs.Coded.{Coded}
use Rattle.std.specs.declared.option.Option.{Option}
use Rattle.std.specs.declared.option.Option.TheVariants.{None, Some}
use Rattle.std.specs.declared.alloc.Global.{Global}
use Rattle.std.specs.contracts.impls.GlobalAllocator.TheImpl.{ghosts}
use Rattle.std_alloc.specs.Box.Ownership.{box_owns}
use Rattle.postmig_c.specs.declared.handle.Content.{Content}
use Rattle.postmig_c.specs.contracts.handle.Content.{the_row}

-- the code of a content
abbrev pub coded_content : Coded Content
coded_content = the_row.coded

-- the box of a content at a pointer: the content in memory, and the right to free its block
abbrev pub boxed : Global → Ptr → Content → Fml
boxed alloc at content = box_owns (ghosts.dealloc_token alloc) the_row at content

-- at null nothing is owned, and there is no content; elsewhere the box of the content
abbrev pub held : Global → Ptr → Option Content → Fml
held alloc null_ptr None = ftrue
held alloc null_ptr (Some content) = ffalse
held alloc (block_ptr block offset) None = ffalse
held alloc (block_ptr block offset) (Some content) = boxed alloc (block_ptr block offset) content
