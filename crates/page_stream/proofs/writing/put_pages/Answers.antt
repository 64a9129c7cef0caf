use Rattle.std.proofs.Common.{ℕ, ◌+◌, ◌≤◌, List, ◌++◌, length, sym, subst, vec_len, vec_capacity}
use Rattle.std.specs.List.{flat_map}
use Rattle.std.specs.Int.{w32, to_be_bytes}
use Rattle.page_stream.specs.Writing.{Puts}
use Rattle.page_stream.proofs.Puts.{puts_all, puts_room}
use Rattle.page_stream.proofs.writing.put_pages.Goals as goal

pub put-requires-in-loop-page : goal.put-requires-in-loop-page
put-requires-in-loop-page c =
    let head = to_be_bytes w32 c.args.first ++ to_be_bytes w32 (length c.args.pages.now) in
    let room = subst (λ (pages : List (List ℕ)). vec_len c.args.into.now + length (head ++ flat_map (λ page. page) pages) ≤ vec_capacity c.args.into.now) (sym c.as_slice-page-items.ensures) c.requires.room in
    rw (c.as_array.ensures, c.page-item.is) (puts_room c.args.into.now c.loop-page.into head (λ (page : List ℕ). page) c.as_slice-page-items.result.now c.loop-page.page-index c.page-item.result c.loop-page-test.true room c.loop-page.invariant)

pub returns : goal.returns
returns c =
    let head = to_be_bytes w32 c.args.first ++ to_be_bytes w32 (length c.args.pages.now) in
    subst (λ (pages : List (List ℕ)). Puts c.args.into.now c.loop-page.into (head ++ flat_map (λ page. page) pages)) c.as_slice-page-items.ensures
    (puts_all c.args.into.now c.loop-page.into head (λ (page : List ℕ). page) c.as_slice-page-items.result.now c.loop-page.page-index c.loop-page-test.false c.loop-page.invariant)
