use Rattle.std.proofs.Common.{◌∙◌, ap, arith, ◌/◌, length-append}
use Rattle.std.proofs.lemmas.Result.{IfOk-weaker}
use Rattle.owed_pages.specs.Tables.{number_in, page_number, has_place, is_place}
use Rattle.owed_pages.proofs.TableLemmas.{number_at-push, numbers_stay}
use Rattle.owed_pages.proofs.owed.table.make_leaf.Goals as goal
use Rattle.mig_base.proofs.PlaceLemmas.{read_place, has_place-push, place_of_set, places_kept}

pub loop-places-preserved : goal.loop-places-preserved
loop-places-preserved c = record {
  same = λ q. ap (λ xs. page_number xs q) c.in-Ok.ensures.items ∙ number_at-push c.loop-places.places.items q ∙ c.loop-places.invariant.same q;
  kept = λ q. ap (λ xs. has_place xs q) c.in-Ok.ensures.items ∙ has_place-push c.loop-places.places.items q ∙ c.loop-places.invariant.kept q;
  few = rw c.in-Ok.ensures.items (simp length-append (omega arith));
}

pub returns-clause-same : goal.returns-clause-same
returns-clause-same c = λ q.
    numbers_stay c.loop-places.places.items (c.args.page / 1024) c.place_make.new.place (omega arith)
    (λ i. c.place_make.ensures.same i ∙ ap (λ o. number_in o i) (read_place c.loop-places.places.items (c.args.page / 1024) c.index_mut.result.now (omega arith) c.index_mut.ensures.value)) q
    ∙ c.loop-places.invariant.same q

pub returns-clause-there : goal.returns-clause-there
returns-clause-there c = IfOk-weaker c.place_make.result _ _ (λ x h. place_of_set c.loop-places.places.items c.args.page c.place_make.new.place (omega arith) h) c.place_make.ensures.there

pub returns-clause-stay : goal.returns-clause-stay
returns-clause-stay c = λ q h.
    places_kept c.loop-places.places.items (c.args.page / 1024) c.place_make.new.place (omega arith)
    (λ t. c.place_make.ensures.stays (ap is_place (read_place c.loop-places.places.items (c.args.page / 1024) c.index_mut.result.now (omega arith) c.index_mut.ensures.value) ∙ t))
    q (c.loop-places.invariant.kept q ∙ h)
