use Rattle.std.proofs.Common.{◌∙◌, sym, ap, arith, ◌/◌, ◌%◌, length-append}
use Rattle.std.proofs.lemmas.Result.{IfOk-weaker, on_err_weaker}
use Rattle.mig_base.proofs.PageSetViews.{on_any_err}
use Rattle.page_table.specs.Leaves.{cell_in, cell_at, has_place, is_place}
use Rattle.page_table.proofs.TableLemmas.{cell_at-push, cells_stay, past_places, at_own_place, nothing_in}
use Rattle.page_table.proofs.table.make_place.Goals as goal
use Rattle.mig_base.proofs.PlaceLemmas.{read_place, has_place-push, place_of_set, places_kept}

pub loop-places-preserved : goal.loop-places-preserved
loop-places-preserved c = record {
  same = λ q. ap (λ xs. cell_at xs q) c.in_ok-push.ensures.items ∙ cell_at-push c.loop-places.places.items q ∙ c.loop-places.invariant.same q;
  kept = λ q. ap (λ xs. has_place xs q) c.in_ok-push.ensures.items ∙ has_place-push c.loop-places.places.items q ∙ c.loop-places.invariant.kept q;
  few = rw c.in_ok-push.ensures.items (simp length-append (omega arith));
}

pub returns-clause-same : goal.returns-clause-same
returns-clause-same c = λ q.
    cells_stay c.loop-places.places.items (c.args.page / 1024) c.place_make.new.place (omega arith)
    (λ i. c.place_make.ensures.same i ∙ ap (λ o. cell_in o i) (read_place c.loop-places.places.items (c.args.page / 1024) c.index_mut.result.now (omega arith) c.index_mut.ensures.value)) q
    ∙ c.loop-places.invariant.same q

pub returns-clause-there : goal.returns-clause-there
returns-clause-there c = IfOk-weaker c.place_make.result _ _ (λ x h. place_of_set c.loop-places.places.items c.args.page c.place_make.new.place (omega arith) h) c.place_make.ensures.there

pub returns-clause-stay : goal.returns-clause-stay
returns-clause-stay c = λ q h.
    places_kept c.loop-places.places.items (c.args.page / 1024) c.place_make.new.place (omega arith)
    (λ t. c.place_make.ensures.stays (ap is_place (read_place c.loop-places.places.items (c.args.page / 1024) c.index_mut.result.now (omega arith) c.index_mut.ensures.value) ∙ t))
    q (c.loop-places.invariant.kept q ∙ h)

pub returns-in_err-push-clause-missing : goal.returns-in_err-push-clause-missing
returns-in_err-push-clause-missing c = on_any_err c.from_residual.result (ap (λ x. x.0) (sym (c.loop-places.invariant.same c.args.page) ∙ past_places c.loop-places.places.items c.args.page (omega (arith, c.loop-places-test.true))))

pub returns-clause-missing : goal.returns-clause-missing
returns-clause-missing c = on_err_weaker c.place_make.result
    (λ none. ap (λ x. x.0) (sym (c.loop-places.invariant.same c.args.page) ∙ sym (at_own_place c.loop-places.places.items c.index_mut.result.now c.args.page (omega arith) c.index_mut.ensures.value)) ∙ nothing_in c.index_mut.result.now (c.args.page % 1024) none)
    c.place_make.ensures.missing
