use Rattle.std.proofs.Common.{◌≡◌, ◌+◌, List, length, get_or, ap, ◌∙◌, sym, subst, arith}
use Rattle.std.proofs.lemmas.Result.{err_from_is_err_and}
use Rattle.dmn_held.specs.declared.data.HeightData.{HeightData}
use Rattle.dmn_rows.specs.Listing.{IsAscending, Listing}
use Rattle.dmn_restore.specs.Lists.{lists_of, lowest_list, next_list}
use Rattle.dmn_restore.specs.Proper.{AreProper, IsProper}
use Rattle.dmn_restore.specs.Restored.{list_in, listing_in}
use Rattle.dmn_restore.proofs.Ordered.{held_heights}
use Rattle.dmn_restore.proofs.Rising.{IsNext, IsUp, all_up, goes_up, lists_from, proper_next}
use Rattle.dmn_restore.specs.declared.making.Marked.{Marked}
use Rattle.dmn_restore.proofs.making.restore.Goals as goal

pub returns-in_err-made-clause-misfit : goal.returns-in_err-made-clause-misfit
returns-in_err-made-clause-misfit c = λ form proper.
    let held = c.args.held.now in
    let heights : List HeightData = c.as_slice-heights.result.now in
    let at = c.loop-place in
    let d : HeightData = c.index-heights-place.result in
    let is : get_or heights at.place d ≡ d = sym c.index-heights-place.is in
    let all : lists_from (list_in c.make_lowest.new.indexes c.in_ok-lowest.lowest) heights ≡ lists_of held = ap (λ (l : Listing). lists_from l heights) (c.in_ok-lowest.ensures.list form) ∙ ap (lists_from (lowest_list held)) c.as_slice-heights.ensures in
    let next : IsProper (at.height + 1) (next_list (listing_in at.indexes at.last) (get_or heights at.place d)) = proper_next held.low at.place at.height at.indexes at.versions.items at.last heights (lists_from (list_in c.make_lowest.new.indexes c.in_ok-lowest.lowest) heights) d c.loop-place-test.true at.invariant (subst (AreProper held.low) (sym all) proper) in
    let up : IsAscending (get_or heights at.place d).put = subst (λ (l : List HeightData). IsAscending (get_or l at.place d).put) (sym c.as_slice-heights.ensures) (held_heights held form at.place d (omega (arith, c.loop-place-test.true, ap (λ (l : List HeightData). length l) c.as_slice-heights.ensures))) in
    let p = err_from_is_err_and c.from_residual-in_err-made.result c.from_residual-in_err-made.ensures.1 in
    rw (p.1, p.2) (c.in_err-made.ensures.misfit (subst (λ (x : HeightData). IsAscending x.put) is up) (subst (λ (x : HeightData). IsProper (at.height + 1) (next_list (listing_in at.indexes at.last) x)) is next))

pub loop-place-preserved : goal.loop-place-preserved
loop-place-preserved c =
    let held = c.args.held.now in
    let heights : List HeightData = c.as_slice-heights.result.now in
    let at = c.loop-place in
    let d : HeightData = c.index-heights-place.result in
    let made : Marked = c.in_ok-made.made in
    let iy = c.make_next.new.indexes in
    let all : List Listing = lists_from (list_in c.make_lowest.new.indexes c.in_ok-lowest.lowest) heights in
    let next : IsNext (at.height + 1) at.indexes iy at.last (get_or heights at.place d) made = record {
      list = c.in_ok-made.ensures.list ∙ ap (next_list (listing_in at.indexes at.last)) c.index-heights-place.is;
      whole = c.in_ok-made.ensures.whole;
      proper = c.in_ok-made.ensures.proper;
      marks = c.in_ok-made.ensures.marks;
      keeps = c.in_ok-made.ensures.keeps;
    } in
    subst (λ (l : List Marked). IsUp held.low (at.place + 1) (at.height + 1) iy l made.version heights all) (sym c.in_ok-add-2.ensures)
    (goes_up held.low at.place at.height at.indexes iy at.versions.items at.last heights all d made c.loop-place-test.true next at.invariant)

pub returns-clause-lists : goal.returns-clause-lists
returns-clause-lists c = λ form.
    let held = c.args.held.now in
    let heights : List HeightData = c.as_slice-heights.result.now in
    let at = c.loop-place in
    let all : lists_from (list_in c.make_lowest.new.indexes c.in_ok-lowest.lowest) heights ≡ lists_of held = ap (λ (l : Listing). lists_from l heights) (c.in_ok-lowest.ensures.list form) ∙ ap (lists_from (lowest_list held)) c.as_slice-heights.ensures in
    all_up held.low at.place at.height at.indexes at.versions.items at.last heights (lists_from (list_in c.make_lowest.new.indexes c.in_ok-lowest.lowest) heights) c.loop-place-test.false at.invariant ∙ all
