use Rattle.std.proofs.Common.{refl, sym, length, true, false}
use Rattle.dmn_block.specs.Shape.{least, stands_earlier}
use Rattle.dmn_block.proofs.Rules.{least_found, least_more}
use Rattle.dmn_block.proofs.Seen.{seen_before, seen_more, not_true, not_false}
use Rattle.dmn_block.proofs.shape.duplicate_id.Goals as goal

pub loop-place-init : goal.loop-place-init
unfolding least
loop-place-init c = record { none = refl; seen = λ q. rw c.new-seen.ensures.empty refl }

pub returns-in-Ok-false : goal.returns-in-Ok-false
returns-in-Ok-false c =
    let ids = c.args.ids.now in
    let known = not_false _ _ c.in-Ok-false.ensures.added c.in-Ok-false.field-0-test in
    sym (least_found (length ids) c.loop-place.place (stands_earlier ids) c.loop-place.invariant.none (seen_before ids c.loop-place.place _ c.loop-place.seen true c.loop-place-test.true c.loop-place.invariant.seen known) c.loop-place-test.true)

pub loop-place-preserved : goal.loop-place-preserved
loop-place-preserved c =
    let ids = c.args.ids.now in
    let known = not_true _ _ c.in-Ok-true.ensures.added c.in-Ok-true.field-0-test in
    record {
      none = least_more c.loop-place.place (stands_earlier ids) c.loop-place.invariant.none (seen_before ids c.loop-place.place _ c.loop-place.seen false c.loop-place-test.true c.loop-place.invariant.seen known);
      seen = seen_more ids c.loop-place.place _ c.loop-place.seen c.insert.new.self c.loop-place-test.true c.loop-place.invariant.seen c.in-Ok-true.ensures.updates;
    }
