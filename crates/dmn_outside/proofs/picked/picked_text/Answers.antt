use Rattle.std.proofs.Common.{take, sym, ◌∙◌, subst}
use Rattle.dmn_outside.specs.Disk.{Three, File, pick}
use Rattle.dmn_outside.specs.Stored.{begin, begun_of, replayed}
use Rattle.dmn_outside.specs.Picked.{Follows}
use Rattle.dmn_outside.proofs.Replay.{replay_none, replay_more, follows_begin}
use Rattle.dmn_outside.proofs.picked.picked_text.Goals as goal

pub loop-done-init : goal.loop-done-init
loop-done-init c =
    subst (λ (w : Three File). Follows c.args.how (pick c.args.file w) c.in_ok-from_slice.field-0.items c.in_ok-from_slice-2.field-0.items) (sym (replay_none (begin (begun_of c.args.files.now)) c.args.changes.now))
    (follows_begin c.args.how (begun_of c.args.files.now) c.args.file _ _ (c.in_ok-from_slice.ensures.items ∙ c.begun-begun.ensures) (c.in_ok-from_slice-2.ensures.items ∙ c.begun-begun.ensures))

pub loop-done-preserved : goal.loop-done-preserved
loop-done-preserved c =
    let k = c.loop-done.done-index in
    subst (λ (w : Three File). Follows c.args.how (pick c.args.file w) c.in_ok-pair.pair.reads.items c.in_ok-pair.pair.image.items)
    (sym (replay_more (begin (begun_of c.args.files.now)) c.args.changes.now k c.done-item.result c.loop-done-test.true c.done-item.is))
    (c.in_ok-pair.ensures (replayed (begin (begun_of c.args.files.now)) (take k c.args.changes.now)) c.loop-done.invariant)
