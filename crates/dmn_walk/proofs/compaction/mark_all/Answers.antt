use Rattle.std.proofs.Common.{◌+◌, false, get_or, ap, ◌∙◌, arith}
use Rattle.dmn_walk.proofs.CopySteps.{marks_none, none_marked}
use Rattle.dmn_walk.proofs.compaction.mark_all.Goals as goal

pub loop-root-init : goal.loop-root-init
loop-root-init g c =
    let marks = c.in_ok-marks.marks in
    let is = c.in_ok-marks.ensures.items_if_clones_equal (λ y e. e) in
    (marks_none marks.items (omega (arith, c.in_ok-marks.ensures.len, marks.ok.0, c.len.ensures, c.args.arena.now.nodes.ok.0)) (λ i. ap (λ z. get_or z i false) is ∙ none_marked (c.len.result + 1) i), λ k d h. absurd (omega arith))
