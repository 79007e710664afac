use Rattle.std.proofs.Common.{◌+◌, sym, List, get_or, take, drop, subst, arith}
use Rattle.std.specs.List.{All}
use Rattle.std.proofs.lemmas.List.Elements.{All-push}
use Rattle.dmn_held.specs.declared.data.HeightData.{HeightData}
use Rattle.dmn_held.specs.Height.{height_data}
use Rattle.dmn_branch.specs.declared.held.Held.{Held}
use Rattle.dmn_branch.specs.Telling.{AreChanges}
use Rattle.dmn_branch.proofs.Holding.{last_is}
use Rattle.dmn_branch.proofs.Telling.{changes_step, tellable_at, rest_taken}
use Rattle.dmn_branch.proofs.to_data.changes_of.Goals as goal

pub change_of-requires-clause-before : goal.change_of-requires-clause-before
change_of-requires-clause-before c = tellable_at c.args.indexes.now c.args.held.now.held c.loop-place.place c.get.result.now c.requires.tellable (omega (arith, c.loop-place-test.true, c.len-many.ensures)) c.get.ensures

pub change_of-requires-clause-after : goal.change_of-requires-clause-after
change_of-requires-clause-after c = tellable_at c.args.indexes.now c.args.held.now.held (c.loop-place.place + 1) c.get-in-loop-place.result.now c.requires.tellable (omega (arith, c.loop-place-test.true, c.len-many.ensures)) c.get-in-loop-place.ensures

pub loop-place-preserved : goal.loop-place-preserved
loop-place-preserved c =
    let ix = c.args.indexes.now in
    let held = c.args.held.now.held in
    let at = c.loop-place in
    record {
      height = omega (arith, at.invariant.height);
      told = λ first. subst (λ (l : List HeightData). AreChanges ix c.args.quorums.now c.args.low c.args.mined.now (get_or held 0 first) (take (at.place + 1) (drop 1 held)) l) (sym c.in_ok-add.ensures)
          (changes_step ix c.args.quorums.now c.args.low c.args.mined.now held at.place at.height c.get.result.now c.get-in-loop-place.result.now first at.changes.items c.in_ok-change.change (omega (arith, c.loop-place-test.true, c.len-many.ensures)) at.invariant.height c.get.ensures c.get-in-loop-place.ensures (at.invariant.told first) c.in_ok-change.ensures.told);
      form = subst (λ (l : List HeightData). All height_data.Fits l) (sym c.in_ok-add.ensures) (All-push height_data.Fits at.changes.items c.in_ok-change.change at.invariant.form c.in_ok-change.ensures.form);
    }

pub returns-clause-told : goal.returns-clause-told
returns-clause-told c = λ first is.
    let held = c.args.held.now.held in
    let at = c.loop-place in
    let told = subst (λ (h : Held). AreChanges c.args.indexes.now c.args.quorums.now c.args.low c.args.mined.now h (take at.place (drop 1 held)) at.changes.items) (last_is held 0 first first is) (at.invariant.told first) in
    subst (λ (l : List Held). AreChanges c.args.indexes.now c.args.quorums.now c.args.low c.args.mined.now first l at.changes.items) (rest_taken held at.place (omega (arith, c.loop-place-test.false, c.len-many.ensures))) told
