use Rattle.dmn_indexes.specs.Working.{listing}
use Rattle.dmn_restore.proofs.Going.{IsLeft, left_ascends, left_keys, left_penalties, list_is, may_go_on, points_ascend}
use Rattle.dmn_restore.proofs.height.go_on.Goals as goal

pub put_all-requires-clause-ascending : goal.put_all-requires-clause-ascending
put_all-requires-clause-ascending c =
    let left : IsLeft c.args.list.now.rows c.args.change.now.removed c.args.change.now.put c.drop_all.new.list.rows = record { is = c.in_ok-drop_all.ensures.rows } in
    left_ascends left c.requires.ascending

pub put_all-requires-clause-outputs : goal.put_all-requires-clause-outputs
put_all-requires-clause-outputs c = points_ascend c.args.change.now.spent c.args.list.now.outputs c.drop_all.new.list.outputs c.in_ok-drop_all.ensures.outputs c.requires.outputs

pub put_all-requires-clause-keys : goal.put_all-requires-clause-keys
put_all-requires-clause-keys c =
    let left : IsLeft c.args.list.now.rows c.args.change.now.removed c.args.change.now.put c.drop_all.new.list.rows = record { is = c.in_ok-drop_all.ensures.rows } in
    left_keys left c.requires.keys

pub put_all-requires-clause-penalties : goal.put_all-requires-clause-penalties
put_all-requires-clause-penalties c =
    let left : IsLeft c.args.list.now.rows c.args.change.now.removed c.args.change.now.put c.drop_all.new.list.rows = record { is = c.in_ok-drop_all.ensures.rows } in
    left_penalties c.args.height left c.requires.penalties

pub returns-clause-list : goal.returns-clause-list
returns-clause-list c =
    list_is c.put_all.result (listing c.args.list.now) c.args.change.now c.drop_all.new.list c.put_all.new.list (record { is = c.in_ok-drop_all.ensures.rows }) c.in_ok-drop_all.ensures.outputs c.requires.ascending
    (rw c.as_slice.ensures at c.put_all.ensures.rows) (rw c.as_slice-2.ensures at c.put_all.ensures.outputs)

pub returns-clause-misfit : goal.returns-clause-misfit
returns-clause-misfit c = λ up proper.
    let may = may_go_on c.args.height (listing c.args.list.now) c.args.change.now c.drop_all.new.list.rows c.drop_all.new.list.outputs (record { is = c.in_ok-drop_all.ensures.rows }) c.in_ok-drop_all.ensures.outputs c.requires.ascending up proper in
    (rw (c.as_slice.ensures, c.as_slice-2.ensures) at c.put_all.ensures.misfit) may.may may.masternodes may.collaterals
