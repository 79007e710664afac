use Rattle.std.proofs.Common.{◌+◌, ◌∙◌, sym, ap, arith}
use Rattle.dmn_indexes.specs.Working.{counted}
use Rattle.dmn_branch.proofs.Events.{found_by_hash, none_by_hash}
use Rattle.dmn_branch.proofs.Keys.{drop_found, drop_none}
use Rattle.dmn_rows.specs.Rows.{has_collateral}
use Rattle.dmn_branch.proofs.spends.drop_collateral.Goals as goal

pub returns-in_ok-drop_row-in-Some-clause-rows : goal.returns-in_ok-drop_row-in-Some-clause-rows
returns-in_ok-drop_row-in-Some-clause-rows c = c.in_ok-drop_row-in-Some.ensures.rows ∙ drop_found c.args.point.now c.in-Some.hash c.args.list.now.rows c.requires (sym c.in-Some.ensures)

pub returns-in_ok-drop_row-in-Some-clause-events : goal.returns-in_ok-drop_row-in-Some-clause-events
returns-in_ok-drop_row-in-Some-clause-events c =
    c.in_ok-drop_row-in-Some.ensures.events
    ∙ ap (λ b. c.args.list.now.events + counted b) (found_by_hash (has_collateral c.args.point.now) c.in-Some.hash c.args.list.now.rows (sym c.in-Some.ensures))

pub returns-in-None-clause-rows : goal.returns-in-None-clause-rows
returns-in-None-clause-rows c = sym (drop_none c.args.point.now c.args.list.now.rows (sym c.in-None.ensures))

pub returns-in-None-clause-events : goal.returns-in-None-clause-events
returns-in-None-clause-events c = let none = ap counted (none_by_hash (has_collateral c.args.point.now) c.args.list.now.rows (sym c.in-None.ensures)) in omega (arith, none)
