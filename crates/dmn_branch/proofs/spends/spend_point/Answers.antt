use Rattle.std.proofs.Common.{◌∙◌, sym, subst}
use Rattle.dmn_rows.specs.Distinct.{HasDistinctKeys}
use Rattle.dmn_rules.proofs.Distinct.{HasDistinctKeys-filter}
use Rattle.dmn_branch.proofs.spends.spend_point.Goals as goal

pub returns-clause-keys : goal.returns-clause-keys
returns-clause-keys c = subst HasDistinctKeys (sym (c.in_ok-drop_output.ensures.rows ∙ c.in_ok-drop_collateral.ensures.rows)) (HasDistinctKeys-filter _ c.args.list.now.rows c.requires)
