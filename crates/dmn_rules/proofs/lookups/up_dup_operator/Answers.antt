use Rattle.std.proofs.Common.{Some, sym, ap, ◌∙◌}
use Rattle.std.specs.Option.{option_map}
use Rattle.dmn_rows.specs.declared.rule.Rule.TheVariants.{UpDupOperator}
use Rattle.dmn_rules.specs.Provider.{is_hash, up_dup_operator}
use Rattle.dmn_rules.specs.Looking.{unless}
use Rattle.dmn_rules.proofs.Seen.{operator_unless}
use Rattle.dmn_rules.proofs.lookups.up_dup_operator.Goals as goal

pub returns-in-None : goal.returns-in-None
unfolding up_dup_operator
returns-in-None g c height =
    let out = is_hash (Some c.args.up.now.pro_tx) in
    sym (ap (option_map (λ h. UpDupOperator h)) (operator_unless c.args.up.now.operator out height (g.L.Look.rows c.args.look.now) c.requires.operators ∙ ap (unless out) (sym c.by_operator.ensures) ∙ sym c.in-None.ensures))

pub returns-in-Some : goal.returns-in-Some
unfolding up_dup_operator
returns-in-Some g c height =
    let out = is_hash (Some c.args.up.now.pro_tx) in
    sym (ap (option_map (λ h. UpDupOperator h)) (operator_unless c.args.up.now.operator out height (g.L.Look.rows c.args.look.now) c.requires.operators ∙ ap (unless out) (sym c.by_operator.ensures) ∙ sym c.in-Some.ensures))
