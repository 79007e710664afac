use Rattle.std.proofs.Common.{refl, sym, ap, ◌∙◌}
use Rattle.std.specs.Option.{option_map}
use Rattle.dmn_rows.specs.declared.rule.Rule.TheVariants.{DupOperator}
use Rattle.dmn_rows.specs.Rows.{has_operator}
use Rattle.dmn_rules.proofs.Seen.{some_row-plain}
use Rattle.dmn_rules.proofs.lookups.dup_operator.Goals as goal

pub returns-in-None : goal.returns-in-None
returns-in-None g c height =
    sym (some_row-plain (has_operator c.args.key.now) (λ _ _. refl) (λ h. DupOperator h) height (g.L.Look.rows c.args.look.now) ∙ ap (option_map (λ h. DupOperator h)) (sym c.in-None.ensures))

pub returns-in-Some : goal.returns-in-Some
returns-in-Some g c height =
    sym (some_row-plain (has_operator c.args.key.now) (λ _ _. refl) (λ h. DupOperator h) height (g.L.Look.rows c.args.look.now) ∙ ap (option_map (λ h. DupOperator h)) (sym c.in-Some.ensures))
