use Rattle.std.proofs.Common.{refl, sym, ap, ◌∙◌}
use Rattle.std.specs.Option.{option_map}
use Rattle.dmn_rows.specs.declared.rule.Rule.TheVariants.{DupOwner}
use Rattle.dmn_rows.specs.Rows.{has_owner}
use Rattle.dmn_rules.proofs.Seen.{some_row-plain}
use Rattle.dmn_rules.proofs.lookups.dup_owner.Goals as goal

pub returns-in-None : goal.returns-in-None
returns-in-None g c height =
    sym (some_row-plain (has_owner c.args.key.now) (λ _ _. refl) (λ h. DupOwner h) height (g.L.Look.rows c.args.look.now) ∙ ap (option_map (λ h. DupOwner h)) (sym c.in-None.ensures))

pub returns-in-Some : goal.returns-in-Some
returns-in-Some g c height =
    sym (some_row-plain (has_owner c.args.key.now) (λ _ _. refl) (λ h. DupOwner h) height (g.L.Look.rows c.args.look.now) ∙ ap (option_map (λ h. DupOwner h)) (sym c.in-Some.ensures))
