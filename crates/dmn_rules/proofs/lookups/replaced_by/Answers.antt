use Rattle.std.proofs.Common.{refl, sym, ◌∙◌}
use Rattle.dmn_rows.specs.Rows.{has_collateral}
use Rattle.dmn_rules.proofs.Seen.{hash_where-plain}
use Rattle.dmn_rules.proofs.lookups.replaced_by.Goals as goal

pub returns-clause-seen : goal.returns-clause-seen
returns-clause-seen g c height = c.by_collateral.ensures ∙ sym (hash_where-plain (has_collateral c.args.point.now) (λ _ _. refl) height (g.L.Look.rows c.args.look.now))
