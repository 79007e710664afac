use Rattle.std.proofs.Common.{refl}
use Rattle.dmn_rows.specs.Rows.{has_hash}
use Rattle.dmn_rules.proofs.Seen.{find-plain}
use Rattle.dmn_rules.proofs.lookups.row_at.Goals as goal

pub returns-in-None : goal.returns-in-None
returns-in-None g c = rw (find-plain (has_hash c.args.hash.now) (λ _ _. refl) c.args.height (g.L.Look.rows c.args.look.now), ← c.in-None.ensures) refl

pub returns-in-Some : goal.returns-in-Some
returns-in-Some g c = rw (find-plain (has_hash c.args.hash.now) (λ _ _. refl) c.args.height (g.L.Look.rows c.args.look.now), ← c.in-Some.ensures, c.plain_at.ensures) refl
