use Rattle.std.proofs.Common.{sym, ◌∙◌}
use Rattle.dmn_rows.proofs.Sorted.{is_some-find}
use Rattle.dmn_sml.specs.Defs.{has_hash}
use Rattle.dmn_sml.proofs.list.SmlList.delete.Goals as goal

pub returns-clause-was : goal.returns-clause-was
returns-clause-was c = rw (sym c.self.view_is) (c.drop_sorted.ensures.was ∙ is_some-find (has_hash c.args.hash.now) c.self.inside.entries.items)
