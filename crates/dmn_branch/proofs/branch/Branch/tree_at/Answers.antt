use Rattle.std.proofs.Common.{Option, refl, sym, subst}
use Rattle.dmn_bytes.specs.Points.{hash_cmp}
use Rattle.dmn_branch.specs.Asked.{rows_at}
use Rattle.dmn_branch.specs.Parts.{IsTreeOf}
use Rattle.dmn_versions.proofs.Versions.{sound_empty}
use Rattle.dmn_branch.proofs.Changing.{no_tree}
use Rattle.dmn_branch.proofs.branch.Branch.tree_at.Goals as goal

pub returns-in-None-clause-sound : goal.returns-in-None-clause-sound
returns-in-None-clause-sound c = sound_empty hash_cmp c.args.self.now.indexes.rows.nodes.items 0 refl

pub returns-in-None-clause-rows : goal.returns-in-None-clause-rows
returns-in-None-clause-rows c = λ m stands.
    let b = c.args.self.now in
    subst (λ (o : Option _). IsTreeOf b.indexes (record { 0 = 0 }) (rows_at m o)) (sym c.in-None.is) (no_tree b.indexes (record { 0 = 0 }) refl)
