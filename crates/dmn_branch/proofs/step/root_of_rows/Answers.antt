use Rattle.std.proofs.Common.{◌≡◌, ◌++◌, ◌∷◌, [], Some, take, map, sym, ap, ◌∙◌, subst, arith}
use Rattle.std.specs.Option.{option_copied}
use Rattle.std.specs.Prelude.{slice_get}
use Rattle.dmn_bytes.specs.declared.hash.Hash256.{Hash256}
use Rattle.dmn_merkle.specs.OnePass.{Holds}
use Rattle.dmn_sml.specs.Defs.{leaf, simple}
use Rattle.dmn_branch.proofs.Ranks.{leaves_more}
use Rattle.dmn_branch.proofs.step.root_of_rows.Goals as goal

pub loop-rank-preserved : goal.loop-rank-preserved
loop-rank-preserved c =
    let rows = c.args.list.now.rows in
    let some : slice_get rows c.loop-rank.rank ≡ Some c.in-Some.row.now = sym c.row_at.ensures ∙ ap option_copied c.in-Some.is in
    let held = c.push.ensures.added (map leaf (simple (take c.loop-rank.rank rows))) c.loop-rank.invariant.held in
    record {
      held = subst (Holds c.push.new.self) (ap (λ (h : Hash256). map leaf (simple (take c.loop-rank.rank rows)) ++ h ∷ []) c.leaf.ensures ∙ sym (leaves_more rows c.loop-rank.rank c.in-Some.row.now some)) held;
      counted = omega (arith, c.push.ensures.count, c.loop-rank.invariant.counted);
    }
