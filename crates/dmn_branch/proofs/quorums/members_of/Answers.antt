use Rattle.std.proofs.Common.{◌≡◌, ◌++◌, ◌∷◌, [], Some, List, sym, ap, ◌∙◌}
use Rattle.std.specs.Option.{option_copied}
use Rattle.std.specs.Prelude.{slice_get}
use Rattle.dmn_indexes.specs.Version.{rows_in}
use Rattle.dmn_quorums.specs.declared.membership.Candidate.{Candidate}
use Rattle.dmn_quorums.specs.Score.{candidates}
use Rattle.dmn_branch.proofs.Ranks.{candidates_more}
use Rattle.dmn_branch.proofs.quorums.members_of.Goals as goal

pub loop-rank-preserved : goal.loop-rank-preserved
loop-rank-preserved c =
    let rows = rows_in c.args.indexes.now c.args.base.now.version in
    let row = c.in-Some.row.now in
    let some : slice_get rows c.loop-rank.rank ≡ Some row = sym c.row_at.ensures ∙ ap option_copied c.in-Some.is in
    c.in_ok-add-in-Some.ensures ∙ ap (λ (l : List Candidate). l ++ candidates (row ∷ []) c.modifier-modifier.result) c.loop-rank.invariant ∙ sym (candidates_more rows c.loop-rank.rank row c.modifier-modifier.result some)
