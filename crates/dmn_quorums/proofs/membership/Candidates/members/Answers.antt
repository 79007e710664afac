use Rattle.std.proofs.Common.{◌≡◌, map, take, ap, ◌∙◌}
use Rattle.dmn_rows.specs.Ranked.{ranked}
use Rattle.dmn_rows.proofs.Ranked.{sorted_is_ranked}
use Rattle.dmn_quorums.specs.Score.{candidate_cmp}
use Rattle.dmn_quorums.proofs.Ranking.{candidate_total, candidate_exact}
use Rattle.dmn_quorums.proofs.membership.Candidates.members.Goals as goal

pub returns-clause-members : goal.returns-clause-members
returns-clause-members c =
    let sorted : c.sort_unstable.new.self.items ≡ ranked candidate_cmp c.args.self =
    sorted_is_ranked candidate_cmp candidate_total candidate_exact _ c.sort_unstable.new.self.items c.sort_unstable.ensures.permutation c.sort_unstable.ensures.sorted ∙ ap (ranked candidate_cmp) c.self.view_is in
    let front = c.deref.ensures.value ∙ c.truncate.ensures.items ∙ ap (take c.from.result) sorted ∙ ap (λ n. take n (ranked candidate_cmp c.args.self)) c.from.ensures in
    let is = ap (map (λ d. d.hash)) front in
    rw (← is) c.hashes_of.ensures
