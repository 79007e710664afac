use Rattle.std.proofs.Common.{◌≡◌, ◌++◌, drop, map}
use Rattle.std.specs.List.{AllByRecursion}
use Rattle.dmn_branch.specs.Drawn.{drawn_by}
use Rattle.dmn_branch.specs.Parts.{all_formed_in}
use Rattle.dmn_quorums.specs.Duty.{types_of}
use Rattle.dmn_branch.specs.Stands.{HoldsBase}
use Rattle.dmn_branch.proofs.branch.Branch.formings_of.Given as goal

abbrev pub invariant-loop-quorum : goal.invariant-loop-quorum
invariant-loop-quorum l =
    (l.formings.items ++ map (drawn_by l.drawn) (all_formed_in l.self l.height (drop l.quorum-index l.quorums)) ≡ map (drawn_by l.drawn) (all_formed_in l.self l.height l.quorums))
    × AllByRecursion (HoldsBase l.self.profile) (types_of (drop l.quorum-index l.quorums))
