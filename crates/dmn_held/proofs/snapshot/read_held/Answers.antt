use Rattle.std.proofs.Common.{arith}
use Rattle.dmn_held.specs.Snapshot.{snapshot, snapshot_to_end}
use Rattle.dmn_held.proofs.Whole.{whole_found, whole_only, whole_departs}
use Rattle.dmn_held.proofs.snapshot.read_held.Goals as goal

pub returns-clause-found : goal.returns-clause-found
returns-clause-found c = whole_found snapshot snapshot_to_end c.args.text.now c.all_of.result (λ i. omega (arith, c.type_inv.text i)) c.all_of.ensures

pub returns-clause-only : goal.returns-clause-only
returns-clause-only c = λ held fits e. whole_only snapshot snapshot_to_end c.args.text.now c.all_of.result held c.all_of.ensures fits e

pub returns-clause-within : goal.returns-clause-within
returns-clause-within c = whole_departs snapshot snapshot_to_end c.args.text.now c.all_of.result (λ i. omega (arith, c.type_inv.text i)) c.all_of.ensures
