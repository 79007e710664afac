use Rattle.dmn_snapshot.proofs.Parts.{has_slot, opened}
use Rattle.dmn_snapshot.proofs.laying.write.Goals as goal

pub returns-in_err-lay-clause-moments : goal.returns-in_err-lay-clause-moments
returns-in_err-lay-clause-moments g c = λ stored is text still. opened c.args.slot c.args.text.now stored _ _ _ is text (c.lay.ensures.moments still)

pub returns-clause-moments : goal.returns-clause-moments
returns-clause-moments g c = λ stored is text still. opened c.args.slot c.args.text.now stored _ _ _ is text (c.lay.ensures.moments still)

pub returns-clause-done : goal.returns-clause-done
returns-clause-done g c = λ stored is text still. has_slot c.args.slot c.args.text.now stored _ is text (c.in_ok-lay.ensures.done still)
