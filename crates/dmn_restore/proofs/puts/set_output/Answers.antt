use Rattle.dmn_restore.proofs.Steps.{set_ascends}
use Rattle.dmn_restore.proofs.puts.set_output.Goals as goal

pub returns-clause-ascending : goal.returns-clause-ascending
returns-clause-ascending c = set_ascends c.put_output.result c.args.output.now c.args.list.now.outputs c.drop_output.new.self.outputs c.put_output.new.self.outputs c.requires c.in_ok-drop_output.ensures.outputs c.put_output.ensures.outputs
