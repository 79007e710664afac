use Rattle.dmn_rules.proofs.Effects.{answer_gives, answer_fresh}
use Rattle.dmn_rules.proofs.judging.judge_by.Goals as goal

pub returns-clause-effect : goal.returns-clause-effect
returns-clause-effect g c = answer_gives c.args.facts.now (g.L.Look.rows c.args.look.now) (g.L.Look.outputs c.args.look.now) c.args.outs.now c.args.read.now c.judge_payload.result c.requires c.judge_payload.ensures.told

pub returns-clause-fresh : goal.returns-clause-fresh
returns-clause-fresh g c = answer_fresh c.args.facts.now (g.L.Look.rows c.args.look.now) (g.L.Look.outputs c.args.look.now) c.args.outs.now c.args.read.now c.judge_payload.result c.judge_payload.ensures.told
