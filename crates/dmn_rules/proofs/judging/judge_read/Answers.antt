use Rattle.dmn_rules.proofs.Kept.{effect_keeps}
use Rattle.dmn_rules.proofs.judging.judge_read.Goals as goal

pub returns-clause-distinct : goal.returns-clause-distinct
returns-clause-distinct g c =
    effect_keeps c.facts_of-facts.result (g.L.Look.rows c.args.look.now) (g.L.Look.outputs c.args.look.now) c.as_slice.result.now c.args.read.now c.judge_by.result c.requires.keys c.judge_by.ensures.rule c.judge_by.ensures.effect
