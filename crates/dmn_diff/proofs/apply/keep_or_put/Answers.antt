use Rattle.std.proofs.Common.{sym, ◌∙◌}
use Rattle.dmn_diff.proofs.Steps.{step_keep_none, step_put, step_replace, step_keep}
use Rattle.dmn_diff.proofs.apply.keep_or_put.Goals as goal

pub returns-in-None : goal.returns-in-None
returns-in-None c = λ rest deleted p above. step_keep_none c.args.first.now rest deleted c.args.entries.now c.in-None.ensures.value above

pub returns-in-Less : goal.returns-in-Less
returns-in-Less c = λ rest deleted p above. step_put c.args.first.now rest deleted c.args.entries.now c.in-Some.entry.now c.in-Some.ensures.value c.requires p (sym c.cmp.ensures ∙ c.in-Less.is)

pub returns-in-Equal : goal.returns-in-Equal
returns-in-Equal c = λ rest deleted p above. step_replace c.args.first.now rest deleted c.args.entries.now c.in-Some.entry.now c.in-Some.ensures.value c.requires p above (sym c.cmp.ensures ∙ c.in-Equal.is)

pub returns-in-Greater : goal.returns-in-Greater
returns-in-Greater c = λ rest deleted p above. step_keep c.args.first.now rest deleted c.args.entries.now c.in-Some.entry.now c.in-Some.ensures.value c.requires above (sym c.cmp.ensures ∙ c.in-Greater.is)
