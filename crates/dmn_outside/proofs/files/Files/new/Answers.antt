use Rattle.std.proofs.Common.{◌∙◌, sym, subst}
use Rattle.dmn_outside.specs.Stored.{AreBefore}
use Rattle.dmn_outside.proofs.Replay.{contents_none, told_none, past_none}
use Rattle.dmn_outside.proofs.files.Files.new.Goals as goal

pub invariant_of-result : goal.invariant_of-result
invariant_of-result c = record {
  is_now = contents_none _ _ c.new-2.result.items (c.new.ensures.now ∙ sym c.new.ensures.begun) c.new-2.ensures.items;
  is_past = subst (AreBefore 0) (sym c.new-2.ensures.items) tt;
}

pub returns-clause-told : goal.returns-clause-told
returns-clause-told c = told_none _ _ c.new-2.result.items _ c.new.ensures.begun c.new-2.ensures.items c.new-3.ensures

pub returns-clause-past : goal.returns-clause-past
returns-clause-past c = past_none _ c.new-2.result.items c.new-2.ensures.items
