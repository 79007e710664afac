use Rattle.std.proofs.Common.{sym, ap}
use Rattle.dmn_snapshot.specs.Slot.{slot, slot_behind, value_of}
use Rattle.dmn_snapshot.proofs.Gates.{none_of}
use Rattle.dmn_snapshot.proofs.slot.stored_behind.Goals as goal

pub returns-in-Ok-clause-is : goal.returns-in-Ok-clause-is
unfolding slot_behind
returns-in-Ok-clause-is c = sym (ap value_of (rw (c.new-reader.ensures.text, c.new-reader.ensures.at) at c.in-Ok.ensures.gives.0))

pub returns-in-Departs-clause-is : goal.returns-in-Departs-clause-is
unfolding slot_behind
returns-in-Departs-clause-is c = none_of c.in-Err.error c.in-Departs.field-0 (slot.parse c.args.text.now 0) c.in-Departs.is (rw (c.new-reader.ensures.text, c.new-reader.ensures.at) at c.in-Err.ensures.gives)
