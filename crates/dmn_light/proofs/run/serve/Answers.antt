use Rattle.std.proofs.Common.{inl, inr, arith, ◌∙◌, refl}
use Rattle.dmn_frames.proofs.Spending.{spent_nothing, spent_then}
use Rattle.dmn_outside.proofs.Passing.{later_same, later_then}
use Rattle.dmn_light.proofs.Running.{served_fault, served_more, served_none, served_part}
use Rattle.dmn_light.proofs.Spending.{never_lacks}
use Rattle.dmn_light.proofs.run.serve.Goals as goal

pub serve-init : goal.serve-init
serve-init g c = record {
  told = λ tells. served_none _ _ c.new-client.ensures;
  room = λ tells told. spent_nothing _ _;
  rose = λ some. absurd (omega (arith, some));
  later = later_same _ _ _;
  disk = refl;
}

pub returns-in-Err-clause-outcome : goal.returns-in-Err-clause-outcome
returns-in-Err-clause-outcome g c = λ tells.
    let f = c.serve.invariant.told tells in
    elim (c.in-Err.ensures.turns tells) [
      | inl none ↦ served_fault c.serve.counter _ _ _ _ (omega arith) f none
      | inr part ↦ served_part c.serve.counter _ _ _ _ _ part.0 (omega arith) f part.1 part.2
    ]

pub serve-preserved : goal.serve-preserved
serve-preserved g c = record {
  told = λ tells.
      let t = rw c.in-Ok-Answered.field-0-is at (c.in-Ok-Answered.ensures.turns tells) in
      served_more c.serve.counter _ _ _ _ _ t.0 (c.serve.invariant.told tells) t.1 t.2;
  room = λ tells told. spent_then (c.serve.invariant.room tells told) (c.in-Ok-Answered.ensures.sure tells told);
  rose = λ some. omega (arith, c.in-Ok-Answered.ensures.time, c.serve.invariant.later.time);
  later = later_then c.serve.invariant.later c.in-Ok-Answered.ensures.later;
  disk = c.in-Ok-Answered.ensures.disk ∙ c.serve.invariant.disk;
}

pub returns-in-Err-clause-sure : goal.returns-in-Err-clause-sure
returns-in-Err-clause-sure g c = λ tells told enough.
    let e = c.in-Err.ensures.sure tells told in
    absurd (never_lacks c.serve.counter _ _ _ _ _ e.1 e.0 e.2 (c.serve.invariant.told tells) (c.serve.invariant.room tells told) enough e.3 e.4)

pub returns-in-Ok-Ended-clause-sure : goal.returns-in-Ok-Ended-clause-sure
returns-in-Ok-Ended-clause-sure g c = λ tells told enough. record {
  runs = λ e. cc;
  faults = (spent_then (c.serve.invariant.room tells told) (c.in-Ok-Ended.ensures.sure tells told)).faults;
}

pub returns-in-Ok-Cut-clause-sure : goal.returns-in-Ok-Cut-clause-sure
returns-in-Ok-Cut-clause-sure g c = λ tells told enough. record {
  runs = λ e. cc;
  faults = (spent_then (c.serve.invariant.room tells told) (c.in-Ok-Cut.ensures.sure tells told)).faults;
}

pub returns-clause-sure : goal.returns-clause-sure
returns-clause-sure g c = λ tells told enough. record {
  runs = λ e. cc;
  faults = (c.serve.invariant.room tells told).faults;
}

pub returns-in-Ok-Ended-clause-later : goal.returns-in-Ok-Ended-clause-later
returns-in-Ok-Ended-clause-later g c = later_then c.serve.invariant.later c.in-Ok-Ended.ensures.later

pub returns-in-Ok-Cut-clause-later : goal.returns-in-Ok-Cut-clause-later
returns-in-Ok-Cut-clause-later g c = later_then c.serve.invariant.later c.in-Ok-Cut.ensures.later

pub returns-in-Err-clause-later : goal.returns-in-Err-clause-later
returns-in-Err-clause-later g c = later_then c.serve.invariant.later c.in-Err.ensures.later
