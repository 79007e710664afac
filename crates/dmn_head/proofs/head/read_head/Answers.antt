use Rattle.std.proofs.Common.{rules, ◌+◌, ◌-◌, length, refl, arith, ◌∙◌}
use borrow.Rule.Slice.PartMut.{post_of}
use Rattle.dmn_outside.proofs.Passing.{room_kept}
use Rattle.dmn_head.proofs.Taking.{filled_more}
use Rattle.dmn_head.proofs.Heading.{took_short, took_whole, took_too_much, no_end_more, front_kept}
use Rattle.dmn_head.proofs.head.read_head.Goals as goal

pub returns-then-n-eq0-clause-takes : goal.returns-then-n-eq0-clause-takes
returns-then-n-eq0-clause-takes g c = λ tells. took_short c.head.filled c.in_ok-n.n c.head.buffer c.take.new.out (post_of c.head.filled (length c.head.buffer - c.head.filled) c.head.buffer) _ _ _ c.if-n-eq0.true (omega arith) (omega arith) (omega (arith, c.take.auto.out)) (c.head.invariant.talk tells) c.head.invariant.open_ (c.in_ok-n.ensures.takes tells)

pub returns-in-Some-clause-takes : goal.returns-in-Some-clause-takes
returns-in-Some-clause-takes g c = λ tells. took_whole c.head.filled c.in_ok-n.n c.in-Some.size c.head.buffer c.take.new.out (post_of c.head.filled (length c.head.buffer - c.head.filled) c.head.buffer) _ _ _ (omega arith) (omega (arith, c.in_ok-n.ensures.most, c.take.auto.out)) (omega (arith, c.in_ok-n.ensures.most, c.take.auto.out)) (search rules) (c.head.invariant.talk tells) c.head.invariant.open_ (c.in_ok-n.ensures.takes tells) (rw c.saturating_sub-from.ensures at c.in-Some.ensures)

pub head-preserved : goal.head-preserved
head-preserved g c = record {
  room = search rules;
  within = search rules;
  talk = λ tells. filled_more c.head.filled c.in_ok-n.n _ c.head.buffer c.take.new.out (post_of c.head.filled (length c.head.buffer - c.head.filled) c.head.buffer) _ _ _ refl (omega arith) (omega (arith, c.in_ok-n.ensures.most, c.take.auto.out)) (c.head.invariant.talk tells) (c.in_ok-n.ensures.takes tells);
  open_ = no_end_more c.head.filled (c.head.filled + c.in_ok-n.n) c.head.buffer _ (omega arith) (search rules) (front_kept c.head.filled c.head.buffer _ (omega arith)) c.head.invariant.open_ (rw c.saturating_sub-from.ensures at c.in_default.ensures);
  moments = λ tells. c.in_ok-n.ensures.moments tells ∙ c.head.invariant.moments tells;
  callers = c.in_ok-n.ensures.callers ∙ c.head.invariant.callers;
  time = omega (arith, c.in_ok-n.ensures.time);
  rose = λ some. omega (arith, c.in_ok-n.ensures.time);
  disk = c.in_ok-n.ensures.disk ∙ c.head.invariant.disk;
  sure = λ told. room_kept (c.head.invariant.sure told) (c.in_ok-n.ensures.sure told);
  later = omega (arith, c.in_ok-n.ensures.cause);
}

pub returns-clause-takes : goal.returns-clause-takes
returns-clause-takes g c = λ tells. took_too_much c.head.filled c.head.buffer _ _ (omega arith) (c.head.invariant.talk tells) c.head.invariant.open_
