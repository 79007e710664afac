use Rattle.std.proofs.Common.{◌≡◌, ◌≤◌, ◌<◌, ◌++◌, length, take, drop, List, ℕ, ◌+◌, arith, ◌∙◌, ap}
use Rattle.std.proofs.lemmas.List.{length-append, length-drop, length-take, take-append-le}
use Rattle.dmn_outside.proofs.Passing.{room_kept}
use Rattle.dmn_init.proofs.Reading.{read_all, read_more, read_most}
use Rattle.dmn_init.proofs.input.read_input.Goals as goal

pub returns-then-n-eq0-clause-input : goal.returns-then-n-eq0-clause-input
returns-then-n-eq0-clause-input g c = λ tells.
    let room : 0 < length c.take.new.out = omega (arith, c.take.auto.out, length-take c.min-room.result c.read.buffer, c.min-room.ensures, c.read-test.true, c.len.ensures, c.len-in-read.ensures, c.read.invariant.long) in
    read_all c.in-Ok.n c.read.text c.take.new.out _ _ _ c.if-n-eq0.true c.read.invariant.within room (c.read.invariant.talk tells) (c.in-Ok.ensures.takes tells)

pub read-preserved : goal.read-preserved
read-preserved g c =
    let most : c.in-Ok.n ≤ length c.take.new.out = omega (arith, c.in-Ok.ensures.most, c.take.auto.out) in
    let is : c.extend.new.self ≡ c.read.text ++ take c.in-Ok.n (c.take.new.out ++ drop c.min-room.result c.read.buffer) = c.in-Ok-extend.ensures.ok in
    let piece : c.extend.new.self ≡ c.read.text ++ take c.in-Ok.n c.take.new.out = is ∙ ap (λ (l : List ℕ). c.read.text ++ l) (take-append-le c.in-Ok.n c.take.new.out (drop c.min-room.result c.read.buffer) most) in
    let long : length c.extend.new.self ≡ length c.read.text + c.in-Ok.n = omega (arith, ap length piece, length-append c.read.text (take c.in-Ok.n c.take.new.out), length-take c.in-Ok.n c.take.new.out, most) in
    record {
      within = omega (arith, long, c.in-Ok.ensures.most, length-take c.min-room.result c.read.buffer, c.min-room.ensures, c.len-in-read.ensures, c.read-test.true, c.len.ensures);
      long = omega (arith, length-append c.take.new.out (drop c.min-room.result c.read.buffer), c.take.auto.out, length-take c.min-room.result c.read.buffer, length-drop c.min-room.result c.read.buffer, c.read.invariant.long, c.min-room.ensures);
      talk = λ tells. read_more c.in-Ok.n c.read.text c.extend.new.self c.take.new.out (drop c.min-room.result c.read.buffer) _ _ _ most is (c.read.invariant.talk tells) (c.in-Ok.ensures.takes tells);
      moments = λ tells. c.in-Ok.ensures.moments tells ∙ c.read.invariant.moments tells;
      callers = c.in-Ok.ensures.callers ∙ c.read.invariant.callers;
      time = omega (arith, c.in-Ok.ensures.time, c.read.invariant.time);
      disk = c.in-Ok.ensures.disk ∙ c.read.invariant.disk;
      sure = λ told. room_kept (c.read.invariant.sure told) (c.in-Ok.ensures.sure told);
      later = omega (arith, c.in-Ok.ensures.cause, c.read.invariant.later);
    }

pub returns-clause-input : goal.returns-clause-input
returns-clause-input g c = λ tells. read_most c.read.text _ _ (omega (arith, c.read-test.false, c.len.ensures)) c.read.invariant.within (c.read.invariant.talk tells)
