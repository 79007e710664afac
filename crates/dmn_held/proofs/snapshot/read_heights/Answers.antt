use Rattle.std.proofs.Common.{◌≡◌, ◌≤◌, ◌<◌, ◌∙◌, length, arith}
use Rattle.std.proofs.lemmas.Result.{err_from_is_err_and}
use Rattle.dmn_held.specs.Height.{height_data}
use Rattle.dmn_held.proofs.Rest.{ended, goes_on, is_done, stops}
use Rattle.dmn_held.proofs.snapshot.read_heights.Goals as goal

pub returns-then-rest-eq0 : goal.returns-then-rest-eq0
returns-then-rest-eq0 c =
    let at_end : length c.loop.reader.text ≤ c.loop.reader.at = omega (arith, c.rest.ensures.rest, c.if-rest-eq0.true) in
    rw c.from_vec.ensures (ended height_data c.rest-room.result c.loop.counter c.loop.reader.text c.loop.items.items c.loop.reader.at _ at_end c.loop.invariant.parsed, c.loop.invariant.text)

pub returns-in_err-item : goal.returns-in_err-item
returns-in_err-item c =
    let more : c.loop.reader.at < length c.loop.reader.text = omega (arith, c.rest.ensures.rest, c.if-rest-eq0.false) in
    let p = err_from_is_err_and c.from_residual.result c.from_residual.ensures.1 in
    rw (p.1, p.2) (stops height_data c.in_err-item.field-0.0 c.rest-room.result c.loop.counter c.loop.reader.text c.loop.items.items c.loop.reader.at _ c.loop-test.true more c.in_err-item.ensures c.loop.invariant.parsed)

pub loop-preserved : goal.loop-preserved
loop-preserved c =
    let more : c.loop.reader.at < length c.loop.reader.text = omega (arith, c.rest.ensures.rest, c.if-rest-eq0.false) in
    let same : c.read_height.new.reader.text ≡ c.loop.reader.text = c.in_ok-item.ensures.1 in
    record {
      text = same ∙ c.loop.invariant.text;
      parsed = rw (same, c.in_ok-push.ensures.items) (goes_on height_data c.rest-room.result c.loop.counter c.loop.reader.text c.loop.items.items c.loop.reader.at c.in_ok-item.item c.read_height.new.reader.at _ c.loop-test.true more c.in_ok-item.ensures.0 c.loop.invariant.parsed);
    }

pub returns : goal.returns
returns c =
    rw c.from_vec-2.ensures (is_done height_data c.rest-room.result c.loop.counter c.loop.reader.text c.loop.items.items c.loop.reader.at _ c.loop-test.false c.loop.invariant.parsed, c.loop.invariant.text)
