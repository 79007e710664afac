use Rattle.std.proofs.Common.{◌≡◌, ◌∙◌}
use Rattle.std.proofs.lemmas.Result.{err_from_is_err_and}
use Rattle.dmn_bytes.specs.Format.{last_key}
use Rattle.dmn_bytes.proofs.Series.{goes_on, stops, is_done}
use Rattle.dmn_held.specs.Lists.{hash_of, next_row}
use Rattle.dmn_held.proofs.lists.read_ordered.Goals as goal

pub returns-in_err-item : goal.returns-in_err-item
returns-in_err-item c =
    let p = err_from_is_err_and c.from_residual.result c.from_residual.ensures.1 in
    rw (p.1, p.2) (stops next_row (last_key hash_of) c.in_err-item.field-0.0 c.args.n c.loop.counter c.loop.last c.loop.reader.text c.loop.items.items c.loop.reader.at _ c.loop-test.true c.in_err-item.ensures c.loop.invariant.parsed)

pub loop-preserved : goal.loop-preserved
loop-preserved c =
    let same : c.read_next.new.reader.text ≡ c.loop.reader.text = c.in_ok-item.ensures.1 in
    record {
      text = same ∙ c.loop.invariant.text;
      parsed = rw (same, c.in_ok-push.ensures.items) (goes_on next_row (last_key hash_of) c.args.n c.loop.counter c.loop.last c.loop.reader.text c.loop.items.items c.loop.reader.at c.in_ok-item.item c.read_next.new.reader.at _ c.loop-test.true c.in_ok-item.ensures.0 c.loop.invariant.parsed);
    }

pub returns : goal.returns
returns c =
    rw c.from_vec.ensures (is_done next_row (last_key hash_of) c.args.n c.loop.counter c.loop.last c.loop.reader.text c.loop.items.items c.loop.reader.at _ c.loop-test.false c.loop.invariant.parsed, c.loop.invariant.text)
