use Rattle.std.proofs.Common.{◌≡◌, ◌-◌, ℕ, List, min, length, take, replicate, refl, arith}
use Rattle.std.proofs.lemmas.List.{length-take}
use Rattle.dmn_frames.proofs.Heading.{took_then, short_front, front_is}
use Rattle.dmn_frames.proofs.body.read_front.Goals as goal

abbrev zeros : List ℕ
zeros = replicate 64 0

zeros_long : length zeros ≡ 64
zeros_long = refl

full_length : (want size : ℕ) (buffer : List ℕ) → want ≡ min size 64 → length buffer ≡ length (take want zeros) → length buffer ≡ want
full_length want size buffer e h = omega (arith, length-take want zeros, zeros_long)

pub returns-then-n-want-clause-fronts : goal.returns-then-n-want-clause-fronts
returns-then-n-want-clause-fronts g c = λ tells.
    short_front c.in_ok-n.n c.min-want.result c.args.size c.fill.new.buffer _ _ (omega (arith, c.min-want.ensures)) (full_length c.min-want.result c.args.size c.fill.new.buffer c.min-want.ensures c.fill.auto.buffer) c.if-n-want.true (c.in_ok-n.ensures.fills tells)

pub returns-clause-fronts : goal.returns-clause-fronts
returns-clause-fronts g c = λ tells.
    let f = c.in_ok-n.ensures.fills tells in
    let long : length c.fill.new.buffer ≡ c.min-want.result = full_length c.min-want.result c.args.size c.fill.new.buffer c.min-want.ensures c.fill.auto.buffer in
    let s = rw c.if-not-whole.false at (c.in_ok-whole.ensures.skips tells) in (
      took_then c.in_ok-n.n (c.args.size - c.min-want.result) c.args.size _ _ _ (omega (arith, c.min-want.ensures, c.in_ok-n.ensures.most, long)) f.took s,
      front_is c.in_ok-n.n c.min-want.result c.args.size c.fill.new.buffer _ _ _ _ c.min-want.ensures long c.if-n-want.false (omega (arith, c.in_ok-n.ensures.most, long)) f (rw c.new-front.ensures at c.put.ensures),
    )
