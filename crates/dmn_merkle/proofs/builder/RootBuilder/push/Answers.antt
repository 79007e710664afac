use Rattle.std.proofs.Common.{◌∙◌, ◌≡◌, ◌<◌, ◌≤◌, ◌+◌, ◌++◌, Some, take, drop, set, length, ap, arith, rules}
use Rattle.std.proofs.lemmas.List.{length-drop}
use Rattle.dmn_merkle.specs.OnePass.{added, count_of}
use Rattle.dmn_merkle.proofs.Levels.{one_more_held}
use Rattle.dmn_merkle.proofs.Waiting.{in_use, is_room, none_risen, one_risen, one_counted}
use Rattle.dmn_merkle.proofs.builder.RootBuilder.push.Goals as goal

-- no hash rises
none : (c : goal.In-None) → take c.self.inside.levels (c.add.new.waiting ++ drop c.self.inside.levels c.self.inside.waiting) ≡ added c.args.hash.now c.args.self.now
none c =
    let all : length c.self.inside.waiting ≡ 64 = search rules in
    let within : c.self.inside.levels ≤ length c.self.inside.waiting = omega (arith, c.self.invariant) in
    let len = in_use c.add.new.waiting c.self.inside.waiting c.self.inside.levels c.add.auto.waiting within in
    none_risen c.args.self.now c.add.new.waiting _ c.args.hash.now c.self.inside.levels len (c.in-None.ensures ∙ ap (added c.args.hash.now) c.self.view_is)

pub returns-in-None-clause-added : goal.returns-in-None-clause-added
returns-in-None-clause-added c = one_more_held _ _ _ (none c)

pub returns-in-None-clause-count : goal.returns-in-None-clause-count
returns-in-None-clause-count c = ap count_of (none c) ∙ one_counted c.args.hash.now c.args.self.now

-- one rises
pub bounds-self-inside-levels : goal.bounds-self-inside-levels
bounds-self-inside-levels c =
    let all : length c.self.inside.waiting ≡ 64 = search rules in
    is_room c.args.self.now c.add.new.waiting c.self.inside.waiting c.args.hash.now c.in-Some.top c.self.inside.levels c.add.auto.waiting c.self.invariant all (c.in-Some.ensures ∙ ap (added c.args.hash.now) c.self.view_is) c.requires

room : (c : goal.After-self-1) → c.self.inside.levels < 64
room c =
    let all : length c.self.inside.waiting ≡ 64 = search rules in
    is_room c.args.self.now c.add.new.waiting c.self.inside.waiting c.args.hash.now c.in-Some.top c.self.inside.levels c.add.auto.waiting c.self.invariant all (c.in-Some.ensures ∙ ap (added c.args.hash.now) c.self.view_is) c.requires

pub invariant_of-self-in-Some : goal.invariant_of-self-in-Some
invariant_of-self-in-Some c = omega (arith, room c)

one : (c : goal.After-self-1) → take (c.self.inside.levels + 1) (set (c.add.new.waiting ++ drop c.self.inside.levels c.self.inside.waiting) c.self.inside.levels (Some c.in-Some.top)) ≡ added c.args.hash.now c.args.self.now
one c =
    let all : length c.self.inside.waiting ≡ 64 = search rules in
    let within : c.self.inside.levels ≤ length c.self.inside.waiting = omega (arith, c.self.invariant) in
    let len = in_use c.add.new.waiting c.self.inside.waiting c.self.inside.levels c.add.auto.waiting within in
    let more : 0 < length (drop c.self.inside.levels c.self.inside.waiting) = omega (arith, room c, length-drop c.self.inside.levels c.self.inside.waiting) in
    one_risen c.args.self.now c.add.new.waiting _ c.args.hash.now c.in-Some.top c.self.inside.levels len more (c.in-Some.ensures ∙ ap (added c.args.hash.now) c.self.view_is)

pub returns-in-Some-clause-added : goal.returns-in-Some-clause-added
returns-in-Some-clause-added c = one_more_held _ _ _ (one c)

pub returns-in-Some-clause-count : goal.returns-in-Some-clause-count
returns-in-Some-clause-count c = ap count_of (one c) ∙ one_counted c.args.hash.now c.args.self.now
