use Rattle.std.proofs.Common.{rules, ◌≡◌, ℕ, List, ◌+◌, ◌-◌, ◌++◌, length, take, drop, replicate, arith, ap, sym, ◌∙◌}
use Rattle.dmn_outside.proofs.Places.{placed_over, written_back}
use Rattle.dmn_outside.proofs.placing.put_at.Goals as goal

pub returns-clause-ok : goal.returns-clause-ok
returns-clause-ok c =
    let end : c.in-Some.end ≡ c.args.at + length c.args.bytes.now = search rules in
    let there : c.deref_mut.result.now ≡ c.args.text.now.items ++ replicate (c.in-Some.end - length c.args.text.now.items) 0 = c.deref_mut.ensures.value ∙ c.in_ok-lengthen.ensures.ok in
    let same : length c.overwrite.new.text ≡ length c.lengthen.new.text.items = omega (arith, c.overwrite.auto.text, ap length c.deref_mut.ensures.value) in
    written_back c.lengthen.new.text.len c.overwrite.new.text c.lengthen.new.text.items (omega (arith, c.overwrite.auto.text, c.deref_mut.ensures.len)) same
    ∙ c.overwrite.ensures
    ∙ ap (λ (l : List ℕ). take c.args.at l ++ c.args.bytes.now ++ drop (c.args.at + length c.args.bytes.now) l) there
    ∙ ap (λ (n : ℕ). take c.args.at (c.args.text.now.items ++ replicate (c.in-Some.end - length c.args.text.now.items) 0) ++ c.args.bytes.now ++ drop n (c.args.text.now.items ++ replicate (c.in-Some.end - length c.args.text.now.items) 0)) (sym end)
    ∙ placed_over c.args.at c.in-Some.end c.args.bytes.now c.args.text.now.items end
