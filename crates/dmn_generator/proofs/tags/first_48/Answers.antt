use Rattle.std.proofs.Common.{◌≡◌, ℕ, List, ◌++◌, length, take, true, false, ap, ◌∙◌, arith, length-append, length-take}
use Rattle.dmn_generator.proofs.tags.first_48.Goals as goal

pub unreachable-requires : goal.unreachable-requires
unreachable-requires c =
    let is : c.as_slice.result.now ≡ take 48 (c.args.one.now.0 ++ c.args.other.now.0) = c.as_slice.ensures ∙ c.truncate.ensures ∙ ap (take 48) (c.in_ok-extend.ensures.ok ∙ ap (λ (l : List ℕ). l ++ c.args.other.now.0) c.in_ok-bytes.ensures) in
    let long : length c.as_slice.result.now ≡ 48 = omega (arith, ap length is, length-take 48 (c.args.one.now.0 ++ c.args.other.now.0), length-append c.args.one.now.0 c.args.other.now.0, c.hash_length.ensures, c.hash_length-2.ensures) in
    let wrong : false ≡ true = c.in-Err.ensures.0 long in
    absurd cc
