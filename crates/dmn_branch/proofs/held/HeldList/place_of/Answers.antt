use Rattle.std.proofs.Common.{ℕ, ◌<◌, length, sym, ap, ◌∙◌}
use Rattle.std.specs.List.{position}
use Rattle.std.specs.Str.{bytes_eq}
use Rattle.dmn_branch.specs.declared.held.Held.{Held}
use Rattle.dmn_branch.specs.Items.{HeldItems}
use Rattle.dmn_branch.proofs.Holding.{place_inside}
use Rattle.dmn_branch.proofs.Standing.{if_some}
use Rattle.dmn_branch.proofs.held.HeldList.place_of.Goals as goal

pub returns-clause-inside : goal.returns-clause-inside
returns-clause-inside c = if_some c.place_in.result (λ (n : ℕ). n < length c.args.self.now.held) (λ n is.
    let test = λ (h : Held). bytes_eq h.hash.0 c.args.hash.now.0 in
    place_inside test c.args.self.now.held n (sym (c.place_in.ensures ∙ ap (position test) (c.deref.ensures.value ∙ ap (λ (l : HeldItems). l.held) c.self.view_is)) ∙ is))
