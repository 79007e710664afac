use Rattle.std.proofs.Common.{◌≡◌, ◌+◌, ℕ, Some, sym, ap, ◌∙◌, subst}
use Rattle.std.specs.Option.{option_map}
use Rattle.dmn_branch.specs.Stands.{Keeping, AreFrom, low_kept, low_of}
use Rattle.dmn_branch.proofs.Standing.{height_where, height_is, where_held}
use Rattle.dmn_branch.proofs.Holding.{found_held}
use Rattle.dmn_branch.proofs.branch.Branch.height_of.Goals as goal

pub returns-in-None-clause-height : goal.returns-in-None-clause-height
returns-in-None-clause-height c = λ m stands.
    let hash = c.args.hash.now in
    let low = low_of c.self.inside.profile c.self.inside.first c.self.inside.top in
    ap (option_map (λ (n : ℕ). low + n)) (sym c.in-None.is ∙ c.place_of.ensures.place)
    ∙ found_held c.self.inside.indexes low hash c.self.inside.held.held
    ∙ ap (λ (b : Keeping). height_where hash b.lists) c.self.view_is
    ∙ height_is c.args.self.now m hash stands

where_is : (c : goal.After-height_at) → height_where c.args.hash.now c.args.self.now.lists ≡ Some c.height_at.result
where_is c =
    let hash = c.args.hash.now in
    let low = low_of c.self.inside.profile c.self.inside.first c.self.inside.top in
    sym (ap (λ (n : ℕ). Some n) (c.height_at.ensures ∙ ap (λ (b : Keeping). low_kept b + c.in-Some.place) (sym c.self.view_is))
    ∙ ap (option_map (λ (n : ℕ). low + n)) (sym c.in-Some.is ∙ c.place_of.ensures.place)
    ∙ found_held c.self.inside.indexes low hash c.self.inside.held.held
    ∙ ap (λ (b : Keeping). height_where hash b.lists) c.self.view_is)

pub returns-in-Some-clause-height : goal.returns-in-Some-clause-height
returns-in-Some-clause-height c = λ m stands. sym (where_is c) ∙ height_is c.args.self.now m c.args.hash.now stands

pub returns-in-Some-clause-held : goal.returns-in-Some-clause-held
returns-in-Some-clause-held c =
    let heights = subst (λ (b : Keeping). AreFrom (low_kept b) b.lists) c.self.view_is c.self.invariant.0.heights in
    let held = where_held (low_kept c.args.self.now) c.args.hash.now c.args.self.now.lists c.height_at.result heights (where_is c) in
    record { low = held.0; high = held.1 }
