use Rattle.std.proofs.Common.{◌≡◌, ◌+◌, ◌-◌, ◌≤◌, ℕ, length, Some, sym, ap, ◌∙◌, subst, arith}
use Rattle.std.specs.Prelude.{slice_get}
use Rattle.std.specs.Option.{option_map}
use Rattle.std.proofs.lemmas.Option.{slice_get-map}
use Rattle.dmn_indexes.specs.Version as versions
use Rattle.dmn_branch.specs.declared.held.Held.{Held}
use Rattle.dmn_branch.specs.Machine as machine
use Rattle.dmn_branch.specs.Parts.{StandsIn}
use Rattle.dmn_branch.specs.Stands.{IsHeld, Keeping, StandsFor, kept_in, lists_in, low_kept, low_of}
use Rattle.dmn_branch.specs.Step.{most_rows}
use Rattle.dmn_branch.proofs.Holding.{list_whole, lists_get, lists_length, version_below, version_whole}
use Rattle.dmn_branch.proofs.Standing.{held_stands}
use Rattle.dmn_branch.proofs.branch.Branch.held_at.Goals as goal

pub get-requires : goal.get-requires
get-requires c =
    let low : c.low.result ≡ low_of c.self.inside.profile c.self.inside.first c.self.inside.top = c.low.ensures ∙ ap low_kept (sym c.self.view_is) in
    let held = subst (λ (b : Keeping). IsHeld b c.args.height) (sym c.self.view_is) c.requires in
    omega (arith, low, held.low, held.high, lists_length c.self.inside.indexes (low_of c.self.inside.profile c.self.inside.first c.self.inside.top) c.self.inside.held.held)

there : (c : goal.After-get) → slice_get c.self.inside.held.held (c.args.height - low_of c.self.inside.profile c.self.inside.first c.self.inside.top) ≡ Some c.get.result.now
there c =
    let low : c.low.result ≡ low_of c.self.inside.profile c.self.inside.first c.self.inside.top = c.low.ensures ∙ ap low_kept (sym c.self.view_is) in
    subst (λ (n : ℕ). slice_get c.self.inside.held.held (c.args.height - n) ≡ Some c.get.result.now) low c.get.ensures

pub returns-clause-held : goal.returns-clause-held
returns-clause-held c = subst (λ (b : Keeping). slice_get b.held (c.args.height - low_kept b) ≡ Some c.get.result.now) c.self.view_is (there c)

list : (c : goal.After-get) → slice_get (lists_in c.self.inside.indexes (low_of c.self.inside.profile c.self.inside.first c.self.inside.top) c.self.inside.held.held) (c.args.height - low_of c.self.inside.profile c.self.inside.first c.self.inside.top) ≡ Some (kept_in c.self.inside.indexes c.args.height c.get.result.now)
list c =
    let ix = c.self.inside.indexes in
    let low = low_of c.self.inside.profile c.self.inside.first c.self.inside.top in
    let held = subst (λ (b : Keeping). IsHeld b c.args.height) (sym c.self.view_is) c.requires in
    let back : low + (c.args.height - low) ≡ c.args.height = omega (arith, held.low) in
    lists_get ix low c.self.inside.held.held (c.args.height - low) c.get.result.now (there c) ∙ ap (λ (n : ℕ). Some (kept_in ix n c.get.result.now)) back

pub returns-clause-list : goal.returns-clause-list
returns-clause-list c = subst (λ (b : Keeping). slice_get b.lists (c.args.height - low_kept b) ≡ Some (kept_in b.indexes c.args.height c.get.result.now)) c.self.view_is (list c)

pub returns-clause-coinbase : goal.returns-clause-coinbase
returns-clause-coinbase c =
    let at = c.args.height - low_of c.self.inside.profile c.self.inside.first c.self.inside.top in
    subst (λ (b : Keeping). slice_get b.coinbases (c.args.height - low_kept b) ≡ Some c.get.result.now.coinbase) c.self.view_is
    (slice_get-map (λ (h : Held). h.coinbase) c.self.inside.held.held at ∙ ap (option_map (λ (h : Held). h.coinbase)) (there c))

pub returns-clause-stands : goal.returns-clause-stands
returns-clause-stands c = λ m stands.
    let held = subst (λ (b : Keeping). IsHeld b c.args.height) (sym c.self.view_is) c.requires in
    subst (λ (b : Keeping). StandsIn (kept_in b.indexes c.args.height c.get.result.now) (machine.state_at m c.args.height)) c.self.view_is
    (held_stands _ m c.args.height (kept_in c.self.inside.indexes c.args.height c.get.result.now) (subst (λ (b : Keeping). StandsFor b m) (sym c.self.view_is) stands) held.low (list c))

pub returns-clause-whole : goal.returns-clause-whole
returns-clause-whole c =
    subst (λ (b : Keeping). versions.IsWhole b.indexes c.get.result.now.version) c.self.view_is
    (version_whole (low_of c.self.inside.profile c.self.inside.first c.self.inside.top) c.self.inside.held.held _ c.get.result.now c.self.invariant.1 (there c))

pub returns-clause-few : goal.returns-clause-few
returns-clause-few c =
    subst (λ (b : Keeping). length (versions.rows_in b.indexes c.get.result.now.version) ≤ most_rows) c.self.view_is
    (list_whole (low_of c.self.inside.profile c.self.inside.first c.self.inside.top) c.self.inside.held.held _ c.get.result.now c.self.invariant.1 (there c)).masternodes

pub returns-clause-below : goal.returns-clause-below
returns-clause-below c = version_below (low_of c.self.inside.profile c.self.inside.first c.self.inside.top) c.self.inside.held.held _ c.get.result.now c.self.invariant.1 (there c)
