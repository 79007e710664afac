use Rattle.std.proofs.Common.{◌≡◌, ◌+◌, ◌-◌, ◌∷◌, ◌++◌, [], ℕ, List, None, Option, Some, map, refl, sym, ap, ◌∙◌, subst, arith}
use Rattle.dmn_held.specs.declared.coinbase.CoinbasePart.{CoinbasePart}
use Rattle.dmn_branch.specs.declared.held.Held.{Held}
use Rattle.dmn_branch.specs.declared.pins.Pin.{Pin}
use Rattle.dmn_rows.specs.declared.profile.Profile.{Profile}
use Rattle.dmn_branch.specs.Stands.{Kept, AreSound, IsWhole, IsKept, first_kept, kept_in, lists_in, low_of, pins_in}
use Rattle.dmn_branch.proofs.Starting.{low_first, start_stands, begins_whole, start_kept}
use Rattle.dmn_branch.proofs.Holding.{push_on, sound_none}
use Rattle.dmn_branch.proofs.Pinning.{no_pins_on}
use Rattle.dmn_branch.proofs.branch.Branch.start.Goals as goal

items : (c : goal.After-new-2) → c.push.new.self.held ≡ c.in_ok-first.first ∷ []
items c = c.in_ok-push.ensures ∙ ap (λ (l : List Held). l ++ c.in_ok-first.first ∷ []) c.new-held.ensures

-- the only list
lists : (c : goal.After-new-2) → lists_in c.origin.new.indexes (low_of c.profile_by.result c.args.start.now.first (c.args.start.now.first - 1)) c.push.new.self.held ≡ first_kept c.args.start.now ∷ []
lists c =
    let ix = c.origin.new.indexes in
    let first = c.args.start.now.first in
    ap (λ (n : ℕ). lists_in ix n c.push.new.self.held) (low_first c.profile_by.result first) ∙ ap (lists_in ix (first - 1)) (items c) ∙ ap (λ (k : Kept). k ∷ []) c.in_ok-first.ensures.list

pub invariant_of-result : goal.invariant_of-result
invariant_of-result c =
    let ix = c.origin.new.indexes in
    let first = c.in_ok-first.first in
    let start = c.args.start.now in
    let none : start.first - 1 ≡ start.first - 1 + 0 = omega arith in
    let whole = subst (λ (n : ℕ). IsWhole (kept_in ix n first)) none (subst IsWhole (sym c.in_ok-first.ensures.list) (begins_whole start c.requires)) in
    let one : IsKept c.profile_by.result start.first (start.first - 1) (first_kept start ∷ []) = subst (λ (p : Profile). IsKept p start.first (start.first - 1) (first_kept start ∷ [])) (sym c.profile_by.ensures) (start_kept start c.requires) in (
      subst (IsKept c.profile_by.result start.first (start.first - 1)) (sym (lists c)) one,
      subst (λ (n : ℕ). AreSound ix n c.push.new.self.held) (sym (low_first c.profile_by.result start.first))
          (subst (AreSound ix (start.first - 1)) (sym (items c)) (push_on (start.first - 1) [] first c.in_ok-first.ensures.version c.in_ok-first.ensures.marks whole (sound_none ix (start.first - 1)))),
      no_pins_on ix c.new-2.result c.new-2.ensures,
    )

pub returns : goal.returns
returns c =
    let ix = c.origin.new.indexes in
    let coinbases : map (λ (h : Held). h.coinbase) c.push.new.self.held ≡ None ∷ [] = ap (map (λ (h : Held). h.coinbase)) (items c) ∙ ap (λ (o : Option CoinbasePart). o ∷ []) c.in_ok-first.ensures.coinbase in
    start_stands _ c.args.start.now c.requires (record { profile = c.profile_by.ensures; first = refl; lists = lists c; coinbases = coinbases; mined = c.new.ensures; top = refl; pins = ap (λ (l : List Pin). pins_in ix l (Some 1)) c.new-2.ensures }) refl (invariant_of-result c).1
