-- What is held of before reads as before.
use Rattle.std.proofs.Common.{◌≡◌, ℕ, ◌+◌, ◌-◌, List, length, refl, sym, ap, ◌∙◌, subst, arith}
use Rattle.dmn_quorums.specs.Duty.{types_of, undone}
use Rattle.dmn_rows.specs.declared.profile.Profile.{Profile}
use Rattle.dmn_rows.specs.declared.profile.QuorumParams.{QuorumParams}
use Rattle.dmn_branch.specs.Machine as machine
use Rattle.dmn_branch.specs.Machine.{MachineState, held_states, tip}
use Rattle.dmn_branch.specs.Stands.{Kept, Keeping, AllStand, AreSound, GivesActive, IsAlike, IsKept, IsLeft, StandsFor, lists_in, low_kept, low_of, tip_kept}
use Rattle.dmn_branch.proofs.Active.{gives_alike}
use Rattle.dmn_branch.proofs.Every.{every_then}
use Rattle.dmn_branch.proofs.Holding.{all_trees}
use Rattle.dmn_branch.proofs.Standing.{states_below, tip_height}

pub alike_of : {old new : Keeping} → IsLeft old new → IsAlike old new
alike_of left = record { profile = left.profile; first = left.first; lists = left.lists; coinbases = left.coinbases; mined = left.mined; top = left.top; pins = left.pins }

-- both have the same tip
same_tip : {a b : Keeping} → IsAlike a b → tip_kept b ≡ tip_kept a
same_tip {a} {b} alike =
    ap (λ (p : Profile). low_of p b.first b.top + length b.lists - 1) alike.profile
    ∙ ap (λ (n : ℕ). low_of a.profile n b.top + length b.lists - 1) alike.first
    ∙ ap (λ (n : ℕ). low_of a.profile a.first n + length b.lists - 1) alike.top
    ∙ ap (λ (l : List Kept). low_kept a + length l - 1) alike.lists

pub alike_then : {a b c : Keeping} → IsAlike a b → IsAlike b c → IsAlike a c
alike_then {a} {b} {c} one two = record {
  profile = two.profile ∙ one.profile;
  first = two.first ∙ one.first;
  lists = two.lists ∙ one.lists;
  coinbases = two.coinbases ∙ one.coinbases;
  mined = subst (λ (n : ℕ). undone n c.mined ≡ undone n b.mined) (same_tip one) two.mined ∙ one.mined;
  top = two.top ∙ one.top;
  pins = two.pins ∙ one.pins;
}

-- what reads as before stands for what it stood for
pub alike_stands : {old new : Keeping} (m : MachineState) → IsAlike old new → IsKept old.profile old.first old.top old.lists → new.lists ≡ lists_in new.indexes (low_kept new) new.held → AreSound new.indexes (low_kept new) new.held → StandsFor old m → StandsFor new m
alike_stands {old} {new} m left kept read sound stands =
    let same = tip_height old m kept stands in
    let below = states_below (low_kept old) (tip m).height old.lists (held_states m) stands.lists kept.heights (omega (arith, kept.some, same)) in
    let mined = subst (λ (n : ℕ). undone n new.mined ≡ undone n old.mined) same left.mined in
    let lists = subst (λ (l : List Kept). AllStand l (held_states m)) (sym left.lists) stands.lists in
    record {
      profile = left.profile ∙ stands.profile;
      first = left.first ∙ stands.first;
      lists = lists;
      coinbases = left.coinbases ∙ stands.coinbases;
      trees = all_trees new.indexes (low_kept new) new.held (held_states m) sound.versions (subst (λ (l : List Kept). AllStand l (held_states m)) read lists);
      quorums = every_then (λ (p : QuorumParams) (gives : GivesActive old.mined (tip m).height (held_states m) p). gives_alike old.mined new.mined (tip m).height (held_states m) p mined below gives) (types_of (machine.profile m).quorums) stands.quorums;
      top = left.top ∙ stands.top;
      lawful = stands.lawful;
      pins = left.pins ∙ stands.pins;
      numbered = stands.numbered;
    }

pub left_stands : {old new : Keeping} (m : MachineState) → IsLeft old new → IsKept old.profile old.first old.top old.lists → new.lists ≡ lists_in new.indexes (low_kept new) new.held → AreSound new.indexes (low_kept new) new.held → StandsFor old m → StandsFor new m
left_stands m left kept read sound stands = alike_stands m (alike_of left) kept read sound stands

pub alike_none : (b : Keeping) → IsAlike b b
alike_none b = record { profile = refl; first = refl; lists = refl; coinbases = refl; mined = refl; top = refl; pins = refl }

pub left_none : (b : Keeping) → IsLeft b b
left_none b = record { profile = refl; first = refl; held = refl; lists = refl; coinbases = refl; mined = refl; top = refl; pinned = refl; pins = refl }
