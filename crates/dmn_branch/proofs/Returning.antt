-- What a branch that is made of a snapshot stands for.
use Rattle.std.proofs.Common.{◌≡◌, ℕ, zero, suc, ◌+◌, ◌-◌, ◌<◌, ◌≤◌, max, List, [], ◌∷◌, length, drop, map, refl, sym, ap, ◌∙◌, subst, arith}
use Rattle.std.specs.List.{All, AllByRecursion}
use Rattle.std.proofs.lemmas.List.{length-drop}
use Rattle.dmn_block.specs.State.{State}
use Rattle.dmn_held.specs.declared.data.SnapshotData.{SnapshotData}
use Rattle.dmn_indexes.specs.declared.indexes.Indexes.{Indexes}
use Rattle.dmn_quorums.specs.Duty.{types_of}
use Rattle.dmn_payloads.specs.declared.mined.MinedAt.{MinedAt}
use Rattle.dmn_restore.specs.declared.making.Marked.{Marked}
use Rattle.dmn_restore.specs.Lists.{lists_of}
use Rattle.dmn_restore.specs.Restored.{list_in}
use Rattle.dmn_rows.specs.declared.profile.Profile.{Profile}
use Rattle.dmn_rows.specs.declared.start.StartRecord.{StartRecord}
use Rattle.dmn_rows.specs.Start.{start_record}
use Rattle.dmn_branch.specs.declared.held.Held.{Held}
use Rattle.dmn_branch.specs.Coinbases.{TellsRoot}
use Rattle.dmn_branch.specs.Holds.{Holds, readings}
use Rattle.dmn_branch.specs.Machine as machine
use Rattle.dmn_branch.specs.Machine.{MachineState, held_states, history, top, tip}
use Rattle.dmn_branch.specs.Pins.{AreNumbered, Pins, no_pins}
use Rattle.dmn_branch.specs.Replay.{IsLawful}
use Rattle.dmn_branch.specs.Stands.{AllStand, AreSound, HoldsBase, IsKept, KeepsActive, Keeping, Kept, StandsFor, lists_in, low_kept, low_of}
use Rattle.dmn_branch.specs.Step.{profile_of}
use Rattle.dmn_branch.specs.Taking.{AreMadeOf, FitsHeights, Head, IsSoundHead, heads, mined_in}
use Rattle.dmn_branch.proofs.Active.{MinedTo}
use Rattle.dmn_branch.proofs.Every.{every_drop}
use Rattle.dmn_branch.proofs.Gathering.{picks_each, quorums_given}
use Rattle.dmn_branch.proofs.History.{StatesFrom, are_states, roots_told, tip_at}
use Rattle.dmn_branch.proofs.Holding.{all_trees, lists_are_from, lists_length}
use Rattle.dmn_branch.proofs.Restoring.{coinbases_all, gives_long, head_in, heads_read, lists_read, readings_long, sound_heads, stands_all}
use Rattle.dmn_branch.proofs.Starting.{bases, deep, start_bounds}

-- ---- the machine that is held

-- what is held says nothing of pins
pub holds_again : (held : SnapshotData) (m : MachineState) (pins : Pins) → Holds held m → Holds held (record m { pins = pins })
unfolding history top
holds_again held m pins h = record { form = h.form; top = h.top; low = h.low; states = h.states; proper = h.proper; hashes = h.hashes; active = h.active; below = h.below; reach = h.reach }

from_later : (n height : ℕ) (states : List State) → StatesFrom height states → StatesFrom (height + n) (drop n states)
from_later zero height states from = let same : height ≡ height + 0 = omega arith in subst (λ (h : ℕ). StatesFrom h states) same from
from_later (suc n) height [] from = tt
from_later (suc n) height (s ∷ states) from = let same : suc height + n ≡ height + suc n = omega arith in subst (λ (h : ℕ). StatesFrom h (drop n states)) same (from_later n (suc height) states from.1)

up_to : (a b : ℕ) → a + (max a b - a) ≡ max a b
up_to a b = omega arith

pub held_from : (m : MachineState) → StatesFrom (machine.low m) (held_states m)
held_from m = subst (λ (h : ℕ). StatesFrom h (held_states m)) (up_to (m.start.first - 1) (top m - (machine.profile m).kept)) (from_later (machine.low m - (m.start.first - 1)) (m.start.first - 1) (history m) (are_states m).from)

states_long : (held : SnapshotData) (m : MachineState) → Holds held m → length (held_states m) ≡ length held.heights + 1
states_long held m h = sym (gives_long (machine.profile m) (readings held) (held_states m) h.states) ∙ readings_long held

tip_long : (low first more count height : ℕ) → first + (low - first) ≡ low → more ≡ count - (low - first) → 0 < more → height ≡ first + count - 1 → height + 1 ≡ low + more
tip_long low first more count height up long some at = omega (arith, up, long, some, at)

tip_is : (held : SnapshotData) (m : MachineState) → Holds held m → (tip m).height ≡ machine.low m + length held.heights
tip_is held m h =
    let first = m.start.first - 1 in
    let long = states_long held m h in
    let up = up_to first (top m - (machine.profile m).kept) in
    let at = tip_long (machine.low m) first (length (held_states m)) (length (history m)) (tip m).height up (length-drop (machine.low m - first) (history m)) (omega (arith, long)) (tip_at m).height in
    omega (arith, at, long)

-- the heights that it holds are those of a branch
pub held_fits : (held : SnapshotData) (m : MachineState) (profile : Profile) (low : ℕ) → profile ≡ machine.profile m → low ≡ low_of profile m.start.first held.top → Holds held m → FitsHeights profile low held
held_fits held m profile low is lowest h =
    let at = tip_is held m h in
    let here : low ≡ machine.low m = lowest ∙ ap (λ (p : Profile). low_of p m.start.first held.top) is ∙ ap (λ (t : ℕ). low_of (machine.profile m) m.start.first t) h.top in
    let deep : profile.depth ≡ (machine.profile m).depth = ap (λ (p : Profile). p.depth) is in
    record {
      low_is = h.low ∙ sym here;
      below = omega (arith, at, h.low, h.below);
      reach = omega (arith, at, h.low, h.reach, deep);
    }

-- each coinbase tells a root
pub held_heads : (held : SnapshotData) (m : MachineState) → Holds held m → AllByRecursion IsSoundHead (heads held)
held_heads held m h =
    subst (AllByRecursion IsSoundHead) (heads_read held)
    (sound_heads (machine.profile m) (readings held) (held_states m) h.states (every_drop TellsRoot (machine.low m - (m.start.first - 1)) (history m) (roots_told m)) h.hashes)

-- ---- what a branch keeps

long_kept : (a b c d : ℕ) → a ≡ b → b ≡ c → c ≡ d + 1 → a ≡ d + 1
long_kept a b c d one two three = one ∙ two ∙ three

pub kept_made : (start : StartRecord) (profile : Profile) (held : SnapshotData) (ix : Indexes) (items : List Held) → start_record.Fits start → profile ≡ profile_of start → FitsHeights profile (low_of profile start.first held.top) held → length items ≡ length held.heights + 1 → IsKept profile start.first held.top (lists_in ix (low_of profile start.first held.top) items)
kept_made start profile held ix items fits is heights long =
    let low = low_of profile start.first held.top in
    let count = lists_length ix low items in
    record {
      begins = (start_bounds start fits).first.0;
      some = omega (arith, count, long);
      heights = lists_are_from ix low items;
      tip = omega (arith, count, long, heights.low_is, heights.below);
      reach = omega (arith, count, long, heights.low_is, heights.reach);
      deep = subst (λ (p : Profile). p.depth ≤ p.kept) (sym is) (deep start);
      bases = subst (λ (p : Profile). AllByRecursion (HoldsBase p) (types_of p.quorums)) (sym is) (bases start);
    }

-- it was made of what is held
pub record IsMade (branch : Keeping) (held : SnapshotData) (list : List Marked) : Type 0 where
  pub top : branch.top ≡ held.top
  pub lists : branch.lists ≡ lists_in branch.indexes (low_kept branch) branch.held
  pub coinbases : branch.coinbases ≡ map (λ (h : Held). h.coinbase) branch.held
  pub made : AreMadeOf (heads held) list branch.held
  pub read : map (list_in branch.indexes) list ≡ lists_of held
  pub sound : AreSound branch.indexes (low_kept branch) branch.held
  pub mined : branch.mined ≡ mined_in branch.profile held
  pub pins : branch.pins ≡ no_pins

to_low : (low : ℕ) (mined : List MinedAt) → All (λ (m : MinedAt). m.height ≤ low) mined → MinedTo low mined
to_low low [] all = tt
to_low low (m ∷ mined) all = (all 0 m (omega arith), to_low low mined (λ k d lt. all (suc k) d (omega (arith, lt))))

stands_now : (branch : Keeping) (m : MachineState) (held : SnapshotData) (list : List Marked) → branch.profile ≡ machine.profile m → branch.first ≡ m.start.first → m.pins ≡ no_pins → IsLawful m.start (machine.branch m) → Holds held m → IsMade branch held list → StandsFor branch m
stands_now branch m held list profile first pins lawful h made =
    let low : low_kept branch ≡ machine.low m =
    ap (λ (p : Profile). low_of p branch.first branch.top) profile ∙ ap (λ (f : ℕ). low_of (machine.profile m) f branch.top) first ∙ ap (λ (t : ℕ). low_of (machine.profile m) m.start.first t) (made.top ∙ h.top) in
    let of : AreMadeOf (map head_in (readings held)) list branch.held = subst (λ (l : List Head). AreMadeOf l list branch.held) (sym (heads_read held)) made.made in
    let from : StatesFrom (low_kept branch) (held_states m) = subst (λ (n : ℕ). StatesFrom n (held_states m)) (sym low) (held_from m) in
    let all = stands_all (machine.profile m) branch.indexes (low_kept branch) (readings held) list branch.held (held_states m) h.states of (made.read ∙ sym (lists_read held)) from made.sound.wholes in
    let at = tip_is held m h in
    let mined : branch.mined ≡ mined_in (machine.profile m) held = made.mined ∙ ap (λ (p : Profile). mined_in p held) profile in
    record {
      profile = profile;
      first = first;
      lists = subst (λ (l : List Kept). AllStand l (held_states m)) (sym made.lists) all;
      coinbases = made.coinbases ∙ coinbases_all (machine.profile m) (readings held) list branch.held (held_states m) h.states of;
      trees = all_trees branch.indexes (low_kept branch) branch.held (held_states m) made.sound.versions all;
      quorums = subst (λ (l : List MinedAt). KeepsActive (machine.profile m) l (tip m).height (held_states m)) (sym mined)
          (quorums_given (machine.profile m) held (held_states m) (tip m).height (omega (arith, at, h.low)) (picks_each m.start held.active held.low) h.states (subst (λ (n : ℕ). StatesFrom n (held_states m)) (sym h.low) (held_from m)) (to_low held.low held.active h.active));
      top = made.top ∙ h.top;
      lawful = lawful;
      pins = made.pins ∙ sym pins;
      numbered = subst AreNumbered (sym pins) (omega arith);
    }

pub stands_made : (branch : Keeping) (start : StartRecord) (m : MachineState) (held : SnapshotData) (list : List Marked) → branch.profile ≡ profile_of start → branch.first ≡ start.first → m.start ≡ start → IsLawful m.start (machine.branch m) → Holds held m → IsMade branch held list → StandsFor branch (record m { pins = no_pins })
stands_made branch start m held list profile first same lawful h made =
    stands_now branch (record m { pins = no_pins }) held list (profile ∙ ap profile_of (sym same)) (first ∙ ap (λ (s : StartRecord). s.first) (sym same)) refl lawful (holds_again held m no_pins h) made
