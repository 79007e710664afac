-- Pins, where the arena of rows changes around them.
use Rattle.std.proofs.Common.{Bor, ◌≡◌, ℕ, zero, suc, ◌+◌, ◌<◌, ◌≤◌, max, Bool, true, false, cond, List, [], ◌∷◌, ◌++◌, length, take, drop, get_or, map, filter, find, Option, Some, None, refl, sym, ap, ◌∙◌, subst, arith}
use Rattle.std.specs.Prelude.{◌==◌, not, nat_lt, is_some, SomeIff}
use Rattle.std.specs.List.{All, slice_index}
use Rattle.std.proofs.lemmas.Bool.{lt-ltb, ltb-true, ne_eqb}
use Rattle.std.specs.Option.{option_copied, option_map}
use Rattle.std.proofs.lemmas.List.{length-map, map-append, take-map, drop-map}
use Rattle.dmn_block.specs.State.{State}
use Rattle.dmn_bytes.specs.declared.hash.Hash256.{Hash256}
use Rattle.dmn_bytes.specs.Points.{hash_cmp}
use Rattle.dmn_indexes.specs.declared.indexes.Indexes.{Indexes}
use Rattle.dmn_indexes.specs.declared.version.Version.{Version}
use Rattle.dmn_indexes.specs.Marks.{Cut, IsBelow, KeepsBelow, SameNodes}
use Rattle.dmn_indexes.specs.Version.{GrownBy, by_hash, values}
use Rattle.dmn_rows.specs.declared.row.MnRow.{MnRow}
use Rattle.dmn_rows.specs.Row.{plain}
use Rattle.dmn_rows.specs.Rows.{plain_rows}
use Rattle.dmn_versions.specs.declared.node.Node.{Node}
use Rattle.dmn_versions.specs.Trees.{IsSound, Tree, pairs, reads, tree_at}
use Rattle.dmn_versions.proofs.Change.{sound_cut}
use Rattle.dmn_versions.proofs.Grow.{sound_kept}
use Rattle.dmn_branch.specs.declared.pins.Pin.{Pin}
use Rattle.dmn_branch.specs.Asked.{IsPageOf}
use Rattle.dmn_branch.specs.Machine as machine
use Rattle.dmn_branch.specs.Machine.{MachineState, history, top}
use Rattle.dmn_branch.specs.Parts.{StandsIn}
use Rattle.dmn_branch.specs.Pins.{AreNumbered, AscendFrom, IsAtMost, Pinned, Pins, free_number, last_number, number_after, pin_of, with_pin, without_pin}
use Rattle.dmn_branch.specs.Stands.{IsPinned, Keeping, Kept, StandsFor, marks_over, most_mark, pinned_in, pins_in}

-- ---- numbers

at_most : (least : ℕ) (pins : List Pinned) (next : Option ℕ) → AscendFrom least pins next → IsAtMost least next
at_most least [] next is = is
at_most least (pin ∷ pins) None is = tt
at_most least (pin ∷ pins) (Some next) is = let rest = at_most (pin.number + 1) pins (Some next) is.1 in omega (arith, is.0, rest)

less : (least more : ℕ) (pins : List Pinned) (next : Option ℕ) → least ≤ more → AscendFrom more pins next → AscendFrom least pins next
less least more [] None le is = tt
less least more [] (Some next) le is = omega (arith, le, is)
less least more (pin ∷ pins) next le is = (omega (arith, le, is.0), is.1)

after_all : (number : ℕ) → IsAtMost (number + 1) (number_after number)
after_all number = elim (nat_lt number last_number) as (λ b. IsAtMost (number + 1) (cond b (Some (number + 1)) None)) [ true ↦ omega arith | false ↦ tt ]

numbered_more : (least : ℕ) (pins : List Pinned) (pin : Pinned) → AscendFrom least pins (Some pin.number) → AscendFrom least (pins ++ pin ∷ []) (number_after pin.number)
numbered_more least [] pin is = (is, after_all pin.number)
numbered_more least (p ∷ pins) pin is = (is.0, numbered_more (p.number + 1) pins pin is.1)

numbered_less : (least : ℕ) (test : Pinned → Bool) (pins : List Pinned) (next : Option ℕ) → AscendFrom least pins next → AscendFrom least (filter test pins) next
numbered_less least test [] next is = is
numbered_less least test (pin ∷ pins) next is =
    let rest = numbered_less (pin.number + 1) test pins next is.1 in
    elim (test pin) as (λ b. AscendFrom least (cond b (pin ∷ filter test pins) (filter test pins)) next) [
      | true ↦ (is.0, rest)
      | false ↦ less least (pin.number + 1) (filter test pins) next (omega (arith, is.0)) rest
    ]

-- the next number is that of no pin
none_there : (least : ℕ) (pins : List Pinned) (number : ℕ) → AscendFrom least pins (Some number) → find (λ (p : Pinned). p.number == number) pins ≡ None
none_there least [] number is = refl
none_there least (pin ∷ pins) number is =
    let below = at_most (pin.number + 1) pins (Some number) is.1 in
    let other : (pin.number == number) ≡ false = ne_eqb pin.number number (λ (e : pin.number ≡ number). omega (arith, e, below)) in
    ap (λ b. cond b (Some pin) (find (λ (p : Pinned). p.number == number) pins)) other ∙ none_there (pin.number + 1) pins number is.1

-- the next number, as the code finds it
pub next_number : (found : Option ℕ) (number : ℕ) → SomeIff found (number + 1 < 4294967296) (number + 1) → found ≡ number_after number
next_number None number none = go (nat_lt number last_number) refl
  where
    go : (b : Bool) → nat_lt number last_number ≡ b → None ≡ cond b (Some (number + 1)) None
    go true e = absurd (none (omega (arith, ltb-true number last_number e)))
    go false e = refl
next_number (Some next) number is =
    ap (λ (n : ℕ). Some n) is.1 ∙ ap (λ b. cond b (Some (number + 1)) None) (sym (lt-ltb number last_number (omega (arith, is.0))))

free_next : (pins : Pins) (number : ℕ) → free_number pins ≡ Some number → pins.next ≡ Some number
free_next pins number is = go (nat_lt (length pins.live) 16) is
  where
    go : (b : Bool) → cond b pins.next None ≡ Some number → pins.next ≡ Some number
    go true e = e
    go false e = absurd cc

pub fresh_number : (pins : Pins) (number : ℕ) → AreNumbered pins → free_number pins ≡ Some number → pin_of pins number ≡ None
fresh_number pins number are is = none_there 1 pins.live number (subst (AscendFrom 1 pins.live) (free_next pins number is) are)

pub numbered_with : (pins : Pins) (pin : Pinned) → AreNumbered pins → free_number pins ≡ Some pin.number → AreNumbered (with_pin pins pin)
numbered_with pins pin are is = numbered_more 1 pins.live pin (subst (AscendFrom 1 pins.live) (free_next pins pin.number is) are)

pub numbered_without : (pins : Pins) (number : ℕ) → AreNumbered pins → AreNumbered (without_pin pins number)
numbered_without pins number are = numbered_less 1 (λ pin. not (pin.number == number)) pins.live pins.next are

-- ---- pins and what they read as

pub live_length : (ix : Indexes) (pinned : List Pin) (next : Option ℕ) → length (pins_in ix pinned next).live ≡ length pinned
live_length ix pinned next = length-map pinned (pinned_in ix)

find_mapped : (ix : Indexes) (number : ℕ) (pinned : List Pin) → find (λ (p : Pinned). p.number == number) (map (pinned_in ix) pinned) ≡ option_map (pinned_in ix) (find (λ (p : Pin). p.number == number) pinned)
find_mapped ix number [] = refl
find_mapped ix number (pin ∷ pinned) =
    elim (pin.number == number) as (λ b. cond b (Some (pinned_in ix pin)) (find (λ (p : Pinned). p.number == number) (map (pinned_in ix) pinned)) ≡ option_map (pinned_in ix) (cond b (Some pin) (find (λ (p : Pin). p.number == number) pinned))) [ true ↦ refl | false ↦ find_mapped ix number pinned ]

filter_mapped : (ix : Indexes) (number : ℕ) (pinned : List Pin) → map (pinned_in ix) (filter (λ (p : Pin). not (p.number == number)) pinned) ≡ filter (λ (p : Pinned). not (p.number == number)) (map (pinned_in ix) pinned)
filter_mapped ix number [] = refl
filter_mapped ix number (pin ∷ pinned) =
    let rest = filter_mapped ix number pinned in
    elim (not (pin.number == number)) as (λ b. map (pinned_in ix) (cond b (pin ∷ filter (λ (p : Pin). not (p.number == number)) pinned) (filter (λ (p : Pin). not (p.number == number)) pinned)) ≡ cond b (pinned_in ix pin ∷ filter (λ (p : Pinned). not (p.number == number)) (map (pinned_in ix) pinned)) (filter (λ (p : Pinned). not (p.number == number)) (map (pinned_in ix) pinned))) [
      | true ↦ ap (λ (l : List Pinned). pinned_in ix pin ∷ l) rest
      | false ↦ rest
    ]

-- what holds of each pin holds of one that is found, and of those that are left
pub found_has : (P : Pin → Type 0) (test : Pin → Bool) (pinned : List Pin) (pin : Pin) → All P pinned → find test pinned ≡ Some pin → P pin
found_has P test [] pin all is = absurd cc
found_has P test (x ∷ pinned) pin all is = go (found_has P test pinned pin (λ k d lt. all (suc k) d (omega (arith, lt)))) (test x) is
  where
    go : (find test pinned ≡ Some pin → P pin) → (b : Bool) → cond b (Some x) (find test pinned) ≡ Some pin → P pin
    go behind true e = let same : x ≡ pin = cc in subst P same (all 0 x (omega arith))
    go behind false e = behind e

pub no_pins_on : (ix : Indexes) (pinned : List Pin) → pinned ≡ [] → All (IsPinned ix) pinned
no_pins_on ix pinned none k d lt = absurd (omega (arith, lt, ap length none))

-- ---- the arena of rows changes

-- the trees of pins are sound in the new nodes, and are those of before
pub record PinsOn (ix iy : Indexes) (pinned : List Pin) : Type 0 where
  pub sound : All (IsPinned iy) pinned
  pub same : map (pinned_in iy) pinned ≡ map (pinned_in ix) pinned

pub pins_read : {ix iy : Indexes} {pinned : List Pin} (next : Option ℕ) → PinsOn ix iy pinned → pins_in iy pinned next ≡ pins_in ix pinned next
pins_read next on = ap (λ (l : List Pinned). record { live = l; next = next }) on.same

record PinOn (ix iy : Indexes) (pin : Pin) : Type 0 where
  pub sound : IsSound hash_cmp iy.rows.nodes.items pin.root.0
  pub tree : tree_at iy.rows.nodes.items pin.root.0 ≡ tree_at ix.rows.nodes.items pin.root.0

pin_on : (ix iy : Indexes) (pin : Pin) → PinOn ix iy pin → IsPinned ix pin → IsPinned iy pin
pin_on ix iy pin on is = record {
  sound = on.sound;
  below = is.below;
  hashes = subst (λ (t : Tree Hash256 MnRow). pairs t ≡ by_hash (values (pairs t))) (sym on.tree) is.hashes;
}

all_on : (ix iy : Indexes) (pinned : List Pin) → All (PinOn ix iy) pinned → All (IsPinned ix) pinned → PinsOn ix iy pinned
all_on ix iy pinned on is = record { sound = λ k d lt. pin_on ix iy (get_or pinned k d) (on k d lt) (is k d lt); same = go pinned on }
  where
    go : (l : List Pin) → All (PinOn ix iy) l → map (pinned_in iy) l ≡ map (pinned_in ix) l
    go [] all = refl
    go (pin ∷ l) all =
        let one : pinned_in iy pin ≡ pinned_in ix pin = ap (λ (t : Tree Hash256 MnRow). record { number = pin.number; height = pin.height; rows = plain_rows pin.height (values (pairs t)) }) (all 0 pin (omega arith)).tree in
        ap (λ (p : Pinned). p ∷ map (pinned_in iy) l) one ∙ ap (λ (r : List Pinned). pinned_in ix pin ∷ r) (go l (λ k d lt. all (suc k) d (omega (arith, lt))))

pub pins_grow : {by : ℕ} (ix iy : Indexes) (pinned : List Pin) → GrownBy by ix iy → All (IsPinned ix) pinned → PinsOn ix iy pinned
pins_grow ix iy pinned grown is = all_on ix iy pinned (λ k d lt. record { sound = sound_kept grown.rows (is k d lt).sound; tree = grown.rows.older (get_or pinned k d).root.0 (is k d lt).sound.named }) is

pub pins_same : (ix iy : Indexes) (pinned : List Pin) → SameNodes ix iy → All (IsPinned ix) pinned → PinsOn ix iy pinned
pins_same ix iy pinned same is = all_on ix iy pinned (λ k d lt. record {
  sound = subst (λ (ns : List (Node Hash256 MnRow)). IsSound hash_cmp ns (get_or pinned k d).root.0) (sym same.rows) (is k d lt).sound;
  tree = ap (λ (ns : List (Node Hash256 MnRow)). tree_at ns (get_or pinned k d).root.0) same.rows;
}) is

-- the greatest mark is none below the first, nor below that of a pin
not_below : (mark : ℕ) (pinned : List Pin) → mark ≤ most_mark mark pinned
not_below mark [] = omega arith
not_below mark (pin ∷ pinned) = omega (arith, not_below (max mark pin.mark) pinned)

mark_below : (mark : ℕ) (pinned : List Pin) → All (λ (pin : Pin). pin.mark ≤ most_mark mark pinned) pinned
mark_below mark [] k d lt = absurd (omega (arith, lt))
mark_below mark (pin ∷ pinned) zero d lt = omega (arith, not_below (max mark pin.mark) pinned)
mark_below mark (pin ∷ pinned) (suc k) d lt = mark_below (max mark pin.mark) pinned k d (omega (arith, lt))

pub pins_cut : (ix iy : Indexes) (pinned : List Pin) (marks : List ℕ) → Cut (marks_over pinned marks) ix iy → All (IsPinned ix) pinned → PinsOn ix iy pinned
pins_cut ix iy pinned marks cut is = all_on ix iy pinned (λ k d lt. one k d lt (omega (arith, (is k d lt).below, mark_below (slice_index marks 0) pinned k d lt))) is
  where
    one : (k : ℕ) (d : Pin) → k < length pinned → (get_or pinned k d).root.0 ≤ most_mark (slice_index marks 0) pinned → PinOn ix iy (get_or pinned k d)
    one k d lt low = record { sound = sound_cut cut.rows low (is k d lt).sound; tree = cut.rows.older (get_or pinned k d).root.0 low (is k d lt).sound.named }

-- a version below the marks of a height is below those over pins
pub below_over : (pinned : List Pin) (marks : List ℕ) (v : Version) → IsBelow marks v → IsBelow (marks_over pinned marks) v
below_over pinned marks v below = record {
  rows = omega (arith, below.rows, not_below (slice_index marks 0) pinned);
  owner = below.owner;
  operator = below.operator;
  service = below.service;
  collateral = below.collateral;
  payment = below.payment;
  unconfirmed = below.unconfirmed;
  outputs = below.outputs;
}

pub keeps_over : {ix iy : Indexes} (pinned : List Pin) (marks : List ℕ) → KeepsBelow (marks_over pinned marks) ix iy → KeepsBelow marks ix iy
keeps_over pinned marks keeps = λ v whole below. keeps v whole (below_over pinned marks v below)

-- ---- what the machine has

-- pins are other ones, and all that is held is as before
pub repinned : (old new : Keeping) (m : MachineState) (pins : Pins) → new ≡ record old { pinned = new.pinned; pins = new.pins } → new.pins ≡ pins → AreNumbered pins → StandsFor old m → StandsFor new (record m { pins = pins })
unfolding history top
repinned old new m pins is same numbered stands =
    let with : StandsFor (record old { pinned = new.pinned; pins = new.pins }) (record m { pins = pins }) =
    record {
      profile = stands.profile;
      first = stands.first;
      lists = stands.lists;
      coinbases = stands.coinbases;
      trees = stands.trees;
      quorums = stands.quorums;
      top = stands.top;
      lawful = stands.lawful;
      pins = same;
      numbered = numbered;
    } in
    subst (λ (b : Keeping). StandsFor b (record m { pins = pins })) (sym is) with

-- what is kept of a height reads, through that height, as the rows of its state
pub rows_seen : (kept : Kept) (height : ℕ) (found : Option State) → kept.height ≡ height → StandsIn kept found → plain_rows height kept.rows ≡ machine.rows_of found
rows_seen kept height None is at = absurd at
rows_seen kept height (Some state) is at = ap (λ (n : ℕ). plain_rows n kept.rows) (sym is ∙ at.height) ∙ at.rows

-- the pin of a height that is held
pub pin_made : (ix : Indexes) (m : MachineState) (kept : Kept) (pin : Pin) → kept.height ≡ pin.height → kept.rows ≡ values (reads ix.rows pin.root) → StandsIn kept (machine.state_at m pin.height) → pinned_in ix pin ≡ machine.pin_at m pin.number pin.height
pin_made ix m kept pin height rows stands =
    ap (λ (r : List MnRow). record { number = pin.number; height = pin.height; rows = r })
    (ap (plain_rows pin.height) (sym rows) ∙ rows_seen kept pin.height (machine.state_at m pin.height) height stands)

pub pins_more : (ix : Indexes) (pinned : List Pin) (next : Option ℕ) (pin : Pin) → pins_in ix (pinned ++ pin ∷ []) (number_after pin.number) ≡ with_pin (pins_in ix pinned next) (pinned_in ix pin)
pins_more ix pinned next pin = ap (λ (l : List Pinned). record { live = l; next = number_after pin.number }) (map-append (pinned_in ix) pinned (pin ∷ []))

pub pins_less : (ix : Indexes) (pinned : List Pin) (next : Option ℕ) (number : ℕ) → pins_in ix (filter (λ (p : Pin). not (p.number == number)) pinned) next ≡ without_pin (pins_in ix pinned next) number
pins_less ix pinned next number = ap (λ (l : List Pinned). record { live = l; next = next }) (filter_mapped ix number pinned)

pub pin_found : (ix : Indexes) (pinned : List Pin) (next : Option ℕ) (number : ℕ) → pin_of (pins_in ix pinned next) number ≡ option_map (pinned_in ix) (find (λ (p : Pin). p.number == number) pinned)
pin_found ix pinned next number = find_mapped ix number pinned

pub some_mapped : {A B : Type 0} (f : A → B) (o : Option A) → is_some o ≡ is_some (option_map f o)
some_mapped f None = refl
some_mapped f (Some x) = refl

pub some_alike : {A : Type 0} (o : Option (Bor A)) → is_some o ≡ is_some (option_copied o)
some_alike None = refl
some_alike (Some x) = refl

-- those that are left of all
pub left_of : (P : Pin → Type 0) (test : Pin → Bool) (pinned : List Pin) → All P pinned → All P (filter test pinned)
left_of P test [] all = all
left_of P test (pin ∷ pinned) all =
    let rest : All P (filter test pinned) = left_of P test pinned (λ k d lt. all (suc k) d (omega (arith, lt))) in
    elim (test pin) as (λ b. All P (cond b (pin ∷ filter test pinned) (filter test pinned))) [
      | true ↦ more (all 0 pin (omega arith)) rest
      | false ↦ rest
    ]
  where
    more : P pin → All P (filter test pinned) → All P (pin ∷ filter test pinned)
    more one others zero d lt = one
    more one others (suc k) d lt = others k d (omega (arith, lt))

-- ---- a page

pub page_is : (ix : Indexes) (pin : Pin) (from most : ℕ) (ps : List (Hash256 × MnRow)) → IsPinned ix pin → ps ≡ take most (drop from (reads ix.rows pin.root)) → IsPageOf from most (Some (pinned_in ix pin)) (Some ps)
page_is ix pin from most ps is same =
    let all = reads ix.rows pin.root in
    let rows : values ps ≡ take most (drop from (values all)) =
    ap values same ∙ sym (take-map (λ p. p.1) most (drop from all)) ∙ ap (take most) (sym (drop-map (λ p. p.1) from all)) in
    let pairs : ps ≡ by_hash (take most (drop from (values all))) =
    same ∙ ap (λ l. take most (drop from l)) is.hashes ∙ ap (take most) (drop-map (λ r. (r.hash, r)) from (values all)) ∙ take-map (λ r. (r.hash, r)) most (drop from (values all)) in
    record {
      rows = ap (plain_rows pin.height) rows ∙ sym (take-map (plain pin.height) most (drop from (values all))) ∙ ap (take most) (sym (drop-map (plain pin.height) from (values all)));
      hashes = pairs ∙ ap by_hash (sym rows);
    }
