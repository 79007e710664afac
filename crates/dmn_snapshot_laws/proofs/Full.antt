-- What a snapshot tells of a machine it holds in full.
use Rattle.std.proofs.Common.{◌≡◌, ℕ, suc, ◌≤◌, false, List, [], ◌∷◌, length, map, refl, sym, ap, ◌∙◌, subst, arith}
use Rattle.std.specs.List.{AllByRecursion}
use Rattle.std.proofs.lemmas.List.{length-map}
use Rattle.dmn_block.specs.State.{State}
use Rattle.dmn_branch.specs.Holds.{AllGive, Gives, Holds, Reading, lowest, next_reading, readings, readings_behind}
use Rattle.dmn_branch.specs.Machine as machine
use Rattle.dmn_branch.specs.Machine.{MachineState, held_states}
use Rattle.dmn_branch.specs.Stands.{AllStand, IsKept, Keeping, Kept, StandsAt, StandsFor}
use Rattle.dmn_branch.proofs.Standing.{tip_height}
use Rattle.dmn_bytes.specs.declared.hash.Hash256.{Hash256}
use Rattle.dmn_bytes.specs.Points.{is_zero}
use Rattle.dmn_held.specs.declared.data.HeightData.{HeightData}
use Rattle.dmn_held.specs.declared.data.SnapshotData.{SnapshotData}
use Rattle.dmn_restore.specs.Lists.{lists_behind, lists_of, lowest_list, next_list}
use Rattle.dmn_restore.specs.Proper.{AreProper, HasPenaltiesTo, IsProper}
use Rattle.dmn_rows.specs.declared.limits.TheConstants.{MOST_MASTERNODES, MOST_OUTPUTS}
use Rattle.dmn_rows.specs.declared.profile.Profile.{Profile}
use Rattle.dmn_rows.specs.declared.row.MnRow.{MnRow}
use Rattle.dmn_rows.specs.Distinct.{HasDistinctKeys}
use Rattle.dmn_rows.specs.Listing.{Listing}
use Rattle.dmn_rows.specs.Row.{plain}
use Rattle.dmn_rows.specs.Rows.{Outputs, plain_rows}
use Rattle.dmn_rows.proofs.Distinct.{HasDistinctKeys-from_plain, HasDistinctKeys-plain}
use Rattle.dmn_snapshot_laws.specs.Tells.{HavePenaltiesTo, Tells}

-- ---- the lists that are read

abbrev list_read : Reading → Listing
list_read reading = reading.list

read_behind : (height : ℕ) (before : Reading) (heights : List HeightData) → map list_read (readings_behind height before heights) ≡ lists_behind before.list heights
read_behind height before [] = refl
read_behind height before (d ∷ heights) = ap (λ (l : List Listing). next_list before.list d ∷ l) (read_behind (suc height) (next_reading (suc height) before d) heights)

lists_read : (held : SnapshotData) → map list_read (readings held) ≡ lists_of held
lists_read held = ap (λ (l : List Listing). lowest_list held ∷ l) (read_behind held.low (lowest held) held.heights)

-- ---- height by height

one_proper : (profile : Profile) (height : ℕ) (r : Reading) (k : Kept) (s : State) → Gives profile r s → StandsAt k s → HasPenaltiesTo height r.list.rows → IsProper height r.list
one_proper profile height r k s gives stands penalties =
    let same : plain_rows s.height k.rows ≡ plain_rows s.height r.list.rows = stands.rows ∙ sym gives.rows in
    let long : length k.rows ≡ length r.list.rows = sym (length-map k.rows (plain s.height)) ∙ ap (λ (l : List MnRow). length l) same ∙ length-map r.list.rows (plain s.height) in
    record {
      keys = HasDistinctKeys-from_plain s.height r.list.rows (subst HasDistinctKeys same (HasDistinctKeys-plain s.height k.rows stands.whole.keys));
      penalties = penalties;
      masternodes = subst (λ (n : ℕ). n ≤ MOST_MASTERNODES) long stands.whole.masternodes;
      collaterals = subst (λ (l : Outputs). length l ≤ MOST_OUTPUTS) (stands.outputs ∙ sym gives.outputs) stands.whole.collaterals;
    }

all_proper : (profile : Profile) (height : ℕ) (rs : List Reading) (ks : List Kept) (ss : List State) → AllGive profile rs ss → AllStand ks ss → HavePenaltiesTo height (map list_read rs) → AreProper height (map list_read rs)
all_proper profile height [] ks ss give stand penalties = tt
all_proper profile height (r ∷ rs) ks [] give stand penalties = absurd give
all_proper profile height (r ∷ rs) [] (s ∷ ss) give stand penalties = absurd stand
all_proper profile height (r ∷ rs) (k ∷ ks) (s ∷ ss) give stand penalties = (one_proper profile height r k s give.0 stand.0 penalties.0, all_proper profile (suc height) rs ks ss give.1 stand.1 penalties.1)

one_hash : (profile : Profile) (r : Reading) (k : Kept) (s : State) → Gives profile r s → StandsAt k s → is_zero r.hash.0 ≡ false
one_hash profile r k s gives stands = ap (λ (h : Hash256). is_zero h.0) (gives.hash ∙ sym stands.hash) ∙ stands.whole.hash

all_hashes : (profile : Profile) (rs : List Reading) (ks : List Kept) (ss : List State) → AllGive profile rs ss → AllStand ks ss → AllByRecursion (λ (r : Reading). is_zero r.hash.0 ≡ false) rs
all_hashes profile [] ks ss give stand = tt
all_hashes profile (r ∷ rs) ks [] give stand = absurd give
all_hashes profile (r ∷ rs) [] (s ∷ ss) give stand = absurd stand
all_hashes profile (r ∷ rs) (k ∷ ks) (s ∷ ss) give stand = (one_hash profile r k s give.0 stand.0, all_hashes profile rs ks ss give.1 stand.1)

-- ---- all of it

pub holds_in_full : (branch : Keeping) (m : MachineState) (held : SnapshotData) → IsKept branch.profile branch.first branch.top branch.lists → StandsFor branch m → Tells held m → Holds held m
holds_in_full branch m held kept stands tells =
    let at = tip_height branch m kept stands in
    let read = lists_read held in
    record {
      form = tells.form;
      top = tells.top;
      low = tells.low;
      states = tells.states;
      proper = subst (AreProper held.low) read (all_proper (machine.profile m) held.low (readings held) branch.lists (held_states m) tells.states stands.lists (subst (HavePenaltiesTo held.low) (sym read) tells.penalties));
      hashes = all_hashes (machine.profile m) (readings held) branch.lists (held_states m) tells.states stands.lists;
      active = tells.active;
      below = omega (arith, at, tells.top, stands.top, kept.tip, kept.some);
      reach = omega (arith, at, tells.top, stands.top, kept.reach, kept.some, ap (λ (p : Profile). p.depth) stands.profile);
    }
