-- A branch without blocks.
use Rattle.std.proofs.Common.{◌≡◌, ◌-◌, ◌<◌, ◌≤◌, false, length, List, [], ◌∷◌, map, refl, subst, arith, ℕ, max, drop, true, ◌==◌, Bool, cond, None, sym, ap, ◌∙◌}
use Rattle.std.specs.List.{AllByRecursion}
use Rattle.std.proofs.lemmas.Bool.{not-true}
use Rattle.dmn_block.specs.State.{origin}
use Rattle.dmn_bytes.specs.Points.{is_zero}
use Rattle.dmn_merkle.specs.Defs.{merkle_root}
use Rattle.dmn_payloads.specs.declared.mined.MinedAt.{MinedAt}
use Rattle.dmn_rows.specs.declared.profile.Profile.{Profile}
use Rattle.dmn_rows.specs.declared.profile.QuorumParams.{QuorumParams}
use Rattle.dmn_rows.specs.declared.start.StartRecord.{StartRecord}
use Rattle.dmn_rows.specs.Defs.{KeepsBounds}
use Rattle.dmn_rows.specs.Listing.{OutputsAscend}
use Rattle.dmn_rows.specs.Start.{start_record, hash_field, most_outputs}
use Rattle.dmn_rows.specs.Profile.{small_profile, main_profile}
use Rattle.dmn_rows.proofs.Found.{found_keeps, found_ascends}
use Rattle.dmn_quorums.specs.Duty.{types_of}
use Rattle.dmn_branch.specs.Step.{profile_of}
use Rattle.dmn_branch.specs.Machine.{MachineState, begun, held_states, history, top}
use Rattle.dmn_branch.specs.Pins.{no_pins}
use Rattle.dmn_branch.specs.Coinbases.{coinbase_of}
use Rattle.dmn_branch.specs.Stands.{Kept, Keeping, AllStand, AreSound, HoldsBase, IsWhole, IsKept, KeepsActive, StandsAt, StandsFor, first_kept, lists_in, low_kept, low_of}
use Rattle.dmn_branch.proofs.Every.{every_by}
use Rattle.dmn_branch.proofs.Holding.{all_trees}

pub start_bounds : (start : StartRecord) → start_record.Fits start → KeepsBounds start
start_bounds start fits = found_keeps (start_record.text start) start (fits, refl)

pub start_ascends : (start : StartRecord) → start_record.Fits start → OutputsAscend start.outputs
start_ascends start fits = found_ascends (start_record.text start) start (fits, refl)

-- a registry doesn't begin behind a block whose hash is zero
pub start_hash : (start : StartRecord) → start_record.Fits start → is_zero start.hash.0 ≡ false
unfolding start_record hash_field
start_hash start fits = not-true (is_zero start.hash.0) fits.1.1.1.0.1

first_whole : (start : StartRecord) → is_zero start.hash.0 ≡ false → length start.outputs ≤ most_outputs → OutputsAscend start.outputs → IsWhole (first_kept start)
unfolding merkle_root
first_whole start hash few ascending = record {
  hash = hash;
  keys = record { hashes = tt; owners = tt; operators = tt; services = tt; collaterals = tt };
  rows = tt;
  outputs = ascending;
  penalties = λ k d lt. absurd (omega (arith, lt));
  masternodes = omega arith;
  collaterals = few;
}

-- what is kept before the first block is whole
pub begins_whole : (start : StartRecord) → start_record.Fits start → IsWhole (first_kept start)
begins_whole start fits = first_whole start (start_hash start fits) (start_bounds start fits).outputs (start_ascends start fits)

first_stands : (start : StartRecord) → start_record.Fits start → StandsAt (first_kept start) (origin start)
unfolding merkle_root
first_stands start fits = record { height = refl; hash = refl; root = refl; rows = refl; outputs = refl; whole = begins_whole start fits }

-- a branch that has just begun
pub record IsBegun (branch : Keeping) (start : StartRecord) : Type 0 where
  pub profile : branch.profile ≡ profile_of start
  pub first : branch.first ≡ start.first
  pub lists : branch.lists ≡ first_kept start ∷ []
  pub coinbases : branch.coinbases ≡ None ∷ []
  pub mined : branch.mined ≡ []
  pub top : branch.top ≡ start.first - 1
  pub pins : branch.pins ≡ no_pins

-- the lowest height of a registry without blocks
low_start : (first kept : ℕ) → max first (first - kept) ≡ first
low_start first kept = omega arith

pub low_first : (profile : Profile) (first : ℕ) → low_of profile first (first - 1) ≡ first - 1
low_first profile first = low_start (first - 1) profile.kept

deep_by : (small : Bool) → (cond small small_profile main_profile).depth ≤ (cond small small_profile main_profile).kept
deep_by true = omega arith
deep_by false = omega arith

-- the heights that are held are at least as many as a tip may go back
pub deep : (start : StartRecord) → (profile_of start).depth ≤ (profile_of start).kept
deep start = deep_by (start.profile == 1)

bases_by : (small : Bool) → AllByRecursion (HoldsBase (cond small small_profile main_profile)) (types_of (cond small small_profile main_profile).quorums)
bases_by true = (record { interval = omega arith; behind = omega arith; held = omega arith }, tt)
bases_by false = (
  record { interval = omega arith; behind = omega arith; held = omega arith },
  (
    record { interval = omega arith; behind = omega arith; held = omega arith },
    (record { interval = omega arith; behind = omega arith; held = omega arith }, tt),
  ),
)

-- and as many that the base of each quorum is held
pub bases : (start : StartRecord) → AllByRecursion (HoldsBase (profile_of start)) (types_of (profile_of start).quorums)
bases start = bases_by (start.profile == 1)

active_by : (small : Bool) → AllByRecursion (λ (p : QuorumParams). 0 < p.active) (types_of (cond small small_profile main_profile).quorums)
active_by true = (omega arith, tt)
active_by false = (omega arith, (omega arith, (omega arith, tt)))

-- of each type the last commitment is active
pub some_active : (start : StartRecord) → AllByRecursion (λ (p : QuorumParams). 0 < p.active) (types_of (profile_of start).quorums)
some_active start = active_by (start.profile == 1)

-- what a branch keeps that has just begun
pub start_kept : (start : StartRecord) → start_record.Fits start → IsKept (profile_of start) start.first (start.first - 1) (first_kept start ∷ [])
start_kept start fits =
    let low = low_start (start.first - 1) (profile_of start).kept in
    record {
      begins = (start_bounds start fits).first.0;
      some = omega arith;
      heights = (sym low, tt);
      tip = omega (arith, low);
      reach = omega (arith, low, (start_bounds start fits).first.0);
      deep = deep start;
      bases = bases start;
    }

pub start_stands : (branch : Keeping) (start : StartRecord) → start_record.Fits start → IsBegun branch start → branch.lists ≡ lists_in branch.indexes (low_kept branch) branch.held → AreSound branch.indexes (low_kept branch) branch.held → StandsFor branch (begun start)
unfolding history top
start_stands branch start fits begins read sound =
    let m : MachineState = begun start in
    let none : max (start.first - 1) (start.first - 1 - (profile_of start).kept) - (start.first - 1) ≡ 0 = omega (arith, low_start (start.first - 1) (profile_of start).kept) in
    let states : origin start ∷ [] ≡ held_states m = ap (λ (n : ℕ). drop n (origin start ∷ [])) (sym none) in
    let one : AllStand branch.lists (origin start ∷ []) = rw begins.lists (first_stands start fits, tt) in
    let lists = subst (AllStand branch.lists) states one in
    record {
      profile = begins.profile;
      first = begins.first;
      lists = lists;
      coinbases = begins.coinbases ∙ ap (map coinbase_of) states;
      trees = all_trees branch.indexes (low_kept branch) branch.held (held_states m) sound.versions (subst (λ (l : List Kept). AllStand l (held_states m)) read lists);
      quorums = subst (λ (l : List MinedAt). KeepsActive (profile_of start) l (start.first - 1) (held_states m)) (sym begins.mined)
          (subst (KeepsActive (profile_of start) [] (start.first - 1)) states (every_by (λ (p : QuorumParams). record { ordered = tt; active = (refl, tt) }) (types_of (profile_of start).quorums)));
      top = begins.top;
      lawful = refl;
      pins = begins.pins;
      numbered = omega arith;
    }
