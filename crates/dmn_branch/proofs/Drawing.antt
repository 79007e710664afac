-- The quorums of a block's height, by what a branch keeps.
use Rattle.std.proofs.Common.{◌≡◌, ℕ, zero, suc, ◌+◌, ◌-◌, ◌%◌, ◌<◌, ◌≤◌, max, Bool, true, false, cond, List, [], ◌∷◌, length, map, get_or, drop, Option, Some, None, refl, sym, ap, ◌∙◌, subst, arith, add-one, drop-cons}
use Rattle.std.specs.Prelude.{◌&&◌, nat_le, slice_get}
use Rattle.std.specs.List.{AllByRecursion}
use Rattle.std.proofs.lemmas.Bool.{leb-true}
use Rattle.dmn_block.specs.State.{State}
use Rattle.dmn_bytes.specs.declared.hash.Hash256.{Hash256}
use Rattle.dmn_payloads.specs.declared.mined.MinedAt.{MinedAt}
use Rattle.dmn_quorums.specs.Digest.{digest_of}
use Rattle.dmn_quorums.specs.Duty.{base_of, is_done, is_in_window, is_of, types_of, undone}
use Rattle.dmn_quorums.specs.Forming.{Formed, inside, outside, seats}
use Rattle.dmn_quorums.specs.Score.{modifier_of}
use Rattle.dmn_quorums.proofs.Stored.{members_plain, digest_plain}
use Rattle.dmn_rows.specs.declared.profile.Profile.{Profile}
use Rattle.dmn_rows.specs.declared.profile.QuorumParams.{QuorumParams}
use Rattle.dmn_rows.specs.declared.row.MnRow.{MnRow}
use Rattle.dmn_rows.specs.Rows.{plain_rows}
use Rattle.dmn_branch.specs.Machine as machine
use Rattle.dmn_branch.specs.Machine.{MachineState, history, tip, state_at}
use Rattle.dmn_branch.specs.Parts.{StandsIn, formed_in, formed_kept, all_formed_in}
use Rattle.dmn_branch.specs.Quorums.{formed_at, formed_by}
use Rattle.dmn_branch.specs.Stands.{GivesActive, HoldsBase, IsHeld, IsKept, Kept, Keeping, KeepsActive, StandsFor, low_kept}
use Rattle.dmn_branch.proofs.Active.{from_filter, same_done, settled_to}
use Rattle.dmn_branch.proofs.Every.{every_both}
use Rattle.dmn_branch.proofs.History.{tip_mined_from, tip_mined_to}
use Rattle.dmn_branch.proofs.Standing.{held_stands, tip_gives}
use Rattle.dmn_branch.proofs.Starting.{some_active}

-- ---- the types of a profile, one after another

pub types_pass : (quorums : List (Option QuorumParams)) (i : ℕ) (item : Option QuorumParams) → i < length quorums → item ≡ get_or quorums i item → item ≡ None → types_of (drop i quorums) ≡ types_of (drop (i + 1) quorums)
types_pass quorums i item lt is none =
    ap types_of (drop-cons quorums i item lt) ∙ ap (λ (o : Option QuorumParams). types_of (o ∷ drop (suc i) quorums)) (sym is ∙ none) ∙ ap (λ (n : ℕ). types_of (drop n quorums)) (sym (add-one i))

pub types_next : (quorums : List (Option QuorumParams)) (i : ℕ) (item : Option QuorumParams) (params : QuorumParams) → i < length quorums → item ≡ get_or quorums i item → item ≡ Some params → types_of (drop i quorums) ≡ params ∷ types_of (drop (i + 1) quorums)
types_next quorums i item params lt is some =
    ap types_of (drop-cons quorums i item lt) ∙ ap (λ (o : Option QuorumParams). types_of (o ∷ drop (suc i) quorums)) (sym is ∙ some) ∙ ap (λ (n : ℕ). params ∷ types_of (drop n quorums)) (sym (add-one i))

-- ---- a base is held

pub both : (a b : Bool) → (a && b) ≡ true → (a ≡ true) × (b ≡ true)
both true true is = (refl, refl)
both true false is = cc
both false b is = cc

base_between : (first kept depth top count height left from to : ℕ) → 1 ≤ first → 1 ≤ from → depth + to ≤ kept → height ≡ max (first - 1) (top - kept) + count → top + 1 ≤ height + depth → first ≤ height - left → from ≤ left → left ≤ to
    → (max (first - 1) (top - kept) ≤ height - left) × (height - left < max (first - 1) (top - kept) + count)
base_between first kept depth top count height left from to begins behind deep is reach above low high =
    (omega (arith, begins, behind, deep, is, reach, above, low, high), omega (arith, begins, behind, is, above, low))

-- in the window of a type its base is held
pub base_held : (branch : Keeping) (params : QuorumParams) (height : ℕ) → IsKept branch.profile branch.first branch.top branch.lists → HoldsBase branch.profile params → height ≡ low_kept branch + length branch.lists → is_in_window params branch.first height ≡ true → IsHeld branch (base_of params height)
base_held branch params height kept base next window =
    let parts = both (nat_le branch.first (base_of params height)) (nat_le params.from (height % params.interval) && nat_le (height % params.interval) params.to) window in
    let bounds = both (nat_le params.from (height % params.interval)) (nat_le (height % params.interval) params.to) parts.1 in
    let first = leb-true branch.first (base_of params height) parts.0 in
    let from = leb-true params.from (height % params.interval) bounds.0 in
    let to = leb-true (height % params.interval) params.to bounds.1 in
    let held = base_between branch.first branch.profile.kept branch.profile.depth branch.top (length branch.lists) height (height % params.interval) params.from params.to kept.begins base.behind base.held next (omega (arith, next, kept.reach)) first from to in
    record { low = held.0; high = held.1 }

-- ---- what is known of a type

-- the stored rows of a list tell what the list tells
inside_plain : (seen : ℕ) (params : QuorumParams) (done : Bool) (base : Hash256) (rows : List MnRow) → inside params done base (plain_rows seen rows) ≡ inside params done base rows
inside_plain seen params done base rows =
    let members : seats params done base (plain_rows seen rows) ≡ seats params done base rows = ap (λ (l : List Hash256). cond done [] l) (members_plain seen rows params.size (modifier_of params.kind base)) in
    ap (λ (l : List Hash256). record { params = params; in_window = true; done = done; base = base; members = l; digest = digest_of (plain_rows seen rows) l }) members
    ∙ ap (λ (h : Hash256). record { params = params; in_window = true; done = done; base = base; members = seats params done base rows; digest = h }) (digest_plain seen rows (seats params done base rows))

there : {X : Type 0} (xs : List X) (n : ℕ) → n < length xs → (x : X) × (slice_get xs n ≡ Some x)
there [] n lt = absurd (omega (arith, lt))
there (x ∷ xs) zero lt = (x, refl)
there (x ∷ xs) (suc n) lt = there xs n (omega (arith, lt))

kept_tells : (params : QuorumParams) (mined : List MinedAt) (height : ℕ) (k : Kept) (found : Option State) → StandsIn k found → inside params (is_done params height mined) k.hash k.rows ≡ formed_by params mined height found
kept_tells params mined height k None at = absurd at
kept_tells params mined height k (Some s) at =
    let done = is_done params height mined in
    ap (λ (h : Hash256). inside params done h k.rows) at.hash
    ∙ sym (inside_plain s.height params done s.hash k.rows)
    ∙ ap (inside params done s.hash) at.rows

module _ (branch : Keeping) (m : MachineState) (height : ℕ) (stands : StandsFor branch m) (kept : IsKept branch.profile branch.first branch.top branch.lists) (next : height ≡ low_kept branch + length branch.lists) where
  -- it is known of the base whether its commitment was mined
  abbrev IsDoneAlike : QuorumParams → Type 0
  IsDoneAlike params = is_done params height branch.mined ≡ is_done params height (tip m).mined

  formed_is : (params : QuorumParams) → HoldsBase branch.profile params → IsDoneAlike params → formed_in branch height params ≡ formed_at m.start.first (history m) (tip m).mined height params
  formed_is params base done =
      ap (λ (b : Bool). cond (is_in_window params branch.first height) (formed_kept params b (slice_get branch.lists (base_of params height - low_kept branch))) (outside params b)) done
      ∙ go (is_in_window params branch.first height) refl
      ∙ ap (λ (n : ℕ). cond (is_in_window params n height) (formed_by params (tip m).mined height (state_at m (base_of params height))) (outside params (is_done params height (tip m).mined))) stands.first
    where
      go : (b : Bool) → is_in_window params branch.first height ≡ b → cond b (formed_kept params (is_done params height (tip m).mined) (slice_get branch.lists (base_of params height - low_kept branch))) (outside params (is_done params height (tip m).mined)) ≡ cond b (formed_by params (tip m).mined height (state_at m (base_of params height))) (outside params (is_done params height (tip m).mined))
      go true is =
          let held = base_held branch params height kept base next is in
          let one = there branch.lists (base_of params height - low_kept branch) (omega (arith, held.low, held.high)) in
          ap (formed_kept params (is_done params height (tip m).mined)) one.1
          ∙ kept_tells params (tip m).mined height one.0 _ (held_stands branch m (base_of params height) one.0 stands held.low one.1)
      go false is = refl

  all_are : (types : List QuorumParams) → AllByRecursion (HoldsBase branch.profile) types → AllByRecursion IsDoneAlike types → map (formed_in branch height) types ≡ map (formed_at m.start.first (history m) (tip m).mined height) types
  all_are [] bases done = refl
  all_are (params ∷ types) bases done =
      ap (λ (f : Formed). f ∷ map (formed_in branch height) types) (formed_is params bases.0 done.0)
      ∙ ap (λ (l : List Formed). formed_at m.start.first (history m) (tip m).mined height params ∷ l) (all_are types bases.1 done.1)

  -- of a settled branch, by the active quorums of the tip
  done_alike : undone (tip m).height branch.mined ≡ branch.mined → height ≡ (tip m).height + 1 → AllByRecursion IsDoneAlike (types_of branch.profile.quorums)
  done_alike settled is =
      let h = (tip m).height in
      let to = settled_to h branch.mined settled in
      let some = subst (λ (p : Profile). AllByRecursion (λ (q : QuorumParams). 0 < q.active) (types_of p.quorums)) (sym stands.profile) (some_active m.start) in
      let gives = subst (λ (p : Profile). KeepsActive p branch.mined h (tip m ∷ [])) (sym stands.profile) (tip_gives branch m kept stands) in
      let bounds = every_both (λ (p : QuorumParams) (many : 0 < p.active) (base : HoldsBase branch.profile p). (many, base.interval)) (types_of branch.profile.quorums) some kept.bases in
      every_both (λ (p : QuorumParams) (many : (0 < p.active) × (0 < p.interval)) (gives : GivesActive branch.mined h (tip m ∷ []) p).
      subst (λ (n : ℕ). is_done p n branch.mined ≡ is_done p n (tip m).mined) (sym is)
      (same_done p h branch.mined (tip m).mined many.0 many.1 gives.ordered to (from_filter (is_of p h) 0 (tip m).mined (tip_mined_from m)) (tip_mined_to m) gives.active.0)) (types_of branch.profile.quorums) bounds gives

  -- the quorums are the machine's
  pub all_formed_are : undone (tip m).height branch.mined ≡ branch.mined → height ≡ (tip m).height + 1 → all_formed_in branch height branch.profile.quorums ≡ machine.formed m
  all_formed_are settled is =
      all_are (types_of branch.profile.quorums) kept.bases (done_alike settled is)
      ∙ ap (λ (p : Profile). map (formed_at m.start.first (history m) (tip m).mined height) (types_of p.quorums)) stands.profile
      ∙ ap (λ (n : ℕ). map (formed_at m.start.first (history m) (tip m).mined n) (types_of (machine.profile m).quorums)) is
