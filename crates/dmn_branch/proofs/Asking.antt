-- What is asked of a height that is held, by the stored rows.
use Rattle.std.proofs.Common.{◌≡◌, ℕ, zero, suc, ◌+◌, ◌-◌, ◌%◌, ◌≤◌, Bool, true, false, cond, List, [], ◌∷◌, ◌++◌, length, take, map, find, filter, Option, Some, None, refl, sym, ap, ◌∙◌, subst, arith}
use Rattle.std.specs.Prelude.{◌==◌, ◌&&◌, nat_le, slice_get, Result, Ok, Err, IfOk}
use Rattle.std.specs.List.{AllByRecursion, flat_map}
use Rattle.std.specs.Option.{unwrap_or}
use Rattle.std.proofs.lemmas.List.Concat.{flat_map-cons}
use Rattle.std.proofs.lemmas.List.{length-map, length-take, map-append, take_all}
use Rattle.dmn_block.specs.State.{State}
use Rattle.dmn_bytes.specs.declared.hash.Hash256.{Hash256}
use Rattle.dmn_payloads.specs.declared.commitment.Commitment.{Commitment}
use Rattle.dmn_payloads.specs.declared.mined.MinedAt.{MinedAt}
use Rattle.dmn_quorums.specs.Duty.{active_at, active_of, all_active, params_of, types_of}
use Rattle.dmn_quorums.specs.Score.{members_of, modifier_of}
use Rattle.dmn_quorums.proofs.Stored.{members_plain}
use Rattle.dmn_rows.specs.declared.profile.Profile.{Profile}
use Rattle.dmn_rows.specs.declared.profile.QuorumParams.{QuorumParams}
use Rattle.dmn_rows.specs.declared.row.MnRow.{MnRow}
use Rattle.dmn_rows.specs.Ranked.{least}
use Rattle.dmn_rows.specs.Row.{plain}
use Rattle.dmn_rows.specs.Rows.{has_hash, plain_rows}
use Rattle.dmn_rows.specs.Waiting.{is_unbanned, pay_order, turn_cmp}
use Rattle.dmn_rows.proofs.Lookups.{find-plain}
use Rattle.dmn_rows.proofs.Ranked.{front, least_is_front, least_map}
use Rattle.dmn_standing.specs.Payment.{forecast}
use Rattle.dmn_standing.proofs.Turns.{forecast_plain, forecast_sorted}
use Rattle.dmn_branch.specs.Asked.{IsToldOf, members_by, members_in, payee_of, payees_of, quorums_in, row_of, seen_at}
use Rattle.dmn_branch.specs.Machine.{MachineState, held_states, profile, state_at, tip}
use Rattle.dmn_branch.specs.Parts.{StandsIn}
use Rattle.dmn_branch.specs.Stands.{GivesActive, HoldsBase, IsHeld, Kept, Keeping, StandsAt, StandsFor, low_kept}
use Rattle.dmn_branch.proofs.Every.{every_at, every_then}
use Rattle.dmn_branch.proofs.Ranks.{one_more}
use Rattle.dmn_branch.proofs.Standing.{state_held}

-- ---- the payee among stored rows

filter_plain : (h : ℕ) (rows : List MnRow) → filter is_unbanned (plain_rows h rows) ≡ plain_rows h (filter is_unbanned rows)
filter_plain h [] = refl
filter_plain h (r ∷ rows) =
    elim (is_unbanned r) as (λ b. cond b (plain h r ∷ filter is_unbanned (plain_rows h rows)) (filter is_unbanned (plain_rows h rows)) ≡ plain_rows h (cond b (r ∷ filter is_unbanned rows) (filter is_unbanned rows))) [
      | true ↦ ap (λ (l : List MnRow). plain h r ∷ l) (filter_plain h rows)
      | false ↦ filter_plain h rows
    ]

front_is : {X : Type 0} (xs : List X) → front xs ≡ slice_get xs 0
front_is [] = refl
front_is (x ∷ xs) = refl

payee_seen : (h : ℕ) (rows : List MnRow) → seen_at h (slice_get (pay_order rows) 0) ≡ least turn_cmp (filter is_unbanned (plain_rows h rows))
payee_seen h rows =
    ap (seen_at h) (sym (least_is_front turn_cmp (filter is_unbanned rows) ∙ front_is (pay_order rows)))
    ∙ sym (ap (least turn_cmp) (filter_plain h rows) ∙ least_map turn_cmp (plain h) (filter is_unbanned rows))

-- ---- what is told of a state

rows_seen : (height : ℕ) (k : Kept) (s : State) → k.height ≡ height → StandsAt k s → plain_rows height k.rows ≡ s.rows
rows_seen height k s at stands = ap (λ (n : ℕ). plain_rows n k.rows) (sym at ∙ stands.height) ∙ stands.rows

pub tells_row : (height : ℕ) (hash : Hash256) (k : Kept) (found : Option State) (row : Option MnRow) → k.height ≡ height → row ≡ find (has_hash hash) k.rows → StandsIn k found → IsToldOf (row_of hash) (seen_at height row) found
tells_row height hash k None row at is stands = absurd stands
tells_row height hash k (Some s) row at is stands =
    ap (seen_at height) is ∙ sym (find-plain (has_hash hash) (λ _ _. refl) height k.rows) ∙ ap (find (has_hash hash)) (rows_seen height k s at stands)

pub tells_payee : (height : ℕ) (k : Kept) (found : Option State) (row : Option MnRow) → k.height ≡ height → row ≡ slice_get (pay_order k.rows) 0 → StandsIn k found → IsToldOf payee_of (seen_at height row) found
tells_payee height k None row at is stands = absurd stands
tells_payee height k (Some s) row at is stands =
    ap (seen_at height) is ∙ payee_seen height k.rows ∙ ap (λ (rows : List MnRow). least turn_cmp (filter is_unbanned rows)) (rows_seen height k s at stands)

-- the hashes of so many rows, the first of the order of payment
abbrev pub first_hashes : ℕ → List MnRow → List Hash256
first_hashes n rows = map (λ row. row.hash) (take n (pay_order rows))

pub tells_payees : (height n : ℕ) (k : Kept) (found : Option State) (hashes : List Hash256) → k.height ≡ height → hashes ≡ first_hashes n k.rows → StandsIn k found → IsToldOf (payees_of n) hashes found
tells_payees height n k None hashes at is stands = absurd stands
tells_payees height n k (Some s) hashes at is stands =
    is ∙ sym (forecast_plain height n k.rows stands.whole.rows ∙ forecast_sorted n k.rows stands.whole.rows) ∙ ap (forecast n) (rows_seen height k s at stands)

-- the active quorums of each type are those of the state
active_all : (mined : List MinedAt) (s : State) (types : List QuorumParams) → AllByRecursion (λ p. active_at mined p s.height ≡ active_at s.mined p s.height) types → flat_map (λ (p : QuorumParams). active_of mined p s.height) types ≡ flat_map (λ (p : QuorumParams). active_of s.mined p s.height) types
active_all mined s [] all = refl
active_all mined s (p ∷ types) all =
    flat_map-cons (λ (q : QuorumParams). active_of mined q s.height) p types
    ∙ ap (λ (l : List MinedAt). map (λ (m : MinedAt). m.commitment) l ++ flat_map (λ (q : QuorumParams). active_of mined q s.height) types) all.0
    ∙ ap (λ (l : List Commitment). active_of s.mined p s.height ++ l) (active_all mined s types all.1)
    ∙ sym (flat_map-cons (λ (q : QuorumParams). active_of s.mined q s.height) p types)

pub tells_quorums : (b : Keeping) (m : MachineState) (height : ℕ) (k : Kept) (quorums : List Commitment) → StandsFor b m → IsHeld b height → k.height ≡ height → StandsIn k (state_at m height) → quorums ≡ all_active b.mined (profile m).quorums height → IsToldOf (quorums_in m) quorums (state_at m height)
tells_quorums b m height k quorums stands held at in_state is = go (state_at m height) (state_held b m height stands held.low) in_state
  where
    go : (found : Option State) → found ≡ slice_get (held_states m) (height - low_kept b) → StandsIn k found → IsToldOf (quorums_in m) quorums found
    go None there stands_at = absurd stands_at
    go (Some s) there stands_at =
        let here : height ≡ s.height = sym at ∙ stands_at.height in
        let active = every_then (λ (p : QuorumParams) (gives : GivesActive b.mined (tip m).height (held_states m) p). every_at (λ (t : State). active_at b.mined p t.height ≡ active_at t.mined p t.height) (held_states m) (height - low_kept b) s gives.active (sym there)) (types_of (profile m).quorums) stands.quorums in
        is ∙ ap (all_active b.mined (profile m).quorums) here ∙ active_all b.mined s (types_of (profile m).quorums) active

-- ---- the members of a quorum

pub tells_none : (m : MachineState) (kind : ℕ) (k : Kept) (found : Option State) → params_of (profile m).quorums kind ≡ None → StandsIn k found → IsToldOf (members_in m kind) None found
tells_none m kind k None none stands = absurd stands
tells_none m kind k (Some s) none stands = ap (members_by m.start.first s) (sym none)

members_found : (params : QuorumParams) (first height : ℕ) (k : Kept) (s : State) → k.height ≡ height → StandsAt k s
    → members_by first s (Some params) ≡ cond (nat_le first height && ((height % params.interval) == 0)) (Some (members_of k.rows params.size (modifier_of params.kind k.hash))) None
members_found params first height k s at stands =
    ap (λ (n : ℕ). cond (nat_le first n && ((n % params.interval) == 0)) (Some (members_of s.rows params.size (modifier_of params.kind s.hash))) None) (sym stands.height ∙ at)
    ∙ ap (λ (l : List Hash256). cond (nat_le first height && ((height % params.interval) == 0)) (Some l) None)
    (ap (λ (h : Hash256). members_of s.rows params.size (modifier_of params.kind h)) (sym stands.hash)
    ∙ ap (λ (l : List MnRow). members_of l params.size (modifier_of params.kind k.hash)) (sym (rows_seen height k s at stands))
    ∙ members_plain height k.rows params.size (modifier_of params.kind k.hash))

pub tells_members : (m : MachineState) (kind height : ℕ) (params : QuorumParams) (k : Kept) (found : Option State) (told : Option (List Hash256)) → k.height ≡ height → params_of (profile m).quorums kind ≡ Some params
    → told ≡ cond (nat_le m.start.first height && ((height % params.interval) == 0)) (Some (members_of k.rows params.size (modifier_of params.kind k.hash))) None
    → StandsIn k found → IsToldOf (members_in m kind) told found
tells_members m kind height params k None told at some is stands = absurd stands
tells_members m kind height params k (Some s) told at some is stands =
    is ∙ sym (members_found params m.start.first height k s at stands) ∙ ap (members_by m.start.first s) (sym some)

-- a type that is found is one of the profile's
pub found_base : (profile : Profile) (kind : ℕ) (params : QuorumParams) (types : List QuorumParams) → AllByRecursion (HoldsBase profile) types → find (λ (p : QuorumParams). p.kind == kind) types ≡ Some params → HoldsBase profile params
found_base profile kind params [] bases is = cc
found_base profile kind params (p ∷ types) bases is = go (p.kind == kind) (λ e. found_base profile kind params types bases.1 e) is
  where
    go : (b : Bool) → (find (λ (q : QuorumParams). q.kind == kind) types ≡ Some params → HoldsBase profile params) → cond b (Some p) (find (λ (q : QuorumParams). q.kind == kind) types) ≡ Some params → HoldsBase profile params
    go true later e = subst (HoldsBase profile) (ap (λ (o : Option QuorumParams). unwrap_or o params) e) bases.0
    go false later e = later e

-- what holds of a success, by what held of it before
pub if_ok : {A E : Type 0} {P Q : A → Type 0} (r : Result A E) → ((x : A) → P x → Q x) → IfOk r P → IfOk r Q
if_ok (Ok x) then p = then x p
if_ok (Err e) then p = tt

-- ---- hashes of the order of payment, one after the other

pub hashes_more : (rows : List MnRow) (n : ℕ) (row : MnRow) → slice_get rows n ≡ Some row → map (λ r. r.hash) (take (n + 1) rows) ≡ map (λ r. r.hash) (take n rows) ++ row.hash ∷ []
hashes_more rows n row some = ap (map (λ (r : MnRow). r.hash)) (one_more rows n row some) ∙ map-append (λ (r : MnRow). r.hash) (take n rows) (row ∷ [])

none_beyond : {X : Type 0} (xs : List X) (n : ℕ) → slice_get xs n ≡ None → length xs ≤ n
none_beyond [] n none = omega arith
none_beyond (x ∷ xs) zero none = absurd (cc)
none_beyond (x ∷ xs) (suc n) none = omega (arith, none_beyond xs n none)

-- at the end of the order there are no more
pub hashes_all : (rows : List MnRow) (n most : ℕ) → slice_get rows n ≡ None → n ≤ most → map (λ r. r.hash) (take n rows) ≡ map (λ r. r.hash) (take most rows)
hashes_all rows n most none le =
    let few = none_beyond rows n none in
    ap (map (λ (r : MnRow). r.hash)) (take_all n rows few ∙ sym (take_all most rows (omega (arith, few, le))))

pub hashes_few : (rows : List MnRow) (n : ℕ) (hashes : List Hash256) → hashes ≡ first_hashes n rows → length hashes ≤ n
hashes_few rows n hashes is = omega (arith, ap length is, length-map (take n (pay_order rows)) (λ (r : MnRow). r.hash), length-take n (pay_order rows))
