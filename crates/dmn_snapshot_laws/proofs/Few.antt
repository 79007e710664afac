-- How many quorums are active, and how long their texts are.
use Rattle.std.proofs.Common.{◌≡◌, ℕ, suc, ◌+◌, ◌-◌, ◌*◌, ◌≤◌, ◌==◌, Bool, true, false, if◌then◌else◌, List, [], ◌∷◌, ◌++◌, length, filter, length-append, length-drop, arith}
use Rattle.std.specs.Prelude.{Contains}
use Rattle.std.specs.List.{All, AllByRecursion, flat_map}
use Rattle.std.proofs.lemmas.List.{length-map}
use Rattle.std.proofs.lemmas.List.Elements.{All-append, All-contains, All-drop, All-filter, All-from_recursion, All-map, All-nil}
use Rattle.dmn_block.specs.State.{State}
use Rattle.dmn_branch.specs.Asked.{quorums_in}
use Rattle.dmn_branch.specs.Machine.{MachineState, branch, history}
use Rattle.dmn_payloads.specs.declared.commitment.Commitment.{Commitment}
use Rattle.dmn_payloads.specs.declared.mined.MinedAt.{MinedAt}
use Rattle.dmn_payloads.specs.Commitments.{commitment}
use Rattle.dmn_quorums.specs.Duty.{active_at, active_of, is_of, types_of}
use Rattle.dmn_rows.specs.declared.profile.QuorumParams.{QuorumParams}
use Rattle.dmn_rows.specs.declared.start.StartRecord.{StartRecord}
use Rattle.dmn_rows.specs.Defs.{IsStart}
use Rattle.dmn_rows.specs.Profile.{main_profile, small_profile}
use Rattle.dmn_tx.specs.declared.kinds.TheConstants.{LONGEST_PAYLOAD}
use Rattle.dmn_snapshot_laws.specs.Formed.{IsFormed, IsFormedCommitment, IsRead}
use Rattle.dmn_snapshot_laws.specs.Quorums.{AreFew}
use Rattle.dmn_snapshot_laws.proofs.States.{states_formed}

-- how many quorums are active of these types
abbrev actives : List QuorumParams → ℕ
actives [] = 0
actives (params ∷ types) = params.active + actives types

few_of_profile : (small : Bool) → actives (types_of (if small then small_profile else main_profile).quorums) ≤ 32
few_of_profile true = omega arith
few_of_profile false = omega arith

one_few : (mined : List MinedAt) (params : QuorumParams) (height : ℕ) → length (active_of mined params height) ≤ params.active
one_few mined params height =
    let of_type = filter (is_of params height) mined in
    omega (arith, length-map (active_at mined params height) (λ (m : MinedAt). m.commitment), length-drop (length of_type - params.active) of_type)

all_few : (mined : List MinedAt) (height : ℕ) (types : List QuorumParams) → length (flat_map (λ params. active_of mined params height) types) ≤ actives types
all_few mined height [] = omega arith
all_few mined height (params ∷ types) =
    let one = one_few mined params height in
    let others = all_few mined height types in
    let rest : List Commitment = flat_map (λ (p : QuorumParams). active_of mined p height) types in
    let joined : length (active_of mined params height ++ rest) ≡ length (active_of mined params height) + length rest = length-append (active_of mined params height) rest in
    let few : length (active_of mined params height ++ rest) ≤ params.active + actives types = omega (arith, one, others, joined) in
    few

one_formed : (mined : List MinedAt) (params : QuorumParams) (height : ℕ) → All (λ (m : MinedAt). IsFormedCommitment m.commitment) mined → All IsFormedCommitment (active_of mined params height)
one_formed mined params height all =
    let of_type = filter (is_of params height) mined in
    All-map IsFormedCommitment (λ (m : MinedAt). m.commitment) (active_at mined params height)
    (All-drop (λ (m : MinedAt). IsFormedCommitment m.commitment) (length of_type - params.active) of_type (All-filter (is_of params height) (λ (m : MinedAt). IsFormedCommitment m.commitment) mined all))

all_formed : (mined : List MinedAt) (height : ℕ) (types : List QuorumParams) → All (λ (m : MinedAt). IsFormedCommitment m.commitment) mined → All IsFormedCommitment (flat_map (λ params. active_of mined params height) types)
all_formed mined height [] all = All-nil IsFormedCommitment
all_formed mined height (params ∷ types) all =
    All-append IsFormedCommitment (active_of mined params height) (flat_map (λ (p : QuorumParams). active_of mined p height) types) (one_formed mined params height all) (all_formed mined height types all)

text_few : (quorums : List Commitment) → All IsFormedCommitment quorums → length (flat_map commitment.text quorums) ≤ LONGEST_PAYLOAD * length quorums
text_few [] all = omega arith
text_few (v ∷ quorums) all =
    let one : length (commitment.text v) ≤ LONGEST_PAYLOAD = (all 0 v (omega arith)).1 in
    let more = text_few quorums (λ i d below. all (suc i) d (omega (arith, below))) in
    omega (arith, one, more, length-append (commitment.text v) (flat_map commitment.text quorums))

are_few : (start : StartRecord) (quorums : List Commitment) → length quorums ≤ 32 → All IsFormedCommitment quorums → AreFew quorums
are_few start quorums few all = record { count = few; text = omega (arith, few, text_few quorums all) }

pub quorums_few : (m : MachineState) (state : State) → IsStart m.start → AllByRecursion IsRead (branch m) → Contains (history m) state → AreFew (quorums_in m state)
quorums_few m state fits reads among =
    let formed = All-contains IsFormed (history m) state (All-from_recursion IsFormed (history m) (states_formed m fits reads)) among in
    let small = m.start.profile == 1 in
    let types = types_of (if small then small_profile else main_profile).quorums in
    are_few m.start (quorums_in m state) (omega (arith, all_few state.mined state.height types, few_of_profile small))
    (all_formed state.mined state.height types (All-from_recursion (λ (mined : MinedAt). IsFormedCommitment mined.commitment) state.mined formed.commitments))
