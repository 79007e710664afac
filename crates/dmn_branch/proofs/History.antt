-- What the states of a history are: their heights, their commitments, and the roots that their coinbases tell.
use Rattle.std.proofs.Common.{◌≡◌, ℕ, suc, ◌+◌, ◌-◌, ◌<◌, ◌≤◌, Bool, true, false, not, List, [], ◌∷◌, ◌++◌, length, length-append, Option, Some, None, Result, Ok, Err, refl, sym, ap, ◌∙◌, subst, arith}
use Rattle.std.specs.Prelude.{◌==◌, ◌&&◌, ◌||◌, is_none, nat_lt, slice_get}
use Rattle.std.specs.List.{AllByRecursion}
use Rattle.std.specs.Option.{option_map}
use Rattle.std.specs.Result.{is_ok, result_ok}
use Rattle.dmn_block.specs.declared.frame.BlockFrame.{BlockFrame}
use Rattle.dmn_block.specs.declared.refusal.Refusal.{Refusal}
use Rattle.dmn_block.specs.Shape.{broken_rule, coinbase_rules, first_broken, first_of, is_no_payload, payload_rules, unnumbered, version_of, when}
use Rattle.dmn_block.specs.State.{State, origin}
use Rattle.dmn_bytes.specs.declared.fault.Departure.{Departure}
use Rattle.dmn_bytes.specs.declared.hash.Hash256.{Hash256}
use Rattle.dmn_bytes.specs.Format.{whole}
use Rattle.dmn_merkle.specs.Defs.{merkle_root}
use Rattle.dmn_payloads.specs.declared.mined.MinedAt.{MinedAt}
use Rattle.dmn_payloads.specs.declared.payloads.CbTx.{CbTx}
use Rattle.dmn_payloads.specs.Payloads.{cb}
use Rattle.dmn_quorums.specs.Duty.{mined_at}
use Rattle.dmn_quorums.specs.Forming.{Formed}
use Rattle.dmn_rows.specs.declared.profile.Profile.{Profile}
use Rattle.dmn_rows.specs.declared.start.StartRecord.{StartRecord}
use Rattle.dmn_sml.specs.Defs.{root_of, simple}
use Rattle.dmn_tx.specs.Coinbase.{is_cb_type}
use Rattle.dmn_tx.specs.declared.tx.Tx.{Tx}
use Rattle.dmn_branch.specs.Coinbases.{TellsRoot, part_of, root_in}
use Rattle.dmn_branch.specs.Machine.{MachineState, branch, history, state_at, tip}
use Rattle.dmn_branch.specs.Replay.{replay_on, with_next}
use Rattle.dmn_branch.specs.Stands.{MinedFrom}
use Rattle.dmn_branch.specs.Step.{Outcome, coinbase_in, formed_on, last_of, last_rules, profile_of, step, step_from, tip_of}
use Rattle.dmn_branch.proofs.Active.{MinedTo, from_append, mined_from, mined_to, to_higher}
use Rattle.dmn_branch.proofs.Blocks.{has_first, shape_none, step_is}
use Rattle.dmn_branch.proofs.Every.{every_append}
use Rattle.dmn_branch.proofs.Stepping.{coinbase_kept, last_says}

-- ---- the coinbase of a block of the right shape

first_none : (a : Option Refusal) (rest : List (Option Refusal)) → first_broken (a ∷ rest) ≡ None → (a ≡ None) × (first_broken rest ≡ None)
first_none None rest e = (refl, e)
first_none (Some refusal) rest e = absurd cc

held : (b : Bool) (refusal : Refusal) → when (not b) refusal ≡ None → b ≡ true
held true refusal e = refl
held false refusal e = absurd cc

passed : (b : Bool) (refusal : Refusal) → when b refusal ≡ None → b ≡ false
passed true refusal e = absurd cc
passed false refusal e = refl

no_or : (a b : Bool) → (a || b) ≡ false → (a ≡ false) × (b ≡ false)
no_or true b e = absurd cc
no_or false b e = (refl, e)

not_false : (b : Bool) → not b ≡ false → b ≡ true
not_false true e = refl
not_false false e = absurd cc

payload_there : (payload : List ℕ) → is_no_payload payload ≡ false → (version_of payload == 1) ≡ true → is_ok (whole cb payload) ≡ true
unfolding is_no_payload
payload_there payload short one =
    let both = (no_or (nat_lt (length payload) 2) _ short).1 in
    not_false (is_ok (whole cb payload)) (sym (ap (λ (b : Bool). b && not (is_ok (whole cb payload))) one) ∙ both)

ok_there : (r : Result CbTx Departure) → is_ok r ≡ true → (value : CbTx) × (r ≡ Ok value)
ok_there (Ok value) e = (value, refl)
ok_there (Err d) e = absurd cc

-- behind the last rules the coinbase tells the root of the list after the block
root_told : (block : BlockFrame) (tip : Hash256) (height : ℕ) (after : Outcome) → broken_rule block tip height ≡ None → first_of (last_rules (coinbase_in block.txs) after) ≡ None → root_in (part_of block.txs) ≡ Some (root_of (simple after.list.rows))
unfolding payload_rules
root_told block tip height after shape none = go block.txs (has_first block tip height shape) (coinbase_kept block tip height shape) none
  where
    go : (txs : List Tx) → is_none (part_of txs) ≡ false → first_broken (unnumbered (coinbase_rules (height + 1) txs)) ≡ None → first_of (last_rules (coinbase_in txs) after) ≡ None → root_in (part_of txs) ≡ Some (root_of (simple after.list.rows))
    go [] some rules last = absurd cc
    go (t ∷ txs) some rules last =
        let a = first_none _ _ rules in
        let b = first_none _ _ a.1 in
        let kind = no_or (not (is_cb_type t)) (is_no_payload t.payload) (passed _ _ a.0) in
        let there = ok_there (whole cb t.payload) (payload_there t.payload kind.1 (held (version_of t.payload == 1) _ b.0)) in
        let read : result_ok (whole cb t.payload) ≡ Some there.0 = ap result_ok there.1 in
        let says = last_says there.0 after (subst (λ (o : Option CbTx). first_of (last_rules o after) ≡ None) read last) in
        ap (option_map (λ (value : CbTx). value.rows)) read ∙ ap (λ (root : Hash256). Some root) says.root

-- ---- one state after another

-- a state of a height: none of its commitments is of a later one, their heights ascend, and its coinbase tells the root of its list
pub record IsAt (n : ℕ) (s : State) : Type 0 where
  pub height : s.height ≡ n
  pub from : MinedFrom 0 s.mined
  pub to : MinedTo n s.mined
  pub root : TellsRoot s

-- states of heights that follow each other
abbrev pub StatesFrom : ℕ → List State → Type 0
StatesFrom height [] = Unit {0}
StatesFrom height (s ∷ states) = IsAt height s × StatesFrom (suc height) states

origin_at : (start : StartRecord) → IsAt (start.first - 1) (origin start)
unfolding merkle_root
origin_at start = record { height = refl; from = tt; to = tt; root = refl }

next_at : (profile : Profile) (formed : List Formed) (height : ℕ) (tip : State) (block : BlockFrame) (next : State) → IsAt height tip → step_from profile formed tip block ≡ Ok next → IsAt (suc height) next
next_at profile formed height tip block next at is =
    let done = step_is profile formed tip block next is in
    let x = done.0 in
    let up : tip.height + 1 ≡ suc height = omega (arith, at.height) in
    let new = mined_at (tip.height + 1) x.mined in
    subst (IsAt (suc height)) done.2 (record {
      height = up;
      from = from_append 0 (tip.height + 1) tip.mined new (omega arith) at.from (to_higher height (tip.height + 1) tip.mined (omega (arith, at.height)) at.to) (mined_from (tip.height + 1) x.mined);
      to = every_append (λ (m : MinedAt). m.height ≤ suc height) tip.mined new (to_higher height (suc height) tip.mined (omega arith) at.to) (to_higher (tip.height + 1) (suc height) new (omega (arith, up)) (mined_to (tip.height + 1) x.mined));
      root = root_told block tip.hash tip.height x (shape_none profile formed tip block next is) done.1;
    })

more_at : (height : ℕ) (states : List State) (s : State) → StatesFrom height states → IsAt (height + length states) s → StatesFrom height (states ++ s ∷ [])
more_at height [] s from at =
    let same : height + 0 ≡ height = omega arith in
    (subst (λ (n : ℕ). IsAt n s) same at, tt)
more_at height (t ∷ states) s from at =
    let same : height + suc (length states) ≡ suc height + length states = omega arith in
    (from.0, more_at (suc height) states s from.1 (subst (λ (n : ℕ). IsAt n s) same at))

last_from : (height : ℕ) (d : State) (states : List State) → 0 < length states → StatesFrom height states → IsAt (height + length states - 1) (last_of d states)
last_from height d [] some from = absurd (omega (arith, some))
last_from height d (s ∷ []) some from =
    let same : height ≡ height + 1 - 1 = omega arith in
    subst (λ (n : ℕ). IsAt n s) same from.0
last_from height d (s ∷ t ∷ states) some from =
    let same : suc height + length (t ∷ states) - 1 ≡ height + length (s ∷ t ∷ states) - 1 = omega arith in
    subst (λ (n : ℕ). IsAt n (last_of t states)) same (last_from (suc height) s (t ∷ states) (omega arith) from.1)

-- ---- a history

-- the states of a history, from the height before the first block on; there is one at least
pub record AreStates (start : StartRecord) (states : List State) : Type 0 where
  pub some : 0 < length states
  pub from : StatesFrom (start.first - 1) states

states_next : (start : StartRecord) (states : List State) (block : BlockFrame) → AreStates start states → AreStates start (with_next states (step start states block))
states_next start states block are = go (step start states block) refl
  where
    tip_at : IsAt (start.first - 1 + length states - 1) (tip_of start states)
    tip_at = last_from (start.first - 1) (origin start) states are.some are.from

    go : (r : Result State Refusal) → step start states block ≡ r → AreStates start (with_next states r)
    go (Ok next) e =
        let up : suc (start.first - 1 + length states - 1) ≡ start.first - 1 + length states = omega (arith, are.some) in
        let at = next_at (profile_of start) (formed_on start states) (start.first - 1 + length states - 1) (tip_of start states) block next tip_at e in
        record {
          some = omega (arith, are.some, length-append states (next ∷ []));
          from = more_at (start.first - 1) states next are.from (subst (λ (n : ℕ). IsAt n next) up at);
        }
    go (Err refusal) e = are

states_all : (start : StartRecord) (states : List State) (blocks : List BlockFrame) → AreStates start states → AreStates start (replay_on start states blocks)
states_all start states [] are = are
states_all start states (block ∷ blocks) are = states_all start (with_next states (step start states block)) blocks (states_next start states block are)

pub are_states : (m : MachineState) → AreStates m.start (history m)
unfolding history
are_states m = states_all m.start (origin m.start ∷ []) (branch m) (record { some = omega arith; from = (origin_at m.start, tt) })

pub tip_at : (m : MachineState) → IsAt (m.start.first - 1 + length (history m) - 1) (tip m)
tip_at m = last_from (m.start.first - 1) (origin m.start) (history m) (are_states m).some (are_states m).from

-- the commitments of the tip
pub tip_mined_from : (m : MachineState) → MinedFrom 0 (tip m).mined
tip_mined_from m = (tip_at m).from

pub tip_mined_to : (m : MachineState) → MinedTo (tip m).height (tip m).mined
tip_mined_to m = let at = tip_at m in subst (λ (n : ℕ). MinedTo n (tip m).mined) (sym at.height) at.to

-- ---- the state at a height

roots_from : (height : ℕ) (states : List State) → StatesFrom height states → AllByRecursion TellsRoot states
roots_from height [] from = tt
roots_from height (s ∷ states) from = (from.0.root, roots_from (suc height) states from.1)

-- each coinbase tells the root of its state's list
pub roots_told : (m : MachineState) → AllByRecursion TellsRoot (history m)
roots_told m = roots_from (m.start.first - 1) (history m) (are_states m).from

last_get : (d : State) (states : List State) → 0 < length states → slice_get states (length states - 1) ≡ Some (last_of d states)
last_get d [] some = absurd (omega (arith, some))
last_get d (s ∷ []) some = refl
last_get d (s ∷ t ∷ states) some =
    let place : length (s ∷ t ∷ states) - 1 ≡ suc (length (t ∷ states) - 1) = omega arith in
    ap (slice_get (s ∷ t ∷ states)) place ∙ last_get s (t ∷ states) (omega arith)

-- the tip is the state of its height
pub state_of_tip : (m : MachineState) → state_at m (tip m).height ≡ Some (tip m)
state_of_tip m =
    let are = are_states m in
    let place : (tip m).height - (m.start.first - 1) ≡ length (history m) - 1 = omega (arith, (tip_at m).height, are.some) in
    ap (slice_get (history m)) place ∙ last_get (origin m.start) (history m) are.some
