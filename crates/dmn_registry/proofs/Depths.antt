-- How far the tip of a machine stands below its top.
use Rattle.std.proofs.Common.{◌≡◌, ◌≢◌, ℕ, zero, suc, ◌+◌, ◌-◌, ◌<◌, ◌≤◌, ◌==◌, Bool, true, false, not, List, [], ◌∷◌, ◌++◌, length, length-append, refl, sym, ap, ◌∙◌, arith, if◌then◌else◌, eq-eqb}
use Rattle.std.specs.Prelude.{Option, None, Some, Result, Ok, Err, nat_le}
use Rattle.std.specs.Str.{bytes_eq}
use Rattle.std.proofs.lemmas.Bool.Decides.{nat_tests}
use Rattle.dmn_block.specs.declared.frame.BlockFrame.{BlockFrame}
use Rattle.dmn_block.specs.declared.refusal.Refusal.{Refusal}
use Rattle.dmn_block.specs.State.{State, origin}
use Rattle.dmn_branch.specs.Machine as blocks
use Rattle.dmn_branch.specs.Machine.{Command, Connect, Disconnect, MachineState, branch, disconnect, history, tip, top, with_block, without_tip}
use Rattle.dmn_branch.specs.Replay.{IsLawful, replay_on, with_next}
use Rattle.dmn_branch.specs.Step.{Outcome, and_then, closed, formed_on, last_of, outcome, profile_of, state_of as state_after, step, step_from, tip_of, unless}
use Rattle.dmn_branch.proofs.Replaying.{history_next, lawful_next, taken_back, top_more}
use Rattle.dmn_bytes.specs.declared.hash.Hash256.{Hash256}
use Rattle.dmn_rows.specs.declared.start.StartRecord.{StartRecord}

-- ---- the height of the tip

-- a state tells the height behind that of the state before
height_next : (start : StartRecord) (states : List State) (block : BlockFrame) (after : State) → step start states block ≡ Ok after → after.height ≡ (tip_of start states).height + 1
unfolding step_from closed
height_next start states block after is = go (outcome (profile_of start) (formed_on start states) state block) is
  where
    state : State
    state = tip_of start states

    end : (x : Outcome) (broken : Option Refusal) → unless broken (state_after state block x) ≡ Ok after → after.height ≡ state.height + 1
    end x None e = let same : state_after state block x ≡ after = cc in ap (λ (s : State). s.height) (sym same)
    end x (Some refusal) e = absurd cc

    go : (o : Result Outcome Refusal) → and_then o (closed state block) ≡ Ok after → after.height ≡ state.height + 1
    go (Ok x) e = end x _ e
    go (Err refusal) e = absurd cc

last_append : (d s : State) (states : List State) → last_of d (states ++ s ∷ []) ≡ s
last_append d s [] = refl
last_append d s (t ∷ states) = last_append t s states

-- so many states, so high the last one
abbrev IsCounted : StartRecord → List State → Type 0
IsCounted start states = (tip_of start states).height + 1 ≡ (start.first - 1) + length states

counted_next : (start : StartRecord) (states : List State) (block : BlockFrame) → IsCounted start states → IsCounted start (with_next states (step start states block))
counted_next start states block counted = go (step start states block) refl
  where
    go : (r : Result State Refusal) → step start states block ≡ r → IsCounted start (with_next states r)
    go (Ok next) e =
        let last : tip_of start (states ++ next ∷ []) ≡ next = last_append (origin start) next states in
        let high : next.height ≡ (tip_of start states).height + 1 = height_next start states block next e in
        omega (arith, ap (λ (s : State). s.height) last, high, counted, length-append states (next ∷ []))
    go (Err refusal) e = counted

counted_all : (start : StartRecord) (states : List State) (bs : List BlockFrame) → IsCounted start states → IsCounted start (replay_on start states bs)
counted_all start states [] counted = counted
counted_all start states (block ∷ bs) counted = counted_all start (with_next states (step start states block)) bs (counted_next start states block counted)

tip_counted : (s : MachineState) → (tip s).height + 1 ≡ (s.start.first - 1) + length (history s)
unfolding history
tip_counted s = counted_all s.start (origin s.start ∷ []) (branch s) (omega arith)

-- ---- the tip and the top

-- The machine's blocks are lawful, and its tip is at the top or below it, but no deeper than blocks are taken back.
pub record IsNear (s : MachineState) : Type 0 where
  pub lawful : IsLawful s.start (branch s)
  pub low : (tip s).height ≤ top s
  pub deep : top s ≤ (tip s).height + (blocks.profile s).depth

pub near_begun : (start : StartRecord) → IsNear (blocks.begun start)
unfolding history top
near_begun start = record { lawful = refl; low = omega arith; deep = omega arith }

pub near_connected : (s : MachineState) (block : BlockFrame) → blocks.connect s block ≡ Ok (with_block s block) → IsNear s → IsNear (with_block s block)
near_connected s block accepted near =
    let tops = top_more s block in
    let states : length (history (with_block s block)) ≡ length (history s) + 1 = ap length (history_next s block (with_block s block) accepted) ∙ length-append (history s) (tip (with_block s block) ∷ []) in
    let high : (tip (with_block s block)).height ≡ (tip s).height + 1 = omega (arith, states, tip_counted s, tip_counted (with_block s block)) in
    record { lawful = lawful_next s block (with_block s block) accepted near.lawful; low = omega (arith, tops); deep = omega (arith, tops, high, near.deep) }

-- what a disconnect that is accepted says
record IsAbove (s : MachineState) : Type 0 where
  start : (tip s).height ≢ s.start.first - 1
  floor : top s - (blocks.profile s).depth < (tip s).height

above_by : {E : Type 0} (n : MachineState) (a : Bool) (b c : Bool) (x y z : E) (w : MachineState) → if◌then◌else◌ {A = Result MachineState E} a (Err x) (if◌then◌else◌ {A = Result MachineState E} b (Err y) (if◌then◌else◌ {A = Result MachineState E} c (Err z) (Ok n))) ≡ Ok w → (b ≡ false) × (c ≡ false)
above_by n true b c x y z w e = absurd cc
above_by n false true c x y z w e = absurd cc
above_by n false false true x y z w e = absurd cc
above_by n false false false x y z w e = (refl, refl)

above : (s : MachineState) (hash : Hash256) (n : MachineState) → disconnect s hash ≡ Ok n → IsAbove s
unfolding disconnect
above s hash n accepted =
    let both = above_by (without_tip s hash) (not (bytes_eq (tip s).hash.0 hash.0)) ((tip s).height == s.start.first - 1) (nat_le (tip s).height (top s - (blocks.profile s).depth)) _ _ _ n accepted in
    let t = (tip s).height in
    let f = top s - (blocks.profile s).depth in
    record {
      start = λ (same : (tip s).height ≡ s.start.first - 1). let yes : ((tip s).height == s.start.first - 1) ≡ true = eq-eqb _ _ same in let wrong : true ≡ false = sym yes ∙ both.0 in cc;
      floor = over f t both.1;
    }
  where
    over : (f t : ℕ) → nat_le t f ≡ false → f < t
    over f t e = grind (arith, nat_tests)

pub record IsDeeper (s n : MachineState) : Type 0 where
  pub near : IsNear n
  pub top : top n ≡ top s
  pub tip : (tip n).height + 1 ≡ (tip s).height

pub near_disconnected : (s : MachineState) (hash : Hash256) → disconnect s hash ≡ Ok (without_tip s hash) → IsNear s → IsDeeper s (without_tip s hash)
unfolding history
near_disconnected s hash accepted near =
    let n = without_tip s hash in
    let a = above s hash n accepted in
    let many : length (history s) ≡ 1 + length (branch s) = near.lawful in
    let some : 0 < length (branch s) = none_or (length (branch s)) (λ (none : length (branch s) ≡ 0). a.start (omega (arith, none, many, tip_counted s))) in
    let back = taken_back s hash near.lawful some in
    let states : length (history s) ≡ length (history n) + 1 = ap length back.states ∙ length-append (history n) (back.last ∷ []) in
    let low : (tip n).height + 1 ≡ (tip s).height = omega (arith, states, tip_counted s, tip_counted n) in
    let tops : top n ≡ top s = back.top in
    record { near = record { lawful = back.lawful; low = omega (arith, low, tops, near.low); deep = omega (arith, low, tops, a.floor) }; top = tops; tip = low }
  where
    none_or : (k : ℕ) → (k ≡ 0 → ⊥) → 0 < k
    none_or zero never = absurd (never refl)
    none_or (suc k) never = omega arith
