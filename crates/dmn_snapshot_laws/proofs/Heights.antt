-- The heights of the states of a machine.
use Rattle.std.proofs.Common.{◌≡◌, ℕ, zero, suc, ◌+◌, ◌-◌, ◌<◌, max, List, [], ◌∷◌, ◌++◌, length, length-append, drop, refl, sym, ap, subst, arith}
use Rattle.std.specs.Prelude.{Result, Ok, Err}
use Rattle.dmn_block.specs.declared.frame.BlockFrame.{BlockFrame}
use Rattle.dmn_block.specs.declared.refusal.Refusal.{Refusal}
use Rattle.dmn_block.specs.Shape.{first_of}
use Rattle.dmn_block.specs.State.{State, origin}
use Rattle.dmn_branch.specs.Machine as machine
use Rattle.dmn_branch.specs.Machine.{MachineState, branch, held_states, history}
use Rattle.dmn_branch.specs.Replay.{replay_on, with_next}
use Rattle.dmn_branch.specs.Step.{closed, coinbase_in, formed_on, last_of, last_rules, outcome, profile_of, state_of, step, step_from, tip_of}
use Rattle.dmn_quorums.specs.Forming.{Formed}
use Rattle.dmn_rows.specs.declared.profile.Profile.{Profile}
use Rattle.dmn_rows.specs.declared.start.StartRecord.{StartRecord}
use Rattle.dmn_snapshot_laws.proofs.Replays.{then_ok, unless_same}

abbrev pub HeightsFrom : ℕ → List State → Type 0
HeightsFrom height [] = Unit {0}
HeightsFrom height (s ∷ states) = (s.height ≡ height) × HeightsFrom (suc height) states

step_height : (profile : Profile) (formed : List Formed) (tip : State) (block : BlockFrame) (next : State) → step_from profile formed tip block ≡ Ok next → next.height ≡ tip.height + 1
unfolding step_from closed
step_height profile formed tip block next is =
    let a = then_ok (outcome profile formed tip block) _ next is in
    let same : state_of tip block a.0 ≡ next = unless_same (first_of (last_rules (coinbase_in block.txs) a.0)) (state_of tip block a.0) next a.2 in
    ap (λ (s : State). s.height) (sym same)

more : (height : ℕ) (states : List State) (s : State) → HeightsFrom height states → s.height ≡ height + length states → HeightsFrom height (states ++ s ∷ [])
more height [] s from is = (omega (arith, is), tt)
more height (t ∷ states) s from is = (from.0, more (suc height) states s from.1 (omega (arith, is)))

last_height : (height : ℕ) (d : State) (states : List State) → 0 < length states → HeightsFrom height states → (last_of d states).height + 1 ≡ height + length states
last_height height d [] some from = absurd (omega (arith, some))
last_height height d (s ∷ []) some from = omega (arith, from.0)
last_height height d (s ∷ t ∷ states) some from = omega (arith, last_height (suc height) s (t ∷ states) (omega arith) from.1)

record AreFrom (start : StartRecord) (states : List State) : Type 0 where
  some : 0 < length states
  from : HeightsFrom (start.first - 1) states

stepped : (start : StartRecord) (states : List State) (block : BlockFrame) → AreFrom start states → AreFrom start (with_next states (step start states block))
stepped start states block are = go (step start states block) refl
  where
    go : (r : Result State Refusal) → step start states block ≡ r → AreFrom start (with_next states r)
    go (Ok next) e = record {
      some = omega (arith, are.some, length-append states (next ∷ []));
      from = more (start.first - 1) states next are.from
          (omega (arith, step_height (profile_of start) (formed_on start states) (tip_of start states) block next e, last_height (start.first - 1) (origin start) states are.some are.from));
    }
    go (Err refusal) e = are

replayed : (start : StartRecord) (states : List State) (blocks : List BlockFrame) → AreFrom start states → AreFrom start (replay_on start states blocks)
replayed start states [] are = are
replayed start states (block ∷ blocks) are = replayed start (with_next states (step start states block)) blocks (stepped start states block are)

history_from : (m : MachineState) → HeightsFrom (m.start.first - 1) (history m)
unfolding history
history_from m = (replayed m.start (origin m.start ∷ []) (branch m) (record { some = omega arith; from = (refl, tt) })).from

later : (n height : ℕ) (states : List State) → HeightsFrom height states → HeightsFrom (height + n) (drop n states)
later zero height states from = let same : height ≡ height + zero = omega arith in subst (λ (h : ℕ). HeightsFrom h states) same from
later (suc n) height [] from = tt
later (suc n) height (s ∷ states) from = let same : suc height + n ≡ height + suc n = omega arith in subst (λ (h : ℕ). HeightsFrom h (drop n states)) same (later n (suc height) states from.1)

up_to : (a b : ℕ) → a + (max a b - a) ≡ max a b
up_to a b = omega arith

pub held_from : (m : MachineState) → HeightsFrom (machine.low m) (held_states m)
held_from m =
    subst (λ (h : ℕ). HeightsFrom h (held_states m)) (up_to (m.start.first - 1) (machine.top m - (machine.profile m).kept))
    (later (machine.low m - (m.start.first - 1)) (m.start.first - 1) (history m) (history_from m))
