-- What each state of a replay keeps, where the first one has it, and each block passes it on.
use Rattle.std.proofs.Common.{◌≡◌, List, [], ◌∷◌, ◌++◌, refl}
use Rattle.std.specs.Prelude.{Option, None, Some, Result, Ok, Err}
use Rattle.std.specs.List.{AllByRecursion}
use Rattle.dmn_block.specs.declared.frame.BlockFrame.{BlockFrame}
use Rattle.dmn_block.specs.declared.refusal.Refusal.{Refusal}
use Rattle.dmn_block.specs.State.{State, origin}
use Rattle.dmn_branch.specs.Replay.{replay_on, with_next}
use Rattle.dmn_branch.specs.Step.{and_then, formed_on, last_of, profile_of, step, step_from, tip_of, unless}
use Rattle.dmn_quorums.specs.Forming.{Formed}
use Rattle.dmn_rows.specs.declared.start.StartRecord.{StartRecord}

-- ---- stages of a step

abbrev pub ok_of : {X : Type 0} → X → Result X Refusal
ok_of x = Ok x

pub ok_same : {X : Type 0} {x y : X} → ok_of x ≡ ok_of y → x ≡ y
ok_same e = cc

pub then_ok : {X Y : Type 0} (r : Result X Refusal) (f : X → Result Y Refusal) (y : Y) → and_then r f ≡ Ok y → (x : X) × (r ≡ Ok x) × (f x ≡ Ok y)
then_ok (Ok x) f y e = (x, refl, e)
then_ok (Err refusal) f y e = absurd cc

pub unless_ok : {X Y : Type 0} (o : Option Refusal) (x : X) (f : X → Result Y Refusal) (y : Y) → and_then (unless o x) f ≡ Ok y → f x ≡ Ok y
unless_ok None x f y e = e
unless_ok (Some refusal) x f y e = absurd cc

pub unless_same : {X : Type 0} (o : Option Refusal) (x y : X) → unless o x ≡ Ok y → x ≡ y
unless_same None x y e = ok_same e
unless_same (Some refusal) x y e = absurd cc

-- ---- one state after another

module _ (P : State → Type 0) (Q : BlockFrame → Type 0) (start : StartRecord) (first : P (origin start)) (next : (formed : List Formed) (tip : State) (block : BlockFrame) (after : State) → Q block → P tip → step_from (profile_of start) formed tip block ≡ Ok after → P after) where
  last_keeps : (d : State) (states : List State) → P d → AllByRecursion P states → P (last_of d states)
  last_keeps d [] one all = one
  last_keeps d (s ∷ states) one all = last_keeps s states all.0 all.1

  more_keeps : (states : List State) (s : State) → AllByRecursion P states → P s → AllByRecursion P (states ++ s ∷ [])
  more_keeps [] s all one = (one, tt)
  more_keeps (t ∷ states) s all one = (all.0, more_keeps states s all.1 one)

  stepped_keeps : (states : List State) (block : BlockFrame) → Q block → AllByRecursion P states → AllByRecursion P (with_next states (step start states block))
  stepped_keeps states block has all = go (step start states block) refl
    where
      go : (r : Result State Refusal) → step start states block ≡ r → AllByRecursion P (with_next states r)
      go (Ok after) e = more_keeps states after all (next (formed_on start states) (tip_of start states) block after has (last_keeps (origin start) states first all) e)
      go (Err refusal) e = all

  pub replay_keeps : (states : List State) (blocks : List BlockFrame) → AllByRecursion Q blocks → AllByRecursion P states → AllByRecursion P (replay_on start states blocks)
  replay_keeps states [] has all = all
  replay_keeps states (block ∷ blocks) has all = replay_keeps (with_next states (step start states block)) blocks has.1 (stepped_keeps states block has.0 all)
