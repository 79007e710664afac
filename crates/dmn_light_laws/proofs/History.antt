-- What each state of a replay keeps.
use Rattle.std.proofs.Common.{◌≡◌, ◌≤◌, List, [], ◌∷◌, ◌++◌, length, refl, subst, arith}
use Rattle.std.specs.Prelude.{Contains, Option, None, Some, Result, Ok, Err}
use Rattle.std.specs.List.{AllByRecursion}
use Rattle.std.proofs.lemmas.List.Elements.{All-contains, All-from_recursion, All-nil}
use Rattle.dmn_block.specs.declared.frame.BlockFrame.{BlockFrame}
use Rattle.dmn_block.specs.declared.refusal.Refusal.{Refusal}
use Rattle.dmn_block.specs.Shape.{first_of}
use Rattle.dmn_block.specs.State.{State, origin}
use Rattle.dmn_branch.specs.Replay.{replay, replay_on, with_next}
use Rattle.dmn_branch.specs.Step.{closed, coinbase_in, formed_on, last_of, last_rules, most_rows, outcome, profile_of, state_of, step, step_from, tip_of, unless}
use Rattle.dmn_client.specs.Sound.{RowFits, root_of_txs, told_by}
use Rattle.dmn_quorums.specs.Forming.{Formed}
use Rattle.dmn_rows.specs.declared.profile.Profile.{Profile}
use Rattle.dmn_rows.specs.declared.start.StartRecord.{StartRecord}
use Rattle.dmn_sml.specs.Defs.{root_of, simple}
use Rattle.dmn_tx.specs.Tx.{tx}
use Rattle.dmn_light_laws.specs.Branches.{AreBodies, HasBody, IsBehind}
use Rattle.dmn_light_laws.proofs.Bytes.{is_well}
use Rattle.dmn_light_laws.proofs.Keeping.{Keeps, ok_same, outcome_keeps, then_ok}
use Rattle.dmn_light_laws.proofs.Told.{coinbase_told, list_told, root_told}

-- what a block tells of the state behind it
pub record Proves (block : BlockFrame) (state : State) : Type 0 where
  pub fits : AllByRecursion tx.Fits block.txs
  pub told : told_by block.txs ≡ Some (root_of (simple state.rows))
  pub root : block.merkle ≡ root_of_txs block.txs

-- by the state's block, if it has one
abbrev IfBlock : Option BlockFrame → State → Type 0
IfBlock None state = Unit {0}
IfBlock (Some block) state = Proves block state

pub record IsGood (state : State) : Type 0 where
  pub hash : length state.hash.0 ≡ 32
  pub rows : Keeps state.rows
  pub few : length state.rows ≤ most_rows
  pub block : IfBlock state.block state

origin_good : (start : StartRecord) → length start.hash.0 ≡ 32 → IsGood (origin start)
origin_good start long = record { hash = long; rows = record { ascends = tt; fits = All-nil RowFits }; few = omega arith; block = tt }

unless_same : {X : Type 0} (o : Option Refusal) (x y : X) → unless o x ≡ Ok y → (o ≡ None) × (x ≡ y)
unless_same None x y e = (refl, ok_same e)
unless_same (Some refusal) x y e = absurd cc

next_good : (profile : Profile) (formed : List Formed) (tip : State) (block : BlockFrame) (next : State) → HasBody block → IsGood tip → step_from profile formed tip block ≡ Ok next → IsGood next
unfolding step_from closed
next_good profile formed tip block next has good is =
    let well = is_well block has in
    let a = then_ok (outcome profile formed tip block) _ next is in
    let kept = outcome_keeps profile formed tip block a.0 good.hash well.payloads good.rows a.1 in
    let b = unless_same (first_of (last_rules (coinbase_in block.txs) a.0)) (state_of tip block a.0) next a.2 in
    let tells = coinbase_told block tip.hash tip.height kept.shape in
    let told = list_told block.txs tells.0 a.0 tells.1 b.0 in
    subst IsGood b.1 (record {
      hash = well.hash;
      rows = kept.keeps;
      few = told.1;
      block = record {
        fits = well.fits;
        told = told.0;
        root = root_told block tip.hash tip.height has.ids kept.shape;
      };
    })

-- ---- the whole history

last_good : (first : State) (states : List State) → IsGood first → AllByRecursion IsGood states → IsGood (last_of first states)
last_good first [] good all = good
last_good first (next ∷ states) good all = last_good next states all.0 all.1

more_good : (states : List State) (s : State) → AllByRecursion IsGood states → IsGood s → AllByRecursion IsGood (states ++ s ∷ [])
more_good [] s all good = (good, tt)
more_good (t ∷ states) s all good = (all.0, more_good states s all.1 good)

stepped_good : (start : StartRecord) (states : List State) (block : BlockFrame) → length start.hash.0 ≡ 32 → HasBody block → AllByRecursion IsGood states → AllByRecursion IsGood (with_next states (step start states block))
stepped_good start states block long has all = go (step start states block) refl
  where
    go : (r : Result State Refusal) → step start states block ≡ r → AllByRecursion IsGood (with_next states r)
    go (Ok next) e = more_good states next all (next_good (profile_of start) (formed_on start states) (tip_of start states) block next has (last_good (origin start) states (origin_good start long) all) e)
    go (Err refusal) e = all

replay_good : (start : StartRecord) (states : List State) (blocks : List BlockFrame) → length start.hash.0 ≡ 32 → AllByRecursion HasBody blocks → AllByRecursion IsGood states → AllByRecursion IsGood (replay_on start states blocks)
replay_good start states [] long bodies all = all
replay_good start states (block ∷ blocks) long bodies all =
    replay_good start (with_next states (step start states block)) blocks long bodies.1 (stepped_good start states block long bodies.0 all)

pub state_good : (start : StartRecord) (blocks : List BlockFrame) (state : State) → AreBodies start blocks → Contains (replay start blocks) state → IsGood state
state_good start blocks state bodies among =
    let all = replay_good start (origin start ∷ []) blocks bodies.hash bodies.bodies (origin_good start bodies.hash, tt) in
    All-contains IsGood (replay start blocks) state (All-from_recursion IsGood (replay start blocks) all) among

-- the state behind a block
pub behind_good : (start : StartRecord) (blocks : List BlockFrame) (block : BlockFrame) (state : State) → AreBodies start blocks → IsBehind start blocks block state → IsGood state × Proves block state
behind_good start blocks block state bodies behind =
    let good = state_good start blocks state bodies behind.among in
    (good, subst (λ (o : Option BlockFrame). IfBlock o state) behind.block_is good.block)
