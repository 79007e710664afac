-- Each block of a branch has a coinbase.
use Rattle.std.proofs.Common.{◌≡◌, ℕ, zero, suc, ◌+◌, ◌-◌, ◌≤◌, false, List, [], ◌∷◌, ◌++◌, Option, Some, None, Result, Ok, Err, refl, sym, ap, ◌∙◌, subst, arith}
use Rattle.std.specs.Prelude.{◌==◌, is_none, slice_get}
use Rattle.std.specs.List.{AllByRecursion}
use Rattle.std.specs.Option.{option_or}
use Rattle.std.proofs.lemmas.Bool.{eq-eqb, ne_eqb}
use Rattle.dmn_block.specs.declared.frame.BlockFrame.{BlockFrame}
use Rattle.dmn_block.specs.declared.refusal.Refusal.{Refusal}
use Rattle.dmn_block.specs.Shape.{Numbered, broken_rule, first_broken, first_of, link_rules, tx_rules, begins_with_coinbase, unnumbered}
use Rattle.dmn_block.specs.State.{State, origin}
use Rattle.dmn_bytes.specs.declared.hash.Hash256.{Hash256}
use Rattle.dmn_quorums.specs.Forming.{Formed}
use Rattle.dmn_rows.specs.declared.profile.Profile.{Profile}
use Rattle.dmn_rows.specs.declared.row.MnRow.{MnRow}
use Rattle.dmn_rows.specs.declared.start.StartRecord.{StartRecord}
use Rattle.dmn_rows.proofs.Table.{first_broken_append}
use Rattle.dmn_tx.specs.declared.tx.Tx.{Tx}
use Rattle.dmn_branch.specs.Coinbases.{HasCoinbase, coinbase_of, part_in, part_of}
use Rattle.dmn_branch.specs.Machine.{MachineState, branch, history, state_at}
use Rattle.dmn_branch.specs.Replay.{replay_on, with_next}
use Rattle.dmn_branch.specs.Step.{Outcome, and_then, closed, coinbase_in, last_rules, outcome, profile_of, formed_on, shaped, state_of, step, step_from, tip_of, unless}
use Rattle.dmn_branch.proofs.Stepping.{behind}

none_front : (a b : Option Refusal) → option_or a b ≡ None → a ≡ None
none_front None b e = refl
none_front (Some refusal) b e = absurd cc

before : (xs ys : Numbered) → first_broken (unnumbered (xs ++ ys)) ≡ None → first_broken (unnumbered xs) ≡ None
before xs ys e = none_front (first_broken (unnumbered xs)) (first_broken (unnumbered ys)) (sym (first_broken_append xs ys) ∙ e)

-- a block that no rule on its shape refuses has a first transaction
pub has_first : (block : BlockFrame) (tip : Hash256) (height : ℕ) → broken_rule block tip height ≡ None → is_none (part_of block.txs) ≡ false
unfolding tx_rules begins_with_coinbase
has_first block tip height none = go block.txs refl (before (tx_rules block) _ (behind (link_rules block tip height) _ none))
  where
    go : (txs : List Tx) → block.txs ≡ txs → first_broken (unnumbered (tx_rules block)) ≡ None → is_none (part_of txs) ≡ false
    go [] is e = absurd cc
    go (tx ∷ txs) is e = refl

pub shape_none : (profile : Profile) (formed : List Formed) (state : State) (block : BlockFrame) (after : State) → step_from profile formed state block ≡ Ok after → broken_rule block state.hash state.height ≡ None
unfolding step_from outcome shaped
shape_none profile formed state block after is = go _ (closed state block) (broken_rule block state.hash state.height) is
  where
    go : (f : List MnRow → Result Outcome Refusal) (g : Outcome → Result State Refusal) (o : Option Refusal) → and_then (and_then (unless o state.rows) f) g ≡ Ok after → o ≡ None
    go f g None e = refl
    go f g (Some refusal) e = absurd cc

-- what is there behind a block that is accepted
pub step_is : (profile : Profile) (formed : List Formed) (tip : State) (block : BlockFrame) (next : State) → step_from profile formed tip block ≡ Ok next → (x : Outcome) × (first_of (last_rules (coinbase_in block.txs) x) ≡ None) × (state_of tip block x ≡ next)
unfolding step_from closed
step_is profile formed tip block next is = go (outcome profile formed tip block) is
  where
    end : (x : Outcome) (broken : Option Refusal) → first_of (last_rules (coinbase_in block.txs) x) ≡ broken → unless broken (state_of tip block x) ≡ Ok next → (x : Outcome) × (first_of (last_rules (coinbase_in block.txs) x) ≡ None) × (state_of tip block x ≡ next)
    end x None none e = let same : state_of tip block x ≡ next = cc in (x, none, same)
    end x (Some refusal) none e = absurd cc

    go : (o : Result Outcome Refusal) → and_then o (closed tip block) ≡ Ok next → (x : Outcome) × (first_of (last_rules (coinbase_in block.txs) x) ≡ None) × (state_of tip block x ≡ next)
    go (Ok x) e = end x (first_of (last_rules (coinbase_in block.txs) x)) refl e
    go (Err refusal) e = absurd cc

-- a state tells its block, and is one height above the tip
pub block_kept : (profile : Profile) (formed : List Formed) (state : State) (block : BlockFrame) (after : State) → step_from profile formed state block ≡ Ok after → after.block ≡ Some block
block_kept profile formed state block after is = ap (λ (s : State). s.block) (sym (step_is profile formed state block after is).2)

pub height_kept : (profile : Profile) (formed : List Formed) (state : State) (block : BlockFrame) (after : State) → step_from profile formed state block ≡ Ok after → after.height ≡ state.height + 1
height_kept profile formed state block after is = ap (λ (s : State). s.height) (sym (step_is profile formed state block after is).2)

-- the state after a block that is accepted
part_next : (profile : Profile) (formed : List Formed) (state : State) (block : BlockFrame) (after : State) → step_from profile formed state block ≡ Ok after → is_none (coinbase_of after) ≡ false
part_next profile formed state block after is =
    ap (λ (o : Option BlockFrame). is_none (part_in o)) (block_kept profile formed state block after is)
    ∙ has_first block state.hash state.height (shape_none profile formed state block after is)

-- each of these states has a coinbase
abbrev HaveCoinbases : List State → Type 0
HaveCoinbases = AllByRecursion (λ (s : State). is_none (coinbase_of s) ≡ false)

-- the first state of a history is the start's, and each other has a coinbase
record AreProved (start : StartRecord) (states : List State) : Type 0 where
  pub rest : List State
  pub is : states ≡ origin start ∷ rest
  pub all : HaveCoinbases rest

have_more : (states : List State) (s : State) → HaveCoinbases states → is_none (coinbase_of s) ≡ false → HaveCoinbases (states ++ s ∷ [])
have_more [] s all has = (has, tt)
have_more (t ∷ states) s all has = (all.0, have_more states s all.1 has)

proved_next : (start : StartRecord) (states : List State) (block : BlockFrame) → AreProved start states → AreProved start (with_next states (step start states block))
proved_next start states block are = go (step start states block) refl
  where
    go : (r : Result State Refusal) → step start states block ≡ r → AreProved start (with_next states r)
    go (Ok next) e = record {
      rest = are.rest ++ next ∷ [];
      is = ap (λ (l : List State). l ++ next ∷ []) are.is;
      all = have_more are.rest next are.all (part_next (profile_of start) (formed_on start states) (tip_of start states) block next e);
    }
    go (Err refusal) e = are

proved_all : (start : StartRecord) (states : List State) (blocks : List BlockFrame) → AreProved start states → AreProved start (replay_on start states blocks)
proved_all start states [] are = are
proved_all start states (block ∷ blocks) are = proved_all start (with_next states (step start states block)) blocks (proved_next start states block are)

proved_at : (first height n : ℕ) (states : List State) → (height == first - 1) ≡ false → HaveCoinbases states → HasCoinbase first height (slice_get states n)
proved_at first height n [] above all = tt
proved_at first height zero (s ∷ states) above all = all.0 ∙ sym above
proved_at first height (suc n) (s ∷ states) above all = proved_at first height n states above all.1

pub has_coinbase : (m : MachineState) (height : ℕ) → m.start.first - 1 ≤ height → HasCoinbase m.start.first height (state_at m height)
unfolding history
has_coinbase m height high = go (height - (m.start.first - 1)) refl
  where
    are : AreProved m.start (history m)
    are = proved_all m.start (origin m.start ∷ []) (branch m) (record { rest = []; is = refl; all = tt })

    go : (n : ℕ) → height - (m.start.first - 1) ≡ n → HasCoinbase m.start.first height (slice_get (history m) n)
    go zero e = subst (λ (l : List State). HasCoinbase m.start.first height (slice_get l zero)) (sym are.is) (sym (eq-eqb height (m.start.first - 1) (omega (arith, high, e))))
    go (suc n) e = subst (λ (l : List State). HasCoinbase m.start.first height (slice_get l (suc n))) (sym are.is) (proved_at m.start.first height n are.rest (ne_eqb height (m.start.first - 1) (λ (is : height ≡ m.start.first - 1). omega (arith, is, e))) are.all)
