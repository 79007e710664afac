-- The diff that a machine answers is the one to the list of a state of replay.
use Rattle.std.proofs.Common.{◌≡◌, ℕ, zero, suc, ◌-◌, Bool, true, false, cond, List, [], ◌∷◌, length, refl, sym, ap, subst, ◌∙◌, arith, inl, inr}
use Rattle.std.specs.Prelude.{Contains, MatchBool, Option, None, Some, slice_get}
use Rattle.dmn_block.specs.State.{State}
use Rattle.dmn_branch.specs.Asked.{rows_at}
use Rattle.dmn_branch.specs.Coinbases.{CoinbasePart, coinbase_of}
use Rattle.dmn_branch.specs.Machine.{MachineState, branch, height_of, history, rows_of, state_at}
use Rattle.dmn_branch.specs.Replay.{replay}
use Rattle.dmn_bytes.specs.declared.hash.Hash256.{Hash256}
use Rattle.dmn_bytes.specs.Points.{is_zero}
use Rattle.dmn_client.specs.Sound.{HoldsBase}
use Rattle.dmn_client.specs.Step.{ClientState}
use Rattle.dmn_desk.specs.declared.answer.Answer.{Answer}
use Rattle.dmn_desk.specs.declared.answer.Answer.TheVariants.{Grown, Short}
use Rattle.dmn_desk.specs.declared.answer.GrownAnswer.TheVariants as grown
use Rattle.dmn_desk.specs.declared.answer.ShortAnswer.{ShortAnswer}
use Rattle.dmn_desk.specs.declared.answer.ShortAnswer.TheVariants as short
use Rattle.dmn_desk.specs.Ask.{diff, diff_by, diff_since, diff_to, diff_until, is_above, of_state}
use Rattle.dmn_diff.specs.Change.{fresh, gone}
use Rattle.dmn_diff.specs.declared.diff.Diff.{Diff}
use Rattle.dmn_rows.specs.declared.row.MnRow.{MnRow}
use Rattle.dmn_sml.specs.Defs.{simple}
use Rattle.dmn_light_laws.specs.Asked.{IsTakenAsAsked}
use Rattle.dmn_light_laws.specs.Complete.{IsBase, IsDiffTo}
use Rattle.dmn_light_laws.proofs.Complete.{complete_behind}

contains_at : (xs : List State) (i : ℕ) (x : State) → slice_get xs i ≡ Some x → Contains xs x
contains_at [] i x e = absurd cc
contains_at (y ∷ xs) zero x e = let same : y ≡ x = cc in (zero, omega arith, same)
contains_at (y ∷ xs) (suc i) x e = let there = contains_at xs i x e in (suc there.0, omega (arith, there.1), there.2)

state_among : (m : MachineState) (height : ℕ) (state : State) → state_at m height ≡ Some state → Contains (replay m.start (branch m)) state
unfolding history
state_among m height state is = contains_at (history m) (height - (m.start.first - 1)) state is

-- ---- the answer

-- an answer that is the diff from these rows to a height of this hash
pub record IsToHeight (m : MachineState) (base : Hash256) (rows : List MnRow) (block : Hash256) (d : Diff) : Type 0 where
  pub height : ℕ
  pub state : State
  pub found : height_of m block ≡ Some height
  pub there : state_at m height ≡ Some state
  pub part : CoinbasePart
  pub coinbase : coinbase_of state ≡ Some part
  pub is : diff_by base rows state (Some part) ≡ Grown (grown.Diff d)

by_part : (m : MachineState) (base : Hash256) (rows : List MnRow) (block : Hash256) (d : Diff) (height : ℕ) (state : State) (o : Option CoinbasePart) → height_of m block ≡ Some height → state_at m height ≡ Some state → coinbase_of state ≡ o
    → diff_by base rows state o ≡ Grown (grown.Diff d) → IsToHeight m base rows block d
by_part m base rows block d height state None found there none e = absurd cc
by_part m base rows block d height state (Some part) found there coinbase e = record { height = height; state = state; found = found; there = there; part = part; coinbase = coinbase; is = e }

by_state : (m : MachineState) (base : Hash256) (rows : List MnRow) (block : Hash256) (d : Diff) (height : ℕ) (o : Option State) → height_of m block ≡ Some height → state_at m height ≡ o → of_state m (diff_to base rows) o ≡ Grown (grown.Diff d) → IsToHeight m base rows block d
by_state m base rows block d height None found there e = absurd cc
by_state m base rows block d height (Some state) found there e = by_part m base rows block d height state (coinbase_of state) found there refl e

by_above : (m : MachineState) (base : Hash256) (rows : List MnRow) (block : Hash256) (d : Diff) (height : ℕ) (above : Bool) (lower : Answer) → height_of m block ≡ Some height → (lower ≡ Grown (grown.Diff d) → ⊥) → cond above lower (of_state m (diff_to base rows) (state_at m height)) ≡ Grown (grown.Diff d) → IsToHeight m base rows block d
by_above m base rows block d height true lower found other e = absurd (other e)
by_above m base rows block d height false lower found other e = by_state m base rows block d height (state_at m height) found refl e

short_is_none : (answer : ShortAnswer) (d : Diff) → Short answer ≡ Grown (grown.Diff d) → ⊥
short_is_none answer d e = cc (e)

by_height : (m : MachineState) (base : Hash256) (from : Option ℕ) (block : Hash256) (d : Diff) (o : Option ℕ) → height_of m block ≡ o → diff_until m base from o ≡ Grown (grown.Diff d) → IsToHeight m base (rows_at m from) block d
by_height m base from block d None found e = absurd cc
by_height m base from block d (Some height) found e = by_above m base (rows_at m from) block d height (is_above from height) (Short short.BaseAbove) found (short_is_none short.BaseAbove d) e

by_base : (m : MachineState) (base block : Hash256) (d : Diff) (o : Option ℕ) → height_of m base ≡ o → diff_since m base block o ≡ Grown (grown.Diff d) → IsToHeight m base (rows_at m o) block d
by_base m base block d None found e = absurd cc
by_base m base block d (Some from) found e = by_height m base (Some from) block d (height_of m block) refl e

-- the rows of the base: those of its height, or none for a base of zeros
abbrev base_rows : MachineState → Hash256 → Bool → List MnRow
base_rows m base true = []
base_rows m base false = rows_at m (height_of m base)

to_height : (m : MachineState) (base block : Hash256) (d : Diff) → diff m base block ≡ Grown (grown.Diff d) → IsToHeight m base (base_rows m base (is_zero base.0)) block d
unfolding diff
to_height m base block d e = go (is_zero base.0) e
  where
    go : (b : Bool) → cond b (diff_until m base None (height_of m block)) (diff_since m base block (height_of m base)) ≡ Grown (grown.Diff d) → IsToHeight m base (base_rows m base b) block d
    go true e = by_height m base None block d (height_of m block) refl e
    go false e = by_base m base block d (height_of m base) refl e

-- ---- the client

base_is : (m : MachineState) (o : Option ℕ) → IsBase m.start (branch m) (simple (rows_at m o))
base_is m None = inl refl
base_is m (Some height) = go (state_at m height) refl
  where
    go : (o : Option State) → state_at m height ≡ o → IsBase m.start (branch m) (simple (rows_of o))
    go None e = inl refl
    go (Some state) e = inr (state, state_among m height state e, refl)

either_base : (m : MachineState) (base : Hash256) (b : Bool) → IsBase m.start (branch m) (simple (base_rows m base b))
either_base m base true = inl refl
either_base m base false = base_is m (height_of m base)

holds_base : (m : MachineState) (base : Hash256) (c : ClientState) (d : Diff) (b : Bool) → d.base ≡ base → MatchBool b (Unit {0}) ((base ≡ c.held) × (c.list ≡ simple (rows_at m (height_of m base))))
    → MatchBool b (simple (base_rows m base b) ≡ []) ((d.base ≡ c.held) × (simple (base_rows m base b) ≡ c.list))
holds_base m base c d true is holds = refl
holds_base m base c d false is holds = (is ∙ holds.0, sym holds.1)

-- the diff that is answered
abbrev made : State → List MnRow → Hash256 → CoinbasePart → Diff
made state rows base part = record { base = base; block = state.hash; branch = part.branch; coinbase = part.tx; deleted = gone (simple rows) (simple state.rows); entries = fresh (simple rows) (simple state.rows) }

diff_is : (a b : Diff) → Grown (grown.Diff a) ≡ Grown (grown.Diff b) → a ≡ b
diff_is a b e = cc

pub taken_as_asked : (m : MachineState) (base block : Hash256) (d : Diff) (c : ClientState) → IsTakenAsAsked m base block d c
taken_as_asked m base block d c bodies long is holds =
    let to = to_height m base block d is in
    let rows = base_rows m base (is_zero base.0) in
    let same = diff_is (made to.state rows base to.part) d to.is in
    let base_same : d.base ≡ base = ap (λ (x : Diff). x.base) (sym same) in
    let diff_to : IsDiffTo d (simple rows) to.state = record {
      length = ap (λ (h : Hash256). length h.0) base_same ∙ long;
      block = ap (λ (x : Diff). x.block) (sym same);
      coinbase = to.coinbase ∙ ap (λ (x : Diff). Some (record { tx = x.coinbase; branch = x.branch })) same;
      deleted = ap (λ (x : Diff). x.deleted) (sym same);
      entries = ap (λ (x : Diff). x.entries) (sym same);
    } in
    let held : HoldsBase c d (simple rows) = subst (λ (h : Hash256). MatchBool (is_zero h.0) (simple rows ≡ []) ((d.base ≡ c.held) × (simple rows ≡ c.list))) (sym base_same) (holds_base m base c d (is_zero base.0) base_same holds) in (
      to.height,
      to.state,
      to.found,
      to.there,
      diff_to.block,
      λ b block_is few header.
          complete_behind m.start (branch m) b to.state (simple rows) d c bodies (record { among = state_among m to.height to.state to.there; block_is = block_is }) few (either_base m base (is_zero base.0)) diff_to held header,
    )
