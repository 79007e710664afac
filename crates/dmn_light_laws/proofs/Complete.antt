-- The diff to a block's list has a text, and it is accepted.
use Rattle.std.proofs.Common.{◌≡◌, suc, ◌^◌, ◌<◌, ◌≤◌, Bool, List, [], ◌∷◌, length, map, filter, not, refl, sym, ap, subst, ◌∙◌, arith, inl, inr}
use Rattle.std.proofs.lemmas.List.{length-map}
use Rattle.std.specs.Prelude.{Option, Some}
use Rattle.std.specs.List.{AllByRecursion, list_any}
use Rattle.std.proofs.lemmas.List.Elements.{All-filter, All-from_recursion, All-map, All-weaker, recursion_from_All}
use Rattle.std.proofs.lemmas.List.Filters.{length-filter_both}
use Rattle.dmn_block.specs.declared.frame.BlockFrame.{BlockFrame}
use Rattle.dmn_block.specs.Defs.{most_items}
use Rattle.dmn_block.specs.State.{State}
use Rattle.dmn_branch.specs.Coinbases.{CoinbasePart, part_in, part_of}
use Rattle.dmn_branch.specs.Step.{most_rows}
use Rattle.dmn_bytes.specs.declared.hash.Hash256.{Hash256}
use Rattle.dmn_client.specs.Sound.{IsDiffOf, RowFits}
use Rattle.dmn_client.specs.Step.{ClientState, EntriesFit}
use Rattle.dmn_client.proofs.Complete.{complete_step}
use Rattle.dmn_client.proofs.First.{ids_siblings_length}
use Rattle.dmn_client.proofs.Meet.{length_dsha}
use Rattle.dmn_client.proofs.Simple.{entries_fit}
use Rattle.dmn_diff.specs.Change.{fresh, gone, same_entry}
use Rattle.dmn_diff.specs.declared.diff.Diff.{Diff}
use Rattle.dmn_diff.specs.Defs.{HashesAscend}
use Rattle.dmn_diff.specs.Diff.{hash_of}
use Rattle.dmn_diff.specs.Fitting.{FieldsFit, HasLength}
use Rattle.dmn_diff.proofs.Fitting.{fits}
use Rattle.dmn_diff.proofs.Rows.{simple_ascends}
use Rattle.dmn_diff.proofs.Steps.{fresh_ascends, gone_ascends}
use Rattle.dmn_merkle.specs.declared.branch.Branching.{Branching}
use Rattle.dmn_merkle.specs.Branch.{branch_of, depth_of, siblings}
use Rattle.dmn_merkle.proofs.Branches.{length_flags, siblings_depth}
use Rattle.dmn_merkle.proofs.Judged.{depth_is, proves_first}
use Rattle.dmn_rows.specs.declared.start.StartRecord.{StartRecord}
use Rattle.dmn_sml.specs.declared.entry.SmlEntry.{SmlEntry}
use Rattle.dmn_sml.specs.Defs.{IsAscending, has_hash, simple}
use Rattle.dmn_sml.specs.Entry.{entry, entry_of, fields}
use Rattle.dmn_tx.specs.declared.tx.Tx.{Tx}
use Rattle.dmn_tx.specs.Defs.{id_of, tx_text}
use Rattle.dmn_tx.specs.Tx.{tx}
use Rattle.dmn_light_laws.specs.Branches.{AreBodies}
use Rattle.dmn_light_laws.specs.Complete.{IsBase, IsCompleteBehind, IsDiffTo}
use Rattle.dmn_light_laws.proofs.History.{IsGood, behind_good, state_good}

-- ---- lists

entry_hash : (e : SmlEntry) → entry.Fits e → HasLength e.hash
unfolding entry fields
entry_hash e f = f.0

filtered : {X : Type 0} (test : X → Bool) (xs : List X) → length (filter test xs) ≤ length xs
filtered test xs = omega (arith, length-filter_both test (λ x. not (test x)) (λ x. refl) xs)

gone_fits : (base target : List SmlEntry) → EntriesFit base → AllByRecursion HasLength (gone base target)
gone_fits base target f =
    let keep = λ (b : SmlEntry). not (list_any (has_hash b.hash) target) in
    recursion_from_All HasLength (gone base target)
    (All-map HasLength hash_of (filter keep base) (All-weaker entry.Fits (λ (e : SmlEntry). HasLength e.hash) entry_hash (filter keep base) (All-filter keep entry.Fits base (All-from_recursion entry.Fits base f))))

gone_few : (base target : List SmlEntry) → length (gone base target) ≤ length base
gone_few base target =
    let keep = λ (b : SmlEntry). not (list_any (has_hash b.hash) target) in
    omega (arith, length-map (filter keep base) hash_of, filtered keep base)

fresh_fits : (base target : List SmlEntry) → EntriesFit target → EntriesFit (fresh base target)
fresh_fits base target f =
    let keep = λ (t : SmlEntry). not (list_any (same_entry t) base) in
    recursion_from_All entry.Fits (fresh base target) (All-filter keep entry.Fits target (All-from_recursion entry.Fits target f))

-- ---- the branch

ids_length : (txs : List Tx) → AllByRecursion HasLength (map id_of txs)
ids_length [] = tt
ids_length (t ∷ txs) = (length_dsha (tx_text t), ids_length txs)

pub record BranchFits (branch : Branching) : Type 0 where
  pub total : branch.total < 2 ^ 32
  pub hashes : AllByRecursion HasLength branch.hashes
  pub few_hashes : length branch.hashes < 2 ^ 64
  pub few_flags : length branch.flags < 2 ^ 64

branch_fits : (t : Tx) (txs : List Tx) → suc (length txs) ≤ most_items → BranchFits (branch_of (map id_of (t ∷ txs)))
branch_fits t txs few =
    let count : length (map id_of txs) ≡ length txs = length-map txs id_of in
    let deep = depth_is (suc (length (map id_of txs))) in
    let low : depth_of (suc (length (map id_of txs))) ≤ 24 = deep.least 24 (omega (arith, few, count)) in
    let above = siblings_depth (id_of t) (map id_of txs) in
    let short : length (siblings (map id_of (t ∷ txs))) ≤ 24 = above.least 24 (omega (arith, few, count)) in
    record {
      total = omega (arith, few, count);
      hashes = (length_dsha (tx_text t), ids_siblings_length (map id_of (t ∷ txs)) (ids_length (t ∷ txs)));
      few_hashes = omega (arith, short);
      few_flags = omega (arith, length_flags (depth_of (suc (length (map id_of txs)))), low);
    }

-- ---- the base

pub record GoodBase (base : List SmlEntry) : Type 0 where
  pub ascends : IsAscending base
  pub fits : EntriesFit base
  pub few : length base ≤ most_rows

good_list : (state : State) → IsGood state → GoodBase (simple state.rows)
good_list state good = record {
  ascends = simple_ascends state.rows good.rows.ascends;
  fits = entries_fit state.rows (recursion_from_All RowFits state.rows good.rows.fits);
  few = omega (arith, length-map state.rows entry_of, good.few);
}

good_base : (start : StartRecord) (blocks : List BlockFrame) (base : List SmlEntry) → AreBodies start blocks → IsBase start blocks base → GoodBase base
good_base start blocks base bodies (inl none) = subst GoodBase (sym none) (record { ascends = tt; fits = tt; few = omega arith })
good_base start blocks base bodies (inr held) = subst GoodBase (sym held.2) (good_list held.0 (state_good start blocks held.0 bodies held.1))

-- ---- the diff

-- the block's first transaction, with the branch that proves it
pub record IsFirst (d : Diff) (txs : List Tx) : Type 0 where
  pub rest : List Tx
  pub is : txs ≡ d.coinbase ∷ rest
  pub branch : d.branch ≡ branch_of (map id_of txs)

abbrev part : Tx → Branching → CoinbasePart
part t branch = record { tx = t; branch = branch }

abbrev some_of : CoinbasePart → Option CoinbasePart
some_of p = Some p

some_is : {x y : CoinbasePart} → some_of x ≡ some_of y → x ≡ y
some_is e = cc

first_of_part : (d : Diff) (txs : List Tx) → part_of txs ≡ Some (record { tx = d.coinbase; branch = d.branch }) → IsFirst d txs
first_of_part d [] e = absurd cc
first_of_part d (t ∷ txs) e =
    let same : record { tx = t; branch = branch_of (map id_of (t ∷ txs)) } ≡ part d.coinbase d.branch = some_is e in
    record {
      rest = txs;
      is = ap (λ (p : CoinbasePart). p.tx ∷ txs) same;
      branch = sym (ap (λ (p : CoinbasePart). p.branch) same);
    }

fields_fit : (d : Diff) (base : List SmlEntry) (state : State) (txs : List Tx) → IsDiffTo d base state → GoodBase base → IsGood state → IsFirst d txs → AllByRecursion tx.Fits txs → length txs ≤ most_items → FieldsFit d
fields_fit d base state txs to from good first txs_fit few =
    let list = good_list state good in
    let count : length txs ≡ suc (length first.rest) = ap length first.is in
    let branch : BranchFits d.branch = subst BranchFits (sym (first.branch ∙ ap (λ (l : List Tx). branch_of (map id_of l)) first.is)) (branch_fits d.coinbase first.rest (omega (arith, few, count))) in
    record {
      base = to.length;
      block = subst HasLength (sym to.block) good.hash;
      total = branch.total;
      hashes = branch.hashes;
      few_hashes = branch.few_hashes;
      few_flags = branch.few_flags;
      coinbase = (subst (λ (l : List Tx). AllByRecursion tx.Fits l) first.is txs_fit).0;
      deleted = subst (λ (l : List Hash256). AllByRecursion HasLength l) (sym to.deleted) (gone_fits base (simple state.rows) from.fits);
      few_deleted = omega (arith, ap length to.deleted, gone_few base (simple state.rows), from.few);
      deleted_ascend = subst HashesAscend (sym to.deleted) (gone_ascends base (simple state.rows) from.ascends);
      entries = subst EntriesFit (sym to.entries) (fresh_fits base (simple state.rows) list.fits);
      few_entries = omega (arith, ap length to.entries, filtered (λ (t : SmlEntry). not (list_any (same_entry t) base)) (simple state.rows), list.few);
      entries_ascend = subst IsAscending (sym to.entries) (fresh_ascends base (simple state.rows) list.ascends);
    }

pub complete_behind : (start : StartRecord) (blocks : List BlockFrame) (block : BlockFrame) (state : State) (base : List SmlEntry) (d : Diff) (c : ClientState) → IsCompleteBehind start blocks block state base d c
complete_behind start blocks block state base d c bodies behind few from to holds header =
    let good = behind_good start blocks block state bodies behind in
    let base_good = good_base start blocks base bodies from in
    let first = first_of_part d block.txs (sym (ap part_in behind.block_is) ∙ to.coinbase) in
    let list = good_list state good.0 in
    let is : IsDiffOf d base block.txs (simple state.rows) = record {
      fits = fits d (fields_fit d base state block.txs to base_good good.0 first good.1.fits few);
      coinbase = (first.rest, first.is);
      branch = proves_first d.branch (map id_of block.txs) (omega (arith, ap length first.is, length-map block.txs id_of)) first.branch;
      deleted = to.deleted;
      entries = to.entries;
    } in
    complete_step c d base (simple state.rows) block.txs is holds base_good.ascends list.ascends good.1.told (header ∙ ap (λ (r : Hash256). Some r) good.1.root)
