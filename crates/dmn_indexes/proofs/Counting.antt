-- How many rows and outputs there are after an event, and what several events lead to.
use Rattle.std.proofs.Common.{◌≡◌, ℕ, ◌+◌, ◌≤◌, Bool, true, false, not, cond, List, [], ◌∷◌, map, length, filter, find, Option, Some, None, refl, ap, ◌∙◌, arith}
use Rattle.std.specs.Prelude.{is_some}
use Rattle.std.specs.declared.cmp.Ordering.{Ordering}
use Rattle.std.proofs.lemmas.List.{length-map}
use Rattle.dmn_bytes.specs.Points.{hash_cmp, point_cmp}
use Rattle.dmn_bytes.specs.declared.hash.Hash256.{Hash256}
use Rattle.dmn_bytes.specs.declared.points.OutPoint.{OutPoint}
use Rattle.dmn_bytes.specs.declared.points.Pay.{Pay}
use Rattle.dmn_rows.specs.declared.row.MnRow.{MnRow}
use Rattle.dmn_rows.specs.declared.start.StartOutput.{StartOutput}
use Rattle.dmn_rows.specs.Keys.{row_key, output_key}
use Rattle.dmn_rows.specs.Listing.{IsAscending, OutputsAscend}
use Rattle.dmn_rows.specs.Rows.{Outputs, has_hash, has_point, put_row, drop_row, put_output, drop_output}
use Rattle.dmn_rows.specs.Sorted.{IsKey, Ascends, put_sorted}
use Rattle.dmn_rows.proofs.Sorted.{is_lower, is_it, is_higher, meets, put_below, put_same, put_above}
use Rattle.dmn_versions.specs.Laws.{KeyLaws}
use Rattle.dmn_versions.specs.declared.node.Node.{Node}
use Rattle.dmn_versions.specs.declared.node.Root.{Root}
use Rattle.dmn_versions.specs.Trees.{reads, tree_at, pairs}
use Rattle.std.specs.FinMap.{put}
use Rattle.std.specs.FinMap.Entries as entries
use Rattle.dmn_indexes.specs.declared.indexes.Indexes.{Indexes}
use Rattle.dmn_indexes.specs.declared.version.Version.{Version}
use Rattle.dmn_indexes.specs.Index.{index_of, put_key}
use Rattle.dmn_indexes.specs.Keys.{owner_laws, operator_laws, service_laws, pay_laws, unconfirmed_laws}
use Rattle.dmn_versions.specs.Laws.{point_laws}
use Rattle.dmn_indexes.specs.Version.{rows_in, outputs_in, IsIndex, IsWhole, Keeps, GrownBy, HasFewPairs, few}
use Rattle.dmn_indexes.specs.Parts.{shown}
use Rattle.dmn_indexes.specs.Working.{Worked, worked, Leads}
use Rattle.dmn_indexes.proofs.Index.{sorted-index}
use Rattle.dmn_indexes.proofs.Whole.{keeps_then, grown_then, grown_more, grown_none}

-- ---- lengths

length-filter : {V : Type 0} (test : V → Bool) (list : List V) → length (filter test list) ≤ length list
length-filter test [] = omega arith
length-filter test (v ∷ list) = elim (test v) as (λ b. length (cond b (v ∷ filter test list) (filter test list)) ≤ length (v ∷ list)) [
  | true ↦ omega (arith, length-filter test list)
  | false ↦ omega (arith, length-filter test list)
]

module _ {K V : Type 0} (cmp : K → K → Ordering) (key : V → K) (has : K → V → Bool) (is : IsKey cmp key has) where
  pub length-put : (v : V) (list : List V) → Ascends cmp key list → length (put_sorted cmp key v list) ≤ length list + 1
  length-put v [] ascending = omega arith
  length-put v (w ∷ list) ascending = elim (meets cmp key has is (key v) w list ascending) [
    | is_lower less ↦ omega (arith, ap length (put_below cmp key has is v w list less), length-put v list ascending.1)
    | is_it not_below same above ↦ omega (arith, ap length (put_same cmp key has is v w list not_below same above))
    | is_higher not_below differs above ↦ omega (arith, ap length (put_above cmp key has is v w list not_below above))
  ]

pub rows_after_put : (row : MnRow) (rows : List MnRow) → IsAscending rows → length (put_row row rows) ≤ length rows + 1
rows_after_put row rows ascending = length-put hash_cmp (λ r. r.hash) has_hash row_key row rows ascending

pub rows_after_drop : (hash : Hash256) (rows : List MnRow) → length (drop_row hash rows) ≤ length rows
rows_after_drop hash rows = length-filter (λ r. not (has_hash hash r)) rows

pub outputs_after_put : (point : OutPoint) (pays : Pay) (outputs : Outputs) → OutputsAscend outputs → length (put_output point pays outputs) ≤ length outputs + 1
outputs_after_put point pays outputs ascending =
    elim (is_some (find (has_point point) outputs)) as (λ b. length (cond b outputs (put_sorted point_cmp (λ (o : StartOutput). o.point) (record { point = point; pay = pays }) outputs)) ≤ length outputs + 1) [
      | true ↦ omega arith
      | false ↦ length-put point_cmp (λ (o : StartOutput). o.point) has_point output_key (record { point = point; pay = pays }) outputs ascending
    ]

pub outputs_after_drop : (point : OutPoint) (outputs : Outputs) → length (drop_output point outputs) ≤ length outputs
outputs_after_drop point outputs = length-filter (λ o. not (has_point point o)) outputs

-- an index has at most as many pairs as there are rows
length_index : {K : Type 0} (cmp : K → K → Ordering) (laws : KeyLaws cmp) (key : MnRow → Option K) (rows : List MnRow) → length (index_of cmp key rows) ≤ length rows
length_index cmp laws key [] = omega arith
length_index cmp laws key (r ∷ rows) =
    elim (key r) as (λ o. length (put_key cmp o r.hash (index_of cmp key rows)) ≤ length (r ∷ rows)) [
      | None ↦ omega (arith, length_index cmp laws key rows)
      | Some k ↦ omega (arith, length_index cmp laws key rows, added k (is_some (entries.find cmp k (index_of cmp key rows))) (entries.length-put cmp laws.total k r.hash (index_of cmp key rows) (sorted-index cmp laws key rows)))
    ]
  where
    added : (k : _) (b : Bool) → length (put cmp k r.hash (index_of cmp key rows)) ≡ cond b (length (index_of cmp key rows)) (length (index_of cmp key rows) + 1) → length (put cmp k r.hash (index_of cmp key rows)) ≤ length (index_of cmp key rows) + 1
    added k true e = omega (arith, e)
    added k false e = omega (arith, e)

few_index : {K : Type 0} {cmp : K → K → Ordering} (laws : KeyLaws cmp) {key : MnRow → Option K} {nodes : List (Node K Hash256)} {root : Root} (rows : List MnRow) → IsIndex cmp key nodes root rows → length rows ≤ few → length (pairs (tree_at nodes root.0)) ≤ few
few_index {cmp = cmp} laws {key = key} rows i h = omega (arith, ap length i.reads, length_index cmp laws key rows)

-- few rows and few outputs are few pairs in each tree
pub few_pairs : (ix : Indexes) (v : Version) → IsWhole ix v → length (rows_in ix v) ≤ few → length (outputs_in ix v) ≤ few → HasFewPairs ix v
few_pairs ix v w rows outputs = record {
  rows = omega (arith, rows, length-map (reads ix.rows v.rows) (λ (p : Hash256 × MnRow). p.1));
  owner = few_index owner_laws (rows_in ix v) w.owner rows;
  operator = few_index operator_laws (rows_in ix v) w.operator rows;
  service = few_index service_laws (rows_in ix v) w.service rows;
  collateral = few_index point_laws (rows_in ix v) w.collateral rows;
  payment = few_index pay_laws (rows_in ix v) w.payment rows;
  unconfirmed = few_index unconfirmed_laws (rows_in ix v) w.unconfirmed rows;
  outputs = omega (arith, outputs, length-map {B = StartOutput} (reads ix.outputs v.outputs) (λ (p : OutPoint × Pay). record { point = p.0; pay = p.1 }));
}

-- ---- what events lead to

pub leads_then : {x y z : Worked} → Leads x y → Leads y z → Leads x z
leads_then {x} {y} {z} f g = record {
  counted = omega (arith, f.counted, g.counted);
  rows = omega (arith, f.counted, g.counted, f.rows, g.rows);
  outputs = omega (arith, f.counted, g.counted, f.outputs, g.outputs);
  keeps = keeps_then f.keeps g.keeps;
  more = (f.more.0 + g.more.0, grown_then f.more.1 g.more.1 (omega arith));
  grown = λ small.
      grown_then (f.grown (record { rows = omega (arith, f.counted, g.counted, small.rows); outputs = omega (arith, f.counted, g.counted, small.outputs) }))
      (g.grown (record { rows = omega (arith, f.counted, g.counted, small.rows, f.rows); outputs = omega (arith, f.counted, g.counted, small.outputs, f.outputs) }))
      (omega (arith, f.counted, g.counted));
  entries = λ unchanged. let later = g.entries unchanged in let before = f.entries later.0 in (before.0, later.1 ∙ before.1);
}

pub leads_none : (x : Worked) → Leads x x
leads_none x = record {
  counted = omega arith;
  rows = omega arith;
  outputs = omega arith;
  keeps = λ v whole. record { whole = whole; rows = refl; outputs = refl };
  more = (0, grown_none x.indexes);
  grown = λ small. grown_more (grown_none x.indexes) (omega arith);
  entries = λ unchanged. (unchanged, refl);
}

-- one event, once there is room for it
pub event_leads : {start mid end : Indexes} {v next : Version} {n more : ℕ} {changed later : Bool} → IsWhole start v → GrownBy 0 start mid → Keeps start mid → (HasFewPairs mid v → GrownBy 232 mid end) → Keeps mid end → ((k : ℕ) × GrownBy k mid end)
    → length (rows_in end next) ≤ length (rows_in mid v) + 1 → length (outputs_in end next) ≤ length (outputs_in mid v) + 1 → more ≡ n + 1
    → (later ≡ false → (changed ≡ false) × (map shown (rows_in end next) ≡ map shown (rows_in mid v)))
    → Leads (worked start v n changed) (worked end next more later)
event_leads {start = start} {mid = mid} {v = v} {n = n} {more = more} whole none kept bounded keeps growth rows outputs one entries =
    let stays = kept v whole in
    record {
      counted = omega (arith, one);
      rows = omega (arith, rows, ap length stays.rows, one);
      outputs = omega (arith, outputs, ap length stays.outputs, one);
      keeps = keeps_then kept keeps;
      more = (growth.0, grown_then none growth.1 (omega arith));
      grown = λ small.
          let few_rows : length (rows_in mid v) ≤ few = omega (arith, ap length stays.rows, small.rows) in
          let few_outputs : length (outputs_in mid v) ≤ few = omega (arith, ap length stays.outputs, small.outputs) in
          grown_then none (bounded (few_pairs mid v stays.whole few_rows few_outputs)) (omega (arith, one));
      entries = λ unchanged. let same = entries unchanged in (same.0, same.1 ∙ ap (map shown) stays.rows);
    }

-- room alone
pub room_leads : {start mid : Indexes} {v : Version} {n : ℕ} {changed : Bool} → IsWhole start v → GrownBy 0 start mid → Keeps start mid → Leads (worked start v n changed) (worked mid v n changed)
room_leads {v = v} whole none kept =
    let stays = kept v whole in
    record {
      counted = omega arith;
      rows = omega (arith, ap length stays.rows);
      outputs = omega (arith, ap length stays.outputs);
      keeps = kept;
      more = (0, none);
      grown = λ small. grown_more none (omega arith);
      entries = λ unchanged. (unchanged, ap (map shown) stays.rows);
    }
