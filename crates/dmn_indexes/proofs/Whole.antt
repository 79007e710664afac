-- Versions that are kept, and versions that an event makes.
use Rattle.std.proofs.Common.{◌≡◌, ℕ, ◌+◌, ◌≤◌, Bool, true, false, cond, T, List, [], ◌∷◌, map, length, find, Option, Some, None, refl, sym, ap, ◌∙◌, subst, arith}
use Rattle.std.specs.Prelude.{is_some}
use Rattle.std.specs.Option.{option_map, option_and_then}
use Rattle.std.specs.FinMap.{put, is_sorted}
use Rattle.std.specs.FinMap.Entries as entries
use Rattle.std.specs.declared.cmp.Ordering.{Ordering}
use Rattle.dmn_bytes.specs.Points.{hash_cmp, point_cmp}
use Rattle.dmn_bytes.specs.declared.hash.Hash256.{Hash256}
use Rattle.dmn_bytes.specs.declared.points.OutPoint.{OutPoint}
use Rattle.dmn_bytes.specs.declared.points.Pay.{Pay}
use Rattle.dmn_rows.specs.declared.row.MnRow.{MnRow}
use Rattle.dmn_rows.specs.declared.start.StartOutput.{StartOutput}
use Rattle.dmn_rows.specs.Distinct.{HasDistinctKeys}
use Rattle.dmn_rows.specs.Keys.{row_key, output_key}
use Rattle.dmn_rows.specs.Listing.{IsAscending, OutputsAscend}
use Rattle.dmn_rows.specs.Rows.{Outputs, has_hash, has_point, hash_where, put_row, drop_row, put_output, drop_output}
use Rattle.dmn_rows.specs.Sorted.{put_sorted}
use Rattle.dmn_versions.specs.declared.node.Node.{Node}
use Rattle.dmn_versions.specs.declared.node.Root.{Root}
use Rattle.dmn_versions.specs.Laws.{KeyLaws}
use Rattle.dmn_versions.specs.Trees.{tree_at, pairs, height_of, IsSound, Grows, Makes, reads, without}
use Rattle.dmn_versions.proofs.Bounds.{low_few}
use Rattle.dmn_versions.proofs.Grow.{sound_kept, grows_more, grows_then, grows_none}
use Rattle.dmn_indexes.specs.declared.indexes.Indexes.{Indexes}
use Rattle.dmn_indexes.specs.declared.version.Version.{Version}
use Rattle.dmn_indexes.specs.Index.{put_key, drop_key, index_of, IsRowKey}
use Rattle.dmn_indexes.specs.Version.{values, by_hash, outputs_of, rows_in, IsIndex, Holds, IsWhole, Stays, Keeps, Grown, GrownBy, HasFewPairs, event_nodes, few}
use Rattle.dmn_indexes.proofs.Index.{row_in, index-put, index-drop, find-index}
use Rattle.dmn_indexes.proofs.Table.{find-by_key, without-by_key, ascends-by_key, put-by_key}

pub values-by_hash : (rows : List MnRow) → values (by_hash rows) ≡ rows
values-by_hash [] = refl
values-by_hash (r ∷ rows) = ap (λ (l : List MnRow). r ∷ l) (values-by_hash rows)

pub same_map : {A : Type 0} (o : Option A) → option_map (λ x. x) o ≡ o
same_map None = refl
same_map (Some x) = refl

-- ---- the rows that a version holds

pub rows_held : {ix : Indexes} {v : Version} {rows : List MnRow} → Holds ix v rows → rows_in ix v ≡ rows
rows_held {rows = rows} h = ap values h.reads ∙ values-by_hash rows

pub whole_of : {ix : Indexes} {v : Version} {rows : List MnRow} → Holds ix v rows → IsWhole ix v
whole_of {ix = ix} {v = v} h = subst (Holds ix v) (sym (rows_held h)) h

pub rows_ascend : {ix : Indexes} {v : Version} {rows : List MnRow} → Holds ix v rows → IsAscending rows
rows_ascend {rows = rows} h = ascends-by_key hash_cmp (λ (r : MnRow). r.hash) has_hash row_key (λ r. r) rows (subst (λ ps. T (is_sorted hash_cmp ps)) h.reads h.sound.ascending)

-- ---- versions of before

pub index_kept : {K : Type 0} {cmp : K → K → Ordering} {key : MnRow → Option K} {by : ℕ} {xs ys : List (Node K Hash256)} {root : Root} {rows : List MnRow} → Grows by xs ys → IsIndex cmp key xs root rows → IsIndex cmp key ys root rows
index_kept {root = root} g i = record { sound = sound_kept g i.sound; reads = ap pairs (g.older root.0 i.sound.named) ∙ i.reads }

holds_kept : {by : ℕ} {old new : Indexes} {v : Version} {rows : List MnRow} → GrownBy by old new → Holds old v rows → Holds new v rows
holds_kept {v = v} g h = record {
  sound = sound_kept g.rows h.sound;
  reads = ap pairs (g.rows.older v.rows.0 h.sound.named) ∙ h.reads;
  distinct = h.distinct;
  owner = index_kept g.owner h.owner;
  operator = index_kept g.operator h.operator;
  service = index_kept g.service h.service;
  collateral = index_kept g.collateral h.collateral;
  payment = index_kept g.payment h.payment;
  unconfirmed = index_kept g.unconfirmed h.unconfirmed;
  outputs = sound_kept g.outputs h.outputs;
}

-- arenas that grow keep every version
pub grown_keeps : {by : ℕ} {old new : Indexes} → GrownBy by old new → Keeps old new
grown_keeps g = λ v whole. record {
  whole = whole_of (holds_kept g whole);
  rows = ap (λ t. values (pairs t)) (g.rows.older v.rows.0 whole.sound.named);
  outputs = ap (λ t. outputs_of (pairs t)) (g.outputs.older v.outputs.0 whole.outputs.named);
}

loose : {K V : Type 0} {by : ℕ} {xs ys : List (Node K V)} → Grows by xs ys → Grows (length ys) xs ys
loose g = record { kept = g.kept; few = omega arith; older = g.older }

-- a bound for all arenas
pub grown_bound : {old new : Indexes} {w : Version} → Grown old w new → (n : ℕ) × GrownBy n old new
grown_bound {new = new} g =
    let n = length new.rows.nodes.items + length new.owner.nodes.items + length new.operator.nodes.items + length new.service.nodes.items + length new.collateral.nodes.items + length new.payment.nodes.items + length new.unconfirmed.nodes.items + length new.outputs.nodes.items in (
      n,
      record {
        rows = grows_more (loose g.rows) (omega arith);
        owner = grows_more (loose g.owner) (omega arith);
        operator = grows_more (loose g.operator) (omega arith);
        service = grows_more (loose g.service) (omega arith);
        collateral = grows_more (loose g.collateral) (omega arith);
        payment = grows_more (loose g.payment) (omega arith);
        unconfirmed = grows_more (loose g.unconfirmed) (omega arith);
        outputs = grows_more (loose g.outputs) (omega arith);
      },
    )

pub kept_by : {old new : Indexes} {w : Version} → Grown old w new → Keeps old new
kept_by g = grown_keeps (grown_bound g).1

pub grown_then : {a b n : ℕ} {x y z : Indexes} → GrownBy a x y → GrownBy b y z → a + b ≤ n → GrownBy n x z
grown_then f g h = record {
  rows = grows_then f.rows g.rows h;
  owner = grows_then f.owner g.owner h;
  operator = grows_then f.operator g.operator h;
  service = grows_then f.service g.service h;
  collateral = grows_then f.collateral g.collateral h;
  payment = grows_then f.payment g.payment h;
  unconfirmed = grows_then f.unconfirmed g.unconfirmed h;
  outputs = grows_then f.outputs g.outputs h;
}

pub grown_more : {a n : ℕ} {x y : Indexes} → GrownBy a x y → a ≤ n → GrownBy n x y
grown_more g h = record {
  rows = grows_more g.rows h;
  owner = grows_more g.owner h;
  operator = grows_more g.operator h;
  service = grows_more g.service h;
  collateral = grows_more g.collateral h;
  payment = grows_more g.payment h;
  unconfirmed = grows_more g.unconfirmed h;
  outputs = grows_more g.outputs h;
}

pub grown_none : (x : Indexes) → GrownBy 0 x x
grown_none x = record {
  rows = grows_none x.rows.nodes.items;
  owner = grows_none x.owner.nodes.items;
  operator = grows_none x.operator.nodes.items;
  service = grows_none x.service.nodes.items;
  collateral = grows_none x.collateral.nodes.items;
  payment = grows_none x.payment.nodes.items;
  unconfirmed = grows_none x.unconfirmed.nodes.items;
  outputs = grows_none x.outputs.nodes.items;
}

pub stays_then : {x y z : Indexes} {v : Version} → Stays x y v → Stays y z v → Stays x z v
stays_then f g = record { whole = g.whole; rows = g.rows ∙ f.rows; outputs = g.outputs ∙ f.outputs }

pub keeps_then : {x y z : Indexes} → Keeps x y → Keeps y z → Keeps x z
keeps_then f g = λ v whole. let one = f v whole in stays_then one (g v one.whole)

-- ---- how many nodes an event adds

low_event : {K V : Type 0} {cmp : K → K → Ordering} {nodes : List (Node K V)} {root : ℕ} → IsSound cmp nodes root → length (pairs (tree_at nodes root)) ≤ few → event_nodes (height_of (tree_at nodes root)) ≤ 232
low_event {nodes = nodes} {root = root} s h = let low : height_of (tree_at nodes root) ≤ 28 = low_few (tree_at nodes root) s.shaped h in omega arith

pub bounded_by : {old new : Indexes} {v : Version} → IsWhole old v → HasFewPairs old v → Grown old v new → GrownBy 232 old new
bounded_by w h g = record {
  rows = grows_more g.rows (low_event w.sound h.rows);
  owner = grows_more g.owner (low_event w.owner.sound h.owner);
  operator = grows_more g.operator (low_event w.operator.sound h.operator);
  service = grows_more g.service (low_event w.service.sound h.service);
  collateral = grows_more g.collateral (low_event w.collateral.sound h.collateral);
  payment = grows_more g.payment (low_event w.payment.sound h.payment);
  unconfirmed = grows_more g.unconfirmed (low_event w.unconfirmed.sound h.unconfirmed);
  outputs = grows_more g.outputs (low_event w.outputs h.outputs);
}

-- ---- a row is put

pub row_found : {ix : Indexes} {v : Version} {rows : List MnRow} (hash : Hash256) → Holds ix v rows → entries.find hash_cmp hash (reads ix.rows v.rows) ≡ row_in hash rows
row_found {rows = rows} hash h = ap (entries.find hash_cmp hash) h.reads ∙ find-by_key hash_cmp (λ (r : MnRow). r.hash) has_hash row_key (λ r. r) hash rows ∙ same_map (find (has_hash hash) rows)

pub rows_put : {ix : Indexes} {v : Version} {rows : List MnRow} (row : MnRow) → Holds ix v rows → put hash_cmp row.hash row (reads ix.rows v.rows) ≡ by_hash (put_row row rows)
rows_put {rows = rows} row h = ap (put hash_cmp row.hash row) h.reads ∙ put-by_key hash_cmp (λ (r : MnRow). r.hash) has_hash row_key (λ r. r) row rows (rows_ascend h)

pub rows_dropped : {ix : Indexes} {v : Version} {rows : List MnRow} (hash : Hash256) → Holds ix v rows → without hash_cmp hash (reads ix.rows v.rows) ≡ by_hash (drop_row hash rows)
rows_dropped {rows = rows} hash h = ap (without hash_cmp hash) h.reads ∙ without-by_key hash_cmp (λ (r : MnRow). r.hash) has_hash row_key (λ r. r) hash rows

module _ {K : Type 0} {cmp : K → K → Ordering} (laws : KeyLaws cmp) {key : MnRow → Option K} {has : K → MnRow → Bool} (is : IsRowKey cmp key has) where
  pub index_put : {by : ℕ} {xs ys : List (Node K Hash256)} {root next : Root} {before : Option MnRow} {rows : List MnRow} (row : MnRow) → IsAscending rows → HasDistinctKeys rows → HasDistinctKeys (put_row row rows) → before ≡ row_in row.hash rows → IsIndex cmp key xs root rows
      → Makes cmp by xs ys next.0 (put_key cmp (key row) row.hash (drop_key cmp (option_and_then key before) (pairs (tree_at xs root.0)))) → IsIndex cmp key ys next (put_row row rows)
  index_put {before = before} {rows = rows} row ascending old new found i m = record {
    sound = m.sound;
    reads = m.reads
        ∙ ap (λ ps. put_key cmp (key row) row.hash (drop_key cmp (option_and_then key before) ps)) i.reads
        ∙ ap (λ o. put_key cmp (key row) row.hash (drop_key cmp (option_and_then key o) (index_of cmp key rows))) found
        ∙ index-put cmp laws key row rows ascending (is.apart rows old) (is.apart (put_row row rows) new);
  }

  pub index_dropped : {by : ℕ} {xs ys : List (Node K Hash256)} {root next : Root} {before : Option MnRow} {rows : List MnRow} (hash : Hash256) → IsAscending rows → HasDistinctKeys rows → before ≡ row_in hash rows → IsIndex cmp key xs root rows
      → Makes cmp by xs ys next.0 (drop_key cmp (option_and_then key before) (pairs (tree_at xs root.0))) → IsIndex cmp key ys next (drop_row hash rows)
  index_dropped {before = before} {rows = rows} hash ascending old found i m = record {
    sound = m.sound;
    reads = m.reads
        ∙ ap (λ ps. drop_key cmp (option_and_then key before) ps) i.reads
        ∙ ap (λ o. drop_key cmp (option_and_then key o) (index_of cmp key rows)) found
        ∙ index-drop cmp laws key hash rows ascending (is.apart rows old);
  }

  pub index_found : {nodes : List (Node K Hash256)} {root : Root} {rows : List MnRow} (k : K) → IsIndex cmp key nodes root rows → entries.find cmp k (pairs (tree_at nodes root.0)) ≡ hash_where (has k) rows
  index_found {rows = rows} k i = ap (entries.find cmp k) i.reads ∙ find-index cmp laws key has is k rows

-- ---- outputs

pub pairs-outputs_of : (ps : List (OutPoint × Pay)) → map (λ (o : StartOutput). (o.point, o.pay)) (outputs_of ps) ≡ ps
pairs-outputs_of [] = refl
pairs-outputs_of (p ∷ ps) = ap (λ (l : List (OutPoint × Pay)). p ∷ l) (pairs-outputs_of ps)

pub outputs_of-pairs : (outputs : Outputs) → outputs_of (map (λ (o : StartOutput). (o.point, o.pay)) outputs) ≡ outputs
outputs_of-pairs [] = refl
outputs_of-pairs (o ∷ outputs) = ap (λ (l : Outputs). o ∷ l) (outputs_of-pairs outputs)

pub outputs_ascend : (ps : List (OutPoint × Pay)) → T (is_sorted point_cmp ps) → OutputsAscend (outputs_of ps)
outputs_ascend ps s = ascends-by_key point_cmp (λ (o : StartOutput). o.point) has_point output_key (λ o. o.pay) (outputs_of ps) (subst (λ qs. T (is_sorted point_cmp qs)) (sym (pairs-outputs_of ps)) s)

pub output_found : (point : OutPoint) (ps : List (OutPoint × Pay)) → entries.find point_cmp point ps ≡ option_map (λ (o : StartOutput). o.pay) (find (has_point point) (outputs_of ps))
output_found point ps = ap (entries.find point_cmp point) (sym (pairs-outputs_of ps)) ∙ find-by_key point_cmp (λ (o : StartOutput). o.point) has_point output_key (λ o. o.pay) point (outputs_of ps)

pub outputs_put : (point : OutPoint) (pays : Pay) (ps : List (OutPoint × Pay)) → T (is_sorted point_cmp ps) → outputs_of (put point_cmp point pays ps) ≡ put_sorted point_cmp (λ (o : StartOutput). o.point) (record { point = point; pay = pays }) (outputs_of ps)
outputs_put point pays ps s =
    ap (λ qs. outputs_of (put point_cmp point pays qs)) (sym (pairs-outputs_of ps))
    ∙ ap outputs_of (put-by_key point_cmp (λ (o : StartOutput). o.point) has_point output_key (λ o. o.pay) (record { point = point; pay = pays }) (outputs_of ps) (outputs_ascend ps s))
    ∙ outputs_of-pairs (put_sorted point_cmp (λ (o : StartOutput). o.point) (record { point = point; pay = pays }) (outputs_of ps))

pub outputs_dropped : (point : OutPoint) (ps : List (OutPoint × Pay)) → outputs_of (without point_cmp point ps) ≡ drop_output point (outputs_of ps)
outputs_dropped point ps =
    ap (λ qs. outputs_of (without point_cmp point qs)) (sym (pairs-outputs_of ps))
    ∙ ap outputs_of (without-by_key point_cmp (λ (o : StartOutput). o.point) has_point output_key (λ o. o.pay) point (outputs_of ps))
    ∙ outputs_of-pairs (drop_output point (outputs_of ps))

is_some-map : {A B : Type 0} (f : A → B) (o : Option A) → is_some (option_map f o) ≡ is_some o
is_some-map f None = refl
is_some-map f (Some x) = refl

output_there : (point : OutPoint) (ps : List (OutPoint × Pay)) → is_some (find (has_point point) (outputs_of ps)) ≡ is_some (entries.find point_cmp point ps)
output_there point ps = sym (ap is_some (output_found point ps) ∙ is_some-map (λ (o : StartOutput). o.pay) (find (has_point point) (outputs_of ps)))

-- an output that is there stays, and another one is put
pub output_stays : (point : OutPoint) (pays : Pay) (ps : List (OutPoint × Pay)) → is_some (entries.find point_cmp point ps) ≡ true → outputs_of ps ≡ put_output point pays (outputs_of ps)
output_stays point pays ps there =
    sym (ap (λ b. cond b (outputs_of ps) (put_sorted point_cmp (λ (o : StartOutput). o.point) (record { point = point; pay = pays }) (outputs_of ps))) (output_there point ps ∙ there))

pub output_added : (point : OutPoint) (pays : Pay) (ps : List (OutPoint × Pay)) → T (is_sorted point_cmp ps) → is_some (entries.find point_cmp point ps) ≡ false → outputs_of (put point_cmp point pays ps) ≡ put_output point pays (outputs_of ps)
output_added point pays ps s absent =
    outputs_put point pays ps s
    ∙ sym (ap (λ b. cond b (outputs_of ps) (put_sorted point_cmp (λ (o : StartOutput). o.point) (record { point = point; pay = pays }) (outputs_of ps))) (output_there point ps ∙ absent))
