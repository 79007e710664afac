-- Versions below the marks, where the arenas are cut back to these.
use Rattle.std.proofs.Common.{◌≡◌, ℕ, ◌≤◌, List, length, take, Option, refl, ap, ◌∙◌}
use Rattle.std.specs.declared.cmp.Ordering.{Ordering}
use Rattle.dmn_bytes.specs.declared.hash.Hash256.{Hash256}
use Rattle.dmn_rows.specs.declared.row.MnRow.{MnRow}
use Rattle.dmn_versions.specs.declared.node.Node.{Node}
use Rattle.dmn_versions.specs.declared.node.Root.{Root}
use Rattle.dmn_versions.specs.Trees.{pairs, Grows, Cuts}
use Rattle.dmn_versions.proofs.Change.{sound_cut}
use Rattle.dmn_indexes.specs.declared.indexes.Indexes.{Indexes}
use Rattle.dmn_indexes.specs.declared.version.Version.{Version}
use Rattle.dmn_indexes.specs.Marks.{marks_of, IsBelow, Cut, KeepsBelow, SameNodes}
use Rattle.dmn_indexes.specs.Version.{values, outputs_of, IsIndex, Holds, IsWhole, GrownBy}
use Rattle.dmn_indexes.proofs.Whole.{whole_of}

index_cut : {K : Type 0} {cmp : K → K → Ordering} {key : MnRow → Option K} {mark : ℕ} {xs ys : List (Node K Hash256)} {root : Root} {rows : List MnRow} → Cuts mark xs ys → root.0 ≤ mark → IsIndex cmp key xs root rows → IsIndex cmp key ys root rows
index_cut {root = root} c low i = record { sound = sound_cut c low i.sound; reads = ap pairs (c.older root.0 low i.sound.named) ∙ i.reads }

holds_cut : {marks : List ℕ} {old new : Indexes} {v : Version} {rows : List MnRow} → Cut marks old new → IsBelow marks v → Holds old v rows → Holds new v rows
holds_cut {v = v} c below h = record {
  sound = sound_cut c.rows below.rows h.sound;
  reads = ap pairs (c.rows.older v.rows.0 below.rows h.sound.named) ∙ h.reads;
  distinct = h.distinct;
  owner = index_cut c.owner below.owner h.owner;
  operator = index_cut c.operator below.operator h.operator;
  service = index_cut c.service below.service h.service;
  collateral = index_cut c.collateral below.collateral h.collateral;
  payment = index_cut c.payment below.payment h.payment;
  unconfirmed = index_cut c.unconfirmed below.unconfirmed h.unconfirmed;
  outputs = sound_cut c.outputs below.outputs h.outputs;
}

pub cut_keeps : {marks : List ℕ} {old new : Indexes} → Cut marks old new → KeepsBelow marks old new
cut_keeps c = λ v whole below. record {
  whole = whole_of (holds_cut c below whole);
  rows = ap (λ t. values (pairs t)) (c.rows.older v.rows.0 below.rows whole.sound.named);
  outputs = ap (λ t. outputs_of (pairs t)) (c.outputs.older v.outputs.0 below.outputs whole.outputs.named);
}

-- a whole version lies below the marks of its moment
pub whole_below : (ix : Indexes) (v : Version) → IsWhole ix v → IsBelow (marks_of ix) v
whole_below ix v h = record {
  rows = h.sound.named;
  owner = h.owner.sound.named;
  operator = h.operator.sound.named;
  service = h.service.sound.named;
  collateral = h.collateral.sound.named;
  payment = h.payment.sound.named;
  unconfirmed = h.unconfirmed.sound.named;
  outputs = h.outputs.named;
}

back : {K V : Type 0} {by mark : ℕ} {xs ys zs : List (Node K V)} → mark ≡ length xs → Grows by xs ys → Cuts mark ys zs → zs ≡ xs
back {xs = xs} {ys = ys} e g c = c.nodes ∙ ap (λ n. take n ys) e ∙ g.kept

-- arenas that grew and were cut back have the nodes of before
pub cut_back : {by : ℕ} (old : Indexes) {mid new : Indexes} → GrownBy by old mid → Cut (marks_of old) mid new → SameNodes old new
cut_back old g c = record {
  rows = back refl g.rows c.rows;
  owner = back refl g.owner c.owner;
  operator = back refl g.operator c.operator;
  service = back refl g.service c.service;
  collateral = back refl g.collateral c.collateral;
  payment = back refl g.payment c.payment;
  unconfirmed = back refl g.unconfirmed c.unconfirmed;
  outputs = back refl g.outputs c.outputs;
}
