-- Hashes are keys of rows, outpoints of outputs, and the places of transactions of verdicts.
use Rattle.std.specs.Prelude.{◌≡◌, ℕ, ◌==◌, true, List, refl}
use Rattle.std.specs.Cmp.{IsTotalOrder}
use Rattle.std.specs.Cmp.Lexicographic.{on_texts}
use Rattle.std.specs.Ordering.{nat_cmp}
use Rattle.std.specs.declared.cmp.Ordering.{Ordering}
use Rattle.std.specs.declared.cmp.Ordering.TheVariants.{Less, Equal, Greater}
use Rattle.std.proofs.Common.{sym, ap, ◌∙◌}
use Rattle.std.proofs.lemmas.Bool.{and_parts, and_from, eqb-true, eq-eqb}
use Rattle.std.proofs.lemmas.Cmp.{nat_cmp_total, on_total, then_total}
use Rattle.std.proofs.lemmas.Map.Lookups.{CmpEqualImpliesEq, exact_bytes, exact_unsigned}
use Rattle.std.proofs.lemmas.Slice.Eq.{bytes_eq-Decides}
use Rattle.dmn_bytes.specs.Points.{hash_cmp, point_cmp}
use Rattle.dmn_bytes.specs.declared.hash.Hash256.{Hash256}
use Rattle.dmn_bytes.specs.declared.points.OutPoint.{OutPoint}
use Rattle.dmn_rows.specs.declared.row.MnRow.{MnRow}
use Rattle.dmn_rows.specs.declared.start.StartOutput.{StartOutput}
use Rattle.dmn_rows.specs.declared.verdict.Verdict.{Verdict}
use Rattle.dmn_rows.specs.Rows.{same_hash, same_point, has_hash, has_point}
use Rattle.dmn_rows.specs.Sorted.{IsKey}

pub same_hash-is : (a b : Hash256) → same_hash a b ≡ true → a ≡ b
same_hash-is a b same = ap (λ (bytes : List ℕ). record { 0 = bytes }) ((bytes_eq-Decides a.0 b.0).0 same)

pub same_hash-from : (a b : Hash256) → a ≡ b → same_hash a b ≡ true
same_hash-from a b is = (bytes_eq-Decides a.0 b.0).1 (ap (λ (h : Hash256). h.0) is)

pub same_point-is : (a b : OutPoint) → same_point a b ≡ true → a ≡ b
same_point-is a b same =
    let parts = and_parts (same_hash a.hash b.hash) (a.index == b.index) same in
    let hash : a.hash ≡ b.hash = same_hash-is a.hash b.hash parts.0 in
    let index : a.index ≡ b.index = eqb-true _ _ parts.1 in
    ap (λ (h : Hash256). record { hash = h; index = a.index }) hash ∙ ap (λ (n : ℕ). record { hash = b.hash; index = n }) index

pub same_point-from : (a b : OutPoint) → a ≡ b → same_point a b ≡ true
same_point-from a b is = and_from (same_hash a.hash b.hash) (a.index == b.index) (same_hash-from a.hash b.hash (ap (λ (p : OutPoint). p.hash) is)) (eq-eqb _ _ (ap (λ (p : OutPoint). p.index) is))

pub hash_cmp_total : IsTotalOrder hash_cmp
hash_cmp_total = on_texts (λ (h : Hash256). h.0)

point_cmp_total : IsTotalOrder point_cmp
point_cmp_total = then_total (on_total (λ (p : OutPoint). p.hash) hash_cmp_total) (on_total (λ (p : OutPoint). p.index) nat_cmp_total)

pub hash_exact : CmpEqualImpliesEq hash_cmp
hash_exact a b is = ap (λ (bytes : List ℕ). record { 0 = bytes }) (exact_bytes a.0 b.0 is)

point_exact : CmpEqualImpliesEq point_cmp
point_exact a b is = go (hash_cmp a.hash b.hash) refl
  where
    go : (o : Ordering) → hash_cmp a.hash b.hash ≡ o → a ≡ b
    go Less e = let no : point_cmp a b ≡ Less = rw e refl in cc
    go Equal e =
        let hash : a.hash ≡ b.hash = hash_exact a.hash b.hash e in
        let tie : point_cmp a b ≡ nat_cmp a.index b.index = rw e refl in
        let index : a.index ≡ b.index = exact_unsigned a.index b.index (sym tie ∙ is) in
        ap (λ (h : Hash256). record { hash = h; index = a.index }) hash ∙ ap (λ (n : ℕ). record { hash = b.hash; index = n }) index
    go Greater e = let no : point_cmp a b ≡ Greater = rw e refl in cc

-- rows by hash
pub row_key : IsKey hash_cmp (λ (r : MnRow). r.hash) has_hash
row_key = record {
  total = hash_cmp_total;
  exact = hash_exact;
  decides = λ hash r same. same_hash-is r.hash hash same;
  decided = λ hash r is. same_hash-from r.hash hash is;
}

-- outputs by outpoint
pub output_key : IsKey point_cmp (λ (o : StartOutput). o.point) has_point
output_key = record {
  total = point_cmp_total;
  exact = point_exact;
  decides = λ point o same. same_point-is o.point point same;
  decided = λ point o is. same_point-from o.point point is;
}

-- verdicts by the places of their transactions
pub verdict_key : IsKey nat_cmp (λ (v : Verdict). v.tx) (λ place v. v.tx == place)
verdict_key = record {
  total = nat_cmp_total;
  exact = exact_unsigned;
  decides = λ place v same. eqb-true v.tx place same;
  decided = λ place v is. eq-eqb v.tx place is;
}
