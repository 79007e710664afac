-- That the orders of numbers, hashes and outpoints are total, and tell any two of them apart.
use Rattle.std.specs.Prelude.{◌≡◌, ℕ, List, refl}
use Rattle.std.specs.declared.cmp.Ordering.{Ordering}
use Rattle.std.specs.declared.cmp.Ordering.TheVariants.{Less, Equal, Greater}
use Rattle.std.specs.Ordering.{nat_cmp, on, then_cmp}
use Rattle.std.specs.Cmp.{IsTotalOrder, nat_cmp_total}
use Rattle.std.specs.Cmp.Lexicographic.{slice_cmp, on_texts}
use Rattle.std.proofs.Common.{sym, ap, ◌∙◌}
use Rattle.std.proofs.lemmas.Cmp.{on_total, then_total}
use Rattle.std.proofs.lemmas.Map.Lookups.{exact_bytes, exact_unsigned}
use Rattle.dmn_bytes.specs.Points.{hash_cmp, point_cmp}
use Rattle.dmn_bytes.specs.declared.hash.Hash256.{Hash256}
use Rattle.dmn_bytes.specs.declared.points.OutPoint.{OutPoint}

-- a total order that tells any two keys apart, as those of the product's own keys do
pub record KeyLaws {K : Type 0} (cmp : K → K → Ordering) : Type 0 where
  pub total : IsTotalOrder cmp
  -- only one key ties with a key
  pub exact : (x y : K) → cmp x y ≡ Equal → x ≡ y

-- keys of two parts, which are ordered by the first and then by the second
pub then_laws : {K A B : Type 0} (first : A → A → Ordering) (second : B → B → Ordering) (f : K → A) (g : K → B) → KeyLaws first → KeyLaws second → ((x y : K) → f x ≡ f y → g x ≡ g y → x ≡ y) → KeyLaws (then_cmp (on f first) (on g second))
then_laws first second f g one two same = record {
  total = then_total (on_total f one.total) (on_total g two.total);
  exact = λ x y tie. go x y tie (first (f x) (f y)) refl;
}
  where
    go : (x y : _) → then_cmp (on f first) (on g second) x y ≡ Equal → (o : Ordering) → first (f x) (f y) ≡ o → x ≡ y
    go x y tie Less e = let no : then_cmp (on f first) (on g second) x y ≡ Less = rw e refl in cc
    go x y tie Equal e =
        let rest : then_cmp (on f first) (on g second) x y ≡ second (g x) (g y) = rw e refl in
        same x y (one.exact (f x) (f y) e) (two.exact (g x) (g y) (sym rest ∙ tie))
    go x y tie Greater e = let no : then_cmp (on f first) (on g second) x y ≡ Greater = rw e refl in cc

pub number_laws : KeyLaws nat_cmp
number_laws = record { total = nat_cmp_total; exact = exact_unsigned }

-- bytes, by the first that differs
pub bytes_laws : KeyLaws (slice_cmp nat_cmp)
bytes_laws = record { total = on_texts (λ (b : List ℕ). b); exact = exact_bytes }

pub hash_laws : KeyLaws hash_cmp
hash_laws = record {
  total = on_texts (λ (h : Hash256). h.0);
  exact = λ a b tie. ap (λ (bytes : List ℕ). record { 0 = bytes }) (exact_bytes a.0 b.0 tie);
}

pub point_laws : KeyLaws point_cmp
point_laws = then_laws hash_cmp nat_cmp (λ (p : OutPoint). p.hash) (λ (p : OutPoint). p.index) hash_laws number_laws
    (λ x y hash index. ap (λ (h : Hash256). record { hash = h; index = x.index }) hash ∙ ap (λ (n : ℕ). record { hash = y.hash; index = n }) index)
