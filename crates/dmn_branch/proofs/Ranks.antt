-- Rows one after another, by their ranks.
use Rattle.std.proofs.Common.{◌≡◌, ℕ, zero, suc, ◌+◌, ◌<◌, List, [], ◌∷◌, ◌++◌, length, take, drop, filter, map, Some, None, refl, ap, ◌∙◌, arith, add-one}
use Rattle.std.specs.Prelude.{slice_get}
use Rattle.std.specs.Option.{unwrap_or}
use Rattle.std.proofs.lemmas.List.{map-append}
use Rattle.std.proofs.lemmas.List.Elements.{filter-append}
use Rattle.dmn_bytes.specs.declared.hash.Hash256.{Hash256}
use Rattle.dmn_quorums.specs.Score.{candidate_of, candidates, may_serve}
use Rattle.dmn_rows.specs.declared.row.MnRow.{MnRow}
use Rattle.dmn_sml.specs.Defs.{leaf, simple}
use Rattle.dmn_sml.specs.Entry.{entry_of}

pub none_left : {X : Type 0} (xs : List X) (n : ℕ) → slice_get xs n ≡ None → drop n xs ≡ []
none_left [] zero none = refl
none_left [] (suc n) none = refl
none_left (x ∷ xs) zero none = cc
none_left (x ∷ xs) (suc n) none = none_left xs n none

pub some_left : {X : Type 0} (xs : List X) (n : ℕ) (x : X) → slice_get xs n ≡ Some x → drop n xs ≡ x ∷ drop (n + 1) xs
some_left xs n x some = rw (add-one n) (go xs n x some)
  where
    go : {X : Type 0} (xs : List X) (n : ℕ) (x : X) → slice_get xs n ≡ Some x → drop n xs ≡ x ∷ drop (suc n) xs
    go [] n x some = cc
    go (y ∷ xs) zero x some = ap (λ z. z ∷ xs) (ap (λ o. unwrap_or o x) some)
    go (y ∷ xs) (suc n) x some = go xs n x some

pub one_more : {X : Type 0} (xs : List X) (n : ℕ) (x : X) → slice_get xs n ≡ Some x → take (n + 1) xs ≡ take n xs ++ x ∷ []
one_more xs n x some = rw (add-one n) (go xs n x some)
  where
    go : {X : Type 0} (xs : List X) (n : ℕ) (x : X) → slice_get xs n ≡ Some x → take (suc n) xs ≡ take n xs ++ x ∷ []
    go [] n x some = cc
    go (y ∷ xs) zero x some = ap (λ z. z ∷ []) (ap (λ o. unwrap_or o x) some)
    go (y ∷ xs) (suc n) x some = ap (λ zs. y ∷ zs) (go xs n x some)

pub within : {X : Type 0} (xs : List X) (n : ℕ) (x : X) → slice_get xs n ≡ Some x → n < length xs
within [] n x some = cc
within (y ∷ xs) zero x some = omega arith
within (y ∷ xs) (suc n) x some = omega (arith, within xs n x some)

-- the leaves of one row more
pub leaves_more : (rows : List MnRow) (n : ℕ) (row : MnRow) → slice_get rows n ≡ Some row → map leaf (simple (take (n + 1) rows)) ≡ map leaf (simple (take n rows)) ++ leaf (entry_of row) ∷ []
leaves_more rows n row some = ap (λ (l : List MnRow). map leaf (simple l)) (one_more rows n row some) ∙ ap (map leaf) (map-append entry_of (take n rows) (row ∷ [])) ∙ map-append leaf (simple (take n rows)) (entry_of row ∷ [])

-- the candidates of one row more
pub candidates_more : (rows : List MnRow) (n : ℕ) (row : MnRow) (modifier : Hash256) → slice_get rows n ≡ Some row → candidates (take (n + 1) rows) modifier ≡ candidates (take n rows) modifier ++ candidates (row ∷ []) modifier
candidates_more rows n row modifier some =
    ap (λ (l : List MnRow). candidates l modifier) (one_more rows n row some)
    ∙ ap (map (λ (r : MnRow). candidate_of modifier r.hash r.confirmed)) (filter-append may_serve (take n rows) (row ∷ []))
    ∙ map-append (λ (r : MnRow). candidate_of modifier r.hash r.confirmed) (filter may_serve (take n rows)) (filter may_serve (row ∷ []))
