-- An ordered set of the ids that were seen.
use Rattle.std.proofs.Common.{◌≡◌, ℕ, ◌+◌, ◌<◌, Bool, true, false, cond, List, [], ◌∷◌, length, get_or, take, refl, sym, ◌∙◌}
use Rattle.std.specs.Prelude.{◌||◌, not}
use Rattle.std.specs.List.{list_any}
use Rattle.std.specs.Str.{bytes_eq}
use Rattle.std.specs.BTreeSet as tree
use Rattle.std.specs.BTreeSet.{BTreeSet}
use Rattle.std.proofs.lemmas.List.{take_more}
use Rattle.std.proofs.lemmas.List.Folds.{list_any-append}
use Rattle.std.proofs.lemmas.Map.Text.{is_eq-slice_cmp}
use Rattle.dmn_bytes.specs.declared.hash.Hash256.{Hash256}
use Rattle.dmn_bytes.specs.Points.{hash_cmp}
use Rattle.dmn_block.specs.Shape.{stands_earlier}
use Rattle.dmn_block.proofs.Rules.{passes_at}

-- the set has exactly these ids
abbrev pub HasSeen : BTreeSet Hash256 → List Hash256 → Type 0
HasSeen seen ids = (q : Hash256) → tree.contains hash_cmp seen q ≡ list_any (λ (earlier : Hash256). bytes_eq earlier.0 q.0) ids

pub seen_before : (ids : List Hash256) (i : ℕ) (d : Hash256) (seen : BTreeSet Hash256) (b : Bool) → i < length ids → HasSeen seen (take i ids) → tree.contains hash_cmp seen (get_or ids i d) ≡ b → stands_earlier ids i ≡ b
seen_before ids i d seen b lt has is =
    passes_at (λ (id : Hash256). list_any (λ (earlier : Hash256). bytes_eq earlier.0 id.0) (take i ids)) ids i d lt ∙ sym (has (get_or ids i d)) ∙ is

cond_or : (b a : Bool) → cond b true a ≡ (a || (b || false))
cond_or true true = refl
cond_or true false = refl
cond_or false true = refl
cond_or false false = refl

pub seen_more : (ids : List Hash256) (i : ℕ) (d : Hash256) (seen new : BTreeSet Hash256) → i < length ids → HasSeen seen (take i ids) → tree.Updates hash_cmp seen new (get_or ids i d) true → HasSeen new (take (i + 1) ids)
seen_more ids i d seen new lt has up q =
    let id = get_or ids i d in
    let test = λ (earlier : Hash256). bytes_eq earlier.0 q.0 in
    up.0 q ∙ rw (take_more ids i d lt, list_any-append test (take i ids) (id ∷ []), has q, is_eq-slice_cmp id.0 q.0) (cond_or (bytes_eq id.0 q.0) (list_any test (take i ids)))

pub not_true : (a b : Bool) → b ≡ not a → b ≡ true → a ≡ false
not_true true b e is = absurd cc
not_true false b e is = refl

pub not_false : (a b : Bool) → b ≡ not a → b ≡ false → a ≡ true
not_false true b e is = refl
not_false false b e is = absurd cc
