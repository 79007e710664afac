-- A proof of a coinbase, against the list that has its root.
use Rattle.std.proofs.Common.{◌≡◌, ℕ, zero, suc, ◌≤◌, List, [], ◌∷◌, ◌++◌, length, map, refl, sym, ap, subst, ◌∙◌, arith}
use Rattle.std.proofs.Math.Logic.{◌⊎◌, inl, inr}
use Rattle.std.specs.List.{Contains, AllByRecursion}
use Rattle.std.proofs.lemmas.List.Elements.{Contains-append_left, Contains-append_right}
use Rattle.dmn_bytes.specs.declared.hash.Hash256.{Hash256}
use Rattle.dmn_merkle.specs.Defs.{pair, zero_hash, above, merkle_root}
use Rattle.dmn_merkle.specs.Branch.{folded, siblings_by, siblings, CoinbaseProof}
use Rattle.dmn_client.specs.Collision.{Collision, ZeroText, digest, fold_texts, level_texts, root_texts_by, root_texts, HasHashLength, FirstIsLong, FirstOrFound, hashed_of_proof, hashed_of_list}
use Rattle.dmn_merkle.proofs.Levels.{root_of_none}
use Rattle.dmn_merkle.proofs.Branches.{folds}
use Rattle.dmn_merkle.proofs.Judged.{proof_folds}
use Rattle.dmn_client.proofs.Meet.{length_dsha, length_pair, at_head, behind, same_bottom, TopText, top_text}

pub above_length : (xs : List Hash256) → AllByRecursion HasHashLength (above xs)
above_length [] = tt
above_length (a ∷ []) = (length_pair a a, tt)
above_length (a ∷ b ∷ rest) = (length_pair a b, above_length rest)

siblings_length : (n : ℕ) (xs : List Hash256) → AllByRecursion HasHashLength xs → AllByRecursion HasHashLength (siblings_by n xs)
siblings_length n [] all = tt
siblings_length n (a ∷ []) all = tt
siblings_length zero (a ∷ b ∷ rest) all = tt
siblings_length (suc n) (a ∷ b ∷ rest) (la, (lb, all)) = (lb, siblings_length n (pair a b ∷ above rest) (length_pair a b, above_length rest))

pub digests_length : (list : List (List ℕ)) → AllByRecursion HasHashLength (map (λ text. digest text) list)
digests_length [] = tt
digests_length (t ∷ list) = (length_dsha t, digests_length list)

pub ids_siblings_length : (ids : List Hash256) → AllByRecursion HasHashLength ids → AllByRecursion HasHashLength (siblings ids)
unfolding siblings
ids_siblings_length ids all = siblings_length (length ids) ids all

first_or_later : (h x : List ℕ) (t : List (List ℕ)) → Contains (h ∷ t) x → (h ≡ x) ⊎ Contains t x
first_or_later h x t (zero, lt, e) = inl e
first_or_later h x t (suc k, lt, e) = inr (k, omega arith, e)

fold_in_root_by : (n : ℕ) (a : Hash256) (rest : List Hash256) (x : List ℕ) → Contains (fold_texts a (siblings_by n (a ∷ rest))) x → Contains (root_texts_by n (a ∷ rest)) x
fold_in_root_by n a [] x h = h
fold_in_root_by zero a (b ∷ rest) x h = h
fold_in_root_by (suc n) a (b ∷ rest) x h =
    both (a.0 ++ b.0) x (level_texts rest) (root_texts_by n (pair a b ∷ above rest)) (fold_texts (pair a b) (siblings_by n (pair a b ∷ above rest)))
    (fold_in_root_by n (pair a b) (above rest) x) (first_or_later (a.0 ++ b.0) x (fold_texts (pair a b) (siblings_by n (pair a b ∷ above rest))) h)
  where
    both : (t x : List ℕ) (level root fold : List (List ℕ)) → (Contains fold x → Contains root x) → (t ≡ x) ⊎ Contains fold x → Contains ((t ∷ level) ++ root) x
    both t x level root fold sub (inl e) = subst (λ (u : List ℕ). Contains ((t ∷ level) ++ root) u) e (at_head t (level ++ root))
    both t x level root fold sub (inr h) = Contains-append_right (t ∷ level) root x (sub h)

fold_in_root : (a : Hash256) (rest : List Hash256) (x : List ℕ) → Contains (fold_texts a (siblings (a ∷ rest))) x → Contains (root_texts (a ∷ rest)) x
unfolding siblings root_texts
fold_in_root a rest x h = fold_in_root_by (suc (length rest)) a rest x h

found : (list hashed : List (List ℕ)) (coinbase first : List ℕ) (rest : List (List ℕ)) → Collision hashed ⊎ (coinbase ≡ first) → FirstOrFound coinbase (first ∷ rest) hashed
found list hashed coinbase first rest (inl c) = inr (inl c)
found list hashed coinbase first rest (inr e) = inl e

-- with the siblings of the proof alone
sound : (ss : List Hash256) (coinbase : List ℕ) (list : List (List ℕ)) → folded (digest coinbase) ss ≡ merkle_root (map (λ text. digest text) list)
    → 90 ≤ length coinbase → FirstIsLong list → AllByRecursion HasHashLength ss
    → FirstOrFound coinbase list ((coinbase ∷ fold_texts (digest coinbase) ss) ++ hashed_of_list list)
sound [] coinbase [] e long first_long all =
    inr (inr (record { text = coinbase; has = at_head coinbase (hashed_of_list []); is_zero = ap (λ (h : Hash256). h.0) (e ∙ root_of_none) }))
sound (s ∷ ss) coinbase [] e long first_long all =
    let top : TopText (fold_texts (digest coinbase) (s ∷ ss)) (folded (digest coinbase) (s ∷ ss)) = top_text (digest coinbase) s ss (length_dsha coinbase) all in
    inr (inr (record {
      text = top.text;
      has = behind coinbase top.text (fold_texts (digest coinbase) (s ∷ ss) ++ hashed_of_list []) (Contains-append_left (fold_texts (digest coinbase) (s ∷ ss)) (hashed_of_list []) top.text top.has);
      is_zero = sym top.is ∙ ap (λ (h : Hash256). h.0) (e ∙ root_of_none);
    }))
sound ss coinbase (first ∷ rest) e long first_long all =
    let ids : List Hash256 = map (λ text. digest text) rest in
    let ts : List Hash256 = siblings (digest first ∷ ids) in
    let proof : List (List ℕ) = coinbase ∷ fold_texts (digest coinbase) ss in
    let block : List (List ℕ) = hashed_of_list (first ∷ rest) in
    found (first ∷ rest) (proof ++ block) coinbase first rest
    (same_bottom (proof ++ block) coinbase first ss ts (λ (h : length coinbase ≡ 64). (omega arith)) (λ (h : length first ≡ 64). (omega arith)) all
    (ids_siblings_length (digest first ∷ ids) (length_dsha first, digests_length rest))
    (at_head coinbase (fold_texts (digest coinbase) ss ++ block))
    (Contains-append_right proof block first (at_head first (rest ++ root_texts (digest first ∷ ids))))
    (λ t h. Contains-append_left proof block t (behind coinbase t (fold_texts (digest coinbase) ss) h))
    (λ t h. Contains-append_right proof block t (Contains-append_right (first ∷ rest) (root_texts (digest first ∷ ids)) t (fold_in_root (digest first) ids t h)))
    (e ∙ sym (folds (digest first) ids)))

pub sound_of : (total : ℕ) (hashes : List Hash256) (flags : List ℕ) (root : Hash256) (coinbase : List ℕ) (list : List (List ℕ))
    → CoinbaseProof total hashes flags (digest coinbase) root → root ≡ merkle_root (map (λ text. digest text) list)
    → 90 ≤ length coinbase → FirstIsLong list → AllByRecursion HasHashLength hashes
    → FirstOrFound coinbase list (hashed_of_proof coinbase hashes ++ hashed_of_list list)
sound_of total hashes flags root coinbase list proof e long first_long all =
    let parts = proof_folds total hashes flags (digest coinbase) root proof in
    let rest : List Hash256 = parts.0 in
    let is : hashes ≡ digest coinbase ∷ rest = parts.1 in
    let folds_to : root ≡ folded (digest coinbase) rest = parts.2 in
    let all_rest : HasHashLength (digest coinbase) × AllByRecursion HasHashLength rest = subst (λ (hs : List Hash256). AllByRecursion HasHashLength hs) is all in
    subst (λ (hs : List Hash256). FirstOrFound coinbase list (hashed_of_proof coinbase hs ++ hashed_of_list list)) (sym is)
    (sound rest coinbase list (sym folds_to ∙ e) long first_long all_rest.1)

-- a list whose root is zero has a digest of zeros among its texts
pub zero_of_list : (first : List ℕ) (rest : List (List ℕ)) → merkle_root (map (λ text. digest text) (first ∷ rest)) ≡ zero_hash → ZeroText (hashed_of_list (first ∷ rest))
zero_of_list first rest e =
    let ids : List Hash256 = map (λ text. digest text) rest in
    zero_found first rest ids (siblings (digest first ∷ ids)) refl (ids_siblings_length (digest first ∷ ids) (length_dsha first, digests_length rest))
    (λ t h. fold_in_root (digest first) ids t h) (folds (digest first) ids ∙ e)
  where
    zero_found : (first : List ℕ) (rest : List (List ℕ)) (ids ss : List Hash256) → ids ≡ map (λ text. digest text) rest → AllByRecursion HasHashLength ss
        → ((t : List ℕ) → Contains (fold_texts (digest first) ss) t → Contains (root_texts (digest first ∷ map (λ text. digest text) rest)) t) → folded (digest first) ss ≡ zero_hash → ZeroText (hashed_of_list (first ∷ rest))
    zero_found first rest ids [] same all sub e =
        record { text = first; has = at_head first (rest ++ root_texts (digest first ∷ map (λ text. digest text) rest)); is_zero = ap (λ (h : Hash256). h.0) e }
    zero_found first rest ids (s ∷ ss) same all sub e =
        let top : TopText (fold_texts (digest first) (s ∷ ss)) (folded (digest first) (s ∷ ss)) = top_text (digest first) s ss (length_dsha first) all in
        record {
          text = top.text;
          has = Contains-append_right (first ∷ rest) (root_texts (digest first ∷ map (λ text. digest text) rest)) top.text (sub top.text top.has);
          is_zero = sym top.is ∙ ap (λ (h : Hash256). h.0) e;
        }
