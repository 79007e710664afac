-- The depth of a tree, and the test of a branch: what it answers, and what a branch is that passes it.
use Rattle.std.proofs.Common.{◌≡◌, ℕ, zero, suc, ◌+◌, ◌*◌, ◌/◌, ◌^◌, ◌≤◌, ◌<◌, Bool, true, false, not, cond, List, [], ◌∷◌, length, get_or, take, drop, ◌-◌, Result, Ok, Err, refl, sym, ap, ◌∙◌, arith}
use Rattle.std.specs.Prelude.{◌==◌, ◌≢◌}
use Rattle.std.specs.Str.{bytes_eq}
use Rattle.std.proofs.lemmas.Bool.{eq-eqb, eqb-true, false_from_ne_true}
use Rattle.std.proofs.lemmas.List.{take_all}
use Rattle.std.proofs.lemmas.Slice.Eq.{bytes_eq-Decides}
use Rattle.dmn_bytes.specs.declared.hash.Hash256.{Hash256}
use Rattle.dmn_merkle.specs.Defs.{merkle_root}
use Rattle.dmn_merkle.specs.declared.branch.BranchFault.{BranchFault}
use Rattle.dmn_merkle.specs.declared.branch.BranchFault.TheVariants.{TotalZero, HashCount, Flags, Leaf}
use Rattle.dmn_merkle.specs.declared.branch.Branching.{Branching}
use Rattle.dmn_merkle.specs.Branch.{IsDepth, depth_by, depth_of, siblings, branch_of, folded, folded_from, flag_bytes, judge_branch, CoinbaseProof, ProvesFirst}
use Rattle.dmn_merkle.proofs.Branches.{one_depth, deeper, not_below, siblings_depth, folds}

-- ---- the depth

halves : (m : ℕ) → (m ≤ 2 * ((m + 1) / 2)) × (2 * ((m + 1) / 2) ≤ m + 1)
halves m = (omega arith, omega arith)

depth_by_is : (k n : ℕ) → n ≤ suc k → IsDepth n (depth_by k n)
depth_by_is k zero le = record { enough = omega arith; least = λ e h. omega arith }
depth_by_is k (suc zero) le = record { enough = omega arith; least = λ e h. omega arith }
depth_by_is zero (suc (suc m)) le = absurd (omega arith)
depth_by_is (suc k) (suc (suc m)) le =
    let h = halves m in
    deeper m ((m + 1) / 2) (depth_by k (suc ((m + 1) / 2))) h.0 h.1 (depth_by_is k (suc ((m + 1) / 2)) (omega (arith, h.1)))

pub depth_is : (n : ℕ) → IsDepth n (depth_of n)
unfolding depth_of
depth_is n = depth_by_is n n (omega arith)

pub depth_found : (n d width : ℕ) → n ≤ width → width ≡ 2 ^ d → ((e : ℕ) → e < d → 2 ^ e < n) → d ≡ depth_of n
depth_found n d width h w below =
    one_depth n d (depth_of n) (record { enough = omega arith; least = λ e le. not_below n d e (below e) le }) (depth_is n)

-- ---- the first hash

abbrev hash_of : List ℕ → Hash256
hash_of bytes = record { 0 = bytes }

same_bytes : (a : List ℕ) → bytes_eq a a ≡ true
same_bytes a = (bytes_eq-Decides a a).1 refl

same_hash : (x y : Hash256) → bytes_eq x.0 y.0 ≡ true → x ≡ y
same_hash x y h = ap hash_of ((bytes_eq-Decides x.0 y.0).0 h)

-- ---- what the test answers

pub leaf_folds : (hashes : List Hash256) (id d root : Hash256) → 0 < length hashes → bytes_eq (get_or hashes 0 d).0 id.0 ≡ true → root ≡ folded id (take (length hashes - 1) (drop 1 hashes)) → Ok root ≡ folded_from hashes id
unfolding folded_from
leaf_folds [] id d root some same is = absurd (omega arith)
leaf_folds (first ∷ rest) id d root some same is =
    let n : suc (length rest) - 1 ≡ length rest = omega arith in
    let all : root ≡ folded id rest = is ∙ ap (λ (k : ℕ). folded id (take k rest)) n ∙ ap (folded id) (take_all (length rest) rest (omega arith)) in
    rw same (ap Ok (all ∙ ap (λ (x : Hash256). folded x rest) (sym (same_hash first id same))))

pub other_leaf : (hashes : List Hash256) (id d : Hash256) → 0 < length hashes → bytes_eq (get_or hashes 0 d).0 id.0 ≡ false → Err Leaf ≡ folded_from hashes id
unfolding folded_from
other_leaf [] id d some other = absurd (omega arith)
other_leaf (first ∷ rest) id d some other = rw other refl

differ : (a b : ℕ) → a ≢ b → (a == b) ≡ false
differ a b other = false_from_ne_true (a == b) (λ e. other (eqb-true a b e))

pub total_zero : (total : ℕ) (hashes : List Hash256) (flags : List ℕ) (id : Hash256) → total ≡ 0 → Err TotalZero ≡ judge_branch total hashes flags id
unfolding judge_branch
total_zero total hashes flags id z = rw (eq-eqb total 0 z) refl

pub other_count : (total : ℕ) (hashes : List Hash256) (flags : List ℕ) (id : Hash256) (d : ℕ) → total ≢ 0 → d ≡ depth_of total → length hashes ≢ d + 1 → Err HashCount ≡ judge_branch total hashes flags id
unfolding judge_branch
other_count total hashes flags id d some depth other = rw (differ total 0 some, ← depth, differ (length hashes) (d + 1) other) refl

pub other_flags : (total : ℕ) (hashes : List Hash256) (flags : List ℕ) (id : Hash256) (d : ℕ) → total ≢ 0 → d ≡ depth_of total → length hashes ≡ d + 1 → flags ≢ flag_bytes d → Err Flags ≡ judge_branch total hashes flags id
unfolding judge_branch
other_flags total hashes flags id d some depth count other =
    rw (differ total 0 some, ← depth, eq-eqb (length hashes) (d + 1) count, false_from_ne_true (bytes_eq flags (flag_bytes d)) (λ e. other ((bytes_eq-Decides flags (flag_bytes d)).0 e))) refl

pub folds_or_not : (total : ℕ) (hashes : List Hash256) (flags : List ℕ) (id : Hash256) (d : ℕ) (r : Result Hash256 BranchFault) → total ≢ 0 → d ≡ depth_of total → length hashes ≡ d + 1 → flags ≡ flag_bytes d
    → r ≡ folded_from hashes id → r ≡ judge_branch total hashes flags id
unfolding judge_branch
folds_or_not total hashes flags id d r some depth count same is =
    rw (differ total 0 some, ← depth, eq-eqb (length hashes) (d + 1) count, (bytes_eq-Decides flags (flag_bytes d)).1 same) is

pub first_folds : (first : Hash256) (rest : List Hash256) → folded_from (first ∷ rest) first ≡ Ok (folded first rest)
unfolding folded_from
first_folds first rest = rw (same_bytes first.0) refl

-- ---- the branch of the first id passes

proves : (total : ℕ) (flags : List ℕ) (a : Hash256) (rest : List Hash256) → total ≡ suc (length rest) → flags ≡ flag_bytes (depth_of total) → CoinbaseProof total (a ∷ siblings (a ∷ rest)) flags a (merkle_root (a ∷ rest))
proves total flags a rest t f =
    let d = one_depth (suc (length rest)) (length (siblings (a ∷ rest))) (depth_of (suc (length rest))) (siblings_depth a rest) (depth_is (suc (length rest))) in
    let deep : length (siblings (a ∷ rest)) ≡ depth_of total = rw t d in
    sym (folds_or_not total (a ∷ siblings (a ∷ rest)) flags a (depth_of total) (Ok (merkle_root (a ∷ rest))) (λ z. omega arith) refl (omega arith) f (ap Ok (sym (folds a rest)) ∙ sym (first_folds a (siblings (a ∷ rest)))))

pub proves_first : (branch : Branching) (ids : List Hash256) → 0 < length ids → branch ≡ branch_of ids → ProvesFirst branch ids
proves_first branch [] some is = absurd (omega arith)
proves_first branch (a ∷ rest) some is = rw is (proves (suc (length rest)) (flag_bytes (depth_of (suc (length rest)))) a rest refl refl)

-- ---- what a branch is that passes

past : (b : Bool) (e : BranchFault) (r : Result Hash256 BranchFault) (root : Hash256) → cond b (Err e) r ≡ Ok root → (b ≡ false) × (r ≡ Ok root)
past true e r root h = absurd cc
past false e r root h = (refl, h)

not_not : (b : Bool) → not b ≡ false → b ≡ true
not_not true h = refl
not_not false h = absurd cc

leaf_is : (b : Bool) (found root : Hash256) → cond b (Ok found) (Err Leaf) ≡ Ok root → (b ≡ true) × (found ≡ root)
leaf_is true found root h = (refl, cc)
leaf_is false found root h = absurd cc

first_is : (hashes : List Hash256) (id root : Hash256) → folded_from hashes id ≡ Ok root → (rest : List Hash256) × (hashes ≡ id ∷ rest) × (root ≡ folded id rest)
unfolding folded_from
first_is [] id root h = absurd cc
first_is (first ∷ rest) id root h =
    let p = leaf_is (bytes_eq first.0 id.0) (folded first rest) root h in
    let same : first ≡ id = same_hash first id p.0 in
    (rest, ap (λ (x : Hash256). x ∷ rest) same, sym p.1 ∙ ap (λ (x : Hash256). folded x rest) same)

-- its first hash is the id, and the others fold to the root
pub proof_folds : (total : ℕ) (hashes : List Hash256) (flags : List ℕ) (id root : Hash256) → CoinbaseProof total hashes flags id root → (rest : List Hash256) × (hashes ≡ id ∷ rest) × (root ≡ folded id rest)
unfolding judge_branch
proof_folds total hashes flags id root h =
    let a = past (total == 0) TotalZero _ root h in
    let b = past (not (length hashes == depth_of total + 1)) HashCount _ root a.1 in
    let c = past (not (bytes_eq flags (flag_bytes (depth_of total)))) Flags _ root b.1 in
    first_is hashes id root c.1
