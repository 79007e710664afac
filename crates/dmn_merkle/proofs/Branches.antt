-- The branch of the first hash: its depth, and the root to which it folds.
use Rattle.std.proofs.Common.{◌≡◌, ℕ, zero, suc, ◌+◌, ◌-◌, ◌*◌, ◌/◌, ◌^◌, ◌≤◌, ◌<◌, List, [], ◌∷◌, ◌++◌, length, get_or, take, refl, sym, ap, ◌∙◌, append_assoc, arith, drop, Bool, true}
use Rattle.std.proofs.lemmas.List.{append-nil, take_more}
use Rattle.std.specs.Str.{bytes_eq}
use Rattle.std.proofs.lemmas.Bool.{agree_below, agree_below_at}
use Rattle.std.proofs.lemmas.Slice.Eq.{bytes_eq-Decides}
use Rattle.std.proofs.Math.Nat.{pow-suc}
use Rattle.dmn_bytes.specs.declared.hash.Hash256.{Hash256}
use Rattle.dmn_merkle.specs.Defs.{pair, above, root_by, merkle_root}
use Rattle.dmn_merkle.specs.Branch.{IsDepth, siblings_by, siblings, branch_hashes, folded, flag_bits, bits_bytes, flag_bytes, ones_byte}
use Rattle.dmn_merkle.proofs.Levels.{shorter}

-- ---- the depth

pub not_below : (n d e : ℕ) → (e < d → 2 ^ e < n) → n ≤ 2 ^ e → d ≤ e
not_below n d e b le = grind arith

pub one_depth : (n d e : ℕ) → IsDepth n d → IsDepth n e → d ≡ e
one_depth n d e p q =
    let a : d ≤ e = p.least e q.enough in
    let b : e ≤ d = q.least d p.enough in
    omega arith

pub twice : (k : ℕ) → 2 ^ suc k ≡ 2 * 2 ^ k
twice k = let e : 2 ^ suc k ≡ 2 ^ k * 2 = pow-suc 2 k in omega arith

pub deeper : (m l k : ℕ) → m ≤ 2 * l → 2 * l ≤ m + 1 → IsDepth (suc l) k → IsDepth (suc (suc m)) (suc k)
deeper m l k low high p = record {
  enough = let e : suc l ≤ 2 ^ k = p.enough in omega (arith, twice k);
  least = deep_enough m l k low high p;
} where
  deep_enough : (m l k : ℕ) → m ≤ 2 * l → 2 * l ≤ m + 1 → IsDepth (suc l) k → (e : ℕ) → suc (suc m) ≤ 2 ^ e → suc k ≤ e
  deep_enough m l k low high p zero h = absurd (omega arith)
  deep_enough m l k low high p (suc e) h =
      let t : 2 ^ suc e ≡ 2 * 2 ^ e = twice e in
      let s : suc l ≤ 2 ^ e = omega arith in
      let r : k ≤ e = p.least e s in
      omega arith

half_low : (xs : List Hash256) → length xs ≤ 2 * length (above xs)
half_low [] = omega arith
half_low (a ∷ []) = omega arith
half_low (a ∷ b ∷ rest) = omega (arith, half_low rest)

half_high : (xs : List Hash256) → 2 * length (above xs) ≤ length xs + 1
half_high [] = omega arith
half_high (a ∷ []) = omega arith
half_high (a ∷ b ∷ rest) = omega (arith, half_high rest)

depth_by : (n : ℕ) (a : Hash256) (rest : List Hash256) → length rest ≤ n → IsDepth (suc (length rest)) (length (siblings_by n (a ∷ rest)))
depth_by n a [] h = record { enough = omega arith; least = λ e le. omega arith }
depth_by zero a (b ∷ rest) h = absurd (omega arith)
depth_by (suc n) a (b ∷ rest) h =
    deeper (length rest) (length (above rest)) (length (siblings_by n (pair a b ∷ above rest))) (half_low rest) (half_high rest)
    (depth_by n (pair a b) (above rest) (omega (arith, shorter rest)))

pub siblings_depth : (a : Hash256) (rest : List Hash256) → IsDepth (suc (length rest)) (length (siblings (a ∷ rest)))
unfolding siblings
siblings_depth a rest = depth_by (suc (length rest)) a rest (omega arith)

-- ---- the root

folds_by : (n : ℕ) (a : Hash256) (rest : List Hash256) → folded a (siblings_by n (a ∷ rest)) ≡ root_by n (a ∷ rest)
folds_by n a [] = refl
folds_by zero a (b ∷ rest) = refl
folds_by (suc n) a (b ∷ rest) = folds_by n (pair a b) (above rest)

pub folds : (a : Hash256) (rest : List Hash256) → folded a (siblings (a ∷ rest)) ≡ merkle_root (a ∷ rest)
unfolding siblings merkle_root
folds a rest = folds_by (suc (length rest)) a rest

siblings_left : (n m : ℕ) (xs : List Hash256) → length xs ≤ n + 1 → length xs ≤ m + 1 → siblings_by n xs ≡ siblings_by m xs
siblings_left n m [] p q = refl
siblings_left n m (a ∷ []) p q = refl
siblings_left zero m (a ∷ b ∷ rest) p q = absurd (omega arith)
siblings_left (suc n) zero (a ∷ b ∷ rest) p q = absurd (omega arith)
siblings_left (suc n) (suc m) (a ∷ b ∷ rest) p q =
    ap (λ (xs : List Hash256). b ∷ xs) (siblings_left n m (pair a b ∷ above rest) (omega (arith, shorter rest)) (omega (arith, shorter rest)))

siblings_above : (a b : Hash256) (rest : List Hash256) → siblings (a ∷ b ∷ rest) ≡ b ∷ siblings (pair a b ∷ above rest)
unfolding siblings
siblings_above a b rest =
    ap (λ (xs : List Hash256). b ∷ xs) (siblings_left (suc (length rest)) (suc (length (above rest))) (pair a b ∷ above rest) (omega (arith, shorter rest)) (omega arith))

-- a sibling moves to those that are there
pub one_up : (level hashes all : List Hash256) (right : Hash256) → 1 < length level → right ≡ get_or level 1 right
    → hashes ++ siblings level ≡ all → (hashes ++ right ∷ []) ++ siblings (above level) ≡ all
one_up [] hashes all right h e so_far = absurd (omega arith)
one_up (a ∷ []) hashes all right h e so_far = absurd (omega arith)
one_up (a ∷ b ∷ rest) hashes all right h e so_far =
    let r : right ≡ b = e in
    append_assoc hashes (right ∷ []) (siblings (above (a ∷ b ∷ rest)))
    ∙ (ap (λ (x : Hash256). hashes ++ (x ∷ siblings (pair a b ∷ above rest))) r ∙ (sym (ap (λ (xs : List Hash256). hashes ++ xs) (siblings_above a b rest)) ∙ so_far))

pub no_more : (level hashes : List Hash256) → length level ≤ 1 → hashes ++ siblings level ≡ hashes
unfolding siblings
no_more [] hashes h = append-nil hashes
no_more (a ∷ []) hashes h = append-nil hashes
no_more (a ∷ b ∷ rest) hashes h = absurd (omega arith)

pub first_pushed : (ids : List Hash256) (first : Hash256) → 0 < length ids → first ≡ get_or ids 0 first → ([] ++ first ∷ []) ++ siblings ids ≡ branch_hashes ids
first_pushed [] first h e = absurd (omega arith)
first_pushed (a ∷ rest) first h e = ap (λ (x : Hash256). x ∷ siblings (a ∷ rest)) e

-- ---- flags

pub length_flags : (d : ℕ) → length (flag_bytes d) ≡ (2 * d + 8) / 8
unfolding flag_bytes
length_flags d = length_bits ((2 * d + 8) / 8) (flag_bits d)
  where
    length_bits : (n : ℕ) (bits : List Bool) → length (bits_bytes n bits) ≡ n
    length_bits zero bits = refl
    length_bits (suc n) bits = ap suc (length_bits n (drop 8 bits))

-- n bytes of bits, lowest first: so many ones, and then zeros
abbrev pub ones_bytes : ℕ → ℕ → List ℕ
ones_bytes zero ones = []
ones_bytes (suc n) ones = ones_byte ones ∷ ones_bytes n (ones - 8)

-- for each depth that a program meets, bit by bit
bit_by_bit : agree_below (λ d. bytes_eq (ones_bytes ((2 * d + 8) / 8) (d + 1)) (bits_bytes ((2 * d + 8) / 8) (flag_bits d))) (λ d. true) 33 ≡ true
bit_by_bit = refl

ones_are_flags : (d : ℕ) → d ≤ 32 → ones_bytes ((2 * d + 8) / 8) (d + 1) ≡ flag_bytes d
unfolding flag_bytes
ones_are_flags d le =
    (bytes_eq-Decides (ones_bytes ((2 * d + 8) / 8) (d + 1)) (bits_bytes ((2 * d + 8) / 8) (flag_bits d))).0
    (agree_below_at (λ k. bytes_eq (ones_bytes ((2 * k + 8) / 8) (k + 1)) (bits_bytes ((2 * k + 8) / 8) (flag_bits k))) (λ k. true) 33 d bit_by_bit (omega arith))

-- the flags where i bytes are given, n the count of bytes and `ones` the ones that are left
abbrev pub giving : List ℕ → ℕ → ℕ → ℕ → List ℕ
giving front n i ones = front ++ ones_bytes (n - i) ones

pub flags_start : (d n : ℕ) → d ≤ 32 → n ≡ (2 * d + 8) / 8 → giving [] n 0 (d + 1) ≡ flag_bytes d
flags_start d n le h =
    let z : n - 0 ≡ n = omega arith in
    ap (λ (m : ℕ). ones_bytes m (d + 1)) (z ∙ h) ∙ ones_are_flags d le

pub flag_given : (front : List ℕ) (n i ones byte : ℕ) → i < n → byte ≡ ones_byte ones → giving (front ++ byte ∷ []) n (i + 1) (ones - 8) ≡ giving front n i ones
flag_given front n i ones byte h e =
    let k : n - i ≡ suc (n - (i + 1)) = omega arith in
    append_assoc front (byte ∷ []) (ones_bytes (n - (i + 1)) (ones - 8)) ∙ rw (k, e) refl

pub flags_end : (front : List ℕ) (n i ones : ℕ) → n ≤ i → giving front n i ones ≡ front
flags_end front n i ones h =
    let k : n - i ≡ 0 = omega arith in rw k (append-nil front)

pub flags_more : (flags : List ℕ) (n i ones : ℕ) → i < n → length flags ≡ n → get_or flags i 0 ≡ ones_byte ones
    → giving (take (i + 1) flags) n (i + 1) (ones - 8) ≡ giving (take i flags) n i ones
flags_more flags n i ones h l e =
    let b : i < length flags = omega arith in
    rw (take_more flags i 0 b) (flag_given (take i flags) n i ones (get_or flags i 0) h e)
