-- The branch of the first of the ids, and its test (DIP-0004; the partial trees of BIP-0037).
use Rattle.std.specs.Prelude.{◌==◌, Bool, true, false, not, ◌≡◌, ℕ, zero, suc, ◌+◌, ◌-◌, ◌*◌, ◌/◌, ◌^◌, ◌≤◌, nat_lt, if◌then◌else◌, List, [], ◌∷◌, ◌++◌, length, replicate, take, drop, Result, Ok, Err}
use Rattle.std.specs.Str.{bytes_eq}
use Rattle.dmn_bytes.specs.declared.hash.Hash256.{Hash256}
use Rattle.dmn_merkle.specs.declared.branch.BranchFault.{BranchFault}
use Rattle.dmn_merkle.specs.declared.branch.BranchFault.TheVariants.{TotalZero, HashCount, Flags, Leaf}
use Rattle.dmn_merkle.specs.declared.branch.Branching.{Branching}
use Rattle.dmn_merkle.specs.Defs.{pair, above, merkle_root}

-- ---- how deep a tree is

-- d is the least number with n ≤ 2 ^ d
pub record IsDepth (n d : ℕ) : Type 0 where
  pub enough : n ≤ 2 ^ d
  pub least : (e : ℕ) → n ≤ 2 ^ e → d ≤ e

-- the least d with n ≤ 2 ^ d, by halving; k is any number from n on
abbrev pub depth_by : ℕ → ℕ → ℕ
depth_by k zero = 0
depth_by k (suc zero) = 0
depth_by zero (suc (suc m)) = 0
depth_by (suc k) (suc (suc m)) = suc (depth_by k (suc ((m + 1) / 2)))

unfoldable pub depth_of : ℕ → ℕ
depth_of n = depth_by n n

-- ---- the branch

-- the right sibling of the first hash, at each level upwards; n is any number from the count of the hashes on
abbrev pub siblings_by : ℕ → List Hash256 → List Hash256
siblings_by n [] = []
siblings_by n (a ∷ []) = []
siblings_by zero (a ∷ b ∷ rest) = []
siblings_by (suc n) (a ∷ b ∷ rest) = b ∷ siblings_by n (pair a b ∷ above rest)

unfoldable pub siblings : List Hash256 → List Hash256
siblings ids = siblings_by (length ids) ids

-- the first id and its siblings
abbrev pub branch_hashes : List Hash256 → List Hash256
branch_hashes [] = []
branch_hashes (a ∷ rest) = a ∷ siblings (a ∷ rest)

-- a one for the root and for each hash on the way down to the first id, and a zero for each of its siblings
abbrev pub flag_bits : ℕ → List Bool
flag_bits d = replicate (d + 1) true ++ replicate d false

-- the number of bits, the lowest first
abbrev pub bits_number : List Bool → ℕ
bits_number [] = 0
bits_number (bit ∷ bits) = (if bit then 1 else 0) + 2 * bits_number bits

-- bits in n bytes, eight a byte
abbrev pub bits_bytes : ℕ → List Bool → List ℕ
bits_bytes zero bits = []
bits_bytes (suc n) bits = bits_number (take 8 bits) ∷ bits_bytes n (drop 8 bits)

-- 2 d + 1 bits in the least number of bytes
unfoldable pub flag_bytes : ℕ → List ℕ
flag_bytes d = bits_bytes ((2 * d + 8) / 8) (flag_bits d)

abbrev pub branch_of : List Hash256 → Branching
branch_of ids = record { total = length ids; hashes = branch_hashes ids; flags = flag_bytes (depth_of (length ids)) }

-- the byte of eight bits, lowest first, of which so many are ones, and the rest zeros
abbrev pub ones_byte : ℕ → ℕ
ones_byte ones = if nat_lt ones 8 then 2 ^ ones - 1 else 255

-- ---- its test

-- the hash to which a first hash and its right siblings fold
abbrev pub folded : Hash256 → List Hash256 → Hash256
folded a [] = a
folded a (s ∷ ss) = folded (pair a s) ss

-- the root to which the hashes fold, where the first of them is the id
unfoldable pub folded_from : List Hash256 → Hash256 → Result Hash256 BranchFault
folded_from [] id = Err Leaf
folded_from (first ∷ rest) id = if bytes_eq first.0 id.0 then Ok (folded first rest) else Err Leaf

-- the root to which the hashes fold, or the first fault
unfoldable pub judge_branch : ℕ → List Hash256 → List ℕ → Hash256 → Result Hash256 BranchFault
judge_branch total hashes flags id =
    if total == 0 then Err TotalZero
    else if not (length hashes == depth_of total + 1) then Err HashCount
    else if not (bytes_eq flags (flag_bytes (depth_of total))) then Err Flags
    else folded_from hashes id

-- the branch passes the test for the first hash id, and its hashes fold to the root
abbrev pub CoinbaseProof : ℕ → List Hash256 → List ℕ → Hash256 → Hash256 → Type 0
CoinbaseProof total hashes flags id root = judge_branch total hashes flags id ≡ Ok root

-- the branch is a proof of the first of the ids, and of their root
abbrev pub ProvesFirst : Branching → List Hash256 → Type 0
ProvesFirst branch [] = ⊥
ProvesFirst branch (id ∷ rest) = CoinbaseProof branch.total branch.hashes branch.flags id (merkle_root (id ∷ rest))
