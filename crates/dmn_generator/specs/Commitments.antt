-- The commitments of a block (DIP-0006), by what is known of each type's quorum at its height.
use Rattle.std.specs.Prelude.{ℕ, ◌+◌, ◌-◌, ◌*◌, ◌/◌, ◌%◌, ◌^◌, ◌==◌, ◌&&◌, Bool, List, [], ◌∷◌, ◌++◌, filter, length, map, nat_lt, replicate, codes, if◌then◌else◌}
use Rattle.dmn_bytes.specs.declared.hash.Hash256.{Hash256}
use Rattle.dmn_payloads.specs.Commitments.{bit_bytes, mined}
use Rattle.dmn_payloads.specs.declared.commitment.Bits.{Bits}
use Rattle.dmn_payloads.specs.declared.commitment.Commitment.{Commitment}
use Rattle.dmn_quorums.specs.Forming.{Formed, is_due}
use Rattle.dmn_rows.specs.declared.verdict.TheConstants.{MEMBERS_KEYS}
use Rattle.dmn_rows.specs.declared.verdict.Verdict.{Verdict}
use Rattle.dmn_tx.specs.declared.kinds.TheConstants.{COMMITMENT_TX, SPECIAL_VERSION}
use Rattle.dmn_tx.specs.declared.tx.Tx.{Tx}
use Rattle.dmn_generator.specs.Masternodes.{no_hash}
use Rattle.dmn_generator.specs.Tags.{first_48, tag_of_two, thrice}

-- A quorum that has all of its members is formed in the third block of its window; in each other block it failed. No type's
-- interval is 0.
abbrev pub is_formed : ℕ → Formed → Bool
is_formed height f = nat_lt 0 f.params.interval && (height % f.params.interval == f.params.from + 2 && length f.members == f.params.size)

-- a set of so many members
abbrev pub none_of : ℕ → Bits
none_of size = record { count = size; bytes = replicate (bit_bytes size) 0 }

-- the last byte of a set, where it isn't full
abbrev pub last_bits : ℕ → List ℕ
last_bits count = if count == 0 then [] else (2 ^ count - 1) ∷ []

-- all of at least eight, but that the first byte is this
abbrev pub all_of : ℕ → ℕ → Bits
all_of first size = record { count = size; bytes = first ∷ replicate (size / 8 - 1) 0xff ++ last_bits (size % 8) }

-- a null commitment: the quorum failed
abbrev pub null_commitment : Formed → Commitment
null_commitment f = record {
  version = 1;
  kind = f.params.kind;
  quorum = f.base;
  signers = none_of f.params.size;
  valid = none_of f.params.size;
  key = replicate 48 0;
  vvec = no_hash;
  quorum_sig = replicate 96 0;
  members_sig = replicate 96 0;
}

-- what a tag of a quorum names: its type, and the height
abbrev pub quorum_tag : List ℕ → ℕ → Formed → Hash256
quorum_tag name height f = tag_of_two name f.params.kind height

-- a quorum that all members signed; all but the first are valid
abbrev pub full_commitment : ℕ → Formed → Commitment
full_commitment height f = record {
  version = 1;
  kind = f.params.kind;
  quorum = f.base;
  signers = all_of 0xff f.params.size;
  valid = all_of 0xfe f.params.size;
  key = first_48 (quorum_tag (codes "qa ") height f) (quorum_tag (codes "qb ") height f);
  vvec = quorum_tag (codes "qv ") height f;
  quorum_sig = thrice (quorum_tag (codes "qs ") height f);
  members_sig = thrice (quorum_tag (codes "qs ") height f);
}

unfoldable pub commitment_of : ℕ → Formed → Commitment
commitment_of height f = if is_formed height f then full_commitment height f else null_commitment f

-- the transaction with the commitment
unfoldable pub commitment_tx : ℕ → Formed → Tx
commitment_tx height f = record { version = SPECIAL_VERSION; kind = COMMITMENT_TX; inputs = []; outputs = []; lock = 0; payload = mined.text (height, commitment_of height f) }

-- the verdict that the members' signature is right, on the transaction at this place
abbrev pub verdict_on : ℕ → Formed → Verdict
verdict_on place f = record { tx = place; kind = MEMBERS_KEYS; key = f.digest; valid = 1 }

-- one for each quorum of these that is formed, where the first of their transactions stands at this place
abbrev pub verdicts_from : ℕ → ℕ → List Formed → List Verdict
verdicts_from place height [] = []
verdicts_from place height (f ∷ formed) = (if is_formed height f then verdict_on place f ∷ [] else []) ++ verdicts_from (place + 1) height formed

-- the quorums of which a block has to have a commitment
abbrev pub due_of : List Formed → List Formed
due_of formed = filter is_due formed
