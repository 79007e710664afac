-- Values have texts, where their numbers fit.
use Rattle.std.proofs.Common.{◌≡◌, ◌<◌, ◌≤◌, ◌^◌, ℕ, Bool, true, false, List, [], length, Some, None, refl, arith, inl, inr}
use Rattle.std.specs.Prelude.{MatchBool, ◌==◌}
use Rattle.std.specs.List.{All}
use Rattle.std.proofs.lemmas.Bool.{cases_lt, lt-ltb, le-ltb, le-leb}
use Rattle.dmn_bytes.specs.Format.{blob, blob_within, choose, compact, counted, filled, Format, hash, marked, only}
use Rattle.dmn_held.specs.declared.coinbase.CoinbasePart.{CoinbasePart}
use Rattle.dmn_held.specs.Coinbase.{behind_size, behind_size_if, coinbase_part, no_part, part_if, tx_size}
use Rattle.dmn_held.specs.Lists.{commitments_field, mined_at, mined_field}
use Rattle.dmn_held.specs.Present.{present}
use Rattle.dmn_merkle.specs.declared.branch.Branching.{Branching}
use Rattle.dmn_merkle.specs.BranchText.{branching}
use Rattle.dmn_payloads.specs.declared.commitment.Bits.{Bits}
use Rattle.dmn_payloads.specs.declared.commitment.Commitment.{Commitment}
use Rattle.dmn_payloads.specs.declared.mined.MinedAt.{MinedAt}
use Rattle.dmn_payloads.specs.Commitments.{HasItsBytes, bits, commitment}
use Rattle.dmn_tx.specs.declared.kinds.TheConstants.{LONGEST_PAYLOAD}
use Rattle.dmn_tx.specs.declared.tx.Tx.{Tx}
use Rattle.dmn_tx.specs.Tx.{KeepsPayload, is_special, payload_of, tx, tx_in, tx_out}
use Rattle.std.proofs.lemmas.List.Elements.{recursion_from_All}

pub compact_fits : (n : ℕ) → n < 2 ^ 64 → compact.Fits n
unfolding compact marked
compact_fits n lt =
    elim (cases_lt n 0xfd) [
      | inl a ↦ rw (lt-ltb n 0xfd a) (rw (lt-ltb n 0xfd a) ((omega arith), refl))
      | inr a ↦ elim (cases_lt n 0x10000) [
        | inl b ↦ rw (le-ltb n 0xfd a, lt-ltb n 0x10000 b) ((omega arith), ((omega arith), le-leb 0xfd n a))
        | inr b ↦ elim (cases_lt n 0x100000000) [
          | inl c ↦ rw (le-ltb n 0xfd a, le-ltb n 0x10000 b, lt-ltb n 0x100000000 c) ((omega arith), ((omega arith), le-leb 0x10000 n b))
          | inr c ↦ rw (le-ltb n 0xfd a, le-ltb n 0x10000 b, le-ltb n 0x100000000 c) ((omega arith), ((omega arith), le-leb 0x100000000 n c))
        ]
      ]
    ]

pub blob_by : (bytes : List ℕ) → length bytes < 2 ^ 64 → blob.Fits bytes
unfolding blob
blob_by bytes lt = (compact_fits (length bytes) lt, refl)

pub counted_by : {A : Type 0} (f : Format A) (vs : List A) → length vs < 2 ^ 64 → All f.Fits vs → (counted f).Fits vs
unfolding counted
counted_by f vs lt all = (compact_fits (length vs) lt, (refl, recursion_from_All f.Fits vs all))

payload_when : (b : Bool) (p : List ℕ) → MatchBool b (length p ≤ LONGEST_PAYLOAD) (p ≡ []) → (choose b (blob_within LONGEST_PAYLOAD) (only [])).Fits p
unfolding blob_within
payload_when true p keeps = ((compact_fits (length p) (omega (arith, keeps)), le-leb (length p) LONGEST_PAYLOAD keeps), refl)
payload_when false p keeps = keeps

pub tx_by : (v : Tx) → v.version < 65536 → v.kind < 65536 → v.lock < 4294967296 → (counted tx_in).Fits v.inputs → (counted tx_out).Fits v.outputs → KeepsPayload v → tx.Fits v
unfolding tx payload_of
tx_by v version kind lock inputs outputs keeps = (version, (kind, (inputs, (outputs, (lock, payload_when (is_special v.version v.kind) v.payload keeps)))))

pub branch_by : (v : Branching) → v.total < 4294967296 → length v.hashes < 2 ^ 64 → All hash.Fits v.hashes → blob.Fits v.flags → branching.Fits v
unfolding branching
branch_by v total many hashes flags = (total, (counted_by hash v.hashes many hashes, flags))

behind_by : (part : CoinbasePart) → tx.Fits part.tx → branching.Fits part.branch → (behind_size (tx_size part)).Fits part
unfolding behind_size filled
behind_by part fits branch = ((fits, refl), branch)

pub part_by : (part : CoinbasePart) → tx_size part < 2 ^ 64 → tx.Fits part.tx → branching.Fits part.branch → coinbase_part.Fits part
unfolding coinbase_part
part_by part few fits branch = (compact_fits (tx_size part) few, behind_by part fits branch)

some_by : (n : ℕ) (b : Bool) (part : CoinbasePart) → (n == 0) ≡ b → b ≡ false → (behind_size n).Fits part → (choose b no_part (present (behind_size n))).Fits (Some part)
some_by n true part e other fits = absurd cc
some_by n false part e other fits = fits

pub some_part : (part : CoinbasePart) → tx_size part < 2 ^ 64 → (tx_size part == 0) ≡ false → tx.Fits part.tx → branching.Fits part.branch → part_if.Fits (Some part)
unfolding part_if behind_size_if
some_part part few some fits branch = (compact_fits (tx_size part) few, some_by (tx_size part) (tx_size part == 0) part refl some (behind_by part fits branch))

pub none_part : part_if.Fits None
unfolding part_if behind_size_if no_part
none_part = (compact_fits 0 (omega arith), ((omega arith, refl), ((compact_fits 0 (omega arith), refl), ((compact_fits 0 (omega arith), refl), refl))))

pub bits_by : (v : Bits) → v.count < 2 ^ 64 → HasItsBytes v → bits.Fits v
unfolding bits
bits_by v lt keeps = (compact_fits v.count lt, keeps)

pub commitments_by : (vs : List Commitment) → length vs < 4294967296 → All commitment.Fits vs → commitments_field.Fits vs
unfolding commitments_field
commitments_by vs lt all = (lt, (refl, recursion_from_All commitment.Fits vs all))

pub mined_by : (vs : List MinedAt) → length vs < 4294967296 → All mined_at.Fits vs → mined_field.Fits vs
unfolding mined_field
mined_by vs lt all = (lt, (refl, recursion_from_All mined_at.Fits vs all))

pub commitment_by : (v : Commitment) → v.version < 65536 → v.kind < 256 → length v.quorum.0 ≡ 32 → bits.Fits v.signers → bits.Fits v.valid → length v.key ≡ 48 → length v.vvec.0 ≡ 32 → length v.quorum_sig ≡ 96 → length v.members_sig ≡ 96 → commitment.Fits v
unfolding commitment
commitment_by v version kind quorum signers valid key vvec quorum_sig members_sig = (version, (kind, (quorum, (signers, (valid, (key, (vvec, (quorum_sig, members_sig))))))))
