-- The rules on a commitment that was read, by tables in the order of their numbers (DIP-0006).
use Rattle.std.specs.Prelude.{ℕ, ◌==◌, nat_lt, Bool, not, ◌&&◌, ◌||◌, [], ◌∷◌, ◌++◌, Option, Some, None, if◌then◌else◌}
use Rattle.dmn_payloads.specs.declared.commitment.Bits.{Bits}
use Rattle.dmn_payloads.specs.declared.commitment.Commitment.{Commitment}
use Rattle.dmn_payloads.specs.Commitments.{is_null}
use Rattle.dmn_rows.specs.declared.profile.QuorumParams.{QuorumParams}
use Rattle.dmn_rows.specs.declared.rule.Rule.{Rule}
use Rattle.dmn_rows.specs.declared.rule.Rule.TheVariants.{QuorumVersion, QuorumType, QuorumHeight, QuorumWindow, QuorumBase, QuorumSecond, QuorumDone, QuorumBits, QuorumFew}
use Rattle.dmn_rows.specs.declared.verdict.Verdict.{Verdict}
use Rattle.dmn_rows.specs.Rows.{same_hash}
use Rattle.dmn_rows.specs.Signed.{verdict_rules}
use Rattle.dmn_rows.specs.Table.{Table, when, first_of}
use Rattle.dmn_quorums.specs.declared.case.QuorumCase.{QuorumCase}
use Rattle.dmn_quorums.specs.Bitset.{set_bits, has_bit_from}

-- ---- rules with a longer test

-- a set has not as many bits as a quorum has seats, or one is set behind the members
abbrev pub is_misfit : ℕ → ℕ → Bits → Bool
is_misfit size members bits = not (bits.count == size) || has_bit_from members bits.bytes

-- 70
unfoldable pub quorum_bits : QuorumParams → ℕ → Commitment → Option Rule
quorum_bits params members v = when (is_misfit params.size members v.signers || is_misfit params.size members v.valid) QuorumBits

-- 71
unfoldable pub quorum_few : QuorumParams → Commitment → Option Rule
quorum_few params v =
    when (not (is_null v) && (nat_lt (set_bits v.signers.bytes) params.minimum || nat_lt (set_bits v.valid.bytes) params.minimum)) QuorumFew

-- ---- the tables

-- a commitment of a type that the profile has
unfoldable pub typed_rules : QuorumParams → QuorumCase → ℕ → Commitment → Table Rule
typed_rules params c height v =
    (65, when (not (c.payload_height == height)) (QuorumHeight c.payload_height))
    ∷ (66, when (not c.in_window) QuorumWindow)
    ∷ (67, when (not (same_hash v.quorum c.base_hash)) (QuorumBase c.base_hash))
    ∷ (68, when c.already QuorumSecond)
    ∷ (69, when c.done QuorumDone)
    ∷ (70, quorum_bits params c.members v)
    ∷ (71, quorum_few params v)
    ∷ []

-- one that isn't null is signed by the members: a verdict on that is of kind 4
abbrev pub signed_rules : QuorumCase → Commitment → Option Verdict → Table Rule
signed_rules c v verdict = if is_null v then [] else verdict_rules verdict 4 c.digest

-- the rules by the type
abbrev pub type_rules : Option QuorumParams → QuorumCase → ℕ → Commitment → Option Verdict → Table Rule
type_rules None c height v verdict = (64, Some (QuorumType v.kind)) ∷ []
type_rules (Some params) c height v verdict = typed_rules params c height v ++ signed_rules c v verdict

-- all rules on a commitment
abbrev pub commitment_rules : QuorumCase → ℕ → Commitment → Option Verdict → Table Rule
commitment_rules c height v verdict = (63, when (not (v.version == 1)) (QuorumVersion v.version)) ∷ type_rules c.params c height v verdict

-- The judgement of a commitment: the first broken rule, or none.
unfoldable pub judge_of : QuorumCase → ℕ → Commitment → Option Verdict → Option Rule
judge_of c height v verdict = first_of (commitment_rules c height v verdict)
