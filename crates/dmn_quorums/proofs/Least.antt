-- The table of rules on a commitment: its numbers ascend, and each is that of its rule.
use Rattle.std.proofs.Common.{ℕ, Option, None, Some, refl, arith}
use Rattle.std.specs.Prelude.{◌==◌, not}
use Rattle.dmn_bytes.specs.declared.hash.Hash256.{Hash256}
use Rattle.dmn_payloads.specs.declared.commitment.Commitment.{Commitment}
use Rattle.dmn_payloads.specs.Commitments.{is_null}
use Rattle.dmn_rows.specs.declared.profile.QuorumParams.{QuorumParams}
use Rattle.dmn_rows.specs.declared.rule.Rule.TheVariants.{QuorumVersion, QuorumHeight, QuorumWindow, QuorumBase, QuorumSecond, QuorumDone, QuorumBits, QuorumFew}
use Rattle.dmn_rows.specs.declared.verdict.Verdict.{Verdict}
use Rattle.dmn_rows.specs.Order.{TellsLeast}
use Rattle.dmn_rows.specs.Rows.{same_hash}
use Rattle.dmn_rows.specs.Rule.{rule_number}
use Rattle.dmn_rows.specs.Signed.{verdict_rules}
use Rattle.dmn_rows.proofs.Order.{Tells, Lies, Lies-append, Lies_unless, tells_when, first_tells_least}
use Rattle.dmn_rows.proofs.Verdicts.{lies_verdict}
use Rattle.dmn_quorums.specs.declared.case.QuorumCase.{QuorumCase}
use Rattle.dmn_quorums.specs.Rules.{quorum_bits, quorum_few, typed_rules, type_rules, commitment_rules, judge_of}

lies_signed : (verdict : Option Verdict) (digest : Hash256) → Lies rule_number 71 75 (verdict_rules verdict 4 digest)
unfolding verdict_rules
lies_signed verdict digest = record { holds = refl; told = (lies_verdict verdict 4 digest).told }

tells_bits : (params : QuorumParams) (members : ℕ) (v : Commitment) → Tells rule_number 70 (quorum_bits params members v)
unfolding quorum_bits rule_number
tells_bits params members v = tells_when rule_number _ QuorumBits

tells_few : (params : QuorumParams) (v : Commitment) → Tells rule_number 71 (quorum_few params v)
unfolding quorum_few rule_number
tells_few params v = tells_when rule_number _ QuorumFew

lies_typed : (params : QuorumParams) (c : QuorumCase) (height : ℕ) (v : Commitment) → Lies rule_number 63 71 (typed_rules params c height v)
unfolding typed_rules rule_number
lies_typed params c height v = record {
  holds = refl;
  told = (
    tells_when rule_number (not (c.payload_height == height)) (QuorumHeight c.payload_height),
    (
      tells_when rule_number (not c.in_window) QuorumWindow,
      (
        tells_when rule_number (not (same_hash v.quorum c.base_hash)) (QuorumBase c.base_hash),
        (
          tells_when rule_number c.already QuorumSecond,
          (tells_when rule_number c.done QuorumDone, (tells_bits params c.members v, (tells_few params v, tt))),
        ),
      ),
    ),
  );
}

lies_by_type : (o : Option QuorumParams) (c : QuorumCase) (height : ℕ) (v : Commitment) (verdict : Option Verdict) → Lies rule_number 63 75 (type_rules o c height v verdict)
unfolding rule_number
lies_by_type None c height v verdict = record { holds = refl; told = (refl, tt) }
lies_by_type (Some params) c height v verdict =
    Lies-append rule_number 63 71 75 _ _ (lies_typed params c height v)
    (Lies_unless rule_number (is_null v) 71 71 75 _ (omega arith) (omega arith) (lies_signed verdict c.digest))

lies_all : (c : QuorumCase) (height : ℕ) (v : Commitment) (verdict : Option Verdict) → Lies rule_number 62 75 (commitment_rules c height v verdict)
unfolding rule_number
lies_all c height v verdict =
    let rest = lies_by_type c.params c height v verdict in
    record { holds = rest.holds; told = (tells_when rule_number (not (v.version == 1)) (QuorumVersion v.version), rest.told) }

pub judge_tells_least : (c : QuorumCase) (height : ℕ) (v : Commitment) (verdict : Option Verdict) → TellsLeast rule_number (commitment_rules c height v verdict) (judge_of c height v verdict)
unfolding judge_of
judge_tells_least c height v verdict = first_tells_least rule_number 62 75 (commitment_rules c height v verdict) (lies_all c height v verdict)
