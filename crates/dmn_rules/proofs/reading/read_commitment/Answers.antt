use Rattle.std.proofs.Common.{ℕ, arith}
use Rattle.dmn_bytes.specs.Format.{whole}
use Rattle.dmn_payloads.specs.Fault.{other_version}
use Rattle.dmn_payloads.specs.Commitments.{mined, mined_sound}
use Rattle.dmn_payloads.specs.declared.commitment.Commitment.{Commitment}
use Rattle.dmn_tx.specs.declared.kinds.TheConstants.{LONGEST_PAYLOAD}
use Rattle.dmn_rules.specs.Payload.{payload_rules, departure_of}
use Rattle.dmn_rules.proofs.Forms.{read_ok, read_err, read_placed}
use Rattle.dmn_rules.proofs.reading.read_commitment.Goals as goal

pub broken_by-requires : goal.broken_by-requires
broken_by-requires c = read_placed mined mined_sound c.args.payload.now (λ i. omega (arith, c.type_inv.payload i)) LONGEST_PAYLOAD c.requires c.in-Err.fault c.in-Err.ensures.answers

pub returns-in-Ok-clause-rule : goal.returns-in-Ok-clause-rule
unfolding payload_rules departure_of
returns-in-Ok-clause-rule c = (read_ok (other_version c.args.payload.now) (whole mined c.args.payload.now) c.in-Ok.read c.in-Ok.ensures.answers).0

pub returns-in-Err-clause-rule : goal.returns-in-Err-clause-rule
unfolding payload_rules departure_of
returns-in-Err-clause-rule c = rw c.broken_by.ensures (read_err (ℕ × Commitment) (other_version c.args.payload.now) (whole mined c.args.payload.now) c.in-Err.fault c.in-Err.ensures.answers)
