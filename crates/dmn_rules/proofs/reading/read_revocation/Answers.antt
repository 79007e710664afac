use Rattle.std.proofs.Common.{ap, arith}
use Rattle.std.specs.Option.{option_map}
use Rattle.std.specs.Result.{result_ok}
use Rattle.dmn_bytes.specs.Format.{whole}
use Rattle.dmn_payloads.specs.Fault.{other_version}
use Rattle.dmn_payloads.specs.Payloads.{revoke, revoke_sound}
use Rattle.dmn_rules.specs.declared.provider.Provider.{Provider}
use Rattle.dmn_rules.specs.declared.provider.Provider.TheVariants.{Revoke}
use Rattle.dmn_rules.specs.Payload.{payload_rules, departure_of, provider_of}
use Rattle.dmn_rules.proofs.Forms.{read_ok, read_err, read_placed}
use Rattle.dmn_rules.proofs.reading.read_revocation.Goals as goal

pub broken_by-requires : goal.broken_by-requires
broken_by-requires c = read_placed revoke revoke_sound c.args.payload.now (λ i. omega (arith, c.type_inv.payload i)) 10000 c.requires c.in-Err.fault c.in-Err.ensures.answers

pub returns-in-Ok-clause-rule : goal.returns-in-Ok-clause-rule
unfolding payload_rules departure_of
returns-in-Ok-clause-rule c = (read_ok (other_version c.args.payload.now) (whole revoke c.args.payload.now) c.in-Ok.p c.in-Ok.ensures.answers).0

pub returns-in-Ok-clause-read : goal.returns-in-Ok-clause-read
unfolding provider_of
returns-in-Ok-clause-read c = ap (λ r. option_map (λ v. Revoke v) (result_ok r)) (read_ok (other_version c.args.payload.now) (whole revoke c.args.payload.now) c.in-Ok.p c.in-Ok.ensures.answers).1

pub returns-in-Err-clause-rule : goal.returns-in-Err-clause-rule
unfolding payload_rules departure_of
returns-in-Err-clause-rule c = rw c.broken_by.ensures (read_err Provider (other_version c.args.payload.now) (whole revoke c.args.payload.now) c.in-Err.fault c.in-Err.ensures.answers)
