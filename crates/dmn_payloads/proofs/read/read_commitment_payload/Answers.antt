use Rattle.std.proofs.Common.{drop, refl, ap}
use Rattle.dmn_payloads.specs.Commitments.{mined}
use Rattle.dmn_payloads.specs.Mined.{mined_struct}
use Rattle.dmn_payloads.specs.Payloads.{version_one}
use Rattle.dmn_payloads.proofs.Version.{one_version}
use Rattle.dmn_payloads.proofs.Sets.{as_struct, as_pair, mined_keeps}
use Rattle.dmn_payloads.proofs.read.read_commitment_payload.Goals as goal

pub read_payload-requires : goal.read_payload-requires
unfolding mined_struct mined version_one
read_payload-requires c = λ v fits. one_version 1 (drop 2 (mined_struct.text v)) refl

pub returns-in-Ok-clause-only : goal.returns-in-Ok-clause-only
unfolding mined_struct
returns-in-Ok-clause-only c = λ v fits e. ap as_pair (c.in-Ok.ensures.only (as_struct v) fits e)

pub returns-in-Ok-clause-kept : goal.returns-in-Ok-clause-kept
unfolding mined_struct
returns-in-Ok-clause-kept c = mined_keeps (as_pair c.in-Ok.field-0) c.in-Ok.ensures.found.0

pub returns-in-Err-clause-only : goal.returns-in-Err-clause-only
unfolding mined_struct
returns-in-Err-clause-only c = λ v fits e. c.in-Err.ensures.only (as_struct v) fits e
