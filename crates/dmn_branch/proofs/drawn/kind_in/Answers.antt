use Rattle.std.proofs.Common.{◌∙◌, arith}
use Rattle.dmn_branch.proofs.Unasked.{kind_found, kind_none}
use Rattle.dmn_branch.proofs.drawn.kind_in.Goals as goal

pub returns-in-Ok : goal.returns-in-Ok
returns-in-Ok c = c.kind_mined.ensures ∙ kind_found c.args.payload.now (c.in-Ok.field-0-0, c.in-Ok.commitment) c.in-Ok.ensures.found

pub returns-in-Err-PayloadVersion : goal.returns-in-Err-PayloadVersion
returns-in-Err-PayloadVersion c = kind_none c.args.payload.now c.in-Err-PayloadVersion.field-0 (λ i. omega (arith, c.type_inv.payload i)) c.in-Err-PayloadVersion.ensures.only (λ e. let is = c.in-Err-PayloadVersion.field-0-is in absurd cc)

pub returns-in-Err-PayloadForm : goal.returns-in-Err-PayloadForm
returns-in-Err-PayloadForm c = kind_none c.args.payload.now c.in-Err-PayloadForm.field-0 (λ i. omega (arith, c.type_inv.payload i)) c.in-Err-PayloadForm.ensures.only (λ e. let is = c.in-Err-PayloadForm.field-0-is in absurd cc)
