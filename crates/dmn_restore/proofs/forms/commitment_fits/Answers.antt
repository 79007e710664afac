use Rattle.dmn_restore.proofs.Fitting.{commitment_by}
use Rattle.dmn_restore.proofs.forms.commitment_fits.Goals as goal

pub returns : goal.returns
returns c = λ keeps. commitment_by c.args.value.now c.version_fits.ensures c.kind_fits.ensures c.hash_fits.ensures (c.bits_fit.ensures keeps.0) (c.bits_fit-2.ensures keeps.1) c.key_fits.ensures c.hash_fits-2.ensures c.signature_fits.ensures c.signature_fits-2.ensures
