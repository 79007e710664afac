use Rattle.std.proofs.Common.{drop}
use Rattle.dmn_payloads.specs.Payloads.{up_serv, version_one}
use Rattle.dmn_payloads.proofs.Version.{one_version}
use Rattle.dmn_payloads.proofs.read.read_up_serv.Goals as goal

pub read_payload-requires : goal.read_payload-requires
unfolding up_serv version_one
read_payload-requires c = λ v fits. one_version v.version (drop 2 (up_serv.text v)) fits.0.1
