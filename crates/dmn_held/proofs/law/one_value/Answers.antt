use Rattle.std.proofs.Common.{sym, ap, ◌∙◌}
use Rattle.dmn_bytes.specs.Format.{whole}
use Rattle.dmn_bytes.specs.Sound.{ok_is}
use Rattle.dmn_held.specs.Snapshot.{snapshot, snapshot_to_end}
use Rattle.dmn_held.specs.ToEnd.{whole_to_end_again}
use Rattle.dmn_held.proofs.law.one_value.Goals as goal

pub returns : goal.returns
returns c = λ a b fits_a fits_b same. ok_is a b (sym (whole_to_end_again snapshot snapshot_to_end a fits_a) ∙ ap (whole snapshot) same ∙ whole_to_end_again snapshot snapshot_to_end b fits_b)
