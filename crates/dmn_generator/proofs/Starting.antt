-- The start record is in its form.
use Rattle.std.proofs.Common.{rules}
use Rattle.dmn_bytes.specs.Format.{SeriesFits}
use Rattle.dmn_rows.specs.Defs.{IsStart}
use Rattle.dmn_rows.specs.Start.{count_field, first_field, hash_field, outputs_field, profile_field, start_record, version_field}
use Rattle.dmn_generator.specs.Blocks.{start}

pub start_is : IsStart start
unfolding SeriesFits start_record version_field profile_field first_field hash_field outputs_field count_field
start_is = search rules
