-- What is looked up in a list of rows and in a list of outputs, and how the lists change.
use Rattle.std.specs.Prelude.{ℕ, ◌==◌, Bool, not, ◌&&◌, List, Option, None, Some, is_some, find, filter, map, if◌then◌else◌}
use Rattle.std.specs.Option.{option_map}
use Rattle.std.specs.Str.{bytes_eq}
use Rattle.dmn_bytes.specs.Points.{is_zero, hash_cmp, point_cmp}
use Rattle.dmn_bytes.specs.declared.hash.Hash256.{Hash256}
use Rattle.dmn_bytes.specs.declared.points.OutPoint.{OutPoint}
use Rattle.dmn_bytes.specs.declared.points.Pay.{Pay}
use Rattle.dmn_bytes.specs.declared.points.Service.{Service}
use Rattle.dmn_rows.specs.declared.row.MnRow.{MnRow}
use Rattle.dmn_rows.specs.declared.start.StartOutput.{StartOutput}
use Rattle.dmn_rows.specs.Row.{plain}
use Rattle.dmn_rows.specs.Start.{point_of}
use Rattle.dmn_rows.specs.Sorted.{put_sorted}

abbrev pub same_hash : Hash256 → Hash256 → Bool
same_hash a b = bytes_eq a.0 b.0

abbrev pub same_point : OutPoint → OutPoint → Bool
same_point a b = same_hash a.hash b.hash && a.index == b.index

abbrev pub same_service : Service → Service → Bool
same_service a b = bytes_eq a.address b.address && a.port == b.port

-- no service is set
abbrev pub no_service : Service → Bool
no_service s = is_zero s.address && s.port == 0

-- ---- rows

abbrev pub has_hash : Hash256 → MnRow → Bool
has_hash hash r = same_hash r.hash hash

abbrev pub has_owner : List ℕ → MnRow → Bool
has_owner key r = bytes_eq r.owner key

-- a zero key is nobody's
abbrev pub has_operator : List ℕ → MnRow → Bool
has_operator key r = not (is_zero key) && bytes_eq r.operator key

-- a service that isn't set is nobody's
abbrev pub has_service : Service → MnRow → Bool
has_service s r = not (no_service s) && same_service r.service s

abbrev pub has_collateral : OutPoint → MnRow → Bool
has_collateral point r = same_point r.collateral point

-- the first row that passes the test, by its hash
abbrev pub hash_where : (MnRow → Bool) → List MnRow → Option Hash256
hash_where test rows = option_map (λ r. r.hash) (find test rows)

-- stored rows as they are after block h
abbrev pub plain_rows : ℕ → List MnRow → List MnRow
plain_rows h = map (plain h)

-- the row is put in the order of hashes, in the place of the one of its hash where there is one
abbrev pub put_row : MnRow → List MnRow → List MnRow
put_row = put_sorted hash_cmp (λ r. r.hash)

-- the list with a row changed, if it is there
abbrev pub changed : (MnRow → MnRow) → Option MnRow → List MnRow → List MnRow
changed change None rows = rows
changed change (Some row) rows = put_row (change row) rows

-- the rows of other hashes
abbrev pub drop_row : Hash256 → List MnRow → List MnRow
drop_row hash = filter (λ r. not (has_hash hash r))

-- ---- outputs

-- outputs of 1,000 DASH, each with its outpoint and what it pays to
abbrev pub Outputs : Type 0
Outputs = List StartOutput

abbrev pub has_point : OutPoint → StartOutput → Bool
has_point point output = same_point output.point point

abbrev pub output_at : Outputs → OutPoint → Option Pay
output_at outputs point = option_map (λ output. output.pay) (find (has_point point) outputs)

-- the output is put in the order of outpoints; where its outpoint is there already, that output stays
abbrev pub put_output : OutPoint → Pay → Outputs → Outputs
put_output point pays outputs =
    if is_some (find (has_point point) outputs)
    then outputs
    else put_sorted point_cmp point_of (record { point = point; pay = pays }) outputs

-- the outputs at other outpoints
abbrev pub drop_output : OutPoint → Outputs → Outputs
drop_output point = filter (λ output. not (has_point point output))
