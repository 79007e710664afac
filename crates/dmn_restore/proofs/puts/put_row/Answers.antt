use Rattle.std.proofs.Common.{sym, subst, ◌≤◌}
use Rattle.dmn_bytes.specs.Points.{hash_cmp}
use Rattle.dmn_rows.specs.declared.row.MnRow.{MnRow}
use Rattle.dmn_rows.specs.Distinct.{HasDistinctKeys}
use Rattle.dmn_rows.specs.Keys.{row_key}
use Rattle.dmn_rows.specs.Listing.{IsAscending}
use Rattle.dmn_rows.specs.Rows.{has_hash}
use Rattle.dmn_rows.proofs.Keys.{IsAscending-put_row}
use Rattle.dmn_restore.specs.Lists.{hash_of}
use Rattle.dmn_restore.specs.Proper.{HasPenaltiesTo}
use Rattle.dmn_restore.proofs.Free.{all_put, keys_put}
use Rattle.dmn_restore.proofs.puts.put_row.Goals as goal

pub put_row-requires : goal.put_row-requires
put_row-requires c = keys_put c.args.row.now c.args.list.now.rows c.requires.ascending c.requires.keys (c.is_free.ensures.0 c.if-not-is_free.false)

pub returns-clause-ascending : goal.returns-clause-ascending
returns-clause-ascending c = subst IsAscending (sym c.in_ok-put_row.ensures.rows) (IsAscending-put_row c.args.row.now c.args.list.now.rows c.requires.ascending)

pub returns-clause-keys : goal.returns-clause-keys
returns-clause-keys c = subst HasDistinctKeys (sym c.in_ok-put_row.ensures.rows) (keys_put c.args.row.now c.args.list.now.rows c.requires.ascending c.requires.keys (c.is_free.ensures.0 c.if-not-is_free.false))

pub returns-clause-penalties : goal.returns-clause-penalties
returns-clause-penalties c = subst (HasPenaltiesTo c.args.height) (sym c.in_ok-put_row.ensures.rows) (all_put hash_cmp hash_of has_hash row_key (λ (row : MnRow). row.penalty_at ≤ c.args.height) c.args.row.now c.args.list.now.rows c.if-row-height.false c.requires.penalties)
