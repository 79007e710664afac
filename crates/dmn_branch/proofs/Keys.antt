-- The row of a collateral, among rows of distinct keys.
use Rattle.std.proofs.Common.{◌≡◌, not, List, filter, find, Option, Some, None, refl, sym, ap, ◌∙◌}
use Rattle.std.specs.Option.{option_map}
use Rattle.dmn_bytes.specs.declared.hash.Hash256.{Hash256}
use Rattle.dmn_bytes.specs.declared.points.OutPoint.{OutPoint}
use Rattle.dmn_rows.specs.declared.row.MnRow.{MnRow}
use Rattle.dmn_rows.specs.Distinct.{HasDistinctKeys}
use Rattle.dmn_rows.specs.Rows.{has_collateral, hash_where, drop_row}
use Rattle.dmn_rules.specs.Provider.{is_hash}
use Rattle.dmn_rules.proofs.Seen.{filter_none, filter-found, same_collaterals}

-- leaving out the hash of the row that has the collateral is leaving out the collateral
pub drop_found : (point : OutPoint) (found : Hash256) (rows : List MnRow) → HasDistinctKeys rows → hash_where (has_collateral point) rows ≡ Some found → drop_row found rows ≡ filter (λ row. not (has_collateral point row)) rows
drop_found point found rows keys is =
    ap (λ (o : Option Hash256). filter (λ (r : MnRow). not (is_hash o r.hash)) rows) (sym is)
    ∙ filter-found (has_collateral point) (λ r. has_collateral r.collateral) (same_collaterals point) rows keys.collaterals keys.hashes

none_where : (o : Option MnRow) → option_map (λ r. r.hash) o ≡ None → o ≡ None
none_where None e = refl
none_where (Some r) e = absurd cc

-- where no row has it, nothing is left out
pub drop_none : (point : OutPoint) (rows : List MnRow) → hash_where (has_collateral point) rows ≡ None → filter (λ row. not (has_collateral point row)) rows ≡ rows
drop_none point rows none = filter_none (has_collateral point) rows (none_where (find (has_collateral point) rows) none)
