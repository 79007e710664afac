-- What isn't there leaves a list as it is where it is dropped.
use Rattle.std.proofs.Common.{◌≡◌, Bool, true, false, not, List, find, Option, Some, None, Bor, refl, sym, ap, ◌∙◌}
use Rattle.std.specs.Prelude.{is_some}
use Rattle.std.specs.Option.{option_map, option_copied}
use Rattle.dmn_bytes.specs.declared.hash.Hash256.{Hash256}
use Rattle.dmn_bytes.specs.declared.points.OutPoint.{OutPoint}
use Rattle.dmn_bytes.specs.declared.points.Pay.{Pay}
use Rattle.dmn_rows.specs.declared.row.MnRow.{MnRow}
use Rattle.dmn_rows.specs.declared.start.StartOutput.{StartOutput}
use Rattle.dmn_rows.specs.Rows.{Outputs, has_hash, has_point, output_at, drop_row, drop_output}
use Rattle.dmn_rows.proofs.Lookups.{filter_none}

-- a look-up that gave nothing found none
none_of : {A B : Type 0} (f : A → B) (o : Option A) → is_some (option_map f o) ≡ false → o ≡ None
none_of f None none = refl
none_of f (Some x) none = cc

copied_none : {A : Type 0} (o : Option (Bor A)) (p : Option A) → option_copied o ≡ p → is_some o ≡ false → p ≡ None
copied_none None p e none = sym e
copied_none (Some x) p e none = cc

pub no_row : (hash : Hash256) (rows : List MnRow) (o : Option (Bor MnRow)) (absent : Bool) → option_copied o ≡ find (has_hash hash) rows → is_some o ≡ not absent → absent ≡ true → rows ≡ drop_row hash rows
no_row hash rows o absent is test none = sym (filter_none (has_hash hash) rows (copied_none o (find (has_hash hash) rows) is (test ∙ ap not none)))

pub no_output : (point : OutPoint) (outputs : Outputs) (o : Option Pay) (absent : Bool) → o ≡ output_at outputs point → is_some o ≡ not absent → absent ≡ true → outputs ≡ drop_output point outputs
no_output point outputs o absent is test none =
    sym (filter_none (has_point point) outputs (none_of (λ (output : StartOutput). output.pay) (find (has_point point) outputs) (sym (ap is_some is) ∙ test ∙ ap not none)))
