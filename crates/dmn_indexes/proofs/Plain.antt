-- The indexes are blind to penalties: those of stored rows are those of the rows at each height.
use Rattle.std.proofs.Common.{◌≡◌, ℕ, List, [], ◌∷◌, Option, refl, sym, ap, ◌∙◌}
use Rattle.std.specs.declared.cmp.Ordering.{Ordering}
use Rattle.dmn_bytes.specs.Points.{point_cmp}
use Rattle.dmn_rows.specs.declared.row.MnRow.{MnRow}
use Rattle.dmn_rows.specs.Row.{plain}
use Rattle.dmn_rows.specs.Rows.{plain_rows}
use Rattle.dmn_indexes.specs.Index.{index_of, put_key}
use Rattle.dmn_indexes.specs.Keys.{owner_cmp, operator_cmp, service_cmp, pay_cmp, unconfirmed_cmp, owner_of, operator_of, service_of, collateral_of, pay_of, unconfirmed_of}
use Rattle.dmn_indexes.specs.Stands.{WholeStands}
use Rattle.dmn_indexes.specs.Version.{rows_in}

index_plain : {K : Type 0} (cmp : K → K → Ordering) (key : MnRow → Option K) → ((h : ℕ) (r : MnRow) → key (plain h r) ≡ key r) → (h : ℕ) (rows : List MnRow) → index_of cmp key (plain_rows h rows) ≡ index_of cmp key rows
index_plain cmp key blind h [] = refl
index_plain cmp key blind h (r ∷ rows) =
    ap (λ (k : Option _). put_key cmp k r.hash (index_of cmp key (plain_rows h rows))) (blind h r) ∙ ap (put_key cmp (key r) r.hash) (index_plain cmp key blind h rows)

pub whole_stands : WholeStands
whole_stands ix v h whole penalties =
    let rows = rows_in ix v in
    record {
      rows_read = refl;
      penalties = penalties;
      owner = whole.owner.reads ∙ sym (index_plain owner_cmp owner_of (λ _ _. refl) h rows);
      operator = whole.operator.reads ∙ sym (index_plain operator_cmp operator_of (λ _ _. refl) h rows);
      service = whole.service.reads ∙ sym (index_plain service_cmp service_of (λ _ _. refl) h rows);
      collateral = whole.collateral.reads ∙ sym (index_plain point_cmp collateral_of (λ _ _. refl) h rows);
      payment = whole.payment.reads ∙ sym (index_plain pay_cmp pay_of (λ _ _. refl) h rows);
      unconfirmed = whole.unconfirmed.reads ∙ sym (index_plain unconfirmed_cmp unconfirmed_of (λ _ _. refl) h rows);
      outputs_read = refl;
    }
