-- A row that is put where no other is left out.
use Rattle.std.proofs.Common.{◌≡◌, true, List, [], ◌∷◌, filter, None, refl, sym, ap}
use Rattle.dmn_rows.specs.declared.row.MnRow.{MnRow}
use Rattle.dmn_rows.specs.Rows.{put_row}
use Rattle.dmn_rules.specs.declared.effect.Effect.TheVariants.{Register as Registers}
use Rattle.dmn_rules.specs.Change.{applied}

filter-all : (rows : List MnRow) → filter (λ _. true) rows ≡ rows
filter-all [] = refl
filter-all (row ∷ rows) = ap (λ (l : List MnRow). row ∷ l) (filter-all rows)

pub put_alone : (row : MnRow) (rows : List MnRow) → put_row row rows ≡ applied (Registers row None) rows
put_alone row rows = ap (put_row row) (sym (filter-all rows))
