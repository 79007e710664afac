-- The entries of rows that show the same.
use Rattle.std.proofs.Common.{◌≡◌, List, [], ◌∷◌, map, refl, sym, ap, ◌∙◌}
use Rattle.dmn_indexes.specs.Parts.{Shown, shown}
use Rattle.dmn_rows.specs.declared.row.MnRow.{MnRow}
use Rattle.dmn_sml.specs.declared.entry.SmlEntry.{SmlEntry}
use Rattle.dmn_sml.specs.Defs.{simple}
use Rattle.dmn_sml.specs.Entry.{entry_of}

-- the entry that shows so
abbrev showing : Shown → SmlEntry
showing s = record { hash = s.hash; confirmed = s.confirmed; service = s.service; operator = s.operator; voting = s.voting; valid = s.valid }

simple_is : (rows : List MnRow) → simple rows ≡ map showing (map shown rows)
simple_is [] = refl
simple_is (row ∷ rows) = ap (λ (entries : List SmlEntry). entry_of row ∷ entries) (simple_is rows)

pub same_entries : (a b : List MnRow) → map shown a ≡ map shown b → simple a ≡ simple b
same_entries a b same = simple_is a ∙ ap (map showing) same ∙ sym (simple_is b)
