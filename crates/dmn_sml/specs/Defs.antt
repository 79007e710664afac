-- The simplified list of masternodes (DIP-0004), as a list of entries. A reader begins here; the other parts are
--   Entry  the entry of a row, and the format of an entry
--   Keys   that an entry goes by its hash
--   Page   what a sink of one entry's size holds
use Rattle.std.specs.Prelude.{Bool, not, List, map, filter}
use Rattle.std.specs.Str.{bytes_eq}
use Rattle.dmn_bytes.specs.Hash.{dsha}
use Rattle.dmn_bytes.specs.Points.{hash_cmp}
use Rattle.dmn_bytes.specs.declared.hash.Hash256.{Hash256}
use Rattle.dmn_merkle.specs.Defs.{merkle_root}
use Rattle.dmn_rows.specs.declared.row.MnRow.{MnRow}
use Rattle.dmn_rows.specs.Sorted.{Ascends, put_sorted}
use Rattle.dmn_sml.specs.declared.entry.SmlEntry.{SmlEntry}
use Rattle.dmn_sml.specs.Entry.{entry, entry_of}

abbrev pub has_hash : Hash256 → SmlEntry → Bool
has_hash hash e = bytes_eq e.hash.0 hash.0

-- each hash is below all that follow it
abbrev pub IsAscending : List SmlEntry → Type 0
IsAscending = Ascends hash_cmp (λ e. e.hash)

-- the simplified list of a list of rows
abbrev pub simple : List MnRow → List SmlEntry
simple = map entry_of

-- after a put: the entry stands behind those of lower hashes and before those of higher ones
abbrev pub put_entry : SmlEntry → List SmlEntry → List SmlEntry
put_entry = put_sorted hash_cmp (λ e. e.hash)

-- after a delete: the others
abbrev pub delete_hash : Hash256 → List SmlEntry → List SmlEntry
delete_hash hash = filter (λ e. not (has_hash hash e))

-- the hash of an entry's text
unfoldable pub leaf : SmlEntry → Hash256
leaf e = record { 0 = dsha (entry.text e) }

-- the root of a list, in the coinbase of the block that has the list
abbrev pub root_of : List SmlEntry → Hash256
root_of list = merkle_root (map leaf list)
