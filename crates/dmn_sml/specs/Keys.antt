-- Hashes are keys of entries.
use Rattle.dmn_bytes.specs.Points.{hash_cmp}
use Rattle.dmn_rows.specs.Keys.{same_hash-is, same_hash-from, hash_cmp_total, hash_exact}
use Rattle.dmn_rows.specs.Sorted.{IsKey}
use Rattle.dmn_sml.specs.declared.entry.SmlEntry.{SmlEntry}
use Rattle.dmn_sml.specs.Defs.{has_hash}

-- entries by hash
pub entry_key : IsKey hash_cmp (λ (e : SmlEntry). e.hash) has_hash
entry_key = record {
  total = hash_cmp_total;
  exact = hash_exact;
  decides = λ hash e same. same_hash-is e.hash hash same;
  decided = λ hash e is. same_hash-from e.hash hash is;
}
