-- What is gone and what is new from one list to another, and a list after a change.
use Rattle.std.specs.Prelude.{Bool, false, not, find, ◌&&◌, List, [], ◌∷◌, map, filter}
use Rattle.std.proofs.Math.Bool.{beq}
use Rattle.std.specs.List.{list_any}
use Rattle.std.specs.Option.{option_map_or}
use Rattle.std.specs.Str.{bytes_eq}
use Rattle.std.specs.declared.cmp.Ordering.{Ordering}
use Rattle.dmn_bytes.specs.declared.hash.Hash256.{Hash256}
use Rattle.dmn_bytes.specs.Points.{hash_cmp}
use Rattle.dmn_rows.specs.Sorted.{put_sorted}
use Rattle.dmn_rows.specs.Rows.{same_hash, same_service}
use Rattle.dmn_sml.specs.declared.entry.SmlEntry.{SmlEntry}
use Rattle.dmn_sml.specs.Defs.{has_hash}
use Rattle.dmn_diff.specs.declared.change.ListChange.{ListChange}
use Rattle.dmn_diff.specs.Diff.{hash_of}

-- ---- lists of any values with keys

-- the keys that are in base alone, in their order
abbrev pub gone_by : {K V : Type 0} → (V → K) → (K → V → Bool) → List V → List V → List K
gone_by key has base target = map key (filter (λ b. not (list_any (has (key b)) target)) base)

-- the values of target that aren't in base, in their order
abbrev pub fresh_by : {V : Type 0} → (V → V → Bool) → List V → List V → List V
fresh_by same base target = filter (λ t. not (list_any (same t) base)) target

-- the list without the values of these keys, which are taken away one by one
abbrev pub deletes : {K V : Type 0} → (K → V → Bool) → List K → List V → List V
deletes has [] list = list
deletes has (k ∷ ks) list = deletes has ks (filter (λ v. not (has k v)) list)

-- the list with these values, which are put one by one: each in its place, or in that of the one of its key
abbrev pub puts : {K V : Type 0} → (K → K → Ordering) → (V → K) → List V → List V → List V
puts cmp key [] list = list
puts cmp key (v ∷ vs) list = puts cmp key vs (put_sorted cmp key v list)

-- ---- simplified lists

-- two entries are equal in each field
abbrev pub same_entry : SmlEntry → SmlEntry → Bool
same_entry a b = same_hash a.hash b.hash && (same_hash a.confirmed b.confirmed && (same_service a.service b.service && (bytes_eq a.operator b.operator && (bytes_eq a.voting b.voting && beq a.valid b.valid))))

-- the hashes that are in base alone
abbrev pub gone : List SmlEntry → List SmlEntry → List Hash256
gone = gone_by hash_of has_hash

-- the entries of target that are new or differ
abbrev pub fresh : List SmlEntry → List SmlEntry → List SmlEntry
fresh = fresh_by same_entry

-- base has no entry of this one's hash, or one that differs
abbrev pub is_told : List SmlEntry → SmlEntry → Bool
is_told base t = not (option_map_or (same_entry t) (find (has_hash t.hash) base) false)

-- what changes from base to target
abbrev pub change_of : List SmlEntry → List SmlEntry → ListChange
change_of base target = record { deleted = gone base target; entries = fresh base target }

abbrev pub delete_all : List Hash256 → List SmlEntry → List SmlEntry
delete_all = deletes has_hash

abbrev pub put_all : List SmlEntry → List SmlEntry → List SmlEntry
put_all = puts hash_cmp hash_of

-- a list after a change: what is deleted is taken away one by one, and then the entries are put one by one
abbrev pub changed : List SmlEntry → ListChange → List SmlEntry
changed list change = put_all change.entries (delete_all change.deleted list)
