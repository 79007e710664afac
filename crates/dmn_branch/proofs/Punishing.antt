-- Members that are punished one after another.
use Rattle.std.proofs.Common.{◌≡◌, ℕ, ◌+◌, ◌<◌, Bool, List, length, get_or, drop, find, Some, None, refl, sym, ap, ◌∙◌, add-one, drop-cons, arith}
use Rattle.std.specs.Prelude.{Result, Ok, Err, OnOk}
use Rattle.std.specs.Option.{option_map}
use Rattle.dmn_bytes.specs.declared.hash.Hash256.{Hash256}
use Rattle.dmn_indexes.specs.Parts.{keys_of}
use Rattle.dmn_indexes.specs.Working.{Worked}
use Rattle.dmn_quorums.specs.Bitset.{bit_at}
use Rattle.dmn_rows.specs.declared.row.MnRow.{MnRow}
use Rattle.dmn_rows.specs.Row.{plain}
use Rattle.dmn_rows.specs.Rows.{has_hash, plain_rows, put_row}
use Rattle.dmn_standing.specs.Standing.{core, punish_in, punished}
use Rattle.dmn_standing.proofs.Seen.{punished_found, punished_none}
use Rattle.dmn_branch.specs.Events.{once_there}
use Rattle.dmn_branch.specs.Parts.{punished_at}
use Rattle.dmn_branch.specs.Quorums.{Punished, punish_absent, punish_one, punish_unless}
use Rattle.dmn_branch.proofs.Confirming.{found_keys}
use Rattle.dmn_branch.proofs.Events.{there_seen}

-- the member at a place, and those behind it
pub absent_next : (height : ℕ) (bits : List ℕ) (members : List Hash256) (place : ℕ) (member d : Hash256) (set : Bool) (now next : Punished) → place < length members → member ≡ get_or members place d → set ≡ bit_at bits place → next ≡ punish_unless set height member now
    → punish_absent height bits (place + 1) (drop (place + 1) members) next ≡ punish_absent height bits place (drop place members) now
absent_next height bits members place member d set now next lt is bit so =
    ap (punish_absent height bits (place + 1) (drop (place + 1) members)) (so ∙ ap (λ (b : Bool). punish_unless b height member now) bit ∙ ap (λ (h : Hash256). punish_unless (bit_at bits place) height h now) is)
    ∙ ap (λ (n : ℕ). punish_absent height bits (place + 1) (drop n members) (punish_unless (bit_at bits place) height (get_or members place d) now)) (add-one place)
    ∙ sym (ap (λ (l : List Hash256). punish_absent height bits place l now) (drop-cons members place d lt))

-- a row that is changed in its standing alone keeps its keys
core_keys : (row new : MnRow) → core new ≡ core row → keys_of new ≡ keys_of row
core_keys row new same = ap keys_of same

pub punished_keys : (hash : Hash256) (row new : MnRow) (rows : List MnRow) → find (has_hash hash) rows ≡ Some row → core new ≡ core row → option_map keys_of (find (has_hash new.hash) rows) ≡ Some (keys_of new)
punished_keys hash row new rows found same =
    ap (λ (h : Hash256). option_map keys_of (find (has_hash h) rows)) (ap (λ (r : MnRow). r.hash) same)
    ∙ found_keys hash row rows found ∙ ap (λ k. Some k) (sym (core_keys row new same))

-- the row of a hash was punished
pub punished_row : (height : ℕ) (hash : Hash256) (list new : Worked) (row next : MnRow) → find (has_hash hash) list.rows ≡ Some row → plain height next ≡ punished height (length list.rows) (plain height row) → new.rows ≡ put_row next list.rows → new.events ≡ list.events + 1
    → punished_at height new ≡ punish_one height hash (punished_at height list)
punished_row height hash list new row next found is put more =
    let there : once_there (Some hash) (plain_rows height list.rows) ≡ 1 = there_seen height (Some hash) list.rows ∙ rw found refl in
    let events : new.events ≡ list.events + once_there (Some hash) (plain_rows height list.rows) = omega (arith, more, there) in
    ap (λ (l : List MnRow). record { rows = l; events = new.events }) (ap (plain_rows height) put ∙ punished_found height hash list.rows row next found is)
    ∙ ap (λ (n : ℕ). record { rows = punish_in height hash (plain_rows height list.rows); events = n }) events

-- there is no such row
pub punished_nobody : (height : ℕ) (hash : Hash256) (list : Worked) → find (has_hash hash) list.rows ≡ None → punished_at height list ≡ punish_one height hash (punished_at height list)
punished_nobody height hash list none =
    let there : once_there (Some hash) (plain_rows height list.rows) ≡ 0 = there_seen height (Some hash) list.rows ∙ rw none refl in
    let events : list.events ≡ list.events + once_there (Some hash) (plain_rows height list.rows) = omega (arith, there) in
    ap (λ (l : List MnRow). record { rows = l; events = list.events }) (punished_none height hash list.rows none)
    ∙ ap (λ (n : ℕ). record { rows = punish_in height hash (plain_rows height list.rows); events = n }) events

pub punished_put : {V E : Type 0} (result : Result V E) (height : ℕ) (hash : Hash256) (list new : Worked) (row next : MnRow) → find (has_hash hash) list.rows ≡ Some row → plain height next ≡ punished height (length list.rows) (plain height row) → OnOk result (new.rows ≡ put_row next list.rows) → OnOk result (new.events ≡ list.events + 1)
    → OnOk result (punished_at height new ≡ punish_one height hash (punished_at height list))
punished_put (Ok v) height hash list new row next found is put more = punished_row height hash list new row next found is put more
punished_put (Err e) height hash list new row next found is put more = tt
