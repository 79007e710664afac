-- The bodies of answers.
use Rattle.std.specs.Prelude.{ℕ, List, ◌∷◌, ◌++◌, length, Option, None, Some}
use Rattle.std.specs.List.{flat_map}
use Rattle.std.specs.Int.{w16, w32, to_le_bytes}
use Rattle.dmn_block.specs.declared.refusal.Refusal.{Refusal}
use Rattle.dmn_bytes.specs.declared.hash.Hash256.{Hash256}
use Rattle.dmn_bytes.specs.Format.{hash}
use Rattle.dmn_payloads.specs.declared.commitment.Commitment.{Commitment}
use Rattle.dmn_payloads.specs.Commitments.{commitment}
use Rattle.dmn_rows.specs.Rule.{rule_number}
use Rattle.dmn_sml.specs.declared.entry.SmlEntry.{SmlEntry}
use Rattle.dmn_sml.specs.Entry.{entry}
use Rattle.dmn_desk.specs.RuleFields.{rule_fields}

unfoldable pub connected_body : ℕ → Hash256 → List ℕ
connected_body height hash = to_le_bytes w32 height ++ hash.0

unfoldable pub tip_body : ℕ → Hash256 → ℕ → ℕ → List ℕ
tip_body height hash low top = to_le_bytes w32 height ++ hash.0 ++ to_le_bytes w32 low ++ to_le_bytes w32 top

unfoldable pub held_body : ℕ → ℕ → List ℕ
held_body low high = to_le_bytes w32 low ++ to_le_bytes w32 high

-- the height and its hash, the root, the count of the entries and their texts
unfoldable pub list_body : ℕ → Hash256 → Hash256 → List SmlEntry → List ℕ
list_body height hash root entries = to_le_bytes w32 height ++ hash.0 ++ root.0 ++ to_le_bytes w32 (length entries) ++ flat_map entry.text entries

-- as many items as a count tells
abbrev pub most_items : ℕ
most_items = 65535

-- the count of payees, or of members, and their hashes
unfoldable pub hashes_body : List Hash256 → List ℕ
hashes_body hashes = to_le_bytes w16 (length hashes) ++ flat_map hash.text hashes

-- the count of commitments, and their texts
unfoldable pub quorums_body : List Commitment → List ℕ
quorums_body commitments = to_le_bytes w16 (length commitments) ++ flat_map commitment.text commitments

-- the count of a page's entries, and their texts
unfoldable pub page_body : List SmlEntry → List ℕ
page_body entries = to_le_bytes w16 (length entries) ++ flat_map entry.text entries

-- a transaction's place in its block, or all bits set where the rule names none
abbrev pub place_or_none : Option ℕ → ℕ
place_or_none None = 4294967295
place_or_none (Some tx) = tx

unfoldable pub refused_body : Refusal → List ℕ
refused_body refusal = rule_number refusal.rule ∷ (to_le_bytes w32 (place_or_none refusal.tx) ++ rule_fields refusal.rule)
