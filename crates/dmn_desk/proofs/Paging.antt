-- The frame of a page, its length, and what is told in it.
use Rattle.std.proofs.Common.{◌≡◌, ℕ, ◌+◌, ◌*◌, List, [], ◌∷◌, ◌++◌, length, refl, sym, ap, ◌∙◌, arith}
use Rattle.std.specs.Prelude.{Option, None, Some}
use Rattle.std.specs.Int.{w16, w32, to_le_bytes}
use Rattle.std.specs.List.{flat_map}
use Rattle.std.proofs.lemmas.List.{length-append}
use Rattle.dmn_bytes.specs.declared.hash.Hash256.{Hash256}
use Rattle.dmn_branch.proofs.Stepping.{simple_seen}
use Rattle.dmn_branch.specs.Asked.{IsPageOf}
use Rattle.dmn_branch.specs.Pins.{Pinned}
use Rattle.dmn_indexes.specs.Version.{values}
use Rattle.dmn_rows.specs.declared.row.MnRow.{MnRow}
use Rattle.dmn_sml.specs.declared.entry.SmlEntry.{SmlEntry}
use Rattle.dmn_sml.specs.Defs.{simple}
use Rattle.dmn_sml.specs.Entry.{entry}
use Rattle.dmn_desk.specs.declared.answer.Answer.TheVariants.{Grown, Short}
use Rattle.dmn_desk.specs.declared.answer.GrownAnswer.TheVariants as grown
use Rattle.dmn_desk.specs.declared.answer.ShortAnswer.TheVariants as short
use Rattle.dmn_desk.specs.Ask.{page_by}
use Rattle.dmn_desk.specs.Framed.{page_body}
use Rattle.dmn_frames.specs.Frames.{framed}

-- the count before the entries: 2 bytes
pub page_length : (entries : List SmlEntry) → length (flat_map entry.text entries) ≡ 151 * length entries → length (page_body entries) ≡ 2 + 151 * length entries
unfolding page_body
page_length entries is = omega (arith, is, length-append (to_le_bytes w16 (length entries)) (flat_map entry.text entries))

-- a frame whose length is known before its body is sent
pub page_framed : (n : ℕ) (entries : List SmlEntry) → length (page_body entries) ≡ n → (0 ∷ []) ++ (to_le_bytes w32 n ++ (to_le_bytes w16 (length entries) ++ flat_map entry.text entries)) ≡ framed 0 (page_body entries)
unfolding framed page_body
page_framed n entries is = ap (λ (k : ℕ). 0 ∷ (to_le_bytes w32 k ++ (to_le_bytes w16 (length entries) ++ flat_map entry.text entries))) (sym is)

-- ---- by a branch

pub page_told : (from count : ℕ) (found : Option Pinned) (ps : List (Hash256 × MnRow)) (entries : List SmlEntry) → IsPageOf from count found (Some ps) → entries ≡ simple (values ps) → Grown (grown.Page entries) ≡ page_by from count found
page_told from count None ps entries is made = absurd is
page_told from count (Some pin) ps entries is made =
    ap (λ (l : List SmlEntry). Grown (grown.Page l)) (made ∙ sym (simple_seen pin.height (values ps)) ∙ ap simple is.rows)

pub page_untold : (from count : ℕ) (found : Option Pinned) → IsPageOf from count found None → Short short.PinUnknown ≡ page_by from count found
page_untold from count None is = refl
page_untold from count (Some pin) is = absurd is
