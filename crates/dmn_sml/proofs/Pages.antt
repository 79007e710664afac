-- A text that fills a page.
use Rattle.std.proofs.Common.{◌≡◌, ℕ, List, [], ◌∷◌, ◌++◌, length, refl, sym, ◌∙◌, arith}
use Rattle.std.proofs.lemmas.List.{length-append, take_all}
use Rattle.std.specs.Int.{w16, to_be_bytes}
use Rattle.dmn_bytes.specs.Points.{service}
use Rattle.dmn_sml.specs.declared.entry.SmlEntry.{SmlEntry}
use Rattle.dmn_sml.specs.Entry.{entry, fields, flag_byte}
use Rattle.dmn_sml.specs.Page.{Holds, HasLengths}

pub nothing_held : (bytes : List ℕ) (len : ℕ) → len ≡ 0 → Holds bytes len []
nothing_held bytes len is = λ le. (is, rw is refl)

pub page_filled : (bytes text : List ℕ) (len : ℕ) → length bytes ≡ 151 → length text ≡ 151 → Holds bytes len text → bytes ≡ text
page_filled bytes text len full whole held =
    let both = held (omega arith) in
    sym (take_all len bytes (omega (arith, both.0))) ∙ both.1

pub entry_length : (e : SmlEntry) → HasLengths e → length (entry.text e) ≡ 151
unfolding entry fields service
entry_length e has =
    omega (
      arith,
      has.hash,
      has.confirmed,
      has.address,
      has.operator,
      has.voting,
      length-append e.hash.0 (e.confirmed.0 ++ (e.service.address ++ to_be_bytes w16 e.service.port ++ (e.operator ++ (e.voting ++ flag_byte e.valid ∷ [])))),
      length-append e.confirmed.0 (e.service.address ++ to_be_bytes w16 e.service.port ++ (e.operator ++ (e.voting ++ flag_byte e.valid ∷ []))),
      length-append (e.service.address ++ to_be_bytes w16 e.service.port) (e.operator ++ (e.voting ++ flag_byte e.valid ∷ [])),
      length-append e.service.address (to_be_bytes w16 e.service.port),
      length-append e.operator (e.voting ++ flag_byte e.valid ∷ []),
      length-append e.voting (flag_byte e.valid ∷ []),
    )
