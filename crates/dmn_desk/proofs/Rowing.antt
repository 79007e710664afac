-- The frame of a row.
use Rattle.std.proofs.Common.{◌≡◌, ℕ, ◌<◌, ◌^◌, List, ◌∷◌, ◌++◌, length, take, sym, ap, ◌∙◌, append_assoc, arith}
use Rattle.std.specs.Int.{w32, to_le_bytes}
use Rattle.std.proofs.lemmas.List.{take-append-le, take_all}
use Rattle.dmn_rows.specs.declared.row.MnRow.{MnRow}
use Rattle.dmn_rows.specs.Row.{plain}
use Rattle.dmn_rows.specs.RowText.{HasLengths, row_text}
use Rattle.dmn_rows.proofs.Lengths.{row_length}
use Rattle.dmn_frames.specs.Frames.{framed}

-- at each height a row's fields have their lengths
lengths_plain : (h : ℕ) (r : MnRow) → HasLengths r → HasLengths (plain h r)
lengths_plain h r has = record {
  hash = has.hash;
  confirmed = has.confirmed;
  owner = has.owner;
  operator = has.operator;
  voting = has.voting;
  address = has.address;
  payout = has.payout;
  operator_payout = has.operator_payout;
  collateral = has.collateral;
  script = has.script;
}

text_length : (h : ℕ) (r : MnRow) → HasLengths r → length (row_text h r) ≡ 293
text_length h r has = row_length (plain h r) (lengths_plain h r has)

pub row_fits : (h : ℕ) (r : MnRow) → HasLengths r → length (row_text h r) < 2 ^ 32
row_fits h r has = omega (arith, text_length h r has)

-- the row's text behind a head that has its length
pub row_framed : (h : ℕ) (r : MnRow) (old head put new : List ℕ) → HasLengths r → head ≡ 0 ∷ to_le_bytes w32 293 → put ≡ old ++ head → new ≡ put ++ row_text h r → new ≡ old ++ framed 0 (row_text h r)
unfolding framed
row_framed h r old head put new has is first second =
    let t = row_text h r in
    second
    ∙ ap (λ (l : List ℕ). l ++ t) (first ∙ ap (λ (l : List ℕ). old ++ l) is)
    ∙ append_assoc old (0 ∷ to_le_bytes w32 293) t
    ∙ ap (λ (n : ℕ). old ++ 0 ∷ (to_le_bytes w32 n ++ t)) (sym (text_length h r has))

-- what was put is taken away again
pub taken_back : (old head put : List ℕ) → put ≡ old ++ head → take (length old) put ≡ old
taken_back old head put is = ap (take (length old)) is ∙ take-append-le (length old) old head (omega arith) ∙ take_all (length old) old (omega arith)
