-- A record's kind and body, in the language of formats.
use Rattle.std.proofs.Common.{◌≡◌, ℕ, ◌+◌, ◌-◌, ◌<◌, ◌≤◌, ◌==◌, Bool, true, false, List, ◌∷◌, length, take, refl, ap, ◌∙◌, arith, nat_lt, not, if◌then◌else◌}
use Rattle.std.specs.Prelude.{Option, None, Result, Ok, Err}
use Rattle.std.proofs.lemmas.Bool.{le-ltb, ltb-true, ltb-false, lt-ltb}
use Rattle.std.proofs.lemmas.List.{take_all}
use Rattle.dmn_bytes.specs.Format.{◌>>=◌, fixed, whole}
use Rattle.dmn_bytes.specs.declared.fault.Departure.{Departure}
use Rattle.dmn_bytes.specs.declared.fault.Departure.TheVariants.{Form}
use Rattle.dmn_journal.specs.Entries.{kind_field, body_field, entry_format}
use Rattle.dmn_journal.specs.Journal.{Entry}
use Rattle.dmn_journal.specs.Laws.{EntriesAreByTheirFormat}
use Rattle.dmn_journal.specs.Reading.{connect_departs, hash_departs, entry_departs, place_in}
use Rattle.dmn_journal.specs.declared.limits.TheConstants.{CONNECT, DISCONNECT, LONGEST_BODY}

-- what stands behind the kind was read, or it departs
abbrev finish : ℕ → List ℕ → Result (List ℕ × ℕ) Departure → Option ℕ
finish kind body r =
    let pair : Result ((ℕ × List ℕ) × ℕ) Departure = r >>= λ y. Ok ((kind, y.0), y.1) in
    let entry : Result (Entry × ℕ) Departure = pair >>= λ x. Ok (record { kind = x.0.0; body = x.0.1 }, x.1) in
    let done : Result Entry Departure = entry >>= λ x. if nat_lt x.1 (length (kind ∷ body)) then Err (Form x.1) else Ok x.0 in
    place_in done

read_fixed : (n kind : ℕ) (body : List ℕ) → (fixed n).parse (kind ∷ body) 1 ≡ (if nat_lt (length body) n then Err (Form 1) else Ok (take n body, 1 + n))
read_fixed n kind body =
    let same : length (kind ∷ body) - 1 ≡ length body = omega arith in
    ap (λ (k : ℕ). if◌then◌else◌ {A = Result (List ℕ × ℕ) Departure} (nat_lt k n) (Err (Form 1)) (Ok (take n body, 1 + n))) same

read_rest : (kind : ℕ) (body : List ℕ) → (fixed (length body + 1 - 1)).parse (kind ∷ body) 1 ≡ Ok (body, 1 + length body)
read_rest kind body =
    let same : length body + 1 - 1 ≡ length body = omega arith in
    ap (λ (n : ℕ). (fixed n).parse (kind ∷ body) 1) same
    ∙ read_fixed (length body) kind body
    ∙ ap (λ (b : Bool). if◌then◌else◌ {A = Result (List ℕ × ℕ) Departure} b (Err (Form 1)) (Ok (take (length body) body, 1 + length body))) (le-ltb _ _ (omega arith))
    ∙ ap (λ (l : List ℕ). Ok (l, 1 + length body)) (take_all (length body) body (omega arith))

finished : (kind : ℕ) (body : List ℕ) → finish kind body (Ok (body, 1 + length body)) ≡ None
finished kind body =
    let entry : Entry = record { kind = kind; body = body } in
    ap (λ (b : Bool). place_in (if◌then◌else◌ {A = Result Entry Departure} b (Err (Form (1 + length body))) (Ok entry))) (le-ltb (1 + length body) (length (kind ∷ body)) (omega arith))

module _ (kind : ℕ) (body : List ℕ) where
  -- the body of a Connect
  connect : (b : Bool) → nat_lt LONGEST_BODY (length body) ≡ b → finish kind body (if not (nat_lt LONGEST_BODY (length body)) then Ok (body, 1 + length body) else Err (Form 1)) ≡ connect_departs body
  connect true e = rw e refl
  connect false e = rw e (finished kind body)

  -- a hash
  hash : (b c : Bool) → nat_lt (length body) 32 ≡ b → nat_lt 32 (length body) ≡ c → finish kind body (if nat_lt (length body) 32 then Err (Form 1) else Ok (take 32 body, 33)) ≡ hash_departs body
  hash true c e f = rw e refl
  hash false true e f =
      let more : 32 < length body = ltb-true 32 (length body) f in
      let left : nat_lt 33 (length (kind ∷ body)) ≡ true = lt-ltb 33 (length (kind ∷ body)) (omega (arith, more)) in
      rw (e, f, left) refl
  hash false false e f =
      let most : length body ≤ 32 = ltb-false 32 (length body) f in
      let left : nat_lt 33 (length (kind ∷ body)) ≡ false = le-ltb 33 (length (kind ∷ body)) (omega (arith, most)) in
      rw (e, f, left) refl

  kinds : (b c : Bool) → (kind == CONNECT) ≡ b → (kind == DISCONNECT) ≡ c → place_in (whole (entry_format (length body + 1)) (kind ∷ body)) ≡ entry_departs (record { kind = kind; body = body })
  unfolding entry_format kind_field body_field entry_departs
  kinds true c e f =
      rw (le-ltb (length (kind ∷ body) - 0) 1 (omega arith), e, e) refl
      ∙ ap (λ (r : Result (List ℕ × ℕ) Departure). finish kind body (r >>= λ x. if not (nat_lt LONGEST_BODY (length x.0)) then Ok x else Err (Form 1))) (read_rest kind body)
      ∙ connect (nat_lt LONGEST_BODY (length body)) refl
      ∙ rw e refl
  kinds false true e f =
      rw (le-ltb (length (kind ∷ body) - 0) 1 (omega arith), e, f, e) refl
      ∙ ap (finish kind body) (read_fixed 32 kind body)
      ∙ hash (nat_lt (length body) 32) (nat_lt 32 (length body)) refl refl
      ∙ rw (e, f) refl
  kinds false false e f = rw (le-ltb (length (kind ∷ body) - 0) 1 (omega arith), e, f) refl

pub by_format : EntriesAreByTheirFormat
by_format kind body = kinds kind body (kind == CONNECT) (kind == DISCONNECT) refl refl
