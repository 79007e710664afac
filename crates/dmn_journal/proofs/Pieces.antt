-- Bytes of a file that are read one piece after another.
use Rattle.std.proofs.Common.{◌≡◌, ℕ, ◌+◌, ◌≤◌, ◌<◌, List, ◌++◌, length, take, drop, sym, ap, ◌∙◌, arith}
use Rattle.std.proofs.lemmas.List.{drop-drop, length-drop, take_all, take-append-le}
use Rattle.std.proofs.Math.Seq.{take-add}
use Rattle.dmn_outside.specs.Changes.{ReadsAt}

read_then : (file : List ℕ) (at done n : ℕ) (text more : List ℕ) → text ≡ take done (drop at file) → more ≡ take n (drop (at + done) file) → text ++ more ≡ take (done + n) (drop at file)
read_then file at done n text more is then = rw (is, then) (ap (λ (l : List ℕ). take done (drop at file) ++ take n l) (sym (drop-drop done at file)) ∙ sym (take-add done n (drop at file)))

-- what was read, and then a piece
pub piece_more : (file : List ℕ) (at done place n : ℕ) (text after out rest was : List ℕ) → place ≡ at + done → n ≤ length out → text ≡ take done (drop at file) → after ≡ text ++ take n (out ++ rest) → ReadsAt file place n was out → after ≡ take (done + n) (drop at file)
piece_more file at done place n text after out rest was e room is more r =
    more ∙ ap (λ (l : List ℕ). text ++ l) (take-append-le n out rest room) ∙ read_then file at done n text (take n out) is (r.front ∙ ap (λ (k : ℕ). take n (drop k file)) e)

-- and the file ends there
pub piece_last : (file : List ℕ) (at done place n room len : ℕ) (text after out rest was : List ℕ) → place ≡ at + done → n ≤ length out → n < room → length was ≡ room → done + room ≤ len → text ≡ take done (drop at file) → after ≡ text ++ take n (out ++ rest)
    → ReadsAt file place n was out → after ≡ take len (drop at file)
piece_last file at done place n room len text after out rest was e fits few long within is more r =
    let ends : length (drop at file) ≤ done + n = omega (arith, r.count, length-drop at file, long, e) in
    piece_more file at done place n text after out rest was e fits is more r ∙ take_all (done + n) (drop at file) ends ∙ sym (take_all len (drop at file) (omega (arith, ends)))
