-- The text of a frame is cut as that frame.
use Rattle.std.proofs.Common.{◌≡◌, ℕ, ◌^◌, ◌<◌, ◌≤◌, List, ◌∷◌, ◌++◌, length, take, drop, refl, ap, ◌∙◌, append_assoc, arith}
use Rattle.std.specs.Prelude.{Some}
use Rattle.std.specs.Int.{w32, from_le_bytes, to_le_bytes}
use Rattle.std.proofs.lemmas.Bool.{le-ltb}
use Rattle.std.proofs.lemmas.List.{drop-append-le, drop_all, length-append, take-append-le, take_all}
use Rattle.std.proofs.lemmas.Nat.{from_le_bytes-to_le_bytes_4}
use Rattle.dmn_frames.specs.Frames.{frame_at, framed}

-- a frame at the front of a text, by its size in four bytes
pub frame_by : (kind size : ℕ) (body rest : List ℕ) → size < 2 ^ 32 → size ≡ length body → frame_at (kind ∷ (to_le_bytes w32 size ++ (body ++ rest))) ≡ Some (record { kind = kind; body = body }, rest)
unfolding frame_at
frame_by kind size body rest fits is =
    let back : from_le_bytes w32 (to_le_bytes w32 size) ≡ size = from_le_bytes-to_le_bytes_4 size fits in
    let enough : size ≤ length (body ++ rest) = omega (arith, length-append body rest) in
    let front : take size (body ++ rest) ≡ body = take-append-le size body rest (omega arith) ∙ take_all size body (omega arith) in
    let behind : drop size (body ++ rest) ≡ rest = drop-append-le size body rest (omega arith) ∙ ap (λ (l : List ℕ). l ++ rest) (drop_all size body (omega arith)) in
    rw (back, le-ltb (length (body ++ rest)) size enough, front, behind) refl

-- what follows a frame's text is what is left behind the frame
pub framed_first : (kind : ℕ) (body rest : List ℕ) → length body < 2 ^ 32 → frame_at (framed kind body ++ rest) ≡ Some (record { kind = kind; body = body }, rest)
unfolding framed
framed_first kind body rest fits = ap (λ (l : List ℕ). frame_at (kind ∷ l)) (append_assoc (to_le_bytes w32 (length body)) body rest) ∙ frame_by kind (length body) body rest fits refl
