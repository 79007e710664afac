-- A frame's kind and length at the front of a text, and the front of its body.
use Rattle.std.proofs.Common.{◌+◌, ◌-◌, ◌++◌, inl, inr, min, ◌≡◌, ℕ, ◌<◌, ◌≤◌, List, [], ◌∷◌, length, take, drop, get_or, nat_lt, if◌then◌else◌, None, Some, refl, sym, ap, subst, ◌∙◌, arith}
use Rattle.std.specs.Int.{w32, from_le_bytes}
use Rattle.std.proofs.lemmas.Bool.{cases_lt}
use Rattle.std.proofs.lemmas.List.{length-drop, length-take, drop-drop, take_all, take-take, take-append-le}
use Rattle.dmn_outside.specs.Line.{Talk}
use Rattle.dmn_outside.specs.Pieces.{Took, Ended, Filled, Broke}
use Rattle.dmn_frames.specs.Frames.{frame_at}
use Rattle.dmn_frames.specs.Steps.{Emptied, Faulted, Headed}

pub record Five (text : List ℕ) : Type 0 where
  pub kind : ℕ
  pub a : ℕ
  pub b : ℕ
  pub c : ℕ
  pub d : ℕ
  pub rest : List ℕ
  pub is : text ≡ kind ∷ a ∷ b ∷ c ∷ d ∷ rest

-- a text of five bytes or more
five : (text : List ℕ) → 5 ≤ length text → Five text
five (kind ∷ a ∷ b ∷ c ∷ d ∷ rest) long = record { kind = kind; a = a; b = b; c = c; d = d; rest = rest; is = refl }
five [] long = absurd (omega (arith, long))
five (x ∷ []) long = absurd (omega (arith, long))
five (x ∷ y ∷ []) long = absurd (omega (arith, long))
five (x ∷ y ∷ z ∷ []) long = absurd (omega (arith, long))
five (x ∷ y ∷ z ∷ u ∷ []) long = absurd (omega (arith, long))

-- a shorter one begins with no whole frame
pub none_short : (text : List ℕ) → length text < 5 → frame_at text ≡ None
unfolding frame_at
none_short (kind ∷ a ∷ b ∷ c ∷ d ∷ rest) short = absurd (omega (arith, short))
none_short [] short = refl
none_short (x ∷ []) short = refl
none_short (x ∷ y ∷ []) short = refl
none_short (x ∷ y ∷ z ∷ []) short = refl
none_short (x ∷ y ∷ z ∷ u ∷ []) short = refl

frame_of : (kind a b c d : ℕ) (rest : List ℕ) (size : ℕ) → size ≡ from_le_bytes w32 (a ∷ b ∷ c ∷ d ∷ [])
    → frame_at (kind ∷ a ∷ b ∷ c ∷ d ∷ rest) ≡ (if nat_lt (length rest) size then None else Some (record { kind = kind; body = take size rest }, drop size rest))
unfolding frame_at
frame_of kind a b c d rest size e = rw e refl

not_empty : (text : List ℕ) (n : ℕ) → 0 < n → n ≤ length text → text ≡ [] → ⊥
not_empty text n some enough e = omega (arith, ap length e)

pub headed : (buffer : List ℕ) (n size : ℕ) (old new : Talk) → length buffer ≡ 5 → 5 ≤ n → n ≤ 5
    → size ≡ from_le_bytes w32 (get_or buffer 1 0 ∷ get_or buffer 2 0 ∷ get_or buffer 3 0 ∷ get_or buffer 4 0 ∷ [])
    → Filled n buffer old new → Headed (get_or buffer 0 0) size old new
headed buffer n size old new len low high e f =
    let is5 : n ≡ 5 = omega arith in
    let took : Took 5 old new = subst (λ (k : ℕ). Took k old new) is5 f.took in
    let same : take 5 buffer ≡ take 5 old.left = subst (λ (k : ℕ). take k buffer ≡ take k old.left) is5 f.same in
    let t = five old.left took.enough in
    let u = five buffer (omega (arith, len)) in
    let eq : take 5 buffer ≡ u.kind ∷ u.a ∷ u.b ∷ u.c ∷ u.d ∷ [] = ap (take 5) u.is in
    let et : take 5 old.left ≡ t.kind ∷ t.a ∷ t.b ∷ t.c ∷ t.d ∷ [] = ap (take 5) t.is in
    let both : u.kind ∷ u.a ∷ u.b ∷ u.c ∷ u.d ∷ [] ≡ t.kind ∷ t.a ∷ t.b ∷ t.c ∷ t.d ∷ [] = sym eq ∙ same ∙ et in
    let left : new.left ≡ t.rest = ap (λ (s : Talk). s.left) took.after ∙ ap (drop 5) t.is in
    let k : get_or buffer 0 0 ≡ t.kind = ap (λ (l : List ℕ). get_or l 0 0) (u.is) ∙ ap (λ (l : List ℕ). get_or l 0 0) both in
    let a : get_or buffer 1 0 ≡ t.a = ap (λ (l : List ℕ). get_or l 1 0) (u.is) ∙ ap (λ (l : List ℕ). get_or l 1 0) both in
    let b : get_or buffer 2 0 ≡ t.b = ap (λ (l : List ℕ). get_or l 2 0) (u.is) ∙ ap (λ (l : List ℕ). get_or l 2 0) both in
    let c : get_or buffer 3 0 ≡ t.c = ap (λ (l : List ℕ). get_or l 3 0) (u.is) ∙ ap (λ (l : List ℕ). get_or l 3 0) both in
    let d : get_or buffer 4 0 ≡ t.d = ap (λ (l : List ℕ). get_or l 4 0) (u.is) ∙ ap (λ (l : List ℕ). get_or l 4 0) both in
    let size_is : size ≡ from_le_bytes w32 (t.a ∷ t.b ∷ t.c ∷ t.d ∷ []) = e ∙ rw (a, b, c, d) refl in
    record {
      frame = rw (t.is, k, left) (frame_of t.kind t.a t.b t.c t.d t.rest size size_is);
      some = not_empty old.left 5 (omega arith) took.enough;
      taken = ap (λ (s : Talk). s.left) took.after;
      after = subst (λ (l : List ℕ). new ≡ record old { left = l }) (sym (ap (λ (s : Talk). s.left) took.after)) took.after;
    }

-- what was taken up to the end leaves nothing
emptied : (n : ℕ) (buffer : List ℕ) (old new : Talk) → n < length buffer → Filled n buffer old new → Emptied old new
emptied n buffer old new few f = f.took.after ∙ ap (λ (l : List ℕ). record old { left = l }) (sym (ap (λ (s : Talk). s.left) f.took.after) ∙ f.all few)

-- fewer bytes than a frame's kind and length
pub cut_short : (buffer : List ℕ) (n : ℕ) (old new : Talk) → length buffer ≡ 5 → 0 < n → n < 5 → Filled n buffer old new
    → (old.left ≡ [] → ⊥) × (frame_at old.left ≡ None) × Emptied old new
cut_short buffer n old new len low high f =
    let gone : drop n old.left ≡ [] = sym (ap (λ (s : Talk). s.left) f.took.after) ∙ f.all (omega (arith, len)) in
    let short : length old.left < 5 = omega (arith, ap length gone, length-drop n old.left) in
    (not_empty old.left n low f.took.enough, none_short old.left short, emptied n buffer old new (omega (arith, len)) f)

-- no byte at all
pub none_left : (buffer : List ℕ) (n : ℕ) (old new : Talk) → length buffer ≡ 5 → n ≡ 0 → Filled n buffer old new → (old.left ≡ []) × Emptied old new
none_left buffer n old new len none f =
    let gone : drop n old.left ≡ [] = sym (ap (λ (s : Talk). s.left) f.took.after) ∙ f.all (omega (arith, len)) in
    (ap (λ (k : ℕ). drop k old.left) (sym none) ∙ gone, emptied n buffer old new (omega (arith, len)) f)

pub faulted : (n : ℕ) (old new : Talk) → Broke n old new → Faulted old new
faulted n old new b = record { taken = b.taken; after = b.after; own = b.own }

-- ---- the front of a body

-- bytes taken, and then more
pub took_then : (a b n : ℕ) (x y z : Talk) → a + b ≡ n → Took a x y → Took b y z → Took n x z
took_then a b n x y z e t u =
    let left : y.left ≡ drop a x.left = ap (λ (s : Talk). s.left) t.after in
    let len : length y.left ≡ length x.left - a = ap length left ∙ length-drop a x.left in
    record {
      enough = omega (arith, t.enough, u.enough, len, e);
      after = u.after ∙ ap (λ (s : Talk). record s { left = drop b s.left }) t.after ∙ ap (λ (l : List ℕ). record x { left = l }) (drop-drop b a x.left ∙ ap (λ (k : ℕ). drop k x.left) e);
    }

-- the input ended before the buffer was full
pub short_front : (n want size : ℕ) (buffer : List ℕ) (x y : Talk) → want ≤ size → length buffer ≡ want → n < want → Filled n buffer x y → Ended size x y
short_front n want size buffer x y le len few f =
    let gone : drop n x.left ≡ [] = sym (ap (λ (s : Talk). s.left) f.took.after) ∙ f.all (omega (arith, len)) in
    record { few = omega (arith, ap length gone, length-drop n x.left); after = emptied n buffer x y (omega (arith, len)) f }

-- the input ended behind the buffer
pub ended_behind : (a b n : ℕ) (x y z : Talk) → a + b ≡ n → Took a x y → Ended b y z → Ended n x z
ended_behind a b n x y z e t u =
    let left : y.left ≡ drop a x.left = ap (λ (s : Talk). s.left) t.after in
    let len : length y.left ≡ length x.left - a = ap length left ∙ length-drop a x.left in
    record { few = omega (arith, t.enough, u.few, len, e); after = u.after ∙ ap (λ (s : Talk). record s { left = [] }) t.after }

-- the line broke behind bytes that were taken
pub faulted_behind : (a : ℕ) (x y z : Talk) → y ≡ record x { left = drop a x.left } → Faulted y z → Faulted x z
faulted_behind a x y z e f =
    let left : y.left ≡ drop a x.left = ap (λ (s : Talk). s.left) e in
    record {
      taken = a + f.taken;
      after = f.after ∙ ap (λ (s : Talk). record s { left = drop f.taken s.left; own = z.own }) e ∙ ap (λ (l : List ℕ). record x { left = l; own = z.own }) (drop-drop f.taken a x.left);
      own = f.own;
    }

front_of_front : (want size : ℕ) (l : List ℕ) → want ≡ min size 64 → take 64 (take size l) ≡ take want l
front_of_front want size l e =
    let small : size < 64 → size ≡ want = λ (lt : size < 64). omega arith in
    let large : 64 ≤ size → 64 ≡ want = λ (le : 64 ≤ size). omega arith in
    elim (cases_lt size 64) [
      | inl lt ↦ take_all 64 (take size l) (omega (arith, length-take size l)) ∙ ap (λ (k : ℕ). take k l) (small lt)
      | inr le ↦ take-take 64 size l le ∙ ap (λ (k : ℕ). take k l) (large le)
    ]

-- the front of a buffer that is full is the front of what was to come
pub front_is : (n want size : ℕ) (buffer post front : List ℕ) (x y : Talk) → want ≡ min size 64 → length buffer ≡ want → want ≤ n → n ≤ length buffer → Filled n buffer x y → front ≡ take want (buffer ++ post) → front ≡ take 64 (take size x.left)
front_is n want size buffer post front x y e len full room f h =
    let same : n ≡ want = omega (arith, len) in
    h ∙ take-append-le want buffer post (omega (arith, len)) ∙ ap (λ (k : ℕ). take k buffer) (sym same) ∙ f.same ∙ ap (λ (k : ℕ). take k x.left) same ∙ sym (front_of_front want size x.left e)
