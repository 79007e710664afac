-- A text is cut into frames in one way.
use Rattle.std.proofs.Common.{◌≡◌, ℕ, suc, zero, ◌+◌, ◌<◌, ◌≤◌, Bool, true, false, cond, List, [], ◌∷◌, length, take, drop, nat_lt, Option, None, Some, refl, sym, ap, subst, ◌∙◌, arith}
use Rattle.std.specs.Int.{w32, from_le_bytes}
use Rattle.std.proofs.lemmas.List.{length-drop}
use Rattle.dmn_frames.specs.Frames.{Frame, frame_at, Begins, Cuts}
use Rattle.dmn_frames.specs.Laws.{EachTextIsCutOnce}

abbrev some : {A : Type 0} → A → Option A
some x = Some x

some_is : {A : Type 0} (x y : A) → some x ≡ some y → x ≡ y
some_is x y e = cc

tail_shorter : (b : Bool) (frame : Frame) (tail : List ℕ) (p : Frame × List ℕ) → cond b None (Some (frame, tail)) ≡ Some p → p.1 ≡ tail
tail_shorter true frame tail p e = absurd cc
tail_shorter false frame tail p e = ap (λ (q : Frame × List ℕ). q.1) (sym (some_is (frame, tail) p e))

-- what follows a frame is shorter than the text
after_shorter : (text : List ℕ) (p : Frame × List ℕ) → frame_at text ≡ Some p → length p.1 < length text
unfolding frame_at
after_shorter (kind ∷ a ∷ b ∷ c ∷ d ∷ rest) p e =
    let size = from_le_bytes w32 (a ∷ b ∷ c ∷ d ∷ []) in
    let t = tail_shorter (nat_lt (length rest) size) (record { kind = kind; body = take size rest }) (drop size rest) p e in
    omega (arith, ap length t, length-drop size rest)
after_shorter [] p e = absurd cc
after_shorter (x ∷ []) p e = absurd cc
after_shorter (x ∷ y ∷ []) p e = absurd cc
after_shorter (x ∷ y ∷ z ∷ []) p e = absurd cc
after_shorter (x ∷ y ∷ z ∷ u ∷ []) p e = absurd cc

abbrev Cut : List ℕ → Type 0
Cut text = (frames : List Frame) × (left : List ℕ) × Cuts text frames left

cut_more : (text : List ℕ) (p : Frame × List ℕ) → frame_at text ≡ Some p → Cut p.1 → Cut text
cut_more text p e c = (p.0 ∷ c.0, c.1, record { front = (p.1, e, c.2.front); partial = c.2.partial })

cut_none : (text : List ℕ) → frame_at text ≡ None → Cut text
cut_none text e = ([], text, record { front = refl; partial = e })

cut_at : (text : List ℕ) (found : Option (Frame × List ℕ)) → frame_at text ≡ found → ((p : Frame × List ℕ) → frame_at text ≡ Some p → Cut p.1) → Cut text
cut_at text None e others = cut_none text e
cut_at text (Some p) e others = cut_more text p e (others p e)

cut_by : (fuel : ℕ) (text : List ℕ) → length text < fuel → Cut text
cut_by zero text short = absurd (omega (arith, short))
cut_by (suc fuel) text short = cut_at text (frame_at text) refl (λ p e. cut_by fuel p.1 (omega (arith, after_shorter text p e, short)))

pub same_cut : (text : List ℕ) (frames others : List Frame) (left rest : List ℕ) → Begins text frames left → frame_at left ≡ None → Begins text others rest → frame_at rest ≡ None → (frames ≡ others) × (left ≡ rest)
same_cut text [] [] left rest b p c q = (refl, b ∙ sym c)
same_cut text [] (g ∷ others) left rest b p c q = let e : frame_at text ≡ None = ap frame_at (sym b) ∙ p in absurd (cc (c.1))
same_cut text (f ∷ frames) [] left rest b p c q = let e : frame_at text ≡ None = ap frame_at (sym c) ∙ q in absurd (cc (b.1))
same_cut text (f ∷ frames) (g ∷ others) left rest b p c q =
    let e = some_is (f, b.0) (g, c.0) (sym b.1 ∙ c.1) in
    let afters : b.0 ≡ c.0 = ap (λ (r : Frame × List ℕ). r.1) e in
    let heads : f ≡ g = ap (λ (r : Frame × List ℕ). r.0) e in
    let both = same_cut b.0 frames others left rest b.2 p (subst (λ (t : List ℕ). Begins t others rest) (sym afters) c.2) q in
    (rw (heads, both.0) refl, both.1)

pub each_text_is_cut_once : EachTextIsCutOnce
each_text_is_cut_once text = (cut_by (length text + 1) text (omega arith), λ frames others left rest c d. same_cut text frames others left rest c.front c.partial d.front d.partial)

-- frames at the front of a text are at most those of its cut
pub front_shorter : (text : List ℕ) (frames others : List Frame) (left rest : List ℕ) → Begins text frames left → Begins text others rest → frame_at rest ≡ None → length frames ≤ length others
front_shorter text [] others left rest b c q = omega arith
front_shorter text (f ∷ frames) [] left rest b c q = let e : frame_at text ≡ None = ap frame_at (sym c) ∙ q in absurd (cc (b.1))
front_shorter text (f ∷ frames) (g ∷ others) left rest b c q =
    let e = some_is (f, b.0) (g, c.0) (sym b.1 ∙ c.1) in
    let afters : b.0 ≡ c.0 = ap (λ (r : Frame × List ℕ). r.1) e in
    let shorter = front_shorter b.0 frames others left rest b.2 (subst (λ (t : List ℕ). Begins t others rest) (sym afters) c.2) q in
    omega (arith, shorter)

pub nothing_at_end : frame_at [] ≡ None
unfolding frame_at
nothing_at_end = refl
