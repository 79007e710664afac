-- Where the head of a request ends, and how much of a caller's bytes is read for it.
use Rattle.std.specs.Prelude.{◌≡◌, ℕ, ◌+◌, ◌-◌, ◌<◌, ◌≤◌, Bool, true, false, ◌&&◌, ◌==◌, List, length, slice_index}
use Rattle.dmn_head.specs.declared.head.Cut.{Cut}
use Rattle.dmn_head.specs.declared.head.Cut.TheVariants as cuts

-- as many bytes as a head may have
abbrev pub head_limit : ℕ
head_limit = 8192

-- CR LF CR LF stands at this place
abbrev pub ends_at : List ℕ → ℕ → Bool
ends_at text n = (slice_index text n == 13) && (slice_index text (n + 1) == 10) && (slice_index text (n + 2) == 13) && (slice_index text (n + 3) == 10)

-- no CR LF CR LF lies within so many bytes
abbrev pub NoEnd : ℕ → List ℕ → Type 0
NoEnd within text = (k : ℕ) → k + 4 ≤ within → ends_at text k ≡ false

-- the first CR LF CR LF is the end of the first so many bytes
pub record EndsFirst (text : List ℕ) (size : ℕ) : Type 0 where
  pub four : 4 ≤ size
  pub here : ends_at text (size - 4) ≡ true
  pub first : (k : ℕ) → k + 4 < size → ends_at text k ≡ false

-- The head of a caller's whole input: it has this size; or its end does not come within the limit; or the input ends
-- before its end.
abbrev pub IsCut : List ℕ → Cut → Type 0
IsCut text (cuts.Whole size) = EndsFirst text size × (size ≤ head_limit)
IsCut text cuts.TooLong = (head_limit ≤ length text) × NoEnd head_limit text
IsCut text cuts.Short = (length text < head_limit) × NoEnd (length text) text
