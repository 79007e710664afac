-- What the parts of a turn do to a line that tells its bytes.
use Rattle.std.specs.Prelude.{◌≡◌, ◌≢◌, ℕ, ◌<◌, ◌≤◌, List, [], ◌++◌, length, take, drop, nat_lt, if◌then◌else◌, Option, None, Some, Result, Ok, Err}
use Rattle.dmn_outside.specs.declared.line.Failed.{Failed}
use Rattle.dmn_outside.specs.Line.{Talk}
use Rattle.dmn_outside.specs.Pieces.{Took, Ended}
use Rattle.dmn_frames.specs.declared.body.Body.{Body}
use Rattle.dmn_frames.specs.declared.body.Body.TheVariants as bodies
use Rattle.dmn_frames.specs.declared.body.Kept.{Kept}
use Rattle.dmn_frames.specs.declared.body.Kept.TheVariants as kepts
use Rattle.dmn_frames.specs.declared.head.Head.{Head}
use Rattle.dmn_frames.specs.declared.head.Head.TheVariants as heads
use Rattle.dmn_frames.specs.declared.limits.TheConstants.{FRONT}
use Rattle.dmn_frames.specs.declared.reading.Reading.{Reading}
use Rattle.dmn_frames.specs.Frames.{frame_at}
use Rattle.dmn_frames.specs.Reading.{kept_of}

-- some bytes may have been taken before a fault of this caller's, and nothing else changed
pub record Faulted (old new : Talk) : Type 0 where
  pub taken : ℕ
  pub after : new ≡ record old { left = drop taken old.left; own = new.own }
  pub own : 0 < new.own

-- all that was still to come was taken, and nothing else changed
abbrev pub Emptied : Talk → Talk → Type 0
Emptied old new = new ≡ record old { left = [] }

-- ---- a frame's head

-- what a frame's kind and size say of the bytes to come
pub record Headed (kind size : ℕ) (old new : Talk) : Type 0 where
  pub frame : frame_at old.left ≡ (if nat_lt (length new.left) size then None else Some (record { kind = kind; body = take size new.left }, drop size new.left))
  pub some : old.left ≢ []
  pub taken : new.left ≡ drop 5 old.left
  pub after : new ≡ record old { left = new.left }

abbrev pub Heads : Result Head Failed → Talk → Talk → Type 0
Heads (Ok heads.Ended) old new = (old.left ≡ []) × Emptied old new
Heads (Ok heads.Cut) old new = (old.left ≢ []) × (frame_at old.left ≡ None) × Emptied old new
Heads (Ok (heads.Of kind size)) old new = Headed kind size old new
Heads (Err failed) old new = Faulted old new

-- ---- a frame's body

-- so many bytes were taken, and the first ones of them kept; or there were fewer
abbrev pub Fronts : ℕ → Result (Option (List ℕ)) Failed → Talk → Talk → Type 0
Fronts size (Ok (Some front)) old new = Took size old new × (front ≡ take FRONT (take size old.left))
Fronts size (Ok None) old new = Ended size old new
Fronts size (Err failed) old new = Faulted old new

abbrev pub kept_bytes : Kept → List ℕ
kept_bytes kepts.Nothing = []
kept_bytes (kepts.Front bytes) = bytes
kept_bytes (kepts.Whole bytes) = bytes

-- a body that is read so was taken, or the input ended before
abbrev pub BodyOf : Reading → ℕ → Result Body Failed → Talk → Talk → Type 0
BodyOf reading size (Ok (bodies.Kept kept)) old new = Took size old new × (kept_bytes kept ≡ kept_of reading (take size old.left))
BodyOf reading size (Ok bodies.Lacking) old new = Took size old new
BodyOf reading size (Ok bodies.Cut) old new = Ended size old new
BodyOf reading size (Err failed) old new = Faulted old new

-- no more is kept than was taken
abbrev pub IsWithin : ℕ → Body → Type 0
IsWithin size (bodies.Kept kept) = length (kept_bytes kept) ≤ size
IsWithin size bodies.Lacking = Unit {0}
IsWithin size bodies.Cut = Unit {0}

-- ---- an answer

-- a front of the answer was sent, less than all of it, before a fault of this caller's, and nothing else changed
pub record SentPart (bytes : List ℕ) (old new : Talk) : Type 0 where
  pub count : ℕ
  pub few : count < length bytes
  pub own : 0 < new.own
  pub after : new ≡ record old { left = new.left; sent = old.sent ++ take count bytes; own = new.own }
