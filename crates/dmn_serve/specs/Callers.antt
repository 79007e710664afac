-- What callers are sent, one after the other, and when: want of memory is free.
use Rattle.std.specs.Prelude.{◌≡◌, ◌≢◌, ◌⊎◌, ℕ, ◌<◌, ◌≤◌, List, [], ◌∷◌, length, take}
use Rattle.std.specs.List.{All}
use Rattle.dmn_outside.specs.Line.{Served}
use Rattle.dmn_registry.specs.Machine.{Machine}
use Rattle.dmn_http.specs.Exchanges.{Exchanges, Outcome, leaves}
use Rattle.dmn_http.specs.Replies.{HttpBytes}
use Rattle.dmn_http.specs.Texts.{memory_text}

-- ---- one reply

-- In place of a reply the 503 of Memory, which changes nothing. A caller that leaves is not sent it.
pub record LacksMemory (m : Machine) (text bytes : List ℕ) (n : Machine) : Type 0 where
  pub outcome : Outcome
  pub asked : Exchanges text outcome
  pub stays : outcome ≢ leaves
  pub bytes_are : bytes ≡ memory_text
  pub same : n ≡ m

-- From m a caller with these bytes may be sent this, with the machine n behind it: its reply, or the 503 of Memory.
abbrev pub MaySend : Machine → List ℕ → List ℕ → Machine → Type 0
MaySend m text bytes n = HttpBytes m text bytes n ⊎ LacksMemory m text bytes n

-- ---- one caller

-- its line did not fail, and it was sent all of that
pub record IsServed (m : Machine) (text : List ℕ) (served : Served) (n : Machine) : Type 0 where
  pub own : served.own ≡ 0
  pub reply : MaySend m text served.sent n

-- Its line failed before the bytes that were taken decide its reply: had its input ended there, it had left. Nothing was sent,
-- and the machine is as before.
pub record IsUndecided (m : Machine) (text : List ℕ) (served : Served) (n : Machine) : Type 0 where
  pub own : 0 < served.own
  pub taken : ℕ
  pub enough : taken ≤ length text
  pub open_ : Exchanges (take taken text) leaves
  pub nothing : served.sent ≡ []
  pub same : n ≡ m

-- its line failed while it was sent that: it was sent a front, less than all
pub record IsCutOff (m : Machine) (text : List ℕ) (served : Served) (n : Machine) : Type 0 where
  pub own : 0 < served.own
  pub bytes : List ℕ
  pub reply : MaySend m text bytes n
  pub count : ℕ
  pub few : count < length bytes
  pub front : served.sent ≡ take count bytes

-- from m a caller with these bytes is served so, with the machine n behind it
abbrev pub Serves : Machine → List ℕ → Served → Machine → Type 0
Serves m text served n = IsServed m text served n ⊎ IsUndecided m text served n ⊎ IsCutOff m text served n

-- ---- callers, one after the other

-- a caller: its bytes, what was sent to it with its own part of the line's faults, and the moment of each byte that was sent
pub record Visit : Type 0 where
  pub text : List ℕ
  pub served : Served
  pub moments : List ℕ

abbrev pub text_of : Visit → List ℕ
text_of visit = visit.text

abbrev pub served_of : Visit → Served
served_of visit = visit.served

abbrev pub moments_of : Visit → List ℕ
moments_of visit = visit.moments

-- From m these callers are served so, one after the other, with the machine n behind them; and P holds of the machine behind a
-- reply and each moment of a byte of it.
abbrev pub ServesEach : (Machine → ℕ → Type 0) → Machine → List Visit → Machine → Type 0
ServesEach P m [] n = n ≡ m
ServesEach P m (visit ∷ visits) n = (mid : Machine) × Serves m visit.text visit.served mid × (length visit.moments ≡ length visit.served.sent) × All (P mid) visit.moments × ServesEach P mid visits n
