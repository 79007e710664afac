-- What a caller is sent: the reply to its bytes.
use Rattle.std.specs.Prelude.{◌≡◌, ℕ, ◌<◌, List, [], ◌++◌, Result, Ok, Err}
use Rattle.dmn_registry.specs.Machine.{Machine}
use Rattle.dmn_desk.specs.Ask.{ask}
use Rattle.dmn_outside.specs.Failing.{SpendsRoom}
use Rattle.dmn_outside.specs.Line.{LineView, Moments, Talk}
use Rattle.dmn_outside.specs.Pieces.{SentFront, StampsAfter}
use Rattle.dmn_http.specs.Answered.{answer_text}
use Rattle.dmn_http.specs.Exchanges.{Outcome, asks, refuses, leaves, Exchanges}
use Rattle.dmn_http.specs.Texts.{fault_text}

-- the reply to what a caller asks for, and the machine after it
abbrev pub replied : Machine → Outcome → List ℕ × Machine
replied m (asks request) = let next = ask m request in (answer_text request next.0, next.1)
replied m (refuses fault) = (fault_text fault, m)
replied m leaves = ([], m)

-- the reply of the machine to all the bytes of a caller, and the machine after it
pub record HttpBytes (m : Machine) (text bytes : List ℕ) (n : Machine) : Type 0 where
  pub outcome : Outcome
  pub asked : Exchanges text outcome
  pub reply : replied m outcome ≡ (bytes, n)

-- ---- how a reply is sent

-- all of these bytes, or a front of them
abbrev pub SendsReply : {E : Type 0} → Result (Unit {0}) E → List ℕ → Talk → Talk → Type 0
SendsReply (Ok done) bytes old new = new ≡ record old { sent = old.sent ++ bytes }
SendsReply (Err fault) bytes old new = SentFront bytes old new

-- each byte has a moment of the call
abbrev pub StampsReply : {E : Type 0} → Result (Unit {0}) E → ℕ → ℕ → ℕ → Moments → Moments → Type 0
StampsReply (Ok done) from to size old new = StampsAfter from to size old new
StampsReply (Err fault) from to size old new = (n : ℕ) × (n < size) × StampsAfter from to n old new

-- over a line that tells its room a reply is sent where it fits
abbrev pub SendsReplySurely : {E : Type 0} → Result (Unit {0}) E → ℕ → ℕ → ℕ → LineView → LineView → Type 0
SendsReplySurely (Ok done) size before now old new = SpendsRoom size before now old new
SendsReplySurely (Err fault) size before now old new = before < size
