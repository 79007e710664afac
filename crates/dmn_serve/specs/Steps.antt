-- What the private parts of a turn do.
use Rattle.std.specs.Prelude.{◌≡◌, ◌≢◌, ◌⊎◌, ℕ, ◌<◌, Bool, true, List, [], ◌∷◌, ◌++◌, length, take, Result, Ok, Err}
use Rattle.dmn_outside.specs.Counts.{Rose}
use Rattle.dmn_outside.specs.Disk.{DiskView}
use Rattle.dmn_outside.specs.Line.{LineView, Talk}
use Rattle.dmn_outside.specs.declared.device.DiskFault.{DiskFault}
use Rattle.dmn_desk.specs.declared.request.Request.{Request}
use Rattle.dmn_desk.specs.Asked.{entry_by}
use Rattle.dmn_http.specs.Exchanges.{Exchanges, Outcome, asks, leaves}
use Rattle.dmn_http.specs.Replies.{replied}
use Rattle.dmn_http.specs.Texts.{memory_text}
use Rattle.dmn_office.specs.declared.office.Office.{Office}
use Rattle.dmn_office.specs.Lasting.{SentLater}
use Rattle.dmn_office.specs.Offices.{Breaks, GoesOn, StandsAt}
use Rattle.dmn_registry.specs.Machine.{Machine}
use Rattle.dmn_serve.specs.declared.serving.Stop.{Stop}
use Rattle.dmn_serve.specs.declared.serving.Stop.TheVariants as stops
use Rattle.dmn_serve.specs.declared.serving.Turn.{Turn}
use Rattle.dmn_serve.specs.declared.serving.Turn.TheVariants as turns
use Rattle.dmn_serve.specs.Callers.{Serves, Visit}
use Rattle.dmn_serve.specs.Outcome.{all_callers, all_moments, this_caller, unserved}

-- ---- a reply

-- the reply to what a caller asks for; or the 503 of Memory, where it did not leave, and nothing changed
abbrev pub MayReply : Machine → Outcome → List ℕ → Machine → Type 0
MayReply m outcome bytes n = (replied m outcome ≡ (bytes, n)) ⊎ ((outcome ≢ leaves) × (bytes ≡ memory_text) × (n ≡ m))

-- all of these bytes were sent, or a front of them before a fault of this caller's; nothing else changed
abbrev pub IsSent : List ℕ → List ℕ → Talk → Talk → Type 0
IsSent bytes sent old new = ((sent ≡ bytes) × (new.own ≡ old.own)) ⊎ ((count : ℕ) × (0 < new.own) × (count < length bytes) × (sent ≡ take count bytes))

-- This much of these bytes was sent, and a moment stands with each byte; by then all earlier states of the disk were over. Where
-- the line failed, its count of faults rose.
pub record Sends (stamped : Bool) (bytes : List ℕ) (disk : DiskView) (old new : LineView) : Type 0 where
  pub sent : List ℕ
  pub is : IsSent bytes sent old.talk new.talk
  pub talk : new.talk ≡ record old.talk { sent = old.talk.sent ++ sent; own = new.talk.own }
  pub blame : (new.talk.own ≡ old.talk.own) ⊎ Rose old.faults new.faults
  pub later : SentLater sent disk
  pub stamps : stamped ≡ true → new.moments ≡ record old.moments { sent = old.moments.sent ++ later.moments }

-- the request was done, and replied to; or the disk failed, and nothing was sent
abbrev pub AnswersCaller : Result (Unit {0}) DiskFault → Bool → ℕ → DiskView → DiskView → Office → Request → Office → LineView → LineView → Type 0
AnswersCaller (Ok done) stamped started before after old request new x y =
    (bytes : List ℕ) × Sends stamped bytes after x y × ((m : Machine) → StandsAt old m before.told → (n : Machine) × MayReply m (asks request) bytes n × GoesOn started before after m n new)
AnswersCaller (Err fault) stamped started before after old request new x y = (y ≡ x) × ((m : Machine) → StandsAt old m before.told → Breaks started before after m (entry_by request))

-- ---- a caller

-- a caller to whom nothing was sent yet
pub record IsNew (stamped : Bool) (line : LineView) : Type 0 where
  pub sent : line.talk.sent ≡ []
  pub own : line.talk.own ≡ 0
  pub moments : stamped ≡ true → line.moments.sent ≡ []

-- bytes were taken of this caller and sent to it, at these moments, and nothing else changed; where its line failed, the count
-- of faults rose
pub record IsOneCaller (stamped : Bool) (moments : List ℕ) (old new : LineView) : Type 0 where
  pub talk : new.talk ≡ record old.talk { left = new.talk.left; sent = new.talk.sent; own = new.talk.own }
  pub stamps : stamped ≡ true → new.moments ≡ record old.moments { sent = moments }
  pub blame : (new.talk.own ≡ 0) ⊎ Rose old.faults new.faults

-- a caller was served, or given up; or the disk failed, and nothing was sent to it
abbrev pub ServesCaller : Result (Unit {0}) DiskFault → Bool → ℕ → DiskView → DiskView → Office → Office → LineView → LineView → Type 0
ServesCaller (Ok done) stamped started before after old new x y =
    (later : SentLater y.talk.sent after) × IsOneCaller stamped later.moments x y × ((m : Machine) → StandsAt old m before.told → (n : Machine) × Serves m x.talk.left (this_caller y.talk) n × GoesOn started before after m n new)
ServesCaller (Err fault) stamped started before after old new x y =
    (y.talk.sent ≡ []) × (y.talk.own ≡ 0) × IsOneCaller stamped [] x y × ((m : Machine) → StandsAt old m before.told → (request : Request) × Exchanges x.talk.left (asks request) × Breaks started before after m (entry_by request))

-- ---- a turn

-- this caller came, and no other
pub record CameOne (stamped : Bool) (visit : Visit) (others : List (List ℕ)) (old new : LineView) : Type 0 where
  pub came : old.talk.later ≡ visit.text ∷ others
  pub later : new.talk.later ≡ others
  pub served : all_callers new.talk ≡ all_callers old.talk ++ visit.served ∷ []
  pub stamps : stamped ≡ true → all_moments new.moments ≡ all_moments old.moments ++ visit.moments ∷ []
  pub blame : (visit.served.own ≡ 0) ⊎ Rose old.faults new.faults
  pub this : visit.served ≡ this_caller new.talk

-- a caller came and was served, or no caller comes any more, or the next one could not be taken; or the disk failed
abbrev pub Turns : Result Turn Stop → Bool → ℕ → DiskView → DiskView → Office → Office → LineView → LineView → Type 0
Turns (Ok turns.Served) stamped started before after old new x y =
    (visit : Visit) × (others : List (List ℕ)) × CameOne stamped visit others x y × (later : SentLater visit.served.sent after) × (visit.moments ≡ later.moments)
    × ((m : Machine) → StandsAt old m before.told → (n : Machine) × Serves m visit.text visit.served n × GoesOn started before after m n new)
Turns (Ok turns.Ended) stamped started before after old new x y = (x.talk.later ≡ []) × (y.talk ≡ x.talk) × (stamped ≡ true → y.moments ≡ x.moments) × (after ≡ before) × (new ≡ old)
Turns (Err stops.CallerFault) stamped started before after old new x y = (y.talk ≡ x.talk) × (stamped ≡ true → y.moments ≡ x.moments) × (after ≡ before)
Turns (Err stops.DiskFault) stamped started before after old new x y =
    (text : List ℕ) × (others : List (List ℕ)) × CameOne stamped (unserved text) others x y × ((m : Machine) → StandsAt old m before.told → (request : Request) × Exchanges text (asks request) × Breaks started before after m (entry_by request))
