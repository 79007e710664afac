-- What the private functions give.
use Rattle.std.specs.Prelude.{◌≡◌, ◌⊎◌, ℕ, ◌+◌, ◌-◌, ◌<◌, ◌≤◌, Bool, true, false, not, ◌&&◌, ◌==◌, nat_le, List, [], ◌∷◌, ◌++◌, take, drop, length, Result, Ok, Err}
use Rattle.std.specs.List.{list_all}
use Rattle.hex.specs.Hex.{encode_lower}
use Rattle.serde_json.specs.Data.{Data, string}
use Rattle.dmn_bytes.specs.declared.fault.Memory.{Memory}
use Rattle.dmn_bytes.specs.declared.hash.Hash256.{Hash256}
use Rattle.dmn_desk.specs.declared.answer.Answer.TheVariants as answers
use Rattle.dmn_desk.specs.declared.answer.ShortAnswer.{ShortAnswer}
use Rattle.dmn_desk.specs.declared.kind.Kind.TheVariants as kinds
use Rattle.dmn_desk.specs.declared.request.Request.{Request}
use Rattle.dmn_desk.specs.Requests.{request_of}
use Rattle.dmn_outside.specs.declared.line.Failed.{Failed}
use Rattle.dmn_outside.specs.Line.{Talk}
use Rattle.dmn_outside.specs.Pieces.{Took, Ended, Broke}
use Rattle.dmn_head.specs.declared.fault.HttpFault.{HttpFault}
use Rattle.dmn_head.specs.declared.plan.Plan.{Plan}
use Rattle.dmn_head.specs.declared.plan.Plan.TheVariants as plans
use Rattle.dmn_head.specs.Wants.{HeadPlan}
use Rattle.dmn_http.specs.declared.body.Taking.{Taking}
use Rattle.dmn_http.specs.declared.body.Taking.TheVariants as takings
use Rattle.dmn_http.specs.declared.exchange.Exchange.{Exchange}
use Rattle.dmn_http.specs.declared.reply.HttpReply.{HttpReply}
use Rattle.dmn_http.specs.Answered.{is_fixed, short_text}
use Rattle.dmn_http.specs.Exchanges.{Shows, body_asks, planned}
use Rattle.dmn_http.specs.Texts.{reply_text, fault_text, memory_text, text_of}

-- ---- bodies

-- a body of this size, of which these bytes at its front are there already, is taken from the line
abbrev pub TakesBody : Result Taking Failed → List ℕ → ℕ → Talk → Talk → Type 0
TakesBody (Ok (takings.Whole body)) front size old new = Took (size - length front) old new × (body ≡ front ++ take (size - length front) old.left)
TakesBody (Ok takings.Lacking) front size old new = Took (size - length front) old new
TakesBody (Ok takings.Cut) front size old new = Ended (size - length front) old new
TakesBody (Err failed) front size old new = Broke (size - length front) old new

-- a body that was taken whole has its size
abbrev pub HasSize : ℕ → Taking → Type 0
HasSize size (takings.Whole body) = length body ≡ size
HasSize size takings.Lacking = Unit {0}
HasSize size takings.Cut = Unit {0}

-- what a whole body asks for
abbrev pub ShowsBody : List ℕ → Exchange → Type 0
ShowsBody body exchange = Shows exchange (body_asks (request_of kinds.Connect body))

-- some bytes were taken, and with the front these decide this
pub record Asked (exchange : Exchange) (plan : Plan) (front : List ℕ) (old new : Talk) : Type 0 where
  pub taken : ℕ
  pub enough : taken ≤ length old.left
  pub after : new ≡ record old { left = drop taken old.left }
  pub shows : Shows exchange (planned plan (front ++ old.left))

-- a fault before all of a body had come
pub record BrokeBody (front : List ℕ) (size : ℕ) (old new : Talk) : Type 0 where
  pub taken : ℕ
  pub few : length front + taken < size
  pub enough : taken ≤ length old.left
  pub after : new ≡ record old { left = drop taken old.left; own = new.own }
  pub own : 0 < new.own

abbrev pub AsksBody : Result Exchange Failed → List ℕ → ℕ → Talk → Talk → Type 0
AsksBody (Ok exchange) front size old new = Asked exchange (plans.Body size) front old new
AsksBody (Err failed) front size old new = BrokeBody front size old new

abbrev pub ReadsBehind : Result Exchange Failed → List ℕ → List ℕ → Talk → Talk → Type 0
ReadsBehind (Ok exchange) head front old new = (plan : Plan) × HeadPlan head plan × Asked exchange plan front old new
ReadsBehind (Err failed) head front old new = (size : ℕ) × HeadPlan head (plans.Body size) × BrokeBody front size old new

-- ---- replies

-- the reply of a check that fails, or that of Memory
abbrev pub ShowsFault : HttpFault → HttpReply → Type 0
ShowsFault fault reply = (reply_text reply ≡ fault_text fault) ⊎ (reply_text reply ≡ memory_text)

-- the reply with this body, or that of Memory
abbrev pub ShowsBytes : List ℕ → HttpReply → Type 0
ShowsBytes body reply = (reply_text reply ≡ text_of 200 false body) ⊎ (reply_text reply ≡ memory_text)

abbrev pub ShowsShort : Request → ShortAnswer → HttpReply → Type 0
ShowsShort request answer reply = (reply_text reply ≡ short_text request answer) ⊎ ((is_fixed (answers.Short answer) ≡ false) × (reply_text reply ≡ memory_text))

abbrev pub JsonReply : ℕ → Result (List ℕ) Memory → HttpReply → Type 0
JsonReply status (Ok body) reply = reply_text reply ≡ text_of status true body
JsonReply status (Err memory) reply = reply_text reply ≡ memory_text

-- ---- JSON

-- a byte that stands for itself in JSON
abbrev pub is_plain : ℕ → Bool
is_plain b = nat_le 32 b && not (b == 34) && not (b == 92)

-- a hash as JSON
abbrev pub hash_data : Hash256 → Data
hash_data hash = string (encode_lower hash.0)

-- the digits of each hash stand for themselves
abbrev pub AllPlain : List Hash256 → Type 0
AllPlain [] = Unit {0}
AllPlain (hash ∷ more) = (list_all is_plain (encode_lower hash.0) ≡ true) × AllPlain more
