-- What a caller's bytes ask for, by the first check that fails.
use Rattle.std.specs.Prelude.{◌≡◌, ◌≢◌, ◌⊎◌, ℕ, ◌<◌, ◌≤◌, List, length, take, drop, nat_lt, if◌then◌else◌, Result, Ok, Err}
use Rattle.dmn_bytes.specs.declared.fault.Departure.{Departure}
use Rattle.dmn_bytes.specs.Law.{place_of}
use Rattle.dmn_outside.specs.Failing.{KeepsRoom}
use Rattle.dmn_outside.specs.Line.{LineView, Talk}
use Rattle.dmn_desk.specs.declared.kind.Kind.TheVariants as kinds
use Rattle.dmn_desk.specs.declared.request.Request.{Request}
use Rattle.dmn_desk.specs.Requests.{IsRequest, request_of}
use Rattle.dmn_head.specs.declared.fault.HttpFault.{HttpFault}
use Rattle.dmn_head.specs.declared.fault.HttpFault.TheVariants as faults
use Rattle.dmn_head.specs.declared.head.Cut.{Cut}
use Rattle.dmn_head.specs.declared.head.Cut.TheVariants as cuts
use Rattle.dmn_head.specs.declared.plan.Plan.{Plan}
use Rattle.dmn_head.specs.declared.plan.Plan.TheVariants as plans
use Rattle.dmn_head.specs.Head.{IsCut}
use Rattle.dmn_head.specs.Wants.{HeadPlan}
use Rattle.dmn_http.specs.declared.exchange.Exchange.{Exchange}
use Rattle.dmn_http.specs.declared.exchange.Exchange.TheVariants as exchanges
use Rattle.dmn_http.specs.Texts.{reply_text, fault_text, memory_text}

-- a caller asks for this, or fails this check, or leaves before its request has come
pub data Outcome : Type 0 where
  asks : Request → Outcome
  refuses : HttpFault → Outcome
  leaves : Outcome

-- check 9: a body is in its form
abbrev pub body_asks : Result Request Departure → Outcome
body_asks (Ok request) = asks request
body_asks (Err departure) = refuses (faults.BadRequest (place_of departure))

-- by what a head asks for, and the bytes behind it
abbrev pub planned : Plan → List ℕ → Outcome
planned (plans.Refuse fault) rest = refuses fault
planned (plans.Ask request) rest = asks request
planned (plans.Body size) rest = if nat_lt (length rest) size then leaves else body_asks (request_of kinds.Connect (take size rest))

-- check 1, and those behind it
abbrev pub Decides : Cut → List ℕ → Outcome → Type 0
Decides (cuts.Whole size) text outcome = (plan : Plan) × HeadPlan (take size text) plan × (outcome ≡ planned plan (drop size text))
Decides cuts.TooLong text outcome = outcome ≡ refuses faults.HeadTooLong
Decides cuts.Short text outcome = outcome ≡ leaves

-- what all the bytes of a caller ask for
pub record Exchanges (text : List ℕ) (outcome : Outcome) : Type 0 where
  pub cut : Cut
  pub is_cut : IsCut text cut
  pub decides : Decides cut text outcome

-- the reply of the check that fails; or that of Memory, where the caller did not leave
abbrev pub Shows : Exchange → Outcome → Type 0
Shows (exchanges.Ask request) outcome = outcome ≡ asks request
Shows (exchanges.Reply reply) outcome = ((fault : HttpFault) × (outcome ≡ refuses fault) × (reply_text reply ≡ fault_text fault)) ⊎ ((outcome ≢ leaves) × (reply_text reply ≡ memory_text))
Shows exchanges.Gone outcome = outcome ≡ leaves

-- some of the caller's bytes were taken, and it asked for this
pub record Exchanged (exchange : Exchange) (old new : Talk) : Type 0 where
  pub taken : ℕ
  pub enough : taken ≤ length old.left
  pub after : new ≡ record old { left = drop taken old.left }
  pub outcome : Outcome
  pub asked : Exchanges old.left outcome
  pub shows : Shows exchange outcome

-- a fault before the bytes that were taken decide what the caller asks for: had its input ended there, it had left
pub record Undecided (old new : Talk) : Type 0 where
  pub taken : ℕ
  pub enough : taken ≤ length old.left
  pub after : new ≡ record old { left = drop taken old.left; own = new.own }
  pub own : 0 < new.own
  pub open_ : Exchanges (take taken old.left) leaves

abbrev pub ReadsExchange : {E : Type 0} → Result Exchange E → Talk → Talk → Type 0
ReadsExchange (Ok exchange) old new = Exchanged exchange old new
ReadsExchange (Err fault) old new = Undecided old new

-- a request that is asked keeps what is asked of one
abbrev pub AsksWell : Exchange → Type 0
AsksWell (exchanges.Ask request) = IsRequest request
AsksWell (exchanges.Reply reply) = Unit {0}
AsksWell exchanges.Gone = Unit {0}

-- over a line that tells its room a request is read without a fault
abbrev pub ReadsSurely : {E : Type 0} → Result Exchange E → ℕ → ℕ → LineView → LineView → Type 0
ReadsSurely (Ok exchange) before now old new = KeepsRoom before now old new
ReadsSurely (Err fault) before now old new = ⊥
