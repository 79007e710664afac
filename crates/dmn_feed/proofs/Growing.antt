-- An answer that grows changes nothing, and its kind may be answered Memory.
use Rattle.std.proofs.Common.{◌≡◌, ℕ, Bool, true, false, cond, List, nat_lt, refl}
use Rattle.std.specs.Prelude.{Option, None, Some, Result, Ok, Err}
use Rattle.dmn_bytes.specs.declared.fault.Departure.{Departure}
use Rattle.dmn_desk.specs.declared.answer.Answer.{Answer}
use Rattle.dmn_desk.specs.declared.answer.Answer.TheVariants.{Short}
use Rattle.dmn_desk.specs.declared.answer.ShortAnswer.TheVariants as short
use Rattle.dmn_desk.specs.declared.kind.Kind.{Kind}
use Rattle.dmn_desk.specs.declared.request.Request.{Request}
use Rattle.dmn_desk.specs.declared.request.Request.TheVariants as requests
use Rattle.dmn_desk.specs.Ask.{answered, ask, asked_by, asked_kind}
use Rattle.dmn_desk.specs.Kinds.{kind_of, takes_no_memory}
use Rattle.dmn_desk.specs.Requests.{kind_by, request_of}
use Rattle.dmn_desk.specs.Texts.{is_short}
use Rattle.dmn_desk.proofs.Bodies.{kind_of_request}
use Rattle.dmn_frames.specs.declared.limits.TheConstants.{LONGEST_BODY}
use Rattle.dmn_registry.specs.Machine.{Machine}

-- where this answer is not short, the machine is as before, and Memory may be answered
abbrev pub Grows : {M : Type 0} → Bool → M → Answer × M → Type 0
Grows never m p = is_short p.0 ≡ false → (p.1 ≡ m) × (never ≡ false)

ask_grows : (m : Machine) (request : Request) → Grows (takes_no_memory (Some (kind_by request))) m (ask m request)
unfolding ask
ask_grows m (requests.Connect block body) h = absurd (cc)
ask_grows m (requests.Disconnect hash) h = absurd (cc)
ask_grows m requests.Tip h = absurd (cc)
ask_grows m (requests.List height) h = (refl, refl)
ask_grows m (requests.Row height hash) h = (refl, refl)
ask_grows m (requests.Payees height count) h = (refl, refl)
ask_grows m (requests.Members kind base) h = (refl, refl)
ask_grows m (requests.Quorums height) h = (refl, refl)
ask_grows m (requests.Diff base block) h = (refl, refl)
ask_grows m (requests.Pin height) h = absurd (cc)
ask_grows m (requests.Page pin from count) h = (refl, refl)
ask_grows m (requests.Release pin) h = absurd (cc)

read_grows : (m : Machine) (kind : Kind) (r : Result Request Departure) → ((request : Request) → r ≡ Ok request → kind_by request ≡ kind) → Grows (takes_no_memory (Some kind)) m (asked_by m r)
read_grows m kind (Ok request) is h = let e : kind_by request ≡ kind = is request refl in rw e at (ask_grows m request h)
read_grows m kind (Err d) is h = absurd (cc)

kind_grows : (m : Machine) (kind : Option Kind) (body : List ℕ) → Grows (takes_no_memory kind) m (asked_kind m kind body)
unfolding asked_kind
kind_grows m None body h = absurd (cc)
kind_grows m (Some kind) body h = read_grows m kind (request_of kind body) (λ request e. kind_of_request kind body request e) h

long_grows : (never long : Bool) (m : Machine) (p : Answer × Machine) → Grows never m p → Grows never m (cond long (Short (short.BadRequest 1), m) p)
long_grows never true m p grows h = absurd (cc)
long_grows never false m p grows h = grows h

pub answer_grows : (m : Machine) (kind size : ℕ) (body : List ℕ) → Grows (takes_no_memory (kind_of kind)) m (answered m kind size body)
unfolding answered
answer_grows m kind size body = long_grows (takes_no_memory (kind_of kind)) (nat_lt LONGEST_BODY size) m (asked_kind m (kind_of kind) body) (kind_grows m (kind_of kind) body)
