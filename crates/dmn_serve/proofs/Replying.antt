-- The reply to the answer of a machine, or the 503 of Memory in its place.
use Rattle.std.proofs.Common.{◌≡◌, inl, inr, ℕ, Bool, true, false, List, [], refl, sym, ap, ◌∙◌, if◌then◌else◌}
use Rattle.std.specs.Prelude.{Option, None, Some, Result, Ok, Err, is_some}
use Rattle.dmn_block.specs.declared.refusal.Refusal.{Refusal}
use Rattle.dmn_branch.specs.Machine.{is_held, low, tip}
use Rattle.dmn_branch.specs.Pins.{free_number, pin_of}
use Rattle.dmn_branch.specs.declared.fault.DisconnectRefusal.{DisconnectRefusal}
use Rattle.dmn_desk.specs.declared.answer.Answer.{Answer}
use Rattle.dmn_desk.specs.declared.answer.ShortAnswer.TheVariants as short
use Rattle.dmn_desk.specs.declared.request.Request.{Request}
use Rattle.dmn_desk.specs.declared.request.Request.TheVariants as requests
use Rattle.dmn_desk.specs.Ask.{ask, connect, connected, disconnect, disconnected, pin, pinned_by, release, shortly}
use Rattle.dmn_desk.specs.Asked.{MayAnswer}
use Rattle.dmn_http.specs.Answered.{ShowsAnswer, answer_text, is_fixed}
use Rattle.dmn_http.specs.Exchanges.{Exchanges, Outcome, Shows, asks, leaves}
use Rattle.dmn_http.specs.Replies.{replied}
use Rattle.dmn_http.specs.Texts.{reply_text}
use Rattle.dmn_http.specs.declared.exchange.Exchange.TheVariants as exchanges
use Rattle.dmn_http.specs.declared.reply.HttpReply.{HttpReply}
use Rattle.dmn_registry.specs.Machine as registries
use Rattle.dmn_registry.specs.Machine.{Denial, Machine, state_of}
use Rattle.dmn_serve.specs.Callers.{MaySend}
use Rattle.dmn_serve.specs.Steps.{MayReply}

-- ---- an answer whose reply takes memory changes nothing

-- where this answer's reply takes memory, the machine is as before
abbrev Stays : Machine → Answer × Machine → Type 0
Stays m p = is_fixed p.0 ≡ false → p.1 ≡ m

connected_stays : (m : Machine) (r : Result Machine (Denial Refusal)) → Stays m (shortly (connected m r))
connected_stays m (Ok next) taken = absurd (cc)
connected_stays m (Err denial) taken = refl

disconnected_stays : (m : Machine) (r : Result Machine (Denial DisconnectRefusal)) → Stays m (shortly (disconnected m r))
disconnected_stays m (Ok next) taken = absurd (cc)
disconnected_stays m (Err denial) taken = refl

connect_stays : (m : Machine) (request : Request) → Stays m (ask m request)
unfolding ask connect disconnect pin release
connect_stays m (requests.Connect block body) = connected_stays m (registries.connect m block body)
connect_stays m (requests.Disconnect hash) = disconnected_stays m (registries.disconnect m hash)
connect_stays m requests.Tip = λ taken. refl
connect_stays m (requests.List height) = λ taken. refl
connect_stays m (requests.Row height hash) = λ taken. refl
connect_stays m (requests.Payees height count) = λ taken. refl
connect_stays m (requests.Members kind base) = λ taken. refl
connect_stays m (requests.Quorums height) = λ taken. refl
connect_stays m (requests.Pin height) = by_held (is_held (state_of m) height) (free_number m.pins)
  where
    by_held : (held : Bool) (number : Option ℕ) → Stays m (shortly (if held then pinned_by m height number else (short.NotHeld (low (state_of m)) (tip (state_of m)).height, m)))
    by_held true (Some number) taken = absurd (cc)
    by_held true None taken = refl
    by_held false number taken = refl
connect_stays m (requests.Page number from count) = λ taken. refl
connect_stays m (requests.Release number) = by_live (is_some (pin_of m.pins number))
  where
    by_live : (live : Bool) → Stays m (shortly (if live then (short.Released, registries.released m number) else (short.PinUnknown, m)))
    by_live true taken = absurd (cc)
    by_live false taken = refl
connect_stays m (requests.Diff base block) = λ taken. refl

-- ---- replies

defined_reply : (m n : Machine) (request : Request) (answer : Answer) (bytes : List ℕ) → ask m request ≡ (answer, n) → bytes ≡ answer_text request answer → replied m (asks request) ≡ (bytes, n)
defined_reply m n request answer bytes is text = ap (λ (p : Answer × Machine). (answer_text request p.0, p.1)) is ∙ ap (λ (l : List ℕ). (l, n)) (sym text)

-- the reply to the machine's answer, or to Memory
pub answer_reply : (m n : Machine) (request : Request) (answer : Answer) (reply : HttpReply) → MayAnswer m request answer n → ShowsAnswer request answer reply → MayReply m (asks request) (reply_text reply) n
answer_reply m n request answer reply (inl is) (inl text) = inl (defined_reply m n request answer (reply_text reply) is text)
answer_reply m n request answer reply (inl is) (inr (taken, text)) =
    let free : is_fixed (ask m request).0 ≡ false = ap (λ (p : Answer × Machine). is_fixed p.0) is ∙ taken in
    inr (λ e. cc, text, sym (ap (λ (p : Answer × Machine). p.1) is) ∙ connect_stays m request free)
answer_reply m n request answer reply (inr (free, is, same)) (inl text) = inr (λ e. cc, text ∙ ap (answer_text request) is, same)
answer_reply m n request answer reply (inr (free, is, same)) (inr (taken, text)) = inr (λ e. cc, text, same)

-- the reply to a check that fails, or that of Memory
pub fault_reply : (m : Machine) (outcome : Outcome) (reply : HttpReply) → Shows (exchanges.Reply reply) outcome → MayReply m outcome (reply_text reply) m
fault_reply m outcome reply (inl (fault, is, text)) = inl (ap (replied m) is ∙ ap (λ (l : List ℕ). (l, m)) (sym text))
fault_reply m outcome reply (inr (stays, text)) = inr (stays, text, refl)

-- what may be replied to what all of a caller's bytes ask for may be sent
pub may_send : (m n : Machine) (text bytes : List ℕ) (outcome : Outcome) → Exchanges text outcome → MayReply m outcome bytes n → MaySend m text bytes n
may_send m n text bytes outcome asked (inl reply) = inl (record { outcome = outcome; asked = asked; reply = reply })
may_send m n text bytes outcome asked (inr (stays, is, same)) = inr (record { outcome = outcome; asked = asked; stays = stays; bytes_are = is; same = same })

-- a caller that left is sent nothing
pub gone_reply : (m : Machine) (outcome : Outcome) → outcome ≡ leaves → MayReply m outcome [] m
gone_reply m outcome is = inl (ap (replied m) is)
