-- One caller.
use Rattle.std.proofs.Common.{◌≡◌, ◌⊎◌, inl, inr, ℕ, ◌≤◌, Bool, true, List, [], ◌++◌, length, take, drop, refl, sym, ap, subst, ◌∙◌, arith}
use Rattle.std.specs.Prelude.{Result, Ok, Err}
use Rattle.std.proofs.lemmas.List.Elements.{All-nil}
use Rattle.dmn_outside.specs.Counts.{HasCause, Rose}
use Rattle.dmn_outside.specs.Disk.{AreOver, DiskView}
use Rattle.dmn_outside.specs.Later.{StampsSince}
use Rattle.dmn_outside.specs.Line.{LineView, Moments, Talk}
use Rattle.dmn_outside.specs.declared.device.DiskFault.{DiskFault}
use Rattle.dmn_desk.specs.declared.request.Request.{Request}
use Rattle.dmn_desk.specs.Asked.{entry_by}
use Rattle.dmn_http.specs.Exchanges.{Exchanged, Exchanges, Outcome, Undecided, asks}
use Rattle.dmn_http.specs.Replies.{SendsReply}
use Rattle.dmn_http.specs.Texts.{reply_text}
use Rattle.dmn_http.specs.declared.exchange.Exchange.TheVariants as exchanges
use Rattle.dmn_http.specs.declared.reply.HttpReply.{HttpReply}
use Rattle.dmn_office.specs.declared.office.Office.{Office}
use Rattle.dmn_office.specs.Lasting.{SentLater}
use Rattle.dmn_office.proofs.Lasting.{sent_later}
use Rattle.dmn_office.proofs.Moving.{breaks_earlier, goes_earlier, stands_still, stays}
use Rattle.dmn_registry.specs.Machine.{Machine}
use Rattle.dmn_serve.specs.Callers.{MaySend, Serves}
use Rattle.dmn_serve.specs.Outcome.{this_caller}
use Rattle.dmn_serve.specs.Steps.{AnswersCaller, IsNew, IsOneCaller, IsSent, Sends, ServesCaller}
use Rattle.dmn_serve.proofs.Replying.{fault_reply, gone_reply, may_send}

-- ---- bytes that are sent

-- what of these bytes was sent
record Piece (bytes : List ℕ) (old new : Talk) : Type 0 where
  sent : List ℕ
  is : IsSent bytes sent old new
  talk : new ≡ record old { sent = old.sent ++ sent; own = new.own }

piece_of : {E : Type 0} (r : Result (Unit {0}) E) (bytes : List ℕ) (x y : Talk) → SendsReply r bytes x y → Piece bytes x y
piece_of (Ok done) bytes x y sends =
    let own : y.own ≡ x.own = ap (λ (t : Talk). t.own) sends in
    record { sent = bytes; is = inl (refl, own); talk = sends ∙ ap (λ (k : ℕ). record x { sent = x.sent ++ bytes; own = k }) (sym own) }
piece_of (Err fault) bytes x y sends = record { sent = take sends.count bytes; is = inr (sends.count, sends.own, sends.few, refl); talk = sends.after }

-- where not all was sent, the count of faults rose
blamed : {E : Type 0} (r : Result (Unit {0}) E) (bytes : List ℕ) (x y : LineView) → SendsReply r bytes x.talk y.talk → HasCause x.faults y.faults r → (y.talk.own ≡ x.talk.own) ⊎ Rose x.faults y.faults
blamed (Ok done) bytes x y sends cause = inl (ap (λ (t : Talk). t.own) sends)
blamed (Err fault) bytes x y sends cause = inr cause.failed

pub sends_reply : {E : Type 0} (r : Result (Unit {0}) E) (stamped : Bool) (from to : ℕ) (bytes : List ℕ) (disk : DiskView) (x y : LineView) → SendsReply r bytes x.talk y.talk → HasCause x.faults y.faults r → AreOver from disk.past
    → (stamped ≡ true → StampsSince from to x.moments y.moments) → (stamped ≡ true → length x.moments.sent ≡ length x.talk.sent) → (stamped ≡ true → length y.moments.sent ≡ length y.talk.sent) → Sends stamped bytes disk x y
sends_reply r stamped from to bytes disk x y sends cause over stamps before after =
    let p = piece_of r bytes x.talk y.talk sends in
    let s = sent_later stamped from to p.sent disk x y over (ap (λ (t : Talk). t.sent) p.talk) stamps before after in
    record { sent = p.sent; is = p.is; talk = p.talk; blame = blamed r bytes x y sends cause; later = s.0; stamps = s.1 }

rose_within : (a b c d : ℕ) → a ≤ b → Rose b c → c ≤ d → Rose a d
rose_within a b c d before rose after = omega (arith, before, rose, after)

-- ---- a caller to whom something is sent

-- from a caller to whom nothing was sent yet, of whose bytes some were taken
module _ (stamped : Bool) (taken : ℕ) (x y z : LineView) (new : IsNew stamped x) (took : y.talk ≡ record x.talk { left = drop taken x.talk.left }) (still : stamped ≡ true → y.moments ≡ x.moments) where
  own_zero : y.talk.own ≡ 0
  own_zero = ap (λ (t : Talk). t.own) took ∙ new.own

  sent_none : y.talk.sent ≡ []
  sent_none = ap (λ (t : Talk). t.sent) took ∙ new.sent

  all_sent : (bytes : List ℕ) (disk : DiskView) (s : Sends stamped bytes disk y z) → z.talk.sent ≡ s.sent
  all_sent bytes disk s = ap (λ (t : Talk). t.sent) s.talk ∙ ap (λ (l : List ℕ). l ++ s.sent) sent_none

  abbrev sent_later_all : (bytes : List ℕ) (disk : DiskView) (s : Sends stamped bytes disk y z) → SentLater z.talk.sent disk
  sent_later_all bytes disk s = record { from = s.later.from; over = s.later.over; moments = s.later.moments; count = s.later.count ∙ ap length (sym (all_sent bytes disk s)); each = s.later.each }

  one_caller : (bytes : List ℕ) (disk : DiskView) (s : Sends stamped bytes disk y z) → x.faults ≤ y.faults → IsOneCaller stamped s.later.moments x z
  one_caller bytes disk s le =
      let left : z.talk.left ≡ drop taken x.talk.left = ap (λ (t : Talk). t.left) s.talk ∙ ap (λ (t : Talk). t.left) took in
      record {
        talk = s.talk ∙ ap (λ (t : Talk). record t { sent = t.sent ++ s.sent; own = z.talk.own }) took ∙ ap (λ (l : List ℕ). record x.talk { left = l; sent = x.talk.sent ++ s.sent; own = z.talk.own }) (sym left)
            ∙ ap (λ (l : List ℕ). record x.talk { left = z.talk.left; sent = l; own = z.talk.own }) (ap (λ (l : List ℕ). l ++ s.sent) new.sent ∙ sym (all_sent bytes disk s));
        stamps = λ yes_. s.stamps yes_ ∙ ap (λ (m : Moments). record m { sent = m.sent ++ s.later.moments }) (still yes_) ∙ ap (λ (l : List ℕ). record x.moments { sent = l ++ s.later.moments }) (new.moments yes_);
        blame = elim s.blame [ inl same ↦ inl (same ∙ own_zero) | inr rose ↦ inr (rose_within x.faults y.faults z.faults z.faults le rose (omega arith)) ];
      }

  served_so : (m n : Machine) (bytes : List ℕ) (disk : DiskView) (s : Sends stamped bytes disk y z) → MaySend m x.talk.left bytes n → Serves m x.talk.left (this_caller z.talk) n
  served_so m n bytes disk s may = elim s.is [
    | inl (whole, own) ↦ inl (record { own = own ∙ own_zero; reply = subst (λ (l : List ℕ). MaySend m x.talk.left l n) (sym (all_sent bytes disk s ∙ whole)) may })
    | inr (count, own, few, is) ↦ inr (inr (record { own = own; bytes = bytes; reply = may; count = count; few = few; front = all_sent bytes disk s ∙ is }))
  ]

-- ---- a caller to whom nothing is sent

-- no moment stands with nothing
abbrev sent_nothing : (from : ℕ) (disk : DiskView) (sent : List ℕ) → AreOver from disk.past → sent ≡ [] → SentLater sent disk
sent_nothing from disk sent over none = record { from = from; over = over; moments = []; count = ap length (sym none); each = All-nil (λ t. from ≤ t) }

-- of a caller to whom nothing was sent yet some bytes were taken
module _ (stamped : Bool) (taken : ℕ) (x y : LineView) (new : IsNew stamped x) (took : y.talk ≡ record x.talk { left = drop taken x.talk.left; own = y.talk.own }) (still : stamped ≡ true → y.moments ≡ x.moments) where
  silent : y.talk.sent ≡ []
  silent = ap (λ (t : Talk). t.sent) took ∙ new.sent

  one_silent : (y.talk.own ≡ 0) ⊎ Rose x.faults y.faults → IsOneCaller stamped [] x y
  one_silent blame =
      let left : y.talk.left ≡ drop taken x.talk.left = ap (λ (t : Talk). t.left) took in
      let sent : y.talk.sent ≡ x.talk.sent = ap (λ (t : Talk). t.sent) took in
      record {
        talk = took ∙ ap (λ (l : List ℕ). record x.talk { left = l; own = y.talk.own }) (sym left) ∙ ap (λ (l : List ℕ). record x.talk { left = y.talk.left; sent = l; own = y.talk.own }) (sym sent);
        stamps = λ yes_. still yes_ ∙ ap (λ (l : List ℕ). record x.moments { sent = l }) (new.moments yes_);
        blame = blame;
      }

-- taking bytes leaves this caller's own part
own_kept : (taken : ℕ) (x y : Talk) → y ≡ record x { left = drop taken x.left } → y ≡ record x { left = drop taken x.left; own = y.own }
own_kept taken x y took = took ∙ ap (λ (k : ℕ). record x { left = drop taken x.left; own = k }) (sym (ap (λ (t : Talk). t.own) took))

-- a caller that left
gone_so : (m : Machine) (stamped : Bool) (x y : LineView) → IsNew stamped x → Exchanged exchanges.Gone x.talk y.talk → Serves m x.talk.left (this_caller y.talk) m
gone_so m stamped x y new e =
    let sent : [] ≡ y.talk.sent = sym (ap (λ (t : Talk). t.sent) e.after ∙ new.sent) in
    inl (record { own = ap (λ (t : Talk). t.own) e.after ∙ new.own; reply = subst (λ (l : List ℕ). MaySend m x.talk.left l m) sent (may_send m m x.talk.left [] e.outcome e.asked (gone_reply m e.outcome e.shows)) })

-- a caller whose line failed too early
undecided_so : (m : Machine) (stamped : Bool) (x y : LineView) → IsNew stamped x → Undecided x.talk y.talk → Serves m x.talk.left (this_caller y.talk) m
undecided_so m stamped x y new u = inr (inl (record { own = u.own; taken = u.taken; enough = u.enough; open_ = u.open_; nothing = ap (λ (t : Talk). t.sent) u.after ∙ new.sent; same = refl }))

-- ---- a turn's caller, by what was read of it

-- what was read left the disk, and of the line's moments all
module _ (stamped : Bool) (t later : ℕ) (before mid : DiskView) (old : Office) (x y : LineView) (new : IsNew stamped x) (still : stamped ≡ true → y.moments ≡ x.moments) (few : x.faults ≤ y.faults) (le : t ≤ later) (over : AreOver t before.past) (same : mid ≡ before) where
  -- its request was done
  pub asked_served : (r : Result (Unit {0}) DiskFault) (request : Request) (behind : Office) (after : DiskView) (z : LineView) → Exchanged (exchanges.Ask request) x.talk y.talk → AnswersCaller r stamped later mid after old request behind y z → ServesCaller r stamped t before after old behind x z
  asked_served (Ok done) request behind after z e (bytes, sends, does) = (
    sent_later_all stamped e.taken x y z new e.after still bytes after sends,
    one_caller stamped e.taken x y z new e.after still bytes after sends few,
    λ m stands.
        let s = does m (stands_still before mid m old same stands) in
        let asked : Exchanges x.talk.left (asks request) = subst (λ (o : Outcome). Exchanges x.talk.left o) e.shows e.asked in (
          s.0,
          served_so stamped e.taken x y z new e.after still m s.0 bytes after sends (may_send m s.0 x.talk.left bytes (asks request) asked s.1),
          goes_earlier t later before mid after m old le over same stands s.0 behind s.2,
        ),
  )
  asked_served (Err fault) request behind after z e (is, does) =
      let talk : z.talk ≡ y.talk = ap (λ (v : LineView). v.talk) is in
      let took : z.talk ≡ record x.talk { left = drop e.taken x.talk.left; own = z.talk.own } = own_kept e.taken x.talk z.talk (talk ∙ e.after) in
      let quiet : stamped ≡ true → z.moments ≡ x.moments = λ yes_. ap (λ (v : LineView). v.moments) is ∙ still yes_ in
      let own : z.talk.own ≡ 0 = ap (λ (k : Talk). k.own) (talk ∙ e.after) ∙ new.own in (
        silent stamped e.taken x z new took quiet,
        own,
        one_silent stamped e.taken x z new took quiet (inl own),
        λ m stands. (
          request,
          subst (λ (o : Outcome). Exchanges x.talk.left o) e.shows e.asked,
          breaks_earlier t later before mid after m old le over same stands (entry_by request) (does m (stands_still before mid m old same stands)),
        ),
      )

  -- a check failed, or there was no memory
  pub reply_served : (reply : HttpReply) (after : DiskView) (z : LineView) → Exchanged (exchanges.Reply reply) x.talk y.talk → after ≡ before → Sends stamped (reply_text reply) after y z → ServesCaller (Ok tt) stamped t before after old old x z
  reply_served reply after z e kept sends = (
    sent_later_all stamped e.taken x y z new e.after still (reply_text reply) after sends,
    one_caller stamped e.taken x y z new e.after still (reply_text reply) after sends few,
    λ m stands. (
      m,
      served_so stamped e.taken x y z new e.after still m m (reply_text reply) after sends (may_send m m x.talk.left (reply_text reply) e.outcome e.asked (fault_reply m e.outcome reply e.shows)),
      stays t before after m old over kept stands,
    ),
  )

  over_still : AreOver t mid.past
  over_still = subst (λ (d : DiskView). AreOver t d.past) (sym same) over

  -- it left
  pub gone_served : Exchanged exchanges.Gone x.talk y.talk → ServesCaller (Ok tt) stamped t before mid old old x y
  gone_served e =
      let took = own_kept e.taken x.talk y.talk e.after in (
        sent_nothing t mid y.talk.sent over_still (silent stamped e.taken x y new took still),
        one_silent stamped e.taken x y new took still (inl (ap (λ (k : Talk). k.own) e.after ∙ new.own)),
        λ m stands. (m, gone_so m stamped x y new e, stays t before mid m old over same stands),
      )

  -- its line failed
  pub undecided_served : Undecided x.talk y.talk → Rose x.faults y.faults → ServesCaller (Ok tt) stamped t before mid old old x y
  undecided_served u rose = (
    sent_nothing t mid y.talk.sent over_still (silent stamped u.taken x y new u.after still),
    one_silent stamped u.taken x y new u.after still (inr rose),
    λ m stands. (m, undecided_so m stamped x y new u, stays t before mid m old over same stands),
  )
