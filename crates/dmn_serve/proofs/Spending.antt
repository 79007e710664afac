-- The room that callers take, over a station that tells how much is left for sending, and how long its files may be.
use Rattle.std.proofs.Common.{◌≡◌, ◌⊎◌, inl, inr, ℕ, zero, suc, ◌+◌, ◌<◌, ◌≤◌, Bool, true, List, [], ◌∷◌, ◌++◌, length, take, drop, map, replicate, refl, sym, ap, subst, ◌∙◌, append_assoc, arith}
use Rattle.std.specs.Prelude.{Option, Result, Ok, Err}
use Rattle.std.specs.List.{All}
use Rattle.std.proofs.lemmas.List.{append-nil, append_cancel_left, length-append, length-replicate, map-append}
use Rattle.std.proofs.lemmas.List.Elements.{All-append, All-nil, All-push}
use Rattle.dmn_outside.specs.Disk.{DiskView}
use Rattle.dmn_outside.specs.Failing.{KeepsDisk, KeepsRoom}
use Rattle.dmn_outside.specs.Line.{LineView, Moves, Served, Talk}
use Rattle.dmn_outside.specs.declared.device.DiskFault.{DiskFault}
use Rattle.dmn_journal.specs.Journal.{Entry, gate_place, header_text}
use Rattle.dmn_desk.specs.declared.request.Request.{Request}
use Rattle.dmn_desk.specs.Asked.{HasRoom, entry_by}
use Rattle.dmn_http.specs.Exchanges.{Exchanged, Exchanges, Outcome, asks}
use Rattle.dmn_http.specs.Replies.{SendsReply, SendsReplySurely}
use Rattle.dmn_http.specs.Texts.{reply_text}
use Rattle.dmn_http.specs.declared.exchange.Exchange.TheVariants as exchanges
use Rattle.dmn_http.specs.declared.reply.HttpReply.{HttpReply}
use Rattle.dmn_office.specs.declared.office.Office.{Office}
use Rattle.dmn_office.specs.Lasting.{IsLasting}
use Rattle.dmn_office.specs.Offices.{StandsAt}
use Rattle.dmn_office.proofs.Moving.{stands_still}
use Rattle.dmn_registry.specs.Machine.{Machine}
use Rattle.dmn_registry.specs.Snapshots.{HasRoomForSnapshot, SnapshotsFit}
use Rattle.dmn_registry.specs.declared.registry.Registry.{Registry}
use Rattle.dmn_serve.specs.declared.serving.Turn.TheVariants as turns
use Rattle.dmn_serve.specs.Callers.{MaySend, Visit, served_of, text_of}
use Rattle.dmn_serve.specs.Outcome.{all_callers, this_caller}
use Rattle.dmn_serve.specs.Room.{AnswersSurely, HasPlace, HasPlaceNext, IsUnfailed, IsWhole, IsWholeTurn, LacksRoom, MayBeServed, ServesSurely, Suffices, TurnsSurely, sent_size}
use Rattle.dmn_serve.specs.Steps.{CameOne, MayReply}
use Rattle.dmn_serve.proofs.Replying.{fault_reply, may_send}
use Rattle.dmn_serve.proofs.Running.{ServedSoFar, each_more, each_weaker}

-- ---- a disk that is kept

pub disk_same : (d e : DiskView) → e ≡ d → KeepsDisk d e
disk_same d e same = record { room = ap (λ (v : DiskView). v.room) same; faults = ap (λ (v : DiskView). v.faults) same }

pub disk_then : (d e f : DiskView) → KeepsDisk d e → KeepsDisk e f → KeepsDisk d f
disk_then d e f k l = record { room = l.room ∙ k.room; faults = l.faults ∙ k.faults }

-- ---- a reply

-- a reply is sent whole, or does not fit
pub whole_or : {E : Type 0} (r : Result (Unit {0}) E) (bytes : List ℕ) (p q : ℕ) (y z : LineView) → SendsReply r bytes y.talk z.talk → SendsReplySurely r (length bytes) p q y z → IsWhole p q y z ⊎ (p < length bytes)
whole_or (Ok done) bytes p q y z sends sure =
    let sent : z.talk.sent ≡ y.talk.sent ++ bytes = ap (λ (t : Talk). t.sent) sends in
    inl (record { own = ap (λ (t : Talk). t.own) sends; spent = record { room = omega (arith, sure.room, ap length sent, length-append y.talk.sent bytes); faults = sure.faults } })
whole_or (Err fault) bytes p q y z sends sure = inr sure

-- behind calls that left the line and its room
pub whole_behind : (p s q : ℕ) (x a z : LineView) → s ≡ p → a ≡ x → IsWhole s q a z → IsWhole p q x z
whole_behind p s q x a z room same w = subst (λ (v : LineView). IsWhole p q v z) same (subst (λ (k : ℕ). IsWhole k q a z) room w)

-- behind bytes that were taken
whole_taken : (p s q : ℕ) (x y z : LineView) → KeepsRoom p s x y → y.talk.sent ≡ x.talk.sent → y.talk.own ≡ x.talk.own → IsWhole s q y z → IsWhole p q x z
whole_taken p s q x y z k sent own w = record { own = w.own ∙ own; spent = record { room = omega (arith, w.spent.room, k.room, ap length sent); faults = w.spent.faults ∙ k.faults } }

-- ---- a caller, by what was read of it

module _ (p s q : ℕ) (before mid after : DiskView) (office : Office) (x y z : LineView) (kept : KeepsRoom p s x y) (same : mid ≡ before) where
  asked_lacks : (request : Request) → Exchanged (exchanges.Ask request) x.talk y.talk → ((bytes : List ℕ) × (s < length bytes) × ((m : Machine) → StandsAt office m mid.told → (n : Machine) × MayReply m (asks request) bytes n)) → LacksRoom x.talk.left p office before
  asked_lacks request e (bytes, lacks, may) = (
    bytes,
    omega (arith, lacks, kept.room),
    λ m stands.
        let n = may m (stands_still before mid m office same stands) in
        (n.0, may_send m n.0 x.talk.left bytes (asks request) (subst (λ (o : Outcome). Exchanges x.talk.left o) e.shows e.asked) n.1),
  )

  pub asked_surely : (r : Result (Unit {0}) DiskFault) (request : Request) → Exchanged (exchanges.Ask request) x.talk y.talk → AnswersSurely r request s q office y z mid after → ServesSurely r p q office x z before after
  asked_surely (Ok done) request e (disk, sent) = (
    disk_then before mid after (disk_same before mid same) disk,
    elim sent [
      | inl w ↦ inl (whole_taken p s q x y z kept (ap (λ (t : Talk). t.sent) e.after) (ap (λ (t : Talk). t.own) e.after) w)
      | inr lacks ↦ inr (asked_lacks request e lacks)
    ],
  )
  asked_surely (Err fault) request e sure = absurd sure

  pub reply_surely : (reply : HttpReply) → Exchanged (exchanges.Reply reply) x.talk y.talk → after ≡ mid → IsWhole s q y z ⊎ (s < length (reply_text reply)) → ServesSurely (Ok tt) p q office x z before after
  reply_surely reply e behind sent = (
    disk_then before mid after (disk_same before mid same) (disk_same mid after behind),
    elim sent [
      | inl w ↦ inl (whole_taken p s q x y z kept (ap (λ (t : Talk). t.sent) e.after) (ap (λ (t : Talk). t.own) e.after) w)
      | inr lacks ↦ inr (reply_text reply, omega (arith, lacks, kept.room), λ m stands. (m, may_send m m x.talk.left (reply_text reply) e.outcome e.asked (fault_reply m e.outcome reply e.shows)))
    ],
  )

  pub gone_surely : Exchanged exchanges.Gone x.talk y.talk → ServesSurely (Ok tt) p s office x y before mid
  gone_surely e = (
    disk_same before mid same,
    inl (record {
      own = ap (λ (t : Talk). t.own) e.after;
      spent = record { room = omega (arith, kept.room, ap length (ap (λ (t : Talk). t.sent) e.after)); faults = kept.faults };
    }),
  )

-- ---- a turn

module _ (p s q : ℕ) (before mid after : DiskView) (office : Office) (x w y : LineView) (moves : Moves (Ok true) x.talk w.talk) (kept : KeepsRoom p s x w) (same : mid ≡ before) where
  text_is : w.talk.left ≡ moves.0
  text_is = ap (λ (t : Talk). t.left) moves.3

  pub place_here : (end : ℕ) → HasPlaceNext x.talk.later end before.room → HasPlace w.talk.left end mid.room
  place_here end next = subst (λ (l : List ℕ). HasPlace l end mid.room) (sym text_is) (subst (λ (d : DiskView). HasPlace moves.0 end d.room) (sym same) (next moves.0 moves.1 moves.2))

  pub turn_surely : y.caller_faults ≡ w.caller_faults → ServesSurely (Ok tt) s q office w y mid after → TurnsSurely (Ok turns.Served) p q office x y before after
  turn_surely callers (disk, sent) = (
    disk_then before mid after (disk_same before mid same) disk,
    callers ∙ kept.callers,
    elim sent [
      | inl t ↦ inl (record {
        own = t.own ∙ ap (λ (k : Talk). k.own) moves.3;
        spent = omega (arith, t.spent.room, kept.room, ap length (ap (λ (k : Talk). k.sent) moves.3));
        faults = t.spent.faults ∙ kept.faults;
      })
      | inr lacks ↦ inr (
        moves.0,
        moves.1,
        moves.2,
        (lacks.0, omega (arith, lacks.1, kept.room), λ m stands. let n = lacks.2 m (stands_still before mid m office same stands) in (n.0, subst (λ (l : List ℕ). MaySend m l lacks.0 n.0) text_is n.1)),
      )
    ],
  )

-- a snapshot has its place on a disk that is the same
pub snaps_there : (registry : Registry) (d e : DiskView) → e ≡ d → HasRoomForSnapshot registry d.room → HasRoomForSnapshot registry e.room
snaps_there registry d e same place = subst (λ (v : DiskView). HasRoomForSnapshot registry v.room) (sym same) place

-- ---- the loop

size-append : (a b : List Served) → sent_size (a ++ b) ≡ sent_size a + sent_size b
size-append [] b = omega arith
size-append (s ∷ a) b = let more = size-append a b in omega (arith, more)

-- callers came and were sent all of their replies, and this is what was taken from the room
pub record SpentSoFar (p q : ℕ) (old now : LineView) (before after : DiskView) : Type 0 where
  pub served : List Served
  pub all : all_callers now.talk ≡ all_callers old.talk ++ served
  pub room : q + sent_size served ≡ p
  pub whole : All IsUnfailed served
  pub faults : now.faults ≡ old.faults
  pub callers : now.caller_faults ≡ old.caller_faults
  pub disk : KeepsDisk before after

pub spent_none : (p : ℕ) (x : LineView) (d : DiskView) → SpentSoFar p p x x d d
spent_none p x d = record { served = []; all = sym (append-nil (all_callers x.talk)); room = omega arith; whole = All-nil IsUnfailed; faults = refl; callers = refl; disk = disk_same d d refl }

all_free : (n : ℕ) → All (λ (t : ℕ). Unit {0}) (replicate n 0)
all_free zero = All-nil (λ (t : ℕ). Unit {0})
all_free (suc n) = All-append (λ (t : ℕ). Unit {0}) (0 ∷ []) (replicate n 0) (All-push (λ (t : ℕ). Unit {0}) [] 0 (All-nil (λ (t : ℕ). Unit {0})) tt) (all_free n)

has_room : (found : Option Entry) (a b c d : ℕ) → a ≡ b → c ≡ d → HasRoom found a c → HasRoom found b d
has_room found a b c d ends rooms has = subst (λ (k : ℕ). HasRoom found k d) ends (subst (λ (k : ℕ). HasRoom found a k) rooms has)

module _ (stamped : Bool) (count started : ℕ) (m : Machine) (before mid : DiskView) (x y : LineView) (office : Office) (f : ServedSoFar stamped count started m before mid x y office) (p q most room : ℕ) (enough : Suffices m most p room x.talk.later) (few : count < most) (r : SpentSoFar p q x y before mid) where
  served_is : map served_of f.visits ≡ r.served
  served_is = append_cancel_left (all_callers x.talk) (map served_of f.visits) r.served (sym f.came.served ∙ r.all)

  may_be : MayBeServed m x.talk.later f.visits y.talk.later f.machine
  may_be = record {
    texts = f.came.texts;
    serves = each_weaker (IsLasting mid f.machine) (λ k t. Unit {0}) m f.visits f.machine (λ k t lasts. tt) f.answered.serves;
    whole = subst (All IsUnfailed) (sym served_is) r.whole;
  }

  -- where the room is enough, the next command has its place
  pub place_next : room ≡ before.room → HasPlaceNext y.talk.later office.registry.journal.end mid.room
  place_next same text others is request asked =
      has_room (entry_by request) _ _ _ _ (sym f.stands.registry.registry_stands.end) (same ∙ sym r.disk.room) (enough.keeps f.visits y.talk.later f.machine may_be (omega (arith, f.counted, few)) text others is request asked)

  -- and so has a snapshot
  pub snaps_next : room ≡ before.room → HasRoomForSnapshot office.registry mid.room
  snaps_next same = (f.machine, f.stands.registry.registry_stands, subst (λ (n : ℕ). SnapshotsFit f.machine n) (same ∙ sym r.disk.room) (enough.snapshots f.visits y.talk.later f.machine may_be (omega (arith, f.counted, few))))

  -- and each reply fits what is left of it
  pub never_lacks : (text : List ℕ) (others : List (List ℕ)) → y.talk.later ≡ text ∷ others → LacksRoom text q office mid → ⊥
  never_lacks text others is (bytes, lacks, may) =
      let n = may f.machine f.stands in
      let visit : Visit = record { text = text; served = record { sent = bytes; own = 0 }; moments = replicate (length bytes) 0 } in
      let texts : x.talk.later ≡ map text_of (f.visits ++ visit ∷ []) ++ others =
      f.came.texts ∙ ap (λ (l : List (List ℕ)). map text_of f.visits ++ l) is ∙ sym (append_assoc (map text_of f.visits) (text ∷ []) others) ∙ ap (λ (l : List (List ℕ)). l ++ others) (sym (map-append text_of f.visits (visit ∷ []))) in
      let served : map served_of (f.visits ++ visit ∷ []) ≡ r.served ++ record { sent = bytes; own = 0 } ∷ [] = map-append served_of f.visits (visit ∷ []) ∙ ap (λ (l : List Served). l ++ record { sent = bytes; own = 0 } ∷ []) served_is in
      let may_more : MayBeServed m x.talk.later (f.visits ++ visit ∷ []) others n.0 = record {
        texts = texts;
        serves = each_more (λ k t. Unit {0}) m f.visits f.machine visit n.0 may_be.serves (inl (record { own = refl; reply = n.1 })) (length-replicate (length bytes) 0) (all_free (length bytes));
        whole = subst (All IsUnfailed) (sym served) (All-push IsUnfailed r.served (record { sent = bytes; own = 0 }) r.whole refl);
      } in
      let fits = enough.sends (f.visits ++ visit ∷ []) others n.0 may_more (omega (arith, length-append f.visits (visit ∷ []), f.counted, few)) in
      omega (arith, fits, lacks, r.room, ap sent_size served, size-append r.served (record { sent = bytes; own = 0 } ∷ []))

  pub spent_more : (now : ℕ) (after : DiskView) (z : LineView) (visit : Visit) (others : List (List ℕ)) → CameOne stamped visit others y z → TurnsSurely (Ok turns.Served) q now office y z mid after → SpentSoFar p now x z before after
  spent_more now after z visit others one (disk, callers, inl w) = record {
    served = r.served ++ this_caller z.talk ∷ [];
    all = one.served ∙ ap (λ (s : Served). all_callers y.talk ++ s ∷ []) one.this ∙ ap (λ (l : List Served). l ++ this_caller z.talk ∷ []) r.all ∙ append_assoc (all_callers x.talk) r.served (this_caller z.talk ∷ []);
    room = omega (arith, size-append r.served (this_caller z.talk ∷ []), w.spent, r.room);
    whole = All-push IsUnfailed r.served (this_caller z.talk) r.whole w.own;
    faults = w.faults ∙ r.faults;
    callers = callers ∙ r.callers;
    disk = disk_then before mid after r.disk disk;
  }
  spent_more now after z visit others one (disk, callers, inr (text, others', is, lacks)) = absurd (never_lacks text others' is lacks)

-- who came was served whole
pub all_whole : (p q : ℕ) (x y z : LineView) (before disk : DiskView) → SpentSoFar p q x y before disk → z.talk ≡ y.talk → (served : List Served) → all_callers z.talk ≡ all_callers x.talk ++ served → All IsUnfailed served
all_whole p q x y z before disk r same served all = subst (All IsUnfailed) (append_cancel_left (all_callers x.talk) r.served served (sym r.all ∙ sym (ap all_callers same) ∙ all)) r.whole
