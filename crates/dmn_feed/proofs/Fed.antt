-- Frames that are answered one after another.
use Rattle.std.proofs.Common.{◌≡◌, inl, inr, ℕ, ◌+◌, ◌≤◌, ◌<◌, Bool, List, [], ◌∷◌, ◌++◌, length, take, drop, refl, sym, ap, subst, ◌∙◌, append_assoc, arith}
use Rattle.std.specs.Prelude.{Some}
use Rattle.std.specs.List.{All, flat_map}
use Rattle.std.proofs.lemmas.List.{append-nil, length-append, length-drop, take-append-drop}
use Rattle.std.proofs.lemmas.List.Elements.{All-nil, All-push, All-weaker}
use Rattle.std.proofs.lemmas.Grind.{flat_map-append}
use Rattle.dmn_outside.specs.Crashes.{Rests}
use Rattle.dmn_outside.specs.Disk.{AreOver, DiskView}
use Rattle.dmn_outside.specs.Line.{LineView, Moments, Talk}
use Rattle.dmn_desk.specs.declared.answer.Answer.{Answer}
use Rattle.dmn_desk.specs.Texts.{Fits, frame_of}
use Rattle.dmn_frames.specs.Frames.{Begins, Frame, frame_at}
use Rattle.dmn_frames.specs.Steps.{Emptied, Faulted}
use Rattle.dmn_registry.specs.Machine.{Accepts, Machine}
use Rattle.dmn_registry.specs.Own.{IsOwn}
use Rattle.dmn_registry.proofs.Between.{leads_on, leads_self, run_on, unmoved}
use Rattle.dmn_journal.specs.Journal.{Entry}
use Rattle.dmn_office.specs.declared.office.Office.{Office}
use Rattle.dmn_office.specs.Lasting.{IsLasting, SentLater}
use Rattle.dmn_office.specs.Offices as offices
use Rattle.dmn_office.specs.Offices.{GoesOn, StandsAt}
use Rattle.dmn_office.proofs.Lasting.{lasts_here, lasts_on}
use Rattle.dmn_office.proofs.Moving.{hand_leads}
use Rattle.dmn_feed.specs.Outcome.{Answered, InHand, Sent, SentBefore, entry_of, last_bytes, most}
use Rattle.dmn_feed.specs.Serving.{MayAnswer, Serves}
use Rattle.dmn_feed.specs.Steps.{IsStill, MayBreak, SentFewer, Turned}

pub Begins-more : (text : List ℕ) (frames : List Frame) (left : List ℕ) (frame : Frame) (after : List ℕ) → Begins text frames left → frame_at left ≡ Some (frame, after) → Begins text (frames ++ frame ∷ []) after
Begins-more text [] left frame after b e = (after, ap frame_at (sym b) ∙ e, refl)
Begins-more text (f ∷ frames) left frame after b e = (b.0, b.1, Begins-more b.0 frames left frame after b.2 e)

-- ---- answers and their moments

pub serves_map : (P Q : Machine → ℕ → Type 0) (m : Machine) (frames : List Frame) (answers : List Answer) (moments : List ℕ) (n : Machine) → ((mid : Machine) (t : ℕ) → P mid t → Q mid t) → Serves P m frames answers moments n → Serves Q m frames answers moments n
serves_map P Q m [] [] moments n f s = s
serves_map P Q m (frame ∷ frames) (answer ∷ answers) moments n f s = (s.0, s.1, s.2, s.3, s.4, s.5, All-weaker (P s.0) (Q s.0) (f s.0) s.1 s.6, serves_map P Q s.0 frames answers s.2 n f s.7)
serves_map P Q m [] (answer ∷ answers) moments n f s = absurd s
serves_map P Q m (frame ∷ frames) [] moments n f s = absurd s

pub serves_more : (P : Machine → ℕ → Type 0) (m : Machine) (frames : List Frame) (answers : List Answer) (moments : List ℕ) (n : Machine) (frame : Frame) (answer : Answer) (here : List ℕ) (o : Machine)
    → Serves P m frames answers moments n → MayAnswer n frame answer o → length here ≡ length (frame_of answer) → All (P o) here → Serves P m (frames ++ frame ∷ []) (answers ++ answer ∷ []) (moments ++ here) o
serves_more P m [] [] moments n frame answer here o s may count all =
    (o, here, [], subst (λ (k : Machine). MayAnswer k frame answer o) s.0 may, ap (λ (l : List ℕ). l ++ here) s.1 ∙ sym (append-nil here), count, all, (refl, refl))
serves_more P m (f ∷ frames) (a ∷ answers) moments n frame answer here o s may count all =
    (s.0, s.1, s.2 ++ here, s.3, ap (λ (l : List ℕ). l ++ here) s.4 ∙ append_assoc s.1 s.2 here, s.5, s.6, serves_more P s.0 frames answers s.2 n frame answer here o s.7 may count all)
serves_more P m [] (a ∷ answers) moments n frame answer here o s may count all = absurd s
serves_more P m (f ∷ frames) [] moments n frame answer here o s may count all = absurd s

last_of : (answers : List Answer) (answer : Answer) → last_bytes (answers ++ answer ∷ []) ≡ frame_of answer
last_of [] answer = refl
last_of (a ∷ []) answer = refl
last_of (a ∷ b ∷ answers) answer = last_of (b ∷ answers) answer

-- ---- the loop

-- so many frames were answered, all of their answers were sent, and nothing else changed; the office stands for the machine
-- behind them
pub record FedSoFar (stamped : Bool) (count started : ℕ) (m : Machine) (before disk : DiskView) (old now : LineView) (office : Office) : Type 0 where
  pub machine : Machine
  pub stands : StandsAt office machine disk.told
  pub frames : List Frame
  pub bytes : List ℕ
  pub moments : List ℕ
  pub answered : Answered started before disk m old.talk.left frames now.talk.left bytes moments machine machine
  pub sent : Sent stamped now.talk.left bytes moments old now
  pub counted : length frames ≡ count

pub fed_none : (stamped : Bool) (started : ℕ) (m : Machine) (disk : DiskView) (old : LineView) (office : Office) → AreOver started disk.past → StandsAt office m disk.told → FedSoFar stamped 0 started m disk disk old old office
fed_none stamped started m disk old office over stands = record {
  machine = m;
  stands = stands;
  frames = [];
  bytes = [];
  moments = [];
  answered = record { front = refl; answers = []; serves = (refl, refl); fit = All-nil Fits; bytes_are = refl; leads = leads_self m; images = unmoved started disk disk m over stands.registry.disk refl };
  sent = record { talk = ap (λ (l : List ℕ). record old.talk { sent = l }) (sym (append-nil old.talk.sent)); stamps = λ _. ap (λ (l : List ℕ). record old.moments { sent = l }) (sym (append-nil old.moments.sent)) };
  counted = refl;
}

module _ (stamped : Bool) (count started turn : ℕ) (m : Machine) (before mid after : DiskView) (x y z : LineView) (old new : Office) (le : started ≤ turn) (f : FedSoFar stamped count started m before mid x y old) where
  -- one frame more
  answered_more : (answer : Answer) (frame : Frame) (left : List ℕ) (n : Machine) (s : SentLater (frame_of answer) after) → Fits answer → frame_at y.talk.left ≡ Some (frame, left) → MayAnswer f.machine frame answer n → GoesOn turn mid after f.machine n new
      → Answered started before after m x.talk.left (f.frames ++ frame ∷ []) left (f.bytes ++ frame_of answer) (f.moments ++ s.moments) n n
  answered_more answer frame left n s fits front may goes = record {
    front = Begins-more x.talk.left f.frames y.talk.left frame left f.answered.front front;
    answers = f.answered.answers ++ answer ∷ [];
    serves = serves_more (IsLasting after n) m f.frames f.answered.answers f.moments f.machine frame answer s.moments n
        (serves_map (IsLasting mid f.machine) (IsLasting after n) m f.frames f.answered.answers f.moments f.machine (λ k t lasting. lasts_on t turn mid after f.machine n k lasting goes.leads goes.run) f.answered.serves)
        may s.count (All-weaker (λ (t : ℕ). s.from ≤ t) (IsLasting after n n) (λ t at. lasts_here after n s.from t goes.stands.registry.disk s.over at) s.moments s.each);
    fit = All-push Fits f.answered.answers answer f.answered.fit fits;
    bytes_are = rw f.answered.bytes_are (sym (flat_map-append frame_of f.answered.answers (answer ∷ []) ∙ ap (λ (l : List ℕ). flat_map frame_of f.answered.answers ++ l) (append-nil (frame_of answer))));
    leads = leads_on m f.machine n f.answered.leads goes.leads;
    images = run_on started turn before mid after m f.machine n le f.answered.leads goes.leads f.answered.images goes.run;
  }

  pub fed_more : (answer : Answer) (s : SentLater (frame_of answer) after) → Turned turn mid after old answer new y.talk.left z.talk.left → Sent stamped z.talk.left (frame_of answer) s.moments y z → FedSoFar stamped (count + 1) started m before after x z new
  fed_more answer s t sent =
      let next = t.may f.machine f.stands in
      record {
        machine = next.0;
        stands = next.2.stands;
        frames = f.frames ++ t.frame ∷ [];
        bytes = f.bytes ++ frame_of answer;
        moments = f.moments ++ s.moments;
        answered = answered_more answer t.frame z.talk.left next.0 s t.fits t.front next.1 next.2;
        sent = record {
          talk = sent.talk ∙ ap (λ (k : Talk). record k { left = z.talk.left; sent = k.sent ++ frame_of answer }) f.sent.talk ∙ ap (λ (l : List ℕ). record x.talk { left = z.talk.left; sent = l }) (append_assoc x.talk.sent f.bytes (frame_of answer));
          stamps = λ yes_. sent.stamps yes_ ∙ ap (λ (k : Moments). record k { sent = k.sent ++ s.moments }) (f.sent.stamps yes_) ∙ ap (λ (l : List ℕ). record x.moments { sent = l }) (append_assoc x.moments.sent f.moments s.moments);
        };
        counted = omega (arith, length-append f.frames (t.frame ∷ []), f.counted);
      }

  -- the line broke within an answer
  pub fed_part : (answer : Answer) (s : SentLater (frame_of answer) after) → count < most → Turned turn mid after old answer new y.talk.left z.talk.left → SentFewer stamped (frame_of answer) s.moments y z
      → (frames : List Frame) × (left : List ℕ) × (bytes : List ℕ) × (moments : List ℕ) × (n : Machine) × (a : Answered started before after m x.talk.left frames left bytes moments n n) × Rests (IsOwn n) after.told × (length frames ≤ most) × SentBefore stamped a.answers bytes moments x z
  unfolding answered_more
  fed_part answer s few t part =
      let next = t.may f.machine f.stands in
      let sent : y.talk.sent ≡ x.talk.sent ++ f.bytes = ap (λ (k : Talk). k.sent) f.sent.talk in
      let here : z.talk.sent ≡ y.talk.sent ++ take part.part.count (frame_of answer) = ap (λ (k : Talk). k.sent) part.part.after in (
        f.frames ++ t.frame ∷ [],
        z.talk.left,
        f.bytes ++ frame_of answer,
        f.moments ++ s.moments,
        next.0,
        answered_more answer t.frame z.talk.left next.0 s t.fits t.front next.1 next.2,
        next.2.stands.registry.disk,
        omega (arith, length-append f.frames (t.frame ∷ []), f.counted, few),
        record {
          more = drop part.part.count (frame_of answer);
          front = ap (λ (l : List ℕ). l ++ drop part.part.count (frame_of answer)) here ∙ append_assoc y.talk.sent (take part.part.count (frame_of answer)) (drop part.part.count (frame_of answer)) ∙ ap (λ (l : List ℕ). y.talk.sent ++ l) (take-append-drop part.part.count (frame_of answer)) ∙ ap (λ (l : List ℕ). l ++ frame_of answer) sent ∙ append_assoc x.talk.sent f.bytes (frame_of answer);
          few = omega (arith, length-drop part.part.count (frame_of answer), ap length (last_of f.answered.answers answer));
          own = part.part.own;
          others = part.part.after ∙ ap (λ (l : List ℕ). record y.talk { left = z.talk.left; sent = l; own = z.talk.own }) (sym here) ∙ ap (λ (k : Talk). record k { left = z.talk.left; sent = z.talk.sent; own = z.talk.own }) f.sent.talk;
          later = part.later;
          stamps = λ yes_. part.stamps yes_ ∙ ap (λ (k : Moments). k.sent ++ s.moments) (f.sent.stamps yes_) ∙ append_assoc x.moments.sent f.moments s.moments;
        },
      )

  -- the frame's command is in hand
  hand_next : (frame : Frame) (rest : List ℕ) (last : Machine) → frame_at y.talk.left ≡ Some (frame, rest) → offices.InHand f.machine (Some (entry_of frame)) last → InHand y.talk.left f.machine last
  hand_next frame rest last front (inl here) = inl here
  hand_next frame rest last front (inr (entry, e, accepts)) = let told : entry_of frame ≡ entry = cc e in inr (frame, rest, front, subst (λ (x : Entry). Accepts f.machine x last) (sym told) accepts)

  -- the disk broke
  pub fed_broken : (frame : Frame) (rest : List ℕ) → count < most → frame_at y.talk.left ≡ Some (frame, rest) → MayBreak turn mid after old frame → z.talk ≡ record y.talk { left = z.talk.left } → IsStill stamped y z
      → (frames : List Frame) × (left : List ℕ) × (bytes : List ℕ) × (moments : List ℕ) × (n : Machine) × (last : Machine) × Answered started before after m x.talk.left frames left bytes moments n last × InHand left n last × (length frames < most) × Sent stamped z.talk.left bytes moments x z
  fed_broken frame rest few front may talk still =
      let b = may f.machine f.stands in
      let leads = hand_leads f.machine (Some (entry_of frame)) b.last b.hand in (
        f.frames,
        y.talk.left,
        f.bytes,
        f.moments,
        f.machine,
        b.last,
        record {
          front = f.answered.front;
          answers = f.answered.answers;
          serves = serves_map (IsLasting mid f.machine) (IsLasting after b.last) m f.frames f.answered.answers f.moments f.machine (λ k t lasting. lasts_on t turn mid after f.machine b.last k lasting leads b.run) f.answered.serves;
          fit = f.answered.fit;
          bytes_are = f.answered.bytes_are;
          leads = f.answered.leads;
          images = run_on started turn before mid after m f.machine b.last le f.answered.leads leads f.answered.images b.run;
        },
        hand_next frame rest b.last front b.hand,
        omega (arith, f.counted, few),
        record {
          talk = talk ∙ ap (λ (k : Talk). record k { left = z.talk.left }) f.sent.talk;
          stamps = λ yes_. still yes_ ∙ f.sent.stamps yes_;
        },
      )

-- a turn that leaves the disk
pub answered_still : (stamped : Bool) (count started : ℕ) (m : Machine) (before mid after : DiskView) (x y : LineView) (old : Office) (f : FedSoFar stamped count started m before mid x y old) → after ≡ mid → Answered started before after m x.talk.left f.frames y.talk.left f.bytes f.moments f.machine f.machine
answered_still stamped count started m before mid after x y old f same = subst (λ (d : DiskView). Answered started before d m x.talk.left f.frames y.talk.left f.bytes f.moments f.machine f.machine) (sym same) f.answered

pub rests_still : (stamped : Bool) (count started : ℕ) (m : Machine) (before mid after : DiskView) (x y : LineView) (old : Office) (f : FedSoFar stamped count started m before mid x y old) → after ≡ mid → Rests (IsOwn f.machine) after.told
rests_still stamped count started m before mid after x y old f same = subst (λ (d : DiskView). Rests (IsOwn f.machine) d.told) (sym same) f.stands.registry.disk

-- the input is read to its end
pub sent_to_end : (stamped : Bool) (bytes moments left : List ℕ) (x y z : LineView) → Sent stamped left bytes moments x y → Emptied y.talk z.talk → IsStill stamped y z → Sent stamped [] bytes moments x z
sent_to_end stamped bytes moments left x y z sent emptied still = record { talk = emptied ∙ ap (λ (k : Talk). record k { left = [] }) sent.talk; stamps = λ yes_. still yes_ ∙ sent.stamps yes_ }

-- the line broke before the next answer
pub sent_fault : (stamped : Bool) (answers : List Answer) (bytes moments left : List ℕ) (x y z : LineView) → Sent stamped left bytes moments x y → Faulted y.talk z.talk → IsStill stamped y z → SentBefore stamped answers bytes moments x z
sent_fault stamped answers bytes moments left x y z s fault still =
    let sent : z.talk.sent ≡ x.talk.sent ++ bytes = ap (λ (k : Talk). k.sent) fault.after ∙ ap (λ (k : Talk). k.sent) s.talk in
    let gone : z.talk ≡ record y.talk { left = z.talk.left; own = z.talk.own } = fault.after ∙ ap (λ (l : List ℕ). record y.talk { left = l; own = z.talk.own }) (sym (ap (λ (k : Talk). k.left) fault.after)) in
    record {
      more = [];
      front = append-nil z.talk.sent ∙ sent;
      few = omega arith;
      own = fault.own;
      others = gone ∙ ap (λ (k : Talk). record k { left = z.talk.left; own = z.talk.own }) s.talk ∙ ap (λ (l : List ℕ). record x.talk { left = z.talk.left; sent = l; own = z.talk.own }) (sym sent);
      later = [];
      stamps = λ yes_. append-nil z.moments.sent ∙ ap (λ (k : Moments). k.sent) (still yes_ ∙ s.stamps yes_);
    }

-- ---- frames alone, whatever the disk holds

-- so many frames were taken
pub record TookSoFar (count : ℕ) (old now : Talk) : Type 0 where
  pub frames : List Frame
  pub front : Begins old.left frames now.left
  pub counted : length frames ≡ count

pub took_none : (old : Talk) → TookSoFar 0 old old
took_none old = record { frames = []; front = refl; counted = refl }

pub took_one : (count : ℕ) (x y z : Talk) (frame : Frame) → TookSoFar count x y → frame_at y.left ≡ Some (frame, z.left) → TookSoFar (count + 1) x z
took_one count x y z frame f front = record {
  frames = f.frames ++ frame ∷ [];
  front = Begins-more x.left f.frames y.left frame z.left f.front front;
  counted = omega (arith, length-append f.frames (frame ∷ []), f.counted);
}
