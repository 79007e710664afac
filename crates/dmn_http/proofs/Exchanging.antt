-- What was taken from a line decides what a caller asks for.
use Rattle.std.proofs.Common.{◌≡◌, ◌≢◌, ℕ, ◌+◌, ◌-◌, ◌<◌, ◌≤◌, true, false, List, ◌++◌, length, take, drop, refl, sym, ap, ◌∙◌, subst, arith, inl, inr, Ok, Err, Result}
use Rattle.std.specs.Prelude.{nat_lt}
use Rattle.std.proofs.lemmas.Bool.{cases_lt, le-ltb, lt-ltb}
use Rattle.std.proofs.lemmas.List.{length-append, length-take, length-drop, take-append-le, take-append-drop, drop-drop, drop-take, take-take, take_all, append-nil}
use Rattle.std.proofs.Math.Seq.{take-append-add}
use Rattle.dmn_outside.specs.declared.line.Failed.{Failed}
use Rattle.dmn_outside.specs.Line.{Talk}
use Rattle.dmn_outside.specs.Pieces.{Took}
use Rattle.dmn_bytes.specs.declared.fault.Departure.{Departure}
use Rattle.dmn_desk.specs.declared.kind.Kind.TheVariants as kinds
use Rattle.dmn_desk.specs.declared.request.Request.{Request}
use Rattle.dmn_desk.specs.Requests.{request_of}
use Rattle.dmn_head.specs.declared.head.Cut.{Cut}
use Rattle.dmn_head.specs.declared.head.Cut.TheVariants as cuts
use Rattle.dmn_head.specs.declared.head.Taken.{Taken}
use Rattle.dmn_head.specs.declared.plan.Plan.{Plan}
use Rattle.dmn_head.specs.declared.plan.Plan.TheVariants as plans
use Rattle.dmn_head.specs.declared.fault.HttpFault.{HttpFault}
use Rattle.dmn_head.specs.declared.fault.HttpFault.TheVariants as faults
use Rattle.dmn_http.specs.declared.reply.HttpReply.{HttpReply}
use Rattle.dmn_http.specs.declared.exchange.Exchange.{Exchange}
use Rattle.dmn_http.specs.declared.exchange.Exchange.TheVariants as exchanges
use Rattle.dmn_http.specs.Texts.{reply_text, memory_text}
use Rattle.dmn_head.specs.Wants.{HeadPlan}
use Rattle.dmn_http.specs.Exchanges.{Outcome, refuses, leaves, body_asks, planned, Shows, Exchanged, ReadsExchange}
use Rattle.dmn_http.specs.Steps.{ShowsFault, ShowsBody, Asked, ReadsBehind}
use Rattle.dmn_head.specs.Steps.{TookHead, LiesWithin}
use Rattle.dmn_head.proofs.Heading.{ends_at-take}

pub shows_fault : (fault : HttpFault) (reply : HttpReply) → ShowsFault fault reply → Shows (exchanges.Reply reply) (refuses fault)
shows_fault fault reply (inl e) = inl (fault, refl, e)
shows_fault fault reply (inr e) = inr (λ bad. cc, e)

-- nothing is taken
pub asked_now : (exchange : Exchange) (plan : Plan) (front : List ℕ) (x : Talk) → Shows exchange (planned plan (front ++ x.left)) → Asked exchange plan front x x
asked_now exchange plan front x shows = record { taken = 0; enough = omega arith; after = refl; shows = shows }

stays : (read : Result Request Departure) → body_asks read ≢ leaves
stays (Ok request) e = cc
stays (Err departure) e = cc

take_both : (n : ℕ) (a b : List ℕ) → take n (a ++ b) ≡ take n a ++ take (n - length (take n a)) b
take_both n a b = elim (cases_lt (length a) n) [
  | inl more ↦
      let len : length (take n a) ≡ length a = omega (arith, length-take n a, more) in
      let all : take n a ≡ a = take_all n a (omega (arith, more)) in
      let same : length a + (n - length a) ≡ n = omega (arith, more) in
      ap (λ (k : ℕ). take k (a ++ b)) (sym same) ∙ take-append-add a b (n - length a) ∙ ap (λ (l : List ℕ). l ++ take (n - length a) b) (sym all) ∙ ap (λ (k : ℕ). take n a ++ take (n - k) b) (sym len)
  | inr less ↦
      let none : n - length (take n a) ≡ 0 = omega (arith, length-take n a, less) in
      take-append-le n a b less ∙ sym (append-nil (take n a)) ∙ ap (λ (k : ℕ). take n a ++ take k b) (sym none)
]

-- a whole body
body_enough : (front left : List ℕ) (size : ℕ) → size - length (take size front) ≤ length left → nat_lt (length (front ++ left)) size ≡ false
body_enough front left size enough = le-ltb (length (front ++ left)) size (omega (arith, length-append front left, length-take size front, enough))

pub planned_whole : (rest : List ℕ) (size : ℕ) → nat_lt (length rest) size ≡ false → planned (plans.Body size) rest ≡ body_asks (request_of kinds.Connect (take size rest))
planned_whole rest size e = rw e

pub planned_short : (rest : List ℕ) (size : ℕ) → nat_lt (length rest) size ≡ true → planned (plans.Body size) rest ≡ leaves
planned_short rest size e = rw e

pub asked_whole : (exchange : Exchange) (body front : List ℕ) (size : ℕ) (x z : Talk) → Took (size - length (take size front)) x z → body ≡ take size front ++ take (size - length (take size front)) x.left → ShowsBody body exchange → Asked exchange (plans.Body size) front x z
asked_whole exchange body front size x z took e shows =
    let same : take size (front ++ x.left) ≡ body = take_both size front x.left ∙ sym e in
    let outcome : planned (plans.Body size) (front ++ x.left) ≡ body_asks (request_of kinds.Connect body) = planned_whole (front ++ x.left) size (body_enough front x.left size took.enough) ∙ ap (λ (l : List ℕ). body_asks (request_of kinds.Connect l)) same in
    let P : Outcome → Type 0 = Shows exchange in
    record { taken = size - length (take size front); enough = took.enough; after = took.after; shows = subst P (sym outcome) shows }

pub asked_lacking : (reply : HttpReply) (front : List ℕ) (size : ℕ) (x z : Talk) → Took (size - length (take size front)) x z → reply_text reply ≡ memory_text → Asked (exchanges.Reply reply) (plans.Body size) front x z
asked_lacking reply front size x z took e =
    let outcome = planned_whole (front ++ x.left) size (body_enough front x.left size took.enough) in
    record {
      taken = size - length (take size front);
      enough = took.enough;
      after = took.after;
      shows = inr (λ bad. stays (request_of kinds.Connect (take size (front ++ x.left))) (sym outcome ∙ bad), e);
    }

-- ---- the whole request

behind_head : (size filled : ℕ) (left : List ℕ) → size ≤ filled → drop size (take filled left) ++ drop filled left ≡ drop size left
behind_head size filled left le =
    let m = filled - size in
    let same : size + m ≡ filled = omega (arith, le) in
    ap (λ (k : ℕ). drop size (take k left) ++ drop k left) (sym same) ∙ ap (λ (l : List ℕ). l ++ drop (size + m) left) (drop-take size m left) ∙ ap (λ (l : List ℕ). take m (drop size left) ++ l) (sym (drop-drop m size left)) ∙ take-append-drop m (drop size left)

pub exchanged_whole : (r : Result Exchange Failed) (size filled : ℕ) (buffer : List ℕ) (x y z : Talk) → size ≤ filled → TookHead (record { cut = cuts.Whole size; filled = filled }) buffer x y → ReadsBehind r (take size buffer) (drop size (take filled buffer)) y z → ReadsExchange r x z
exchanged_whole (Ok exchange) size filled buffer x y z le head behind =
    let left : y.left ≡ drop filled x.left = ap (λ (t : Talk). t.left) head.took.after in
    let same_head : take size buffer ≡ take size x.left = sym (take-take size filled buffer le) ∙ ap (λ (l : List ℕ). take size l) head.same ∙ take-take size filled x.left le in
    let rest : drop size (take filled buffer) ++ y.left ≡ drop size x.left = ap (λ (l : List ℕ). drop size l ++ y.left) head.same ∙ ap (λ (l : List ℕ). drop size (take filled x.left) ++ l) left ∙ behind_head size filled x.left le in
    let P : List ℕ → Type 0 = λ l. HeadPlan l behind.0 in
    let Q : List ℕ → Type 0 = λ l. Shows exchange (planned behind.0 l) in
    record {
      taken = filled + behind.2.taken;
      enough = omega (arith, head.took.enough, behind.2.enough, ap length left, length-drop filled x.left);
      after = behind.2.after ∙ ap (λ (t : Talk). record t { left = drop behind.2.taken t.left }) head.took.after ∙ ap (λ (l : List ℕ). record x { left = l }) (drop-drop behind.2.taken filled x.left);
      outcome = planned behind.0 (drop size x.left);
      asked = record { cut = cuts.Whole size; is_cut = head.cut; decides = (behind.0, subst P same_head behind.1, refl) };
      shows = subst Q rest behind.2.shows;
    }
exchanged_whole (Err failed) size filled buffer x y z le head behind =
    let left : y.left ≡ drop filled x.left = ap (λ (t : Talk). t.left) head.took.after in
    let n = filled + behind.2.taken in
    let within : n ≤ length x.left = omega (arith, head.took.enough, behind.2.enough, ap length left, length-drop filled x.left) in
    let same_head : take size buffer ≡ take size (take n x.left) = sym (take-take size filled buffer le) ∙ ap (λ (l : List ℕ). take size l) head.same ∙ take-take size filled x.left le ∙ sym (take-take size n x.left (omega (arith, le))) in
    let P : List ℕ → Type 0 = λ l. HeadPlan l (plans.Body behind.0) in
    let front : length (drop size (take filled buffer)) ≡ filled - size = ap (λ (l : List ℕ). length (drop size l)) head.same ∙ omega (arith, length-drop size (take filled x.left), length-take filled x.left, head.took.enough) in
    let short : length (drop size (take n x.left)) < behind.0 = omega (arith, length-drop size (take n x.left), length-take n x.left, within, front, behind.2.few, le) in
    record {
      taken = n;
      enough = within;
      after = behind.2.after ∙ ap (λ (t : Talk). record t { left = drop behind.2.taken t.left; own = z.own }) head.took.after ∙ ap (λ (l : List ℕ). record x { left = l; own = z.own }) (drop-drop behind.2.taken filled x.left);
      own = behind.2.own;
      open_ = record {
        cut = cuts.Whole size;
        is_cut = (
          record {
            four = head.cut.0.four;
            here = ends_at-take n x.left (size - 4) (omega (arith, head.cut.0.four, le)) ∙ head.cut.0.here;
            first = λ k before. ends_at-take n x.left k (omega (arith, before, le)) ∙ head.cut.0.first k before;
          },
          head.cut.1,
        );
        decides = (plans.Body behind.0, subst P same_head behind.1, sym (planned_short (drop size (take n x.left)) behind.0 (lt-ltb _ _ short)));
      };
    }

pub exchanged_too_long : (reply : HttpReply) (filled : ℕ) (buffer : List ℕ) (x y : Talk) → TookHead (record { cut = cuts.TooLong; filled = filled }) buffer x y → ShowsFault faults.HeadTooLong reply → Exchanged (exchanges.Reply reply) x y
exchanged_too_long reply filled buffer x y head shows = record {
  taken = filled;
  enough = head.took.enough;
  after = head.took.after;
  outcome = refuses faults.HeadTooLong;
  asked = record { cut = cuts.TooLong; is_cut = head.cut; decides = refl };
  shows = shows_fault faults.HeadTooLong reply shows;
}

pub exchanged_head : (r : Result Exchange Failed) (taken : Taken) (size : ℕ) (buffer : List ℕ) (x y z : Talk) → taken.cut ≡ cuts.Whole size → LiesWithin taken.cut taken.filled → TookHead taken buffer x y → ReadsBehind r (take size buffer) (take (taken.filled - size) (drop size buffer)) y z → ReadsExchange r x z
exchanged_head r taken size buffer x y z is lies head behind =
    let P : Cut → Type 0 = λ k. TookHead (record { cut = k; filled = taken.filled }) buffer x y in
    let L : Cut → Type 0 = λ k. LiesWithin k taken.filled in
    let le : size ≤ taken.filled = subst L is lies in
    let B : List ℕ → Type 0 = λ l. ReadsBehind r (take size buffer) l y z in
    let all : size + (taken.filled - size) ≡ taken.filled = omega (arith, le) in
    let front : take (taken.filled - size) (drop size buffer) ≡ drop size (take taken.filled buffer) = sym (drop-take size (taken.filled - size) buffer) ∙ ap (λ (k : ℕ). drop size (take k buffer)) all in
    exchanged_whole r size taken.filled buffer x y z le (subst P is head) (subst B front behind)

pub exchanged_limit : (reply : HttpReply) (taken : Taken) (buffer : List ℕ) (x y : Talk) → taken.cut ≡ cuts.TooLong → TookHead taken buffer x y → ShowsFault faults.HeadTooLong reply → Exchanged (exchanges.Reply reply) x y
exchanged_limit reply taken buffer x y is head shows =
    let P : Cut → Type 0 = λ k. TookHead (record { cut = k; filled = taken.filled }) buffer x y in
    exchanged_too_long reply taken.filled buffer x y (subst P is head) shows
