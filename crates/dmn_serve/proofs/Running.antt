-- Callers that are served one after the other.
use Rattle.std.proofs.Common.{◌≡◌, ◌⊎◌, inl, inr, ℕ, ◌+◌, ◌<◌, ◌≤◌, Bool, true, List, [], ◌∷◌, ◌++◌, length, drop, map, refl, sym, ap, subst, ◌∙◌, append_assoc, arith}
use Rattle.std.specs.List.{All}
use Rattle.std.proofs.lemmas.List.{append-nil, drop-drop, length-append, length-drop, map-append}
use Rattle.std.proofs.lemmas.List.Elements.{All-nil, All-push, All-weaker}
use Rattle.dmn_outside.specs.Counts.{Rose}
use Rattle.dmn_outside.specs.Crashes.{Rests}
use Rattle.dmn_outside.specs.Disk.{AreOver, DiskView}
use Rattle.dmn_outside.specs.Line.{LineView, Served, Talk}
use Rattle.dmn_desk.specs.declared.request.Request.{Request}
use Rattle.dmn_desk.specs.Asked.{entry_by}
use Rattle.dmn_http.specs.Exchanges.{Exchanges, asks}
use Rattle.dmn_office.specs.declared.office.Office.{Office}
use Rattle.dmn_office.specs.Lasting.{IsLasting, SentLater}
use Rattle.dmn_office.specs.Offices.{Breaks, GoesOn, StandsAt}
use Rattle.dmn_office.proofs.Lasting.{lasts_here, lasts_on}
use Rattle.dmn_office.proofs.Moving.{hand_leads}
use Rattle.dmn_registry.specs.Machine.{Machine}
use Rattle.dmn_registry.specs.Own.{IsOwn, Leads}
use Rattle.dmn_registry.proofs.Between.{leads_on, leads_self, run_on, unmoved}
use Rattle.dmn_serve.specs.Callers.{Serves, ServesEach, Visit, moments_of, served_of, text_of}
use Rattle.dmn_serve.specs.Outcome.{Answered, AskedInHand, Came, Passed, all_callers, all_moments, unserved}
use Rattle.dmn_serve.specs.Steps.{CameOne}

-- ---- callers and moments

pub each_weaker : (P Q : Machine → ℕ → Type 0) (m : Machine) (visits : List Visit) (n : Machine) → ((mid : Machine) (t : ℕ) → P mid t → Q mid t) → ServesEach P m visits n → ServesEach Q m visits n
each_weaker P Q m [] n f s = s
each_weaker P Q m (visit ∷ visits) n f s = (s.0, s.1, s.2, All-weaker (P s.0) (Q s.0) (f s.0) visit.moments s.3, each_weaker P Q s.0 visits n f s.4)

pub each_more : (P : Machine → ℕ → Type 0) (m : Machine) (visits : List Visit) (n : Machine) (visit : Visit) (o : Machine) → ServesEach P m visits n → Serves n visit.text visit.served o → length visit.moments ≡ length visit.served.sent → All (P o) visit.moments → ServesEach P m (visits ++ visit ∷ []) o
each_more P m [] n visit o s serves count all = (o, subst (λ (k : Machine). Serves k visit.text visit.served o) s serves, count, all, refl)
each_more P m (v ∷ visits) n visit o s serves count all = (s.0, s.1, s.2, s.3, each_more P s.0 visits n visit o s.4 serves count all)

-- ---- the line

pub came_none : (stamped : Bool) (x : LineView) → Came stamped [] x.talk.later x x
came_none stamped x = record {
  texts = refl;
  rest_is = refl;
  served = sym (append-nil (all_callers x.talk));
  stamps = λ yes_. sym (append-nil (all_moments x.moments));
  whole = λ calm. All-nil (λ (visit : Visit). visit.served.own ≡ 0);
}

own_if : (visit : Visit) (a b c : ℕ) → a ≤ b → (visit.served.own ≡ 0) ⊎ Rose b c → (Rose a c → ⊥) → visit.served.own ≡ 0
own_if visit a b c le (inl none) calm = none
own_if visit a b c le (inr rose) calm = absurd (calm (omega (arith, le, rose)))

-- one caller more
pub came_more : (stamped : Bool) (visits : List Visit) (x y z : LineView) (visit : Visit) (others : List (List ℕ)) → Came stamped visits y.talk.later x y → CameOne stamped visit others y z → x.faults ≤ y.faults → y.faults ≤ z.faults → Came stamped (visits ++ visit ∷ []) z.talk.later x z
came_more stamped visits x y z visit others came one first second = record {
  texts = came.texts ∙ ap (λ (l : List (List ℕ)). map text_of visits ++ l) (one.came ∙ ap (λ (l : List (List ℕ)). visit.text ∷ l) (sym one.later)) ∙ sym (append_assoc (map text_of visits) (visit.text ∷ []) z.talk.later)
      ∙ ap (λ (l : List (List ℕ)). l ++ z.talk.later) (sym (map-append text_of visits (visit ∷ [])));
  rest_is = refl;
  served = one.served ∙ ap (λ (l : List Served). l ++ visit.served ∷ []) came.served ∙ append_assoc (all_callers x.talk) (map served_of visits) (visit.served ∷ []) ∙ ap (λ (l : List Served). all_callers x.talk ++ l) (sym (map-append served_of visits (visit ∷ [])));
  stamps = λ yes_. one.stamps yes_ ∙ ap (λ (l : List (List ℕ)). l ++ visit.moments ∷ []) (came.stamps yes_) ∙ append_assoc (all_moments x.moments) (map moments_of visits) (visit.moments ∷ [])
      ∙ ap (λ (l : List (List ℕ)). all_moments x.moments ++ l) (sym (map-append moments_of visits (visit ∷ [])));
  whole = λ calm. All-push (λ (v : Visit). v.served.own ≡ 0) visits visit (came.whole (λ rose. calm (omega (arith, rose, second)))) (own_if visit x.faults y.faults z.faults first one.blame calm);
}

-- no caller more
pub came_still : (stamped : Bool) (visits : List Visit) (x y z : LineView) → Came stamped visits y.talk.later x y → z.talk ≡ y.talk → (stamped ≡ true → z.moments ≡ y.moments) → y.faults ≤ z.faults → Came stamped visits z.talk.later x z
came_still stamped visits x y z came talk stamps le = record {
  texts = came.texts ∙ ap (λ (l : List (List ℕ)). map text_of visits ++ l) (sym (ap (λ (t : Talk). t.later) talk));
  rest_is = refl;
  served = ap all_callers talk ∙ came.served;
  stamps = λ yes_. ap all_moments (stamps yes_) ∙ came.stamps yes_;
  whole = λ calm. came.whole (λ rose. calm (omega (arith, rose, le)));
}

-- ---- the loop

-- so many callers came and were served, and the office stands for the machine behind them
pub record ServedSoFar (stamped : Bool) (count started : ℕ) (m : Machine) (before disk : DiskView) (old now : LineView) (office : Office) : Type 0 where
  pub machine : Machine
  pub stands : StandsAt office machine disk.told
  pub visits : List Visit
  pub answered : Answered started before disk m visits machine machine
  pub came : Came stamped visits now.talk.later old now
  pub counted : length visits ≡ count

pub served_none : (stamped : Bool) (started : ℕ) (m : Machine) (disk : DiskView) (old : LineView) (office : Office) → AreOver started disk.past → StandsAt office m disk.told → ServedSoFar stamped 0 started m disk disk old old office
served_none stamped started m disk old office over stands = record {
  machine = m;
  stands = stands;
  visits = [];
  answered = record { serves = refl; leads = leads_self m; images = unmoved started disk disk m over stands.registry.disk refl };
  came = came_none stamped old;
  counted = refl;
}

module _ (stamped : Bool) (count started turn : ℕ) (m : Machine) (before mid after : DiskView) (x y z : LineView) (old new : Office) (le : started ≤ turn) (f : ServedSoFar stamped count started m before mid x y old) (first : x.faults ≤ y.faults) (second : y.faults ≤ z.faults) where
  pub served_more : (visit : Visit) (others : List (List ℕ)) (s : SentLater visit.served.sent after) → CameOne stamped visit others y z → visit.moments ≡ s.moments
      → ((k : Machine) → StandsAt old k mid.told → (n : Machine) × Serves k visit.text visit.served n × GoesOn turn mid after k n new) → ServedSoFar stamped (count + 1) started m before after x z new
  served_more visit others s one same does =
      let next = does f.machine f.stands in
      let n = next.0 in
      let goes = next.2 in
      let lasting : All (IsLasting after n n) visit.moments = subst (λ (l : List ℕ). All (IsLasting after n n) l) (sym same) (All-weaker (λ (t : ℕ). s.from ≤ t) (IsLasting after n n) (λ t at. lasts_here after n s.from t goes.stands.registry.disk s.over at) s.moments s.each) in
      record {
        machine = n;
        stands = goes.stands;
        visits = f.visits ++ visit ∷ [];
        answered = record {
          serves = each_more (IsLasting after n) m f.visits f.machine visit n
              (each_weaker (IsLasting mid f.machine) (IsLasting after n) m f.visits f.machine (λ k t lasts. lasts_on t turn mid after f.machine n k lasts goes.leads goes.run) f.answered.serves)
              next.1 (ap length same ∙ s.count) lasting;
          leads = leads_on m f.machine n f.answered.leads goes.leads;
          images = run_on started turn before mid after m f.machine n le f.answered.leads goes.leads f.answered.images goes.run;
        };
        came = came_more stamped f.visits x y z visit others f.came one first second;
        counted = omega (arith, length-append f.visits (visit ∷ []), f.counted);
      }

  -- the disk broke
  pub served_broken : (text : List ℕ) (others : List (List ℕ)) (most : ℕ) → count < most → CameOne stamped (unserved text) others y z → ((k : Machine) → StandsAt old k mid.told → (request : Request) × Exchanges text (asks request) × Breaks turn mid after k (entry_by request))
      → (visits : List Visit) × (text : List ℕ) × (rest : List (List ℕ)) × (n last : Machine) × Answered started before after m visits n last × AskedInHand text n last × (length visits < most) × Came stamped (visits ++ unserved text ∷ []) rest x z
  served_broken text others most few one does =
      let broke = does f.machine f.stands in
      let b = broke.2 in
      let leads : Leads f.machine b.last = hand_leads f.machine (entry_by broke.0) b.last b.hand in (
        f.visits,
        text,
        z.talk.later,
        f.machine,
        b.last,
        record {
          serves = each_weaker (IsLasting mid f.machine) (IsLasting after b.last) m f.visits f.machine (λ k t lasts. lasts_on t turn mid after f.machine b.last k lasts leads b.run) f.answered.serves;
          leads = f.answered.leads;
          images = run_on started turn before mid after m f.machine b.last le f.answered.leads leads f.answered.images b.run;
        },
        (broke.0, broke.1, b.hand),
        omega (arith, f.counted, few),
        came_more stamped f.visits x y z (unserved text) others f.came one first second,
      )

-- a turn that leaves the disk
pub answered_still : (stamped : Bool) (count started : ℕ) (m : Machine) (before mid after : DiskView) (x y : LineView) (old : Office) (f : ServedSoFar stamped count started m before mid x y old) → after ≡ mid → Answered started before after m f.visits f.machine f.machine × Rests (IsOwn f.machine) after.told
answered_still stamped count started m before mid after x y old f same =
    subst (λ (d : DiskView). Answered started before d m f.visits f.machine f.machine × Rests (IsOwn f.machine) d.told) (sym same) (f.answered, f.stands.registry.disk)

-- ---- callers alone, whatever the disk holds

pub passed_none : (x : Talk) → Passed 0 x x
passed_none x = record { few = omega arith; later = refl; served = []; counted = refl; all = sym (append-nil (all_callers x)) }

pub passed_more : (stamped : Bool) (count : ℕ) (x : Talk) (y z : LineView) (visit : Visit) (others : List (List ℕ)) → Passed count x y.talk → CameOne stamped visit others y z → Passed (count + 1) x z.talk
passed_more stamped count x y z visit others p one =
    let came : drop count x.later ≡ visit.text ∷ others = sym p.later ∙ one.came in
    record {
      few = omega (arith, p.few, ap length came, length-drop count x.later);
      later = one.later ∙ ap (drop 1) (sym came) ∙ drop-drop 1 count x.later;
      served = p.served ++ visit.served ∷ [];
      counted = omega (arith, length-append p.served (visit.served ∷ []), p.counted);
      all = one.served ∙ ap (λ (l : List Served). l ++ visit.served ∷ []) p.all ∙ append_assoc (all_callers x) p.served (visit.served ∷ []);
    }

pub passed_still : (count : ℕ) (x y z : Talk) → Passed count x y → z ≡ y → Passed count x z
passed_still count x y z p same = subst (λ (t : Talk). Passed count x t) (sym same) p
