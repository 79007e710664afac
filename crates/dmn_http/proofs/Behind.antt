-- What comes behind a request changes nothing of what it asks for.
use Rattle.std.proofs.Common.{◌≡◌, ◌≢◌, ℕ, ◌+◌, ◌-◌, ◌≤◌, List, ◌++◌, length, drop, refl, sym, ap, ◌∙◌, subst, arith, inl, inr}
use Rattle.std.proofs.lemmas.Bool.{cases_lt, le-ltb, lt-ltb}
use Rattle.std.proofs.lemmas.List.{length-append, take-append-le, drop-append-le}
use Rattle.dmn_desk.specs.declared.kind.Kind.TheVariants as kinds
use Rattle.dmn_desk.specs.Requests.{request_of}
use Rattle.dmn_head.specs.declared.head.Cut.{Cut}
use Rattle.dmn_head.specs.declared.head.Cut.TheVariants as cuts
use Rattle.dmn_head.specs.declared.plan.Plan.{Plan}
use Rattle.dmn_head.specs.declared.plan.Plan.TheVariants as plans
use Rattle.dmn_head.specs.Head.{ends_at, IsCut}
use Rattle.dmn_head.specs.Wants.{HeadPlan}
use Rattle.dmn_http.specs.Exchanges.{Outcome, leaves, body_asks, planned, Exchanges, Decides}
use Rattle.dmn_head.proofs.Heading.{ends_at-same}
use Rattle.dmn_head.proofs.Once.{within}
use Rattle.dmn_http.proofs.Exchanging.{planned_whole, planned_short}

-- a place in a text stays where more is behind it
ends_behind : (text more : List ℕ) (k : ℕ) → k + 4 ≤ length text → ends_at (text ++ more) k ≡ ends_at text k
ends_behind text more k le = ends_at-same (length text) (text ++ more) text k (take-append-le (length text) text more (omega arith)) le

plan_behind : (plan : Plan) (rest more : List ℕ) → planned plan rest ≢ leaves → planned plan (rest ++ more) ≡ planned plan rest
plan_behind (plans.Refuse fault) rest more stays = refl
plan_behind (plans.Ask request) rest more stays = refl
plan_behind (plans.Body size) rest more stays = elim (cases_lt (length rest) size) [
  | inl short ↦ absurd (stays (planned_short rest size (lt-ltb (length rest) size short)))
  | inr enough ↦
      let longer : size ≤ length (rest ++ more) = omega (arith, enough, length-append rest more) in
      planned_whole (rest ++ more) size (le-ltb (length (rest ++ more)) size longer)
      ∙ ap (λ (l : List ℕ). body_asks (request_of kinds.Connect l)) (take-append-le size rest more enough)
      ∙ sym (planned_whole rest size (le-ltb (length rest) size enough))
]

behind : (cut : Cut) (text more : List ℕ) (outcome : Outcome) → IsCut text cut → Decides cut text outcome → outcome ≢ leaves → Exchanges (text ++ more) outcome
behind (cuts.Whole size) text more outcome is decides stays =
    let four : 4 ≤ size = is.0.four in
    let lies : (size - 4) + 4 ≤ length text = within text (size - 4) is.0.here in
    let fits : size ≤ length text = omega (arith, lies, four) in
    let P : List ℕ → Type 0 = λ l. HeadPlan l decides.0 in
    let rest : drop size (text ++ more) ≡ drop size text ++ more = drop-append-le size text more fits in
    let kept : planned decides.0 (drop size text) ≢ leaves = λ gone. stays (decides.2 ∙ gone) in
    record {
      cut = cuts.Whole size;
      is_cut = (
        record {
          four = four;
          here = ends_behind text more (size - 4) lies ∙ is.0.here;
          first = λ k before. ends_behind text more k (omega (arith, before, fits)) ∙ is.0.first k before;
        },
        is.1,
      );
      decides = (decides.0, subst P (sym (take-append-le size text more fits)) decides.1, decides.2 ∙ sym (plan_behind decides.0 (drop size text) more kept) ∙ ap (planned decides.0) (sym rest));
    }
behind cuts.TooLong text more outcome is decides stays = record {
  cut = cuts.TooLong;
  is_cut = (omega (arith, is.0, length-append text more), λ k le. ends_behind text more k (omega (arith, le, is.0)) ∙ is.1 k le);
  decides = decides;
}
behind cuts.Short text more outcome is decides stays = absurd (stays decides)

pub asked_behind : (text more : List ℕ) (outcome : Outcome) → Exchanges text outcome → outcome ≢ leaves → Exchanges (text ++ more) outcome
asked_behind text more outcome x stays = behind x.cut text more outcome x.is_cut x.decides stays
