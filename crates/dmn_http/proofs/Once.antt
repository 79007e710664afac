-- Each text asks for one thing, and has one reply.
use Rattle.std.proofs.Common.{◌≡◌, ℕ, List, take, drop, sym, ap, ◌∙◌, subst}
use Rattle.dmn_registry.specs.Machine.{Machine}
use Rattle.dmn_head.specs.declared.head.Cut.{Cut}
use Rattle.dmn_head.specs.declared.head.Cut.TheVariants as cuts
use Rattle.dmn_head.specs.declared.plan.Plan.{Plan}
use Rattle.dmn_head.proofs.Once.{cut_once, head_once}
use Rattle.dmn_http.specs.Exchanges.{Outcome, planned, Exchanges, Decides}
use Rattle.dmn_http.specs.Replies.{HttpBytes, replied}

decided_once : (cut : Cut) (text : List ℕ) (a b : Outcome) → Decides cut text a → Decides cut text b → a ≡ b
decided_once (cuts.Whole size) text a b x y = x.2 ∙ ap (λ (p : Plan). planned p (drop size text)) (head_once (take size text) x.0 y.0 x.1 y.1) ∙ sym y.2
decided_once cuts.TooLong text a b x y = x ∙ sym y
decided_once cuts.Short text a b x y = x ∙ sym y

pub asked_once : (text : List ℕ) (a b : Outcome) → Exchanges text a → Exchanges text b → a ≡ b
asked_once text a b x y =
    let P : Cut → Type 0 = λ c. Decides c text b in
    decided_once x.cut text a b x.decides (subst P (cut_once text y.cut x.cut y.is_cut x.is_cut) y.decides)

pub one_reply : (m : Machine) (text a b : List ℕ) (n o : Machine) → HttpBytes m text a n → HttpBytes m text b o → (a ≡ b) × (n ≡ o)
one_reply m text a b n o x y =
    let same : x.outcome ≡ y.outcome = asked_once text x.outcome y.outcome x.asked y.asked in
    let both : (a, n) ≡ (b, o) = sym x.reply ∙ ap (replied m) same ∙ y.reply in
    (ap (λ (p : List ℕ × Machine). p.0) both, ap (λ (p : List ℕ × Machine). p.1) both)
