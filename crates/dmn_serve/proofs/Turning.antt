-- One turn: the next caller comes, and is served.
use Rattle.std.proofs.Common.{◌≡◌, inl, inr, ℕ, ◌≤◌, Bool, true, List, [], ◌∷◌, ◌++◌, refl, ap, subst, ◌∙◌}
use Rattle.std.specs.Prelude.{Ok, Err}
use Rattle.dmn_outside.specs.Counts.{Rose}
use Rattle.dmn_outside.specs.Disk.{AreOver, DiskView}
use Rattle.dmn_outside.specs.Line.{LineView, Moments, Moves, MovesStamps, Served, Talk}
use Rattle.dmn_outside.specs.declared.device.DiskFault.{DiskFault}
use Rattle.dmn_desk.specs.Asked.{entry_by}
use Rattle.dmn_http.specs.Exchanges.{Exchanges, asks}
use Rattle.dmn_office.specs.declared.office.Office.{Office}
use Rattle.dmn_office.proofs.Moving.{breaks_earlier, goes_earlier, stands_still}
use Rattle.dmn_serve.specs.declared.serving.Stop.TheVariants as stops
use Rattle.dmn_serve.specs.declared.serving.Turn.TheVariants as turns
use Rattle.dmn_serve.specs.Callers.{Serves}
use Rattle.dmn_serve.specs.Outcome.{this_caller}
use Rattle.dmn_serve.specs.Steps.{CameOne, IsNew, IsOneCaller, ServesCaller, Turns}

-- the caller that comes is new
pub is_new : (stamped : Bool) (x w : LineView) → Moves (Ok true) x.talk w.talk → (stamped ≡ true → MovesStamps (Ok true) x.moments w.moments) → IsNew stamped w
is_new stamped x w moves stamps = record {
  sent = ap (λ (t : Talk). t.sent) moves.3;
  own = ap (λ (t : Talk). t.own) moves.3;
  moments = λ yes_. ap (λ (m : Moments). m.sent) (stamps yes_);
}

module _ (stamped : Bool) (t later : ℕ) (before mid after : DiskView) (old new : Office) (x w y : LineView) (moves : Moves (Ok true) x.talk w.talk) (stamps : stamped ≡ true → MovesStamps (Ok true) x.moments w.moments) (faults : w.faults ≡ x.faults) (le : t ≤ later) (over : AreOver t before.past) (same : mid ≡ before) where
  left_is : w.talk.left ≡ moves.0
  left_is = ap (λ (k : Talk). k.left) moves.3

  -- it was the only one
  came_one : (moments : List ℕ) → IsOneCaller stamped moments w y → CameOne stamped (record { text = moves.0; served = this_caller y.talk; moments = moments }) moves.1 x y
  came_one moments one = record {
    came = moves.2;
    later = ap (λ (k : Talk). k.later) one.talk ∙ ap (λ (k : Talk). k.later) moves.3;
    served = ap (λ (l : List Served). l ++ this_caller y.talk ∷ []) (ap (λ (k : Talk). k.earlier) one.talk ∙ ap (λ (k : Talk). k.earlier) moves.3);
    stamps = λ yes_. ap (λ (m : Moments). m.earlier ++ m.sent ∷ []) (one.stamps yes_) ∙ ap (λ (m : Moments). m.earlier ++ moments ∷ []) (stamps yes_);
    blame = elim one.blame [ inl none ↦ inl none | inr rose ↦ inr (subst (λ (k : ℕ). Rose k y.faults) faults rose) ];
    this = refl;
  }

  pub turn_served : ServesCaller (Ok tt) stamped later mid after old new w y → Turns (Ok turns.Served) stamped t before after old new x y
  turn_served (s, one, does) = (
    record { text = moves.0; served = this_caller y.talk; moments = s.moments },
    moves.1,
    came_one s.moments one,
    s,
    refl,
    λ m stands.
        let next = does m (stands_still before mid m old same stands) in
        (next.0, subst (λ (l : List ℕ). Serves m l (this_caller y.talk) next.0) left_is next.1, goes_earlier t later before mid after m old le over same stands next.0 new next.2),
  )

  silent_is : y.talk.sent ≡ [] → y.talk.own ≡ 0 → this_caller y.talk ≡ record { sent = []; own = 0 }
  silent_is none zero = ap (λ (l : List ℕ). record { sent = l; own = y.talk.own }) none ∙ ap (λ (k : ℕ). record { sent = []; own = k }) zero

  pub turn_broken : (fault : DiskFault) → ServesCaller (Err fault) stamped later mid after old new w y → Turns (Err stops.DiskFault) stamped t before after old new x y
  turn_broken fault (none, zero, one, does) = (
    moves.0,
    moves.1,
    subst (λ (s : Served). CameOne stamped (record { text = moves.0; served = s; moments = [] }) moves.1 x y) (silent_is none zero) (came_one [] one),
    λ m stands.
        let b = does m (stands_still before mid m old same stands) in
        (b.0, subst (λ (l : List ℕ). Exchanges l (asks b.0)) left_is b.1, breaks_earlier t later before mid after m old le over same stands (entry_by b.0) b.2),
  )
