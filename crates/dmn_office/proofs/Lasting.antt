-- What has lasted until a moment lasts on.
use Rattle.std.proofs.Common.{◌≡◌, ℕ, zero, suc, ◌≤◌, Bool, true, false, List, [], ◌∷◌, ◌++◌, length, replicate, inl, inr, ⊎_elim, refl, ap, arith}
use Rattle.std.specs.List.{All}
use Rattle.std.proofs.lemmas.Bool.{cases_lt}
use Rattle.std.proofs.lemmas.List.{length-append, length-replicate}
use Rattle.std.proofs.lemmas.List.Elements.{All-append, All-nil, All-push, All-weaker}
use Rattle.dmn_outside.specs.Counts.{IsBetween as IsBetweenMoments}
use Rattle.dmn_outside.specs.Crashes.{LeavesOnly, Rests}
use Rattle.dmn_outside.specs.Disk.{AreOver, DiskView}
use Rattle.dmn_outside.specs.Later.{StampsSince}
use Rattle.dmn_outside.specs.Line.{LineView, Moments}
use Rattle.dmn_outside.proofs.Crash.{only_now}
use Rattle.dmn_registry.specs.Machine.{Machine}
use Rattle.dmn_registry.specs.Own.{IsBetween, IsOwn, Leads}
use Rattle.dmn_registry.proofs.Between.{between_from, between_self, between_to, leads_on, leads_self, since_later}
use Rattle.dmn_registry.proofs.Resting.{rests_images}
use Rattle.dmn_office.specs.Lasting.{IsLasting, SentLater}

-- through a later run
pub lasts_on : (t later : ℕ) (old new : DiskView) (n o mid : Machine) → IsLasting old n mid t → Leads n o → LeavesOnly later old new (IsBetween n o) → IsLasting new o mid t
lasts_on t later old new n o mid lasting leads run = record {
  leads = leads_on mid n o lasting.leads leads;
  each = λ image since. elim (cases_lt later t) [
    | inr le ↦ ⊎_elim (λ was. between_to mid n o image leads (lasting.each image was)) (λ b. between_from mid n o image lasting.leads b) (run.before t image le since)
    | inl lt ↦ between_from mid n o image lasting.leads (run.each image (since_later new later t image (omega (arith, lt)) since))
  ];
}

-- from a moment on before which all earlier states were over
pub lasts_here : (disk : DiskView) (m : Machine) (from t : ℕ) → Rests (IsOwn m) disk.told → AreOver from disk.past → from ≤ t → IsLasting disk m m t
lasts_here disk m from t rests over le = record {
  leads = leads_self m;
  each = λ image since. between_self m image (rests_images m disk.told image rests (only_now disk from image over (since_later disk from t image le since)));
}

-- ---- the moments of what is sent

all_same : (from n : ℕ) → All (λ t. from ≤ t) (replicate n from)
all_same from zero = All-nil (λ t. from ≤ t)
all_same from (suc n) = All-append (λ t. from ≤ t) (from ∷ []) (replicate n from) (All-push (λ t. from ≤ t) [] from (All-nil (λ t. from ≤ t)) (omega arith)) (all_same from n)

-- behind a moment at which all earlier states of the disk were over, more was sent; each byte that is sent has one moment
pub sent_later : (stamped : Bool) (from to : ℕ) (more : List ℕ) (disk : DiskView) (x z : LineView) → AreOver from disk.past → z.talk.sent ≡ x.talk.sent ++ more → (stamped ≡ true → StampsSince from to x.moments z.moments)
    → (stamped ≡ true → length x.moments.sent ≡ length x.talk.sent) → (stamped ≡ true → length z.moments.sent ≡ length z.talk.sent) → (s : SentLater more disk) × (stamped ≡ true → z.moments ≡ record x.moments { sent = x.moments.sent ++ s.moments })
sent_later false from to more disk x z over sent stamps before after = (record { from = from; over = over; moments = replicate (length more) from; count = length-replicate (length more) from; each = all_same from (length more) }, λ (wrong : false ≡ true). absurd cc)
sent_later true from to more disk x z over sent stamps before after =
    let s = stamps refl in
    let e : length x.moments.sent ≡ length x.talk.sent = before refl in
    let f : length z.moments.sent ≡ length z.talk.sent = after refl in
    let both : z.moments.sent ≡ x.moments.sent ++ s.more = ap (λ (m : Moments). m.sent) s.after in (
      record {
        from = from;
        over = over;
        moments = s.more;
        count = omega (arith, e, f, ap length both, ap length sent, length-append x.moments.sent s.more, length-append x.talk.sent more);
        each = All-weaker (IsBetweenMoments from to) (λ t. from ≤ t) (λ t b. b.since) s.more s.each;
      },
      λ _. s.after,
    )
