-- Three syncs, which leave what reads give and add no image.
use Rattle.std.proofs.Common.{◌≡◌, ℕ, zero, suc, List, Result, Ok, Err, OnOk, OnErr, refl, sym, ap, subst, ◌∙◌}
use Rattle.dmn_outside.specs.Changes.{Changes, Keeps, after, after_sync, bytes_read, moved, unread}
use Rattle.dmn_outside.specs.Crashes.{AreSynced, Rests}
use Rattle.dmn_outside.specs.Disk.{DiskView, File, MayLeave, ReadsAreLeft, Three, Told, IfReads, contents, nothing, whole}
use Rattle.dmn_outside.proofs.Crash.{files_or, sync_keeps}
use Rattle.dmn_registry.specs.Opening.{IsQuiet, reads_of}

reads_sync : (file : ℕ) (d : Told) → reads_of (after_sync file d) ≡ reads_of d
unfolding after moved
reads_sync file nothing = refl
reads_sync zero (contents c) = refl
reads_sync (suc zero) (contents c) = refl
reads_sync (suc (suc n)) (contents c) = refl
reads_sync zero (whole w) = refl
reads_sync (suc zero) (whole w) = refl
reads_sync (suc (suc n)) (whole w) = refl

bytes_sync : (file : ℕ) (d : Told) → bytes_read 0 (after_sync file d) ≡ bytes_read 0 d
unfolding after moved bytes_read
bytes_sync file nothing = refl
bytes_sync file (contents c) = refl
bytes_sync file (whole w) = refl

pub sync_reads : {T E : Type 0} (at file : ℕ) (r : Result T E) (old new : DiskView) → OnOk r (Changes at (after_sync file) old new) → OnErr r (Keeps old new) → reads_of new.told ≡ reads_of old.told
sync_reads at file (Ok v) old new done failed = ap reads_of done.told ∙ reads_sync file old.told
sync_reads at file (Err e) old new done failed = ap reads_of failed.told

pub sync_bytes : {T E : Type 0} (at file : ℕ) (r : Result T E) (old new : DiskView) → OnOk r (Changes at (after_sync file) old new) → OnErr r (Keeps old new) → bytes_read 0 new.told ≡ bytes_read 0 old.told
sync_bytes at file (Ok v) old new done failed = ap (λ (d : Told). bytes_read 0 d) done.told ∙ bytes_sync file old.told
sync_bytes at file (Err e) old new done failed = ap (λ (d : Told). bytes_read 0 d) failed.told

-- a sync adds no image
pub back : {T E : Type 0} (at file : ℕ) (r : Result T E) (old new : DiskView) → OnOk r (Changes at (after_sync file) old new) → OnErr r (Keeps old new) → ReadsAreLeft old.told → (image : Three (List ℕ)) → MayLeave new.told image → MayLeave old.told image
back at file (Ok v) old new done failed reads image now = sync_keeps file old.told image reads (subst (λ (d : Told). MayLeave d image) done.told now)
back at file (Err e) old new done failed reads image now = subst (λ (d : Told). MayLeave d image) failed.told now

quiet_all : (d : Told) → IsQuiet (after_sync 2 (after_sync 1 (after_sync 0 d)))
unfolding after moved
quiet_all nothing = tt
quiet_all (contents c) = tt
quiet_all (whole w) = record { zeroth = refl; first = refl; second = refl }

pub quiet : {T E : Type 0} (r : Result T E) (d0 d1 d2 d3 : Told) → d1 ≡ after_sync 0 d0 → d2 ≡ after_sync 1 d1 → OnOk r (d3 ≡ after_sync 2 d2) → OnOk r (IsQuiet d3)
quiet (Ok v) d0 d1 d2 d3 one two three = subst IsQuiet (sym (three ∙ ap (after_sync 2) (two ∙ ap (after_sync 1) one))) (quiet_all d0)
quiet (Err e) d0 d1 d2 d3 one two three = tt

pub told_of : {T E : Type 0} (at : ℕ) (r : Result T E) (old new : DiskView) → OnOk r (Changes at (after_sync 2) old new) → OnOk r (new.told ≡ after_sync 2 old.told)
told_of at (Ok v) old new done = done.told
told_of at (Err e) old new done = tt

-- ---- a disk at rest that is read

pub rests_of : (P : Three (List ℕ) → Type 0) (told : Told) → IsQuiet told → IfReads told P → Rests P told
rests_of P nothing still p = tt
rests_of P (contents c) still p = p
rests_of P (whole w) still p = (p, still)

pub quiet_unread : (a b : Told) → unread b ≡ unread a → IsQuiet a → IsQuiet b
quiet_unread nothing nothing same still = tt
quiet_unread nothing (contents c) same still = tt
quiet_unread nothing (whole v) same still = let wrong : ⊥ = cc in absurd wrong
quiet_unread (contents c) nothing same still = tt
quiet_unread (contents c) (contents d) same still = tt
quiet_unread (contents c) (whole v) same still = let wrong : ⊥ = cc in absurd wrong
quiet_unread (whole w) nothing same still = tt
quiet_unread (whole w) (contents c) same still = tt
quiet_unread (whole w) (whole v) same still = let e : v.files ≡ w.files = ap (files_or w.files) same in subst (λ (f : Three File). AreSynced f) (sym e) still
