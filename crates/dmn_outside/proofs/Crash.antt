-- How the images of a crash go on from call to call.
use Rattle.std.proofs.Common.{◌≡◌, ◌⊎◌, ◌+◌, inl, inr, ⊎_elim, ℕ, ◌<◌, ◌≤◌, List, [], ◌∷◌, length, take, zero, suc, refl, sym, ◌∙◌, ap, subst, arith, length-take, Result, Ok, Err, OnOk, OnErr, Bool, true, false, nat_lt, if◌then◌else◌}
use Rattle.std.proofs.lemmas.List.{take_min}
use Rattle.dmn_outside.specs.Disk.{Three, File, Told, nothing, contents, whole, Past, DiskView, Torn, Leaves, LeavesEach, MayLeave, SinceIn, Since, AreOver, ReadsAreLeft, cut}
use Rattle.dmn_outside.specs.Changes.{after, after_cut, after_cut_torn, after_read, after_sync, after_three, after_torn, after_write, but, moved, past_after, unread, Changes, Keeps, MayChange, OnlyReads}
use Rattle.dmn_outside.specs.Crashes.{CallsJoin, LeavesOnly}

-- none of the states that are over is so late
none_so_late : (states : List Past) (t : ℕ) (image : Three (List ℕ)) → AreOver t states → SinceIn states t image → ⊥
none_so_late [] t image over since = since
none_so_late (s ∷ states) t image over (inl here) = let le : t ≤ s.ended = here.0 in let lt : s.ended < t = over.0 in absurd (omega (arith, le, lt))
none_so_late (s ∷ states) t image over (inr there) = none_so_late states t image over.1 there

-- since the present moment there is only it
pub only_now : (d : DiskView) (t : ℕ) (image : Three (List ℕ)) → AreOver t d.past → Since d t image → MayLeave d.told image
only_now d t image over (inl now) = now
only_now d t image over (inr was) = absurd (none_so_late d.past t image over was)

-- the present moment is one of those since any other
pub counts_now : (d : DiskView) (t : ℕ) (image : Three (List ℕ)) → MayLeave d.told image → Since d t image
counts_now d t image now = inl now

past_joins : (at : ℕ) (told : Told) (past : List Past) (t : ℕ) (image : Three (List ℕ)) → SinceIn (past_after at told past) t image → MayLeave told image ⊎ SinceIn past t image
past_joins at nothing past t image since = inr since
past_joins at (contents c) past t image since = inr since
past_joins at (whole w) past t image (inl here) = inl here.1
past_joins at (whole w) past t image (inr there) = inr there

-- a crash since t might have left what it might have left before the call, or what it may leave now
pub after_joins : (at : ℕ) (step : Told → Told) (old new : DiskView) (t : ℕ) (image : Three (List ℕ)) → Changes at step old new → Since new t image → Since old t image ⊎ MayLeave (step old.told) image
after_joins at step old new t image does (inl now) = inr (subst (λ (d : Told). MayLeave d image) does.told now)
after_joins at step old new t image does (inr was) = inl (past_joins at old.told old.past t image (subst (λ (states : List Past). SinceIn states t image) does.past was))

kept_joins : (old new : DiskView) (t : ℕ) (image : Three (List ℕ)) → Keeps old new → Since new t image → Since old t image
kept_joins old new t image keeps (inl now) = inl (subst (λ (d : Told). MayLeave d image) keeps.told now)
kept_joins old new t image keeps (inr was) = inr (subst (λ (states : List Past). SinceIn states t image) keeps.past was)

-- before the first call
pub started : (start : ℕ) (d : DiskView) (P : Three (List ℕ) → Type 0) → AreOver start d.past → ((image : Three (List ℕ)) → MayLeave d.told image → P image) → LeavesOnly start d d P
started start d P over here = record { each = λ image since. here image (only_now d start image over since); before = λ t image le since. inl since }

module _ (start : ℕ) (old mid new : DiskView) (P : Three (List ℕ) → Type 0) (so_far : LeavesOnly start old mid P) where
  -- a call of the line
  pub stays : new ≡ mid → LeavesOnly start old new P
  stays same = subst (λ (d : DiskView). LeavesOnly start old d P) (sym same) so_far

  -- a call that changes no file
  pub keeps_on : Keeps mid new → LeavesOnly start old new P
  keeps_on keeps = record {
    each = λ image since. so_far.each image (kept_joins mid new start image keeps since);
    before = λ t image le since. so_far.before t image le (kept_joins mid new t image keeps since);
  }

  -- one call more, after which a crash leaves what has P
  pub goes_on : (at : ℕ) (step : Told → Told) → Changes at step mid new → ((image : Three (List ℕ)) → MayLeave (step mid.told) image → P image) → LeavesOnly start old new P
  goes_on at step does here = record {
    each = λ image since. ⊎_elim (so_far.each image) (here image) (after_joins at step mid new start image does since);
    before = λ t image le since. ⊎_elim (so_far.before t image le) (λ now. inr (here image now)) (after_joins at step mid new t image does since);
  }

  -- a failed call, which has done it or not
  pub may_go_on : (at : ℕ) (step : Told → Told) → MayChange at step mid new → ((image : Three (List ℕ)) → MayLeave (step mid.told) image → P image) → LeavesOnly start old new P
  may_go_on at step (inl keeps) here = keeps_on keeps
  may_go_on at step (inr does) here = goes_on at step does here

  -- two runs, one behind the other
  pub joins : (later : ℕ) (Q : Three (List ℕ) → Type 0) → start ≤ later → LeavesOnly later mid new Q → ((image : Three (List ℕ)) → Q image → P image) → LeavesOnly start old new P
  joins later Q le second widens = record {
    each = λ image since. ⊎_elim (so_far.each image) (widens image) (second.before start image le since);
    before = λ t image lt since. ⊎_elim (so_far.before t image lt) (λ q. inr (widens image q)) (second.before t image (omega (arith, le, lt)) since);
  }

-- the files, where all is told
abbrev pub files_or : Three File → Told → Three File
files_or d nothing = d
files_or d (contents c) = d
files_or d (whole w) = w.files

-- a disk of which the files are told as before leaves as before
pub unread_leaves : (a b : Told) → unread b ≡ unread a → (image : Three (List ℕ)) → MayLeave b image → MayLeave a image
unread_leaves nothing nothing same image now = now
unread_leaves nothing (contents c) same image now = absurd now
unread_leaves nothing (whole w) same image now = let wrong : ⊥ = cc in absurd wrong
unread_leaves (contents c) nothing same image now = absurd now
unread_leaves (contents c) (contents d) same image now = absurd now
unread_leaves (contents c) (whole w) same image now = let wrong : ⊥ = cc in absurd wrong
unread_leaves (whole w) nothing same image now = absurd now
unread_leaves (whole w) (contents c) same image now = absurd now
unread_leaves (whole w) (whole v) same image now = let e : v.files ≡ w.files = ap (files_or w.files) same in subst (λ (f : Three File). LeavesEach f image) e now

read_joins : (old new : DiskView) (t : ℕ) (image : Three (List ℕ)) → OnlyReads old new → Since new t image → Since old t image
read_joins old new t image keeps (inl now) = inl (unread_leaves old.told new.told keeps.told image now)
read_joins old new t image keeps (inr was) = inr (subst (λ (states : List Past). SinceIn states t image) keeps.past was)

-- a call that only reads
pub reads_on : (start : ℕ) (old mid new : DiskView) (P : Three (List ℕ) → Type 0) → LeavesOnly start old mid P → OnlyReads mid new → LeavesOnly start old new P
reads_on start old mid new P so_far keeps = record {
  each = λ image since. so_far.each image (read_joins mid new start image keeps since);
  before = λ t image le since. so_far.before t image le (read_joins mid new t image keeps since);
}

pub read_unread : (file at n : ℕ) (d : Told) → unread (after_read file at n d) ≡ unread d
unfolding after_read
read_unread file at n nothing = refl
read_unread file at n (contents c) = refl
read_unread file at n (whole w) = refl

pub widened : (start : ℕ) (old new : DiskView) (P Q : Three (List ℕ) → Type 0) → LeavesOnly start old new P → ((image : Three (List ℕ)) → P image → Q image) → LeavesOnly start old new Q
widened start old new P Q run widens = record {
  each = λ image since. widens image (run.each image since);
  before = λ t image le since. ⊎_elim (λ was. inl was) (λ p. inr (widens image p)) (run.before t image le since);
}

-- a change of a file leaves what is told of the others
pub but_after : (file : ℕ) (f : List ℕ → List ℕ) (g : File → File) (d : Told) → but file (after file f g d) ≡ but file d
unfolding after moved but
but_after file f g nothing = refl
but_after zero f g (contents c) = refl
but_after (suc zero) f g (contents c) = refl
but_after (suc (suc n)) f g (contents c) = refl
but_after zero f g (whole w) = refl
but_after (suc zero) f g (whole w) = refl
but_after (suc (suc n)) f g (whole w) = refl

pub but_does : (at file : ℕ) (f : List ℕ → List ℕ) (g : File → File) (old new : DiskView) → Changes at (after file f g) old new → but file new.told ≡ but file old.told
but_does at file f g old new does = ap (λ (d : Told). but file d) does.told ∙ but_after file f g old.told

pub but_may : (at file : ℕ) (f : List ℕ → List ℕ) (g : File → File) (old new : DiskView) → MayChange at (after file f g) old new → but file new.told ≡ but file old.told
but_may at file f g old new (inl keeps) = ap (λ (d : Told). but file d) keeps.told
but_may at file f g old new (inr does) = but_does at file f g old new does

pub but_syncs : {T E : Type 0} (at file : ℕ) (r : Result T E) (old new : DiskView) → OnOk r (Changes at (after_sync file) old new) → OnErr r (Keeps old new) → but file new.told ≡ but file old.told
but_syncs at file (Ok v) old new done failed = but_does at file _ _ old new done
but_syncs at file (Err e) old new done failed = ap (λ (d : Told). but file d) failed.told

-- a change of a file that leaves its images possible
pub keeps_possible : (file : ℕ) (f : List ℕ → List ℕ) (g : File → File) → ((s : File) (c : List ℕ) → Leaves s.sure s.begun c → Leaves (g s).sure (g s).begun c)
    → (d : Told) (image : Three (List ℕ)) → MayLeave d image → MayLeave (after file f g d) image
unfolding after moved
keeps_possible file f g keeps nothing image now = now
keeps_possible file f g keeps (contents c) image now = now
keeps_possible zero f g keeps (whole w) image now = record { zeroth = keeps w.files.zeroth image.zeroth now.zeroth; first = now.first; second = now.second }
keeps_possible (suc zero) f g keeps (whole w) image now = record { zeroth = now.zeroth; first = keeps w.files.first image.first now.first; second = now.second }
keeps_possible (suc (suc n)) f g keeps (whole w) image now = record { zeroth = now.zeroth; first = now.first; second = keeps w.files.second image.second now.second }

pub torn_same : (at n : ℕ) (c : List ℕ) → Torn at n c c
torn_same at n c = record {
  before = rw length-take (take_min at c);
  after = refl;
  no_shorter = omega arith;
  no_longer = omega arith;
}

-- before a write stands on the disk, what was possible still is
pub write_keeps : (file at : ℕ) (bytes : List ℕ) (d : Told) (image : Three (List ℕ)) → MayLeave d image → MayLeave (after_write file at bytes d) image
write_keeps file at bytes = keeps_possible file _ _ (λ s c left. (c, left, torn_same at (length bytes) c))

-- a change of a file that leaves no other image than another change would
pub fewer_images : (file : ℕ) (f f' : List ℕ → List ℕ) (g g' : File → File) → ((s : File) (c : List ℕ) → Leaves (g s).sure (g s).begun c → Leaves (g' s).sure (g' s).begun c)
    → (d : Told) (image : Three (List ℕ)) → MayLeave (after file f g d) image → MayLeave (after file f' g' d) image
unfolding after moved
fewer_images file f f' g g' keeps nothing image now = now
fewer_images file f f' g g' keeps (contents c) image now = now
fewer_images zero f f' g g' keeps (whole w) image now = record { zeroth = keeps w.files.zeroth image.zeroth now.zeroth; first = now.first; second = now.second }
fewer_images (suc zero) f f' g g' keeps (whole w) image now = record { zeroth = now.zeroth; first = keeps w.files.first image.first now.first; second = now.second }
fewer_images (suc (suc n)) f f' g g' keeps (whole w) image now = record { zeroth = now.zeroth; first = now.first; second = keeps w.files.second image.second now.second }

-- a write that failed leaves no more than one that is done
pub torn_is_write : (file at : ℕ) (bytes : List ℕ) (d : Told) (image : Three (List ℕ)) → MayLeave (after_torn file at (length bytes) d) image → MayLeave (after_write file at bytes d) image
torn_is_write file at bytes = fewer_images file _ _ _ _ (λ s c left. left)

-- after a sync there is what reads give, which was possible before
pub sync_keeps : (file : ℕ) (d : Told) (image : Three (List ℕ)) → ReadsAreLeft d → MayLeave (after_sync file d) image → MayLeave d image
unfolding after moved
sync_keeps file nothing image reads now = now
sync_keeps file (contents c) image reads now = now
sync_keeps zero (whole w) image reads now = record { zeroth = subst (λ (c : List ℕ). Leaves w.files.zeroth.sure w.files.zeroth.begun c) (sym now.zeroth) reads.zeroth; first = now.first; second = now.second }
sync_keeps (suc zero) (whole w) image reads now = record { zeroth = now.zeroth; first = subst (λ (c : List ℕ). Leaves w.files.first.sure w.files.first.begun c) (sym now.first) reads.first; second = now.second }
sync_keeps (suc (suc n)) (whole w) image reads now = record { zeroth = now.zeroth; first = now.first; second = subst (λ (c : List ℕ). Leaves w.files.second.sure w.files.second.begun c) (sym now.second) reads.second }

-- a sync, failed or not
pub syncs : {T E : Type 0} (start at file : ℕ) (r : Result T E) (old mid new : DiskView) (P : Three (List ℕ) → Type 0) → LeavesOnly start old mid P → OnOk r (Changes at (after_sync file) mid new) → OnErr r (Keeps mid new)
    → ReadsAreLeft mid.told → ((image : Three (List ℕ)) → MayLeave mid.told image → P image) → LeavesOnly start old new P
syncs start at file (Ok v) old mid new P so_far done failed reads here = goes_on start old mid new P so_far at (after_sync file) done (λ image now. here image (sync_keeps file mid.told image reads now))
syncs start at file (Err e) old mid new P so_far done failed reads here = keeps_on start old mid new P so_far failed

cut_keeps_file : (n : ℕ) (b : Bool) (s : File) (c : List ℕ) → Leaves s.sure s.begun c
    → (let t = if b then record { reads = take n s.reads; sure = s.sure; begun = cut n ∷ s.begun } else s in Leaves t.sure t.begun c)
cut_keeps_file n true s c left = (c, left, inl refl)
cut_keeps_file n false s c left = left

cut_torn_file : (n : ℕ) (b : Bool) (s : File) (c : List ℕ) → (let t = if b then record { reads = s.reads; sure = s.sure; begun = cut n ∷ s.begun } else s in Leaves t.sure t.begun c)
    → (let t = if b then record { reads = take n s.reads; sure = s.sure; begun = cut n ∷ s.begun } else s in Leaves t.sure t.begun c)
cut_torn_file n true s c left = left
cut_torn_file n false s c left = left

-- before a cut stands on the disk, what was possible still is
pub cut_keeps : (file n : ℕ) (d : Told) (image : Three (List ℕ)) → MayLeave d image → MayLeave (after_cut file n d) image
cut_keeps file n = keeps_possible file _ _ (λ s c left. cut_keeps_file n (nat_lt n (length s.reads)) s c left)

pub cut_torn_is_cut : (file n : ℕ) (d : Told) (image : Three (List ℕ)) → MayLeave (after_cut_torn file n d) image → MayLeave (after_cut file n d) image
cut_torn_is_cut file n = fewer_images file _ _ _ _ (λ s c left. cut_torn_file n (nat_lt n (length s.reads)) s c left)

-- a write more, done or failed, where what was told is known
module _ (start : ℕ) (old mid new : DiskView) (P : Three (List ℕ) → Type 0) (so_far : LeavesOnly start old mid P) (at file place : ℕ) (bytes : List ℕ) (told : Told) (is : mid.told ≡ told)
    (here : (image : Three (List ℕ)) → MayLeave (after_write file place bytes told) image → P image) where
  pub writes_on : Changes at (after_write file place bytes) mid new → LeavesOnly start old new P
  writes_on does = goes_on start old mid new P so_far at (after_write file place bytes) does (λ image now. here image (subst (λ (d : Told). MayLeave (after_write file place bytes d) image) is now))

  pub tears_on : MayChange at (after_torn file place (length bytes)) mid new → LeavesOnly start old new P
  tears_on may = may_go_on start old mid new P so_far at (after_torn file place (length bytes)) may
      (λ image now. here image (subst (λ (d : Told). MayLeave (after_write file place bytes d) image) is (torn_is_write file place bytes mid.told image now)))

-- three writes one behind the other
module _ (file at : ℕ) (first second third : List ℕ) (d : Told) where
  pub three_keep : (image : Three (List ℕ)) → MayLeave d image → MayLeave (after_three file at first second third d) image
  three_keep image now =
      write_keeps file (at + length first + length second) third (after_write file (at + length first) second (after_write file at first d)) image
      (write_keeps file (at + length first) second (after_write file at first d) image (write_keeps file at first d image now))

  pub two_keep : (image : Three (List ℕ)) → MayLeave (after_write file at first d) image → MayLeave (after_three file at first second third d) image
  two_keep image now =
      write_keeps file (at + length first + length second) third (after_write file (at + length first) second (after_write file at first d)) image
      (write_keeps file (at + length first) second (after_write file at first d) image now)

  pub one_keeps : (image : Three (List ℕ)) → MayLeave (after_write file (at + length first) second (after_write file at first d)) image → MayLeave (after_three file at first second third d) image
  one_keeps image now = write_keeps file (at + length first + length second) third (after_write file (at + length first) second (after_write file at first d)) image now

-- ---- the rule that joins calls to runs

pub calls_are_joined : CallsJoin
calls_are_joined start at step old new t image (inl keeps) since = inl (kept_joins old new t image keeps since)
calls_are_joined start at step old new t image (inr does) since =
    ⊎_elim (λ was. inl was) (λ now. inr (counts_now new start image (subst (λ (d : Told). MayLeave d image) (sym does.told) now))) (after_joins at step old new t image does since)
