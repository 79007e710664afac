-- One change more of a disk in memory, at its moment.
use Rattle.std.proofs.Common.{◌≡◌, ◌≢◌, ◌<◌, ◌≤◌, inl, inr, ℕ, zero, suc, ◌+◌, arith, min, take, get_or, Result, Ok, Err, OnOk, OnErr, List, [], ◌∷◌, ◌++◌, length, refl, sym, ◌∙◌, ap, subst, Bool, true, false, if◌then◌else◌}
use Rattle.std.proofs.lemmas.List.{take_more}
use Rattle.dmn_outside.specs.Disk.{Three, pick, change, File, Past, DiskView, Reads, Told, whole, all_reads, IfReads}
use Rattle.dmn_outside.specs.Changes.{MayChange, after, after_read, moved, none_read, past_after, reads_more}
use Rattle.dmn_outside.specs.Picked.{Follows, IsImage, IsPicked}
use Rattle.dmn_outside.specs.Stored.{AreBefore, acted, begin, contents_by, crash_by, past_by, past_from, replayed, settled, told_by, told_of_texts}
use Rattle.dmn_outside.specs.declared.image.Pick.{Pick}
use Rattle.dmn_outside.specs.declared.log.Change.{Change}

replay_push : (files : Three File) (xs : List Change) (d : Change) → replayed files (xs ++ d ∷ []) ≡ change d.file (acted d.act) (replayed files xs)
unfolding replayed
replay_push files [] d = refl
replay_push files (x ∷ xs) d = replay_push (change x.file (acted x.act) files) xs d

past_push : (files : Three File) (past : List Past) (xs : List Change) (d : Change) → past_from files past (xs ++ d ∷ []) ≡ record { ended = d.moment; files = replayed files xs } ∷ past_from files past xs
unfolding past_from replayed
past_push files past [] d = refl
past_push files past (x ∷ xs) d = past_push (change x.file (acted x.act) files) (record { ended = x.moment; files = files } ∷ past) xs d

pub push_before : (t : ℕ) (xs : List Change) (d : Change) → AreBefore t xs → d.moment < t → AreBefore t (xs ++ d ∷ [])
push_before t [] d all lt = (lt, tt)
push_before t (x ∷ xs) d all lt = (all.0, push_before t xs d all.1 lt)

-- the same where the change may not be kept
pub before_either : (t : ℕ) (xs ys : List Change) (d : Change) (b : Bool) → ys ≡ (if b then xs ++ d ∷ [] else xs) → AreBefore t xs → d.moment < t → AreBefore t ys
before_either t xs ys d true is all lt = subst (AreBefore t) (sym is) (push_before t xs d all lt)
before_either t xs ys d false is all lt = subst (AreBefore t) (sym is) all

pub before_later : (t later : ℕ) (xs : List Change) → t ≤ later → AreBefore t xs → AreBefore later xs
before_later t later [] le all = tt
before_later t later (d ∷ xs) le all = let lt : d.moment < t = all.0 in (omega (arith, le, lt), before_later t later xs le all.1)

reads_change : (file : ℕ) (g : File → File) (files : Three File) (text : List ℕ) → (g (pick file files)).reads ≡ text → all_reads (change file g files) ≡ change file (λ old. text) (all_reads files)
reads_change zero g files text is = ap (λ (t : List ℕ). record { zeroth = t; first = files.first.reads; second = files.second.reads }) is
reads_change (suc zero) g files text is = ap (λ (t : List ℕ). record { zeroth = files.zeroth.reads; first = t; second = files.second.reads }) is
reads_change (suc (suc n)) g files text is = ap (λ (t : List ℕ). record { zeroth = files.zeroth.reads; first = files.first.reads; second = t }) is

pick_reads : (file : ℕ) (files : Three File) → pick file (all_reads files) ≡ (pick file files).reads
pick_reads zero files = refl
pick_reads (suc zero) files = refl
pick_reads (suc (suc n)) files = refl

change_same : (file : ℕ) (t : Three (List ℕ)) → change file (λ old. pick file t) t ≡ t
change_same zero t = refl
change_same (suc zero) t = refl
change_same (suc (suc n)) t = refl

module _ (texts : Three (List ℕ)) (xs ys : List Change) (d : Change) (more : ys ≡ xs ++ d ∷ []) where
  pub told_after : (read : Three Reads) (f : List ℕ → List ℕ) → told_by texts ys read ≡ after d.file f (acted d.act) (told_by texts xs read)
  unfolding crash_by after moved
  told_after read f =
      ap (λ (l : List Change). told_by texts l read) more
      ∙ ap (λ (files : Three File). whole (record { files = files; read = read })) (replay_push (begin texts) xs d)

  pub past_more : (read : Three Reads) → past_by texts ys ≡ past_after d.moment (told_by texts xs read) (past_by texts xs)
  unfolding crash_by
  past_more read = ap (λ (l : List Change). past_by texts l) more ∙ past_push (begin texts) [] xs d

  -- what is kept beside is what reads give
  pub replaced : (old new : Three (List ℕ)) (text : List ℕ) → old ≡ contents_by texts xs → new ≡ change d.file (λ was. text) old
      → ((s : File) → s.reads ≡ pick d.file old → (acted d.act s).reads ≡ text) → new ≡ contents_by texts ys
  unfolding contents_by
  replaced old new text was is reads =
      let files = replayed (begin texts) xs in
      let there : (pick d.file files).reads ≡ pick d.file old = sym (pick_reads d.file files) ∙ ap (λ (t : Three (List ℕ)). pick d.file t) (sym was) in
      is
      ∙ ap (λ (t : Three (List ℕ)). change d.file (λ was. text) t) was
      ∙ sym (reads_change d.file (acted d.act) files text (reads (pick d.file files) there))
      ∙ ap (λ (w : Three File). all_reads w) (sym (replay_push (begin texts) xs d))
      ∙ ap (λ (l : List Change). contents_by texts l) (sym more)

  pub kept : (old : Three (List ℕ)) → old ≡ contents_by texts xs → ((s : File) → (acted d.act s).reads ≡ s.reads) → old ≡ contents_by texts ys
  kept old was reads = replaced old old (pick d.file old) was (sym (change_same d.file old)) (λ s is. reads s ∙ is)

-- the same where the change may not be kept
pub kept_either : (texts : Three (List ℕ)) (xs ys : List Change) (d : Change) (b : Bool) (old : Three (List ℕ)) → ys ≡ (if b then xs ++ d ∷ [] else xs) → old ≡ contents_by texts xs → ((s : File) → (acted d.act s).reads ≡ s.reads)
    → old ≡ contents_by texts ys
kept_either texts xs ys d true old is was reads = kept texts xs ys d is old was reads
kept_either texts xs ys d false old is was reads = was ∙ ap (λ (l : List Change). contents_by texts l) (sym is)

pub read_after : (texts : Three (List ℕ)) (xs : List Change) (file at n : ℕ) (old new : Three Reads) → new ≡ change file (reads_more at n) old → told_by texts xs new ≡ after_read file at n (told_by texts xs old)
unfolding crash_by after_read
read_after texts xs file at n old new is = ap (λ (r : Three Reads). told_by texts xs r) is

pub if_reads : (texts : Three (List ℕ)) (xs : List Change) (read : Three Reads) (now : Three (List ℕ)) (P : Three (List ℕ) → Type 0) → now ≡ contents_by texts xs → P now → IfReads (told_by texts xs read) P
unfolding crash_by contents_by
if_reads texts xs read now P is here = subst P is here

-- a call that may have failed
pub may_change : {T E : Type 0} (r : Result T E) (t : ℕ) (step : Told → Told) (old new : DiskView) → OnOk r (new.told ≡ step old.told) → OnOk r (new.past ≡ past_after t old.told old.past)
    → OnErr r (new.told ≡ old.told) → OnErr r (new.past ≡ old.past) → MayChange t step old new
may_change (Ok v) t step old new told past same same_past = inr (record { told = told; past = past })
may_change (Err e) t step old new told past same same_past = inl (record { told = same; past = same_past })

-- the same from a view that tells the same
pub may_from : (s t : ℕ) (step : Told → Told) (old mid new : DiskView) → s ≡ t → mid.told ≡ old.told → mid.past ≡ old.past → MayChange s step mid new → MayChange t step old new
may_from s t step old mid new same told past (inl keeps) = inl (record { told = keeps.told ∙ told; past = keeps.past ∙ past })
may_from s t step old mid new same told past (inr does) = inr (record { told = does.told ∙ ap step told; past = does.past ∙ (λ i. past_after (same i) (told i) (past i)) })

-- a disk at its start
pub contents_none : (texts now : Three (List ℕ)) (xs : List Change) → now ≡ texts → xs ≡ [] → now ≡ contents_by texts xs
unfolding contents_by replayed
contents_none texts now xs is none = is ∙ ap (λ (l : List Change). contents_by texts l) (sym none)

pub told_none : (texts image : Three (List ℕ)) (xs : List Change) (read : Three Reads) → texts ≡ image → xs ≡ [] → read ≡ none_read → told_by texts xs read ≡ told_of_texts image
unfolding crash_by replayed
told_none texts image xs read is none no_read = λ i. told_by (is i) (none i) (no_read i)

pub past_none : (texts : Three (List ℕ)) (xs : List Change) → xs ≡ [] → past_by texts xs ≡ []
unfolding past_from
past_none texts xs none = ap (λ (l : List Change). past_by texts l) none

-- the change of one file, as it is seen at another
pub pick_same : {A : Type 0} (a b : ℕ) (g : A → A) (t : Three A) → min a 2 ≡ min b 2 → pick a (change b g t) ≡ g (pick a t)
pick_same zero zero g t is = refl
pick_same zero (suc zero) g t is = absurd (omega arith)
pick_same zero (suc (suc m)) g t is = absurd (omega arith)
pick_same (suc zero) zero g t is = absurd (omega arith)
pick_same (suc zero) (suc zero) g t is = refl
pick_same (suc zero) (suc (suc m)) g t is = absurd (omega arith)
pick_same (suc (suc n)) zero g t is = absurd (omega arith)
pick_same (suc (suc n)) (suc zero) g t is = absurd (omega arith)
pick_same (suc (suc n)) (suc (suc m)) g t is = refl

pub pick_other : {A : Type 0} (a b : ℕ) (g : A → A) (t : Three A) → min a 2 ≢ min b 2 → pick a (change b g t) ≡ pick a t
pick_other zero zero g t ne = absurd (ne refl)
pick_other zero (suc zero) g t ne = refl
pick_other zero (suc (suc m)) g t ne = refl
pick_other (suc zero) zero g t ne = refl
pick_other (suc zero) (suc zero) g t ne = absurd (ne refl)
pick_other (suc zero) (suc (suc m)) g t ne = refl
pick_other (suc (suc n)) zero g t ne = refl
pick_other (suc (suc n)) (suc zero) g t ne = refl
pick_other (suc (suc n)) (suc (suc m)) g t ne = let same : min (suc (suc n)) 2 ≡ min (suc (suc m)) 2 = omega arith in absurd (ne same)

pub replay_none : (files : Three File) (xs : List Change) → replayed files (take 0 xs) ≡ files
unfolding replayed
replay_none files xs = refl

pub replay_more : (files : Three File) (xs : List Change) (k : ℕ) (d : Change) → k < length xs → d ≡ get_or xs k d → replayed files (take (k + 1) xs) ≡ change d.file (acted d.act) (replayed files (take k xs))
replay_more files xs k d lt is =
    ap (λ (l : List Change). replayed files l) (take_more xs k d lt ∙ ap (λ (e : Change). take k xs ++ e ∷ []) (sym is))
    ∙ replay_push files (take k xs) d

pick_begin : (texts : Three (List ℕ)) (file : ℕ) → pick file (begin texts) ≡ settled (pick file texts)
pick_begin texts zero = refl
pick_begin texts (suc zero) = refl
pick_begin texts (suc (suc n)) = refl

pub follows_begin : (how : Pick) (texts : Three (List ℕ)) (file : ℕ) (reads left : List ℕ) → reads ≡ pick file texts → left ≡ pick file texts → Follows how (pick file (begin texts)) reads left
follows_begin how texts file reads left same is =
    subst (λ (f : File). Follows how f reads left) (sym (pick_begin texts file)) (record { same = same; picked = record { left = is; lost = λ before. is } })

pub each_picked : (how : Pick) (texts : Three (List ℕ)) (xs : List Change) (read : Three Reads) (zeroth first second : List ℕ) → IsPicked how (pick 0 (replayed (begin texts) xs)) zeroth → IsPicked how (pick 1 (replayed (begin texts) xs)) first
    → IsPicked how (pick 2 (replayed (begin texts) xs)) second → IsImage how (told_by texts xs read) (record { zeroth = zeroth; first = first; second = second })
unfolding crash_by
each_picked how texts xs read zeroth first second a b c = record { zeroth = a; first = b; second = c }
