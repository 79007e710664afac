-- A disk in memory as it reads is one of its images, and its past is over.
use Rattle.std.specs.Prelude.{◌≡◌, ℕ, zero, suc, ◌+◌, ◌-◌, List, [], ◌∷◌, ◌++◌, Bool, true, false, length, take, drop, replicate, if◌then◌else◌, nat_lt}
use Rattle.std.proofs.Common.{inr, inl, refl, ◌∙◌, ap, arith, append_assoc, length-append, length-take, length-drop}
use Rattle.std.proofs.lemmas.List.{take_at, drop_at, take_min, length-replicate}
use Rattle.dmn_outside.specs.Disk.{Three, change, cut, File, Torn, Leaves, LeavesEach, ReadsAreLeft, Past, Reads, AreOver, all_reads}
use Rattle.dmn_outside.specs.Changes.{placed}
use Rattle.dmn_outside.specs.Stored.{begin, acted, replayed, past_from, past_by, crash_by, told_by, AreBefore}
use Rattle.dmn_outside.specs.declared.log.Act.{Act}
use Rattle.dmn_outside.specs.declared.log.Act.TheVariants.{Wrote, Tore, Cut, CutTorn, Synced}
use Rattle.dmn_outside.specs.declared.log.Change.{Change}

pub torn_same : (at n : ℕ) (c : List ℕ) → Torn at n c c
torn_same at n c = record { before = rw length-take (take_min at c); after = refl; no_shorter = omega arith; no_longer = omega arith }

pub torn_placed : (at : ℕ) (bytes old : List ℕ) → Torn at (length bytes) old (placed at bytes old)
torn_placed at bytes old =
    let zeros : List ℕ = replicate (at - length old) 0 in
    let back : List ℕ = drop (at + length bytes) old in
    let front_size : length (take at old ++ zeros ++ bytes) ≡ at + length bytes = omega (arith, length-append (take at old ++ zeros) bytes, length-append (take at old) zeros, length-take at old, length-replicate {A = ℕ} (at - length old) 0) in
    let split : placed at bytes old ≡ take at old ++ (zeros ++ (bytes ++ back)) = append_assoc (take at old ++ zeros) bytes back ∙ append_assoc (take at old) zeros (bytes ++ back) in
    let size : length (placed at bytes old) ≡ at + length bytes + (length old - (at + length bytes)) = omega (arith, length-append (take at old ++ zeros ++ bytes) back, front_size, length-drop (at + length bytes) old) in
    record {
      before = ap (λ (l : List ℕ). take (length (take at old)) l) split ∙ take_at (take at old) (zeros ++ (bytes ++ back)) (length (take at old)) refl;
      after = drop_at (take at old ++ zeros ++ bytes) back (at + length bytes) front_size;
      no_shorter = omega (arith, size);
      no_longer = omega (arith, size);
    }

-- what a read gives of this file is one of its images
abbrev Stays : File → Type 0
Stays s = Leaves s.sure s.begun s.reads

cut_stays : (b : Bool) (n : ℕ) (s : File) → Stays s → Stays (if b then record { reads = take n s.reads; sure = s.sure; begun = cut n ∷ s.begun } else s)
cut_stays true n s left = (s.reads, left, inr refl)
cut_stays false n s left = left

torn_cut_stays : (b : Bool) (n : ℕ) (s : File) → Stays s → Stays (if b then record { reads = s.reads; sure = s.sure; begun = cut n ∷ s.begun } else s)
torn_cut_stays true n s left = (s.reads, left, inl refl)
torn_cut_stays false n s left = left

acted_stays : (act : Act) (s : File) → Stays s → Stays (acted act s)
acted_stays (Wrote at bytes) s left = (s.reads, left, torn_placed at bytes.items s.reads)
acted_stays (Tore at bytes) s left = (s.reads, left, torn_same at (length bytes.items) s.reads)
acted_stays (Cut n) s left = cut_stays (nat_lt n (length s.reads)) n s left
acted_stays (CutTorn n) s left = torn_cut_stays (nat_lt n (length s.reads)) n s left
acted_stays Synced s left = refl

each_stays : (file : ℕ) (g : File → File) (files : Three File) → ((s : File) → Stays s → Stays (g s)) → LeavesEach files (all_reads files) → LeavesEach (change file g files) (all_reads (change file g files))
each_stays zero g files stays left = record { zeroth = stays files.zeroth left.zeroth; first = left.first; second = left.second }
each_stays (suc zero) g files stays left = record { zeroth = left.zeroth; first = stays files.first left.first; second = left.second }
each_stays (suc (suc n)) g files stays left = record { zeroth = left.zeroth; first = left.first; second = stays files.second left.second }

replayed_stays : (files : Three File) (xs : List Change) → LeavesEach files (all_reads files) → LeavesEach (replayed files xs) (all_reads (replayed files xs))
unfolding replayed
replayed_stays files [] left = left
replayed_stays files (c ∷ xs) left = replayed_stays (change c.file (acted c.act) files) xs (each_stays c.file (acted c.act) files (acted_stays c.act) left)

pub told_remains : (texts : Three (List ℕ)) (xs : List Change) (read : Three Reads) → ReadsAreLeft (told_by texts xs read)
unfolding crash_by
told_remains texts xs read = replayed_stays (begin texts) xs (record { zeroth = refl; first = refl; second = refl })

over_from : (t : ℕ) (files : Three File) (past : List Past) (xs : List Change) → AreOver t past → AreBefore t xs → AreOver t (past_from files past xs)
unfolding past_from
over_from t files past [] over before = over
over_from t files past (c ∷ xs) over before = over_from t (change c.file (acted c.act) files) (record { ended = c.moment; files = files } ∷ past) xs (before.0, over) before.1

pub past_over : (t : ℕ) (texts : Three (List ℕ)) (xs : List Change) → AreBefore t xs → AreOver t (past_by texts xs)
past_over t texts xs before = over_from t (begin texts) [] xs tt before
