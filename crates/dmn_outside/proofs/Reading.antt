-- What a disk tells before and after reads.
use Rattle.std.proofs.Common.{◌≡◌, ℕ, ◌+◌, ◌≤◌, List, ap, subst, ◌∙◌, arith, Result, Ok, Err, IfOk, OnErr, Bool, true, false, nat_eq, if◌then◌else◌, zero, suc}
use Rattle.dmn_outside.specs.Changes.{OnlyReads, after_read, bytes_read, reads_more, unread}
use Rattle.dmn_outside.specs.Disk.{Told, nothing, contents, whole, IfReads, Three, File, Reads, all_reads, DiskView, pick, change}
use Rattle.dmn_outside.proofs.Crash.{files_or, read_unread}

abbrev contents_or : Three (List ℕ) → Told → Three (List ℕ)
contents_or d nothing = d
contents_or d (contents c) = c
contents_or d (whole w) = d

-- what reads give is as before
pub reads_back : (a b : Told) (P : Three (List ℕ) → Type 0) → unread b ≡ unread a → IfReads b P → IfReads a P
reads_back nothing b P same p = tt
reads_back (contents c) (contents d) P same p = let e : d ≡ c = ap (contents_or c) same in subst P e p
reads_back (contents c) nothing P same p = let wrong : ⊥ = cc in absurd wrong
reads_back (contents c) (whole v) P same p = let wrong : ⊥ = cc in absurd wrong
reads_back (whole w) (whole v) P same p = let e : v.files ≡ w.files = ap (files_or w.files) same in subst (λ (f : Three File). P (all_reads f)) e p
reads_back (whole w) nothing P same p = let wrong : ⊥ = cc in absurd wrong
reads_back (whole w) (contents d) P same p = let wrong : ⊥ = cc in absurd wrong

pub reads_both : (d : Told) (P Q R : Three (List ℕ) → Type 0) → IfReads d P → IfReads d Q → ((all : Three (List ℕ)) → P all → Q all → R all) → IfReads d R
reads_both nothing P Q R p q f = tt
reads_both (contents c) P Q R p q f = f c p q
reads_both (whole w) P Q R p q f = f (all_reads w.files) p q

pub reads_map : (d : Told) (P R : Three (List ℕ) → Type 0) → IfReads d P → ((all : Three (List ℕ)) → P all → R all) → IfReads d R
reads_map nothing P R p f = tt
reads_map (contents c) P R p f = f c p
reads_map (whole w) P R p f = f (all_reads w.files) p

pub only_reads : (file at n : ℕ) (old mid new : DiskView) → OnlyReads old mid → new.told ≡ after_read file at n mid.told → new.past ≡ mid.past → OnlyReads old new
only_reads file at n old mid new reads told past = record { told = ap unread told ∙ read_unread file at n mid.told ∙ reads.told; past = past ∙ reads.past }

pub no_read : (old mid new : DiskView) → OnlyReads old mid → new.told ≡ mid.told → new.past ≡ mid.past → OnlyReads old new
no_read old mid new reads told past = record { told = ap unread told ∙ reads.told; past = past ∙ reads.past }

pub reads_then : (old mid new : DiskView) → OnlyReads old mid → OnlyReads mid new → OnlyReads old new
reads_then old mid new one two = record { told = two.told ∙ one.told; past = two.past ∙ one.past }

pub read_any : {E : Type 0} (file at : ℕ) (r : Result ℕ E) (old new : DiskView) → IfOk r (λ n. new.told ≡ after_read file at n old.told) → OnErr r (new.told ≡ old.told) → new.past ≡ old.past → OnlyReads old new
read_any file at (Ok n) old new told failed past = record { told = ap unread told ∙ read_unread file at n old.told; past = past }
read_any file at (Err e) old new told failed past = record { told = ap unread failed; past = past }

-- ---- how many bytes were read

more_or_none : (b : Bool) (n : ℕ) (r more : Reads) → more.bytes ≤ r.bytes + n → (if b then r else more).bytes ≤ r.bytes + n
more_or_none true n r more is = omega arith
more_or_none false n r more is = omega (arith, is)

more_read : (at n : ℕ) (r : Reads) → (reads_more at n r).bytes ≤ r.bytes + n
more_read at n r = more_or_none (nat_eq n 0) n r _ (omega arith)

pick_read : (file at n : ℕ) (read : Three Reads) → (pick file (change file (reads_more at n) read)).bytes ≤ (pick file read).bytes + n
pick_read zero at n read = more_read at n read.zeroth
pick_read (suc zero) at n read = more_read at n read.first
pick_read (suc (suc file)) at n read = more_read at n read.second

pub count_read : (file at n : ℕ) (d : Told) → bytes_read file (after_read file at n d) ≤ bytes_read file d + n
unfolding bytes_read after_read
count_read file at n nothing = omega arith
count_read file at n (contents c) = omega arith
count_read file at n (whole w) = pick_read file at n w.read

pub count_any : {E : Type 0} (file at most : ℕ) (r : Result ℕ E) (old new : Told) → IfOk r (λ n. new ≡ after_read file at n old) → OnErr r (new ≡ old) → IfOk r (λ n. n ≤ most) → bytes_read file new ≤ bytes_read file old + most
count_any file at most (Ok n) old new told failed few = let e : bytes_read file new ≡ bytes_read file (after_read file at n old) = ap (λ (d : Told). bytes_read file d) told in omega (arith, e, few, count_read file at n old)
count_any file at most (Err e) old new told failed few = let same : bytes_read file new ≡ bytes_read file old = ap (λ (d : Told). bytes_read file d) failed in omega (arith, same)
