-- The list after an accepted diff is the block's, or a collision or a digest of zeros is among what was hashed.
use Rattle.std.proofs.Common.{◌≡◌, ℕ, zero, suc, List, [], ◌∷◌, ◌++◌, map, true, false, cond, Some, refl, sym, ap, subst, ◌∙◌, inl, inr, arith}
use Rattle.std.proofs.Math.Logic.{◌⊎◌, ⊎_elim}
use Rattle.std.specs.List.{Contains, AllByRecursion}
use Rattle.std.specs.declared.cmp.Ordering.TheVariants.{Less}
use Rattle.std.proofs.lemmas.List.Elements.{Contains-append_left, Contains-append_right, Contains-append_cases}
use Rattle.dmn_bytes.specs.declared.hash.Hash256.{Hash256}
use Rattle.dmn_bytes.specs.Format.{counted}
use Rattle.dmn_bytes.specs.Points.{hash_cmp, is_zero, service}
use Rattle.dmn_bytes.specs.Sound.{text_is_one}
use Rattle.dmn_merkle.specs.BranchText.{branching}
use Rattle.dmn_client.specs.Collision.{Collision, ZeroText, digest, HasHashLength, FirstIsLong, FirstOrFound, IsFirst, AllLength, Repeats, SameOrFound}
use Rattle.dmn_merkle.specs.Defs.{merkle_root}
use Rattle.dmn_client.proofs.Meet.{among}
use Rattle.dmn_client.proofs.First.{sound_of}
use Rattle.dmn_client.proofs.Lists as lists
use Rattle.dmn_rows.specs.Keys.{same_hash-from}
use Rattle.dmn_rows.specs.Sorted.{IsAbove}
use Rattle.dmn_rows.proofs.Sorted.{differs_above}
use Rattle.dmn_sml.specs.declared.entry.SmlEntry.{SmlEntry}
use Rattle.dmn_sml.specs.Defs.{IsAscending, has_hash, leaf, root_of}
use Rattle.dmn_sml.specs.Entry.{entry, entry_sound, fields}
use Rattle.dmn_sml.specs.Keys.{entry_key}
use Rattle.dmn_sml.specs.Page.{HasLengths}
use Rattle.dmn_sml.proofs.Pages.{entry_length}
use Rattle.dmn_tx.specs.declared.tx.Tx.{Tx}
use Rattle.dmn_tx.specs.Defs.{id_of, tx_text}
use Rattle.dmn_tx.specs.Tx.{tx, tx_sound}
use Rattle.dmn_diff.specs.Defs.{IsDiff}
use Rattle.dmn_diff.specs.Diff.{diff, hash_of}
use Rattle.dmn_diff.specs.declared.diff.Diff.{Diff}
use Rattle.dmn_diff.proofs.Steps.{put_ascends}
use Rattle.dmn_client.specs.Headers.{header_root}
use Rattle.dmn_client.specs.Coinbase.{committed_of}
use Rattle.dmn_client.specs.Step.{ClientState, EntriesFit, base_list}
use Rattle.dmn_client.specs.Sound.{root_of_txs, told_by, HasList, hashed_of_entries, hashed_of_diff, hashed_of_block, all_hashed, IsSoundStep}
use Rattle.dmn_client.proofs.Fits.{next_fits}
use Rattle.dmn_client.proofs.Long.{told_long}
use Rattle.dmn_client.proofs.Accepted.{Accepted, AcceptedText, accepted}

-- ---- entries and their texts

-- one text, one entry
one_entry : (a b : SmlEntry) → entry.Fits a → entry.Fits b → entry.text a ≡ entry.text b → a ≡ b
one_entry a b fa fb e = (text_is_one entry entry_sound a b [] [] fa fb (ap (λ (t : List ℕ). t ++ []) e)).0

lengths : (e : SmlEntry) → entry.Fits e → HasLengths e
unfolding entry fields service
lengths e fits = record { hash = fits.0; confirmed = fits.1.0; address = fits.1.1.0.0; operator = fits.1.1.1.0; voting = fits.1.1.1.1.0 }

all_151 : (list : List SmlEntry) → EntriesFit list → AllLength 151 (map entry.text list)
all_151 [] all = tt
all_151 (e ∷ list) all = (entry_length e (lengths e all.0), all_151 list all.1)

leaves : (list : List SmlEntry) → map leaf list ≡ map (λ t. digest t) (map entry.text list)
unfolding leaf
leaves [] = refl
leaves (e ∷ list) = ap (λ (hs : List Hash256). digest (entry.text e) ∷ hs) (leaves list)

same_texts : (xs ys : List SmlEntry) → EntriesFit xs → EntriesFit ys → map entry.text xs ≡ map entry.text ys → xs ≡ ys
same_texts [] [] p q e = refl
same_texts [] (y ∷ ys) p q e = absurd cc
same_texts (x ∷ xs) [] p q e = absurd cc
same_texts (x ∷ xs) (y ∷ ys) p q e =
    let head : entry.text x ≡ entry.text y = cc in
    let tail : map entry.text xs ≡ map entry.text ys = cc in
    let first : x ≡ y = one_entry x y p.0 q.0 head in
    let rest : xs ≡ ys = same_texts xs ys p.1 q.1 tail in
    cc

-- no entry is below itself
not_itself : (a b : SmlEntry) → hash_cmp a.hash b.hash ≡ Less → a ≡ b → ⊥
not_itself a b less e =
    let no : has_hash a.hash b ≡ false = differs_above hash_cmp hash_of has_hash entry_key a.hash b less in
    let yes : has_hash a.hash b ≡ true = same_hash-from b.hash a.hash (ap hash_of (sym e)) in
    absurd cc

none_again : (e : SmlEntry) (list : List SmlEntry) → entry.Fits e → EntriesFit list → IsAbove hash_cmp hash_of e.hash list → Contains (map entry.text list) (entry.text e) → ⊥
none_again e [] fits all above (k, lt, is) = omega arith
none_again e (x ∷ list) fits all above (zero, lt, is) = not_itself e x above.0 (one_entry e x fits all.0 (sym is))
none_again e (x ∷ list) fits all above (suc k, lt, is) = none_again e list fits all.1 above.1 (k, omega arith, is)

no_repeats : (list : List SmlEntry) → EntriesFit list → IsAscending list → Repeats (map entry.text list) → ⊥
no_repeats [] all asc r = r
no_repeats (e ∷ list) all asc (inl h) = none_again e list all.0 all.1 asc.0 h
no_repeats (e ∷ list) all asc (inr r) = no_repeats list all.1 asc.1 r

-- two lists of one root
one_list : (xs ys : List SmlEntry) → EntriesFit xs → EntriesFit ys → IsAscending xs → IsAscending ys → root_of xs ≡ root_of ys
    → SameOrFound (map entry.text xs) (map entry.text ys) (hashed_of_entries xs ++ hashed_of_entries ys)
one_list xs ys fx fy ax ay e =
    lists.sound_lists 151 (map entry.text xs) (map entry.text ys) (λ (h : 151 ≡ 64). (omega arith)) (all_151 xs fx) (all_151 ys fy) (no_repeats xs fx ax) (no_repeats ys fy ay)
    (sym (ap merkle_root (leaves xs)) ∙ (e ∙ ap merkle_root (leaves ys)))

-- ---- transactions and their texts

ids : (txs : List Tx) → map id_of txs ≡ map (λ t. digest t) (map tx_text txs)
ids [] = refl
ids (t ∷ txs) = ap (λ (hs : List Hash256). id_of t ∷ hs) (ids txs)

first_long : (txs : List Tx) (root : Hash256) → AllByRecursion tx.Fits txs → told_by txs ≡ Some root → FirstIsLong (map tx_text txs)
first_long [] root fit told = tt
first_long (t ∷ txs) root fit told = told_long t root fit.0 told

-- a coinbase with the first text tells the first root
first_tells : (t : Tx) (txs : List Tx) → tx.Fits t → AllByRecursion tx.Fits txs → IsFirst (tx_text t) (map tx_text txs) → committed_of t ≡ told_by txs
first_tells t [] fits all is = absurd is
first_tells t (u ∷ txs) fits all is = ap committed_of (text_is_one tx tx_sound t u [] [] fits all.0 (ap (λ (x : List ℕ). x ++ []) is)).0

hashes_fit : (d : Diff) → IsDiff d → AllByRecursion HasHashLength d.branch.hashes
unfolding diff branching counted
hashes_fit d fits = fits.1.1.0.1.0.1.1

coinbase_fits : (d : Diff) → IsDiff d → tx.Fits d.coinbase
unfolding diff
coinbase_fits d fits = fits.1.1.1.0

-- ---- what was found, among all that was hashed

abbrev Found : List (List ℕ) → Type 0
Found texts = Collision texts ⊎ ZeroText texts

abbrev Within : List (List ℕ) → List (List ℕ) → Type 0
Within few many = (t : List ℕ) → Contains few t → Contains many t

found_in : (few many : List (List ℕ)) → Within few many → Found few → Found many
found_in few many w (inl c) = inl (among few many w c)
found_in few many w (inr z) = inr (lists.zero_among few many w z)

-- of four parts, the middle two, and the outer two
middle : (a b c d : List (List ℕ)) → Within (b ++ c) ((a ++ b) ++ (c ++ d))
middle a b c d t h =
    ⊎_elim (λ (in_b : Contains b t). Contains-append_left (a ++ b) (c ++ d) t (Contains-append_right a b t in_b))
    (λ (in_c : Contains c t). Contains-append_right (a ++ b) (c ++ d) t (Contains-append_left c d t in_c)) (Contains-append_cases b c t h)

outer : (a b c d : List (List ℕ)) → Within (a ++ d) ((a ++ b) ++ (c ++ d))
outer a b c d t h =
    ⊎_elim (λ (in_a : Contains a t). Contains-append_left (a ++ b) (c ++ d) t (Contains-append_left a b t in_a))
    (λ (in_d : Contains d t). Contains-append_right (a ++ b) (c ++ d) t (Contains-append_right c d t in_d)) (Contains-append_cases a d t h)

-- ---- the law

by_lists : (xs ys : List SmlEntry) (d : Diff) (txs : List Tx) → EntriesFit xs → EntriesFit ys → SameOrFound (map entry.text xs) (map entry.text ys) (hashed_of_entries xs ++ hashed_of_entries ys)
    → (xs ≡ ys) ⊎ Found (all_hashed xs d txs ys)
by_lists xs ys d txs fx fy (inl e) = inl (same_texts xs ys fx fy e)
by_lists xs ys d txs fx fy (inr f) = inr (found_in _ _ (outer (hashed_of_entries xs) (hashed_of_diff d) (hashed_of_block txs) (hashed_of_entries ys)) f)

by_coinbase : (old new : ClientState) (d : Diff) (txs : List Tx) (list : List SmlEntry) → IsDiff d → Accepted old new d → EntriesFit new.list → IsAscending new.list → HasList txs list
    → FirstOrFound (tx_text d.coinbase) (map tx_text txs) (hashed_of_diff d ++ hashed_of_block txs) → (new.list ≡ list) ⊎ Found (all_hashed new.list d txs list)
by_coinbase old new d txs list is says fits asc has (inl first) =
    let told : Some says.committed ≡ Some (root_of list) = sym says.told ∙ (first_tells d.coinbase txs (coinbase_fits d is) has.txs_fit first ∙ has.tells) in
    let same : says.committed ≡ root_of list = cc in
    let roots : root_of new.list ≡ root_of list = ap root_of (sym says.list) ∙ (says.list_root ∙ same) in
    by_lists new.list list d txs fits has.entries_fit (one_list new.list list fits has.entries_fit asc has.ascends roots)
by_coinbase old new d txs list is says fits asc has (inr f) =
    inr (found_in _ _ (middle (hashed_of_entries new.list) (hashed_of_diff d) (hashed_of_block txs) (hashed_of_entries list)) f)

base_ascends : (list : List SmlEntry) (d : Diff) → IsAscending list → IsAscending (base_list list d)
base_ascends list d asc = elim (is_zero d.base.0) as (λ b. IsAscending (cond b [] list)) [ true ↦ tt | false ↦ asc ]

accepted_list : (old new : ClientState) (d : Diff) (txs : List Tx) (list : List SmlEntry) → IsDiff d → Accepted old new d → EntriesFit old.list → IsAscending old.list
    → header_root new.held old.headers ≡ Some (root_of_txs txs) → HasList txs list → (new.list ≡ list) ⊎ Found (all_hashed new.list d txs list)
accepted_list old new d txs list is says fits asc header has =
    let named : header_root d.block old.headers ≡ header_root new.held old.headers = ap (λ (h : Hash256). header_root h old.headers) says.held in
    let both : Some says.root ≡ Some (root_of_txs txs) = sym says.header ∙ (named ∙ header) in
    let root : says.root ≡ root_of_txs txs = cc in
    by_coinbase old new d txs list is says
    (subst (λ (l : List SmlEntry). EntriesFit l) says.list (next_fits old.list d is fits))
    (subst (λ (l : List SmlEntry). IsAscending l) says.list (put_ascends d.entries (base_list old.list d) d.deleted (base_ascends old.list d asc)))
    has
    (sound_of d.branch.total d.branch.hashes d.branch.flags says.root (tx_text d.coinbase) (map tx_text txs) says.proof (root ∙ ap merkle_root (ids txs))
    (told_long d.coinbase says.committed (coinbase_fits d is) says.told) (first_long txs (root_of list) has.txs_fit has.tells) (hashes_fit d is))

pub sound_step : (old new : ClientState) (text : List ℕ) (txs : List Tx) (list : List SmlEntry) → IsSoundStep old text new txs list
sound_step old new text txs list bytes fits asc step header has =
    let a : AcceptedText old new text = accepted old new text bytes step in
    (a.d, a.is, accepted_list old new a.d txs list a.is.0 a.says fits asc header has)
