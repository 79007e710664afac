-- What a client's calls answer is what is defined, or Memory; and the places in its faults fit their fields.
use Rattle.std.proofs.Common.{◌≡◌, ℕ, ◌<◌, ◌≤◌, Bool, true, false, cond, List, [], ◌∷◌, length, take, refl, sym, ap, subst, ◌∙◌, inl, inr, arith}
use Rattle.std.specs.Prelude.{⊤, Option, None, Some, Result, Ok, Err, ◌||◌}
use Rattle.std.proofs.lemmas.Bool.{lt-ltb}
use Rattle.dmn_bytes.specs.declared.fault.Departure.{Departure}
use Rattle.dmn_bytes.specs.declared.hash.Hash256.{Hash256}
use Rattle.dmn_bytes.specs.Format.{whole}
use Rattle.dmn_bytes.specs.Law.{IsBytes, place_of}
use Rattle.dmn_bytes.specs.Points.{is_zero}
use Rattle.dmn_bytes.specs.Sound.{whole_again, whole_within}
use Rattle.dmn_client.specs.declared.client.Applied.{Applied}
use Rattle.dmn_client.specs.declared.fault.ClientFault.{ClientFault}
use Rattle.dmn_client.specs.declared.fault.ClientFault.TheVariants as faults
use Rattle.dmn_client.specs.declared.headers.Header.{Header}
use Rattle.dmn_client.specs.Coinbase.{committed_of}
use Rattle.dmn_client.specs.Headers.{header_root, header_stage, header_step}
use Rattle.dmn_client.specs.Step.{Adds, Applies, ClientState, base_stage, client_step, coinbase_stage, next_list, proof_stage, proves, read_stage, root_stage}
use Rattle.dmn_frames.specs.declared.limits.TheConstants.{LONGEST_BODY}
use Rattle.dmn_frames.specs.declared.reading.Reading.TheVariants.{Nothing}
use Rattle.dmn_frames.specs.Reading.{kept_of}
use Rattle.dmn_diff.specs.declared.diff.Diff.{Diff}
use Rattle.dmn_diff.specs.Diff.{diff, diff_sound}
use Rattle.dmn_rows.specs.Rows.{same_hash}
use Rattle.dmn_sml.specs.Defs.{root_of}
use Rattle.dmn_light.specs.declared.answer.Answer.TheVariants.{Added, Holds, Refused}
use Rattle.dmn_light.specs.declared.header.HeaderBody.{HeaderBody}
use Rattle.dmn_light.specs.declared.kind.Kind.{Kind}
use Rattle.dmn_light.specs.declared.kind.Kind.TheVariants as kinds
use Rattle.dmn_light.specs.Answers.{IsBounded}
use Rattle.dmn_light.specs.Ask.{added, answer_of, answered, applied, asked_header, asked_kind, shown}
use Rattle.dmn_light.specs.Header.{header_body, header_body_sound, root_in}
use Rattle.dmn_light.specs.Kinds.{kind_of, reading_of}
use Rattle.dmn_light.specs.Serving.{OrLack}
use Rattle.dmn_light.specs.Steps.{Decides}

-- ---- headers

pub header_added : (old new : ClientState) (hash root : Hash256) → Adds old hash root new (Ok tt) → OrLack (added old (header_step old.headers hash root)) old Added new
header_added old new hash root is =
    let same : record old { headers = new.headers } ≡ new = rw (sym is.1, sym is.2) refl in
    inl (ap (added old) is.0 ∙ ap (λ (n : ClientState). (Added, n)) same)

not_added : (old new : ClientState) (hash root : Hash256) (fault : ClientFault) → (header_step old.headers hash root ≡ Err fault) × (new ≡ old) → OrLack (added old (header_step old.headers hash root)) old (Refused fault) new
not_added old new hash root fault is = inl (ap (added old) is.0 ∙ ap (λ (n : ClientState). (Refused fault, n)) (sym is.1))

pub header_refused : (old new : ClientState) (hash root : Hash256) (fault : ClientFault) → Adds old hash root new (Err fault) → OrLack (added old (header_step old.headers hash root)) old (Refused fault) new
header_refused old new hash root faults.Memory is = inr (refl, is)
header_refused old new hash root (faults.DiffForm at) is = not_added old new hash root (faults.DiffForm at) is
header_refused old new hash root (faults.WrongBase held) is = not_added old new hash root (faults.WrongBase held) is
header_refused old new hash root faults.UnknownHeader is = not_added old new hash root faults.UnknownHeader is
header_refused old new hash root faults.BadBranch is = not_added old new hash root faults.BadBranch is
header_refused old new hash root faults.BadCoinbase is = not_added old new hash root faults.BadCoinbase is
header_refused old new hash root (faults.BadRoot committed computed) is = not_added old new hash root (faults.BadRoot committed computed) is
header_refused old new hash root (faults.HeaderDiffers held) is = not_added old new hash root (faults.HeaderDiffers held) is
header_refused old new hash root faults.HeadersFull is = not_added old new hash root faults.HeadersFull is

-- by the body of a header's frame
read_is : (text : List ℕ) (body : HeaderBody) → header_body.Fits body × (text ≡ header_body.text body) → whole header_body text ≡ Ok body
read_is text body found = ap (whole header_body) found.1 ∙ whole_again header_body header_body_sound body found.0

pub body_added : (old new : ClientState) (text : List ℕ) (body : HeaderBody) (root : Hash256) (done : ⊤) → header_body.Fits body × (text ≡ header_body.text body) → root ≡ root_in body.header → Adds old body.hash root new (Ok done)
    → OrLack (asked_header old (whole header_body text)) old Added new
body_added old new text body root done found is adds =
    let added : OrLack (asked_header old (Ok body)) old Added new = header_added old new body.hash (root_in body.header) (subst (λ (r : Hash256). Adds old body.hash r new (Ok done)) is adds) in
    subst (λ (r : Result HeaderBody Departure). OrLack (asked_header old r) old Added new) (sym (read_is text body found)) added

pub body_refused : (old new : ClientState) (text : List ℕ) (body : HeaderBody) (root : Hash256) (fault : ClientFault) → header_body.Fits body × (text ≡ header_body.text body) → root ≡ root_in body.header → Adds old body.hash root new (Err fault)
    → OrLack (asked_header old (whole header_body text)) old (Refused fault) new
body_refused old new text body root fault found is adds =
    let refused : OrLack (asked_header old (Ok body)) old (Refused fault) new = header_refused old new body.hash (root_in body.header) fault (subst (λ (r : Hash256). Adds old body.hash r new (Err fault)) is adds) in
    subst (λ (r : Result HeaderBody Departure). OrLack (asked_header old r) old (Refused fault) new) (sym (read_is text body found)) refused

-- ---- diffs

pub diff_applied : (old new : ClientState) (text : List ℕ) (said : Applied) → Applies old text new (Ok said) → OrLack (applied old (client_step old text)) old (Holds said) new
diff_applied old new text said is = inl (ap (applied old) is.0 ∙ ap (λ (a : Applied). (Holds a, new)) (sym is.1))

not_applied : (old new : ClientState) (text : List ℕ) (fault : ClientFault) → (client_step old text ≡ Err fault) × (new ≡ old) → OrLack (applied old (client_step old text)) old (Refused fault) new
not_applied old new text fault is = inl (ap (applied old) is.0 ∙ ap (λ (n : ClientState). (Refused fault, n)) (sym is.1))

pub diff_refused : (old new : ClientState) (text : List ℕ) (fault : ClientFault) → Applies old text new (Err fault) → OrLack (applied old (client_step old text)) old (Refused fault) new
diff_refused old new text faults.Memory is = inr (refl, is)
diff_refused old new text (faults.DiffForm at) is = not_applied old new text (faults.DiffForm at) is
diff_refused old new text (faults.WrongBase held) is = not_applied old new text (faults.WrongBase held) is
diff_refused old new text faults.UnknownHeader is = not_applied old new text faults.UnknownHeader is
diff_refused old new text faults.BadBranch is = not_applied old new text faults.BadBranch is
diff_refused old new text faults.BadCoinbase is = not_applied old new text faults.BadCoinbase is
diff_refused old new text (faults.BadRoot committed computed) is = not_applied old new text (faults.BadRoot committed computed) is
diff_refused old new text (faults.HeaderDiffers held) is = not_applied old new text (faults.HeaderDiffers held) is
diff_refused old new text faults.HeadersFull is = not_applied old new text faults.HeadersFull is

-- ---- places

abbrev fault_in : {A : Type 0} → Result A ClientFault → ClientFault
fault_in (Ok x) = faults.BadBranch
fault_in (Err fault) = fault

abbrev Forms : {A : Type 0} → Result A ClientFault → ℕ → Type 0
Forms r at = r ≡ Err (faults.DiffForm at)

either_forms : {A : Type 0} (b : Bool) {x y : Result A ClientFault} {at : ℕ} → Forms (cond b x y) at → (Forms x at → ⊥) → (Forms y at → ⊥) → ⊥
either_forms true e p q = p e
either_forms false e p q = q e

held_forms : {A : Type 0} (b : Bool) (x : A) (fault : ClientFault) (at : ℕ) → (fault ≡ faults.DiffForm at → ⊥) → Forms (cond b (Ok x) (Err fault)) at → ⊥
held_forms true x fault at other e = cc (e)
held_forms false x fault at other e = other (ap fault_in e)

full_forms : {A : Type 0} (b : Bool) (x : A) (fault : ClientFault) (at : ℕ) → (fault ≡ faults.DiffForm at → ⊥) → Forms (cond b (Err fault) (Ok x)) at → ⊥
full_forms true x fault at other e = other (ap fault_in e)
full_forms false x fault at other e = cc (e)

differs_form : (held : Hash256) (at : ℕ) → faults.HeaderDiffers held ≡ faults.DiffForm at → ⊥
differs_form held at e = cc (e)

headers_full_form : (at : ℕ) → faults.HeadersFull ≡ faults.DiffForm at → ⊥
headers_full_form at e = cc (e)

bad_root_form : (committed computed : Hash256) (at : ℕ) → faults.BadRoot committed computed ≡ faults.DiffForm at → ⊥
bad_root_form committed computed at e = cc (e)

bad_branch_form : (at : ℕ) → faults.BadBranch ≡ faults.DiffForm at → ⊥
bad_branch_form at e = cc (e)

wrong_base_form : (held : Hash256) (at : ℕ) → faults.WrongBase held ≡ faults.DiffForm at → ⊥
wrong_base_form held at e = cc (e)

header_forms : (headers : List Header) (hash root : Hash256) (found : Option Hash256) (at : ℕ) → Forms (header_stage headers hash root found) at → ⊥
header_forms headers hash root (Some held) at e = held_forms _ _ (faults.HeaderDiffers held) at (differs_form held at) e
header_forms headers hash root None at e = full_forms _ _ faults.HeadersFull at (headers_full_form at) e

root_forms : (c : ClientState) (d : Diff) (committed : Hash256) (at : ℕ) → Forms (root_stage c d committed) at → ⊥
unfolding root_stage
root_forms c d committed at e = held_forms _ _ (faults.BadRoot committed (root_of (next_list c.list d))) at (bad_root_form committed (root_of (next_list c.list d)) at) e

coinbase_forms : (c : ClientState) (d : Diff) (told : Option Hash256) (at : ℕ) → Forms (coinbase_stage c d told) at → ⊥
unfolding coinbase_stage
coinbase_forms c d None at e = cc (e)
coinbase_forms c d (Some committed) at e = root_forms c d committed at e

proof_forms : (c : ClientState) (d : Diff) (root : Option Hash256) (at : ℕ) → Forms (proof_stage c d root) at → ⊥
unfolding proof_stage
proof_forms c d None at e = cc (e)
proof_forms c d (Some root) at e = either_forms (proves d root) e (coinbase_forms c d (committed_of d.coinbase) at) (λ f. bad_branch_form at (ap fault_in f))

base_forms : (c : ClientState) (d : Diff) (at : ℕ) → Forms (base_stage c d) at → ⊥
unfolding base_stage
base_forms c d at e = either_forms (is_zero d.base.0 || same_hash d.base c.held) e (proof_forms c d (header_root d.block c.headers) at) (λ f. wrong_base_form c.held at (ap fault_in f))

read_forms : (c : ClientState) (text : List ℕ) (read : Result Diff Departure) (at : ℕ) → IsBytes text → whole diff text ≡ read → Forms (read_stage c read) at → at ≤ length text
unfolding read_stage
read_forms c text (Ok d) at bytes is e = absurd (base_forms c d at e)
read_forms c text (Err d) at bytes is e =
    let same : place_of d ≡ at = cc (e) in
    omega (arith, whole_within diff diff_sound text d bytes is, same)

step_forms : (c : ClientState) (text : List ℕ) (at : ℕ) → IsBytes text → Forms (client_step c text) at → at ≤ length text
unfolding client_step
step_forms c text at bytes e = read_forms c text (whole diff text) at bytes refl e

pub header_bounded : (old new : ClientState) (hash root : Hash256) (fault : ClientFault) → Adds old hash root new (Err fault) → IsBounded (Refused fault)
header_bounded old new hash root (faults.DiffForm at) is = absurd (header_forms old.headers hash root (header_root hash old.headers) at is.0)
header_bounded old new hash root faults.Memory is = tt
header_bounded old new hash root (faults.WrongBase held) is = tt
header_bounded old new hash root faults.UnknownHeader is = tt
header_bounded old new hash root faults.BadBranch is = tt
header_bounded old new hash root faults.BadCoinbase is = tt
header_bounded old new hash root (faults.BadRoot committed computed) is = tt
header_bounded old new hash root (faults.HeaderDiffers held) is = tt
header_bounded old new hash root faults.HeadersFull is = tt

pub diff_bounded : (old new : ClientState) (text : List ℕ) (fault : ClientFault) → IsBytes text → length text ≤ LONGEST_BODY → Applies old text new (Err fault) → IsBounded (Refused fault)
diff_bounded old new text (faults.DiffForm at) bytes few is = omega (arith, step_forms old text at bytes is.0, few)
diff_bounded old new text faults.Memory bytes few is = tt
diff_bounded old new text (faults.WrongBase held) bytes few is = tt
diff_bounded old new text faults.UnknownHeader bytes few is = tt
diff_bounded old new text faults.BadBranch bytes few is = tt
diff_bounded old new text faults.BadCoinbase bytes few is = tt
diff_bounded old new text (faults.BadRoot committed computed) bytes few is = tt
diff_bounded old new text (faults.HeaderDiffers held) bytes few is = tt
diff_bounded old new text faults.HeadersFull bytes few is = tt

-- ---- how much of a body is read

shown_same : (c : ClientState) (body : List ℕ) → shown c body ≡ shown c (take 64 body)
shown_same c [] = refl
shown_same c (byte ∷ body) = refl

kind_same : (c : ClientState) (kind : Kind) (body : List ℕ) → asked_kind c (Some kind) body ≡ asked_kind c (Some kind) (kept_of (reading_of kind) body)
unfolding asked_kind
kind_same c kinds.Header body = refl
kind_same c kinds.Apply body = refl
kind_same c kinds.Show body = shown_same c body

none_same : (c : ClientState) (body kept : List ℕ) → asked_kind c None body ≡ asked_kind c None kept
unfolding asked_kind
none_same c body kept = refl

by_size : (c : ClientState) (kind size : ℕ) (body kept : List ℕ) → length body ≡ size → answered c kind size body ≡ answered c kind size kept → answer_of c kind body ≡ answered c kind size kept
by_size c kind size body kept is same = ap (λ (n : ℕ). answered c kind n body) is ∙ same

pub decides_long : (kind size : ℕ) → LONGEST_BODY < size → Decides Nothing kind size
unfolding answered
decides_long kind size long c body is = by_size c kind size body [] is (rw (lt-ltb LONGEST_BODY size long) refl)

pub decides_unknown : (kind size : ℕ) → kind_of kind ≡ None → Decides Nothing kind size
unfolding answered
decides_unknown kind size unknown c body is = by_size c kind size body [] is (rw (unknown, none_same c body []) refl)

pub decides_known : (kind size : ℕ) (k : Kind) → kind_of kind ≡ Some k → Decides (reading_of k) kind size
unfolding answered
decides_known kind size k known c body is = by_size c kind size body (kept_of (reading_of k) body) is (rw (known, kind_same c k body) refl)
