-- The answer to List, and its length.
use Rattle.std.proofs.Common.{◌≡◌, ℕ, ◌+◌, ◌*◌, ◌<◌, true, List, [], ◌∷◌, ◌++◌, length, take, get_or, refl, sym, ap, ◌∙◌, arith}
use Rattle.std.specs.Prelude.{Option, None, Some, ◌&&◌, nat_le}
use Rattle.std.specs.Int.{w32, to_le_bytes}
use Rattle.std.specs.List.{flat_map}
use Rattle.std.proofs.lemmas.List.{append-nil, length-append, take_more}
use Rattle.std.proofs.lemmas.List.Concat.{flat_map-append, flat_map-cons}
use Rattle.dmn_block.specs.State.{State}
use Rattle.dmn_bytes.specs.declared.hash.Hash256.{Hash256}
use Rattle.dmn_branch.proofs.Stepping.{simple_seen}
use Rattle.dmn_branch.specs.Asked.{Lends, Lent, told}
use Rattle.dmn_branch.specs.declared.tip.Tip.{Tip}
use Rattle.dmn_branch.specs.Machine.{MachineState, state_at}
use Rattle.dmn_sml.specs.declared.entry.SmlEntry.{SmlEntry}
use Rattle.dmn_sml.specs.Defs.{simple}
use Rattle.dmn_sml.specs.Entry.{entry}
use Rattle.dmn_sml.specs.Page.{HasLengths}
use Rattle.dmn_sml.proofs.Pages.{entry_length}
use Rattle.dmn_desk.specs.declared.answer.Answer.TheVariants.{Grown}
use Rattle.dmn_desk.specs.declared.answer.GrownAnswer.TheVariants as grown
use Rattle.dmn_desk.specs.Ask.{list_at, list_of, of_state}
use Rattle.dmn_desk.specs.Framed.{list_body}
use Rattle.dmn_frames.specs.Frames.{framed}
use Rattle.dmn_desk.proofs.Heights.{told_held}

-- one text more
pub texts_more : {V : Type 0} (text : V → List ℕ) (vs : List V) (i : ℕ) (d : V) → i < length vs → length (flat_map text (take (i + 1) vs)) ≡ length (flat_map text (take i vs)) + length (text (get_or vs i d))
texts_more text vs i d lt =
    let v = get_or vs i d in
    let one : flat_map text (v ∷ []) ≡ text v = flat_map-cons text v [] ∙ append-nil (text v) in
    let whole : flat_map text (take (i + 1) vs) ≡ flat_map text (take i vs) ++ text v = ap (flat_map text) (take_more vs i d lt) ∙ flat_map-append text (take i vs) (v ∷ []) ∙ ap (λ (t : List ℕ). flat_map text (take i vs) ++ t) one in
    ap length whole ∙ length-append (flat_map text (take i vs)) (text v)

-- one entry more
pub length_more : (entries : List SmlEntry) (i : ℕ) (d : SmlEntry) → i < length entries → HasLengths (get_or entries i d) → length (flat_map entry.text (take i entries)) ≡ 151 * i → length (flat_map entry.text (take (i + 1) entries)) ≡ 151 * (i + 1)
length_more entries i d lt has so = omega (arith, texts_more entry.text entries i d lt, entry_length (get_or entries i d) has, so)

-- a list's body: 4, 32, 32, 4, and its entries
pub body_length : (height : ℕ) (hash root : Hash256) (entries : List SmlEntry) → length hash.0 ≡ 32 → length root.0 ≡ 32 → length (flat_map entry.text entries) ≡ 151 * length entries
    → length (list_body height hash root entries) ≡ 72 + 151 * length entries
unfolding list_body
body_length height hash root entries h r e =
    let count = to_le_bytes w32 (length entries) in
    omega (
      arith,
      h,
      r,
      e,
      length-append (to_le_bytes w32 height ++ hash.0 ++ root.0 ++ count) (flat_map entry.text entries),
      length-append (to_le_bytes w32 height ++ hash.0 ++ root.0) count,
      length-append (to_le_bytes w32 height ++ hash.0) root.0,
      length-append (to_le_bytes w32 height) hash.0,
    )

-- a frame whose length is known before its body is sent
pub list_framed : (n height : ℕ) (hash root : Hash256) (entries : List SmlEntry) → length (list_body height hash root entries) ≡ n
    → (0 ∷ []) ++ (to_le_bytes w32 n ++ (to_le_bytes w32 height ++ hash.0 ++ root.0 ++ to_le_bytes w32 (length entries) ++ flat_map entry.text entries)) ≡ framed 0 (list_body height hash root entries)
unfolding framed list_body
list_framed n height hash root entries is = ap (λ (k : ℕ). 0 ∷ (to_le_bytes w32 k ++ (to_le_bytes w32 height ++ hash.0 ++ root.0 ++ to_le_bytes w32 (length entries) ++ flat_map entry.text entries))) (sym is)

-- ---- by a branch

listed : (m : MachineState) (height : ℕ) (lent : Lent) (found : Option State) → Lends lent found → Grown (grown.List height lent.hash lent.root (simple lent.rows)) ≡ of_state m (list_of height) found
listed m height lent None lends = absurd lends
listed m height lent (Some state) lends =
    let same : simple lent.rows ≡ simple state.rows = sym (simple_seen state.height lent.rows) ∙ ap simple lends.rows in
    rw (lends.hash, lends.root, same) refl

pub lists : (m : MachineState) (tip : Tip) (height : ℕ) (lent : Lent) (entries : List SmlEntry) → tip ≡ told m → true ≡ (nat_le tip.low height && nat_le height tip.height) → Lends lent (state_at m height) → entries ≡ simple lent.rows
    → Grown (grown.List height lent.hash lent.root entries) ≡ list_at m height
lists m tip height lent entries is held lends made =
    ap (λ (l : List SmlEntry). Grown (grown.List height lent.hash lent.root l)) made ∙ listed m height lent (state_at m height) lends ∙ sym (told_held m tip height (list_of height) is held)
