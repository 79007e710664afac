-- What a crash leaves in each of the two parts of an append.
use Rattle.std.proofs.Common.{◌≡◌, inl, inr, ℕ, ◌+◌, ◌≤◌, List, [], ◌∷◌, ◌++◌, length, drop, get_or, refl, sym, ◌∙◌, ap, subst, arith, append_assoc, length-append}
use Rattle.std.proofs.lemmas.List.{append-nil}
use Rattle.std.proofs.lemmas.Bool.{cases_eq}
use Rattle.dmn_outside.specs.Changes.{after, moved, placed, file_synced, after_write, after_sync}
use Rattle.dmn_outside.specs.Crashes.{LeavesOnly}
use Rattle.dmn_outside.specs.Disk.{Three, File, Told, DiskView, nothing, contents, whole, Torn, Leaves, MayLeave}
use Rattle.dmn_outside.proofs.Crash.{joins, widened}
use Rattle.dmn_outside.proofs.Places.{torn_behind, placed_behind, torn_byte, placed_byte}
use Rattle.dmn_journal.specs.Journal.{Entry, entry_text, IsShort, AreShort, blocks, HasCommands, IsBeforeOrAfter, gate_place, Stands, OthersLeft, Appending}

pub blocks_push : (commands : List Entry) (entry : Entry) → blocks (commands ++ entry ∷ []) ≡ blocks commands ++ 1 ∷ entry_text entry
blocks_push [] entry = ap (λ (l : List ℕ). 1 ∷ l) (append-nil (entry_text entry))
blocks_push (e ∷ commands) entry = ap (λ (l : List ℕ). 1 ∷ (entry_text e ++ l)) (blocks_push commands entry) ∙ ap (λ (l : List ℕ). 1 ∷ l) (sym (append_assoc (entry_text e) (blocks commands) (1 ∷ entry_text entry)))

all_push : (commands : List Entry) (entry : Entry) → AreShort commands → IsShort entry → AreShort (commands ++ entry ∷ [])
all_push [] entry all fits = (fits, tt)
all_push (e ∷ commands) entry all fits = (all.0, all_push commands entry all.1 fits)

-- file 0 with the record behind the closed gate, synced, and its closed gate at this place
pub record Staged (header : List ℕ) (commands : List Entry) (entry : Entry) (file : List ℕ) : Type 0 where
  pub gate : ℕ
  pub behind : List ℕ
  pub short : AreShort commands
  pub is : file ≡ (header ++ blocks commands) ++ gate ∷ (entry_text entry ++ 0 ∷ behind)

module _ (header : List ℕ) (commands : List Entry) (entry : Entry) (fits : IsShort entry) where
  abbrev front : List ℕ
  front = header ++ blocks commands

  opened : (behind : List ℕ) → front ++ 1 ∷ (entry_text entry ++ 0 ∷ behind) ≡ (header ++ blocks (commands ++ entry ∷ [])) ++ 0 ∷ behind
  opened behind =
      sym (append_assoc front (1 ∷ entry_text entry) (0 ∷ behind))
      ∙ ap (λ (l : List ℕ). l ++ 0 ∷ behind) (append_assoc header (blocks commands) (1 ∷ entry_text entry) ∙ ap (λ (l : List ℕ). header ++ l) (sym (blocks_push commands entry)))

  -- any byte in the gate's place
  any_gate : (gate : ℕ) (behind file : List ℕ) → AreShort commands → file ≡ front ++ gate ∷ (entry_text entry ++ 0 ∷ behind) → IsBeforeOrAfter header commands entry file
  any_gate gate behind file short is = elim (cases_eq gate 1) [
    | inl open_gate ↦ inr (record { gate = 0; rest = behind; shut = omega arith; short = all_push commands entry short fits; is = is ∙ ap (λ (n : ℕ). front ++ n ∷ (entry_text entry ++ 0 ∷ behind)) open_gate ∙ opened behind })
    | inr shut ↦ inl (record { gate = gate; rest = entry_text entry ++ 0 ∷ behind; shut = shut; short = short; is = is })
  ]

  module _ (end : ℕ) (place : end ≡ gate_place header commands) where
    gate_front : (gate : ℕ) → length (front ++ gate ∷ []) ≡ end + 1
    gate_front gate = omega (arith, place, length-append front (gate ∷ []))

    -- the closed gate stands in each outcome of the first write
    pub torn_record : (n : ℕ) (file image : List ℕ) → HasCommands header commands file → Torn (end + 1) n file image → HasCommands header commands image
    torn_record n file image has torn =
        let split : file ≡ (front ++ has.gate ∷ []) ++ has.rest = has.is ∙ sym (append_assoc front (has.gate ∷ []) has.rest) in
        let torn_at = subst (λ (f : List ℕ). Torn (end + 1) n f image) split torn in
        record {
          gate = has.gate;
          rest = drop (end + 1) image;
          shut = has.shut;
          short = has.short;
          is = torn_behind (front ++ has.gate ∷ []) (end + 1) (gate_front has.gate) has.rest image n torn_at ∙ append_assoc front (has.gate ∷ []) (drop (end + 1) image);
        }

    pub placed_record : (text file : List ℕ) → text ≡ entry_text entry ++ 0 ∷ [] → HasCommands header commands file → Staged header commands entry (placed (end + 1) text file)
    placed_record text file is_text has =
        let split : file ≡ (front ++ has.gate ∷ []) ++ has.rest = has.is ∙ sym (append_assoc front (has.gate ∷ []) has.rest) in
        let behind = drop (length text) has.rest in
        record {
          gate = has.gate;
          behind = behind;
          short = has.short;
          is = ap (λ (f : List ℕ). placed (end + 1) text f) split ∙ placed_behind (front ++ has.gate ∷ []) (end + 1) (gate_front has.gate) text has.rest
              ∙ append_assoc front (has.gate ∷ []) (text ++ behind)
              ∙ ap (λ (l : List ℕ). front ++ has.gate ∷ (l ++ behind)) is_text
              ∙ ap (λ (l : List ℕ). front ++ has.gate ∷ l) (append_assoc (entry_text entry) (0 ∷ []) behind);
        }

    -- the record stands whole in each outcome of the second write
    pub torn_gate : (file image : List ℕ) → Staged header commands entry file → Torn end 1 file image → IsBeforeOrAfter header commands entry image
    torn_gate file image staged torn =
        let torn_at = subst (λ (f : List ℕ). Torn end 1 f image) staged.is torn in
        any_gate (get_or image end 0) staged.behind image staged.short (torn_byte front end (sym place) staged.gate (entry_text entry ++ 0 ∷ staged.behind) image torn_at)

    pub placed_gate : (file : List ℕ) → Staged header commands entry file → HasCommands header (commands ++ entry ∷ []) (placed end (1 ∷ []) file)
    placed_gate file staged = record {
      gate = 0;
      rest = staged.behind;
      shut = omega arith;
      short = all_push commands entry staged.short fits;
      is = ap (λ (f : List ℕ). placed end (1 ∷ []) f) staged.is ∙ placed_byte front end (sym place) 1 staged.gate (entry_text entry ++ 0 ∷ staged.behind) ∙ opened staged.behind;
    }

    pub next_place : (text : List ℕ) → text ≡ entry_text entry ++ 0 ∷ [] → end + length text ≡ gate_place header (commands ++ entry ∷ [])
    next_place text is_text =
        let long : length text ≡ length (entry_text entry) + 1 = ap length is_text ∙ length-append (entry_text entry) (0 ∷ []) in
        let all : length (header ++ blocks (commands ++ entry ∷ [])) ≡ length header + length (blocks commands ++ 1 ∷ entry_text entry) = length-append header (blocks (commands ++ entry ∷ [])) ∙ ap (λ (l : List ℕ). length header + length l) (blocks_push commands entry) in
        omega (arith, long, all, place, length-append header (blocks commands), length-append (blocks commands) (1 ∷ entry_text entry))

settled_only : (f : File) → f ≡ file_synced f → (c : List ℕ) → Leaves f.sure f.begun c → c ≡ f.reads
settled_only f settled c left = subst (λ (s : File). Leaves s.sure s.begun c) {y = file_synced f} settled left

pub others_back : (f : List ℕ → List ℕ) (g : File → File) (d : Told) (image : Three (List ℕ)) → OthersLeft (after 0 f g d) image → OthersLeft d image
unfolding after moved
others_back f g nothing image left = left
others_back f g (contents c) image left = left
others_back f g (whole w) image left = left

pub others_now : (f : List ℕ → List ℕ) (g : File → File) (d : Told) (image : Three (List ℕ)) → MayLeave (after 0 f g d) image → OthersLeft d image
unfolding after moved
others_now f g nothing image now = absurd now
others_now f g (contents c) image now = absurd now
others_now f g (whole w) image now = (now.first, now.second)

others_here : (d : Told) (image : Three (List ℕ)) → MayLeave d image → OthersLeft d image
others_here nothing image now = absurd now
others_here (contents c) image now = absurd now
others_here (whole w) image now = (now.first, now.second)

-- As far as it is told, the record stands behind the closed gate, and nothing of file 0 is pending.
abbrev pub IsStaged : List ℕ → List Entry → Entry → ℕ → Told → Type 0
IsStaged header commands entry end nothing = Unit {0}
IsStaged header commands entry end (contents c) = Staged header commands entry c.zeroth × (end ≡ gate_place header commands)
IsStaged header commands entry end (whole w) = Staged header commands entry w.files.zeroth.reads × (end ≡ gate_place header commands) × (w.files.zeroth ≡ file_synced w.files.zeroth)

module _ (header : List ℕ) (commands : List Entry) (entry : Entry) (end : ℕ) (text : List ℕ) (fits : IsShort entry) (is_text : text ≡ entry_text entry ++ 0 ∷ []) where
  pub first_images : (d : Told) (image : Three (List ℕ)) → Stands header commands end d → MayLeave (after_write 0 (end + 1) text d) image → Appending header commands entry d image
  unfolding after moved
  first_images nothing image stands now = absurd now
  first_images (contents c) image stands now = absurd now
  first_images (whole w) image stands now =
      let was = settled_only w.files.zeroth stands.2 now.zeroth.0 now.zeroth.1 in
      let torn = subst (λ (f : List ℕ). Torn (end + 1) (length text) f image.zeroth) {y = w.files.zeroth.reads} was now.zeroth.2 in
      record { entries = inl (torn_record header commands entry fits end stands.1 (length text) w.files.zeroth.reads image.zeroth stands.0 torn); rest = (now.first, now.second) }

  pub here_images : (d : Told) (image : Three (List ℕ)) → Stands header commands end d → MayLeave d image → Appending header commands entry d image
  here_images nothing image stands now = absurd now
  here_images (contents c) image stands now = absurd now
  here_images (whole w) image stands now = record {
    entries = inl (subst (HasCommands header commands) (sym (settled_only w.files.zeroth stands.2 image.zeroth now.zeroth)) stands.0);
    rest = (now.first, now.second);
  }

  pub stage_done : (d : Told) → Stands header commands end d → IsStaged header commands entry end (after_sync 0 (after_write 0 (end + 1) text d))
  unfolding after moved
  stage_done nothing stands = tt
  stage_done (contents c) stands = (placed_record header commands entry fits end stands.1 text c.zeroth is_text stands.0, stands.1)
  stage_done (whole w) stands = (placed_record header commands entry fits end stands.1 text w.files.zeroth.reads is_text stands.0, stands.1, refl)

  pub second_images : (d : Told) (image : Three (List ℕ)) → IsStaged header commands entry end d → MayLeave (after_write 0 end (1 ∷ []) d) image → IsBeforeOrAfter header commands entry image.zeroth
  unfolding after moved
  second_images nothing image staged now = absurd now
  second_images (contents c) image staged now = absurd now
  second_images (whole w) image staged now =
      let was = settled_only w.files.zeroth staged.2 now.zeroth.0 now.zeroth.1 in
      let torn = subst (λ (f : List ℕ). Torn end 1 f image.zeroth) {y = w.files.zeroth.reads} was now.zeroth.2 in
      torn_gate header commands entry fits end staged.1 w.files.zeroth.reads image.zeroth staged.0 torn

  pub second_done : (d : Told) → IsStaged header commands entry end d → Stands header (commands ++ entry ∷ []) (end + length text) (after_sync 0 (after_write 0 end (1 ∷ []) d))
  unfolding after moved
  second_done nothing staged = tt
  second_done (contents c) staged = (placed_gate header commands entry fits end staged.1 c.zeroth staged.0, next_place header commands entry fits end staged.1 text is_text)
  second_done (whole w) staged = (placed_gate header commands entry fits end staged.1 w.files.zeroth.reads staged.0, next_place header commands entry fits end staged.1 text is_text, refl)

  -- the first part as far as it came
  pub first_part : (start : ℕ) (old new : DiskView) → Stands header commands end old.told → LeavesOnly start old new (MayLeave (after_write 0 (end + 1) text old.told)) → LeavesOnly start old new (Appending header commands entry old.told)
  first_part start old new stands run = widened start old new _ _ run (λ image now. first_images old.told image stands now)

  -- and the second
  pub second_part : (start later : ℕ) (old mid new : DiskView) → Stands header commands end old.told → LeavesOnly start old mid (MayLeave (after_write 0 (end + 1) text old.told)) → mid.told ≡ after_sync 0 (after_write 0 (end + 1) text old.told)
      → start ≤ later → LeavesOnly later mid new (MayLeave (after_write 0 end (1 ∷ []) mid.told)) → LeavesOnly start old new (Appending header commands entry old.told)
  second_part start later old mid new stands first done le second = joins start old mid new _ (first_part start old mid stands first) later _ le second (λ image now. record {
    entries = second_images mid.told image (subst (IsStaged header commands entry end) (sym done) (stage_done old.told stands)) now;
    rest = others_back _ _ old.told image (others_back _ _ (after_write 0 (end + 1) text old.told) image (subst (λ (d : Told). OthersLeft d image) done (others_now _ _ mid.told image now)));
  })

  pub both_parts : (old mid new : Told) (next : ℕ) → Stands header commands end old → mid ≡ after_sync 0 (after_write 0 (end + 1) text old) → new ≡ after_sync 0 (after_write 0 end (1 ∷ []) mid) → next ≡ end + length text
      → Stands header (commands ++ entry ∷ []) next new
  both_parts old mid new next stands done opened is =
      let there = second_done mid (subst (IsStaged header commands entry end) (sym done) (stage_done old stands)) in
      subst (λ (d : Told). Stands header (commands ++ entry ∷ []) next d) (sym opened) (subst (λ (n : ℕ). Stands header (commands ++ entry ∷ []) n (after_sync 0 (after_write 0 end (1 ∷ []) mid))) (sym is) there)

-- At rest, each image has the commands.
pub stands_images : (header : List ℕ) (commands : List Entry) (end : ℕ) (d : Told) (image : Three (List ℕ)) → Stands header commands end d → MayLeave d image → HasCommands header commands image.zeroth
stands_images header commands end nothing image stands now = absurd now
stands_images header commands end (contents c) image stands now = absurd now
stands_images header commands end (whole w) image stands now = subst (HasCommands header commands) (sym (settled_only w.files.zeroth stands.2 image.zeroth now.zeroth)) stands.0
