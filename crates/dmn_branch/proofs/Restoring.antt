-- A branch that is made of what a snapshot holds keeps what branches keep, and stands for the machine that was held.
use Rattle.std.proofs.Common.{◌≡◌, ℕ, zero, suc, ◌+◌, ◌<◌, false, List, [], ◌∷◌, length, get_or, drop, map, Option, Some, IsSome, refl, sym, ap, ◌∙◌, subst, arith}
use Rattle.std.specs.List.{All, AllByRecursion}
use Rattle.dmn_block.specs.State.{State}
use Rattle.dmn_bytes.specs.Points.{is_zero}
use Rattle.dmn_held.specs.declared.data.HeightData.{HeightData}
use Rattle.dmn_held.specs.declared.data.SnapshotData.{SnapshotData}
use Rattle.dmn_indexes.specs.declared.indexes.Indexes.{Indexes}
use Rattle.dmn_indexes.specs.declared.version.Version.{Version}
use Rattle.dmn_indexes.specs.Marks.{IsBelow}
use Rattle.dmn_indexes.specs.Version as versions
use Rattle.dmn_indexes.specs.Version.{outputs_in, rows_in}
use Rattle.dmn_restore.specs.declared.making.Marked.{Marked}
use Rattle.dmn_restore.specs.Lists.{lists_behind, lists_of, lowest_list, next_list}
use Rattle.dmn_restore.specs.Proper.{AreProper, IsProper}
use Rattle.dmn_restore.specs.Restored as restored
use Rattle.dmn_restore.specs.Restored.{list_in, listing_in}
use Rattle.dmn_restore.proofs.Rising.{version_outputs, version_rows}
use Rattle.dmn_rows.specs.declared.profile.Profile.{Profile}
use Rattle.dmn_rows.specs.Listing.{Listing}
use Rattle.dmn_rows.specs.Rows.{plain_rows}
use Rattle.dmn_sml.specs.Defs.{root_of, simple}
use Rattle.dmn_held.specs.declared.coinbase.CoinbasePart.{CoinbasePart}
use Rattle.dmn_branch.specs.declared.held.Held.{Held}
use Rattle.dmn_branch.specs.Coinbases.{TellsRoot, coinbase_of, root_in}
use Rattle.dmn_branch.specs.Holds.{AllGive, Gives, Reading, lowest, next_reading, readings, readings_behind}
use Rattle.dmn_branch.specs.Stands.{AllStand, AreSound, IsWhole, StandsAt, kept_in, lists_in}
use Rattle.dmn_branch.specs.Taking.{AreMadeOf, Head, IsMadeOf, IsSoundHead, head_of, heads}
use Rattle.dmn_branch.proofs.History.{IsAt, StatesFrom}
use Rattle.dmn_branch.proofs.Holding.{some_is}
use Rattle.dmn_branch.proofs.Taking.{no_made}

-- ---- what is held of each height is sound

all_cons : {X : Type 0} (P : X → Type 0) (x : X) (xs : List X) → P x → All P xs → All P (x ∷ xs)
all_cons P x xs one all zero d lt = one
all_cons P x xs one all (suc k) d lt = all k d (omega (arith, lt))

pub made_long : (hs : List Head) (versions : List Marked) (held : List Held) → AreMadeOf hs versions held → length held ≡ length versions
made_long [] [] [] made = refl
made_long (h ∷ hs) (v ∷ versions) (d ∷ held) made = ap suc (made_long hs versions held made.1)
made_long [] [] (d ∷ held) made = absurd made
made_long [] (v ∷ versions) held made = absurd made
made_long (h ∷ hs) [] held made = absurd made
made_long (h ∷ hs) (v ∷ versions) [] made = absurd made

record SameAs (made : Marked) (held : Held) : Type 0 where
  version : held.version ≡ made.version
  marks : held.marks ≡ made.marks

same_at : (hs : List Head) (versions : List Marked) (held : List Held) (k : ℕ) (d : Held) → AreMadeOf hs versions held → k < length held → SameAs (get_or versions k no_made) (get_or held k d)
same_at [] [] [] k d made lt = absurd (omega (arith, lt))
same_at (h ∷ hs) (v ∷ versions) (x ∷ held) zero d made lt = record { version = made.0.version; marks = made.0.marks }
same_at (h ∷ hs) (v ∷ versions) (x ∷ held) (suc k) d made lt = same_at hs versions held k d made.1 (omega (arith, lt))
same_at [] [] (x ∷ held) k d made lt = absurd made
same_at [] (v ∷ versions) held k d made lt = absurd made
same_at (h ∷ hs) [] held k d made lt = absurd made
same_at (h ∷ hs) (v ∷ versions) [] k d made lt = absurd made

whole_by : (ix : Indexes) (height : ℕ) (h : Held) (v : Version) → h.version ≡ v → is_zero h.hash.0 ≡ false → versions.IsWhole ix v → IsProper height (listing_in ix v) → IsWhole (kept_in ix height h)
whole_by ix height h v is hash whole proper =
    let back = sym is in
    record {
      hash = hash;
      keys = (subst (λ (x : Version). IsProper height (listing_in ix x)) back proper).keys;
      rows = version_rows ix h.version (subst (versions.IsWhole ix) back whole);
      outputs = version_outputs ix h.version (subst (versions.IsWhole ix) back whole);
      penalties = (subst (λ (x : Version). IsProper height (listing_in ix x)) back proper).penalties;
      masternodes = (subst (λ (x : Version). IsProper height (listing_in ix x)) back proper).masternodes;
      collaterals = (subst (λ (x : Version). IsProper height (listing_in ix x)) back proper).collaterals;
    }

wholes_all : (ix : Indexes) (height : ℕ) (hs : List Head) (vs : List Marked) (held : List Held) → AreMadeOf hs vs held → All (λ (made : Marked). versions.IsWhole ix made.version) vs → AreProper height (map (list_in ix) vs) → All IsWhole (lists_in ix height held)
wholes_all ix height [] [] [] made whole proper = λ k d lt. absurd (omega (arith, lt))
wholes_all ix height (h ∷ hs) (v ∷ vs) (x ∷ held) made whole proper =
    all_cons IsWhole (kept_in ix height x) (lists_in ix (suc height) held)
    (whole_by ix height x v.version made.0.version made.0.some (whole 0 no_made (omega arith)) proper.0)
    (wholes_all ix (suc height) hs vs held made.1 (λ k d lt. whole (suc k) d (omega (arith, lt))) proper.1)
wholes_all ix height [] [] (d ∷ held) made whole proper = absurd made
wholes_all ix height [] (v ∷ vs) held made whole proper = absurd made
wholes_all ix height (h ∷ hs) [] held made whole proper = absurd made
wholes_all ix height (h ∷ hs) (v ∷ vs) [] made whole proper = absurd made

pub sound_made : (ix : Indexes) (low : ℕ) (hs : List Head) (list : List Marked) (held : List Held) → AreMadeOf hs list held → restored.AreSound ix list → AreProper low (map (list_in ix) list) → AreSound ix low held
sound_made ix low hs list held made sound proper =
    let long = made_long hs list held made in
    record {
      versions = λ k d lt. subst (versions.IsWhole ix) (sym (same_at hs list held k d made lt).version) (sound.whole k no_made (omega (arith, lt, long)));
      below = λ i j d le lt.
          let here = same_at hs list held i d made (omega (arith, le, lt)) in
          let there = same_at hs list held j d made lt in
          subst (λ (marks : List ℕ). IsBelow marks (get_or held i d).version) (sym there.marks)
          (subst (IsBelow (get_or list j no_made).marks) (sym here.version) (sound.below i j no_made le (omega (arith, lt, long))));
      wholes = wholes_all ix low hs list held made sound.whole proper;
    }

-- ---- what is read of each height

abbrev pub head_in : Reading → Head
head_in reading = record { hash = reading.hash; coinbase = reading.coinbase }

abbrev pub list_read : Reading → Listing
list_read reading = reading.list

heads_behind : (height : ℕ) (before : Reading) (heights : List HeightData) → map head_in (readings_behind height before heights) ≡ map head_of heights
heads_behind height before [] = refl
heads_behind height before (d ∷ heights) = ap (λ (l : List Head). head_of d ∷ l) (heads_behind (suc height) (next_reading (suc height) before d) heights)

pub heads_read : (held : SnapshotData) → map head_in (readings held) ≡ heads held
heads_read held = ap (λ (l : List Head). head_in (lowest held) ∷ l) (heads_behind held.low (lowest held) held.heights)

read_behind : (height : ℕ) (before : Reading) (heights : List HeightData) → map list_read (readings_behind height before heights) ≡ lists_behind before.list heights
read_behind height before [] = refl
read_behind height before (d ∷ heights) = ap (λ (l : List Listing). next_list before.list d ∷ l) (read_behind (suc height) (next_reading (suc height) before d) heights)

pub lists_read : (held : SnapshotData) → map list_read (readings held) ≡ lists_of held
lists_read held = ap (λ (l : List Listing). lowest_list held ∷ l) (read_behind held.low (lowest held) held.heights)

long_behind : (height : ℕ) (before : Reading) (heights : List HeightData) → length (readings_behind height before heights) ≡ length heights
long_behind height before [] = refl
long_behind height before (d ∷ heights) = ap suc (long_behind (suc height) (next_reading (suc height) before d) heights)

pub readings_long : (held : SnapshotData) → length (readings held) ≡ length held.heights + 1
readings_long held = omega (arith, long_behind held.low (lowest held) held.heights)

pub gives_long : (profile : Profile) (read : List Reading) (states : List State) → AllGive profile read states → length read ≡ length states
gives_long profile [] [] all = refl
gives_long profile (r ∷ read) (s ∷ states) all = ap suc (gives_long profile read states all.1)
gives_long profile [] (s ∷ states) all = absurd all
gives_long profile (r ∷ read) [] all = absurd all

pub sound_heads : (profile : Profile) (read : List Reading) (states : List State) → AllGive profile read states → AllByRecursion TellsRoot states → AllByRecursion (λ (r : Reading). is_zero r.hash.0 ≡ false) read → AllByRecursion IsSoundHead (map head_in read)
sound_heads profile [] [] all roots hashes = tt
sound_heads profile (r ∷ read) (s ∷ states) all roots hashes = (record { hash = hashes.0; root = subst IsSome (sym (ap root_in (gives_coinbase all.0) ∙ roots.0)) refl }, sound_heads profile read states all.1 roots.1 hashes.1)
  where
    gives_coinbase : Gives profile r s → r.coinbase ≡ coinbase_of s
    gives_coinbase g = g.coinbase
sound_heads profile [] (s ∷ states) all roots hashes = absurd all
sound_heads profile (r ∷ read) [] all roots hashes = absurd all

-- ---- the lists of a branch stand for the states

stands_one : (profile : Profile) (ix : Indexes) (height : ℕ) (r : Reading) (v : Marked) (h : Held) (s : State) → Gives profile r s → IsMadeOf (head_in r) v h → list_in ix v ≡ r.list → IsAt height s → IsWhole (kept_in ix height h) → StandsAt (kept_in ix height h) s
stands_one profile ix height r v h s gives made list at whole =
    let rows : rows_in ix h.version ≡ r.list.rows = ap (rows_in ix) made.version ∙ ap (λ (l : Listing). l.rows) list in
    let outputs : outputs_in ix h.version ≡ r.list.outputs = ap (outputs_in ix) made.version ∙ ap (λ (l : Listing). l.outputs) list in
    let told : root_in (coinbase_of s) ≡ Some h.root = ap root_in (sym (made.coinbase ∙ gives.coinbase)) ∙ made.root in
    record {
      height = sym at.height;
      hash = made.hash ∙ gives.hash;
      root = some_is (root_in (coinbase_of s)) h.root (root_of (simple s.rows)) told at.root;
      rows = ap (plain_rows s.height) rows ∙ gives.rows;
      outputs = outputs ∙ gives.outputs;
      whole = whole;
    }

pub stands_all : (profile : Profile) (ix : Indexes) (height : ℕ) (read : List Reading) (list : List Marked) (held : List Held) (states : List State) → AllGive profile read states → AreMadeOf (map head_in read) list held → map (list_in ix) list ≡ map list_read read → StatesFrom height states → All IsWhole (lists_in ix height held) → AllStand (lists_in ix height held) states
stands_all profile ix height [] [] [] [] all made lists from whole = tt
stands_all profile ix height (r ∷ read) (v ∷ list) (h ∷ held) (s ∷ states) all made lists from whole =
    let first : list_in ix v ≡ r.list = ap (λ (l : List Listing). get_or l 0 r.list) lists in
    let rest : map (list_in ix) list ≡ map list_read read = ap (drop 1) lists in
    (stands_one profile ix height r v h s all.0 made.0 first from.0 (whole 0 (kept_in ix height h) (omega arith)), stands_all profile ix (suc height) read list held states all.1 made.1 rest from.1 (λ k d lt. whole (suc k) d (omega (arith, lt))))
stands_all profile ix height [] [] (h ∷ held) states all made lists from whole = absurd made
stands_all profile ix height [] (v ∷ list) held states all made lists from whole = absurd made
stands_all profile ix height (r ∷ read) [] held states all made lists from whole = absurd made
stands_all profile ix height (r ∷ read) (v ∷ list) [] states all made lists from whole = absurd made
stands_all profile ix height [] [] [] (s ∷ states) all made lists from whole = absurd all
stands_all profile ix height (r ∷ read) (v ∷ list) (h ∷ held) [] all made lists from whole = absurd all

pub coinbases_all : (profile : Profile) (read : List Reading) (list : List Marked) (held : List Held) (states : List State) → AllGive profile read states → AreMadeOf (map head_in read) list held → map (λ (h : Held). h.coinbase) held ≡ map coinbase_of states
coinbases_all profile [] [] [] [] all made = refl
coinbases_all profile (r ∷ read) (v ∷ list) (h ∷ held) (s ∷ states) all made =
    ap (λ (o : Option CoinbasePart). o ∷ map (λ (h : Held). h.coinbase) held) (one all.0 made.0)
    ∙ ap (λ (l : List (Option CoinbasePart)). coinbase_of s ∷ l) (coinbases_all profile read list held states all.1 made.1)
  where
    one : Gives profile r s → IsMadeOf (head_in r) v h → h.coinbase ≡ coinbase_of s
    one gives is = is.coinbase ∙ gives.coinbase
coinbases_all profile [] [] (h ∷ held) states all made = absurd made
coinbases_all profile [] (v ∷ list) held states all made = absurd made
coinbases_all profile (r ∷ read) [] held states all made = absurd made
coinbases_all profile (r ∷ read) (v ∷ list) [] states all made = absurd made
coinbases_all profile [] [] [] (s ∷ states) all made = absurd all
coinbases_all profile (r ∷ read) (v ∷ list) (h ∷ held) [] all made = absurd all
