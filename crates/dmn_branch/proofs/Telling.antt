-- What a snapshot holds of a branch, height by height.
use Rattle.std.proofs.Common.{◌≡◌, ℕ, zero, suc, ◌+◌, ◌<◌, ◌≤◌, List, [], ◌∷◌, ◌++◌, length, get_or, take, drop, Option, Some, refl, sym, ap, subst, arith}
use Rattle.std.specs.Prelude.{slice_get}
use Rattle.std.specs.List.{All}
use Rattle.dmn_held.specs.declared.data.HeightData.{HeightData}
use Rattle.dmn_held.specs.Coinbase.{coinbase_part, part_if}
use Rattle.dmn_held.specs.Snapshot.{snapshot}
use Rattle.dmn_held.specs.declared.data.SnapshotData.{SnapshotData}
use Rattle.std.proofs.lemmas.List.Elements.{recursion_from_All}
use Rattle.dmn_held.specs.Height.{height_data}
use Rattle.dmn_held.specs.Lists.{commitments_field, mined_field, rows_field, hashes_field, outputs_field, points_field}
use Rattle.dmn_bytes.specs.Format.{hash}
use Rattle.dmn_indexes.specs.declared.indexes.Indexes.{Indexes}
use Rattle.dmn_payloads.specs.declared.mined.MinedAt.{MinedAt}
use Rattle.dmn_rows.specs.declared.profile.QuorumParams.{QuorumParams}
use Rattle.dmn_branch.specs.declared.held.Held.{Held}
use Rattle.dmn_branch.specs.Telling.{AreChanges, IsChange, IsTellable}
use Rattle.dmn_branch.proofs.Holding.{last_is}

change_more : (ix : Indexes) (quorums : List (Option QuorumParams)) (height : ℕ) (mined : List MinedAt) (before : Held) (rest : List Held) (place : ℕ) (changes : List HeightData) (d : HeightData) (x : Held) → place < length rest → AreChanges ix quorums height mined before (take place rest) changes
    → IsChange ix quorums (get_or (before ∷ rest) place x) (get_or rest place x) (suc (height + place)) mined d → AreChanges ix quorums height mined before (take (suc place) rest) (changes ++ d ∷ [])
change_more ix quorums height mined before [] place changes d x lt all is = absurd (omega (arith, lt))
change_more ix quorums height mined before (y ∷ rest) zero [] d x lt all is = let same : suc (height + zero) ≡ suc height = omega arith in (subst (λ (n : ℕ). IsChange ix quorums before y n mined d) same is, tt)
change_more ix quorums height mined before (y ∷ rest) zero (c ∷ changes) d x lt all is = absurd all
change_more ix quorums height mined before (y ∷ rest) (suc place) [] d x lt all is = absurd all
change_more ix quorums height mined before (y ∷ rest) (suc place) (c ∷ changes) d x lt all is =
    let same : suc (height + suc place) ≡ suc (suc height + place) = omega arith in
    (all.0, change_more ix quorums (suc height) mined y rest place changes d x (omega (arith, lt)) all.1 (subst (λ (n : ℕ). IsChange ix quorums (get_or (y ∷ rest) place x) (get_or rest place x) n mined d) same is))

pub changes_step : (ix : Indexes) (quorums : List (Option QuorumParams)) (low : ℕ) (mined : List MinedAt) (held : List Held) (place height : ℕ) (b a x : Held) (changes : List HeightData) (d : HeightData) → place + 1 < length held → height ≡ low + place → slice_get held place ≡ Some b → slice_get held (place + 1) ≡ Some a
    → AreChanges ix quorums low mined (get_or held 0 x) (take place (drop 1 held)) changes → IsChange ix quorums b a (height + 1) mined d → AreChanges ix quorums low mined (get_or held 0 x) (take (place + 1) (drop 1 held)) (changes ++ d ∷ [])
changes_step ix quorums low mined [] place height b a x changes d lt at one two all is = absurd (omega (arith, lt))
changes_step ix quorums low mined (h ∷ rest) place height b a x changes d lt at one two all is =
    let up : suc place ≡ place + 1 = omega arith in
    let same : height + 1 ≡ suc (low + place) = omega (arith, at) in
    let first : get_or (h ∷ rest) place b ≡ b = last_is (h ∷ rest) place b b one in
    let next : get_or rest place b ≡ a = last_is (h ∷ rest) (suc place) a b (subst (λ (n : ℕ). slice_get (h ∷ rest) n ≡ Some a) (sym up) two) in
    subst (λ (n : ℕ). AreChanges ix quorums low mined h (take n rest) (changes ++ d ∷ [])) up
    (change_more ix quorums low mined h rest place changes d b (omega (arith, lt)) all
    (subst (λ (y : Held). IsChange ix quorums y (get_or rest place b) (suc (low + place)) mined d) (sym first)
    (subst (λ (y : Held). IsChange ix quorums b y (suc (low + place)) mined d) (sym next)
    (subst (λ (n : ℕ). IsChange ix quorums b a n mined d) same is))))

pub tellable_at : (ix : Indexes) (held : List Held) (place : ℕ) (h : Held) → All (IsTellable ix) held → place < length held → slice_get held place ≡ Some h → IsTellable ix h
tellable_at ix held place h all lt is = subst (IsTellable ix) (last_is held place h h is) (all place h lt)

pub height_by : (d : HeightData) → length d.hash.0 ≡ 32 → coinbase_part.Fits d.coinbase → rows_field.Fits d.put → hashes_field.Fits d.removed → outputs_field.Fits d.added → points_field.Fits d.spent → commitments_field.Fits d.mined → height_data.Fits d
unfolding height_data
height_by d hash coinbase put removed added spent mined = (hash, (coinbase, (put, (removed, (added, (spent, mined))))))

take_more : {X : Type 0} (n : ℕ) (xs : List X) → length xs ≤ n → take n xs ≡ xs
take_more zero [] few = refl
take_more zero (x ∷ xs) few = absurd (omega (arith, few))
take_more (suc n) [] few = refl
take_more (suc n) (x ∷ xs) few = ap (λ (l : List _). x ∷ l) (take_more n xs (omega (arith, few)))

pub rest_taken : (held : List Held) (n : ℕ) → length held ≤ n + 1 → take n (drop 1 held) ≡ drop 1 held
rest_taken [] n few = take_more n [] (omega arith)
rest_taken (h ∷ held) n few = take_more n held (omega (arith, few))

pub snapshot_by : (d : SnapshotData) → d.top < 4294967296 → d.low < 4294967296 → length d.low_hash.0 ≡ 32 → rows_field.Fits d.rows → outputs_field.Fits d.outputs → mined_field.Fits d.active → part_if.Fits d.coinbase → All height_data.Fits d.heights → snapshot.Fits d
unfolding snapshot
snapshot_by d top low hash rows outputs active coinbase heights = (top, (low, (hash, (rows, (outputs, (active, (coinbase, recursion_from_All height_data.Fits d.heights heights)))))))
