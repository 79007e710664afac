-- Scripts: 20 bytes between a front and a back.
use Rattle.std.proofs.Common.{◌≡◌, ◌≢◌, ℕ, ◌+◌, ◌-◌, false, true, Bool, List, [], ◌∷◌, ◌++◌, length, take, drop, refl, sym, ap, ◌∙◌, append_assoc, length-append, length-drop, ◌<◌, arith}
use Rattle.std.specs.Prelude.{None, replicate}
use Rattle.std.specs.Str.{bytes_eq}
use Rattle.std.proofs.lemmas.Bool.Decides.{Decides-eqb}
use Rattle.std.proofs.lemmas.Slice.Eq.{strip_prefix_is, strip_suffix_is, bytes_eq-Decides}
use Rattle.std.proofs.lemmas.List.{take_at, drop_at, length-take}
use Rattle.dmn_payloads.specs.Scripts.{p2pkh, p2sh, pay_of}

abbrev behind_front : (s front hash back : List ℕ) → s ≡ front ++ hash ++ back → drop (length front) s ≡ hash ++ back
behind_front s front hash back e = ap (drop (length front)) (e ∙ append_assoc front hash back) ∙ drop_at front (hash ++ back) (length front) refl

pub no_front : (s front back : List ℕ) → bytes_eq (take (length front) s) front ≡ false → (hash : List ℕ) → length hash ≡ 20 → s ≢ front ++ hash ++ back
no_front s front back other hash len e = strip_prefix_is Decides-eqb s front None other (hash ++ back) (e ∙ append_assoc front hash back)

pub no_back : (s front back rest : List ℕ) → rest ≡ drop (length front) s → bytes_eq (drop (length rest - length back) rest) back ≡ false → (hash : List ℕ) → length hash ≡ 20 → s ≢ front ++ hash ++ back
no_back s front back rest is other hash len e = strip_suffix_is Decides-eqb rest back None other hash (is ∙ behind_front s front hash back e)

pub no_length : (s front back rest found : List ℕ) → rest ≡ drop (length front) s → rest ≡ found ++ back → length found ≢ 20 → (hash : List ℕ) → length hash ≡ 20 → s ≢ front ++ hash ++ back
no_length s front back rest found is parts other hash len e =
    other (omega (arith, len, length-append found back, length-append hash back, ap (λ (x : List ℕ). length x) (sym parts ∙ is ∙ behind_front s front hash back e)))

pub between : (s front back rest found : List ℕ) → s ≡ front ++ rest → rest ≡ found ++ back → s ≡ front ++ found ++ back
between s front back rest found e parts = e ∙ ap (λ (x : List ℕ). front ++ x) parts ∙ sym (append_assoc front found back)

-- ---- what a script pays to

taken : (s front hash back : List ℕ) → s ≡ front ++ hash ++ back → length hash ≡ 20 → take 20 (drop (length front) s) ≡ hash
taken s front hash back e len = ap (take 20) (behind_front s front hash back e) ∙ take_at hash back 20 len

decided : (b : Bool) → (b ≡ true → ⊥) → b ≡ false
decided true h = absurd (h refl)
decided false h = refl

-- where what stands in the script's place makes the script, it has 20 bytes
no_other : (s front back : List ℕ) → 0 < length back → ((hash : List ℕ) → length hash ≡ 20 → s ≢ front ++ hash ++ back) → bytes_eq s (front ++ take 20 (drop (length front) s) ++ back) ≡ false
no_other s front back some other =
    let hash : List ℕ = take 20 (drop (length front) s) in
    decided _ (λ is.
    let e : s ≡ front ++ hash ++ back = (bytes_eq-Decides s (front ++ hash ++ back)).0 is in
    let size : length s ≡ length front + length hash + length back = ap (λ (x : List ℕ). length x) e ∙ length-append (front ++ hash) back ∙ ap (λ (k : ℕ). k + length back) (length-append front hash) in
    other hash (omega (arith, size, some, length-take 20 (drop (length front) s), length-drop (length front) s)) e)

pub pays_key : (s hash : List ℕ) → length hash ≡ 20 → s ≡ p2pkh hash → pay_of s ≡ record { kind = 1; hash = hash }
unfolding pay_of
pays_key s hash len e =
    let key : take 20 (drop 3 s) ≡ hash = taken s (0x76 ∷ 0xa9 ∷ 0x14 ∷ []) hash (0x88 ∷ 0xac ∷ []) e len in
    rw (key, (bytes_eq-Decides s (p2pkh hash)).1 e) refl

pub pays_script : (s hash : List ℕ) → ((key : List ℕ) → length key ≡ 20 → s ≢ p2pkh key) → length hash ≡ 20 → s ≡ p2sh hash → pay_of s ≡ record { kind = 2; hash = hash }
unfolding pay_of
pays_script s hash other len e =
    let found : take 20 (drop 2 s) ≡ hash = taken s (0xa9 ∷ 0x14 ∷ []) hash (0x87 ∷ []) e len in
    rw (no_other s (0x76 ∷ 0xa9 ∷ 0x14 ∷ []) (0x88 ∷ 0xac ∷ []) (omega arith) other, found, (bytes_eq-Decides s (p2sh hash)).1 e) refl

pub pays_other : (s : List ℕ) → ((key : List ℕ) → length key ≡ 20 → s ≢ p2pkh key) → ((hash : List ℕ) → length hash ≡ 20 → s ≢ p2sh hash) → pay_of s ≡ record { kind = 0; hash = replicate 20 0 }
unfolding pay_of
pays_other s no_key no_script =
    rw (no_other s (0x76 ∷ 0xa9 ∷ 0x14 ∷ []) (0x88 ∷ 0xac ∷ []) (omega arith) no_key, no_other s (0xa9 ∷ 0x14 ∷ []) (0x87 ∷ []) (omega arith) no_script) refl
