-- The texts of JSON bodies.
use Rattle.std.proofs.Common.{◌≡◌, ℕ, suc, ◌/◌, ◌%◌, ◌<◌, true, false, Bool, List, [], ◌∷◌, ◌++◌, get_or, refl, ap, ◌∙◌, arith, append_assoc, codes, decimal, IfOk, Result, Some, None}
use Rattle.std.specs.List.{list_all}
use Rattle.std.proofs.lemmas.Result.{IfOk-weaker}
use Rattle.std.proofs.lemmas.List.Sums.{AllPass-from_list_all}
use Rattle.hex.specs.Hex.{encode_with, encode_lower, lower_digits}
use Rattle.serde_json.specs.Data.{Data, number, unsigned, null, string, array, object, member, no_members}
use Rattle.serde_json.specs.Written.{compact_text, has_float, items_have_float, items_text}
use Rattle.serde_json.proofs.OnLiterals.{serde_json_on_literals}
use Rattle.json.specs.Print.{escape}
use Rattle.dmn_bytes.specs.declared.fault.Memory.{Memory}
use Rattle.dmn_http.specs.Answered.{not_held_body, quoted_from, refused_body, too_deep_body}
use Rattle.dmn_http.specs.Steps.{AllPlain, hash_data, is_plain}
use Rattle.dmn_bytes.specs.declared.hash.Hash256.{Hash256}
use Rattle.serde_json.specs.View.{items_of}
use Rattle.std.specs.Prelude.{map}
use Rattle.dmn_http.proofs.Plainly.{escape_plain}

pub json_is : (r : Result (List ℕ) Memory) (d : Data) (text : List ℕ) → has_float d ≡ false → compact_text d ≡ text → IfOk r (λ t. has_float d ≡ false → t ≡ compact_text d) → IfOk r (λ t. t ≡ text)
json_is r d text whole e h = IfOk-weaker r _ _ (λ t f. f whole ∙ e) h

-- ---- hex digits stand for themselves

plain_digits : list_all is_plain lower_digits ≡ true
plain_digits = refl

plain_digit : (k : ℕ) → k < 16 → is_plain (get_or lower_digits k 0) ≡ true
plain_digit k small = AllPass-from_list_all is_plain lower_digits plain_digits k 0 small

pub plain_hex : (xs : List ℕ) → ((k : ℕ) → get_or xs k 0 < 256) → list_all is_plain (encode_lower xs) ≡ true
unfolding encode_with
plain_hex [] each = refl
plain_hex (b ∷ rest) each =
    let low : b < 256 = each 0 in
    let one : is_plain (get_or lower_digits (b / 16) 0) ≡ true = plain_digit (b / 16) (omega arith) in
    let two : is_plain (get_or lower_digits (b % 16) 0) ≡ true = plain_digit (b % 16) (omega arith) in
    let more : list_all is_plain (encode_lower rest) ≡ true = plain_hex rest (λ k. each (suc k)) in
    rw (one, two, more)

-- ---- the bodies

quoted_front : (s rest : List ℕ) → list_all is_plain s ≡ true → (escape s ++ 34 ∷ []) ++ rest ≡ s ++ 34 ∷ rest
quoted_front s rest plain = ap (λ (l : List ℕ). (l ++ 34 ∷ []) ++ rest) (escape_plain s plain) ∙ append_assoc s (34 ∷ []) rest

regroup : (a h b x c y d z e : List ℕ) → a ++ (h ++ (b ++ (x ++ (c ++ (y ++ (d ++ (z ++ e))))))) ≡ a ++ h ++ b ++ x ++ c ++ y ++ d ++ z ++ e
regroup a h b x c y d z e = simp append_assoc

abbrev pub not_held_data : ℕ → ℕ → Data
not_held_data low high = object (member (codes "error") (string (codes "NotHeld")) (member (codes "high") (number (unsigned high)) (member (codes "low") (number (unsigned low)) no_members)))

pub not_held_text : (low high : ℕ) → compact_text (not_held_data low high) ≡ not_held_body low high
unfolding serde_json_on_literals
not_held_text low high = simp append_assoc

abbrev pub too_deep_data : ℕ → Data
too_deep_data floor = object (member (codes "error") (string (codes "TooDeep")) (member (codes "floor") (number (unsigned floor)) no_members))

pub too_deep_text : (floor : ℕ) → compact_text (too_deep_data floor) ≡ too_deep_body floor
unfolding serde_json_on_literals
too_deep_text floor = refl

abbrev pub refused_data : ℕ → ℕ → Data
refused_data rule tx = object (member (codes "error") (string (codes "Refused")) (member (codes "rule") (number (unsigned rule)) (member (codes "tx") (number (unsigned tx)) no_members)))

pub refused_text : (rule tx : ℕ) → compact_text (refused_data rule tx) ≡ refused_body rule (Some tx)
unfolding serde_json_on_literals
refused_text rule tx = simp append_assoc

abbrev pub whole_data : ℕ → Data
whole_data rule = object (member (codes "error") (string (codes "Refused")) (member (codes "rule") (number (unsigned rule)) (member (codes "tx") null no_members)))

pub whole_text : (rule : ℕ) → compact_text (whole_data rule) ≡ refused_body rule None
unfolding serde_json_on_literals
whole_text rule = simp append_assoc

abbrev pub not_tip_data : List ℕ → Data
not_tip_data tip = object (member (codes "error") (string (codes "NotTip")) (member (codes "tip") (string tip) no_members))

pub not_tip_text : (tip : List ℕ) → list_all is_plain tip ≡ true → compact_text (not_tip_data tip) ≡ codes "{\"error\":\"NotTip\",\"tip\":\"" ++ tip ++ codes "\"}"
unfolding serde_json_on_literals
not_tip_text tip plain = ap (λ (l : List ℕ). codes "{\"error\":\"NotTip\",\"tip\":\"" ++ l) (quoted_front tip (125 ∷ []) plain)

abbrev pub tip_data : List ℕ → ℕ → ℕ → ℕ → Data
tip_data hash height low top = object (member (codes "hash") (string hash) (member (codes "height") (number (unsigned height)) (member (codes "low") (number (unsigned low)) (member (codes "top") (number (unsigned top)) no_members))))

pub tip_text : (hash : List ℕ) (height low top : ℕ) → list_all is_plain hash ≡ true → compact_text (tip_data hash height low top) ≡ codes "{\"hash\":\"" ++ hash ++ codes "\",\"height\":" ++ decimal height ++ codes ",\"low\":" ++ decimal low ++ codes ",\"top\":" ++ decimal top ++ codes "}"
unfolding serde_json_on_literals
tip_text hash height low top plain =
    ap (λ (l : List ℕ). codes "{\"hash\":\"" ++ l) (quoted_front hash (codes ",\"height\":" ++ (decimal height ++ (codes ",\"low\":" ++ (decimal low ++ (codes ",\"top\":" ++ (decimal top ++ codes "}")))))) plain)
    ∙ regroup (codes "{\"hash\":\"") hash (codes "\",\"height\":") (decimal height) (codes ",\"low\":") (decimal low) (codes ",\"top\":") (decimal top) (codes "}")

-- ---- a list of hashes

pub plain_more : (xs : List Hash256) (x : Hash256) → AllPlain xs → list_all is_plain (encode_lower x.0) ≡ true → AllPlain (xs ++ x ∷ [])
plain_more [] x all one = (one, tt)
plain_more (y ∷ xs) x all one = (all.0, plain_more xs x all.1 one)

abbrev pub payees_data : List Hash256 → Data
payees_data hashes = object (member (codes "payees") (array (items_of (map hash_data hashes))) no_members)

whole_float : (hashes : List Hash256) → items_have_float (items_of (map hash_data hashes)) ≡ false
whole_float [] = refl
whole_float (hash ∷ more) = whole_float more

pub payees_float : (hashes : List Hash256) → has_float (payees_data hashes) ≡ false
payees_float hashes = rw (whole_float hashes)

hashes_text : (later : Bool) (hashes : List Hash256) → AllPlain hashes → items_text later (items_of (map hash_data hashes)) ++ 125 ∷ [] ≡ quoted_from later hashes
hashes_text false [] all = refl
hashes_text true [] all = refl
hashes_text false (hash ∷ more) all =
    let e = encode_lower hash.0 in
    ap (λ (l : List ℕ). 34 ∷ l) (append_assoc (escape e ++ 34 ∷ []) (items_text true (items_of (map hash_data more))) (125 ∷ []) ∙ ap (λ (l : List ℕ). (l ++ 34 ∷ []) ++ (items_text true (items_of (map hash_data more)) ++ 125 ∷ [])) (escape_plain e all.0) ∙ ap (λ (l : List ℕ). (e ++ 34 ∷ []) ++ l) (hashes_text true more all.1))
hashes_text true (hash ∷ more) all =
    let e = encode_lower hash.0 in
    ap (λ (l : List ℕ). 44 ∷ 34 ∷ l) (append_assoc (escape e ++ 34 ∷ []) (items_text true (items_of (map hash_data more))) (125 ∷ []) ∙ ap (λ (l : List ℕ). (l ++ 34 ∷ []) ++ (items_text true (items_of (map hash_data more)) ++ 125 ∷ [])) (escape_plain e all.0) ∙ ap (λ (l : List ℕ). (e ++ 34 ∷ []) ++ l) (hashes_text true more all.1))

pub payees_text : (hashes : List Hash256) → AllPlain hashes → compact_text (payees_data hashes) ≡ codes "{\"payees\":[" ++ quoted_from false hashes
unfolding serde_json_on_literals
payees_text hashes all = ap (λ (l : List ℕ). codes "{\"payees\":[" ++ l) (hashes_text false hashes all)
