-- A branch made of what a snapshot holds.
use Rattle.std.proofs.Common.{◌≡◌, ◌<◌, ◌≤◌, ℕ, zero, suc, List, [], ◌∷◌, ◌++◌, length, get_or, take, map, Option, Some, None, Result, Ok, Err, refl, sym, ap, ◌∙◌, subst, arith}
use Rattle.std.specs.List.{AllByRecursion}
use Rattle.std.specs.Option.{option_map}
use Rattle.std.specs.Result.{result_ok}
use Rattle.dmn_bytes.specs.declared.fault.Departure.{Departure}
use Rattle.dmn_bytes.specs.declared.hash.Hash256.{Hash256}
use Rattle.dmn_bytes.specs.Format.{whole}
use Rattle.dmn_branch.specs.declared.held.Held.{Held}
use Rattle.dmn_branch.specs.Taking.{AreMadeOf, Head, IsMadeOf, IsSoundHead, head_of}
use Rattle.dmn_held.specs.declared.data.HeightData.{HeightData}
use Rattle.dmn_indexes.specs.Version.{empty_version}
use Rattle.dmn_restore.specs.declared.making.Marked.{Marked}
use Rattle.dmn_bytes.specs.Law.{IsBytes}
use Rattle.dmn_bytes.specs.Sound.{whole_again, whole_takes}
use Rattle.dmn_payloads.specs.declared.fault.PayloadFault.{PayloadFault}
use Rattle.dmn_payloads.specs.declared.fault.PayloadFault.TheVariants as payload_faults
use Rattle.dmn_payloads.specs.declared.payloads.CbTx.{CbTx}
use Rattle.dmn_payloads.specs.Payloads.{cb, cb_sound}

abbrev rows_of : Result CbTx Departure → Option Hash256
rows_of r = option_map (λ value. value.rows) (result_ok r)

pub rows_found : (payload : List ℕ) (value : CbTx) → cb.Fits value × (payload ≡ cb.text value) → Some value.rows ≡ rows_of (whole cb payload)
rows_found payload value (fits, is) = ap rows_of (sym (ap (whole cb) is ∙ whole_again cb cb_sound value fits))

none_by : (payload : List ℕ) (e : PayloadFault) (r : Result CbTx Departure) → whole cb payload ≡ r → IsBytes payload → ((v : CbTx) → cb.Fits v → payload ≡ cb.text v → e ≡ payload_faults.Memory) → (e ≡ payload_faults.Memory → ⊥) → None ≡ rows_of r
none_by payload e (Ok v) h bytes only other = let p = whole_takes cb cb_sound payload v bytes h in absurd (other (only v p.0 p.1))
none_by payload e (Err d) h bytes only other = refl

pub rows_none : (payload : List ℕ) (e : PayloadFault) → IsBytes payload → ((v : CbTx) → cb.Fits v → payload ≡ cb.text v → e ≡ payload_faults.Memory) → (e ≡ payload_faults.Memory → ⊥) → None ≡ rows_of (whole cb payload)
rows_none payload e bytes only other = none_by payload e (whole cb payload) refl bytes only other

-- ---- what is to be held of each height

-- what is read where there is nothing
abbrev pub no_made : Marked
no_made = record { version = empty_version; marks = [] }

pub made_next : (place : ℕ) (hs : List Head) (versions : List Marked) (list : List Held) (head : Head) (made : Marked) (next : Held) → place < length hs → place < length versions → get_or hs place head ≡ head
    → AreMadeOf (take place hs) (take place versions) list → IsMadeOf head (get_or versions place made) next → AreMadeOf (take (suc place) hs) (take (suc place) versions) (list ++ next ∷ [])
made_next place [] versions list head made next lt few one all is = absurd (omega (arith, lt))
made_next place (x ∷ hs) [] list head made next lt few one all is = absurd (omega (arith, few))
made_next zero (x ∷ hs) (y ∷ versions) [] head made next lt few one all is = (subst (λ (h : Head). IsMadeOf h y next) (sym one) is, tt)
made_next zero (x ∷ hs) (y ∷ versions) (l ∷ list) head made next lt few one all is = absurd all
made_next (suc place) (x ∷ hs) (y ∷ versions) [] head made next lt few one all is = absurd all
made_next (suc place) (x ∷ hs) (y ∷ versions) (l ∷ list) head made next lt few one all is = (all.0, made_next place hs versions list head made next (omega (arith, lt)) (omega (arith, few)) one all.1 is)

pub head_at : (place : ℕ) (heights : List HeightData) (d : HeightData) → get_or heights place d ≡ d → get_or (map head_of heights) place (head_of d) ≡ head_of d
head_at place [] d is = refl
head_at zero (x ∷ heights) d is = ap head_of is
head_at (suc place) (x ∷ heights) d is = head_at place heights d is

pub sound_at : (place : ℕ) (hs : List Head) (head : Head) → place < length hs → get_or hs place head ≡ head → AllByRecursion IsSoundHead hs → IsSoundHead head
sound_at place [] head lt is all = absurd (omega (arith, lt))
sound_at zero (x ∷ hs) head lt is all = subst IsSoundHead is all.0
sound_at (suc place) (x ∷ hs) head lt is all = sound_at place hs head (omega (arith, lt)) is all.1

pub heads_long : (heights : List HeightData) → length (map head_of heights) ≡ length heights
heads_long [] = refl
heads_long (d ∷ heights) = ap suc (heads_long heights)

pub take_all : {X : Type 0} (n : ℕ) (xs : List X) → length xs ≤ n → take n xs ≡ xs
take_all zero [] few = refl
take_all zero (x ∷ xs) few = absurd (omega (arith, few))
take_all (suc n) [] few = refl
take_all (suc n) (x ∷ xs) few = ap (λ (l : List _). x ∷ l) (take_all n xs (omega (arith, few)))
