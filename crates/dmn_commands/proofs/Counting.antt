-- Numbers among the words.
use Rattle.std.proofs.Common.{◌≡◌, ℕ, ◌<◌, ◌≤◌, ◌^◌, Bool, true, false, ◌&&◌, List, refl, ap, ◌∙◌, arith, if◌then◌else◌, nat_le}
use Rattle.std.specs.Prelude.{None, Some, Result, Ok}
use Rattle.std.specs.Fmt.{decimal}
use Rattle.std.specs.Str.{bytes_eq}
use Rattle.std.specs.Str.Parse.{ParsesUnsigned, digits_value}
use Rattle.std.proofs.lemmas.Bool.Decides.{nat_tests}
use Rattle.std.proofs.lemmas.Fmt.{decimal_is_IsNumeral, parse-decimal}
use Rattle.std.proofs.lemmas.Slice.Eq.{bytes_eq-Decides}
use Rattle.dmn_commands.specs.Words.{count_of}

pub decimal_parses : {E : Type 0} (word : List ℕ) (n : ℕ) (r : Result ℕ E) → n < 2 ^ 32 → ParsesUnsigned 32 10 word r → word ≡ decimal n → r ≡ Ok n
decimal_parses word n r fits parses e = parse-decimal 32 n word r fits (omega (arith, fits)) e parses

none_by : (most n : ℕ) (a b c : Bool) → (a ≡ true → b ≡ true → c ≡ true → ⊥) → None ≡ (if a && b && c then Some n else None)
none_by most n true true true never = absurd (never refl refl refl)
none_by most n true true false never = refl
none_by most n true false c never = refl
none_by most n false b c never = refl

-- a word that is no number from 1 to the most
pub count_none : (most : ℕ) (word : List ℕ) → ((n : ℕ) → 1 ≤ n → n ≤ most → word ≡ decimal n → ⊥) → None ≡ count_of most word
count_none most word never =
    let n = digits_value 10 word in
    none_by most n (bytes_eq word (decimal n)) (nat_le 1 n) (nat_le n most) (λ text some few. never n (grind (arith, nat_tests, some)) (grind (arith, nat_tests, few)) ((bytes_eq-Decides word (decimal n)).0 text))

some_by : (n : ℕ) (a b c : Bool) → a ≡ true → b ≡ true → c ≡ true → Some n ≡ (if a && b && c then Some n else None)
some_by n a b c one two three = rw (one, two, three) refl

-- the decimal text of a number from 1 to the most
pub count_some : (most n : ℕ) (word : List ℕ) → word ≡ decimal n → 1 ≤ n → n ≤ most → n < 2 ^ 64 → Some n ≡ count_of most word
count_some most n word is some few fits =
    let value : digits_value 10 word ≡ n = ap (digits_value 10) is ∙ (decimal_is_IsNumeral n fits).1 in
    rw value (some_by n (bytes_eq word (decimal n)) (nat_le 1 n) (nat_le n most) ((bytes_eq-Decides word (decimal n)).1 is) (grind (arith, nat_tests, some)) (grind (arith, nat_tests, few)))
