-- What a script pays to.
use Rattle.std.specs.Prelude.{ℕ, List, [], ◌∷◌, ◌++◌, take, drop, replicate, if◌then◌else◌}
use Rattle.std.specs.Str.{bytes_eq}
use Rattle.dmn_bytes.specs.declared.points.Pay.{Pay}

-- the script around 20 bytes that pays to a public key's hash
abbrev pub p2pkh : List ℕ → List ℕ
p2pkh hash = 0x76 ∷ 0xa9 ∷ 0x14 ∷ [] ++ hash ++ 0x88 ∷ 0xac ∷ []

-- the script around 20 bytes that pays to a script's hash
abbrev pub p2sh : List ℕ → List ℕ
p2sh hash = 0xa9 ∷ 0x14 ∷ [] ++ hash ++ 0x87 ∷ []

-- what a script pays to: it is one of these two around the 20 bytes in it, or another
unfoldable pub pay_of : List ℕ → Pay
pay_of script =
    let key_hash = take 20 (drop 3 script) in
    let script_hash = take 20 (drop 2 script) in
    if bytes_eq script (p2pkh key_hash) then record { kind = 1; hash = key_hash }
    else if bytes_eq script (p2sh script_hash) then record { kind = 2; hash = script_hash }
    else record { kind = 0; hash = replicate 20 0 }
