-- The text of an audit: five lines, each a name, a space, a value and a line feed. Numbers are in decimal digits, and the root
-- in two hexadecimal digits a byte.
use Rattle.std.specs.Prelude.{ℕ, List, [], ◌∷◌, ◌++◌, codes, decimal}
use Rattle.hex.specs.Hex.{encode_lower}
use Rattle.dmn_registry.specs.declared.auditing.Audit.{Audit}

abbrev pub line : List ℕ → List ℕ → List ℕ
line name value = name ++ 32 ∷ (value ++ 10 ∷ [])

abbrev pub audit_text : Audit → List ℕ
audit_text audit =
    line (codes "height") (decimal audit.height)
    ++ line (codes "rows") (decimal audit.rows)
    ++ line (codes "banned") (decimal audit.banned)
    ++ line (codes "root") (encode_lower audit.root.0)
    ++ line (codes "records") (decimal audit.records)
