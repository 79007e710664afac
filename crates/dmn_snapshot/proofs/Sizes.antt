-- How long a slot's text is behind its length.
use Rattle.std.proofs.Common.{◌≡◌, ℕ, ◌+◌, List, ◌++◌, length, refl, arith}
use Rattle.std.specs.Int.{w64, to_le_bytes}
use Rattle.std.proofs.lemmas.List.{length-append}
use Rattle.dmn_held.specs.Defs.{held_text}
use Rattle.dmn_snapshot.specs.Slot.{content, size_of}
use Rattle.dmn_snapshot.specs.declared.slot.Stored.{Stored}

three_and : (a b c text : List ℕ) → length a ≡ 8 → length b ≡ 8 → length c ≡ 8 → length (a ++ (b ++ (c ++ text))) ≡ length text + 24
three_and a b c text la lb lc = omega (arith, la, lb, lc, length-append a (b ++ (c ++ text)), length-append b (c ++ text), length-append c text)

pub size_is : (stored : Stored) → size_of stored ≡ length (held_text stored.held) + 24
unfolding content
size_is stored = three_and (to_le_bytes w64 stored.sequence) (to_le_bytes w64 stored.position) (to_le_bytes w64 stored.records) (held_text stored.held) refl refl refl
