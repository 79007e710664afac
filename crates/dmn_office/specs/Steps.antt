-- What a private part gives.
use Rattle.std.specs.Prelude.{◌≡◌, length}
use Rattle.dmn_desk.specs.declared.request.Request.{Request}
use Rattle.dmn_desk.specs.declared.request.Request.TheVariants.{Disconnect}

-- a hash has 32 bytes
abbrev pub HasItsHash : Request → Type 0
HasItsHash (Disconnect hash) = length hash.0 ≡ 32
HasItsHash request = Unit {0}
