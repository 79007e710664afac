-- Over a disk that tells how long a write may make a file.
use Rattle.std.specs.Prelude.{Result, IsErrOf}
use Rattle.dmn_outside.specs.Disk.{DiskView}
use Rattle.dmn_outside.specs.Failing.{KeepsDisk}

-- the call doesn't answer this fault, and the disk counts none
pub record NeverFails {T E : Type 0} (result : Result T E) (fault : E) (old new : DiskView) : Type 0 where
  pub disk : KeepsDisk old new
  pub answer : ¬ IsErrOf result fault
