-- The number of each status.
use Rattle.std.specs.Prelude.{ℕ}
use Rattle.dmn_status.specs.declared.status.Status.{Status}
use Rattle.dmn_status.specs.declared.status.Status.TheVariants.{Done, Words, Memory, DiskFault, LineFault, NotJournal, StartForm, CutInput, Enough, AlreadyInit}

abbrev pub code_of : Status → ℕ
code_of Done = 0
code_of Words = 2
code_of Memory = 3
code_of DiskFault = 4
code_of LineFault = 5
code_of (NotJournal at) = 6
code_of (StartForm at) = 6
code_of CutInput = 7
code_of Enough = 8
code_of AlreadyInit = 9
