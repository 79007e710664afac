use Rattle.std.proofs.Common.{refl}
use Rattle.dmn_merkle.specs.OnePass.{count_of}
use Rattle.dmn_merkle.proofs.Levels.{none_held}
use Rattle.dmn_merkle.proofs.builder.RootBuilder.new.Goals as goal

pub returns-clause-none : goal.returns-clause-none
returns-clause-none c = none_held

pub returns-clause-count : goal.returns-clause-count
unfolding count_of
returns-clause-count c = refl
