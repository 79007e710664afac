use Rattle.dmn_light_laws.proofs.Runs.{sound_run}
use Rattle.dmn_light_laws.proofs.law.runs_tell_of_replay.Goals as goal

pub returns : goal.returns
returns c = sound_run
