use Rattle.dmn_registry.proofs.Told.{audits, known_audits, no_audit}
use Rattle.dmn_registry.proofs.registry.Registry.audit.Goals as goal

pub returns-in-Ok-clause-audits : goal.returns-in-Ok-clause-audits
returns-in-Ok-clause-audits g c = audits c.in-Ok.registry c.summary.result _ c.in-Ok.ensures.replays c.summary.ensures

pub returns-in-Ok-clause-recovered : goal.returns-in-Ok-clause-recovered
returns-in-Ok-clause-recovered g c = λ m known. known_audits (Rattle.std.proofs.Common.Ok c.summary.result) m _ known (audits c.in-Ok.registry c.summary.result _ c.in-Ok.ensures.replays c.summary.ensures)

pub returns-in-Err-clause-recovered : goal.returns-in-Err-clause-recovered
returns-in-Err-clause-recovered g c = λ m known. known_audits (Rattle.std.proofs.Common.Err c.in-Err.fault) m _ known (no_audit c.in-Err.fault _ c.in-Err.ensures.replays)
