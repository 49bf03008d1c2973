use Rattle.std.proofs.Common.{sym}
use Rattle.std.proofs.lemmas.List.{append-nil}
use Rattle.std.proofs.lemmas.Option.{slice_get_past}
use Rattle.msc_findings.proofs.run.push_step.Goals as goal

pub returns-in-None : goal.returns-in-None
returns-in-None c = rw (slice_get_past c.args.events.now c.args.e c.in-None.ensures.lookup.3) (sym (append-nil c.args.steps.now.items))
