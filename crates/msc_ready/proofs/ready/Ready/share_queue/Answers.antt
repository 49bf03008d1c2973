use Rattle.std.proofs.Common.{eqb, ap₂}
use Rattle.msc_race.proofs.Runs.EventLemmas.{input_below, input_not_local}
use Rattle.msc_ready.proofs.ready.Ready.share_queue.Goals as goal

pub queue-requires-clause-known : goal.queue-requires-clause-known
queue-requires-clause-known c = input_below _ _ c.requires.e_input

pub queue-requires-clause-message : goal.queue-requires-clause-message
queue-requires-clause-message c = input_not_local _ _ c.requires.e_input

pub queue-requires-2-clause-known : goal.queue-requires-2-clause-known
queue-requires-2-clause-known c = input_below _ _ c.requires.f_input

pub queue-requires-2-clause-message : goal.queue-requires-2-clause-message
queue-requires-2-clause-message c = input_not_local _ _ c.requires.f_input

pub returns : goal.returns
returns c = ap₂ eqb c.queue.ensures c.queue-2.ensures
