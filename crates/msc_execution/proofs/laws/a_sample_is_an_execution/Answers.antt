use Rattle.msc_execution.proofs.Sample.Accepted.{is_accepted, is_drawn}
use Rattle.msc_execution.proofs.Sample.Sampled.{is_execution, trace_is}
use Rattle.msc_execution.proofs.laws.a_sample_is_an_execution.Goals as goal

pub returns : goal.returns
returns c = record { drawn = is_drawn; accepted = is_accepted; execution = is_execution; trace = trace_is }
