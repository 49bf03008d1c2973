-- The ways in which an instance stops to send are three; takes and rounds come to different things.
use Rattle.std.proofs.Common.{◌≢◌, ℕ}
use Rattle.msc_instance.specs.declared.sending.Sending.TheVariants.{Done, Waits, Stopped}
use Rattle.msc_instance.specs.declared.taking.TakeStep.TheVariants as step
use Rattle.msc_instance.specs.declared.round.Round.TheVariants as round

-- what is done does not wait
pub done_waits : Done ≢ Waits
done_waits e = cc

-- what is done is not stopped
pub done_stopped : Done ≢ Stopped
done_stopped e = cc

-- what waits is not stopped
pub waits_stopped : Waits ≢ Stopped
waits_stopped e = cc

-- a take that found nothing did not stop
pub nothing_stopped : step.Nothing ≢ step.Stopped
nothing_stopped e = cc

-- nor did one that found an end mark
pub ended_stopped : step.Ended ≢ step.Stopped
ended_stopped e = cc

-- nor one whose message is logged
pub logged_stopped : step.Logged ≢ step.Stopped
logged_stopped e = cc

-- nor one whose message is strange
pub foreign_stopped : {m : ℕ} → step.Foreign m ≢ step.Stopped
foreign_stopped e = cc

-- a round that found nothing did not stop
pub empty_stopped : round.Empty ≢ round.Stopped
empty_stopped e = cc

-- nor did one that found something
pub busy_stopped : round.Busy ≢ round.Stopped
busy_stopped e = cc

-- nor one with a strange message
pub strange_stopped : {m : ℕ} → round.Foreign m ≢ round.Stopped
strange_stopped e = cc
