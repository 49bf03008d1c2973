-- The events that a reason names.
use Rattle.std.specs.Prelude.{ℕ, ◌<◌, Bool, List, length, MatchOption}
use Rattle.std.specs.List.{All}
use Rattle.msc_chart.specs.declared.queue.Queues.{Queues}
use Rattle.msc_chart.specs.Drawings.{Drawing, IsAccepted}
use Rattle.msc_chart.specs.Orders.{wired}
use Rattle.msc_reason.specs.Reasons.{IsReason}
use Rattle.msc_reason.specs.declared.cause.Cause.{Cause}
use Rattle.msc_reason.specs.declared.reason.Reason.{Reason}
use Rattle.msc_reason.specs.declared.reason.Reason.TheVariants.{Enforced, Free}
use Rattle.msc_reason.specs.declared.why.Why.{Why}
use Rattle.msc_reason.specs.declared.why.Why.TheVariants.{Straight, ByQueue}

-- these are events of the chart
abbrev pub AreEventsOf : Drawing → List ℕ → Type 0
AreEventsOf d events = All (λ e. e < length d.events) events

-- what shows that an event is enforced before another names events of the chart
abbrev pub NamesSteps : Drawing → Why → Type 0
NamesSteps d (Straight steps) = AreEventsOf d steps
NamesSteps d (ByQueue u outputs onward) = (u < length d.events) × AreEventsOf d outputs × AreEventsOf d onward

-- a cause names events of the chart
pub record NamesCause (d : Drawing) (cause : Cause) : Type 0 where
  pub needed : cause.needed < length d.events
  pub output : cause.output < length d.events

-- a reason names events of the chart, besides those of its run
abbrev pub NamesAll : Drawing → Reason → Type 0
NamesAll d (Enforced why) = NamesSteps d why
NamesAll d (Free run cause late) = MatchOption cause (Unit {0}) (NamesCause d) × MatchOption late (Unit {0}) (NamesSteps d)

-- a reason that is right does
abbrev pub AReasonNamesEvents : Type 0
AReasonNamesEvents =
    (queues : Queues) (d : Drawing) → IsAccepted d → (e f : ℕ) → e < length d.events → f < length d.events
    → (short : Bool) (reason : Reason) → IsReason short (wired queues d) e f reason → NamesAll d reason
