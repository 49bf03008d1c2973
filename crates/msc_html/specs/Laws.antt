-- Laws of what is told of races.
use Rattle.std.specs.Prelude.{ℕ, IsTrue}
use Rattle.msc_chart.specs.declared.queue.Queues.{Queues}
use Rattle.msc_chart.specs.Drawings.{Drawing, IsAccepted}
use Rattle.msc_chart.specs.Orders.{wired, Enforced, IsRace}
use Rattle.msc_reason.specs.declared.cause.Cause.{Cause}
use Rattle.msc_reason.specs.Causes.{IsCauseOf}

-- where a race is always reversed, the pair that it lacks is enforced in the other order
abbrev pub AlwaysLacksForGood : Type 0
AlwaysLacksForGood =
    (queues : Queues) (d : Drawing) → IsAccepted d → (e f : ℕ) (cause : Cause) → IsRace (wired queues d) e f
    → IsCauseOf (wired queues d) e f cause → IsTrue cause.always
    → Enforced (wired queues d) cause.output cause.needed
