-- Laws of steps and of the drawings that can happen, for each accepted chart under each architecture.
use Rattle.std.specs.Prelude.{◌≡◌, ℕ, false, List, length}
use Rattle.msc_chart.specs.declared.queue.Queues.{Queues}
use Rattle.msc_chart.specs.declared.queue.LinkKind.TheVariants.{Single}
use Rattle.msc_chart.specs.declared.queue.Queues.TheVariants.{Uniform}
use Rattle.msc_chart.specs.Drawings.{Drawing, IsAccepted}
use Rattle.msc_chart.specs.Orders.{WiredChart, wired}
use Rattle.msc_follow.specs.Following.{CanHappen, NeverHappens, IsFollowingRun}
use Rattle.msc_follow.specs.Steps.{is_ahead, leads}
use Rattle.msc_race.specs.Laws.{HasNoRace}
use Rattle.rings.specs.Rings.{IsRing, HasNoRing}

-- a ring of steps stops every run: no whole run keeps the drawn order
abbrev pub ARingStopsEveryRun : Type 0
ARingStopsEveryRun =
    (queues : Queues) (d : Drawing) → IsAccepted d → (start : ℕ) (ring : List ℕ)
    → IsRing (leads (wired queues d)) (length d.events) start ring → NeverHappens (wired queues d)

-- if the steps have no ring, some whole run keeps the drawn order
abbrev pub ADrawingWithoutARingIsFollowed : Type 0
ADrawingWithoutARingIsFollowed =
    (queues : Queues) (d : Drawing) → IsAccepted d
    → ((start : ℕ) → HasNoRing (leads (wired queues d)) (length d.events) start) → CanHappen (wired queues d)

-- if there is no race, some whole run keeps the drawn order
abbrev pub APassIsFollowed : Type 0
APassIsFollowed =
    (queues : Queues) (d : Drawing) → IsAccepted d → HasNoRace (wired queues d) → CanHappen (wired queues d)

-- if each message has a queue of its own, no output has to be ahead of another
abbrev pub NoStepIsAheadUnderSingle : Type 0
NoStepIsAheadUnderSingle =
    (d : Drawing) → IsAccepted d → (x y : ℕ) → is_ahead (wired (Uniform Single) d) x y ≡ false

-- and some whole run keeps the drawn order
abbrev pub EveryDrawingIsFollowedUnderSingle : Type 0
EveryDrawingIsFollowedUnderSingle = (d : Drawing) → IsAccepted d → CanHappen (wired (Uniform Single) d)

-- a chart has at most one following run
abbrev pub FollowingRunsAreUnique : Type 0
FollowingRunsAreUnique =
    (chart : WiredChart) (xs ys : List ℕ) → IsFollowingRun chart xs → IsFollowingRun chart ys → xs ≡ ys
