-- What is printed of the drawing of a chart.
use Rattle.std.specs.Prelude.{◌≡◌, ℕ, Bool, true, false, List}
use Rattle.msc_chart.specs.declared.queue.Queues.{Queues}
use Rattle.msc_chart.specs.Drawings.{Drawing}
use Rattle.msc_chart.specs.Orders.{wired}
use Rattle.msc_follow.specs.Following.{IsFollowingRun, IsLeastStepRing, NeverHappens}
use Rattle.msc_report.specs.Following.{follows_text, never_text, ring_steps}
use Rattle.msc_report.specs.Styles.{event_positions_in}
use Rattle.msc_report.specs.declared.style.Style.{Style}

-- What is printed of a drawing in a style, and whether some run keeps it: that run, or a ring of
-- steps by which none does.
abbrev pub PrintsFollowed : Drawing → Queues → Style → Bool → List ℕ → Type 0
PrintsFollowed d queues style true printed =
    (run : List ℕ) × IsFollowingRun (wired queues d) run × (printed ≡ follows_text style.words d queues run)
PrintsFollowed d queues style false printed =
    (ring : List ℕ) × IsLeastStepRing (wired queues d) ring × NeverHappens (wired queues d)
    × (printed ≡ never_text (event_positions_in style) d queues (ring_steps ring))
