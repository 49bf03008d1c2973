-- What is printed of a drawing: a run that keeps it, or the ring of steps by which none does. This
-- project's own formats.
use Rattle.std.specs.Prelude.{ℕ, Bool, ◌<◌, List, [], ◌∷◌, ◌++◌, Option, codes, length}
use Rattle.std.specs.List.{flat_map, All}
use Rattle.msc_chart.specs.declared.queue.Queues.{Queues}
use Rattle.msc_chart.specs.Drawings.{Drawing}
use Rattle.msc_place.specs.EventPositions.{event_position_text, EventPositionsIn}
use Rattle.msc_report.specs.Lines.{pair_line, pair_text}
use Rattle.msc_report.specs.Reasons.{step_word}
use Rattle.msc_report.specs.Styles.{run_text}
use Rattle.msc_report.specs.Texts.{text_line}
use Rattle.msc_report.specs.Links.{queues_text}
use Rattle.msc_report.specs.Verdicts.{name_line}

-- the steps from x over these events, one after the other
abbrev pub steps_from : ℕ → List ℕ → List (ℕ × ℕ)
steps_from x [] = []
steps_from x (y ∷ events) = (x, y) ∷ steps_from y events

-- the steps of a ring: from each event to the next, and from the last to the first
abbrev pub ring_steps : List ℕ → List (ℕ × ℕ)
ring_steps [] = []
ring_steps (x ∷ events) = steps_from x (events ++ x ∷ [])

-- both events of each step are events of the chart
abbrev pub AreStepsOf : Drawing → List (ℕ × ℕ) → Type 0
AreStepsOf d steps = All (λ p. (p.0 < length d.events) × (p.1 < length d.events)) steps

-- a line for each step, with places where they are printed
abbrev pub steps_text : Option EventPositionsIn → Drawing → List (ℕ × ℕ) → List ℕ
steps_text event_positions d steps = flat_map (λ p. pair_text event_positions [] (step_word d p.0 p.1) d p.0 p.1) steps

-- that a run keeps the drawing
abbrev pub follows_text : Bool → Drawing → Queues → List ℕ → List ℕ
follows_text words d queues run = name_line d ++ (queues_text d queues ++ (text_line (codes "follows") ++ run_text words d run))

-- that none does, by the steps of a ring
abbrev pub never_text : Option EventPositionsIn → Drawing → Queues → List (ℕ × ℕ) → List ℕ
never_text event_positions d queues steps =
    name_line d ++ (queues_text d queues ++ (text_line (codes "never") ++ steps_text event_positions d steps))

-- a step as a note for editors, at its first event
abbrev pub note_text : EventPositionsIn → Drawing → ℕ × ℕ → List ℕ
note_text event_positions d p =
    event_position_text event_positions p.0 ++ (codes ": note: " ++ pair_line (step_word d p.0 p.1) d p.0 p.1)

-- for editors: that no run keeps the drawing, at the first event of the ring, and its steps
abbrev pub never_error : EventPositionsIn → Drawing → List (ℕ × ℕ) → List ℕ
never_error event_positions d [] = []
never_error event_positions d (p ∷ steps) =
    event_position_text event_positions p.0
    ++ (text_line (codes ": error: no run follows the drawing [never]") ++ flat_map (note_text event_positions d) (p ∷ steps))
