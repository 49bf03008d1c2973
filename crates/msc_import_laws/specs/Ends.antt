-- How high the events of a draft stand: each as high as its arrow, inputs below outputs.
use Rattle.std.specs.Prelude.{◌≡◌, ℕ, zero, suc, ◌+◌, ◌*◌, ◌/◌, List, [], ◌∷◌, ◌++◌, map}
use Rattle.msc_chart.specs.Events.{DraftEvent, act_of}
use Rattle.msc_chart.specs.Lists.{StandsAt, Occurs}
use Rattle.msc_scenarios.specs.declared.steps.Step.{Step}
use Rattle.msc_import.specs.declared.plan.Own.{Own}
use Rattle.msc_import.specs.Drafting.{drawn_event, fitted, line_name}
use Rattle.msc_import.specs.Laws.{ends_on}
use Rattle.msc_import.specs.Plans.{Event, depth_of}

-- how far an event is drawn below the first one of its arrow
unfoldable pub fall : Event → ℕ
fall e = depth_of e.side

-- the heights of events on a line, of these steps, of which the first is step k
abbrev pub heights_from : Own → ℕ → ℕ → List Step → List ℕ
heights_from own line k [] = []
heights_from own line k (s ∷ ss) = map (λ e. 4 * k + fall e) (ends_on own line s) ++ heights_from own line (k + 1) ss

-- those on so many lines from this one on
abbrev pub heights_on : Own → List Step → ℕ → ℕ → List ℕ
heights_on own ss line zero = []
heights_on own ss line (suc n) = heights_from own line 0 ss ++ heights_on own ss (line + 1) n

-- The heights of the events of a draft, line by line: the number of the event's arrow in the path,
-- four times, and how far the event is drawn below the first one of its arrow.
unfoldable pub heights_of : Own → List Step → ℕ → List ℕ
heights_of own ss lines = heights_on own ss 0 lines

-- An event of a draft that stands this high is an end of the arrow that stands so high, and on a
-- line of these names it draws this end.
pub record IsEndOfItsArrow (own : Own) (names : List (List ℕ)) (ss : List Step) (v : DraftEvent) (high : ℕ) : Type 0 where
  pub arrow : Step
  pub met : StandsAt ss (high / 4) arrow
  pub end : Event
  pub its : Occurs (ends_on own v.line arrow) end
  pub does : v.act ≡ act_of (fitted (line_name names v.line)) (drawn_event names end)
  pub falls : high ≡ 4 * (high / 4) + fall end
