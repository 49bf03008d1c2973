-- What the sorting of the events into a linear order keeps.
use Rattle.std.specs.Prelude.{◌≡◌, ℕ, ◌+◌, ◌<◌, ◌≤◌, ◌⊎◌, Bool, false, not, List, [], length, get_or, count_by, vec_len, IsTrue}
use Rattle.msc_chart.specs.Building.{IsLeastCyclic}
use Rattle.msc_chart.specs.declared.TheConstants.{EVENT_LIMIT}
use Rattle.msc_chart.specs.declared.event.ChartEvent.{ChartEvent}
use Rattle.msc_chart.specs.declared.linear.Sorting.{Sorting}
use Rattle.msc_chart.specs.declared.fault.ChartFault.{ChartFault}
use Rattle.msc_chart.specs.declared.fault.ChartFault.TheVariants.{Cyclic, Memory}
use Rattle.msc_chart.specs.Lists.{occurs, Steps}
use Rattle.msc_chart.specs.Charts.{line, partner, is_output, before, IsMatched, IsInTextOrder, AreOnLines, Follows}

-- x comes directly before y: it is drawn before it, or is the output of its message
abbrev pub IsDirectly : List ChartEvent → ℕ → ℕ → Type 0
IsDirectly events x y = IsTrue (before events x y) ⊎ (IsTrue (is_output events x) × (partner events x ≡ y))

-- event x was put
abbrev pub is_put : List Bool → ℕ → Bool
is_put marks x = get_or marks x false

-- below k all events of a line were put
abbrev pub NoneLeftBelow : List ChartEvent → List Bool → ℕ → ℕ → Type 0
NoneLeftBelow events marks i k = (x : ℕ) → x < length events → x < k → line events x ≡ i → IsTrue (is_put marks x)

-- k is an event of the line that is left
pub record IsLeftOn (events : List ChartEvent) (marks : List Bool) (i k : ℕ) : Type 0 where
  pub on_line : line events k ≡ i
  pub left : is_put marks k ≡ false

-- all that comes directly before e was put
abbrev pub IsUnbarred : List ChartEvent → List Bool → ℕ → Type 0
IsUnbarred events marks e = (x : ℕ) → IsDirectly events x e → IsTrue (is_put marks x)

-- something that comes directly before e was not put
abbrev pub IsBarred : List ChartEvent → List Bool → ℕ → Type 0
IsBarred events marks e = (x : ℕ) × IsDirectly events x e × (is_put marks x ≡ false)

-- e was put, or it can't be
abbrev pub IsStuckAt : List ChartEvent → List Bool → ℕ → Type 0
IsStuckAt events marks e = IsTrue (is_put marks e) ⊎ IsBarred events marks e

-- and so is each event below k
abbrev pub IsStuckBelow : List ChartEvent → List Bool → ℕ → Type 0
IsStuckBelow events marks k = (e : ℕ) → e < k → IsStuckAt events marks e

-- what is known of the events
pub record AreReady (lines : ℕ) (events : List ChartEvent) : Type 0 where
  pub few : length events ≤ EVENT_LIMIT
  pub matched : IsMatched events
  pub in_text_order : IsInTextOrder events
  pub on_lines : AreOnLines lines events

-- The marks tell what is in the order, in which whatever precedes an event visibly stands before it.
pub record IsSortingOf (events : List ChartEvent) (order : List ℕ) (marks : List Bool) (first : List ℕ) (left : ℕ) : Type 0 where
  pub ready : AreReady (length first) events
  pub marks_len : length marks ≡ length events
  pub marked : (e : ℕ) → e < length events → is_put marks e ≡ occurs order e
  pub first_left : (i : ℕ) → NoneLeftBelow events marks i (get_or first i 0)
  pub left_count : left ≡ count_by not marks
  pub all : length order + left ≡ length events
  pub steps : Steps (Follows events) [] order

-- a pass knows its marks, and has a place for each line
abbrev pub IsSorting : List ChartEvent → Sorting → Type 0
IsSorting events p = IsSortingOf events p.order.items p.is_put.items p.first.items p.left × (vec_len p.unopened ≡ vec_len p.first)

-- the least event that precedes itself, or want of memory
abbrev pub IsCycleOrMemory : List ChartEvent → ChartFault → Type 0
IsCycleOrMemory events (Cyclic e) = IsLeastCyclic events e
IsCycleOrMemory events Memory = Unit {0}
IsCycleOrMemory events fault = ⊥
