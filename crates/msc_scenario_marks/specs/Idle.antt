-- The marks of a diagram that accept no race.
use Rattle.std.specs.Prelude.{ℕ, Bool, true, false, ◌&&◌, ◌||◌, not, List, Option, None, Some, nat_eq, slice_get}
use Rattle.std.specs.List.{list_any}
use Rattle.std.specs.Option.{option_map_or}
use Rattle.msc_arrow_marks.specs.Accepting.{accepts_from, is_for, Acceptance}
use Rattle.msc_arrow_marks.specs.declared.marks.ArrowMark.{ArrowMark}
use Rattle.msc_scenario_marks.specs.Accepting.{arrow_at}

-- a mark is told of if it accepts no race: it has no arrow below it, or is for the architecture
abbrev pub told_by : Option ℕ → Bool → Bool
told_by None is = true
told_by (Some x) is = is

abbrev pub mark_may_be_idle : Acceptance → ArrowMark → Bool
mark_may_be_idle a mark = told_by mark.arrow (is_for a.usual mark.said)

-- the same of the mark with a number
abbrev pub may_be_idle : Acceptance → ℕ → Bool
may_be_idle a k = option_map_or (mark_may_be_idle a) (slice_get a.marks k) false

-- the mark of statement x accepts this race of a scenario, whose events these statements draw
abbrev pub accepts_by : Acceptance → List ℕ → ℕ → ℕ × ℕ → Bool
accepts_by a arrows x p =
    (nat_eq (arrow_at a arrows p.0) x && accepts_from a (arrow_at a arrows p.0) (arrow_at a arrows p.1))
    || (nat_eq (arrow_at a arrows p.1) x && accepts_from a (arrow_at a arrows p.1) (arrow_at a arrows p.0))

-- statement x draws an event of the scenario
abbrev pub is_met : List ℕ → ℕ → Bool
is_met arrows x = list_any (λ arrow. nat_eq arrow x) arrows

-- the mark of an arrow accepts one of these races of a scenario; or the scenario alone is asked for,
-- and does not meet the arrow
abbrev pub is_used_at : Acceptance → List ℕ → Bool → List (ℕ × ℕ) → Option ℕ → Bool
is_used_at a arrows chosen races None = false
is_used_at a arrows chosen races (Some x) =
    (chosen && not (is_met arrows x)) || list_any (accepts_by a arrows x) races

abbrev pub mark_is_used : Acceptance → List ℕ → Bool → List (ℕ × ℕ) → ArrowMark → Bool
mark_is_used a arrows chosen races mark = is_used_at a arrows chosen races mark.arrow

-- the same of the mark with a number
abbrev pub is_used : Acceptance → List ℕ → Bool → List (ℕ × ℕ) → ℕ → Bool
is_used a arrows chosen races k = option_map_or (mark_is_used a arrows chosen races) (slice_get a.marks k) false
