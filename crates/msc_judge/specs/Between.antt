-- The races between two rounds, as they are looked for.
use Rattle.std.specs.Prelude.{ℕ, Bool, ◌&&◌, not, List, length, nat_eq}
use Rattle.std.specs.List.{list_any, range_with_len}
use Rattle.msc_chart.specs.declared.event.ChartEvent.{ChartEvent}
use Rattle.msc_chart.specs.Charts.{before}
use Rattle.msc_chart.specs.Drawings.{Drawing}
use Rattle.msc_chart.specs.Lists.{pairs_of, pairs_to}
use Rattle.msc_chart.specs.Rounds.{round_of}
use Rattle.msc_race.specs.Races.{is_raced}
use Rattle.msc_race.specs.Wired.{EnforcedChart}
use Rattle.msc_reason.specs.Counting.{counts}
use Rattle.msc_reason.specs.Marked.{cause_in}
use Rattle.msc_reason.specs.declared.left_out.LeftOut.{LeftOut}

-- nothing is drawn between x and y
unfoldable pub are_next : List ChartEvent → ℕ → ℕ → Bool
are_next events x y = not (list_any (λ z. before events x z && before events z y) (range_with_len 0 (length events)))

-- x is of the first round of a chart and y of the second, and they are a race that counts, nothing
-- drawn between them
unfoldable pub is_told : Drawing → EnforcedChart → LeftOut → ℕ → ℕ → Bool
is_told d two left x y =
    (nat_eq (round_of 2 d.events x) 0 && nat_eq (round_of 2 d.events y) 1)
    && ((is_raced two.chart.events two.order x y && are_next two.chart.events x y) && counts left (cause_in two) (x, y))

-- all such pairs, ascending
abbrev pub told_of : Drawing → EnforcedChart → LeftOut → List (ℕ × ℕ)
told_of d two left = pairs_of (is_told d two left) (length two.chart.events)

-- those of event x
abbrev pub told_with : Drawing → EnforcedChart → LeftOut → ℕ → List (ℕ × ℕ)
told_with d two left x = pairs_to (is_told d two left) x (length two.chart.events)
