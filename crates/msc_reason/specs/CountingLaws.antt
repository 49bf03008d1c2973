-- Laws of the races that count, of an accepted chart with its enforced order.
use Rattle.std.specs.Prelude.{◌≡◌, ◌⊎◌, ℕ, ◌↔◌, Bool, [], true}
use Rattle.msc_chart.specs.Drawings.{IsAccepted}
use Rattle.msc_chart.specs.Lists.{Occurs}
use Rattle.msc_chart.specs.Orders.{IsRace, WiredChart}
use Rattle.msc_race.specs.Races.{AreAscending}
use Rattle.msc_race.specs.Views.{wiring_of}
use Rattle.msc_race.specs.Wired.{EnforcedChart, IsEnforced}
use Rattle.msc_reason.specs.Closest.{IsClosest, IsClosestList, StandsWithin}
use Rattle.msc_reason.specs.Counting.{counting, listed, AreCauses}
use Rattle.msc_reason.specs.Kinds.{has_kind}
use Rattle.msc_reason.specs.LeftOut.{is_accepted, leaves_none}
use Rattle.msc_reason.specs.declared.kinds.KindSet.{KindSet}
use Rattle.msc_reason.specs.Causes.{IsKindOf}
use Rattle.msc_reason.specs.Marked.{cause_in}
use Rattle.msc_reason.specs.declared.left_out.LeftOut.{LeftOut}
use Rattle.msc_reason.specs.declared.cause.Cause.{Cause}
use Rattle.msc_reason.specs.declared.cause.RaceKind.{RaceKind}

-- the pair is of one of these kinds
pub record IsOfKinds (chart : WiredChart) (kinds : KindSet) (e f : ℕ) : Type 0 where
  pub kind : RaceKind
  pub its : IsKindOf chart e f kind
  pub named : has_kind kinds kind ≡ true

-- the pair is left out: it is of one of the kinds, or accepted
abbrev pub IsLeftOut : WiredChart → LeftOut → ℕ → ℕ → Type 0
IsLeftOut chart allowed e f = IsOfKinds chart allowed.kinds e f ⊎ (is_accepted allowed (e, f) ≡ true)

-- a race that is not left out
pub record IsCounting (chart : WiredChart) (allowed : LeftOut) (e f : ℕ) : Type 0 where
  pub race : IsRace chart e f
  pub counts : IsLeftOut chart allowed e f → ⊥

-- one within whose span no other such race lies
pub record IsClosestCounting (chart : WiredChart) (allowed : LeftOut) (e f : ℕ) : Type 0 where
  pub itself : IsCounting chart allowed e f
  pub alone : (g h : ℕ) → IsCounting chart allowed g h → StandsWithin chart.events e f g h → (g ≡ e) × (h ≡ f)

-- what is said of each enforced chart, and of the causes of its races
abbrev pub OfCharts : (EnforcedChart → LeftOut → (ℕ → ℕ → Cause) → Type 0) → Type 0
OfCharts Says =
    (e : EnforcedChart) → IsEnforced e → IsAccepted e.chart → (allowed : LeftOut) (causes : ℕ → ℕ → Cause)
    → AreCauses e causes → Says e allowed causes

-- the races that count are listed as such, and no other pair
abbrev pub CountingRacesAreListed : Type 0
CountingRacesAreListed = OfCharts (λ e allowed causes.
    (x y : ℕ) → IsCounting (wiring_of e) allowed x y ↔ Occurs (counting e allowed causes) (x, y))

-- the closest of them are listed as closest, and no other pair
abbrev pub ClosestRacesAreListed : Type 0
ClosestRacesAreListed = OfCharts (λ e allowed causes.
    (x y : ℕ) → IsClosestCounting (wiring_of e) allowed x y ↔ Occurs (listed e allowed true causes) (x, y))

-- both lists are ascending, so no race stands twice
abbrev pub ListedRacesAreAscending : Type 0
ListedRacesAreAscending =
    (e : EnforcedChart) (allowed : LeftOut) (closest : Bool) (causes : ℕ → ℕ → Cause)
    → AreAscending (counting e allowed causes) × AreAscending (listed e allowed closest causes)

-- the enforced order tells what each race lacks
abbrev pub TheOrderTellsCauses : Type 0
TheOrderTellsCauses = (e : EnforcedChart) → IsEnforced e → IsAccepted e.chart → AreCauses e (cause_in e)

-- within each race that counts stands a closest one that counts
abbrev pub EveryRaceThatCountsSpansAClosestOne : Type 0
EveryRaceThatCountsSpansAClosestOne = OfCharts (λ e allowed causes.
    (x y : ℕ) → IsCounting (wiring_of e) allowed x y
    → (g : ℕ) × (h : ℕ) × IsClosestCounting (wiring_of e) allowed g h × StandsWithin e.chart.events x y g h)

-- so none is listed as closest exactly where none counts
abbrev pub NoneIsClosestWhereNoneCounts : Type 0
NoneIsClosestWhereNoneCounts = OfCharts (λ e allowed causes.
    (listed e allowed true causes ≡ []) ↔ (counting e allowed causes ≡ []))

-- where nothing is left out, the closest races that count are the closest races
abbrev pub WithoutKindsTheClosestAreTheClosest : Type 0
WithoutKindsTheClosestAreTheClosest =
    (e : EnforcedChart) → IsEnforced e → IsAccepted e.chart → (allowed : LeftOut) → leaves_none allowed ≡ true
    → (x y : ℕ) → IsClosestCounting (wiring_of e) allowed x y ↔ IsClosest (wiring_of e) x y

-- and what is listed as closest is the list of all closest races, ascending, each once
abbrev pub AllClosestRacesAreListed : Type 0
AllClosestRacesAreListed = OfCharts (λ e allowed causes.
    leaves_none allowed ≡ true → IsClosestList (wiring_of e) (listed e allowed true causes))
