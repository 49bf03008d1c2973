-- Which races count, and which of them are listed.
use Rattle.std.specs.Prelude.{ℕ, Bool, ◌&&◌, ◌||◌, not, List, nat_eq}
use Rattle.std.specs.List.{filter, list_any}
use Rattle.msc_chart.specs.declared.event.ChartEvent.{ChartEvent}
use Rattle.msc_chart.specs.Charts.{before}
use Rattle.msc_chart.specs.Orders.{IsRace}
use Rattle.msc_race.specs.Views.{races_of, wiring_of}
use Rattle.msc_race.specs.Wired.{EnforcedChart}
use Rattle.msc_reason.specs.Kinds.{has_kind}
use Rattle.msc_reason.specs.Causes.{IsCauseOf}
use Rattle.msc_reason.specs.LeftOut.{is_accepted}
use Rattle.msc_reason.specs.declared.left_out.LeftOut.{LeftOut}
use Rattle.msc_reason.specs.declared.cause.Cause.{Cause}

-- what each race lacks
abbrev pub AreCauses : EnforcedChart → (ℕ → ℕ → Cause) → Type 0
AreCauses e causes = (x y : ℕ) → IsRace (wiring_of e) x y → IsCauseOf (wiring_of e) x y (causes x y)

-- a race counts where it is not accepted, and of no kind that is left out
abbrev pub counts : LeftOut → (ℕ → ℕ → Cause) → ℕ × ℕ → Bool
counts allowed causes p = not (is_accepted allowed p) && not (has_kind allowed.kinds (causes p.0 p.1).kind)

-- the races that count, ascending
abbrev pub counting : EnforcedChart → LeftOut → (ℕ → ℕ → Cause) → List (ℕ × ℕ)
counting e allowed causes = filter (counts allowed causes) (races_of e)

-- q is another pair than p and stands within it: its first event is that of p or drawn after it,
-- and its second event is that of p or drawn before it
unfoldable pub is_within : List ChartEvent → ℕ × ℕ → ℕ × ℕ → Bool
is_within events p q =
    ((nat_eq q.0 p.0 || before events p.0 q.0) && (nat_eq q.1 p.1 || before events q.1 p.1))
    && not (nat_eq q.0 p.0 && nat_eq q.1 p.1)

-- no other pair of the list stands within p
abbrev pub is_alone : List ChartEvent → List (ℕ × ℕ) → ℕ × ℕ → Bool
is_alone events pairs p = not (list_any (is_within events p) pairs)

-- a race is listed where it counts and, where the closest races alone are, no other one that counts
-- stands within it
abbrev pub is_listed : EnforcedChart → LeftOut → Bool → (ℕ → ℕ → Cause) → ℕ × ℕ → Bool
is_listed e allowed closest causes p =
    counts allowed causes p && (not closest || is_alone e.chart.events (counting e allowed causes) p)

-- the races that are listed, ascending
abbrev pub listed : EnforcedChart → LeftOut → Bool → (ℕ → ℕ → Cause) → List (ℕ × ℕ)
listed e allowed closest causes = filter (is_listed e allowed closest causes) (races_of e)
