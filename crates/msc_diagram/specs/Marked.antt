-- What the code keeps of the races of a scenario with the marks of its diagram.
use Rattle.std.specs.Prelude.{◌≡◌, ℕ, not, List, Option, None, Some}
use Rattle.std.specs.Borrow.{Bor}
use Rattle.std.specs.List.{filter}
use Rattle.msc_chart.specs.Lists.{Occurs}
use Rattle.msc_race.specs.Views.{races_of}
use Rattle.msc_race.specs.Wired.{EnforcedChart}
use Rattle.msc_reason.specs.LeftOut.{is_accepted, of_kinds}
use Rattle.msc_reason.specs.PairTables.{has_pair}
use Rattle.msc_reason.specs.declared.kinds.KindSet.{KindSet}
use Rattle.msc_reason.specs.declared.left_out.LeftOut.{LeftOut}
use Rattle.msc_scenario_marks.specs.Accepting.{accepts_race}
use Rattle.msc_scenario_marks.specs.Idle.{is_used}
use Rattle.msc_diagram.specs.Checks.{arrows_in}
use Rattle.msc_diagram.specs.declared.check.UsedMarks.{UsedMarks}
use Rattle.msc_diagram.specs.declared.marked.MarkedRaces.{MarkedRaces}
use Rattle.msc_diagram.specs.declared.scenario.Scenario.{Scenario}

-- these are the races of a scenario with these marks
pub record AreMarked (m : UsedMarks) (s : Scenario) (e : EnforcedChart) (r : MarkedRaces) : Type 0 where
  pub arrows : r.arrows.items ≡ arrows_in m s
  pub races : r.races.items ≡ races_of e
  pub accepted : (p : ℕ × ℕ) → Occurs (races_of e) p → has_pair r.accepted p.0 p.1 ≡ accepts_race m.accepted.now (arrows_in m s) p

-- they are kept if marks are used
abbrev pub AreMarkedIf : Option UsedMarks → Scenario → EnforcedChart → Option MarkedRaces → Type 0
AreMarkedIf None s e None = Unit {0}
AreMarkedIf (Some m) s e (Some r) = AreMarked m s e r
AreMarkedIf None s e (Some r) = ⊥
AreMarkedIf (Some m) s e None = ⊥

-- what is left out: kinds, and the accepted races if some are known
abbrev pub IsLeftBy : KindSet → Option (Bor MarkedRaces) → LeftOut → Type 0
IsLeftBy kinds None left = left ≡ of_kinds kinds
IsLeftBy kinds (Some r) left =
    (left.kinds ≡ kinds) × ((p : ℕ × ℕ) → is_accepted left p ≡ has_pair r.now.accepted p.0 p.1)

-- those of these marks that accept none of these races
abbrev pub idle_by : UsedMarks → MarkedRaces → List ℕ → List ℕ
idle_by m r idle = filter (λ n. not (is_used m.accepted.now r.arrows.items m.chosen r.races.items n)) idle

abbrev pub uses_by : Option UsedMarks → Option (Bor MarkedRaces) → List ℕ → List ℕ
uses_by None r idle = idle
uses_by (Some m) None idle = idle
uses_by (Some m) (Some r) idle = idle_by m r.now idle
