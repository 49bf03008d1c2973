-- What is left out of the races of a scenario, by what the code keeps of marks.
use Rattle.std.proofs.Common.{◌≡◌, ℕ, false, not, List, Option, None, Some, refl, sym, ap, ◌∙◌, ap₂}
use Rattle.std.specs.Borrow.{Bor}
use Rattle.std.specs.Option.{option_copied}
use Rattle.std.specs.List.{filter}
use Rattle.msc_chart.specs.Lists.{Occurs}
use Rattle.msc_race.specs.Views.{races_of}
use Rattle.msc_race.specs.Wired.{EnforcedChart}
use Rattle.msc_reason.proofs.Filtered.{filter_all}
use Rattle.msc_reason.specs.LeftOut.{is_accepted}
use Rattle.msc_reason.specs.PairTables.{has_pair}
use Rattle.msc_reason.specs.declared.kinds.KindSet.{KindSet}
use Rattle.msc_reason.specs.declared.left_out.LeftOut.{LeftOut}
use Rattle.msc_scenario_marks.specs.Idle.{is_used}
use Rattle.msc_diagram.proofs.Clearing.{left_idle}
use Rattle.msc_diagram.specs.Checks.{accepts_in, IsLeft}
use Rattle.msc_diagram.specs.Marked.{uses_by, AreMarkedIf, IsLeftBy}
use Rattle.msc_diagram.specs.Stale.{used_among}
use Rattle.msc_diagram.specs.declared.check.ScenarioCheck.{ScenarioCheck}
use Rattle.msc_diagram.specs.declared.check.UsedMarks.{UsedMarks}
use Rattle.msc_diagram.specs.declared.marked.MarkedRaces.{MarkedRaces}
use Rattle.msc_diagram.specs.declared.scenario.Scenario.{Scenario}

-- what was lent is what is kept
abbrev pub Lends : Option (Bor MarkedRaces) → Option MarkedRaces → Type 0
Lends lent kept = option_copied lent ≡ kept

-- the kinds, and what marks accept of these races
pub record AreLeftIn (marks : Option UsedMarks) (kinds : KindSet) (s : Scenario) (races : List (ℕ × ℕ)) (left : LeftOut) : Type 0 where
  pub kinds_are : left.kinds ≡ kinds
  pub accepted : (p : ℕ × ℕ) → Occurs races p → is_accepted left p ≡ accepts_in marks s p

left_in : (marks : Option UsedMarks) (kinds : KindSet) (s : Scenario) (e : EnforcedChart) (kept : Option MarkedRaces) (lent : Option (Bor MarkedRaces)) (left : LeftOut)
    → AreMarkedIf marks s e kept → Lends lent kept → IsLeftBy kinds lent left → AreLeftIn marks kinds s (races_of e) left
left_in None kinds s e None None left are same is = record { kinds_are = ap (λ (l : LeftOut). l.kinds) is; accepted = λ p there. ap (λ (l : LeftOut). is_accepted l p) is }
left_in None kinds s e None (Some r) left are same is = absurd cc
left_in None kinds s e (Some r) lent left are same is = absurd are
left_in (Some m) kinds s e None lent left are same is = absurd are
left_in (Some m) kinds s e (Some r) None left are same is = absurd cc
left_in (Some m) kinds s e (Some r) (Some b) left are same is =
    let it : b.now ≡ r = cc in
    record {
      kinds_are = is.0;
      accepted = λ p there. is.1 p ∙ ap (λ (x : MarkedRaces). has_pair x.accepted p.0 p.1) it ∙ are.accepted p there;
    }

pub left_known : (q : ScenarioCheck) (s : Scenario) (e : EnforcedChart) (kept : Option MarkedRaces) (lent : Option (Bor MarkedRaces)) (left : LeftOut)
    → AreMarkedIf q.marks s e kept → Lends lent kept → IsLeftBy q.options.allowed lent left → IsLeft q s (races_of e) left
left_known q s e kept lent left are same is =
    let known = left_in q.marks q.options.allowed s e kept lent left are same is in
    record { kinds = known.kinds_are; accepted = known.accepted }

-- and the marks that accept none
idle_in : (marks : Option UsedMarks) (s : Scenario) (e : EnforcedChart) (kept : Option MarkedRaces) (lent : Option (Bor MarkedRaces)) (idle : List ℕ)
    → AreMarkedIf marks s e kept → Lends lent kept → uses_by marks lent idle ≡ filter (λ n. not (used_among marks s (races_of e) n)) idle
idle_in None s e kept lent idle are same = sym (filter_all (λ (n : ℕ). not false) idle (λ n. refl))
idle_in (Some m) s e None lent idle are same = absurd are
idle_in (Some m) s e (Some r) None idle are same = absurd cc
idle_in (Some m) s e (Some r) (Some b) idle are same =
    let it : b.now ≡ r = cc in
    let arrows = ap (λ (x : MarkedRaces). x.arrows.items) it ∙ are.arrows in
    let races = ap (λ (x : MarkedRaces). x.races.items) it ∙ are.races in
    ap₂ (λ (a : List ℕ) (l : List (ℕ × ℕ)). filter (λ n. not (is_used m.accepted.now a m.chosen l n)) idle) arrows races

pub idle_known : (q : ScenarioCheck) (s : Scenario) (e : EnforcedChart) (kept : Option MarkedRaces) (lent : Option (Bor MarkedRaces)) (idle : List ℕ)
    → AreMarkedIf q.marks s e kept → Lends lent kept → uses_by q.marks lent idle ≡ left_idle q s (races_of e) idle
idle_known q s e kept lent idle are same = idle_in q.marks s e kept lent idle are same
