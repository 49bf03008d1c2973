-- No answer on a chart or on one diagram ends as a refusal.
use Rattle.std.proofs.Common.{◌≡◌, ℕ, Bool, true, false, List, sym, ap, ◌∙◌}
use Rattle.msc_diagram.specs.declared.scenario.Scenario.{Scenario}
use Rattle.msc_answer.specs.Ending.{ended_by, finished_by}
use Rattle.msc_answer.specs.Scenarios.{PrintsAll}
use Rattle.msc_answer.specs.declared.ending.Status.TheVariants.{Refused}
use Rattle.msc_answer.specs.declared.scenarios.Surveyed.{Surveyed}
use Rattle.msc_answer.specs.declared.scenarios.Told.{Told}
use Rattle.msc_answer.specs.declared.tasks.CheckArgs.{CheckArgs}

-- no run that tells whether something holds ends as refused
pub never_ended : (holds : Bool) → Refused ≡ ended_by holds → ⊥
never_ended true same = cc
never_ended false same = cc

-- and none of a chart that is run
pub never_finished : (finished : Bool) → Refused ≡ finished_by finished → ⊥
never_finished true same = cc
never_finished false same = cc

-- and none of scenarios
pub never_surveyed : (quiet : Bool) (c : CheckArgs) (t : Told) (ss : List Scenario) (printed : List ℕ) → PrintsAll quiet c t ss Refused printed → ⊥
never_surveyed true c t ss printed (one, ends, (marks, used, (passed, same, says, none))) = never_ended passed (sym ends ∙ ap (λ (s : Surveyed). s.status) same)
never_surveyed false c t ss printed (one, ends, (marks, used, (format, its, judged, same, says))) = never_ended _ (sym ends ∙ ap (λ (s : Surveyed). s.status) same)
