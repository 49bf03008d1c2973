use Rattle.std.proofs.Common.{not, rules}
use Rattle.std.proofs.lemmas.Fn.{filter_same}
use Rattle.msc_scenario_marks.specs.Idle.{is_used}
use Rattle.msc_scenario_marks.proofs.accepting.ScenarioMarks.keep_idle.Goals as goal

pub returns : goal.returns
returns c =
    filter_same _ (λ k. not (is_used c.args.self.accepted.now c.args.self.arrows.now c.args.chosen c.args.races.now k)) _ (λ x b f' k. search rules) _ _ c.retain.ensures.filtered
