use Rattle.std.proofs.Common.{◌≡◌, ◌<◌, Some, slice_get, option_map, ap, length, subst, sym, ◌∙◌}
use Rattle.std.proofs.lemmas.List.{length-map}
use Rattle.std.proofs.lemmas.Option.{slice_get-map}
use Rattle.msc_answer.specs.Charting.{with_chart}
use Rattle.msc_answer.proofs.scenarios.ChartsSource.scenario.Goals as goal

pub scenario-requires : goal.scenario-requires
scenario-requires c =
    let x = c.self.inside in
    subst (λ n. c.args.i < n) (sym (sym (length-map x.drawings (with_chart x.file.now)) ∙ ap length c.self.view_is)) c.requires

pub returns-in-Ok : goal.returns-in-Ok
returns-in-Ok c =
    let x = c.self.inside in
    let its = with_chart x.file.now in
    subst (λ all. slice_get all c.args.i ≡ Some c.made.result) c.self.view_is
    (slice_get-map its x.drawings c.args.i ∙ ap (option_map its) c.in_ok-drawn.ensures.given ∙ ap Some (sym (c.made.ensures ∙ c.in-Ok.ensures.1)))
