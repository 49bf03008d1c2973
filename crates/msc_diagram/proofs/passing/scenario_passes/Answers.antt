use Rattle.std.proofs.Common.{◌∙◌}
use Rattle.msc_diagram.proofs.Clearing.{answer_holds, case_passes}
use Rattle.msc_diagram.proofs.Leaving.{idle_known, left_known}
use Rattle.msc_diagram.specs.Judging.{PassesCase}
use Rattle.msc_diagram.proofs.passing.scenario_passes.Goals as goal

pub returns : goal.returns
returns c =
    let e = c.in_ok-enforced.enforced in
    let s = c.args.scenario.now in
    let q = c.args.check in
    let old = c.args.idle.now.items in
    let new = c.keep_idle.new.idle.items in
    let left = c.left_out-left.result in
    answer_holds _ (PassesCase s q old new) c.none_counts.result
    (λ none told. case_passes q s left old new none e c.in_ok-enforced.ensures.chart c.in_ok-enforced.ensures.queues
    c.the_witness_reverses.ensures.exists c.short_witnesses_show.ensures.exists (record {
      is = c.facts.ensures.order;
      accepted = c.facts.ensures.chart;
      left_is = left_known q s e c.in_ok-marked.marked c.as_ref-2.result left c.in_ok-marked.ensures c.as_ref-2.ensures.value c.left_out-left.ensures;
      told = told;
      idle = c.keep_idle.ensures ∙ idle_known q s e c.in_ok-marked.marked c.as_ref.result old c.in_ok-marked.ensures c.as_ref.ensures.value;
    })) c.none_counts.ensures
