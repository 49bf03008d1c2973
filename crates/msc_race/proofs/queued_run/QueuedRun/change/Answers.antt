use Rattle.std.proofs.Common.{◌≡◌, ℕ, List, [], ◌∷◌, ◌++◌, sym, subst, ◌∙◌}
use Rattle.msc_chart.specs.Runs.{state}
use Rattle.msc_race.specs.Choices.{wired_chart}
use Rattle.msc_race.specs.QueuedRuns.{AreQueues}
use Rattle.msc_race.proofs.Runs.EventLemmas.{input_from_not, output_not_local}
use Rattle.msc_race.proofs.Making.StateLemmas.{state_passed}
use Rattle.msc_race.proofs.queued_run.QueuedRun.change.Goals as goal

pub send-requires-clause-coming : goal.send-requires-clause-coming
send-requires-clause-coming c = record {
  is_wired = c.ends_share_queues.ensures c.args.choice.now.wiring.queues c.args.choice.now.wiring.chart.now c.requires.settled.accepted;
  run = c.requires.run;
  may = c.requires.may;
  were = c.requires.queues;
  message = output_not_local c.args.choice.now.wiring.chart.now.events c.args.x (sym c.is_output.ensures ∙ c.if-is_output.true);
}

pub take-requires-clause-coming : goal.take-requires-clause-coming
take-requires-clause-coming c = record {
  is_wired = c.ends_share_queues.ensures c.args.choice.now.wiring.queues c.args.choice.now.wiring.chart.now c.requires.settled.accepted;
  run = c.requires.run;
  may = c.requires.may;
  were = c.requires.queues;
  message = sym c.is_local.ensures ∙ c.if-not-is_local.true;
}

pub take-requires-clause-input : goal.take-requires-clause-input
take-requires-clause-input c =
    input_from_not c.args.choice.now.wiring.chart.now.events c.args.x c.requires.may.event (sym c.is_output.ensures ∙ c.if-is_output.false)
    (sym c.is_local.ensures ∙ c.if-not-is_local.true)

pub returns-else-not-is_local-clause-queues : goal.returns-else-not-is_local-clause-queues
returns-else-not-is_local-clause-queues c =
    let choice = c.args.choice.now in
    let self = c.args.self.now in
    let chart = wired_chart choice in
    let past = self.run.items in
    let is_wired = c.ends_share_queues.ensures choice.wiring.queues choice.wiring.chart.now c.requires.settled.accepted in
    let local = sym c.is_local.ensures ∙ c.if-not-is_local.false in
    let same : (q : ℕ) → state chart q (past ++ c.args.x ∷ []) ≡ state chart q past =
    state_passed chart past c.args.x is_wired c.requires.run c.requires.may local in
    subst (λ (queues : ℕ → List ℕ). AreQueues chart queues self.heads.items self.lasts.items self.next.items self.inputs)
    (λ k. λ q. sym (same q) k) c.requires.queues
