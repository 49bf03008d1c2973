use Rattle.std.proofs.Common.{arith, sym, ◌∙◌}
use Rattle.msc_instance.proofs.Sendings.{nothing_stopped, ended_stopped, logged_stopped, foreign_stopped}
use Rattle.msc_instance.proofs.Rounds.{turn_nothing, turn_busy, all_idle, some_found}
use Rattle.msc_instance.proofs.active.Active.take_each.Goals.{in-Nothing, in-Ended, in-Logged}
use Rattle.msc_instance.proofs.active.Active.take_each.Goals as goal

pub loop-k-preserved : goal.loop-k-preserved
loop-k-preserved g c =
    elim c.match-take.branch [
      | in-Nothing w ↦ let took = w.in-Nothing.ensures.took in
          record {
            turn = rw w.found-is (turn_nothing _ _ _ _ _ _ _ c.loop-k.invariant.turn
                c.take.ensures.inlets took.0 took.1 took.2);
            asked = λ all. c.take.ensures.asked (λ is. nothing_stopped (sym w.in-Nothing.is ∙ is)) (c.loop-k.invariant.asked all);
          }
      | in-Ended w ↦ let took = w.in-Ended.ensures.took in
          record {
            turn = rw w.found-is (turn_busy _ _ _ _ _ _ _ c.loop-k.invariant.turn c.take.ensures.inlets
                took.0 took.1 took.2);
            asked = λ all. c.take.ensures.asked (λ is. ended_stopped (sym w.in-Ended.is ∙ is)) (c.loop-k.invariant.asked all);
          }
      | in-Logged w ↦ let took = w.in-Logged.ensures.took in
          record {
            turn = rw w.found-is (turn_busy _ _ _ _ _ _ _ c.loop-k.invariant.turn c.take.ensures.inlets
                took.0 took.1 took.2);
            asked = λ all. c.take.ensures.asked (λ is. logged_stopped (sym w.in-Logged.is ∙ is)) (c.loop-k.invariant.asked all);
          }
    ]

pub returns-else-found-clause-took : goal.returns-else-found-clause-took
returns-else-found-clause-took g c =
    let turn = c.loop-k.invariant.turn in
    let quiet = turn.quiet c.if-found.false in
    (turn.sound, all_idle _ _ c.loop-k.k _ _ turn.inlets (omega arith) quiet, quiet.same)

pub returns-then-found-clause-took : goal.returns-then-found-clause-took
returns-then-found-clause-took g c =
    let turn = c.loop-k.invariant.turn in (
      turn.sound,
      turn.busy c.if-found.true,
      some_found c.args.chart.now c.args.post.now
          c.loop-k.k c.loop-k.self (omega (arith, turn.inlets)) (turn.below c.if-found.true),
    )

pub returns-in-Stopped-clause-last : goal.returns-in-Stopped-clause-last
returns-in-Stopped-clause-last g c = λ _ all. c.take.ensures.last c.in-Stopped.is (c.loop-k.invariant.asked all)

pub returns-in-Foreign-clause-asked : goal.returns-in-Foreign-clause-asked
returns-in-Foreign-clause-asked g c = λ _ all.
    c.take.ensures.asked (λ is. foreign_stopped (sym c.in-Foreign.is ∙ is)) (c.loop-k.invariant.asked all)
