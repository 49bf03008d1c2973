use Rattle.std.proofs.Common.{ℕ, List}
use Rattle.std.specs.Prelude.{Option, None, Some, MatchOption}
use Rattle.msc_chart.specs.Lists.{IsLeast}
use Rattle.msc_ready.specs.declared.running.Among.TheVariants.{InTurn}
use Rattle.msc_ready.specs.Finishing.{MayComeInTurn}
use Rattle.msc_ready.specs.Held.{ReadyChart, wiring_of, ready_in}
use Rattle.msc_ready.specs.Looking.{ComesAmong}
use Rattle.msc_ready.proofs.beginning.Beginning.next_in_turn.Goals as goal

-- what comes among the events in turn is what may come in turn
turned : (r : ReadyChart) (past : List ℕ) (found : Option ℕ)
    → MatchOption found ((x : ℕ) → ComesAmong (wiring_of r) (ready_in r) InTurn past x → ⊥) (IsLeast (ComesAmong (wiring_of r) (ready_in r) InTurn past))
    → MatchOption found ((x : ℕ) → MayComeInTurn (wiring_of r) (ready_in r) past x → ⊥) (IsLeast (MayComeInTurn (wiring_of r) (ready_in r) past))
turned r past None none = λ x comes. none x (comes.turn, comes.may)
turned r past (Some y) least = record {
  itself = record { may = least.itself.1; turn = least.itself.0 };
  none_below = λ x less comes. least.none_below x less (comes.turn, comes.may);
}

pub returns : goal.returns
returns c = turned c.args.ready.now c.args.self.now.run.items c.least_next.result c.least_next.ensures
