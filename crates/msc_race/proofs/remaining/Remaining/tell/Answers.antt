use Rattle.std.proofs.Common.{true, sym, ◌∙◌, refl}
use Rattle.std.proofs.lemmas.List.{with_items_is}
use Rattle.msc_chart.specs.Witness.{IsFree, IsHeld}
use Rattle.msc_order.specs.Tables.{orders}
use Rattle.msc_race.specs.Choices.{wired_chart}
use Rattle.msc_race.specs.Remainders.{IsPassedOnWith}
use Rattle.msc_race.proofs.Runs.FreeFirst.{held_queue}
use Rattle.msc_race.proofs.Runs.FreeRuns.{test_of_held}
use Rattle.msc_race.proofs.Shared.{clash}
use Rattle.msc_race.proofs.Making.RemainderLemmas.{below_same, below_with, others_same, others_without}
use Rattle.msc_race.proofs.remaining.Remaining.tell.Goals as goal

pub returns-then-not-is_free_with-clause-told : goal.returns-then-not-is_free_with-clause-told
returns-then-not-is_free_with-clause-told c =
    let choice = c.args.choice.now in
    let chart = wired_chart choice in
    let settled = c.requires.settled in
    let told = c.requires.told in
    let is_wired = c.ends_share_queues.ensures choice.wiring.queues choice.wiring.chart.now settled.accepted in
    let table = orders choice.order.now in
    record {
      free = told.free;
      unheld = others_same _ (IsFree chart choice.e) (IsHeld chart choice.e) c.args.x told.unheld (λ held.
          let in_queue = held_queue chart is_wired table settled.enforced choice.e settled.known c.args.x (test_of_held chart table settled.enforced choice.e settled.known c.args.x held) in
          clash (c.is_free_with.ensures.1 (held.0, held.1, in_queue.0, sym in_queue.1)) c.if-not-is_free_with.true);
      passed = below_same _ (IsPassedOnWith chart choice.e) c.args.x told.passed (λ p. clash (c.is_free_with.ensures.1 (p.0.0, p.0.1, p.1, p.2)) c.if-not-is_free_with.true);
    }

pub returns-then-is_free-clause-told : goal.returns-then-is_free-clause-told
returns-then-is_free-clause-told c =
    let choice = c.args.choice.now in
    let chart = wired_chart choice in
    let told = c.requires.told in
    let with_e = c.is_free_with.ensures.0 c.if-not-is_free_with.false in
    let partner_free = (rw c.other_end.ensures.value at c.is_free.ensures).0 c.if-is_free.true in
    let passed = with_items_is c.args.self.now.passed c.put.new.row (c.put.auto.row ∙ c.deref_mut.ensures.len) in
    record {
      free = told.free;
      unheld = others_same _ (IsFree chart choice.e) (IsHeld chart choice.e) c.args.x told.unheld (λ held. held.2 partner_free);
      passed = rw passed (below_with _ _ (IsPassedOnWith chart choice.e) c.args.x true told.passed (rw c.deref_mut.ensures.value at c.put.ensures)
          (λ h. ((with_e.0, with_e.1, partner_free), with_e.2, with_e.3), λ p. refl));
    }

pub returns-else-is_free-clause-told : goal.returns-else-is_free-clause-told
returns-else-is_free-clause-told c =
    let choice = c.args.choice.now in
    let chart = wired_chart choice in
    let told = c.requires.told in
    let with_e = c.is_free_with.ensures.0 c.if-not-is_free_with.false in
    let is_free = rw c.other_end.ensures.value at c.is_free.ensures in
    let unheld = with_items_is c.args.self.now.unheld c.clear.new.row (c.clear.auto.row ∙ c.deref_mut-else-is_free.ensures.len) in
    record {
      free = told.free;
      unheld = rw unheld (others_without _ _ (IsFree chart choice.e) (IsHeld chart choice.e) c.args.x told.unheld (rw c.deref_mut-else-is_free.ensures.value at c.clear.ensures)
          (with_e.0, with_e.1, λ f. clash (is_free.1 f) c.if-is_free.false));
      passed = below_same _ (IsPassedOnWith chart choice.e) c.args.x told.passed (λ p. clash (is_free.1 p.0.2) c.if-is_free.false);
    }
