use Rattle.std.proofs.Common.{ap, refl, sym, ◌∙◌}
use Rattle.std.proofs.lemmas.Bool.{not-true}
use Rattle.msc_ready.specs.Held.{wiring_of, ready_in}
use Rattle.msc_ready.proofs.Shared.{clash}
use Rattle.msc_ready.proofs.Begun.Barred.{none_behind, settled_above}
use Rattle.msc_ready.proofs.beginning.Beginning.is_barred.Goals as goal

pub returns-then-instance_of-i : goal.returns-then-instance_of-i
returns-then-instance_of-i c =
    let r = c.args.ready.now in
    let front = c.requires.fronts.front c.args.i c.requires.line in
    let here = rw c.chart.ensures at c.instance_of.ensures in
    record {
      barred = λ h. none_behind (wiring_of r) (ready_in r) c.facts.ensures.chart.in_text_order c.args.self.now.run.items c.args.x c.requires.known c.args.i _ front c.requires.later
          (λ on. c.if-instance_of-i.true (here ∙ on));
      on_line = λ never. clash refl never;
    }

pub returns-clause-barred : goal.returns-clause-barred
returns-clause-barred c = λ h y past same may.
    let r = c.args.ready.now in
    let on = sym (rw c.chart.ensures at c.instance_of.ensures) ∙ c.if-instance_of-i.false in
    let set = ap (ready_in r) same ∙ sym c.is_ready.ensures ∙ c.if-not-is_ready.false in
    clash (c.is_settled.ensures.1
    (settled_above (wiring_of r) (ready_in r) c.facts.ensures.chart.in_text_order c.args.self.now.run.items c.args.x c.requires.known y past (same ∙ sym on) set may)) (not-true _ h)
