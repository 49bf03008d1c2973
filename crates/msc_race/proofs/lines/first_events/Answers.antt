use Rattle.std.proofs.Common.{◌≡◌, ◌+◌, ◌-◌, ◌<◌, length, ◌∙◌, arith}
use Rattle.std.proofs.lemmas.List.{length-set}
use Rattle.msc_race.proofs.Making.StartLemmas.{first_sooner}
use Rattle.msc_race.proofs.lines.first_events.Goals as goal

pub loop-k-preserved : goal.loop-k-preserved
loop-k-preserved c =
    let d = c.args.choice.now.wiring.chart.now in
    let firsts = c.loop-k.firsts.items in
    let x = c.events-events.result - 1 - c.loop-k.k in
    let number = c.events-events.ensures.number in
    let some = c.loop-k-test.true in
    let known : x < length d.events = omega (arith, number, some) in
    let held = c.loop-k.invariant.0 in
    let lines = c.requires.accepted.on_lines.on_line x known in
    let here = c.instance_of.ensures in (
      length-set firsts c.instance_of.result x ∙ held,
      λ start total i below.
          let is : start ≡ x = omega (arith, number, some, total) in
          let before = c.loop-k.invariant.1 (start + 1) (omega (arith, total)) i below in
          rw (is, here) (first_sooner d.events firsts x i known (omega (arith, held, lines)) (rw is at before)),
    )

pub returns-clause-first : goal.returns-clause-first
returns-clause-first c =
    let number = c.events-events.ensures.number in
    let out = c.loop-k-test.false in
    let last = c.loop-k.auto.k-end in
    c.loop-k.invariant.1 0 (omega (arith, number, out, last))
