use Rattle.std.proofs.Common.{ℕ, ◌≤◌, inl, inr, arith}
use Rattle.std.proofs.lemmas.Bool.{cases_lt}
use Rattle.msc_chart.specs.Charts.{line}
use Rattle.msc_ready.proofs.beginning.Beginning.least_next.Goals as goal

pub returns-in-Some : goal.returns-in-Some
returns-in-Some c =
    let d = c.args.ready.now.chart in
    let least = c.in-Some.ensures in
    let x : ℕ = c.in-Some.x in
    let on = least.itself.0 in
    record {
      itself = least.itself.1;
      none_below = λ y less comes.
          let low : line d.events y ≤ line d.events x = c.facts.ensures.chart.in_text_order.lines y x (omega (arith, less)) least.itself.1.1.may.event in
          elim (cases_lt (line d.events y) c.loop-i.i) [
            | inl before ↦ c.loop-i.invariant y before comes
            | inr past ↦ least.none_below y less (omega (arith, past, low, on), comes)
          ];
    }

pub loop-i-preserved : goal.loop-i-preserved
loop-i-preserved c = λ y below comes. elim (cases_lt (line c.args.ready.now.chart.events y) c.loop-i.i) [
  | inl before ↦ c.loop-i.invariant y before comes
  | inr past ↦ c.in_default.ensures y (omega (arith, past, below), comes)
]

pub returns : goal.returns
returns c = λ x comes.
    let on = c.facts.ensures.chart.on_lines.on_line x comes.1.may.event in
    let last = c.loop-i-test.false in
    let all = rw c.chart.ensures at c.instances-i-end.ensures.number in
    c.loop-i.invariant x (omega (arith, on, last, all)) comes
