use Rattle.std.proofs.Common.{ℕ, refl, arith}
use Rattle.std.proofs.lemmas.Bool.{not-true, not_from_false, false_from_ne_true}
use Rattle.msc_chart.specs.Charts.{line}
use Rattle.msc_ready.proofs.Shared.{clash}
use Rattle.msc_ready.proofs.Begun.Fronts.{front_not_before, front_read, settled_by}
use Rattle.msc_ready.proofs.beginning.Beginning.is_settled.Goals as goal

pub returns-then-front-events : goal.returns-then-front-events
returns-then-front-events c =
    let d = c.args.ready.now.chart in
    let run = c.args.self.now.run.items in
    let x : ℕ = c.args.x in
    let i = rw c.chart-chart.ensures at c.instance_of.ensures in
    let on = c.facts.ensures.chart.on_lines.on_line x c.requires.known in
    let number = rw c.chart-chart.ensures at c.events.ensures.number in
    let front = front_read d run c.args.self.now.fronts.items c.instance_of.result (line d.events x) c.index-front.result.now c.requires.fronts on i c.index-front.ensures in
    let past = c.if-front-events.true in (
      λ h. settled_by d.events c.facts.ensures.chart.in_text_order run x c.index-front.result.now front (λ less b. omega (arith, less, past, number)),
      λ all. refl,
    )

pub returns : goal.returns
returns c =
    let d = c.args.ready.now.chart in
    let run = c.args.self.now.run.items in
    let x : ℕ = c.args.x in
    let i = rw c.chart-chart.ensures at c.instance_of.ensures in
    let on = c.facts.ensures.chart.on_lines.on_line x c.requires.known in
    let front = front_read d run c.args.self.now.fronts.items c.instance_of.result (line d.events x) c.index-front.result.now c.requires.fronts on i c.index-front.ensures in
    let told = rw c.chart-chart.ensures at c.before-2.ensures in (
      λ h. settled_by d.events c.facts.ensures.chart.in_text_order run x c.index-front.result.now front (λ less b. clash (told.1 b) (not-true _ h)),
      λ all. not_from_false _ (false_from_ne_true _ (λ b. front_not_before d.events c.facts.ensures.chart.in_text_order run x c.index-front.result.now front all (told.0 b))),
    )
