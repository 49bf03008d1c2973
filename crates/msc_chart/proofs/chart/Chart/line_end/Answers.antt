use Rattle.std.proofs.Common.{◌≡◌, ◌≤◌, arith}
use Rattle.msc_chart.specs.Charts.{line}
use borrow.Author.Count.{below_more}
use Rattle.msc_chart.proofs.chart.Chart.line_end.Goals as goal

pub loop-f-preserved : goal.loop-f-preserved
loop-f-preserved c = λ g above below.
    below_more (λ g. c.args.e ≤ g → line c.args.self.now.events c.args.e ≡ line c.args.self.now.events g) c.loop-f.f
    (λ k k_f e_k. c.loop-f.invariant k e_k k_f) (λ _. omega arith) g below above
