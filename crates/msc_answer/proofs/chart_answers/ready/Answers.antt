use Rattle.std.proofs.Common.{rules}
use Rattle.msc_answer.proofs.chart_answers.ready.Goals as goal

pub print_ready-requires : goal.print_ready-requires
print_ready-requires g c = record {
  only = rw (c.chart-chart.ensures, ← c.lent-only.ensures) at c.in_ok-lines.ensures;
  rounds = search rules;
}
