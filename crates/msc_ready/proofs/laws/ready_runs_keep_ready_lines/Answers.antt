use Rattle.std.proofs.Common.{refl}
use Rattle.msc_chart.specs.Orders.{wired}
use Rattle.msc_chart.specs.Precedence.{all_ready}
use Rattle.msc_ready.proofs.Runs.Lines.{lines_of_run, run_of_lines}
use Rattle.msc_ready.proofs.laws.ready_runs_keep_ready_lines.Goals as goal

pub returns : goal.returns
returns c = record {
  lines = λ queues d ready events. (
    lines_of_run (wired queues d) ready events,
    λ both. run_of_lines (wired queues d) ready events both.0 both.1,
  );
  all = λ queues d events. (
    λ run.
        let both = lines_of_run (wired queues d) all_ready events run in
        (both.0, λ x y b there. both.1 x y b refl there),
    λ both. run_of_lines (wired queues d) all_ready events both.0 (λ x y b set there. both.1 x y b there),
  );
}
