use Rattle.msc_chart.proofs.Drawn.{input_not_local}
use Rattle.msc_chart.proofs.KindTests.{input_below}
use Rattle.msc_report.proofs.sticks.write_coming.Goals as goal

pub write_signal-requires-clause-known : goal.write_signal-requires-clause-known
write_signal-requires-clause-known g c = input_below c.args.chart.now.events c.args.e c.requires

pub write_signal-requires-clause-message : goal.write_signal-requires-clause-message
write_signal-requires-clause-message g c = input_not_local c.args.chart.now.events c.args.e c.requires
