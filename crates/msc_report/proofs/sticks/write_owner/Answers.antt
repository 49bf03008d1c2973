use Rattle.msc_chart.proofs.KindTests.{input_below}
use Rattle.msc_report.proofs.sticks.write_owner.Goals as goal

pub instance_of-requires : goal.instance_of-requires
instance_of-requires g c = input_below c.args.chart.now.events c.args.e c.requires

pub write_instance-requires : goal.write_instance-requires
write_instance-requires g c =
    rw c.instance_of.ensures (c.facts.ensures.on_lines.on_line c.args.e (input_below c.args.chart.now.events c.args.e c.requires))
