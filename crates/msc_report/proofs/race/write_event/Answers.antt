use Rattle.std.proofs.Common.{sym, ap, ◌∙◌}
use Rattle.std.specs.Option.{option_copied}
use Rattle.msc_chart.specs.Charts.{kind, is_local}
use Rattle.msc_chart.specs.Drawings.{label_of}
use Rattle.msc_chart.proofs.Drawn.{local_parts}
use Rattle.msc_report.proofs.KindLemmas.{kind_acts, label_told}
use Rattle.msc_report.proofs.race.write_event.Goals as goal

pub returns-in-Some : goal.returns-in-Some
returns-in-Some g c =
    let d = c.args.chart.now in
    let e = c.args.e in
    let told = label_told (is_local d.events e) c.in-Some.label.now (label_of d e) (ap option_copied (sym c.in-Some.is) ∙ c.label.ensures) in
    rw (kind_acts (kind d.events e) (local_parts d.events e told.0).1, sym told.1) c.write_action.ensures
