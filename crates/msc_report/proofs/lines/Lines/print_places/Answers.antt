use Rattle.std.proofs.Common.{arith, length}
use Rattle.msc_report.specs.Fitting.{ArePlacesIn}
use Rattle.msc_report.specs.Styles.{event_positions_in}
use Rattle.msc_report.proofs.MadeEventPositions.{at_made, places_size}
use Rattle.msc_report.proofs.lines.Lines.print_places.Goals as goal

pub print_line-requires : goal.print_line-requires
print_line-requires c =
    let places : ArePlacesIn (event_positions_in c.args.self.now.style) (length c.args.chart.now.events) c.in-Some.places = rw c.in-Some.is at c.requires.fits.places in
    let size = places_size (event_positions_in c.args.self.now.style) _ c.in-Some.places places in
    record {
      e_known = omega (arith, size, c.requires.e_known);
      f_known = omega (arith, size, c.requires.f_known);
    }

pub returns-in-Some : goal.returns-in-Some
returns-in-Some c =
    let places : ArePlacesIn (event_positions_in c.args.self.now.style) (length c.args.chart.now.events) c.in-Some.places = rw c.in-Some.is at c.requires.fits.places in
    at_made (event_positions_in c.args.self.now.style) _ c.args.e c.args.f c.in-Some.places c.print_line.result c.args.page.now.bytes.items _ places c.print_line.ensures
