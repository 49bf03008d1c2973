use Rattle.std.proofs.Common.{Ok, Err, ap, ◌∙◌, inl, subst}
use Rattle.std.proofs.lemmas.Result.{err_from_is_err_and}
use Rattle.msc_print.proofs.Putting.{begins_none}
use Rattle.msc_reason.specs.Counting.{listed}
use Rattle.msc_reason.specs.Marked.{cause_in}
use Rattle.msc_reason.specs.Selected.{Selected}
use Rattle.msc_diagram.proofs.Knowing.{case_put, case_stops, known_of, IsToldOf}
use Rattle.msc_diagram.proofs.Leaving.{left_known}
use Rattle.msc_diagram.specs.Places.{above_with}
use Rattle.msc_diagram.proofs.cases.print_case.Goals as goal

pub returns-in_err-listing : goal.returns-in_err-listing
returns-in_err-listing g c =
    let exit = err_from_is_err_and c.from_residual-in_err-listing.result c.from_residual-in_err-listing.ensures.1 in
    rw (exit.1, exit.2) (inl (begins_none _ _))

pub returns-in_err-print_in_format : goal.returns-in_err-print_in_format
returns-in_err-print_in_format g c =
    let exit = err_from_is_err_and c.from_residual-in_err-print_in_format.result c.from_residual-in_err-print_in_format.ensures.1 in
    let e = c.in_ok-enforced.enforced in
    let a = c.args.asked in let s = c.args.scenario.now in let above = c.args.reported.now in
    let left = c.left_out-left.result in
    let races = c.count_races-races.result in let count = c.in_ok-counting.counting in
    let before = g.W.Write.contents c.args.writer.now in let after = g.W.Write.contents c.print_in_format.new.writer in
    let old = c.args.page.now.bytes.items in let new = c.print_in_format.new.page.bytes.items in
    let f = c.in_err-print_in_format.field-0.0 in
    rw (exit.1, exit.2) (case_stops a c.args.number s left above c.print_in_format.new.reported races count f before after old new new e
    (known_of a c.args.number s left above races count (Err f) before after old new c.the_witness_reverses.ensures.exists c.short_witnesses_show.ensures.exists e c.in_ok-enforced.ensures.chart c.in_ok-enforced.ensures.queues (record {
      is = c.facts.ensures.order;
      accepted = c.facts.ensures.chart;
      left_is = left_known a.check s e c.in_ok-marked.marked c.as_ref.result left c.in_ok-marked.ensures c.as_ref.ensures.value c.left_out-left.ensures;
      raced = c.count_races-races.ensures;
      counted = c.in_ok-counting.ensures.count;
      put = subst (IsToldOf a c.args.number s left above races count (Err f) before after old new) c.in_ok-listing.ensures c.in_err-print_in_format.ensures.put;
    })))

pub returns : goal.returns
returns g c =
    let e = c.in_ok-enforced.enforced in
    let a = c.args.asked in let s = c.args.scenario.now in let above = c.args.reported.now in
    let left = c.left_out-left.result in
    let races = c.count_races-races.result in let count = c.in_ok-counting.counting in
    let before = g.W.Write.contents c.args.writer.now in let after = g.W.Write.contents c.print_in_format.new.writer in
    let old = c.args.page.now.bytes.items in let new = c.print_in_format.new.page.bytes.items in
    case_put a c.args.number s left above c.print_in_format.new.reported races count tt before after old new e
    (known_of a c.args.number s left above races count (Ok tt) before after old new c.the_witness_reverses.ensures.exists c.short_witnesses_show.ensures.exists e c.in_ok-enforced.ensures.chart c.in_ok-enforced.ensures.queues (record {
      is = c.facts.ensures.order;
      accepted = c.facts.ensures.chart;
      left_is = left_known a.check s e c.in_ok-marked.marked c.as_ref.result left c.in_ok-marked.ensures c.as_ref.ensures.value c.left_out-left.ensures;
      raced = c.count_races-races.ensures;
      counted = c.in_ok-counting.ensures.count;
      put = subst (IsToldOf a c.args.number s left above races count (Ok tt) before after old new) c.in_ok-listing.ensures c.in_ok-print_in_format.ensures.put;
    }))
    (c.in_ok-print_in_format.ensures.reported ∙ ap (λ (x : Selected). above_with s above (listed x.judged x.allowed x.closest (cause_in x.judged))) c.in_ok-listing.ensures)
