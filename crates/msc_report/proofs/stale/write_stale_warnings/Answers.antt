use Rattle.std.proofs.Common.{◌<◌, ℕ, [], length, get_or, take, ap, sym, ◌∙◌, subst, arith}
use Rattle.std.specs.Io.KnownBytes.{Appends}
use Rattle.std.specs.List.{flat_map}
use Rattle.std.proofs.lemmas.List.{flat_map_more, take_more}
use Rattle.msc_print.proofs.KnownBytes.{Appends-append}
use Rattle.msc_report.specs.Stale.{stale_warning}
use Rattle.msc_report.proofs.stale.write_stale_warnings.Goals as goal

pub loop-event-preserved : goal.loop-event-preserved
loop-event-preserved g c =
    let events = c.args.events.now in
    let i : ℕ = c.loop-event.event-index in
    let one = stale_warning c.args.event_positions.now c.args.chart.now in
    let within : i < length events = omega (arith, c.loop-event-test.true) in
    let more = flat_map_more one [] (take i events) (get_or events i 0)
    ∙ ap (flat_map one) (sym (take_more events i 0 within)) in
    subst (Appends (g.W.Write.contents c.args.writer.now) (g.W.Write.contents c.write_stale_warning.new.writer)) more
    (Appends-append _ _ _ (flat_map one (take i events)) (one (get_or events i 0)) c.loop-event.invariant c.in_ok-write_stale_warning.ensures)
