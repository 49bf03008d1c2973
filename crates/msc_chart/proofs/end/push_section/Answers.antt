use Rattle.std.proofs.Common.{◌<◌, ◌++◌, length, map, arith, sym, ap, ◌∙◌, append_assoc}
use Rattle.std.proofs.lemmas.List.{length-append, length-map}
use Rattle.msc_chart.specs.Events.{events_of_items}
use Rattle.msc_chart.specs.Views.{event_view}
use Rattle.msc_chart.proofs.EndLemmas.{next-items, next-room}
use Rattle.msc_chart.proofs.end.push_section.Goals as goal

pub push_item-requires : goal.push_item-requires
push_item-requires c =
    let few : length (events_of_items c.args.line c.as_slice-own.result.now 0 c.as_slice-item-items.result.now) < 4294967295 =
    rw (c.as_slice-own.ensures, c.as_slice-item-items.ensures) c.requires in
    omega (arith, simp (length-append, length-map) at (ap length c.loop-item.invariant.pushed))

pub loop-item-preserved : goal.loop-item-preserved
loop-item-preserved c =
    let within : c.loop-item.item-index < length c.as_slice-item-items.result.now = omega arith in
    let next = c.in_ok-segment.ensures.next in
    let pushed = c.in_ok-segment.ensures.pushed in
    record {
      pushed =
          rw (pushed, next, append_assoc)
          (ap (λ es. map event_view c.loop-item.events.items ++ es) (sym (next-items _ _ _ _ _ _ within c.item-item.is))
          ∙ c.loop-item.invariant.pushed);
      room =
          let one = next-room c.args.line c.as_slice-own.result.now c.loop-item.segment c.item-item.result in
          omega (arith, next, c.loop-item.invariant.room, simp (length-append, length-map) at (ap length pushed));
    }
