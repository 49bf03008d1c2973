use Rattle.std.proofs.Common.{length, map, ap, subst, ◌∙◌}
use Rattle.std.specs.Map.Iter.{deref}
use Rattle.msc_chart.specs.declared.fault.ChartFault.TheVariants.{TwiceInstance}
use Rattle.msc_notes.specs.Events.{own_view}
use Rattle.msc_notes.specs.Putting.{HasPut, IsFewRepeats, section_names}
use Rattle.msc_notes.proofs.Together.{all_together, few_events}
use Rattle.msc_notes.proofs.standing.faults.Goals as goal

pub put_unknown_addresses-requires : goal.put_unknown_addresses-requires
put_unknown_addresses-requires c =
    few_events c.as_slice-events.result.now c.args.draft.now c.sections.result.now
    (ap (map own_view) c.as_slice-events.ensures.value ∙ c.in_ok-drawn.ensures) c.sections.ensures.value c.sections.ensures.few

pub put_repeated_ends-requires : goal.put_repeated_ends-requires
put_repeated_ends-requires c =
    few_events c.as_slice-events.result.now c.args.draft.now c.sections.result.now
    (ap (map own_view) c.as_slice-events.ensures.value ∙ c.in_ok-drawn.ensures) c.sections.ensures.value c.sections.ensures.few

pub put_unmatched-requires-clause-few : goal.put_unmatched-requires-clause-few
put_unmatched-requires-clause-few c =
    few_events c.as_slice-events.result.now c.args.draft.now c.sections.result.now
    (ap (map own_view) c.as_slice-events.ensures.value ∙ c.in_ok-drawn.ensures) c.sections.ensures.value c.sections.ensures.few

pub put_unmatched-requires-2-clause-few : goal.put_unmatched-requires-2-clause-few
put_unmatched-requires-2-clause-few c =
    few_events c.as_slice-events.result.now c.args.draft.now c.sections.result.now
    (ap (map own_view) c.as_slice-events.ensures.value ∙ c.in_ok-drawn.ensures) c.sections.ensures.value c.sections.ensures.few

pub returns : goal.returns
returns c =
    let ss = c.sections.result.now in let hs = c.header.result.now in let events = c.as_slice-events.result.now in
    let is = ap (map own_view) c.as_slice-events.ensures.value ∙ c.in_ok-drawn.ensures in
    let few = few_events events c.args.draft.now ss is c.sections.ensures.value c.sections.ensures.few in
    let twice = c.put_repeated_names.new.faults.items in
    all_together c.args.draft.now ss hs events (map deref c.in_ok-names.names.keys) twice _ _ _ _ _
    c.sections.ensures.value c.header.ensures.value is c.header.ensures.few few c.in_ok-names.ensures.names (record {
      names_put = subst (λ v. HasPut TwiceInstance (IsFewRepeats (section_names ss)) (length ss) v twice) c.new-faults.ensures.items c.in_ok-names.ensures.faults;
      headers_put = c.in_ok-put_unknown_headers.ensures;
      addresses_put = c.in_ok-put_unknown_addresses.ensures;
      ends_put = c.in_ok-ends.ensures.faults;
      outputs_put = c.in_ok-put_unmatched.ensures;
      inputs_put = c.in_ok-put_unmatched-2.ensures;
    })
