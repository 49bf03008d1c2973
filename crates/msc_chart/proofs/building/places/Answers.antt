use Rattle.std.proofs.Common.{◌≡◌, map, ap, ◌∙◌}
use Rattle.msc_chart.specs.Events.{acts_of}
use Rattle.msc_chart.specs.Views.{mark_view, marks_from}
use Rattle.msc_chart.specs.Numbering.{AreNumbered}
use Rattle.msc_chart.proofs.Places.{repeat_at, numbered_at}
use Rattle.msc_chart.proofs.MatchingLemmas.{mark_same}
use Rattle.msc_chart.proofs.UnrollingLemmas.{marks_own}
use Rattle.msc_chart.proofs.Stages.{distinct_ends_clear, marks_seen, repeated_end_first}
use Rattle.msc_chart.proofs.building.places.Goals as goal

pub refuse_unknown_address-requires-clause-acts : goal.refuse_unknown_address-requires-clause-acts
refuse_unknown_address-requires-clause-acts c =
    marks_seen c.args.draft.now c.args.events.now c.as_slice-marks.result.now
    (c.as_slice-marks.ensures.value ∙ c.in_ok-kept.ensures.value) c.requires.events

pub refuse_too_many-requires-clause-acts : goal.refuse_too_many-requires-clause-acts
refuse_too_many-requires-clause-acts c =
    marks_seen c.args.draft.now c.args.events.now c.as_slice-marks.result.now
    (c.as_slice-marks.ensures.value ∙ c.in_ok-kept.ensures.value) c.requires.events

pub returns-in-Some-clause-fault : goal.returns-in-Some-clause-fault
returns-in-Some-clause-fault c =
    let d = c.args.draft.now in
    let marks = c.as_slice-marks.result.now in
    let made : marks ≡ marks_from 0 c.args.events.now = c.as_slice-marks.ensures.value ∙ c.in_ok-kept.ensures.value in
    let acts : map mark_view marks ≡ acts_of d = marks_seen d c.args.events.now marks made c.requires.events in
    λ _. repeated_end_first d marks acts c.in_ok-refuse_too_many.ensures.clear (marks_own c.args.events.now marks made) c.in-Some.e
    (repeat_at mark_same marks c.in_ok-places.places.keys _ _ c.in-Some.is c.in_ok-places.ensures)

pub returns-clause-acts : goal.returns-clause-acts
returns-clause-acts c =
    let d = c.args.draft.now in
    let marks = c.as_slice-marks.result.now in
    let made : marks ≡ marks_from 0 c.args.events.now = c.as_slice-marks.ensures.value ∙ c.in_ok-kept.ensures.value in
    let n : AreNumbered mark_same marks c.in_ok-places.places.keys = numbered_at mark_same marks c.in_ok-places.places.keys _ c.in-None.is c.in_ok-places.ensures in
    ap (map mark_view) n.same ∙ marks_seen d c.args.events.now marks made c.requires.events

pub returns-clause-clear : goal.returns-clause-clear
returns-clause-clear c =
    let d = c.args.draft.now in
    let marks = c.as_slice-marks.result.now in
    let made : marks ≡ marks_from 0 c.args.events.now = c.as_slice-marks.ensures.value ∙ c.in_ok-kept.ensures.value in
    let acts : map mark_view marks ≡ acts_of d = marks_seen d c.args.events.now marks made c.requires.events in
    let n : AreNumbered mark_same marks c.in_ok-places.places.keys = numbered_at mark_same marks c.in_ok-places.places.keys _ c.in-None.is c.in_ok-places.ensures in
    distinct_ends_clear d marks acts c.in_ok-refuse_too_many.ensures.clear n.new
