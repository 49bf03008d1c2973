-- What the definitions say of two rounds of small charts, by computing.
use Rattle.std.proofs.Common.{◌≡◌, [], ◌∷◌, refl}
use Rattle.msc_chart.specs.declared.event.EventKind.TheVariants as kinds
use Rattle.msc_chart.specs.Events.{events_of, acts_of}
use Rattle.msc_chart.specs.Charts.{line, segment, kind, partner, message, action, before}
use Rattle.msc_chart.specs.Drawings.{chart_events, chart_of, label_of}
use Rattle.msc_chart.specs.Lists.{pairs_of, pairs_to}
use Rattle.msc_chart.specs.Rounds.{first_of, past_of, count_of, segments_of, number_of, offset_of, event_of, round_of, events_below, locals_below, count_below, segment_in, subject_in, repeated_event, repeated_events, two_rounds}
use Rattle.msc_chart.specs.Samples.{actions, go, done, coregion, event, drawn_pairs}

-- the events of two rounds of the chart with actions
pub actions_unrolled : (two_rounds (chart_of actions)).events
    ≡ event 0 0 kinds.Local 0 0 ∷ event 0 1 kinds.Output 4 0 ∷ event 0 2 kinds.Local 2 1 ∷ event 0 3 kinds.Output 6 1
    ∷ event 1 0 kinds.Input 1 0 ∷ event 1 1 kinds.Local 5 2 ∷ event 1 2 kinds.Input 3 1 ∷ event 1 3 kinds.Local 7 3 ∷ []
unfolding chart_events events_of acts_of line segment kind partner message first_of past_of count_of segments_of number_of offset_of event_of round_of events_below count_below segment_in subject_in repeated_event repeated_events
actions_unrolled = refl

-- and their texts
pub texts_unrolled : (two_rounds (chart_of actions)).actions ≡ go ∷ go ∷ done ∷ done ∷ []
unfolding chart_events events_of acts_of line kind action label_of first_of past_of count_of offset_of event_of events_below locals_below
texts_unrolled = refl

-- the inputs of a coregion are drawn before those of the next round
pub coregion_unrolled : drawn_pairs (two_rounds (chart_of coregion)) ≡ (0, 1) ∷ (2, 4) ∷ (2, 5) ∷ (3, 4) ∷ (3, 5) ∷ (6, 7) ∷ []
unfolding chart_events events_of acts_of line segment kind partner message before pairs_of pairs_to first_of past_of count_of segments_of number_of offset_of event_of round_of events_below count_below segment_in subject_in repeated_event repeated_events
coregion_unrolled = refl
