-- What is kept of a chart while the parts of two rounds of it are made.
use Rattle.std.specs.Prelude.{◌≡◌, ℕ, ◌+◌, ◌<◌, ◌≤◌, List, length, map}
use Rattle.std.specs.List.{range_with_len}
use Rattle.msc_chart.specs.declared.event.ChartEvent.{ChartEvent}
use Rattle.msc_chart.specs.declared.rounds.Rounds.{Rounds}
use Rattle.msc_chart.specs.declared.rounds.Span.{Span}
use Rattle.msc_chart.specs.Charts.{line_start}
use Rattle.msc_chart.specs.Drawings.{Drawing}
use Rattle.msc_chart.specs.Rounds.{first_of, past_of}

-- the span of line i: its first event, and the number past its last
abbrev pub span_at : List ChartEvent → ℕ → Span
span_at events i = record { first = line_start events i; past = line_start events (i + 1) }

-- the spans of the lines of a chart
abbrev pub spans_of : Drawing → List Span
spans_of d = map (span_at d.events) (range_with_len 0 (length d.instances))

-- the spans that are kept with a chart are those of its lines
abbrev pub HasSpans : Rounds → Type 0
HasSpans r = r.spans.now ≡ spans_of r.chart.now

-- the span is that of the line of event e, which is among its events
pub record IsSpanOf (events : List ChartEvent) (e : ℕ) (s : Span) : Type 0 where
  pub first : s.first ≡ first_of events e
  pub past : s.past ≡ past_of events e
  pub begun : s.first ≤ e
  pub ended : e < s.past
  pub within : s.past ≤ length events
