use Rattle.msc_diagnostic.proofs.SpanLemmas.{spans_lem}
use Rattle.msc_diagnostic.proofs.laws.marks_stand_below_their_spans.Goals as goal

pub returns : goal.returns
returns c = spans_lem
