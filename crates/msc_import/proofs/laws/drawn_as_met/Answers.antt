use Rattle.msc_import.proofs.PathSegments.{history_segments}
use Rattle.msc_import.proofs.SegmentLemmas.{line_segments}
use Rattle.msc_import.proofs.TogetherLemmas.{line_planned}
use Rattle.msc_import.proofs.laws.drawn_as_met.Goals as goal

pub returns : goal.returns
returns c = record {
  drawn = λ manner names line ident ps ss lines plans p gs e at s. line_segments manner names line ss p gs (line_planned manner ss lines plans line p e at) s;
  segments = history_segments;
}
