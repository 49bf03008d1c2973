use Rattle.msc_picture.proofs.MarkLemmas.{drawn_events, each_marked, no_other}
use Rattle.msc_picture.proofs.laws.each_closest_race_is_marked.Goals as goal

pub returns : goal.returns
returns c = record {
  each = λ events closest k e f drawn at.
      each_marked events closest k e f (drawn_events events closest drawn) at;
  other = no_other;
}
