use Rattle.std.proofs.Common.{None}
use Rattle.msc_picture.proofs.RowLemmas.{full, one_label}
use Rattle.msc_picture.proofs.laws.one_label_in_a_row.Goals as goal

pub returns : goal.returns
returns c = record {
  one = λ events order. one_label events None order;
  full = λ events order. full events None order;
}
