use Rattle.msc_arrow_marks.proofs.LawLemmas.{parts_lem}
use Rattle.msc_arrow_marks.proofs.laws.parts_make_the_text.Goals as goal

pub returns : goal.returns
returns c = parts_lem
