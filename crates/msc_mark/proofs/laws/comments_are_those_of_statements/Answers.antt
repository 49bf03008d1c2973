use Rattle.msc_mark.proofs.Collecting.{comments_stand}
use Rattle.msc_mark.proofs.laws.comments_are_those_of_statements.Goals as goal

pub returns : goal.returns
returns c = comments_stand
