use Rattle.msc_picture.proofs.RankOrder.{ranks_kept}
use Rattle.msc_picture.proofs.laws.the_order_of_the_text_is_kept.Goals as goal

pub returns : goal.returns
returns c = ranks_kept
