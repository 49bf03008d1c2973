use Rattle.msc_picture.proofs.RowLemmas.{keep_visual}
use Rattle.msc_picture.proofs.laws.rows_keep_the_visual_order.Goals as goal

pub returns : goal.returns
returns c = keep_visual
