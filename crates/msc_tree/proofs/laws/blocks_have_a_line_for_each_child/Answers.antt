use Rattle.msc_tree.proofs.Nesting.{block_is, block_whole}
use Rattle.msc_tree.proofs.laws.blocks_have_a_line_for_each_child.Goals as goal

pub returns : goal.returns
returns c = record { lines = block_is; parts = block_whole }
