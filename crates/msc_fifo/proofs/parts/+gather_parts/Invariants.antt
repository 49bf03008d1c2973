use Rattle.std.proofs.Common.{vec_len}
use Rattle.msc_fifo.proofs.parts.+gather_parts.Given as goal

abbrev pub decreases-gather_parts : goal.decreases-gather_parts
decreases-gather_parts l = vec_len l.outlets
