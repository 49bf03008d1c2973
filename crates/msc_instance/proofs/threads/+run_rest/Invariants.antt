use Rattle.std.proofs.Common.{vec_len}
use Rattle.msc_instance.proofs.threads.+run_rest.Given as goal

abbrev pub decreases-run_rest : goal.decreases-run_rest
decreases-run_rest g l = vec_len l.so_far.unstarted
