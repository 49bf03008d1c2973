use Rattle.std.proofs.Common.{rules}
use Rattle.msc_source.proofs.ReadingLemmas.{Consumes-append, read_front}
use Rattle.msc_source.proofs.reading.read_all.Goals as goal

pub returns-then-branch-clause-bytes : goal.returns-then-branch-clause-bytes
returns-then-branch-clause-bytes g c =
    let more = c.in_ok-read_once.ensures.more in
    read_front _ _ _ (record {
      taken = rw more.behind (Consumes-append _ _ _ _ _ c.calls.invariant.taken more.taken);
      most = more.most;
      whole = c.in_ok-read_once.ensures.done (search rules);
    })
