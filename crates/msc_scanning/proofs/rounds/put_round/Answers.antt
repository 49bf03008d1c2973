use Rattle.std.proofs.Common.{arith}
use Rattle.msc_scanning.proofs.Written.{all_chunks}
use Rattle.msc_scanning.proofs.rounds.put_round.Goals as goal

pub put_chunks-requires : goal.put_chunks-requires
put_chunks-requires g c =
    rw c.as_slice.ensures.value
    (all_chunks c.args.plan c.args.input c.in-Ok.made.items c.args.items.now (λ i d inside. (c.in-Ok.ensures.each i d (let long = c.in-Ok.ensures.len in let same = c.as_slice.ensures.len in omega (arith, inside, long, same, c.as_slice.ensures.value))).1.met))
