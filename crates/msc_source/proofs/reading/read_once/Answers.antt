use Rattle.std.proofs.Common.{take, sym, arith}
use Rattle.std.proofs.lemmas.Bool.{true≢false}
use Rattle.std.proofs.lemmas.List.{length-take}
use Rattle.msc_source.proofs.reading.read_once.Goals as goal

pub returns-in_ok-extend_from_slice-in-Ok-clause-more : goal.returns-in_ok-extend_from_slice-in-Ok-clause-more
returns-in_ok-extend_from_slice-in-Ok-clause-more g c = record {
  given = take c.in-Ok.count c.read.new.buf;
  taken = c.in-Ok.ensures.bytes.0;
  behind = c.in_ok-extend_from_slice-in-Ok.ensures.items;
  most =
      let more = c.in_ok-extend_from_slice-in-Ok.ensures.len in
      let room = length-take c.min-most.result c.args.chunk.now in
      let given = c.in-Ok.ensures.bound in
      omega (arith, c.read.auto.buf, c.extend_from_slice.new.self.ok.0);
}

pub returns-then-eq-clause-done : goal.returns-then-eq-clause-done
returns-then-eq-clause-done g c = λ done. absurd (true≢false (sym done))
