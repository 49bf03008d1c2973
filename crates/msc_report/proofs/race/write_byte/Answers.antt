use Rattle.msc_report.proofs.race.write_byte.Goals as goal

pub returns-then-byte-eq39 : goal.returns-then-byte-eq39
returns-then-byte-eq39 g c = rw c.if-byte-eq39.true c.write_all.ensures.bytes
