use Rattle.msc_source.specs.declared.reading.TheConstants.{BYTE_LIMIT}
use Rattle.std.proofs.Common.{◌≡◌, ◌<◌, vec_len}
use Rattle.std.specs.Io.KnownBytes.{Consumes}
use Rattle.msc_source.proofs.reading.read_all.Given as goal

abbrev pub invariant-calls : goal.invariant-calls
invariant-calls g l = record {
  unfilled : vec_len l.bytes < BYTE_LIMIT;
  room : vec_len l.chunk ≡ 16384;
  taken : Consumes (g.R.Read.remaining l.initial.reader) (g.R.Read.remaining l.reader) l.bytes.items;
}
