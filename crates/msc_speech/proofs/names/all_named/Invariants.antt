use Rattle.std.proofs.Common.{◌≡◌, map, take}
use Rattle.std.specs.String.{string_bytes}
use Rattle.msc_speech.specs.Names.{said_of}
use Rattle.msc_speech.proofs.names.all_named.Given as goal

abbrev pub invariant-loop-line : goal.invariant-loop-line
invariant-loop-line l = map string_bytes l.names.items ≡ map said_of (take l.line-index l.lines)
