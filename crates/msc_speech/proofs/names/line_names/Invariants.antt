use Rattle.std.proofs.Common.{◌≡◌, map, take}
use Rattle.std.specs.String.{string_bytes}
use Rattle.msc_speech.specs.Names.{full_name, said_of}
use Rattle.msc_speech.proofs.names.line_names.Given as goal

abbrev pub invariant-loop-line : goal.invariant-loop-line
invariant-loop-line l = map string_bytes l.names.items ≡ map (full_name (map said_of l.lines)) (take l.line-index l.lines)
