use Rattle.std.proofs.Common.{◌≡◌, map, take}
use Rattle.std.specs.String.{string_bytes}
use Rattle.msc_speech.specs.Names.{ident_said}
use Rattle.msc_shown_diagram.proofs.queues.idents_said.Given as goal

abbrev pub invariant-loop-line : goal.invariant-loop-line
invariant-loop-line l = map string_bytes l.idents.items ≡ map ident_said (take l.line-index l.lines)
