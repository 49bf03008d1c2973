use Rattle.std.proofs.Common.{◌≡◌, map, take}
use Rattle.msc_place.specs.Texts.{shown_byte}
use Rattle.msc_place.proofs.writing.is_plain.Given as goal

abbrev pub invariant-loop-byte : goal.invariant-loop-byte
invariant-loop-byte l = map shown_byte (take l.byte-index l.file) ≡ take l.byte-index l.file
