use Rattle.std.proofs.Common.{◌≡◌, map, take}
use Rattle.std.specs.String.{string_bytes}
use Rattle.msc_diagnostic.specs.Plain.{plain_note}
use Rattle.msc_full.specs.Rings.{notes_of}
use Rattle.msc_full.proofs.ring.notes_of.Given as goal

-- the texts so far have notes
abbrev pub invariant-loop-text : goal.invariant-loop-text
invariant-loop-text l =
    map plain_note l.notes.items ≡ notes_of (map string_bytes (take l.text-index l.texts))
