use Rattle.std.proofs.Common.{◌≡◌, ◌++◌, codes, take}
use Rattle.std.specs.List.{flat_map}
use Rattle.std.specs.String.{string_bytes}
use Rattle.msc_record.proofs.result.push_others.Given as goal

-- the notes so far are there
abbrev pub invariant-loop-note : goal.invariant-loop-note
invariant-loop-note l =
    string_bytes l.message ≡ string_bytes l.fn.message ++ flat_map (λ note. codes "; " ++ note.now) (take l.note-index l.notes)
