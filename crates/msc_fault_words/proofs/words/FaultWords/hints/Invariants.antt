use Rattle.std.proofs.Common.{◌≡◌, take}
use Rattle.msc_fault_words.specs.Told.{hints_in}
use Rattle.msc_fault_words.specs.Words.{with_helps}
use Rattle.msc_fault_words.proofs.words.FaultWords.hints.Given as goal

-- the hints of the notes so far have been added
abbrev pub invariant-loop-note : goal.invariant-loop-note
invariant-loop-note l = l.self ≡ with_helps l.initial.self (hints_in (take l.note-index l.notes))
