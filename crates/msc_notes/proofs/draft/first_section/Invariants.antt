use Rattle.msc_notes.proofs.Firsts.{NoNameBefore}
use Rattle.msc_notes.proofs.draft.first_section.Given as goal

abbrev pub invariant-loop-i : goal.invariant-loop-i
invariant-loop-i l = NoNameBefore l.sections l.name l.i
