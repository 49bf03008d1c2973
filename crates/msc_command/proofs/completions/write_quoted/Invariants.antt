use denote.Shadow.{shadow}
use denote.Text.{Utf8}
use Rattle.msc_command.proofs.completions.write_quoted.Given as goal

-- what precedes a part is text
abbrev pub invariant-loop-part : goal.invariant-loop-part
invariant-loop-part g l =
    (goal.iterator-loop-part g).can_next l.part-iterator × (goal.iterator-loop-part g).is_finite l.part-iterator × shadow (Utf8 l.lead)
