use Rattle.std.proofs.Common.{◌≡◌, ◌++◌, take}
use Rattle.msc_html.specs.Parts.{parts_text}
use Rattle.msc_html.proofs.part.put_parts.Given as goal

abbrev pub invariant-loop-part : goal.invariant-loop-part
invariant-loop-part l =
    l.page.items ≡ l.initial.page.items ++ parts_text (take l.part-index l.parts)
