use Rattle.std.proofs.Common.{◌≡◌, map, take}
use Rattle.msc_html.specs.Reports.{text_byte}
use Rattle.msc_html.proofs.report.shown_text.Given as goal

abbrev pub invariant-loop-b : goal.invariant-loop-b
invariant-loop-b l = l.shown.items ≡ map text_byte (take l.b-index l.text)
