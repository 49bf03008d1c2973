use Rattle.std.proofs.Common.{◌≡◌, drop}
use Rattle.msc_html.specs.Paragraphs.{cut_on}
use Rattle.msc_html.proofs.paragraph.Cutter.read.Given as goal

abbrev pub invariant-loop-b : goal.invariant-loop-b
invariant-loop-b l = cut_on l.self (drop l.b-index l.text) ≡ cut_on l.fn.self l.text
