use Rattle.std.proofs.Common.{◌≡◌, length, map}
use Rattle.msc_parser.specs.Grammar.{Tree}
use Rattle.msc_parser.specs.Parsing.{HasDraft}
use Rattle.msc_shown_chart.specs.Words.{plain_words, AreEventWords}
use Rattle.msc_shown_chart.proofs.words.Reader.all.Given as goal

abbrev pub invariant-loop-e : goal.invariant-loop-e
invariant-loop-e l = (length (map plain_words l.all.items) ≡ l.e)
    × ((t : Tree) → HasDraft l.self.places.now.text t → AreEventWords l.self.chart.now l.self.file.now l.self.places.now.text t l.e (map plain_words l.all.items))
