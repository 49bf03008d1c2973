use Rattle.std.proofs.Common.{ℕ, List, map, subst}
use Rattle.msc_shown_chart.specs.Words.{plain_words, AreAllWords}
use Rattle.msc_shown_chart.proofs.words.events_said.Goals as goal

pub returns : goal.returns
returns c =
    subst (λ (s : List ℕ). AreAllWords c.args.chart.now c.args.file.now s (map plain_words c.in_ok-events.events.items))
    c.in_ok-places.ensures c.in_ok-events.ensures
