-- Words that are lent make the format of a chart's findings.
use Rattle.std.proofs.Common.{ℕ, Bool, List, Option, map, ap, ◌∙◌}
use Rattle.msc_chart.specs.Drawings.{Drawing}
use Rattle.msc_chart.specs.declared.queue.Queues.{Queues}
use Rattle.msc_diagnostic.specs.declared.source.Source.{Source}
use Rattle.msc_findings.specs.declared.format.Following.{Following}
use Rattle.msc_findings.specs.declared.format.FullFormat.{FullFormat}
use Rattle.msc_full.specs.Blocks.{texts_of}
use Rattle.msc_mark.specs.declared.mark.Mark.{Mark}
use Rattle.msc_shown_chart.specs.Charts.{HasLent, IsFullFormat, IsShownOf, Lends}
use Rattle.msc_shown_chart.specs.Marks.{plain_mark, plain_shown}
use Rattle.msc_shown_chart.specs.Shown.{plain_event}
use Rattle.msc_shown_chart.specs.Words.{plain_words}
use Rattle.msc_shown_chart.specs.declared.lent.LentWords.{LentWords}
use Rattle.msc_shown_chart.specs.declared.words.ChartWords.{ChartWords}

-- so it is
pub lent_format : (d : Drawing) (queues : Queues) (file text : List ℕ) (marks : Option (List Mark)) (colours : Bool) (following : Following) (w : ChartWords) (l : LentWords) (x : FullFormat)
    → IsShownOf d queues file text marks w → Lends d queues text w l → HasLent l colours following x → IsFullFormat d queues file text marks colours following x
lent_format d queues file text marks colours following w l x shown lends has = record {
  source = ap (λ (s : Source). s.text.now) has.source ∙ lends.source;
  ends = ap (λ (s : Source). s.ends) has.source ∙ lends.ends;
  colours_are = has.colours_are;
  names = ap texts_of has.names ∙ lends.names ∙ shown.names;
  words = map plain_words w.events.items;
  are_words = shown.events;
  events = ap (map plain_event) has.events ∙ lends.events;
  mark_words = map plain_mark w.marks.items;
  are_marks = shown.marks_are;
  marks_are = ap (map plain_shown) has.marks ∙ lends.marks;
  file_is = has.file ∙ lends.file ∙ shown.file_is;
  queues_are = has.queues ∙ lends.queues_are ∙ shown.queues_are;
  following_is = has.following_is;
}
