-- What is shown of a chart and its text.
use Rattle.std.specs.Prelude.{◌≡◌, ℕ, Bool, List, Option, map}
use Rattle.std.specs.String.{string_bytes}
use Rattle.msc_chart.specs.Drawings.{Drawing}
use Rattle.msc_chart.specs.declared.queue.Queues.{Queues}
use Rattle.msc_diagnostic.specs.declared.source.LineEnds.TheVariants.{LineFeed}
use Rattle.msc_findings.specs.declared.format.Following.{Following}
use Rattle.msc_findings.specs.declared.format.FullFormat.{FullFormat}
use Rattle.msc_full.specs.Blocks.{texts_of}
use Rattle.msc_mark.specs.declared.mark.Mark.{Mark}
use Rattle.msc_shown_chart.specs.Marks.{marks_in, plain_mark, plain_shown, AreMarkWords, PlainMark}
use Rattle.msc_shown_chart.specs.Shown.{plain_event, shown_events}
use Rattle.msc_shown_chart.specs.Words.{file_said, name_said, plain_words, queues_written, AreAllWords, Words}
use Rattle.msc_shown_chart.specs.declared.lent.LentWords.{LentWords}
use Rattle.msc_shown_chart.specs.declared.words.ChartWords.{ChartWords}

-- this is shown of a chart under an architecture, drawn in the text of the file of this name, and of
-- the marks of the text, if marks are used
pub record IsShownOf (d : Drawing) (queues : Queues) (file text : List ℕ) (marks : Option (List Mark)) (w : ChartWords) : Type 0 where
  pub file_is : string_bytes w.file ≡ file_said file
  pub queues_are : string_bytes w.queues ≡ queues_written d queues
  pub names : map string_bytes w.names.items ≡ map name_said d.instances
  pub events : AreAllWords d (file_said file) text (map plain_words w.events.items)
  pub marks_are : AreMarkWords (file_said file) text (marks_in marks) (map plain_mark w.marks.items)

-- these words of a chart are lent, with its text
pub record Lends (d : Drawing) (queues : Queues) (text : List ℕ) (w : ChartWords) (l : LentWords) : Type 0 where
  pub source : l.source.text.now ≡ text
  pub ends : l.source.ends ≡ LineFeed
  pub names : texts_of l.names.items ≡ map string_bytes w.names.items
  pub events : map plain_event l.events.items ≡ shown_events d queues (map plain_words w.events.items)
  pub marks : map plain_shown l.marks.items ≡ map plain_mark w.marks.items
  pub file : l.file.now ≡ string_bytes w.file
  pub queues_are : l.queues.now ≡ string_bytes w.queues

-- this is the format of findings that has these words
pub record HasLent (l : LentWords) (colours : Bool) (following : Following) (x : FullFormat) : Type 0 where
  pub source : x.text.source.now ≡ l.source
  pub names : x.text.names.now ≡ l.names.items
  pub events : x.text.events.now ≡ l.events.items
  pub colours_are : x.text.colours ≡ colours
  pub marks : x.marks.now ≡ l.marks.items
  pub file : x.file.now ≡ l.file.now
  pub queues : x.queues.now ≡ l.queues.now
  pub following_is : x.following ≡ following

-- This is the format of the findings of a chart under an architecture, drawn in the text of the file
-- of this name: the lines of the text, what instances and events are called and where they stand,
-- the marks of the text, the name of the file, the architecture, and what follows the closing line.
pub record IsFullFormat (d : Drawing) (queues : Queues) (file text : List ℕ) (marks : Option (List Mark)) (colours : Bool) (following : Following) (x : FullFormat) : Type 0 where
  pub source : x.text.source.now.text.now ≡ text
  pub ends : x.text.source.now.ends ≡ LineFeed
  pub colours_are : x.text.colours ≡ colours
  pub names : texts_of x.text.names.now ≡ map name_said d.instances
  pub words : List Words
  pub are_words : AreAllWords d (file_said file) text words
  pub events : map plain_event x.text.events.now ≡ shown_events d queues words
  pub mark_words : List PlainMark
  pub are_marks : AreMarkWords (file_said file) text (marks_in marks) mark_words
  pub marks_are : map plain_shown x.marks.now ≡ mark_words
  pub file_is : x.file.now ≡ file_said file
  pub queues_are : x.queues.now ≡ queues_written d queues
  pub following_is : x.following ≡ following
