use Rattle.std.proofs.Common.{List, ℕ, map, option_map, subst, ◌∙◌}
use Rattle.msc_shown_chart.specs.Marks.{marks_in, plain_mark, AreMarkWords}
use Rattle.msc_shown_chart.specs.Words.{plain_words, AreAllWords}
use Rattle.msc_shown_chart.proofs.words.ChartWords.of.Goals as goal

pub returns : goal.returns
returns c = record {
  file_is = c.in_ok-file.ensures;
  queues_are = c.in_ok-queues.ensures;
  names = c.in_ok-names.ensures;
  events = subst (λ (f : List ℕ). AreAllWords c.args.chart.now f c.args.text.now (map plain_words c.in_ok-events.events.items))
      (c.as_str.ensures.value ∙ c.in_ok-file.ensures) c.in_ok-events.ensures;
  marks_are = subst (λ (f : List ℕ). AreMarkWords f c.args.text.now (marks_in (option_map (λ m. m.now) c.args.marks)) (map plain_mark c.in_ok-marks.marks.items))
      (c.as_str-2.ensures.value ∙ c.in_ok-file.ensures) c.in_ok-marks.ensures;
}
