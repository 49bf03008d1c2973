-- The plain data of the values of the code for SARIF, without who lends their texts.
use Rattle.std.specs.Prelude.{map}
use Rattle.std.specs.Option.{option_copied}
use Rattle.msc_record.specs.declared.document.Ending.{Ending as LentEnding}
use Rattle.msc_record.specs.declared.document.Failure.{Failure as LentFailure}
use Rattle.msc_record.specs.declared.result.Finding.{Finding as LentFinding}
use Rattle.msc_record.specs.declared.result.Mark.{Mark as LentMark}
use Rattle.msc_record.specs.declared.flow.Step.{Step as LentStep}
use Rattle.msc_record.specs.SarifPlain.{Ending, Failure, Finding, Mark, Step}

abbrev pub plain_mark : LentMark → Mark
plain_mark m = record { region = m.region; label = m.label.now }

abbrev pub plain_step : LentStep → Step
plain_step s = record { region = s.region; text = s.text.now }

abbrev pub plain_finding : LentFinding → Finding
plain_finding f = record {
  rule = f.rule.now;
  level = f.level;
  sentence = f.sentence.now;
  queues = option_copied f.queues;
  notes = map (λ note. note.now) f.notes.now;
  file = f.file.now;
  marks = map plain_mark f.marks.now;
  key = option_copied f.key;
}

abbrev pub plain_failure : LentFailure → Failure
plain_failure f = record { sentence = f.sentence.now; file = f.file.now }

abbrev pub plain_ending : LentEnding → Ending
plain_ending e = record {
  files = map (λ file. file.name.now) e.files.now;
  status = e.status;
  failures = map plain_failure e.failures.now;
}
