-- What the status tells of an answer.
use Rattle.std.proofs.Common.{◌≡◌, ℕ, false, List, Option, Some, None, Result, Ok, Err, inl, inr, refl, sym, subst}
use Rattle.clap.specs.declared.parser.matches.Found.{Found}
use Rattle.msc_report.specs.declared.fault.Fault.TheVariants.{Parse, Chart, NotStarted, Memory, Device}
use Rattle.std.specs.Io.KnownBytes.{Appends}
use Rattle.msc_markdown.specs.Markdowns.{Found as Markdown}
use Rattle.msc_answer.proofs.Endings.{never_ended, never_finished, never_surveyed}
use Rattle.msc_answer.specs.Scenarios.{checked_under}
use Rattle.msc_answer.specs.Surveys.{many_in, Surveys}
use Rattle.msc_answer.specs.declared.ending.Refusal.{Refusal}
use Rattle.msc_answer.specs.declared.ending.Refusal.TheVariants as refusals
use Rattle.msc_answer.specs.declared.ending.Status.{Status}
use Rattle.msc_answer.specs.declared.ending.Status.TheVariants.{Done, Races, Refused, Unfinished, Failed}
use Rattle.msc_answer.specs.declared.tasks.ChartCommand.TheVariants as chart_commands
use Rattle.msc_answer.specs.declared.tasks.ScenarioArgs.{ScenarioArgs}
use Rattle.msc_answer.specs.declared.tasks.Task.{Task}
use Rattle.msc_answer.specs.declared.tasks.Task.TheVariants as tasks
use Rattle.msc_answer.specs.Answering.{ends_with, Performs, Prints, PrintsDiagrams}
use Rattle.msc_answer.specs.Ending.{status_code}
use Rattle.msc_command.specs.Program.{IsCompleted, Obeys, Tells, TellsAnswer, TellsRefused}
use Rattle.msc_answer.specs.Refused.{form_of, TellsIn}
use Rattle.msc_scanning.specs.Scans.{Scans}
use Rattle.msc_scanning.specs.declared.words.ScanArgs.{ScanArgs}
use Rattle.msc_answer.specs.declared.tasks.RefusalForm.{RefusalForm}
use Rattle.msc_answer.specs.declared.tasks.RefusalForm.TheVariants as forms

-- one of several diagrams is refused
abbrev pub RefusesOne : List ℕ → Type 0
RefusesOne printed = (x : ScenarioArgs) × (file : List ℕ) × (text : List ℕ) × (f : Markdown) × (many_in x text ≡ Some f) × Surveys x file text f.numbers false false Done Refused printed

diagram_refused : (many : Option Markdown) (x : ScenarioArgs) (file text printed : List ℕ) → many_in x text ≡ many
    → PrintsDiagrams many x file text Refused printed → RefusesOne printed
diagram_refused None x file text printed is (all, of_text, charts, queues, linked, (t, its, says)) = absurd (never_surveyed x.quiet (checked_under queues x.check_args) t _ printed says)
diagram_refused (Some f) x file text printed is says = (x, file, text, f, is, says)

-- so of what is printed for a task only several diagrams are
printed_refused : (task : Task) (file text printed : List ℕ) → Prints task file text Refused printed → RefusesOne printed
printed_refused (tasks.Read chosen) file text printed (draft, has, same, is) = absurd cc
printed_refused (tasks.Chart (chart_commands.Check c) links) file text printed (d, s, of_text, (under, linked, (found, same, says))) = absurd (never_ended _ same)
printed_refused (tasks.Chart (chart_commands.Quiet x) links) file text printed (d, s, of_text, (under, linked, (marks, are, room, passed, same, says, none))) = absurd (never_ended passed same)
printed_refused (tasks.Chart (chart_commands.Explain x) links) file text printed (d, s, of_text, (under, linked, (e, f, two, style, its, enforced, same, says))) = absurd (never_ended enforced same)
printed_refused (tasks.Chart (chart_commands.Follow x) links) file text printed (d, s, of_text, (under, linked, (style, its, follows, same, says))) = absurd (never_ended follows same)
printed_refused (tasks.Chart (chart_commands.Run queues patience) links) file text printed (d, s, of_text, (under, linked, (finished, same, says))) = absurd (never_finished finished same)
printed_refused (tasks.Chart (chart_commands.List placed) links) file text printed (d, s, of_text, (under, linked, (event_positions, are, same, is))) = absurd cc
printed_refused (tasks.Chart (chart_commands.Ready x) links) file text printed (d, s, of_text, (under, linked, (only, are, style, its, room, passed, same, says))) = absurd (never_ended passed same)
printed_refused (tasks.Draw drawn words) file text printed (d, s, is, (queues, linked, (same, says))) = absurd cc
printed_refused (tasks.Import x) file text printed (same, says) = absurd cc
printed_refused (tasks.Report x) file text printed (same, says) = absurd cc
printed_refused (tasks.Scenarios x) file text printed says = diagram_refused (many_in x text) x file text printed refl says

module _ {W : Type 0} (contents : W → Option (List ℕ)) where
  -- of a refusal nothing went out, or what its form has of it
  refused_told : (form : RefusalForm) (file text : List ℕ) (refusal : Refusal) (old new : W) → TellsIn contents form file text refusal old new → TellsRefused contents old new
  refused_told forms.Nothing file text refusal old new same = inl same
  refused_told forms.Lines file text refusal old new (printed, is, wrote) = inr (inl (forms.Lines, file, text, refusal, printed, is, wrote))
  refused_told (forms.Words colours) file text refusal old new (printed, is, wrote) =
      inr (inl (forms.Words colours, file, text, refusal, printed, is, wrote))

  -- and of several diagrams of which one is refused all that is printed did
  several_told : (printed : List ℕ) (old new : W) → RefusesOne printed → Appends (contents old) (contents new) printed → TellsRefused contents old new
  several_told printed old new (x, file, text, f, is, says) wrote = inr (inr (inl (x, file, text, f, is, printed, says, wrote)))

  -- the status tells of what was performed
  tells : (task : Task) (file : List ℕ) (reads : List ℕ → Type 0) (answer : Result Status Refusal) (old new : W)
      → Performs contents task file reads answer old new → TellsAnswer contents (ends_with answer) old new
  tells task file reads (Ok Done) old new said = tt
  tells task file reads (Ok Races) old new (inl (text, read, (printed, says, wrote))) = inl (task, file, text, printed, says, wrote)
  tells task file reads (Ok Races) old new (inr (never, same)) = absurd never
  tells task file reads (Ok Refused) old new (inl (text, read, (printed, says, wrote))) =
      several_told printed old new (printed_refused task file text printed says) wrote
  tells task file reads (Ok Refused) old new (inr (never, same)) = absurd never
  tells task file reads (Ok Unfinished) old new (inl (text, read, (printed, says, wrote))) = inl (task, file, text, printed, says, wrote)
  tells task file reads (Ok Unfinished) old new (inr (never, same)) = absurd never
  tells task file reads (Ok Failed) old new said = tt
  tells task file reads (Err (refusals.Fault (Parse f))) old new (inl (text, read, (refused, told))) = refused_told (form_of task) file text (refusals.Fault (Parse f)) old new told
  tells task file reads (Err (refusals.Fault (Parse f))) old new (inr (never, same)) = absurd never
  tells task file reads (Err (refusals.Fault (Chart f))) old new (inl (text, read, (refused, told))) = refused_told (form_of task) file text (refusals.Fault (Chart f)) old new told
  tells task file reads (Err (refusals.Fault (Chart f))) old new (inr (never, same)) = absurd never
  tells task file reads (Err (refusals.Fault (NotStarted i))) old new said = tt
  tells task file reads (Err (refusals.Fault Memory)) old new said = tt
  tells task file reads (Err (refusals.Fault Device)) old new said = tt
  tells task file reads (Err (refusals.Pair f)) old new (inl (text, read, (refused, told))) = refused_told (form_of task) file text (refusals.Pair f) old new told
  tells task file reads (Err (refusals.Pair f)) old new (inr (never, same)) = absurd never
  tells task file reads (Err (refusals.Mark f)) old new (inl (text, read, (refused, told))) = refused_told (form_of task) file text (refusals.Mark f) old new told
  tells task file reads (Err (refusals.Mark f)) old new (inr (never, same)) = absurd never
  tells task file reads (Err (refusals.ArrowMark f)) old new (inl (text, read, (refused, told))) = refused_told (form_of task) file text (refusals.ArrowMark f) old new told
  tells task file reads (Err (refusals.ArrowMark f)) old new (inr (never, same)) = absurd never
  tells task file reads (Err (refusals.Instance name)) old new (inl (text, read, (refused, told))) = refused_told (form_of task) file text (refusals.Instance name) old new told
  tells task file reads (Err (refusals.Instance name)) old new (inr (never, same)) = absurd never
  tells task file reads (Err (refusals.Link fault)) old new (inl (text, read, (refused, told))) = refused_told (form_of task) file text (refusals.Link fault) old new told
  tells task file reads (Err (refusals.Link fault)) old new (inr (never, same)) = absurd never
  tells task file reads (Err (refusals.Rounds f)) old new (inl (text, read, (refused, told))) = refused_told (form_of task) file text (refusals.Rounds f) old new told
  tells task file reads (Err (refusals.Rounds f)) old new (inr (never, same)) = absurd never
  tells task file reads (Err (refusals.Import e)) old new (inl (text, read, (refused, told))) = refused_told (form_of task) file text (refusals.Import e) old new told
  tells task file reads (Err (refusals.Import e)) old new (inr (never, same)) = absurd never

  -- of completions it tells nothing
  completed : (status : Status) (old new : W) → IsCompleted contents status old new → TellsAnswer contents status old new
  completed Done old new said = tt
  completed Races old new said = absurd said
  completed Refused old new said = absurd said
  completed Unfinished old new said = absurd said
  completed Failed old new said = tt

  -- of a scan it tells what went out, unless that failed
  scanned : (args : ScanArgs) (rest left : Option (List ℕ)) (status : Status) (old new : W) → Scans rest left contents args status old new
      → TellsAnswer contents status old new
  scanned args rest left Done old new said = tt
  scanned args rest left Races old new (inl (printed, puts, wrote)) = inr (args, rest, left, printed, puts, wrote)
  scanned args rest left Races old new (inr failed) = absurd cc
  scanned args rest left Refused old new (inl (printed, puts, wrote)) = inr (inr (inr (args, rest, left, printed, puts, wrote)))
  scanned args rest left Refused old new (inr failed) = absurd cc
  scanned args rest left Unfinished old new (inl (printed, puts, wrote)) = inr (args, rest, left, printed, puts, wrote)
  scanned args rest left Unfinished old new (inr failed) = absurd cc
  scanned args rest left Failed old new said = tt

  -- and of words that were obeyed
  pub obeyed : {R : Type 0} (remaining : R → Option (List ℕ)) (name : List ℕ) (found : Found) (status : Status) (rest left : R) (old new : W)
      → Obeys remaining contents name found status rest left old new → TellsAnswer contents status old new
  obeyed remaining name found status rest left old new (inl none) = rw (none.ends) (inl none.kept)
  obeyed remaining name found status rest left old new (inr (inl done)) =
      subst (λ (s : Status). TellsAnswer contents s old new) (sym done.ends.1) (tells done.task _ _ done.ends.0 old new done.ends.2)
  obeyed remaining name found status rest left old new (inr (inr (inl done))) =
      scanned done.args (remaining rest) (remaining left) status old new done.ends
  obeyed remaining name found status rest left old new (inr (inr (inr done))) = completed status old new done.ends

  -- where the exit status is 1, an answer that tells so went out
  pub told_races : (status : Status) (old new : W) → TellsAnswer contents status old new → status_code status ≡ 1 → Tells contents Races old new
  told_races Done old new told one = absurd cc
  told_races Races old new told one = told
  told_races Refused old new told one = absurd cc
  told_races Unfinished old new told one = absurd cc
  told_races Failed old new told one = absurd cc

  -- where it is 2, the output has had no call, or has the lines of a refusal
  pub told_refused : (status : Status) (old new : W) → TellsAnswer contents status old new → status_code status ≡ 2 → TellsRefused contents old new
  told_refused Done old new told two = absurd cc
  told_refused Races old new told two = absurd cc
  told_refused Refused old new told two = told
  told_refused Unfinished old new told two = absurd cc
  told_refused Failed old new told two = absurd cc

  -- where it is 3, an answer that tells so went out
  pub told_unfinished : (status : Status) (old new : W) → TellsAnswer contents status old new → status_code status ≡ 3 → Tells contents Unfinished old new
  told_unfinished Done old new told three = absurd cc
  told_unfinished Races old new told three = absurd cc
  told_unfinished Refused old new told three = absurd cc
  told_unfinished Unfinished old new told three = told
  told_unfinished Failed old new told three = absurd cc
