-- What was answered of a chart is answered of its text, and a flush keeps it.
use Rattle.std.proofs.lemmas.Bool.{false≢true}
use Rattle.std.proofs.Common.{◌≡◌, ◌<◌, ℕ, Bool, true, false, List, [], is_some, length, Bor, Option, Some, None, option_map, Result, Ok, Err, inl, inr, refl, sym, subst, ◌∙◌}
use Rattle.std.specs.Io.KnownBytes.{Appends, Keeps}
use Rattle.msc_chart.specs.declared.queue.LinkKind.{LinkKind}
use Rattle.msc_chart.specs.declared.queue.Queues.{Queues}
use Rattle.msc_chart.specs.declared.fault.UnrollFault.{UnrollFault}
use Rattle.msc_chart.specs.declared.fault.UnrollFault.TheVariants as two_rounds
use Rattle.msc_chart.specs.Drawings.{Drawing}
use Rattle.msc_ending.specs.declared.fault.RunFault.{RunFault}
use Rattle.msc_ending.specs.declared.fault.RunFault.TheVariants as runs
use Rattle.msc_judge.specs.Findings.{passes_in}
use Rattle.msc_judge.specs.declared.options.CheckOptions.{CheckOptions}
use Rattle.msc_text.specs.declared.judging.Judged.{Judged}
use Rattle.msc_print.specs.Pages as pages
use Rattle.msc_print.specs.Pages.{Tells}
use Rattle.msc_print.specs.declared.page.WriteFault.{WriteFault}
use Rattle.msc_print.specs.declared.page.WriteFault.TheVariants as writing
use Rattle.msc_mark.specs.declared.fault.MarkFault.{MarkFault}
use Rattle.msc_mark.specs.declared.fault.MarkFault.TheVariants as marking
use Rattle.msc_mark.specs.declared.mark.Mark.{Mark}
use Rattle.msc_report.specs.declared.fault.Fault.TheVariants.{Parse, Chart, NotStarted, Memory, Device}
use Rattle.msc_report.specs.Refusals.{of_reading, of_run, of_writing}
use Rattle.msc_source.specs.declared.fault.ReadFault.{ReadFault}
use Rattle.msc_source.specs.declared.fault.ReadFault.TheVariants as readings
use Rattle.msc_reason.specs.declared.kinds.KindSet.{KindSet}
use Rattle.msc_text.specs.Judging.{AreItsRounds, JudgesChart, Passes}
use Rattle.msc_text.specs.declared.judging.ChartFormat.{ChartFormat}
use Rattle.msc_answer.specs.declared.ending.Refusal.{Refusal}
use Rattle.msc_answer.specs.declared.ending.Refusal.TheVariants as refusals
use Rattle.msc_answer.specs.declared.ending.Status.{Status}
use Rattle.msc_answer.specs.declared.tasks.ChartCommand.{ChartCommand}
use Rattle.msc_answer.specs.declared.tasks.ChartCommand.TheVariants as chart_commands
use Rattle.msc_answer.specs.declared.tasks.CheckArgs.{CheckArgs}
use Rattle.msc_answer.specs.declared.tasks.LinkWords.{LinkWords}
use Rattle.msc_answer.specs.declared.tasks.Task.{Task}
use Rattle.msc_answer.specs.Answering.{Answers, AnswersOf, AnswersRaces, AnswersWith, Delivers, Does, EndsAs, IsPut, Performs, PrintsLinked, PrintsOf, PrintsRaces, RefusesLinked, RefusesOf, TellsQuietly}
use Rattle.msc_answer.specs.Charted.{ChartedText}
use Rattle.msc_answer.specs.Ending.{ended_by, of_marks, of_rounds}
use Rattle.msc_answer.specs.declared.chart_answers.Checked.{Checked}
use Rattle.msc_answer.specs.Formats.{IsFormat, IsReadyFormat}
use Rattle.msc_answer.specs.Linked.{under, usual_in, AreLinked, IsLinked}
use Rattle.msc_answer.specs.Marked.{has_marks, AreMarked, ReadsMarks}
use Rattle.msc_answer.specs.Readied.{names_of, AreReady}
use Rattle.msc_answer.specs.Rounds.{AreRounds, GivesRounds, HasRoom}
use Rattle.msc_answer.specs.declared.tasks.QuietArgs.{QuietArgs}
use Rattle.msc_answer.specs.declared.tasks.ReadyArgs.{ReadyArgs}
use Rattle.msc_text.specs.Readying.{PrintsReady}
use Rattle.msc_text.specs.declared.stick_format.StickFormat.{StickFormat}
use Rattle.msc_answer.specs.Refused.{form_of, is_spent, TellsIn, TellsThat, TellsUnread}
use Rattle.msc_print.proofs.PrintLemmas.{Appends-none as nothing_more}

-- bytes that are kept were written
pub kept : (before mid after : Option (List ℕ)) (bytes : List ℕ) → Appends before mid bytes → Keeps mid after → Appends before after bytes
kept None mid after bytes wrote keeps = tt
kept (Some xs) None after bytes wrote keeps = absurd wrote
kept (Some xs) (Some ys) None bytes wrote keeps = absurd keeps
kept (Some xs) (Some ys) (Some zs) bytes wrote keeps = keeps ∙ wrote

-- how marks that can't be read end what is told by the status alone
pub quietly_marked : (x : QuietArgs) (s : ChartedText) (f : MarkFault) → ReadsMarks x.accept s.text (Err f) → TellsQuietly x s (Err (of_marks f))
quietly_marked x s (marking.Part at) faulty = faulty
quietly_marked x s (marking.Reason at) faulty = faulty
quietly_marked x s marking.Memory said = tt

-- and how rounds that are no chart do
pub quietly_long : (x : QuietArgs) (s : ChartedText) (f : UnrollFault) → GivesRounds x.again s.chart (Err f) → TellsQuietly x s (Err (of_rounds f))
quietly_long x s two_rounds.TooManyMessages long = long
quietly_long x s two_rounds.TooManyActions long = long
quietly_long x s two_rounds.Memory said = tt

-- whether rounds are given is whether they are asked for
pub rounds_given : (again : Bool) (d : Drawing) (rounds : Option (Bor Drawing)) → AreRounds again d (option_map (λ u. u.now) rounds) → is_some rounds ≡ again
rounds_given again d None same = sym same
rounds_given again d (Some t) (same, is, short) = sym same

-- and they are those of the chart
pub rounds_are : (again : Bool) (d : Drawing) (rounds : Option (Bor Drawing)) → AreRounds again d (option_map (λ u. u.now) rounds) → AreItsRounds d rounds
rounds_are again d None same = tt
rounds_are again d (Some t) (same, is, short) = is

-- and the chart is short enough for them
pub has_room : (again : Bool) (d : Drawing) (rounds : Option (Bor Drawing)) → AreRounds again d (option_map (λ u. u.now) rounds) → HasRoom again d
has_room again d None same = λ asked. absurd (false≢true (sym same ∙ asked))
has_room again d (Some t) (same, is, short) = λ asked. short

-- a list of which instances are ready is as long as that of the instances
pub lines_fit : (d : Drawing) (names : List (List ℕ)) (only : Option (List Bool)) → AreReady d names only
    → (lines : List Bool) → only ≡ Some lines → length lines ≡ length d.instances
lines_fit d names only are lines same = (subst (AreReady d names) same are).2.each

-- what is printed of one input is printed of another with the same parts
pub judged_alike : {W : Type 0} (contents : W → Option (List ℕ)) (q : CheckOptions) (f : ChartFormat) (r : Result Judged WriteFault) (old new : W)
    (chart chart' : Bor Drawing) (queues queues' : Queues) (marks marks' : Option (Bor (List Mark))) (rounds rounds' : Option (Bor Drawing))
    → chart ≡ chart' → queues ≡ queues' → marks ≡ marks' → rounds ≡ rounds'
    → Tells contents (JudgesChart chart.now queues q (option_map (λ m. m.now) marks) (is_some rounds) f) r old new
    → Tells contents (JudgesChart chart'.now queues' q (option_map (λ m. m.now) marks') (is_some rounds') f) r old new
judged_alike contents q f r old new chart chart' queues queues' marks marks' rounds rounds' a b c d h = rw (a, b, c, d) at h

-- and whether it passes is whether the other does
pub passes_alike : (allowed : KindSet) (passed : Bool)
    (chart chart' : Bor Drawing) (queues queues' : Queues) (marks marks' : Option (Bor (List Mark))) (rounds rounds' : Option (Bor Drawing))
    → chart ≡ chart' → queues ≡ queues' → marks ≡ marks' → rounds ≡ rounds'
    → Passes chart.now queues allowed (option_map (λ m. m.now) marks) (is_some rounds) passed
    → Passes chart'.now queues' allowed (option_map (λ m. m.now) marks') (is_some rounds') passed
passes_alike allowed passed chart chart' queues queues' marks marks' rounds rounds' a b c d h = rw (a, b, c, d) at h

module _ {W : Type 0} (contents : W → Option (List ℕ)) where
  -- what one thing was refused with another was, where what begins the one begins the other
  pub refused_so : {A B : Type 0} (prints : A → List ℕ → Type 0) (so : B → List ℕ → Type 0) (begins begun : List ℕ → Type 0) (refuses not_so : Refusal → Type 0)
      → ((printed : List ℕ) → begins printed → begun printed) → ((r : Refusal) → refuses r → not_so r)
      → (r : Refusal) (old new : W) → AnswersWith contents prints begins refuses (Err r) old new
      → AnswersWith contents so begun not_so (Err r) old new
  refused_so prints so begins begun refuses not_so starts wrong (refusals.Fault Memory) old new (inl same) = inl same
  refused_so prints so begins begun refuses not_so starts wrong (refusals.Fault Memory) old new (inr (printed, says, part)) =
      inr (printed, starts printed says, part)
  refused_so prints so begins begun refuses not_so starts wrong (refusals.Fault Device) old new said = tt
  refused_so prints so begins begun refuses not_so starts wrong (refusals.Fault (Parse f)) old new (fails, same) = (wrong _ fails, same)
  refused_so prints so begins begun refuses not_so starts wrong (refusals.Fault (Chart f)) old new (fails, same) = (wrong _ fails, same)
  refused_so prints so begins begun refuses not_so starts wrong (refusals.Fault (NotStarted i)) old new (fails, same) = (wrong _ fails, same)
  refused_so prints so begins begun refuses not_so starts wrong (refusals.Pair f) old new (fails, same) = (wrong _ fails, same)
  refused_so prints so begins begun refuses not_so starts wrong (refusals.Mark f) old new (fails, same) = (wrong _ fails, same)
  refused_so prints so begins begun refuses not_so starts wrong (refusals.ArrowMark f) old new (fails, same) = (wrong _ fails, same)
  refused_so prints so begins begun refuses not_so starts wrong (refusals.Instance name) old new (fails, same) = (wrong _ fails, same)
  refused_so prints so begins begun refuses not_so starts wrong (refusals.Link fault) old new (fails, same) = (wrong _ fails, same)
  refused_so prints so begins begun refuses not_so starts wrong (refusals.Rounds f) old new (fails, same) = (wrong _ fails, same)
  refused_so prints so begins begun refuses not_so starts wrong (refusals.Import e) old new (fails, same) = (wrong _ fails, same)

  -- what was answered of one thing was answered of another, where what is right of it is right
  -- there, and what begins it begins that
  pub answers_with_so : {A : Type 0} (prints so : A → List ℕ → Type 0) (begins begun : List ℕ → Type 0) (refuses not_so : Refusal → Type 0)
      → ((a : A) (printed : List ℕ) → prints a printed → so a printed)
      → ((printed : List ℕ) → begins printed → begun printed) → ((r : Refusal) → refuses r → not_so r)
      → (answer : Result A Refusal) (old new : W) → AnswersWith contents prints begins refuses answer old new
      → AnswersWith contents so begun not_so answer old new
  answers_with_so prints so begins begun refuses not_so right starts wrong (Ok a) old new (printed, says, wrote) =
      (printed, right a printed says, wrote)
  answers_with_so prints so begins begun refuses not_so right starts wrong (Err r) old new said =
      refused_so prints so begins begun refuses not_so starts wrong r old new said

  -- the same, where what is right begins itself
  pub answers_so : (prints so : Status → List ℕ → Type 0) (refuses not_so : Refusal → Type 0)
      → ((status : Status) (printed : List ℕ) → prints status printed → so status printed) → ((r : Refusal) → refuses r → not_so r)
      → (answer : Result Status Refusal) (old new : W) → Answers contents prints refuses answer old new → Answers contents so not_so answer old new
  answers_so prints so refuses not_so right wrong answer old new said =
      answers_with_so prints so _ _ refuses not_so right (λ printed begun. (begun.0, right begun.0 printed begun.1)) wrong answer old new said

  -- what is right to print was put
  pub print_so : (prints : Status → List ℕ → Type 0) (refuses : Refusal → Type 0) (bytes : List ℕ) (status : Status) → prints status bytes
      → (answer : Result Status Refusal) (old new : W) → IsPut contents bytes status answer old new → Answers contents prints refuses answer old new
  print_so prints refuses bytes status says (Ok s) old new (same, wrote) = (bytes, subst (λ (s : Status). prints s bytes) (sym same) says, wrote)
  print_so prints refuses bytes status says (Err r) old new is = rw is tt

  module _ (c : CheckArgs) (file : List ℕ) (chart_format : ChartFormat) (s : ChartedText) (marks : Option (List Mark))
      (its : IsFormat c file s marks chart_format) (are : AreMarked c.accept s.text marks) (room : HasRoom c.again s.chart) where
    -- what was found of it
    abbrev found_of : Judged → Checked
    found_of found = record { judged = found; marked = has_marks marks }

    -- what is judged of a chart, with rounds of it if they are included
    judges : (again : Bool) → again ≡ c.again → (found : Judged) (printed : List ℕ) → JudgesChart s.chart c.queues c.options marks again chart_format found printed
        → PrintsRaces c file s (found_of found) printed
    judges again asked found printed says =
        (marks, are, refl, chart_format, its, room, subst (λ (a : Bool). JudgesChart s.chart c.queues c.options marks a chart_format found printed) asked says)

    -- where it was told it was answered
    pub judged : (again : Bool) → again ≡ c.again → (found : Judged) (marked : Bool) → marked ≡ has_marks marks → (old new : W)
        → pages.Tells contents (JudgesChart s.chart c.queues c.options marks again chart_format) (Ok found) old new
        → AnswersRaces contents c file s (Ok (record { judged = found; marked = marked })) old new
    judged again asked found marked is old new (printed, says, wrote) = rw is (printed, judges again asked found printed says, wrote)

    -- and so it was where it was not written to its end
    pub not_judged : (again : Bool) → again ≡ c.again → (f : WriteFault) (old new : W)
        → pages.Tells contents (JudgesChart s.chart c.queues c.options marks again chart_format) (Err f) old new
        → AnswersRaces contents c file s (Err (refusals.Fault (of_writing f))) old new
    not_judged again asked writing.Memory old new (inl same) = inl same
    not_judged again asked writing.Memory old new (inr (found, printed, says, begun)) =
        inr (printed, (found_of found, judges again asked found printed says), begun)
    not_judged again asked writing.Device old new said = tt

  -- races that were refused are a check that was refused
  pub races_refused : (c : CheckArgs) (file : List ℕ) (s : ChartedText) (r : Refusal) (old new : W)
      → AnswersRaces contents c file s (Err r) old new → AnswersOf contents (chart_commands.Check c) file s (Err r) old new
  races_refused c file s r old new said =
      refused_so (PrintsRaces c file s) (PrintsOf (chart_commands.Check c) file s) (λ printed. (one : Checked) × PrintsRaces c file s one printed)
      (λ printed. (status : Status) × PrintsOf (chart_commands.Check c) file s status printed) (RefusesOf (chart_commands.Check c) s) (RefusesOf (chart_commands.Check c) s)
      (λ printed begun. (ended_by (passes_in begun.0.judged.totals), (begun.0, refl, begun.1))) (λ r wrong. wrong) r old new said

  module _ (x : ReadyArgs) (file : List ℕ) (s : ChartedText) (only : Option (List Bool)) (are : AreReady s.chart (names_of x) only)
      (format : StickFormat) (its : IsReadyFormat x file s format) (room : HasRoom x.again s.chart) where
    -- what is told of ready instances, with rounds of the chart where they are asked for
    readies : (again : Bool) → again ≡ x.again → (passed : Bool) (printed : List ℕ) → PrintsReady s.chart x.queues only again x.show format passed printed
        → PrintsOf (chart_commands.Ready x) file s (ended_by passed) printed
    readies again asked passed printed says =
        (only, are, format, its, room, passed, refl, subst (λ (a : Bool). PrintsReady s.chart x.queues only a x.show format passed printed) asked says)

    -- where it was told it was answered
    pub readied : (again : Bool) → again ≡ x.again → (passed : Bool) (old new : W)
        → pages.Tells contents (PrintsReady s.chart x.queues only again x.show format) (Ok passed) old new
        → AnswersOf contents (chart_commands.Ready x) file s (Ok (ended_by passed)) old new
    readied again asked passed old new (printed, says, wrote) = (printed, readies again asked passed printed says, wrote)

    -- and so it was where it was not written to its end
    pub not_readied : (again : Bool) → again ≡ x.again → (f : WriteFault) (old new : W)
        → pages.Tells contents (PrintsReady s.chart x.queues only again x.show format) (Err f) old new
        → AnswersOf contents (chart_commands.Ready x) file s (Err (refusals.Fault (of_writing f))) old new
    not_readied again asked writing.Memory old new (inl same) = inl same
    not_readied again asked writing.Memory old new (inr (passed, printed, says, begun)) =
        inr (printed, (ended_by passed, readies again asked passed printed says), begun)
    not_readied again asked writing.Device old new said = tt

  -- marks that can't be read are answered so
  pub not_marked : (c : CheckArgs) (file : List ℕ) (s : ChartedText) (f : MarkFault) (now : W) → ReadsMarks c.accept s.text (Err f)
      → AnswersRaces contents c file s (Err (of_marks f)) now now
  not_marked c file s (marking.Part at) now faulty = (faulty, refl)
  not_marked c file s (marking.Reason at) now faulty = (faulty, refl)
  not_marked c file s marking.Memory now said = inl refl

  -- so are rounds that are no chart, of races
  pub too_long : (c : CheckArgs) (file : List ℕ) (s : ChartedText) (f : UnrollFault) (now : W) → GivesRounds c.again s.chart (Err f)
      → AnswersRaces contents c file s (Err (of_rounds f)) now now
  too_long c file s two_rounds.TooManyMessages now long = (long, refl)
  too_long c file s two_rounds.TooManyActions now long = (long, refl)
  too_long c file s two_rounds.Memory now said = inl refl

  -- and of ready instances
  pub too_long_ready : (x : ReadyArgs) (file : List ℕ) (s : ChartedText) (f : UnrollFault) (now : W) → GivesRounds x.again s.chart (Err f)
      → AnswersOf contents (chart_commands.Ready x) file s (Err (of_rounds f)) now now
  too_long_ready x file s two_rounds.TooManyMessages now long = (long, refl)
  too_long_ready x file s two_rounds.TooManyActions now long = (long, refl)
  too_long_ready x file s two_rounds.Memory now said = inl refl

  -- and so is what is told by the status alone
  pub told_quietly : (x : QuietArgs) (file : List ℕ) (s : ChartedText) (answer : Result Status Refusal) (now : W)
      → TellsQuietly x s answer → AnswersOf contents (chart_commands.Quiet x) file s answer now now
  told_quietly x file s (Ok status) now says = ([], says, nothing_more _)
  told_quietly x file s (Err (refusals.Fault (Parse f))) now says = absurd says
  told_quietly x file s (Err (refusals.Fault (Chart f))) now says = absurd says
  told_quietly x file s (Err (refusals.Fault (NotStarted i))) now says = absurd says
  told_quietly x file s (Err (refusals.Fault Memory)) now says = inl refl
  told_quietly x file s (Err (refusals.Fault Device)) now says = tt
  told_quietly x file s (Err (refusals.Pair f)) now says = absurd says
  told_quietly x file s (Err (refusals.Mark f)) now says = (says, refl)
  told_quietly x file s (Err (refusals.ArrowMark f)) now says = (says, refl)
  told_quietly x file s (Err (refusals.Instance name)) now says = absurd says
  told_quietly x file s (Err (refusals.Link fault)) now says = absurd says
  told_quietly x file s (Err (refusals.Rounds f)) now says = (says, refl)
  told_quietly x file s (Err (refusals.Import e)) now says = absurd says

  -- a chart that was not run is answered so
  pub not_run : (queues : Queues) (patience : ℕ) (file : List ℕ) (s : ChartedText) (f : RunFault) (now : W)
      → ((i : ℕ) → f ≡ runs.NotStarted i → i < length s.chart.instances)
      → AnswersOf contents (chart_commands.Run queues patience) file s (Err (refusals.Fault (of_run f))) now now
  not_run queues patience file s (runs.NotStarted i) now known = (known i refl, refl)
  not_run queues patience file s runs.Memory now known = inl refl

  module _ (ask : ChartCommand) (words : LinkWords) (file : List ℕ) (s : ChartedText) where
    -- words that give no queues are answered so
    pub not_linked : (r : Refusal) (now : W) → IsLinked (usual_in ask) words s (Err r)
        → Answers contents (PrintsLinked ask words file s) (RefusesLinked ask words s) (Err r) now now
    not_linked (refusals.Fault (Parse f)) now said = absurd said
    not_linked (refusals.Fault (Chart f)) now said = absurd said
    not_linked (refusals.Fault (NotStarted i)) now said = absurd said
    not_linked (refusals.Fault Memory) now said = inl refl
    not_linked (refusals.Fault Device) now said = absurd said
    not_linked (refusals.Pair f) now said = absurd said
    not_linked (refusals.Mark f) now said = absurd said
    not_linked (refusals.ArrowMark f) now said = absurd said
    not_linked (refusals.Instance name) now said = absurd said
    not_linked (refusals.Link fault) now said = (said, refl)
    not_linked (refusals.Rounds f) now said = absurd said
    not_linked (refusals.Import e) now said = absurd said

    -- the same of a kind that is this
    pub not_linked_at : (usual : LinkKind) → usual ≡ usual_in ask → (r : Refusal) (now : W)
        → IsLinked usual words s (Err r) → Answers contents (PrintsLinked ask words file s) (RefusesLinked ask words s) (Err r) now now
    not_linked_at usual kind_is r now said =
        not_linked r now (subst (λ (k : LinkKind). IsLinked k words s (Err r)) kind_is said)

    module _ (queues : Queues) (linked : AreLinked (usual_in ask) words s queues) where
      -- what is refused under these queues
      refused_under : (r : Refusal) → RefusesOf (under queues ask) s r → RefusesLinked ask words s r
      refused_under (refusals.Fault (Parse f)) fails = absurd fails
      refused_under (refusals.Fault (Chart f)) fails = absurd fails
      refused_under (refusals.Fault (NotStarted i)) fails = (queues, linked, fails)
      refused_under (refusals.Fault Memory) fails = absurd fails
      refused_under (refusals.Fault Device) fails = absurd fails
      refused_under (refusals.Pair f) fails = (queues, linked, fails)
      refused_under (refusals.Mark f) fails = (queues, linked, fails)
      refused_under (refusals.ArrowMark f) fails = (queues, linked, fails)
      refused_under (refusals.Instance name) fails = (queues, linked, fails)
      refused_under (refusals.Link fault) fails = absurd fails
      refused_under (refusals.Rounds f) fails = (queues, linked, fails)
      refused_under (refusals.Import e) fails = absurd fails

      -- what was answered under these queues
      pub answered_under : (answer : Result Status Refusal) (old new : W)
          → AnswersOf contents (under queues ask) file s answer old new
          → Answers contents (PrintsLinked ask words file s) (RefusesLinked ask words s) answer old new
      answered_under answer old new said =
          answers_so (PrintsOf (under queues ask) file s) (PrintsLinked ask words file s)
          (RefusesOf (under queues ask) s) (RefusesLinked ask words s)
          (λ status printed says. (queues, linked, says)) refused_under answer old new said

  -- an answer that went out is kept by a flush
  pub flushed : (task : Task) (file text : List ℕ) (status : Status) (old mid new : W)
      → Does contents task file text (Ok status) old mid → Keeps (contents mid) (contents new) → Delivers contents task file text (Ok status) old new
  flushed task file text status old mid new (printed, says, wrote) keeps =
      (printed, says, kept (contents old) (contents mid) (contents new) printed wrote keeps)

  module _ (task : Task) (file text : List ℕ) where
    -- where nothing is refused, it is left as that
    spent_so : (refusal : Refusal) (old new : W) → is_spent refusal ≡ true → Does contents task file text (Err refusal) old new
        → Delivers contents task file text (Err refusal) old new
    spent_so (refusals.Fault (Parse f)) old new spent does = absurd cc
    spent_so (refusals.Fault (Chart f)) old new spent does = absurd cc
    spent_so (refusals.Fault (NotStarted i)) old new spent does = absurd cc
    spent_so (refusals.Fault Memory) old new spent does = does
    spent_so (refusals.Fault Device) old new spent does = tt
    spent_so (refusals.Pair f) old new spent does = absurd cc
    spent_so (refusals.Mark f) old new spent does = absurd cc
    spent_so (refusals.ArrowMark f) old new spent does = absurd cc
    spent_so (refusals.Instance name) old new spent does = absurd cc
    spent_so (refusals.Link fault) old new spent does = absurd cc
    spent_so (refusals.Rounds f) old new spent does = absurd cc
    spent_so (refusals.Import e) old new spent does = absurd cc

    -- where something is, the writer has had no call before it is told
    untouched : (refusal : Refusal) (old new : W) → is_spent refusal ≡ false → Does contents task file text (Err refusal) old new → new ≡ old
    untouched (refusals.Fault (Parse f)) old new refused does = does.1
    untouched (refusals.Fault (Chart f)) old new refused does = does.1
    untouched (refusals.Fault (NotStarted i)) old new refused does = does.1
    untouched (refusals.Fault Memory) old new refused does = absurd cc
    untouched (refusals.Fault Device) old new refused does = absurd cc
    untouched (refusals.Pair f) old new refused does = does.1
    untouched (refusals.Mark f) old new refused does = does.1
    untouched (refusals.ArrowMark f) old new refused does = does.1
    untouched (refusals.Instance name) old new refused does = does.1
    untouched (refusals.Link fault) old new refused does = does.1
    untouched (refusals.Rounds f) old new refused does = does.1
    untouched (refusals.Import e) old new refused does = does.1

    -- and then it is told
    told_so : (refusal : Refusal) (old mid new : W) → is_spent refusal ≡ false → Does contents task file text (Err refusal) old mid
        → TellsIn contents (form_of task) file text refusal old new → Delivers contents task file text (Err refusal) old new
    told_so (refusals.Fault (Parse f)) old mid new refused does tells = (does.0, tells)
    told_so (refusals.Fault (Chart f)) old mid new refused does tells = (does.0, tells)
    told_so (refusals.Fault (NotStarted i)) old mid new refused does tells = (does.0, tells)
    told_so (refusals.Fault Memory) old mid new refused does tells = absurd cc
    told_so (refusals.Fault Device) old mid new refused does tells = absurd cc
    told_so (refusals.Pair f) old mid new refused does tells = (does.0, tells)
    told_so (refusals.Mark f) old mid new refused does tells = (does.0, tells)
    told_so (refusals.ArrowMark f) old mid new refused does tells = (does.0, tells)
    told_so (refusals.Instance name) old mid new refused does tells = (does.0, tells)
    told_so (refusals.Link fault) old mid new refused does tells = (does.0, tells)
    told_so (refusals.Rounds f) old mid new refused does tells = (does.0, tells)
    told_so (refusals.Import e) old mid new refused does tells = (does.0, tells)

    -- so a task that is refused is left as it has to be
    pub delivered : (refusal told : Refusal) (old mid new : W) → Does contents task file text (Err refusal) old mid
        → TellsThat contents (form_of task) file text refusal told mid new → Delivers contents task file text (Err told) old new
    delivered refusal told old mid new does (inl (spent, same, stays)) =
        rw (same, stays) (spent_so refusal old mid spent does)
    delivered refusal told old mid new does (inr (refused, inl (same, tells))) =
        rw same (told_so refusal old mid new refused does
        (subst (λ (w : W). TellsIn contents (form_of task) file text refusal w new) (untouched refusal old mid refused does) tells))
    delivered refusal told old mid new does (inr (refused, inr (inl (memory, stays)))) =
        rw memory (inl (stays ∙ untouched refusal old mid refused does))
    delivered refusal told old mid new does (inr (refused, inr (inr device))) = rw device tt

  -- what was not read leaves every task undone
  pub unread : (task : Task) (file : List ℕ) (reads : List ℕ → Type 0) (f : ReadFault) (old new : W) → TellsUnread task old new
      → Performs contents task file reads (Err (refusals.Fault (of_reading f))) old new
  unread task file reads readings.Memory old new told = inr (tt, told)
  unread task file reads (readings.Device e) old new told = inr (tt, told)

  -- a task that was performed was so for texts of which less is known
  performs_so : (task : Task) (file : List ℕ) (reads so : List ℕ → Type 0) (answer : Result Status Refusal) (old new : W)
      → ((text : List ℕ) → reads text → so text) → Performs contents task file reads answer old new → Performs contents task file so answer old new
  performs_so task file reads so answer old new less (inl (text, read, does)) = inl (text, less text read, does)
  performs_so task file reads so answer old new less (inr unread) = inr unread

  -- and ends so
  pub ends_so : (task : Task) (file : List ℕ) (reads so : List ℕ → Type 0) (status : Status) (old new : W)
      → ((text : List ℕ) → reads text → so text) → EndsAs contents task file reads status old new → EndsAs contents task file so status old new
  ends_so task file reads so status old new less (answer, is, performed) =
      (answer, is, performs_so task file reads so answer old new less performed)
