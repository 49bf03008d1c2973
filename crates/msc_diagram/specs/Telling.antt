-- What goes out of scenarios in pages.
use Rattle.std.specs.Prelude.{◌≡◌, ◌⊎◌, ℕ, ◌+◌, Bool, cond, true, false, List, [], ◌++◌, Option, None, Some, Result, Ok, Err, count_by, is_some, length, not, take}
use Rattle.std.specs.List.{filter}
use Rattle.std.specs.String.{string_bytes}
use Rattle.msc_chart.specs.declared.queue.Queues.{Queues}
use Rattle.msc_judge.specs.Findings.{Texts}
use Rattle.msc_print.specs.Pages.{Pages, Puts, WritesBeginning}
use Rattle.msc_race.specs.Views.{races_of}
use Rattle.msc_race.specs.Wired.{EnforcedChart}
use Rattle.msc_reason.specs.Counting.{counting}
use Rattle.msc_reason.specs.LeftOut.{of_kinds}
use Rattle.msc_reason.specs.Marked.{cause_in}
use Rattle.msc_reason.specs.declared.left_out.LeftOut.{LeftOut}
use Rattle.msc_shown_diagram.specs.Choices.{AreChoicesSaid}
use Rattle.msc_print.specs.declared.page.WriteFault.{WriteFault}
use Rattle.msc_print.specs.declared.page.WriteFault.TheVariants.{Memory, Device}
use Rattle.msc_diagram.specs.Counts.{chooses, counted_in, counts_at, counts_of, counts_text, names, place_counts, AreCountsOf}
use Rattle.msc_diagram.specs.Full.{AreEventsOf, AreFullTexts}
use Rattle.msc_diagram.specs.Judging.{editors_of, lines_of}
use Rattle.msc_diagram.specs.Places.{above_with, same_places}
use Rattle.msc_diagram.specs.Scenarios.{all_of, asked_of, case_text, cases_text, counting_of, named_of, passed_of, places_from, new_in, AreCases, AreTextsIf, AreTold, Case, IsCase, TextsOf}
use Rattle.msc_diagram.specs.Stale.{idle_in, stale_marks, uses}
use Rattle.msc_diagram.specs.Tallies.{counts_of as counts_at_places, tally_at}
use Rattle.msc_diagram.specs.declared.answer.Above.{Above}
use Rattle.msc_diagram.specs.declared.answer.Answer.{Answer}
use Rattle.msc_diagram.specs.declared.cases.Asked.{Asked}
use Rattle.msc_diagram.specs.declared.cases.RaceFormat.{RaceFormat}
use Rattle.msc_diagram.specs.declared.cases.RaceFormat.TheVariants.{Lines, Editor, Full}
use Rattle.msc_diagram.specs.declared.check.ScenarioCheck.{ScenarioCheck}
use Rattle.msc_diagram.specs.declared.full.CaseWords.{CaseWords}
use Rattle.msc_diagram.specs.declared.full.FullAsked.{FullAsked}
use Rattle.msc_diagram.specs.declared.numbers.PlaceCounts.{PlaceCounts}
use Rattle.msc_diagram.specs.declared.place.EventPlace.{EventPlace}
use Rattle.msc_diagram.specs.declared.scenario.Scenario.{Scenario}

-- scenarios have heads in a format
abbrev pub has_heads : RaceFormat → Bool
has_heads (Lines words) = true
has_heads Editor = false
has_heads (Full f) = false

-- these are the texts of the new races of a scenario in a format
abbrev pub AreTextsBy : RaceFormat → Queues → TextsOf
AreTextsBy (Lines words) queues i first new s texts = texts ≡ lines_of words s
AreTextsBy Editor queues i first new s texts = texts ≡ editors_of s
AreTextsBy (Full f) queues i first new s texts =
    AreFullTexts f.shown f.scenarios queues i first (counts_at_places f.tally.now s new) s texts

-- what is known of the texts of a scenario by its number, below races of these places
abbrev pub IsTold : Asked → ℕ → List (EventPlace × EventPlace) → Case → Type 0
IsTold a i above c = AreTextsIf (AreTextsBy a.format a.check.queues) i (length above) (new_in a.check above c) c.scenario c.texts

abbrev pub AreToldBy : Asked → List (EventPlace × EventPlace) → List Case → Type 0
AreToldBy a above cases = AreTold (AreTextsBy a.format a.check.queues) a.check 1 above cases

-- these are the words of these races of a scenario: those of its events, its choices, and how many
-- scenarios count at each place
pub record AreCaseWords (a : FullAsked) (pairs : List (ℕ × ℕ)) (s : Scenario) (w : CaseWords) : Type 0 where
  pub events : AreEventsOf a.races.shown a.queues s w.events
  pub choices : AreChoicesSaid a.races.shown.diagram.now a.races.shown.text.now s.choices (string_bytes w.choices)
  pub counts : w.counts.items ≡ counts_at_places a.races.tally.now s pairs

-- What a text of some races says was put behind a page, with texts of races of which this is known; or
-- memory ran out before there were any.
abbrev pub PutsNew : (Texts → Type 0) → (Texts → List ℕ) → Result (Unit {0}) WriteFault → Option (List ℕ) → Option (List ℕ) → List ℕ → List ℕ → Type 0
PutsNew are text result before after old new =
    ((texts : Texts) × are texts × Puts result before after old new (text texts))
    ⊎ ((result ≡ Err Memory) × WritesBeginning before after old)

-- A scenario of which so many races count was put behind a page by its number, below races of these
-- places, which those that were listed join: of the page and its text a beginning went out.
pub record PutsCase (a : Asked) (i : ℕ) (s : Scenario) (above below : List (EventPlace × EventPlace)) (before after : Option (List ℕ)) (old new : List ℕ) (counting : ℕ) : Type 0 where
  pub known : Case
  pub scenario : known.scenario ≡ s
  pub is : IsCase a.check known
  pub counted : counting ≡ length (counting_of a.check known)
  pub reported : below ≡ above_with known.scenario above (asked_of a.check known)
  pub told : IsTold a i above known
  pub put : Pages before after old new (case_text (has_heads a.format) a.check i above known)

-- memory ran out: a beginning of the page went out, or of the page and the text of the scenario
abbrev pub StopsCase : Asked → ℕ → Scenario → List (EventPlace × EventPlace) → Option (List ℕ) → Option (List ℕ) → List ℕ → Type 0
StopsCase a i s above before after old =
    WritesBeginning before after old
    ⊎ ((c : Case) × (c.scenario ≡ s) × IsCase a.check c × IsTold a i above c
    × WritesBeginning before after (old ++ case_text (has_heads a.format) a.check i above c))

-- it was put, or memory ran out, or the writer failed
abbrev pub TellsCase : Asked → ℕ → Scenario → List (EventPlace × EventPlace) → List (EventPlace × EventPlace) → Option (List ℕ) → Option (List ℕ) → List ℕ → List ℕ → Result ℕ WriteFault → Type 0
TellsCase a i s above below before after old new (Ok counting) = PutsCase a i s above below before after old new counting
TellsCase a i s above below before after old new (Err Memory) = StopsCase a i s above before after old
TellsCase a i s above below before after old new (Err Device) = Unit {0}

-- these scenarios were put behind a page, of which so many have no race that counts
pub record PutsCases (a : Asked) (scenarios : List Scenario) (above below : List (EventPlace × EventPlace)) (before after : Option (List ℕ)) (old new : List ℕ) (passed : ℕ) : Type 0 where
  pub cases : List Case
  pub are : AreCases a.check scenarios cases
  pub counted : passed ≡ passed_of a.check cases
  pub reported : below ≡ places_from (asked_of a.check) above cases
  pub told : AreToldBy a above cases
  pub put : Pages before after old new (cases_text (has_heads a.format) a.check 1 above cases)

-- memory ran out: of the page and the text of the first scenarios a beginning went out
pub record StopsCases (a : Asked) (scenarios : List Scenario) (above : List (EventPlace × EventPlace)) (before after : Option (List ℕ)) (old : List ℕ) : Type 0 where
  pub first : ℕ
  pub cases : List Case
  pub are : AreCases a.check (take first scenarios) cases
  pub told : AreToldBy a above cases
  pub begun : WritesBeginning before after (old ++ cases_text (has_heads a.format) a.check 1 above cases)

-- they were put, or memory ran out, or the writer failed
abbrev pub TellsCases : Asked → List Scenario → List (EventPlace × EventPlace) → List (EventPlace × EventPlace) → Option (List ℕ) → Option (List ℕ) → List ℕ → List ℕ → Result ℕ WriteFault → Type 0
TellsCases a scenarios above below before after old new (Ok passed) = PutsCases a scenarios above below before after old new passed
TellsCases a scenarios above below before after old new (Err Memory) = StopsCases a scenarios above before after old
TellsCases a scenarios above below before after old new (Err Device) = Unit {0}

-- the numbers and stale marks that are known above the scenarios: with options that choose among the
-- races, or marks
abbrev pub IsCountedAbove : List Scenario → ScenarioCheck → Option Above → Type 0
IsCountedAbove scenarios k None = chooses k ≡ false
IsCountedAbove scenarios k (Some above) = (chooses k ≡ true) × AreCountsOf scenarios k above.counts above.stale.items

-- the same of numbers and stale marks, of which there are none without marks
abbrev pub IsKnownAbove : List Scenario → ScenarioCheck → Option PlaceCounts → List ℕ → Type 0
IsKnownAbove scenarios k None stale = (chooses k ≡ false) × (stale ≡ [])
IsKnownAbove scenarios k (Some counts) stale = (chooses k ≡ true) × AreCountsOf scenarios k counts stale

-- what is written of them
abbrev pub above_text : ScenarioCheck → Option PlaceCounts → List ℕ
above_text k None = []
above_text k (Some counts) = counts_text k counts

-- the races of a scenario joined the places of all races, of those of kinds that are not left out if
-- some are or marks are used, of those that count if marks are used, and of those that are listed; the
-- scenario was counted for the places of those that count, if that is asked for; and marks that accept
-- one are idle no more
pub record SeesCase (s : Scenario) (k : ScenarioCheck) (tallies : Bool) (old new : Answer) : Type 0 where
  pub known : Case
  pub scenario : known.scenario ≡ s
  pub is : IsCase k known
  pub all : new.all ≡ above_with s old.all (all_of k known)
  pub named : names k ≡ true → new.named ≡ above_with s old.named (named_of k known)
  pub counting : is_some k.marks ≡ true → new.counting ≡ above_with s old.counting (counting_of k known)
  pub listed : new.listed ≡ above_with s old.listed (asked_of k known)
  pub tally : tallies ≡ true → (p : EventPlace × EventPlace) → tally_at new.tally p ≡ tally_at old.tally p + cond (counts_at k p known) 1 0
  pub idle : new.idle.items ≡ filter (λ n. not (uses k known n)) old.idle.items

-- the same, but for the listed races and the marks, of a scenario with this chart, of whose races this is
-- left out
pub record SeesSelected (s : Scenario) (k : ScenarioCheck) (tallies : Bool) (e : EnforcedChart) (left : LeftOut) (old new : Answer) : Type 0 where
  pub all : new.all ≡ above_with s old.all (races_of e)
  pub named : names k ≡ true → new.named ≡ above_with s old.named (counting e (of_kinds k.options.allowed) (cause_in e))
  pub counting_is : is_some k.marks ≡ true → new.counting ≡ above_with s old.counting (counting e left (cause_in e))
  pub tally : tallies ≡ true → (p : EventPlace × EventPlace)
      → tally_at new.tally p ≡ tally_at old.tally p + count_by (same_places p) (above_with s [] (counting e left (cause_in e)))
  pub listed : new.listed ≡ old.listed
  pub idle : new.idle.items ≡ old.idle.items

-- the same of all scenarios
pub record SeesCases (scenarios : List Scenario) (k : ScenarioCheck) (tallies : Bool) (old new : Answer) : Type 0 where
  pub cases : List Case
  pub are : AreCases k scenarios cases
  pub all : new.all ≡ places_from (all_of k) old.all cases
  pub named : names k ≡ true → new.named ≡ places_from (named_of k) old.named cases
  pub counting : is_some k.marks ≡ true → new.counting ≡ places_from (counting_of k) old.counting cases
  pub listed : new.listed ≡ places_from (asked_of k) old.listed cases
  pub tally : tallies ≡ true → (p : EventPlace × EventPlace) → tally_at new.tally p ≡ tally_at old.tally p + counted_in k cases p
  pub idle : new.idle.items ≡ idle_in k cases old.idle.items

-- these are the places of the races of scenarios, the stale marks, and the numbers of scenarios in which
-- a race counts, if these are asked for
pub record IsAnswerOf (scenarios : List Scenario) (k : ScenarioCheck) (tallies : Bool) (answer : Answer) : Type 0 where
  pub cases : List Case
  pub are : AreCases k scenarios cases
  pub counts : counts_of k answer.all answer.named answer.counting answer.listed ≡ place_counts k cases
  pub stale : answer.idle.items ≡ stale_marks k cases
  pub counted : tallies ≡ true → (p : EventPlace × EventPlace) → tally_at answer.tally p ≡ counted_in k cases p
