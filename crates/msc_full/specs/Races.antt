-- Races as diagnostics.
use Rattle.std.specs.Prelude.{◌≡◌, ℕ, Bool, cond, ◌&&◌, ◌==◌, List, [], ◌∷◌, ◌++◌, Option, None, Some, codes}
use Rattle.std.specs.Option.{option_copied}
use Rattle.std.specs.String.{string_bytes}
use Rattle.msc_reason.specs.declared.cause.Cause.{Cause}
use Rattle.msc_reason.specs.Causes.{kind_word}
use Rattle.msc_diagnostic.specs.declared.diagnostic.Level.{Level}
use Rattle.msc_diagnostic.specs.declared.diagnostic.Level.TheVariants.{Error, Warning}
use Rattle.msc_diagnostic.specs.declared.diagnostic.NoteKind.TheVariants as kinds
use Rattle.msc_diagnostic.specs.declared.mark.Sign.TheVariants.{Caret, Dash}
use Rattle.msc_diagnostic.specs.Plain.{Diagnostic, Mark, Note}
use Rattle.msc_wording.specs.Pairs.{help_text}
use Rattle.msc_wording.specs.Races.{first_label, race_reason, race_sentence, second_label, shared_label}
use Rattle.msc_wording.specs.declared.race.SpokenRace.{SpokenRace}
use Rattle.msc_full.specs.Blocks.{block_of, block_text, events_of, mark_of, note_of, rows_of, texts_of, way_between}
use Rattle.msc_full.specs.declared.event.ShownEvent.{ShownEvent}
use Rattle.msc_full.specs.declared.event.ShownText.{ShownText}
use Rattle.msc_full.specs.declared.block.PairEvents.{PairEvents}
use Rattle.msc_full.specs.declared.block.PairNumbers.{PairNumbers}
use Rattle.msc_full.specs.declared.race.RaceStrings.{RaceStrings}
use Rattle.msc_full.specs.declared.race.ShownRace.{ShownRace}

-- a race to print, as plain data: its events, why it is a race, whether the second event is of the
-- next round, in which scenarios it is a race and the rows of a run, if these are printed
pub record PlainRace : Type 0 where
  pub first : ℕ
  pub second : ℕ
  pub cause : Cause
  pub is_next : Bool
  pub scenarios : Option (List ℕ)
  pub run : Option (List (List ℕ))

-- that of the code
abbrev pub plain_race : ShownRace → PlainRace
plain_race race = record {
  first = race.first;
  second = race.second;
  cause = race.cause;
  is_next = race.is_next;
  scenarios = option_copied race.scenarios;
  run = rows_of race.run;
}

-- a race, as sentences name it
abbrev pub spoken_race : PairEvents → Cause → Bool → SpokenRace
spoken_race events cause is_next = record {
  pair = record {
    first = events.first.spoken;
    second = events.second.spoken;
    is_next = is_next;
    needed = events.needed.spoken;
    output = events.output.spoken;
  };
  kind = cause.kind;
  is_always = cause.always;
  way = way_between events.first events.second;
}

-- a race that every run reverses is an error
abbrev pub race_level : Bool → Level
race_level is_always = cond is_always Error Warning

-- two events are in one statement of the text
abbrev pub is_one_span : ShownEvent → ShownEvent → Bool
is_one_span first second = first.first == second.first && first.past == second.past

-- a caret at the event that is drawn first, and a dash at the other one; one mark if both are in one
-- statement
abbrev pub race_marks : SpokenRace → ShownEvent → ShownEvent → List Mark
race_marks race first second = cond (is_one_span first second)
    (mark_of first Caret (shared_label race.is_always) ∷ [])
    (mark_of first Caret (first_label race.pair.is_next)
    ∷ mark_of second Dash (second_label race.is_always race.pair.is_next) ∷ [])

-- in which scenarios it is a race, if that is told
abbrev pub scenarios_note : Option (List ℕ) → List Note
scenarios_note None = []
scenarios_note (Some scenarios) = note_of kinds.Note scenarios [] ∷ []

-- a run that shows it, if one is told
abbrev pub run_note : Option (List (List ℕ)) → List Note
run_note None = []
run_note (Some rows) = note_of kinds.Note (codes "a run that shows it:") rows ∷ []

-- why it is a race, in which scenarios, what would prevent it, and a run
abbrev pub race_notes : List ℕ → Option (List ℕ) → List ℕ → Option (List (List ℕ)) → List Note
race_notes reason scenarios help run =
    note_of kinds.Note reason [] ∷ (scenarios_note scenarios ++ (note_of kinds.Help help [] ∷ run_note run))

-- what would prevent a race; the lines of its events are marked, and not told again
abbrev pub race_help : List (List ℕ) → SpokenRace → List ℕ
race_help names race =
    codes "the order holds" ++ help_text names (race.pair.first.line ∷ race.pair.second.line ∷ []) race.pair

-- what is said of a race
pub record AreStrings (text : ShownText) (race : SpokenRace) (strings : RaceStrings) : Type 0 where
  pub sentence : string_bytes strings.sentence ≡ race_sentence (texts_of text.names.now) race race.pair.first.act
  pub reason : string_bytes strings.reason ≡ race_reason (texts_of text.names.now) race race.kind
  pub help : string_bytes strings.help ≡ race_help (texts_of text.names.now) race

-- a race between two events as a diagnostic
abbrev pub race_block : List (List ℕ) → PlainRace → ShownEvent → ShownEvent → SpokenRace → Diagnostic
race_block names shown first second race =
    block_of (race_level race.is_always) (kind_word race.kind) (race_sentence names race race.pair.first.act)
    first.place.now (race_marks race first second)
    (race_notes (race_reason names race race.kind) shown.scenarios (race_help names race) shown.run)

-- its text
abbrev pub text_between : ShownText → PlainRace → ShownEvent → ShownEvent → SpokenRace → List ℕ
text_between text shown first second race = block_text text (race_block (texts_of text.names.now) shown first second race)

-- the numbers of the events of a race, and of those of its cause
abbrev pub numbers_of : PlainRace → PairNumbers
numbers_of race =
    record { first = race.first; second = race.second; needed = race.cause.needed; output = race.cause.output }

-- the text of a race, or none if an event is not there
abbrev pub text_if : ShownText → PlainRace → Option PairEvents → List ℕ
text_if text race None = []
text_if text race (Some events) =
    text_between text race events.first events.second (spoken_race events race.cause race.is_next)

abbrev pub race_text : ShownText → PlainRace → List ℕ
race_text text race = text_if text race (events_of text.events.now (numbers_of race))

-- a race that is left, without notes
abbrev pub left_block : List (List ℕ) → ShownEvent → ShownEvent → SpokenRace → Diagnostic
left_block names first second race =
    block_of Warning (codes "race") (race_sentence names race race.pair.first.act) first.place.now
    (race_marks race first second) []

abbrev pub left_between : ShownText → ShownEvent → ShownEvent → SpokenRace → List ℕ
left_between text first second race = block_text text (left_block (texts_of text.names.now) first second race)

abbrev pub left_if : ShownText → PlainRace → Option PairEvents → List ℕ
left_if text race None = []
left_if text race (Some events) =
    left_between text events.first events.second (spoken_race events race.cause race.is_next)

abbrev pub left_text : ShownText → PlainRace → List ℕ
left_text text race = left_if text race (events_of text.events.now (numbers_of race))
