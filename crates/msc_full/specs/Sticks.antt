-- Instances that can block, as diagnostics.
use Rattle.std.specs.Prelude.{◌≡◌, ℕ, Bool, true, false, List, [], ◌∷◌, ◌++◌, Option, None, Some, codes}
use Rattle.std.specs.String.{string_bytes}
use Rattle.msc_chart.specs.declared.queue.LinkKind.{LinkKind}
use Rattle.msc_chart.specs.declared.queue.LinkKind.TheVariants.{Pair, Mailbox, Single}
use Rattle.msc_diagnostic.specs.declared.diagnostic.Level.TheVariants.{Error}
use Rattle.msc_diagnostic.specs.declared.diagnostic.NoteKind.TheVariants as kinds
use Rattle.msc_diagnostic.specs.declared.mark.Sign.TheVariants.{Caret, Dash}
use Rattle.msc_diagnostic.specs.Plain.{Diagnostic, Mark, Note}
use Rattle.msc_wording.specs.Blocked.{ahead_label, blocked_sentence}
use Rattle.msc_wording.specs.Pairs.{help_text}
use Rattle.msc_wording.specs.declared.blocked.SpokenBlockedPair.{SpokenBlockedPair}
use Rattle.msc_full.specs.declared.block.PairEvents.{PairEvents}
use Rattle.msc_full.specs.declared.block.PairNumbers.{PairNumbers}
use Rattle.msc_full.specs.declared.event.ShownEvent.{ShownEvent}
use Rattle.msc_full.specs.declared.event.ShownText.{ShownText}
use Rattle.msc_full.specs.declared.stick.ShownStick.{ShownStick}
use Rattle.msc_full.specs.declared.stick.StickShown.{StickShown}
use Rattle.msc_full.specs.declared.stick.StickShown.TheVariants.{Nothing, Run, Behind}
use Rattle.msc_full.specs.declared.stick.StickStrings.{StickStrings}
use Rattle.msc_full.specs.Blocks.{block_of, block_text, events_of, mark_of, note_of, texts_of}

-- the message of an input comes through a mailbox
abbrev pub comes_by_mailbox : LinkKind → Bool
comes_by_mailbox Pair = false
comes_by_mailbox Mailbox = true
comes_by_mailbox Single = false

-- a stick, as sentences name it
abbrev pub spoken_stick : PairEvents → Bool → SpokenBlockedPair
spoken_stick events is_next = record {
  pair = record {
    first = events.first.spoken;
    second = events.second.spoken;
    is_next = is_next;
    needed = events.needed.spoken;
    output = events.output.spoken;
  };
  in_mailbox = comes_by_mailbox events.first.kind;
}

-- a caret at the input that is waited for, and a dash at the one that is ahead
abbrev pub stick_marks : SpokenBlockedPair → ShownEvent → ShownEvent → List Mark
stick_marks stick first second =
    mark_of first Caret (codes "waits for this") ∷ mark_of second Dash (ahead_label stick.in_mailbox) ∷ []

-- a stick to print, as plain data: its events, whether the second is of the next round, and what
-- is shown of it: a note on the stick that is ahead of it, or the rows of a run, if these are printed
pub record PlainStick : Type 0 where
  pub first : ℕ
  pub second : ℕ
  pub needed : ℕ
  pub output : ℕ
  pub is_next : Bool
  pub behind : Option (List ℕ)
  pub run : Option (List (List ℕ))

abbrev pub behind_of : StickShown → Option (List ℕ)
behind_of Nothing = None
behind_of (Run rows) = None
behind_of (Behind text) = Some text.now

abbrev pub run_of : StickShown → Option (List (List ℕ))
run_of Nothing = None
run_of (Run rows) = Some (texts_of rows.now)
run_of (Behind text) = None

-- that of the code
abbrev pub plain_stick : ShownStick → PlainStick
plain_stick stick = record {
  first = stick.first;
  second = stick.second;
  needed = stick.needed;
  output = stick.output;
  is_next = stick.is_next;
  behind = behind_of stick.shown;
  run = run_of stick.shown;
}

-- the note on what is shown of it
abbrev pub shown_part : Option (List ℕ) → Option (List (List ℕ)) → List Note
shown_part (Some text) run = note_of kinds.Note text [] ∷ []
shown_part None (Some rows) = note_of kinds.Note (codes "a run that shows it:") rows ∷ []
shown_part None None = []

-- what would prevent it, and what is shown of it
abbrev pub stick_notes : List ℕ → List Note → List Note
stick_notes help shown = note_of kinds.Help help [] ∷ shown

abbrev pub stick_help : List (List ℕ) → SpokenBlockedPair → List ℕ
stick_help names stick =
    codes "it cannot block here" ++ help_text names (stick.pair.first.line ∷ stick.pair.second.line ∷ []) stick.pair

-- what is said of it
pub record AreStickStrings (text : ShownText) (stick : SpokenBlockedPair) (strings : StickStrings) : Type 0 where
  pub sentence : string_bytes strings.sentence ≡ blocked_sentence (texts_of text.names.now) stick
  pub help : string_bytes strings.help ≡ stick_help (texts_of text.names.now) stick

-- a stick of two events as a diagnostic, with these notes on what is shown of it
abbrev pub stick_block : List (List ℕ) → List Note → ShownEvent → ShownEvent → SpokenBlockedPair → Diagnostic
stick_block names shown first second stick =
    block_of Error (codes "stick") (blocked_sentence names stick) first.place.now
    (stick_marks stick first second) (stick_notes (stick_help names stick) shown)

-- its text
abbrev pub stick_between : ShownText → List Note → ShownEvent → ShownEvent → SpokenBlockedPair → List ℕ
stick_between text shown first second stick = block_text text (stick_block (texts_of text.names.now) shown first second stick)

abbrev pub stick_numbers : PlainStick → PairNumbers
stick_numbers stick =
    record { first = stick.first; second = stick.second; needed = stick.needed; output = stick.output }

-- the text of a stick, or none if an event is not there
abbrev pub stick_if : ShownText → PlainStick → Option PairEvents → List ℕ
stick_if text stick None = []
stick_if text stick (Some events) =
    stick_between text (shown_part stick.behind stick.run) events.first events.second (spoken_stick events stick.is_next)

abbrev pub stick_text : ShownText → PlainStick → List ℕ
stick_text text stick = stick_if text stick (events_of text.events.now (stick_numbers stick))
