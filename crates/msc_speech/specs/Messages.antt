-- What people call a message or a step.
use Rattle.std.specs.Prelude.{ℕ, Bool, cond, ◌==◌, List, ◌++◌, Option, None, Some, codes, encode_utf8_all, length}
use Rattle.std.specs.Fmt.{decimal}
use Rattle.msc_spoken.specs.Cutting.{cut_text}
use Rattle.msc_spoken.specs.Showing.{shown_text}
use Rattle.msc_spoken.specs.Speaking.{spoken_text}
use Rattle.msc_speech.specs.Quoting.{quoted}

-- a word, and a line of the text
abbrev pub line_said : List ℕ → ℕ → List ℕ
line_said word line = word ++ decimal line

-- a text between quotes, or what it is called if it is empty
abbrev pub called : List ℕ → List ℕ → ℕ → List ℕ
called text word line = cond (length text == 0) (line_said word line) (quoted text)

-- the number of a message behind its name
abbrev pub with_number : List ℕ → Option (List ℕ) → List ℕ
with_number name None = name
with_number name (Some number) = name ++ (codes ", " ++ encode_utf8_all (shown_text number))

-- a message of a chart
abbrev pub message_said : List ℕ → Option (List ℕ) → List ℕ
message_said name number = quoted (with_number (encode_utf8_all (shown_text name)) number)

-- a step of a chart with this text, on a line
abbrev pub action_said : List ℕ → ℕ → List ℕ
action_said text line = called (encode_utf8_all (cut_text (shown_text text))) (codes "the action of line ") line

-- an arrow of a diagram with this label, on a line
abbrev pub arrow_word : Bool → List ℕ
arrow_word is_step = cond is_step (codes "the step of line ") (codes "the message of line ")

abbrev pub label_said : List ℕ → Bool → ℕ → List ℕ
label_said label is_step line = called (encode_utf8_all (cut_text (spoken_text label))) (arrow_word is_step) line
