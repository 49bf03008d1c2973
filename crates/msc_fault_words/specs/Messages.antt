-- Faults of messages, in words.
use Rattle.std.specs.Prelude.{ℕ, ◌-◌, Bool, cond, List, [], ◌∷◌, ◌++◌, Option, codes, length, take}
use Rattle.msc_diagnostic.specs.declared.mark.Sign.TheVariants.{Caret, Dash}
use Rattle.msc_notes.specs.declared.note.Note.{Note}
use Rattle.msc_notes.specs.declared.note.Tag.TheVariants.{First, Hint, Near}
use Rattle.msc_fault_words.specs.declared.message.MessageEnd.{MessageEnd}
use Rattle.msc_fault_words.specs.declared.words.Span.{Span}
use Rattle.msc_fault_words.specs.Told.{note_place, note_text, shown_bytes}
use Rattle.msc_fault_words.specs.Words.{Words, marks_at}

-- a message is sent, or received
unfoldable pub output_text : List ℕ → List ℕ → List ℕ
output_text message address = codes "\"" ++ (message ++ (codes "\" is sent to " ++ address))

unfoldable pub input_text : List ℕ → List ℕ → List ℕ
input_text message address = codes "\"" ++ (message ++ (codes "\" is received from " ++ address))

abbrev pub way_text : MessageEnd → List ℕ
way_text end = cond end.sends (output_text end.message.now end.address.now) (input_text end.message.now end.address.now)

-- it is there twice
unfoldable pub twice_text : MessageEnd → List ℕ
twice_text end = way_text end ++ codes " twice"

-- the hint on it ends with ` tells them apart`, which are 17 bytes
abbrev pub apart_words : List ℕ → List ℕ
apart_words hint = take (length hint - 17) hint

unfoldable pub apart_text : List ℕ → List ℕ
apart_text hint = codes "a number tells them apart: " ++ shown_bytes (apart_words hint)

abbrev pub twice : MessageEnd → Option ℕ → List Note → List Span → Words
twice end place notes spans = record {
  id = codes "chart 6";
  sentence = twice_text end;
  marks = marks_at spans place Caret (codes "again here") ++ marks_at spans (note_place First notes) Dash (codes "first here");
  helps = apart_text (note_text Hint notes) ∷ [];
}

-- it has no other end
abbrev pub missing_text : Bool → List ℕ
missing_text sends = cond sends (codes "which never receives it") (codes "which never sends it")

unfoldable pub unmatched_text : MessageEnd → List ℕ
unmatched_text end = way_text end ++ (codes ", " ++ missing_text end.sends)

-- the other end that is missing
unfoldable pub needed_input : MessageEnd → List ℕ
needed_input end = end.address.now ++ (codes " needs: in " ++ (end.message.now ++ (codes " from " ++ end.owner.now)))

unfoldable pub needed_output : MessageEnd → List ℕ
needed_output end = end.address.now ++ (codes " needs: out " ++ (end.message.now ++ (codes " to " ++ end.owner.now)))

abbrev pub needed_text : MessageEnd → List ℕ
needed_text end = cond end.sends (needed_input end) (needed_output end)

-- the labels of the event, and of the one that may have been meant as its other end
abbrev pub near_label : Bool → List ℕ
near_label sends = cond sends (codes "sent here") (codes "received here")

abbrev pub far_label : Bool → List ℕ
far_label sends = cond sends (codes "this input has no output") (codes "this output has no input")

abbrev pub unmatched : List ℕ → MessageEnd → Option ℕ → List Note → List Span → Words
unmatched id end place notes spans = record {
  id = id;
  sentence = unmatched_text end;
  marks = marks_at spans place Caret (near_label end.sends) ++ marks_at spans (note_place Near notes) Dash (far_label end.sends);
  helps = needed_text end ∷ [];
}
