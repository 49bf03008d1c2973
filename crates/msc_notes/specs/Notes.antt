-- What a note says.
use Rattle.std.specs.Prelude.{ℕ, List, codes}
use Rattle.msc_notes.specs.declared.note.Tag.{Tag}
use Rattle.msc_notes.specs.declared.note.Tag.TheVariants as tags

-- the first word of a note
abbrev pub word_of : Tag → List ℕ
word_of tags.Found = codes "found"
word_of tags.Hint = codes "hint"
word_of tags.Behind = codes "behind"
word_of tags.Name = codes "name"
word_of tags.Nearest = codes "nearest"
word_of tags.First = codes "first"
word_of tags.Wanted = codes "wanted"
word_of tags.Near = codes "near"
word_of tags.Drawn = codes "drawn"
word_of tags.Sent = codes "sent"
word_of tags.Opened = codes "opened"
word_of tags.Inside = codes "inside"
