-- What was expected at a place, in the words of a printed fault. This project's own.
use Rattle.std.specs.Prelude.{ℕ, List, codes}
use Rattle.msc_parser.specs.declared.fault.What.{What}
use Rattle.msc_parser.specs.declared.fault.What.TheVariants as whats

-- what was expected, in words
abbrev pub expectation : What → List ℕ
expectation whats.Msc = codes "msc"
expectation whats.Name = codes "a name"
expectation whats.Text = codes "a text"
expectation whats.End = codes "the end of the statement"
expectation whats.Section = codes "a section"
expectation whats.Item = codes "an item"
expectation whats.Event = codes "an event"
expectation whats.To = codes "to"
expectation whats.From = codes "from"
expectation whats.Parameter = codes "a parameter list"
expectation whats.Nothing = codes "the end of the text"
