-- What the code's borrowed names show.
use Rattle.std.specs.Prelude.{ℕ, ◌+◌, ◌<◌, List, [], ◌∷◌}
use Rattle.std.specs.Option.{option_copied}
use Rattle.msc_chart.specs.declared.end.MessageEnd as code
use Rattle.msc_chart.specs.declared.end.DraftEvent as coded
use Rattle.msc_chart.specs.declared.end.Act as coded_act
use Rattle.msc_chart.specs.declared.end.Act.TheVariants as coded_acts
use Rattle.msc_chart.specs.declared.end.Mark as coded_mark
use Rattle.msc_chart.specs.declared.end.Mark.TheVariants as coded_marks
use Rattle.msc_chart.specs.Events.{MessageEnd, Act, DraftEvent}
use Rattle.msc_chart.specs.Events.Act.{OfMessage, Action}

-- a number of 32 bits, as is the next one
abbrev pub HasNext : ℕ → Type 0
HasNext n = n < 4294967295

-- what an end of the code shows
abbrev pub end_view : code.MessageEnd → MessageEnd
end_view e = record {
  sends = e.sends;
  key = record { sender = e.sender.now; receiver = e.receiver.now; name = e.name.now; number = option_copied e.number };
}

-- what an act shows
abbrev pub act_view : coded_act.Act → Act
act_view (coded_acts.OfMessage e) = OfMessage (end_view e)
act_view (coded_acts.Action text) = Action text.now

-- what an event of a draft shows
abbrev pub event_view : coded.DraftEvent → DraftEvent
event_view e = record { line = e.line; segment = e.segment; act = act_view e.act }

-- a mark tells actions apart, and shows the text alone
abbrev pub mark_view : coded_mark.Mark → Act
mark_view (coded_marks.OfMessage e) = OfMessage (end_view e)
mark_view (coded_marks.Action n text) = Action text.bytes.now

-- the mark of event e, which does this
abbrev pub mark_at : ℕ → coded_act.Act → coded_mark.Mark
mark_at e (coded_acts.OfMessage x) = coded_marks.OfMessage x
mark_at e (coded_acts.Action text) = coded_marks.Action e (record { bytes = text })

-- the marks of events from e on
abbrev pub marks_from : ℕ → List coded.DraftEvent → List coded_mark.Mark
marks_from e [] = []
marks_from e (x ∷ xs) = mark_at e x.act ∷ marks_from (e + 1) xs
