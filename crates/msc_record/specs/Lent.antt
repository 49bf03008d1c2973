-- The plain data of the values of the code, without who lends their texts.
use Rattle.std.specs.Prelude.{map, option_map}
use Rattle.std.specs.Option.{option_copied}
use Rattle.msc_record.specs.declared.event.Event.{Event as LentEvent}
use Rattle.msc_record.specs.declared.event.EventKind.{EventKind as LentKind}
use Rattle.msc_record.specs.declared.event.EventKind.TheVariants as kinds
use Rattle.msc_record.specs.declared.event.Message.{Message as LentMessage}
use Rattle.msc_record.specs.declared.entry.Entry.{Entry as LentEntry}
use Rattle.msc_record.specs.declared.entry.ListedScenario.{ListedScenario as LentScenario}
use Rattle.msc_record.specs.declared.fault.Fault.{Fault as LentFault}
use Rattle.msc_record.specs.declared.fault.FaultNote.{FaultNote as LentNote}
use Rattle.msc_record.specs.declared.fault.Refusal.{Refusal as LentRefusal}
use Rattle.msc_record.specs.declared.head.CheckedChart.{CheckedChart as LentChart}
use Rattle.msc_record.specs.declared.head.Checked.{Checked as LentChecked}
use Rattle.msc_record.specs.declared.head.Checked.TheVariants as checked
use Rattle.msc_record.specs.declared.head.CheckedDiagram.{CheckedDiagram as LentDiagram}
use Rattle.msc_record.specs.declared.head.Head.{Head as LentHead}
use Rattle.msc_record.specs.declared.head.Link.{Link as LentLink}
use Rattle.msc_record.specs.declared.head.Opening.{Opening as LentOpening}
use Rattle.msc_record.specs.Plain.{CheckedChart, Checked, CheckedDiagram, Entry, Event, EventKind, Fault, FaultNote, Head, Link, ListedScenario, Message, Opening, Refusal}
use Rattle.msc_record.specs.Plain.Checked.{Chart, Diagram}
use Rattle.msc_record.specs.Plain.EventKind.{Output, Input, Action}

abbrev pub plain_message : LentMessage → Message
plain_message m =
    record { name = m.name.now; number = option_copied m.number; other = m.other.now }

abbrev pub plain_kind : LentKind → EventKind
plain_kind (kinds.Output m) = Output (plain_message m)
plain_kind (kinds.Input m) = Input (plain_message m)
plain_kind (kinds.Action t) = Action t.now

abbrev pub plain_event : LentEvent → Event
plain_event e = record {
  event = e.event;
  kind = plain_kind e.kind;
  position = e.position;
  statement = e.statement;
}

abbrev pub plain_scenario : LentScenario → ListedScenario
plain_scenario s =
    record { scenario = s.scenario; choices = s.choices.now; scenarios = s.scenarios }

abbrev pub plain_entry : LentEntry → Entry
plain_entry e = record {
  scenario = option_map plain_scenario e.scenario;
  instance = e.instance.now;
  is_next = e.is_next;
  kind = e.kind.now;
  is_always = e.is_always;
  sentence = e.sentence.now;
  notes = map (λ note. note.now) e.notes.now;
  first = plain_event e.first;
  second = plain_event e.second;
  needed = e.needed;
  output = e.output;
}

abbrev pub plain_opening : LentOpening → Opening
plain_opening o =
    record { version = o.version.now; file = o.file.now; fence = o.fence; status = o.status }

abbrev pub plain_link : LentLink → Link
plain_link l =
    record { sender = option_copied l.sender; receiver = l.receiver.now; kind = l.kind.now }

abbrev pub plain_chart : LentChart → CheckedChart
plain_chart c = record {
  name = c.name.now;
  ring = option_copied c.ring;
  again = c.again;
  stale = option_map (λ events. map plain_event events.now) c.stale;
}

abbrev pub plain_diagram : LentDiagram → CheckedDiagram
plain_diagram d = record {
  name = d.name.now;
  serves = map (λ name. name.now) d.serves.now;
  scenarios = d.scenarios;
  free = d.free;
  stale = option_copied d.stale;
}

abbrev pub plain_checked : LentChecked → Checked
plain_checked (checked.Chart c) = Chart (plain_chart c)
plain_checked (checked.Diagram d) = Diagram (plain_diagram d)

abbrev pub plain_head : LentHead → Head
plain_head h = record {
  opening = plain_opening h.opening;
  queues = h.queues.now;
  links = map plain_link h.links.now;
  counts = h.counts;
  checked = plain_checked h.checked;
}

abbrev pub plain_note : LentNote → FaultNote
plain_note n = record { text = n.text.now; position = n.position }

abbrev pub plain_fault : LentFault → Fault
plain_fault f = record {
  stage = f.stage.now;
  number = f.number;
  text = f.text.now;
  sentence = f.sentence.now;
  position = f.position;
  notes = map plain_note f.notes.now;
}

abbrev pub plain_refusal : LentRefusal → Refusal
plain_refusal r = record {
  opening = plain_opening r.opening;
  fault = plain_fault r.fault;
  further = map plain_fault r.further.now;
}
