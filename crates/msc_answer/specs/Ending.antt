-- How a run of the program ends.
use Rattle.std.specs.Prelude.{ℕ, Bool, true, false, List}
use Rattle.msc_chart.specs.declared.fault.UnrollFault.{UnrollFault}
use Rattle.msc_chart.specs.declared.fault.UnrollFault.TheVariants as rounds
use Rattle.msc_report.specs.declared.link.RulesOf.TheVariants as rules
use Rattle.msc_report.specs.declared.fault.Fault.{Fault}
use Rattle.msc_report.specs.declared.fault.Fault.TheVariants.{Parse, Chart, NotStarted, Memory, Device}
use Rattle.msc_report.specs.Texts.{fault_line, instance_fault_line, link_fault_line, mark_fault_line, pair_fault_line, queues_fault_line, unroll_fault_line}
use Rattle.msc_diagram.specs.Faults.{accept_fault_line, import_refusal_line}
use Rattle.msc_import.specs.Importing.{seen}
use Rattle.msc_mermaid.specs.declared.fault.ImportFault.{ImportFault}
use Rattle.msc_mermaid.specs.declared.fault.ImportFault.TheVariants as imports
use Rattle.msc_import.specs.declared.importing.Refused.{Refused as NotImported}
use Rattle.msc_mark.specs.declared.fault.MarkFault.{MarkFault}
use Rattle.msc_mark.specs.declared.fault.MarkFault.TheVariants as marks
use Rattle.msc_answer.specs.declared.own.LinkRefusal.{LinkRefusal}
use Rattle.msc_answer.specs.declared.own.LinkRefusal.TheVariants.{Given, Text, Unclear}
use Rattle.msc_answer.specs.declared.ending.Status.{Status}
use Rattle.msc_answer.specs.declared.ending.Status.TheVariants.{Done, Races, Refused, Unfinished, Failed}
use Rattle.msc_answer.specs.declared.ending.Refusal.{Refusal}
use Rattle.msc_answer.specs.declared.ending.Refusal.TheVariants as refusals

-- the exit status for how a run ended
abbrev pub status_code : Status → ℕ
status_code Done = 0
status_code Races = 1
status_code Refused = 2
status_code Unfinished = 3
status_code Failed = 4

-- how a run ends that tells whether something holds: no race counts, or a pair is enforced
abbrev pub ended_by : Bool → Status
ended_by true = Done
ended_by false = Races

-- how a run ends of a chart whose instances have all finished, or not
abbrev pub finished_by : Bool → Status
finished_by true = Done
finished_by false = Unfinished

-- how a run ends that meets a fault
abbrev pub status_of : Fault → Status
status_of (Parse f) = Refused
status_of (Chart f) = Refused
status_of (NotStarted i) = Failed
status_of Memory = Failed
status_of Device = Failed

-- how a run ends that is refused
abbrev pub ends_as : Refusal → Status
ends_as (refusals.Fault f) = status_of f
ends_as (refusals.Pair f) = Refused
ends_as (refusals.Mark f) = Refused
ends_as (refusals.ArrowMark r) = Refused
ends_as (refusals.Instance name) = Refused
ends_as (refusals.Link fault) = Refused
ends_as (refusals.Rounds f) = Refused
ends_as (refusals.Import e) = Refused

-- how a text ends whose marks can't be read
abbrev pub of_marks : MarkFault → Refusal
of_marks (marks.Part at) = refusals.Mark (marks.Part at)
of_marks (marks.Reason at) = refusals.Mark (marks.Reason at)
of_marks marks.Memory = refusals.Fault Memory

-- how a chart ends of which two rounds are none
abbrev pub of_rounds : UnrollFault → Refusal
of_rounds rounds.TooManyMessages = refusals.Rounds rounds.TooManyMessages
of_rounds rounds.TooManyActions = refusals.Rounds rounds.TooManyActions
of_rounds rounds.Memory = refusals.Fault Memory

-- how a text ends of which nothing is imported, with such a fault
abbrev pub of_import_fault : NotImported → ImportFault → Refusal
of_import_fault e imports.Memory = refusals.Fault Memory
of_import_fault e fault = refusals.Import e

abbrev pub of_import : NotImported → Refusal
of_import e = of_import_fault e e.fault

-- the line of why there are no queues
abbrev pub link_refusal_line : LinkRefusal → List ℕ
link_refusal_line (Given fault) = link_fault_line rules.CommandLine fault
link_refusal_line (Text fault place) = link_fault_line rules.Text fault
link_refusal_line (Unclear place) = queues_fault_line place.number

-- the line of a refusal
abbrev pub refusal_line : Refusal → List ℕ
refusal_line (refusals.Fault f) = fault_line f
refusal_line (refusals.Pair f) = pair_fault_line f
refusal_line (refusals.Mark f) = mark_fault_line f
refusal_line (refusals.ArrowMark r) = accept_fault_line r.fault.slip r.position.line
refusal_line (refusals.Instance name) = instance_fault_line name.now
refusal_line (refusals.Link fault) = link_refusal_line fault
refusal_line (refusals.Rounds f) = unroll_fault_line f
refusal_line (refusals.Import e) = import_refusal_line (seen e)
