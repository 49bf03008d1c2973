-- The texts that executions are printed as. This project's own formats.
use Rattle.std.specs.Prelude.{ℕ, suc, List, [], ◌∷◌, ◌++◌, Option, None, Some, codes, length}
use Rattle.std.specs.Fmt.{decimal}
use Rattle.std.specs.List.{flat_map}
use Rattle.msc_chart.specs.declared.queue.Queues.{Queues}
use Rattle.msc_chart.specs.Charts as charts
use Rattle.msc_chart.specs.Drawings.{Drawing}
use Rattle.msc_ending.specs.declared.end.End.{End}
use Rattle.msc_ending.specs.declared.end.End.TheVariants.{Finished, Starved, Impatient, Stopped, Foreign}
use Rattle.msc_report.specs.Texts.{text_line}
use Rattle.msc_report.specs.Links.{queues_text}
use Rattle.msc_report.specs.Verdicts.{event_text, instance_text, name_line}

-- how the run of an instance ended; a foreign message has its number
abbrev pub end_text : End → List ℕ
end_text Finished = codes "finished"
end_text Starved = codes "starved"
end_text Impatient = codes "impatient"
end_text Stopped = codes "stopped"
end_text (Foreign m) = codes "foreign " ++ decimal m

-- the line of instance i, which ended so
abbrev pub end_line : Drawing → ℕ → End → List ℕ
end_line d i end = codes "instance " ++ (instance_text d i ++ (codes " " ++ text_line (end_text end)))

-- a line for each instance from i on, in order, with its end
abbrev pub end_lines : Drawing → ℕ → List End → List ℕ
end_lines d i [] = []
end_lines d i (end ∷ ends) = end_line d i end ++ end_lines d (suc i) ends

-- an event of a trace: its number, the name of its instance, and what it does
abbrev pub event_line : Drawing → ℕ → List ℕ
event_line d e =
    decimal e ++ (codes " " ++ (instance_text d (charts.line d.events e)
    ++ (codes " " ++ text_line (event_text d e))))

-- the number of a trace's events and a line for each, in the order of the trace; or that there is
-- none
abbrev pub trace_lines : Drawing → Option (List ℕ) → List ℕ
trace_lines d None = text_line (codes "no trace")
trace_lines d (Some events) =
    codes "trace " ++ (text_line (decimal (length events)) ++ flat_map (event_line d) events)

-- an execution: the chart's name, the architecture, how each instance ended, and the trace
abbrev pub trace_text : Drawing → Queues → List End → Option (List ℕ) → List ℕ
trace_text d queues ends trace =
    name_line d ++ (queues_text d queues ++ (end_lines d 0 ends ++ trace_lines d trace))
