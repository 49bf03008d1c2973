-- The faults of phases, each as the fault that is worded.
use Rattle.msc_ending.specs.declared.fault.RunFault.{RunFault}
use Rattle.msc_ending.specs.declared.fault.RunFault.TheVariants as runs
use Rattle.msc_source.specs.declared.fault.ReadFault.{ReadFault}
use Rattle.msc_source.specs.declared.fault.ReadFault.TheVariants as reads
use Rattle.msc_source.specs.declared.fault.SourceFault.{SourceFault}
use Rattle.msc_source.specs.declared.fault.SourceFault.TheVariants as sources
use Rattle.msc_report.specs.declared.fault.Fault.{Fault}
use Rattle.msc_report.specs.declared.fault.Fault.TheVariants.{Parse, Chart, NotStarted, Memory, Device}
use Rattle.msc_print.specs.declared.page.WriteFault.{WriteFault}
use Rattle.msc_print.specs.declared.page.WriteFault.TheVariants as writes

-- of reading an input
abbrev pub of_reading : ReadFault → Fault
of_reading reads.Memory = Memory
of_reading (reads.Device e) = Device

-- of making the chart of a text
abbrev pub of_source : SourceFault → Fault
of_source (sources.Parse f) = Parse f
of_source (sources.Chart f) = Chart f
of_source sources.Memory = Memory

-- of running a chart
abbrev pub of_run : RunFault → Fault
of_run (runs.NotStarted i) = NotStarted i
of_run runs.Memory = Memory

-- of writing an answer
abbrev pub of_writing : WriteFault → Fault
of_writing writes.Memory = Memory
of_writing writes.Device = Device
