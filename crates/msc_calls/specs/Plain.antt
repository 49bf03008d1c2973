-- What is asked for a verdict.
use Rattle.std.specs.Prelude.{ℕ, None, false}
use Rattle.msc_reason.specs.declared.kinds.KindSet.{KindSet}
use Rattle.msc_report.specs.declared.style.Style.{Style}
use Rattle.msc_judge.specs.declared.options.CheckOptions.{CheckOptions}

-- no kind
abbrev pub no_kind : KindSet
no_kind = record { early = false; queues = false; unordered = false; overtaken = false }

-- events by their numbers alone
abbrev pub plain_style : Style
plain_style = record { event_positions = None; words = false }

-- all races, so many of them with runs
abbrev pub plain : ℕ → CheckOptions
plain show = record { closest = false; why = false; allowed = no_kind; most = 4294967295; show = show; short = false }
