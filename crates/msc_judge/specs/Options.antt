-- What is asked for answers that do not tell each race with its run.
use Rattle.std.specs.Prelude.{true, false}
use Rattle.msc_reason.specs.declared.kinds.KindSet.{KindSet}
use Rattle.msc_judge.specs.declared.options.CheckOptions.{CheckOptions}

-- for a count, where these kinds are left out: it is of the closest races too, and of no race by
-- itself
abbrev pub counted : KindSet → CheckOptions
counted allowed = record { closest = true; why = false; allowed = allowed; most = 0; show = 0; short = false }

-- for lines that editors read: the kind of each race is told, and no run is shown
abbrev pub for_editors : CheckOptions → CheckOptions
for_editors q = record { closest = q.closest; why = true; allowed = q.allowed; most = q.most; show = 0; short = false }

-- for people: only the closest races are told, each with its kind and what it lacks, and the runs that
-- show them are short
abbrev pub for_people : CheckOptions → CheckOptions
for_people q = record { closest = true; why = true; allowed = q.allowed; most = q.most; show = q.show; short = true }
