-- Logs and tables as the code holds them.
use Rattle.std.specs.Prelude.{ℕ, Bool, List, Option, length, map}
use Rattle.std.specs.Global.{Vec}
use Rattle.msc_chart.specs.declared.wiring.Wiring.{Wiring}
use Rattle.msc_chart.specs.Wirings.{wired_by}
use Rattle.msc_gather.specs.declared.linking.TakenSoFar.{TakenSoFar}
use Rattle.msc_gather.specs.declared.merging.Merge.{Merge}
use Rattle.msc_gather.specs.Schedule.{AreLogs, MayFollow, FollowsLeast}
use Rattle.msc_gather.specs.Marks.{AreLineLogs, AreMarks}
use Rattle.msc_gather.specs.Links.{AreLinks, HoldsTaken}
use Rattle.msc_gather.specs.Merges.{IsMerging, MayFollowOn}

-- the events of each log
abbrev pub log_lists : List (Vec ℕ) → List (List ℕ)
log_lists logs = map (λ v. v.items) logs

-- the logs are logs of the chart, one for each of so many lines
abbrev pub HasLogs : Wiring → List (Vec ℕ) → Type 0
HasLogs w logs = AreLogs (wired_by w) (length logs) (log_lists logs)

-- each is a log of its line
abbrev pub HasLineLogs : Wiring → List (Vec ℕ) → Type 0
HasLineLogs w logs = AreLineLogs (wired_by w) (length logs) (log_lists logs)

-- the marks are those of their events
abbrev pub HasMarks : Wiring → List (Vec ℕ) → List Bool → Type 0
HasMarks w logs marks = AreMarks (wired_by w) (log_lists logs) marks

-- the links are those of their events
abbrev pub HasLinks : Wiring → List (Vec ℕ) → List (Option ℕ) → Type 0
HasLinks w logs links = AreLinks (wired_by w) (log_lists logs) links

-- what was taken from the queues in the list
abbrev pub TookFrom : Wiring → List ℕ → TakenSoFar → Type 0
TookFrom w list t = HoldsTaken (wired_by w) list t.before.items t.last.items

-- a part of the least run of the logs
abbrev pub HoldsMerge : Wiring → List (Vec ℕ) → Merge → Type 0
HoldsMerge w logs m = IsMerging (wired_by w) (log_lists logs) m.past.items m.heads.items
    m.done.items

-- x may follow it
abbrev pub MayGoOn : Wiring → List (Vec ℕ) → Merge → ℕ → Type 0
MayGoOn w logs m x = MayFollow (wired_by w) (log_lists logs) m.past.items x

-- x may follow it, and is on line i
abbrev pub MayGoOnAt : Wiring → List (Vec ℕ) → Merge → ℕ → ℕ → Type 0
MayGoOnAt w logs m i x = MayFollowOn (wired_by w) (log_lists logs) m.past.items i x

-- x is the least event that may follow it
abbrev pub MergesOn : Wiring → List (Vec ℕ) → Merge → ℕ → Type 0
MergesOn w logs m x = FollowsLeast (wired_by w) (log_lists logs) m.past.items x
