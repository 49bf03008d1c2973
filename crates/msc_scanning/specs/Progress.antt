-- What was found of the files of a scan so far.
use Rattle.std.specs.Prelude.{Bool, true, false, ◌||◌, not, nat_eq, List, [], ◌∷◌, length}
use Rattle.std.specs.List.{list_any}
use Rattle.msc_answer.specs.Surveys.{worse}
use Rattle.msc_answer.specs.declared.ending.Status.{Status}
use Rattle.msc_answer.specs.declared.ending.Status.TheVariants.{Done, Races, Refused, Unfinished, Failed}
use Rattle.msc_scanning.specs.Outcomes.{nothing_counted, one_if, plus, with_all}
use Rattle.msc_scanning.specs.declared.outcome.Outcome.{Outcome}
use Rattle.msc_scanning.specs.declared.progress.Progress.{Progress}
use Rattle.msc_scanning.specs.declared.tally.Tally.{Tally}

-- a diagram was checked or refused
abbrev pub is_answered : Status → Bool
is_answered Done = true
is_answered Races = true
is_answered Refused = true
is_answered Unfinished = false
is_answered Failed = false

abbrev pub any_answered : List Outcome → Bool
any_answered outcomes = list_any (λ one. is_answered one.status) outcomes

-- the worst of these statuses
abbrev pub worst : Status → List Outcome → Status
worst status [] = status
worst status (one ∷ others) = worst (worse status one.status) others

-- one more file counts, if it has a diagram that was checked or refused
abbrev pub with_file : List Outcome → Tally → Tally
with_file outcomes t = record t { files = plus t.files (one_if (any_answered outcomes)) }

-- the same with the diagrams of one more file
abbrev pub with_outcomes : Progress → List Outcome → Progress
with_outcomes g outcomes = record {
  tally = with_file outcomes (with_all outcomes g.tally);
  status = worst g.status outcomes;
  found = g.found || not (nat_eq (length outcomes) 0);
}

-- of no file
abbrev pub none : Progress
none = record { tally = nothing_counted; status = Done; found = false }
