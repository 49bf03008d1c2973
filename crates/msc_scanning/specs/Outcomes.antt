-- What a scan counts of the diagrams that it checks.
use Rattle.std.specs.Prelude.{ℕ, ◌+◌, ◌-◌, ◌^◌, Bool, true, false, ◌||◌, cond, min, List, [], ◌∷◌, None}
use Rattle.std.specs.Option.{option_or}
use Rattle.msc_answer.specs.declared.ending.Status.{Status}
use Rattle.msc_answer.specs.declared.ending.Status.TheVariants.{Done, Races, Refused, Unfinished, Failed}
use Rattle.msc_scanning.specs.declared.outcome.Outcome.{Outcome}
use Rattle.msc_scanning.specs.declared.tally.Tally.{Tally}

-- so many and so many more; a number stops at the greatest one of 64 bits
abbrev pub plus : ℕ → ℕ → ℕ
plus n more = min (n + more) (2 ^ 64 - 1)

abbrev pub one_if : Bool → ℕ
one_if holds = cond holds 1 0

-- it was checked: it is neither refused nor failed
abbrev pub is_checked : Status → Bool
is_checked Done = true
is_checked Races = true
is_checked Refused = false
is_checked Unfinished = false
is_checked Failed = false

-- what is counted of one more diagram by how it ended
abbrev pub counted : Status → Bool → Tally → Tally
counted Done races t = record t { passed = plus t.passed 1 }
counted Races races t = record t { races = plus t.races (one_if races); stale = plus t.stale (cond races 0 1) }
counted Refused races t = record t { refused = plus t.refused 1 }
counted Unfinished races t = record t { failed = plus t.failed 1 }
counted Failed races t = record t { failed = plus t.failed 1 }

-- and by what a check found
abbrev pub found_in : Outcome → Tally → Tally
found_in one t = record t {
  accepted = plus t.accepted one.accepted;
  silent = plus t.silent (one_if one.silent);
  marked = t.marked || one.marked;
  help = option_or t.help one.help;
}

-- what is counted with one more diagram
abbrev pub with_outcome : Outcome → Tally → Tally
with_outcome one t = counted one.status one.races (cond (is_checked one.status) (found_in one t) t)

-- with all of these
abbrev pub with_all : List Outcome → Tally → Tally
with_all [] t = t
with_all (one ∷ others) t = with_all others (with_outcome one t)

-- nothing
abbrev pub nothing_counted : Tally
nothing_counted = record {
  passed = 0;
  races = 0;
  stale = 0;
  refused = 0;
  failed = 0;
  files = 0;
  accepted = 0;
  silent = 0;
  marked = false;
  help = None;
}
