use Rattle.std.proofs.Common.{◌≡◌, ◌+◌, ◌*◌, ◌++◌}
use Rattle.msc_chart.specs.Lists.{pairs_to}
use Rattle.msc_race.specs.Words.{is_in_word}
use Rattle.msc_race.proofs.racing.push_word.Given as goal

-- what is listed and what is left are all
abbrev pub invariant-loop-left : goal.invariant-loop-left
invariant-loop-left l =
    l.list.items ++ pairs_to (is_in_word l.left l.k) l.e (64 * l.k + 64)
    ≡ l.initial.list.items ++ pairs_to (is_in_word l.word l.k) l.e (64 * l.k + 64)

abbrev pub decreases-loop-left : goal.decreases-loop-left
decreases-loop-left l = l.left
