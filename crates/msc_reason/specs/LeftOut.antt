-- What does not count: kinds of races, and races that are accepted.
use Rattle.std.specs.Prelude.{ℕ, Bool, false, not, ◌&&◌, None, is_some}
use Rattle.std.specs.Option.{option_map_or}
use Rattle.msc_reason.specs.Kinds.{is_empty}
use Rattle.msc_reason.specs.PairTables.{has_pair}
use Rattle.msc_reason.specs.declared.kinds.KindSet.{KindSet}
use Rattle.msc_reason.specs.declared.left_out.LeftOut.{LeftOut}

-- the pair is accepted
abbrev pub is_accepted : LeftOut → ℕ × ℕ → Bool
is_accepted left p = option_map_or (λ t. has_pair t.now p.0 p.1) left.accepted false

-- there are no kinds, and races are not accepted
abbrev pub leaves_none : LeftOut → Bool
leaves_none left = is_empty left.kinds && not (is_some left.accepted)

-- some kinds alone
abbrev pub of_kinds : KindSet → LeftOut
of_kinds kinds = record { kinds = kinds; accepted = None }
