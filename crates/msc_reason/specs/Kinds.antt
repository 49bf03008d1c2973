-- Sets of kinds of races.
use Rattle.std.specs.Prelude.{Bool, ◌||◌, not}
use Rattle.msc_reason.specs.declared.cause.RaceKind.{RaceKind}
use Rattle.msc_reason.specs.declared.cause.RaceKind.TheVariants.{Early, Queues, Unordered, Overtaken}
use Rattle.msc_reason.specs.declared.kinds.KindSet.{KindSet}

-- the set has the kind
abbrev pub has_kind : KindSet → RaceKind → Bool
has_kind set Early = set.early
has_kind set Queues = set.queues
has_kind set Unordered = set.unordered
has_kind set Overtaken = set.overtaken

-- the set has no kind
abbrev pub is_empty : KindSet → Bool
is_empty set = not (((set.early || set.queues) || set.unordered) || set.overtaken)
