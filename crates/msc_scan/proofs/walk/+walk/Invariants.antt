use Rattle.std.proofs.Common.{◌+◌, ◌*◌, ◌≡◌, ◌++◌, map}
use Rattle.msc_scan.specs.Walks.{names_of, plain_item, Adds, IsBelow, OfItems}
use Rattle.msc_scan.proofs.walk.+walk.Given as goal

abbrev pub decreases-walk : goal.decreases-walk
decreases-walk g l = 4 * l.levels

abbrev pub decreases-walk_items : goal.decreases-walk_items
decreases-walk_items g l = 4 * l.levels + 3

abbrev pub decreases-walk_item : goal.decreases-walk_item
decreases-walk_item g l = 4 * l.levels + 2

abbrev pub decreases-walk_kind : goal.decreases-walk_kind
decreases-walk_kind g l = 4 * l.levels + 1

-- what the names so far add
abbrev pub invariant-walk_items-loop-item : goal.invariant-walk_items-loop-item
invariant-walk_items-loop-item g l = record {
  whole : l.initial.item-iterator.rest.items ≡ l.yielded ++ l.item-iterator.rest.items;
  added : Adds (OfItems (IsBelow l.levels (names_of l.skips)) (names_of l.skips) l.folder (map plain_item l.yielded))
      l.fn.found.items l.found.items;
}
