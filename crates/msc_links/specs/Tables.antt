-- Tables of the kinds that rules give, with a place for each receiver and each link.
use Rattle.std.specs.Prelude.{◌≡◌, ℕ, ◌+◌, ◌*◌, Bool, false, not, cond, List, get_or, Option, None, Some, unwrap_or}
use Rattle.std.specs.Option.{option_or}
use Rattle.msc_chart.specs.declared.TheConstants.{INSTANCE_LIMIT}
use Rattle.msc_chart.specs.declared.queue.LinkKind.{LinkKind}
use Rattle.msc_links.specs.declared.link.Link.{Link}
use Rattle.msc_links.specs.declared.link.Link.TheVariants.{To, Between}
use Rattle.msc_links.specs.declared.line.LineNames.{LineNames}
use Rattle.msc_links.specs.declared.rule.Rule.{Rule}
use Rattle.msc_links.specs.declared.table.KindTable.{KindTable}
use Rattle.msc_links.specs.Links.{IsWithin, same_link}
use Rattle.msc_links.specs.Rules.{given_kind, has_other_kind, same_kind}

-- the place of a link: those of all links to a receiver come first
abbrev pub place_of : Link → ℕ
place_of (To receiver) = receiver
place_of (Between sender receiver) = (sender + 1) * INSTANCE_LIMIT + receiver

-- the kind in the table for a link
unfoldable pub kind_at : KindTable → Link → Option LinkKind
kind_at table link = get_or table.kinds (place_of link) None

-- there is a kind, and it is another one
abbrev pub differs : Option LinkKind → LinkKind → Bool
differs None kind = false
differs (Some old) kind = not (same_kind old kind)

-- one link has been given a kind, and all others have theirs
abbrev pub HasPut : KindTable → KindTable → Link → LinkKind → Type 0
HasPut old new link kind = (other : Link) → IsWithin other
    → kind_at new other ≡ cond (same_link link other) (Some kind) (kind_at old other)

-- the table has the kinds that the rules give, and no two rules give one link two kinds
pub record IsTableOf (names : List LineNames) (rules : List Rule) (table : KindTable) : Type 0 where
  pub kinds : (link : Link) → IsWithin link → kind_at table link ≡ given_kind names rules link
  pub agree : (link : Link) (kind : LinkKind)
      → given_kind names rules link ≡ Some kind → has_other_kind names rules link kind ≡ false

-- the kind of a link by two tables
unfoldable pub tabled_kind : LinkKind → KindTable → KindTable → ℕ → ℕ → LinkKind
tabled_kind usual text given sender receiver =
    unwrap_or (option_or (option_or (kind_at given (Between sender receiver)) (kind_at text (Between sender receiver)))
    (option_or (kind_at given (To receiver)) (kind_at text (To receiver)))) usual
