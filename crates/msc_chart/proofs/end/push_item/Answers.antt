use Rattle.std.proofs.Common.{◌≡◌, ℕ, ◌+◌, false, nat_eq, List, [], ◌∷◌, length, refl, sym, ap, ◌∙◌}
use Rattle.msc_parser.specs.declared.tree.Item.{Item}
use Rattle.msc_parser.specs.declared.tree.Item.TheVariants.{Coregion}
use Rattle.msc_parser.specs.declared.tree.Statement.{Statement}
use Rattle.msc_chart.specs.Events.{next_segment}
use Rattle.msc_chart.proofs.end.push_item.Goals as goal

-- a coregion with events takes a segment
next_after : (segment : ℕ) (item : Item) (ss : List Statement)
    → item ≡ Coregion ss → nat_eq (length ss) 0 ≡ false → segment + 1 ≡ next_segment segment item
next_after segment item [] is some = absurd cc
next_after segment item (s ∷ ss) is some = rw is refl

pub returns-else-is_empty-clause-next : goal.returns-else-is_empty-clause-next
returns-else-is_empty-clause-next c =
    next_after c.args.segment c.args.item.now _ c.in-Coregion.is (ap (λ (ss : List Statement). nat_eq (length ss) 0) (sym c.as_slice-statements.ensures) ∙ sym c.is_empty.ensures ∙ c.if-is_empty.false)
