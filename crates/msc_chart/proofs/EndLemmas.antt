-- The events of a draft, pushed item by item.
use Rattle.std.proofs.Common.{◌≡◌, ℕ, ◌+◌, ◌<◌, ◌≤◌, List, [], ◌∷◌, ◌++◌, length, drop, get_or, suc, sym, ap, ◌∙◌, arith, add-one}
use Rattle.std.proofs.Math.Seq.{drop-cons}
use Rattle.msc_parser.specs.declared.tree.Item.{Item}
use Rattle.msc_parser.specs.declared.tree.Item.TheVariants.{Single, Coregion}
use Rattle.msc_parser.specs.declared.tree.Section.{Section}
use Rattle.msc_chart.specs.Events.{events_of_item, events_of_items, events_of_sections, next_segment}

-- what is left from place i on is the element there and what is left behind it
pub drop-at : {X : Type 0} (xs : List X) (i : ℕ) (x : X) → i < length xs → x ≡ get_or xs i x → drop i xs ≡ x ∷ drop (i + 1) xs
drop-at xs i x within same = rw add-one (drop-cons xs i x within ∙ ap (λ y. y ∷ drop (suc i) xs) (sym same))

-- the events of the items from one on are those of this item, and those of the items after it
pub next-items : (line : ℕ) (own : List ℕ) (segment : ℕ) (xs : List Item) (i : ℕ) (x : Item) → i < length xs → x ≡ get_or xs i x
    → events_of_items line own segment (drop i xs) ≡ events_of_item line own segment x ++ events_of_items line own (next_segment segment x) (drop (i + 1) xs)
next-items line own segment xs i x within same = ap (events_of_items line own segment) (drop-at xs i x within same)

-- the events of the sections from one on are those of this section, and those of the sections after
-- it
pub next-sections : (line : ℕ) (xs : List Section) (i : ℕ) (x : Section) → i < length xs → x ≡ get_or xs i x
    → events_of_sections line (drop i xs) ≡ events_of_items line x.decl.name 0 x.items ++ events_of_sections (line + 1) (drop (i + 1) xs)
next-sections line xs i x within same = ap (events_of_sections line) (drop-at xs i x within same)

-- a segment is taken only by an event
pub next-room : (line : ℕ) (own : List ℕ) (segment : ℕ) (x : Item) → next_segment segment x ≤ segment + length (events_of_item line own segment x)
next-room line own segment (Single s) = omega arith
next-room line own segment (Coregion []) = omega arith
next-room line own segment (Coregion (s ∷ ss)) = omega arith
