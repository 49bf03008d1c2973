-- Where the events of a draft stand: in which section, and in which of its items.
use Rattle.std.specs.Prelude.{◌≡◌, ℕ, ◌+◌, ◌<◌, ◌↔◌, List, [], ◌∷◌, ◌++◌, map, length, IsTrue}
use Rattle.msc_parser.specs.declared.tree.Item.{Item}
use Rattle.msc_parser.specs.declared.tree.Item.TheVariants.{Single, Coregion}
use Rattle.msc_parser.specs.declared.tree.Section.{Section}
use Rattle.msc_parser.specs.Grammar.{Tree}
use Rattle.msc_chart.specs.Lists.{StandsAt}
use Rattle.msc_chart.specs.Charts.{before}
use Rattle.msc_chart.specs.Drawings.{chart_events}

-- a section, and an item of it, both from 0; a coregion is one item
pub record ItemPlace : Type 0 where
  pub section : ℕ
  pub item : ℕ

-- the place of this section and item
abbrev pub item_place : ℕ → ℕ → ItemPlace
item_place section item = record { section = section; item = item }

-- the places of the events of an item
abbrev pub places_of_item : ℕ → ℕ → Item → List ItemPlace
places_of_item i k (Single s) = item_place i k ∷ []
places_of_item i k (Coregion ss) = map (λ s. item_place i k) ss

-- of the items of a section, from item k on
abbrev pub places_of_items : ℕ → ℕ → List Item → List ItemPlace
places_of_items i k [] = []
places_of_items i k (x ∷ xs) = places_of_item i k x ++ places_of_items i (k + 1) xs

-- of the sections, from section i on
abbrev pub places_of_sections : ℕ → List Section → List ItemPlace
places_of_sections i [] = []
places_of_sections i (s ∷ ss) = places_of_items i 0 s.items ++ places_of_sections (i + 1) ss

-- of a draft, in the order of its text
abbrev pub draft_places : Tree → List ItemPlace
draft_places draft = places_of_sections 0 draft.sections

-- Each output, input and action of a draft is an event of its chart, and of two of them the first is
-- drawn before the second exactly where they stand in one section, the first in an earlier item. So
-- what stands above a coregion comes before all of it, what stands below comes after all of it, and
-- the events of one coregion are unordered.
abbrev pub ItemsAreDrawnInOrder : Type 0
ItemsAreDrawnInOrder =
    (draft : Tree) (e f : ℕ) (p r : ItemPlace) → StandsAt (draft_places draft) e p → StandsAt (draft_places draft) f r
    → IsTrue (before (chart_events draft) e f) ↔ ((p.section ≡ r.section) × (p.item < r.item))

-- as many
abbrev pub EachHasAnEvent : Type 0
EachHasAnEvent = (draft : Tree) → length (draft_places draft) ≡ length (chart_events draft)
