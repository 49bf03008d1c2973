-- The events of a draft: how many they are, on which lines and segments they stand, and in which
-- order.
use Rattle.std.proofs.Common.{◌≡◌, ℕ, ◌+◌, ◌<◌, ◌≤◌, ◌⊎◌, List, [], ◌∷◌, ◌++◌, length, suc, zero, refl, sym, ap, ◌∙◌, arith, inl, inr}
use Rattle.std.specs.List.{flat_map}
use Rattle.std.proofs.lemmas.Option.{slice_get_within}
use Rattle.std.proofs.lemmas.List.{length-map, length-append}
use Rattle.msc_parser.specs.declared.tree.Item.{Item}
use Rattle.msc_parser.specs.declared.tree.Item.TheVariants.{Single, Coregion}
use Rattle.msc_parser.specs.declared.tree.Section.{Section}
use Rattle.msc_parser.specs.Grammar.{Tree}
use Rattle.msc_parser.specs.Drafts.{statements_in, statements_of}
use Rattle.msc_chart.specs.Events.{DraftEvent, drawn, events_of, events_of_item, events_of_items, events_of_sections, next_segment}
use Rattle.msc_chart.specs.Lists.{StandsAt, Occurs}
use Rattle.msc_chart.proofs.Places.{map-place}
use Rattle.msc_chart.proofs.EndLemmas.{next-room}

-- an element of two joined lists is in one of them
pub joined : {X : Type 0} (xs ys : List X) (x : X) → Occurs (xs ++ ys) x → Occurs xs x ⊎ Occurs ys x
joined [] ys x h = inr h
joined (y ∷ xs) ys x (zero, h) = inl (0, h)
joined (y ∷ xs) ys x (suc j, h) = elim (joined xs ys x (j, h)) [ inl l ↦ inl (suc l.0, l.1) | inr r ↦ inr r ]

-- and so is its place
joined_at : {X : Type 0} (xs ys : List X) (i : ℕ) (x : X) → StandsAt (xs ++ ys) i x → StandsAt xs i x ⊎ ((k : ℕ) × (i ≡ length xs + k) × StandsAt ys k x)
joined_at [] ys i x h = inr (i, omega arith, h)
joined_at (y ∷ xs) ys zero x h = inl h
joined_at (y ∷ xs) ys (suc i) x h = elim (joined_at xs ys i x h) [ inl l ↦ inl l | inr r ↦ inr (r.0, omega (arith, r.1), r.2) ]

-- segments do not fall from item to item
pub next_up : (segment : ℕ) (i : Item) → segment ≤ next_segment segment i
next_up segment (Single s) = omega arith
next_up segment (Coregion []) = omega arith
next_up segment (Coregion (s ∷ ss)) = omega arith

module _ (line : ℕ) (own : List ℕ) where
  -- the events of an item share a segment
  of_item : (segment : ℕ) (i : Item) (x : DraftEvent) → Occurs (events_of_item line own segment i) x → (x.line ≡ line) × (x.segment ≡ segment) × (0 < length (events_of_item line own segment i))
  of_item segment (Single s) x (zero, h) = let same : drawn line own segment s ≡ x = cc in (ap (λ y. y.line) (sym same), ap (λ y. y.segment) (sym same), omega arith)
  of_item segment (Single s) x (suc j, h) = cc
  of_item segment (Coregion ss) x (j, h) =
      let r = map-place (drawn line own segment) ss j x h in
      let within : j < length ss = slice_get_within ss j r.0 r.1 in
      (ap (λ y. y.line) (sym r.2), ap (λ y. y.segment) (sym r.2), simp length-map (omega arith))

  -- the events of a line are on it, and take no more segments than they are
  of_items : (segment : ℕ) (is : List Item) (x : DraftEvent) → Occurs (events_of_items line own segment is) x
      → (x.line ≡ line) × (x.segment < segment + length (events_of_items line own segment is)) × (segment ≤ x.segment)
  of_items segment [] x (j, h) = cc
  of_items segment (i ∷ is) x h =
      elim (joined (events_of_item line own segment i) (events_of_items line own (next_segment segment i) is) x h) [
        | inl here ↦ let r = of_item segment i x here in (r.0, simp length-append (omega (arith, r.1, r.2)), omega (arith, r.1))
        | inr there ↦
            let r = of_items (next_segment segment i) is x there in
            let room = next-room line own segment i in
            (r.0, simp length-append (omega (arith, r.1, room)), omega (arith, r.2, next_up segment i))
      ]

  -- an event for each statement
  items_count : (segment : ℕ) (is : List Item) → length (events_of_items line own segment is) ≡ length (flat_map statements_in is)
  items_count segment [] = refl
  items_count segment (Single s ∷ is) = ap suc (items_count (segment + 1) is)
  items_count segment (Coregion ss ∷ is) = simp (length-append, length-map) (ap (λ n. length ss + n) (items_count (next_segment segment (Coregion ss)) is))

-- the lines of the sections are as many as they are
pub of_sections : (line : ℕ) (ss : List Section) (x : DraftEvent) → Occurs (events_of_sections line ss) x
    → (x.line < line + length ss) × (x.segment < length (events_of_sections line ss)) × (line ≤ x.line)
of_sections line [] x (j, h) = cc
of_sections line (s ∷ ss) x h =
    elim (joined (events_of_items line s.decl.name 0 s.items) (events_of_sections (line + 1) ss) x h) [
      | inl here ↦ let r = of_items line s.decl.name 0 s.items x here in (omega (arith, r.0), simp length-append (omega (arith, r.1)), omega (arith, r.0))
      | inr there ↦ let r = of_sections (line + 1) ss x there in (omega (arith, r.0), simp length-append (omega (arith, r.1)), omega (arith, r.2))
    ]

-- the sections have an event for each statement in them
sections_count : (line : ℕ) (ss : List Section) → length (events_of_sections line ss) ≡ length (statements_of ss)
sections_count line [] = refl
sections_count line (s ∷ ss) =
    simp length-append
    (ap (λ n. n + length (events_of_sections (line + 1) ss)) (items_count line s.decl.name 0 s.items)
    ∙ ap (λ n. length (flat_map statements_in s.items) + n) (sections_count (line + 1) ss))

-- a draft has as many events as its text has statements
pub events_count : (d : Tree) → length (events_of d) ≡ length (statements_of d.sections)
unfolding events_of
events_count d = sections_count 0 d.sections

-- x may stand above y in the text: on an earlier line, or on the same and in no later segment
abbrev pub Above : DraftEvent → DraftEvent → Type 0
Above x y = (x.line ≤ y.line) × (x.line ≡ y.line → x.segment ≤ y.segment)

-- whatever stands earlier in a list may stand above what stands later
pub AreInOrder : List DraftEvent → Type 0
AreInOrder xs = (i j : ℕ) (x y : DraftEvent) → i ≤ j → StandsAt xs i x → StandsAt xs j y → Above x y

-- two lists in order are in order together, where each of the first may stand above each of the second
in_order-append : (xs ys : List DraftEvent) → AreInOrder xs → AreInOrder ys
    → ((x y : DraftEvent) → Occurs xs x → Occurs ys y → Above x y) → AreInOrder (xs ++ ys)
unfolding AreInOrder
in_order-append xs ys first second across = λ i j x y le h k.
    elim (joined_at xs ys i x h) [
      | inl a ↦ elim (joined_at xs ys j y k) [
        | inl b ↦ first i j x y le a b
        | inr b ↦ across x y (i, a) (b.0, b.2)
      ]
      | inr a ↦ elim (joined_at xs ys j y k) [
        | inl b ↦ let within : j < length xs = slice_get_within xs j y b in let far = a.1 in absurd (omega arith)
        | inr b ↦ second a.0 b.0 x y (omega (arith, a.1, b.1, le)) a.2 b.2
      ]
    ]

-- the events of a line stand in order: those of an item share a segment, and later items have later
-- ones
items_in_order : (line : ℕ) (own : List ℕ) (segment : ℕ) (is : List Item) → AreInOrder (events_of_items line own segment is)
unfolding AreInOrder
items_in_order line own segment [] = λ i j x y le h k. cc
items_in_order line own segment (item ∷ is) =
    in_order-append (events_of_item line own segment item) (events_of_items line own (next_segment segment item) is)
    (λ i j x y le h k.
    let a = of_item line own segment item x (i, h) in
    let b = of_item line own segment item y (j, k) in
    (omega (arith, a.0, b.0), λ _. omega (arith, a.1, b.1)))
    (items_in_order line own (next_segment segment item) is)
    (λ x y h k.
    let a = of_item line own segment item x h in
    let b = of_items line own (next_segment segment item) is y k in
    (omega (arith, a.0, b.0), λ _. omega (arith, a.1, b.2, next_up segment item)))

-- the events of the sections stand in order: each section has a line of its own
sections_in_order : (line : ℕ) (ss : List Section) → AreInOrder (events_of_sections line ss)
unfolding AreInOrder
sections_in_order line [] = λ i j x y le h k. cc
sections_in_order line (s ∷ ss) =
    in_order-append (events_of_items line s.decl.name 0 s.items) (events_of_sections (line + 1) ss)
    (items_in_order line s.decl.name 0 s.items)
    (sections_in_order (line + 1) ss)
    (λ x y h k.
    let a = of_items line s.decl.name 0 s.items x h in
    let b = of_sections (line + 1) ss y k in
    (omega (arith, a.0, b.2), λ same. absurd (omega (arith, a.0, b.2, same))))

-- events are numbered line by line, and down each line
pub in_text_order : (d : Tree) (i j : ℕ) (x y : DraftEvent) → i ≤ j → StandsAt (events_of d) i x → StandsAt (events_of d) j y → Above x y
unfolding events_of AreInOrder
in_text_order d = sections_in_order 0 d.sections
