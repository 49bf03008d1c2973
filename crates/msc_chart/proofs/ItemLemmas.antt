-- The places of a draft's events tell the drawn order of its chart.
use Rattle.std.proofs.Common.{◌≡◌, ℕ, ◌+◌, ◌<◌, ◌≤◌, ◌↔◌, List, [], ◌∷◌, ◌++◌, length, map, suc, zero, refl, sym, ap, ◌∙◌, subst, arith, inl, inr}
use Rattle.std.proofs.lemmas.Option.{slice_get_within, get_or_from_slice_get}
use Rattle.std.proofs.lemmas.List.{length-map, map-append}
use Rattle.msc_parser.specs.declared.tree.Item.{Item}
use Rattle.msc_parser.specs.declared.tree.Item.TheVariants.{Single, Coregion}
use Rattle.msc_parser.specs.declared.tree.Section.{Section}
use Rattle.msc_parser.specs.Grammar.{Tree}
use Rattle.msc_chart.specs.declared.event.ChartEvent.{ChartEvent}
use Rattle.msc_chart.specs.Lists.{StandsAt, Occurs}
use Rattle.msc_chart.specs.Events.{DraftEvent, drawn, acts_of, events_of, events_of_item, events_of_items, events_of_sections, next_segment}
use Rattle.msc_chart.specs.Charts.{at, line, segment, no_event}
use Rattle.msc_chart.specs.Drawings.{chart_events}
use Rattle.msc_chart.specs.Charting.{event_of}
use Rattle.msc_chart.specs.Items.{ItemPlace, item_place, draft_places, places_of_item, places_of_items, places_of_sections, ItemsAreDrawnInOrder}
use Rattle.msc_chart.proofs.Places.{map-place, place-map}
use Rattle.msc_chart.proofs.DraftEvents.{joined, next_up}
use Rattle.msc_chart.proofs.Matched.{chart_count, chart-place}
use Rattle.msc_chart.proofs.Drawn.{before_from, before_parts}

-- an event of a draft with its place
abbrev Placed : Type 0
Placed = DraftEvent × ItemPlace

-- of an item
abbrev placed_of_item : ℕ → List ℕ → ℕ → ℕ → Item → List Placed
placed_of_item i own seg k (Single s) = (drawn i own seg s, item_place i k) ∷ []
placed_of_item i own seg k (Coregion ss) = map (λ s. (drawn i own seg s, item_place i k)) ss

-- of the items of a section
abbrev placed_of_items : ℕ → List ℕ → ℕ → ℕ → List Item → List Placed
placed_of_items i own seg k [] = []
placed_of_items i own seg k (x ∷ xs) = placed_of_item i own seg k x ++ placed_of_items i own (next_segment seg x) (k + 1) xs

-- of the sections
abbrev placed_of_sections : ℕ → List Section → List Placed
placed_of_sections i [] = []
placed_of_sections i (s ∷ ss) = placed_of_items i s.decl.name 0 0 s.items ++ placed_of_sections (i + 1) ss

-- two lists that come from one come so joined
from_joined : {X Y : Type 0} (view : X → Y) (xs zs : List X) (ys ws : List Y) → map view xs ≡ ys → map view zs ≡ ws → map view (xs ++ zs) ≡ ys ++ ws
from_joined view xs zs ys ws p q = map-append view xs zs ∙ rw (p, q) refl

-- so do lists that are made of one list
from_mapped : {S X Y : Type 0} (make : S → X) (view : X → Y) (ss : List S) → map view (map make ss) ≡ map (λ s. view (make s)) ss
from_mapped make view [] = refl
from_mapped make view (s ∷ ss) = ap (λ l. view (make s) ∷ l) (from_mapped make view ss)

module _ (i : ℕ) (own : List ℕ) where
  -- what an item has is its events and their places
  item_events : (seg k : ℕ) (x : Item) → map (λ b. b.0) (placed_of_item i own seg k x) ≡ events_of_item i own seg x
  item_events seg k (Single s) = refl
  item_events seg k (Coregion ss) = from_mapped (λ s. (drawn i own seg s, item_place i k)) (λ b. b.0) ss

  -- and the places are the item's
  item_places : (seg k : ℕ) (x : Item) → map (λ b. b.1) (placed_of_item i own seg k x) ≡ places_of_item i k x
  item_places seg k (Single s) = refl
  item_places seg k (Coregion ss) = from_mapped (λ s. (drawn i own seg s, item_place i k)) (λ b. b.1) ss

  -- and so it is of the items of a section
  items_events : (seg k : ℕ) (xs : List Item) → map (λ b. b.0) (placed_of_items i own seg k xs) ≡ events_of_items i own seg xs
  items_events seg k [] = refl
  items_events seg k (x ∷ xs) = from_joined (λ b. b.0) _ _ _ _ (item_events seg k x) (items_events (next_segment seg x) (k + 1) xs)

  -- of their places too
  items_places : (seg k : ℕ) (xs : List Item) → map (λ b. b.1) (placed_of_items i own seg k xs) ≡ places_of_items i k xs
  items_places seg k [] = refl
  items_places seg k (x ∷ xs) = from_joined (λ b. b.1) _ _ _ _ (item_places seg k x) (items_places (next_segment seg x) (k + 1) xs)

  -- where an event of an item stands; the next item has the next segment
  pub record OfItem (seg k : ℕ) (x : Item) (b : Placed) : Type 0 where
    pub on_line : b.0.line ≡ i
    pub in_segment : b.0.segment ≡ seg
    pub in_section : b.1.section ≡ i
    pub in_item : b.1.item ≡ k
    pub next : next_segment seg x ≡ seg + 1

  -- so stands each event of an item
  of_item : (seg k : ℕ) (x : Item) (b : Placed) → Occurs (placed_of_item i own seg k x) b → OfItem seg k x b
  of_item seg k (Single s) b (zero, h) =
      let same : (drawn i own seg s, item_place i k) ≡ b = cc in
      subst (OfItem seg k (Single s)) same (record { on_line = refl; in_segment = refl; in_section = refl; in_item = refl; next = refl })
  of_item seg k (Single s) b (suc j, h) = cc
  of_item seg k (Coregion []) b (j, h) = cc
  of_item seg k (Coregion (s ∷ ss)) b (j, h) =
      let r = map-place (λ t. (drawn i own seg t, item_place i k)) (s ∷ ss) j b h in
      subst (OfItem seg k (Coregion (s ∷ ss))) r.2 (record { on_line = refl; in_segment = refl; in_section = refl; in_item = refl; next = refl })

  -- where an event of some items stands
  pub record OfItems (seg k : ℕ) (b : Placed) : Type 0 where
    pub on_line : b.0.line ≡ i
    pub from_segment : seg ≤ b.0.segment
    pub in_section : b.1.section ≡ i
    pub from_item : k ≤ b.1.item

  -- each event of some items stands so
  of_items : (seg k : ℕ) (xs : List Item) (b : Placed) → Occurs (placed_of_items i own seg k xs) b → OfItems seg k b
  of_items seg k [] b (j, h) = cc
  of_items seg k (x ∷ xs) b h =
      elim (joined (placed_of_item i own seg k x) (placed_of_items i own (next_segment seg x) (k + 1) xs) b h) [
        | inl here ↦
            let r = of_item seg k x b here in
            record { on_line = r.on_line; from_segment = omega (arith, r.in_segment); in_section = r.in_section; from_item = omega (arith, r.in_item) }
        | inr there ↦
            let r = of_items (next_segment seg x) (k + 1) xs b there in
            record { on_line = r.on_line; from_segment = omega (arith, next_up seg x, r.from_segment); in_section = r.in_section; from_item = omega (arith, r.from_item) }
      ]

  -- of two events of a section the one in an earlier item is in a smaller segment, and back
  items_agree : (seg k : ℕ) (xs : List Item) (a b : Placed) → Occurs (placed_of_items i own seg k xs) a → Occurs (placed_of_items i own seg k xs) b
      → (a.0.segment < b.0.segment) ↔ (a.1.item < b.1.item)
  items_agree seg k [] a b (j, h) m = cc
  items_agree seg k (x ∷ xs) a b h m =
      let first = placed_of_item i own seg k x in
      let rest = placed_of_items i own (next_segment seg x) (k + 1) xs in
      elim (joined first rest a h) [
        | inl p ↦
            let s = of_item seg k x a p in
            elim (joined first rest b m) [
              | inl q ↦
                  let t = of_item seg k x b q in
                  (λ less. omega (arith, s.in_segment, t.in_segment, less), λ less. omega (arith, s.in_item, t.in_item, less))
              | inr q ↦
                  let t = of_items (next_segment seg x) (k + 1) xs b q in
                  (λ less. omega (arith, s.in_item, t.from_item), λ less. omega (arith, s.in_segment, s.next, t.from_segment))
            ]
        | inr p ↦
            let s = of_items (next_segment seg x) (k + 1) xs a p in
            elim (joined first rest b m) [
              | inl q ↦
                  let t = of_item seg k x b q in
                  (λ less. absurd (omega (arith, s.from_segment, t.in_segment, t.next, less)), λ less. absurd (omega (arith, s.from_item, t.in_item, less)))
              | inr q ↦ items_agree (next_segment seg x) (k + 1) xs a b p q
            ]
      ]

-- what the sections have is their events and the places of these
sections_events : (i : ℕ) (ss : List Section) → map (λ b. b.0) (placed_of_sections i ss) ≡ events_of_sections i ss
sections_events i [] = refl
sections_events i (s ∷ ss) = from_joined (λ b. b.0) _ _ _ _ (items_events i s.decl.name 0 0 s.items) (sections_events (i + 1) ss)

-- and their places are those of the sections
sections_places : (i : ℕ) (ss : List Section) → map (λ b. b.1) (placed_of_sections i ss) ≡ places_of_sections i ss
sections_places i [] = refl
sections_places i (s ∷ ss) = from_joined (λ b. b.1) _ _ _ _ (items_places i s.decl.name 0 0 s.items) (sections_places (i + 1) ss)

-- the line of an event is its section
of_sections : (i : ℕ) (ss : List Section) (b : Placed) → Occurs (placed_of_sections i ss) b → (b.0.line ≡ b.1.section) × (i ≤ b.0.line)
of_sections i [] b (j, h) = cc
of_sections i (s ∷ ss) b h =
    elim (joined (placed_of_items i s.decl.name 0 0 s.items) (placed_of_sections (i + 1) ss) b h) [
      | inl here ↦ let r = of_items i s.decl.name 0 0 s.items b here in (r.on_line ∙ sym r.in_section, omega (arith, r.on_line))
      | inr there ↦ let r = of_sections (i + 1) ss b there in (r.0, omega (arith, r.1))
    ]

-- of two events of one line the one in an earlier item is in a smaller segment, and back
sections_agree : (i : ℕ) (ss : List Section) (a b : Placed) → Occurs (placed_of_sections i ss) a → Occurs (placed_of_sections i ss) b
    → a.0.line ≡ b.0.line → (a.0.segment < b.0.segment) ↔ (a.1.item < b.1.item)
sections_agree i [] a b (j, h) m one_line = cc
sections_agree i (s ∷ ss) a b h m one_line =
    let first = placed_of_items i s.decl.name 0 0 s.items in
    elim (joined first (placed_of_sections (i + 1) ss) a h) [
      | inl p ↦
          elim (joined first (placed_of_sections (i + 1) ss) b m) [
            | inl q ↦ items_agree i s.decl.name 0 0 s.items a b p q
            | inr q ↦
                let here = of_items i s.decl.name 0 0 s.items a p in
                let far = of_sections (i + 1) ss b q in
                absurd (omega (arith, here.on_line, far.1, one_line))
          ]
      | inr p ↦
          elim (joined first (placed_of_sections (i + 1) ss) b m) [
            | inl q ↦
                let here = of_items i s.decl.name 0 0 s.items b q in
                let far = of_sections (i + 1) ss a p in
                absurd (omega (arith, here.on_line, far.1, one_line))
            | inr q ↦ sections_agree (i + 1) ss a b p q one_line
          ]
    ]

-- as many events as places
pub each_has_an_event : (d : Tree) → length (draft_places d) ≡ length (chart_events d)
unfolding events_of
each_has_an_event d =
    ap length (sym (sections_places 0 d.sections)) ∙ length-map (placed_of_sections 0 d.sections) (λ b. b.1)
    ∙ sym (length-map (placed_of_sections 0 d.sections) (λ b. b.0)) ∙ ap length (sections_events 0 d.sections)
    ∙ sym (chart_count d)

module _ (d : Tree) where
  -- the event that stands at a place of the text
  record IsEventAt (e : ℕ) (p : ItemPlace) : Type 0 where
    both : Placed
    occurs : Occurs (placed_of_sections 0 d.sections) both
    placed : both.1 ≡ p
    stands : StandsAt (chart_events d) e (event_of (acts_of d) e both.0)

  -- at each place of the text stands its event
  event_at : (e : ℕ) (p : ItemPlace) → StandsAt (draft_places d) e p → IsEventAt e p
  unfolding events_of
  event_at e p h =
      let placed = placed_of_sections 0 d.sections in
      let r = map-place (λ b. b.1) placed e p (subst (λ l. StandsAt l e p) (sym (sections_places 0 d.sections)) h) in
      let here = subst (λ l. StandsAt l e r.0.0) (sections_events 0 d.sections) (place-map (λ b. b.0) placed e r.0 r.1) in
      record { both = r.0; occurs = (e, r.1); placed = r.2; stands = chart-place d e r.0.0 here }

  -- what is read of it
  read : (e : ℕ) (x : ChartEvent) → StandsAt (chart_events d) e x → at (chart_events d) e ≡ x
  read e x h = get_or_from_slice_get (chart_events d) e x no_event h

-- so an event is drawn before another exactly where it stands in an earlier item of the same section
pub drawn_by_items : ItemsAreDrawnInOrder
unfolding line segment
drawn_by_items d e f p r h m =
    let events = chart_events d in
    let a = event_at d e p h in
    let b = event_at d f r m in
    let x = read d e _ a.stands in
    let y = read d f _ b.stands in
    let s = of_sections 0 d.sections a.both a.occurs in
    let t = of_sections 0 d.sections b.both b.occurs in
    let agree = sections_agree 0 d.sections a.both b.both a.occurs b.occurs in (
      λ before_it.
          let parts = before_parts events e f before_it in
          let one_line : a.both.0.line ≡ b.both.0.line = sym (ap (λ v. v.line) x) ∙ parts.2 ∙ ap (λ v. v.line) y in
          let less : a.both.0.segment < b.both.0.segment = let up = parts.3 in let u = ap (λ v. v.segment) x in let v = ap (λ v. v.segment) y in omega (arith, up, u, v) in (
            sym (ap (λ v. v.section) a.placed) ∙ sym s.0 ∙ one_line ∙ t.0 ∙ ap (λ v. v.section) b.placed,
            let items = (agree one_line).0 less in let u = ap (λ v. v.item) a.placed in let v = ap (λ v. v.item) b.placed in omega (arith, items, u, v),
          ),
      λ both.
          let one_line : a.both.0.line ≡ b.both.0.line = s.0 ∙ ap (λ v. v.section) a.placed ∙ both.0 ∙ sym (ap (λ v. v.section) b.placed) ∙ sym t.0 in
          let items : a.both.1.item < b.both.1.item = let u = ap (λ v. v.item) a.placed in let v = ap (λ v. v.item) b.placed in let low = both.1 in omega (arith, low, u, v) in
          let less = (agree one_line).1 items in
          before_from events e f (slice_get_within events e _ a.stands) (slice_get_within events f _ b.stands)
          (ap (λ v. v.line) x ∙ one_line ∙ sym (ap (λ v. v.line) y))
          (let u = ap (λ v. v.segment) x in let v = ap (λ v. v.segment) y in omega (arith, less, u, v)),
    )
