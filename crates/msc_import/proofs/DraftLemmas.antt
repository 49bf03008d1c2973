-- Drafts of paths: segments, and shown names.
use Rattle.std.proofs.Common.{◌≡◌, ◌<◌, ◌≤◌, ℕ, ◌+◌, ◌-◌, true, List, [], ◌∷◌, length, get_or, take, drop, map, Option, None, nat_le, refl, sym, ap, ◌∙◌, arith, tests}
use Rattle.std.specs.Option.{option_or}
use Rattle.std.proofs.lemmas.List.{drop_more, drop_all, take-map, drop-map, length-map}
use Rattle.std.proofs.lemmas.Simd.{map-map}
use Rattle.msc_parser.specs.declared.tree.Item.TheVariants.{Single, Coregion}
use Rattle.msc_import.specs.declared.plan.Planned.{Planned}
use Rattle.msc_mermaid.specs.declared.statement.Placed.{Placed}
use Rattle.msc_import.specs.Drafting.{drawn_event, drawn_item, drawn_items, between, shown_by, shown_of}
use Rattle.msc_import.specs.Plans.{Event, seen}

-- one event
single : (names : List (List ℕ)) (es : List Planned) (d : Planned) → length es ≡ 1 → drawn_item names (map seen es) ≡ Single (drawn_event names (seen (get_or es 0 d)))
unfolding drawn_item
single names [] d e = absurd (omega (arith, e))
single names (x ∷ []) d e = refl
single names (x ∷ y ∷ es) d e = absurd (omega (arith, e))

pub item_one : (names : List (List ℕ)) (es : List Planned) (d : Planned) → length es ≡ 1 → drawn_item names (map seen es) ≡ Single (drawn_event names (seen (get_or es 0 d)))
item_one names es d e = single names es d e

-- a coregion
many : (names : List (List ℕ)) (es : List Event) → (length es ≡ 1 → ⊥) → drawn_item names es ≡ Coregion (map (drawn_event names) es)
unfolding drawn_item
many names [] h = refl
many names (x ∷ []) h = absurd (h refl)
many names (x ∷ y ∷ es) h = refl

pub item_many : (names : List (List ℕ)) (es : List Planned) → (length es ≡ 1 → ⊥) → drawn_item names (map seen es) ≡ Coregion (map (λ e. drawn_event names (seen e)) es)
item_many names es h =
    many names (map seen es) (λ e. h (sym (length-map es seen) ∙ e)) ∙ ap Coregion (map-map (drawn_event names) seen es)

-- a part of the events
pub between_in : (es : List Planned) (start stop : ℕ) → start ≤ stop → stop ≤ length es → map seen (take (stop - start) (drop start es)) ≡ between (map seen es) start stop
between_in es start stop low high =
    let a : nat_le start stop ≡ true = search (arith, tests) in
    let b : nat_le stop (length (map seen es)) ≡ true = rw length-map (search (arith, tests)) in
    sym (take-map seen (stop - start) (drop start es)) ∙ ap (take (stop - start)) (sym (drop-map seen start es)) ∙ sym (rw (a, b) refl)

items_cons : (names : List (List ℕ)) (es : List Event) (start stop : ℕ) (stops : List ℕ) → drawn_items names es start (stop ∷ stops) ≡ drawn_item names (between es start stop) ∷ drawn_items names es stop stops
unfolding drawn_items
items_cons names es start stop stops = refl

items_none : (names : List (List ℕ)) (es : List Event) (start : ℕ) → drawn_items names es start [] ≡ []
unfolding drawn_items
items_none names es start = refl

-- one segment more
module _ (names : List (List ℕ)) (es : List Event) (start : ℕ) (ends : List ℕ) (i : ℕ) where
  pub items_more : i < length ends → drawn_items names es start (drop i ends) ≡ drawn_item names (between es start (get_or ends i 0)) ∷ drawn_items names es (get_or ends i 0) (drop (i + 1) ends)
  items_more inside = ap (drawn_items names es start) (drop_more ends i 0 inside) ∙ items_cons names es start (get_or ends i 0) (drop (i + 1) ends)

  pub items_end : length ends ≤ i → drawn_items names es start (drop i ends) ≡ []
  items_end over = ap (drawn_items names es start) (drop_all i ends over) ∙ items_none names es start

shown_cons : (ident : List ℕ) (p : Placed) (ps : List Placed) → shown_of ident (p ∷ ps) ≡ option_or (shown_by ident p.statement) (shown_of ident ps)
unfolding shown_of
shown_cons ident p ps = refl

shown_none : (ident : List ℕ) → shown_of ident [] ≡ None
unfolding shown_of
shown_none ident = refl

-- one statement more
module _ (ident : List ℕ) (ps : List Placed) (i : ℕ) where
  pub shown_more : (d : Placed) (found : Option (List ℕ)) → i < length ps → shown_by ident (get_or ps i d).statement ≡ found → shown_of ident (drop i ps) ≡ option_or found (shown_of ident (drop (i + 1) ps))
  shown_more d found inside e =
      ap (shown_of ident) (drop_more ps i d inside) ∙ shown_cons ident (get_or ps i d) (drop (i + 1) ps) ∙ ap (λ f. option_or f (shown_of ident (drop (i + 1) ps))) e

  pub shown_end : length ps ≤ i → shown_of ident (drop i ps) ≡ None
  shown_end over = ap (shown_of ident) (drop_all i ps over) ∙ shown_none ident
