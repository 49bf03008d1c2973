-- Races that are new by the places of their events, some behind others.
use Rattle.std.proofs.Common.{◌≡◌, zero, suc, ℕ, Bool, true, false, not, cond, List, [], ◌∷◌, ◌++◌, map, refl, sym, ap, ap₂, ◌∙◌, subst, append_assoc}
use Rattle.std.specs.List.{list_any}
use Rattle.std.proofs.lemmas.List.{append-nil, map-append}
use Rattle.msc_chart.specs.Lists.{Occurs}
use Rattle.msc_diagram.specs.Places.{above_with, fresh, places_in, same_places}
use Rattle.msc_diagram.specs.declared.place.EventPlace.{EventPlace}
use Rattle.msc_diagram.specs.declared.scenario.Scenario.{Scenario}

module _ (s : Scenario) where
  -- the places of a race that is new are above those behind it
  pub above_first : (above : List (EventPlace × EventPlace)) (p : ℕ × ℕ) (rest : List (ℕ × ℕ))
      → (above ++ places_in s p ∷ []) ++ map (places_in s) rest ≡ above ++ map (places_in s) (p ∷ rest)
  above_first above p rest = append_assoc above (places_in s p ∷ []) (map (places_in s) rest)

  -- behind others, those are new that were not seen with them
  pub fresh_behind : (above : List (EventPlace × EventPlace)) (xs ys : List (ℕ × ℕ))
      → fresh s above (xs ++ ys) ≡ fresh s above xs ++ fresh s (above_with s above xs) ys
  fresh_behind above [] ys = ap (λ (l : List (EventPlace × EventPlace)). fresh s l ys) (sym (append-nil above))
  fresh_behind above (p ∷ xs) ys =
      by (list_any (same_places (places_in s p)) above) refl (fresh_behind above xs ys) (fresh_behind (above ++ places_in s p ∷ []) xs ys)
    where
      by : (b : Bool) → list_any (same_places (places_in s p)) above ≡ b
          → fresh s above (xs ++ ys) ≡ fresh s above xs ++ fresh s (above_with s above xs) ys
          → fresh s (above ++ places_in s p ∷ []) (xs ++ ys)
          ≡ fresh s (above ++ places_in s p ∷ []) xs ++ fresh s (above_with s (above ++ places_in s p ∷ []) xs) ys
          → fresh s above ((p ∷ xs) ++ ys) ≡ fresh s above (p ∷ xs) ++ fresh s (above_with s above (p ∷ xs)) ys
      by true is old new = rw is old
      by false is old new =
          let now : List (EventPlace × EventPlace) = above ++ places_in s p ∷ [] in
          rw is (ap (λ (l : List (ℕ × ℕ)). p ∷ l) (new
          ∙ ap (λ (l : List (EventPlace × EventPlace)). fresh s now xs ++ fresh s l ys) (above_first above p (fresh s now xs))))

  -- and so with what was seen
  pub above_behind : (above : List (EventPlace × EventPlace)) (xs ys : List (ℕ × ℕ))
      → above_with s above (xs ++ ys) ≡ above_with s (above_with s above xs) ys
  above_behind above xs ys =
      ap (λ (l : List (ℕ × ℕ)). above ++ map (places_in s) l) (fresh_behind above xs ys)
      ∙ ap (λ (l : List (EventPlace × EventPlace)). above ++ l) (map-append (places_in s) (fresh s above xs) (fresh s (above_with s above xs) ys))
      ∙ sym (append_assoc above (map (places_in s) (fresh s above xs)) (map (places_in s) (fresh s (above_with s above xs) ys)))

  -- one race more: where its places are new it is listed, and they were seen
  pub next_seen : (above now reported : List (EventPlace × EventPlace)) (xs old new : List (ℕ × ℕ)) (p : ℕ × ℕ) (q : EventPlace × EventPlace) (is_new : Bool)
      → q ≡ places_in s p → old ≡ fresh s above xs → now ≡ above_with s above xs
      → is_new ≡ not (list_any (same_places q) now) → reported ≡ cond (list_any (same_places q) now) now (now ++ q ∷ [])
      → new ≡ cond is_new (old ++ p ∷ []) old
      → (new ≡ fresh s above (xs ++ p ∷ [])) × (reported ≡ above_with s above (xs ++ p ∷ []))
  next_seen above now reported xs old new p q is_new pair was had known put list = by (list_any (same_places q) now) refl
    where
      -- what of it alone is new, by whether its places are among those above
      one : (b : Bool) → list_any (same_places q) now ≡ b → fresh s (above_with s above xs) (p ∷ []) ≡ cond b [] (p ∷ [])
      one b is =
          ap₂ (λ (r : EventPlace × EventPlace) (l : List (EventPlace × EventPlace)). cond (list_any (same_places r) l) (fresh s l []) (p ∷ fresh s (l ++ r ∷ []) [])) (sym pair) (sym had)
          ∙ ap (λ (t : Bool). cond t [] (p ∷ [])) is

      by : (b : Bool) → list_any (same_places q) now ≡ b → (new ≡ fresh s above (xs ++ p ∷ [])) × (reported ≡ above_with s above (xs ++ p ∷ []))
      by true is = (
        list ∙ ap (λ (t : Bool). cond t (old ++ p ∷ []) old) (known ∙ ap not is) ∙ was
            ∙ sym (fresh_behind above xs (p ∷ []) ∙ ap (λ (l : List (ℕ × ℕ)). fresh s above xs ++ l) (one true is) ∙ append-nil (fresh s above xs)),
        put ∙ ap (λ (t : Bool). cond t now (now ++ q ∷ [])) is ∙ had
            ∙ sym (above_behind above xs (p ∷ []) ∙ ap (λ (l : List (ℕ × ℕ)). above_with s above xs ++ map (places_in s) l) (one true is) ∙ append-nil (above_with s above xs)),
      )
      by false is = (
        list ∙ ap (λ (t : Bool). cond t (old ++ p ∷ []) old) (known ∙ ap not is) ∙ ap (λ (l : List (ℕ × ℕ)). l ++ p ∷ []) was
            ∙ sym (fresh_behind above xs (p ∷ []) ∙ ap (λ (l : List (ℕ × ℕ)). fresh s above xs ++ l) (one false is)),
        put ∙ ap (λ (t : Bool). cond t now (now ++ q ∷ [])) is ∙ ap₂ (λ (l : List (EventPlace × EventPlace)) (r : EventPlace × EventPlace). l ++ r ∷ []) had pair
            ∙ sym (above_behind above xs (p ∷ []) ∙ ap (λ (l : List (ℕ × ℕ)). above_with s above xs ++ map (places_in s) l) (one false is)),
      )

  -- those that are new are some of all
  pub fresh_part : (above : List (EventPlace × EventPlace)) (xs : List (ℕ × ℕ)) (q : ℕ × ℕ) → Occurs (fresh s above xs) q → Occurs xs q
  fresh_part above [] q there = there
  fresh_part above (p ∷ xs) q there =
      by (list_any (same_places (places_in s p)) above) refl (fresh_part above xs q) (fresh_part (above ++ places_in s p ∷ []) xs q) there
    where
      -- one place further
      further : Occurs xs q → Occurs (p ∷ xs) q
      further (j, here) = (suc j, here)

      by : (b : Bool) → list_any (same_places (places_in s p)) above ≡ b
          → (Occurs (fresh s above xs) q → Occurs xs q) → (Occurs (fresh s (above ++ places_in s p ∷ []) xs) q → Occurs xs q)
          → Occurs (fresh s above (p ∷ xs)) q → Occurs (p ∷ xs) q
      by true is old new o = further (old (subst (λ (t : Bool). Occurs (cond t (fresh s above xs) (p ∷ fresh s (above ++ places_in s p ∷ []) xs)) q) is o))
      by false is old new o = first (subst (λ (t : Bool). Occurs (cond t (fresh s above xs) (p ∷ fresh s (above ++ places_in s p ∷ []) xs)) q) is o)
        where
          first : Occurs (p ∷ fresh s (above ++ places_in s p ∷ []) xs) q → Occurs (p ∷ xs) q
          first (zero, here) = (zero, here)
          first (suc j, here) = further (new (j, here))
