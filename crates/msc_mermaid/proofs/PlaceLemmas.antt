-- Where lines, and parts of lines, begin, one more.
use Rattle.std.proofs.Common.{◌≡◌, ◌<◌, ◌≤◌, ℕ, ◌+◌, true, false, cond, List, [], ◌∷◌, length, get_or, drop, map, refl, ap, ◌∙◌}
use Rattle.std.proofs.lemmas.List.{drop_more, drop_all}
use Rattle.msc_mermaid.specs.declared.part.LinePart.{LinePart}
use Rattle.msc_mermaid.specs.Lines.{position_of}
use Rattle.msc_mermaid.specs.Mermaid.{first_line_place}
use Rattle.msc_mermaid.specs.Parts.{Stretch, first_place, place_in, stretch}
use Rattle.msc_mermaid.specs.Patterns.{is_empty}
use Rattle.msc_mermaid.specs.White.{behind_white, trimmed}
use Rattle.msc_place.specs.declared.position.Position.{Position}

place_cons : (s : Stretch) (ss : List Stretch) (end : Position) → first_place (s ∷ ss) end ≡ cond (is_empty (trimmed s.bytes)) (first_place ss end) (place_in s)
unfolding first_place
place_cons s ss end = refl

place_none : (end : Position) → first_place [] end ≡ end
unfolding first_place
place_none end = refl

module _ (parts : List LinePart) (i : ℕ) (end : Position) where
  module _ (d : LinePart) (inside : i < length parts) where
    next : first_place (map stretch (drop i parts)) end ≡ cond (is_empty (trimmed (get_or parts i d).bytes.now)) (first_place (map stretch (drop (i + 1) parts)) end) (place_in (stretch (get_or parts i d)))
    next = ap (λ x. first_place (map stretch x) end) (drop_more parts i d inside) ∙ place_cons (stretch (get_or parts i d)) (map stretch (drop (i + 1) parts)) end

    -- the next part is of white space alone
    pub place_later : is_empty (trimmed (get_or parts i d).bytes.now) ≡ true → first_place (map stretch (drop i parts)) end ≡ first_place (map stretch (drop (i + 1) parts)) end
    place_later is = next ∙ ap (λ b. cond b (first_place (map stretch (drop (i + 1) parts)) end) (place_in (stretch (get_or parts i d)))) is

    -- it is not
    pub place_here : is_empty (trimmed (get_or parts i d).bytes.now) ≡ false → first_place (map stretch (drop i parts)) end ≡ place_in (stretch (get_or parts i d))
    place_here is = next ∙ ap (λ b. cond b (first_place (map stretch (drop (i + 1) parts)) end) (place_in (stretch (get_or parts i d)))) is

  -- no part is left
  pub place_nowhere : length parts ≤ i → first_place (map stretch (drop i parts)) end ≡ end
  place_nowhere over = ap (λ x. first_place (map stretch x) end) (drop_all i parts over) ∙ place_none end

line_cons : (n : ℕ) (l : List ℕ) (ls : List (List ℕ)) (end : Position) → first_line_place n (l ∷ ls) end ≡ cond (is_empty (trimmed l)) (first_line_place (n + 1) ls end) (position_of n l (behind_white l))
unfolding first_line_place
line_cons n l ls end = refl

line_none : (n : ℕ) (end : Position) → first_line_place n [] end ≡ end
unfolding first_line_place
line_none n end = refl

module _ {X : Type 0} (view : X → List ℕ) (lines : List X) (i : ℕ) (end : Position) where
  abbrev from : ℕ → Position
  from j = first_line_place (j + 1) (map view (drop j lines)) end

  module _ (d : X) (inside : i < length lines) where
    abbrev line : List ℕ
    line = view (get_or lines i d)

    next_line : from i ≡ cond (is_empty (trimmed line)) (from (i + 1)) (position_of (i + 1) line (behind_white line))
    next_line = ap (λ x. first_line_place (i + 1) (map view x) end) (drop_more lines i d inside) ∙ line_cons (i + 1) line (map view (drop (i + 1) lines)) end

    -- the next line is of white space alone
    pub line_later : is_empty (trimmed line) ≡ true → from i ≡ from (i + 1)
    line_later is = next_line ∙ ap (λ b. cond b (from (i + 1)) (position_of (i + 1) line (behind_white line))) is

    -- it is not
    pub line_here : is_empty (trimmed line) ≡ false → from i ≡ position_of (i + 1) line (behind_white line)
    line_here is = next_line ∙ ap (λ b. cond b (from (i + 1)) (position_of (i + 1) line (behind_white line))) is

  -- no line is left
  pub line_nowhere : length lines ≤ i → from i ≡ end
  line_nowhere over = ap (λ x. first_line_place (i + 1) (map view x) end) (drop_all i lines over) ∙ line_none (i + 1) end
