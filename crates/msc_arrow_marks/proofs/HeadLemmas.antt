-- The head of a mark, one byte or one part more.
use Rattle.std.proofs.Common.{◌≡◌, ◌<◌, ◌≤◌, ℕ, ◌+◌, true, false, cond, List, [], ◌∷◌, length, get_or, drop, refl, ap, sym, ◌∙◌}
use Rattle.std.proofs.lemmas.List.{at_drop_more, drop_all}
use Rattle.msc_arrow_marks.specs.Heads.{begins_with, with_place}

with_place_cons : (b : ℕ) (bs : List ℕ) → with_place (b ∷ bs) ≡ cond (begins_with (b ∷ bs)) 0 (1 + with_place bs)
unfolding with_place
with_place_cons b bs = refl

with_place_nothing : with_place [] ≡ 0
unfolding with_place
with_place_nothing = refl

module _ (text : List ℕ) (i : ℕ) where
  module _ (inside : i < length text) where
    begins_same : begins_with (drop i text) ≡ begins_with (get_or text i 0 ∷ drop (i + 1) text)
    begins_same = at_drop_more begins_with text i 0 inside

    next : with_place (drop i text) ≡ cond (begins_with (drop i text)) 0 (1 + with_place (drop (i + 1) text))
    next = at_drop_more with_place text i 0 inside ∙ with_place_cons (get_or text i 0) (drop (i + 1) text)
        ∙ sym (ap (λ t. cond t 0 (1 + with_place (drop (i + 1) text))) begins_same)

    -- the word stands here
    pub with_place_ends : begins_with (drop i text) ≡ true → with_place (drop i text) ≡ 0
    with_place_ends here = next ∙ ap (λ t. cond t 0 (1 + with_place (drop (i + 1) text))) here

    -- another byte stands here
    pub with_place_goes_on : begins_with (drop i text) ≡ false → with_place (drop i text) ≡ 1 + with_place (drop (i + 1) text)
    with_place_goes_on other = next ∙ ap (λ t. cond t 0 (1 + with_place (drop (i + 1) text))) other

  -- no byte is left
  pub with_place_over : length text ≤ i → with_place (drop i text) ≡ 0
  with_place_over over = ap with_place (drop_all i text over) ∙ with_place_nothing
