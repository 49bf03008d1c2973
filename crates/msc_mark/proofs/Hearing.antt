-- One step of each walk over the words of a mark that looks for one.
use Rattle.std.proofs.Common.{◌≡◌, ℕ, ◌+◌, ◌<◌, ◌≤◌, Bool, true, false, ◌||◌, List, [], ◌∷◌, length, get_or, drop, refl, sym, ap, ◌∙◌}
use Rattle.std.proofs.lemmas.List.{at_drop_more, at_drop_all}
use Rattle.msc_mark.specs.declared.place.MarkPlace.{MarkPlace}
use Rattle.msc_mark.specs.Places.{next}
use Rattle.msc_mark.specs.Accepting.{Heard, heard, is_half, some_word}

module _ {S : Type 0} (test : S → List ℕ → Bool) (step : S → List ℕ → S) where
  -- one word, and those behind it
  word_more : (s : S) (w : List ℕ) (ws : List (List ℕ))
      → some_word test step s (w ∷ ws) ≡ (test s w || some_word test step (step s w) ws)
  unfolding some_word
  word_more s w ws = refl

  word_nil : (s : S) → some_word test step s [] ≡ false
  unfolding some_word
  word_nil s = refl

  -- word i, in its state
  pub word_at : (s : S) (ws : List (List ℕ)) (i : ℕ) (w d : List ℕ) → i < length ws
      → w ≡ get_or ws i d
      → some_word test step s (drop i ws) ≡ (test s w || some_word test step (step s w) (drop (i + 1) ws))
  word_at s ws i w d inside is =
      at_drop_more (some_word test step s) ws i d inside ∙ word_more s (get_or ws i d) (drop (i + 1) ws)
      ∙ ap (λ v. test s v || some_word test step (step s v) (drop (i + 1) ws)) (sym is)

  -- word i passes
  pub word_found : (s : S) (ws : List (List ℕ)) (i : ℕ) (w d : List ℕ) → i < length ws
      → w ≡ get_or ws i d → test s w ≡ true → some_word test step s (drop i ws) ≡ true
  word_found s ws i w d inside is passes =
      word_at s ws i w d inside is ∙ ap (λ b. b || some_word test step (step s w) (drop (i + 1) ws)) passes

  -- word i does not
  pub word_passed : (s t : S) (ws : List (List ℕ)) (i : ℕ) (w d : List ℕ) → i < length ws
      → w ≡ get_or ws i d → test s w ≡ false → t ≡ step s w
      → some_word test step t (drop (i + 1) ws) ≡ some_word test step s (drop i ws)
  word_passed s t ws i w d inside is fails next =
      ap (λ r. some_word test step r (drop (i + 1) ws)) next
      ∙ sym (word_at s ws i w d inside is ∙ ap (λ b. b || some_word test step (step s w) (drop (i + 1) ws)) fails)

  -- no word is left
  pub word_none : (s : S) (ws : List (List ℕ)) (i : ℕ) → length ws ≤ i
      → some_word test step s (drop i ws) ≡ false
  word_none s ws i past = at_drop_all (some_word test step s) ws i past ∙ word_nil s

-- what stands behind one more word, part by part
pub heard_as : (name : List ℕ) (h : Heard) (w : List ℕ) (half : Bool) (place : MarkPlace)
    → half ≡ is_half name h.place w → place ≡ next h.place w
    → ◌≡◌ {A = Heard} (record { half = half; place = place }) (heard name h w)
heard_as name h w half place p q = cc
