-- Marks that are parts of labels, one piece more.
use Rattle.std.proofs.Common.{◌≡◌, ◌<◌, ◌≤◌, ℕ, ◌+◌, true, false, ◌||◌, List, [], ◌∷◌, length, get_or, map, drop, refl, ap, sym, ◌∙◌, arith}
use Rattle.std.specs.Borrow.{Bor}
use Rattle.std.proofs.lemmas.List.{at_drop_more, drop_all, drop-map, length-map}
use Rattle.msc_arrow_marks.specs.Labels.{has_signed, is_signed}

has_signed_nothing : has_signed [] ≡ false
unfolding has_signed
has_signed_nothing = refl

has_signed_cons : (piece : List ℕ) (pieces : List (List ℕ)) → has_signed (piece ∷ pieces) ≡ (is_signed (piece ∷ pieces) || has_signed pieces)
unfolding has_signed
has_signed_cons piece pieces = refl

abbrev pub now : List (Bor (List ℕ)) → List (List ℕ)
now pieces = map (λ (piece : Bor (List ℕ)). piece.now) pieces

module _ (pieces : List (Bor (List ℕ))) (i : ℕ) where
  -- what is left of the pieces
  left : drop i (now pieces) ≡ now (drop i pieces)
  left = drop-map (λ (piece : Bor (List ℕ)). piece.now) i pieces

  module _ (inside : i < length pieces) where
    within : i < length (now pieces)
    within = omega (arith, inside, length-map pieces (λ (piece : Bor (List ℕ)). piece.now))

    next : has_signed (drop i (now pieces)) ≡ (is_signed (drop i (now pieces)) || has_signed (drop (i + 1) (now pieces)))
    next = at_drop_more has_signed (now pieces) i [] within ∙ has_signed_cons (get_or (now pieces) i []) (drop (i + 1) (now pieces))
        ∙ sym (ap (λ t. t || has_signed (drop (i + 1) (now pieces))) (at_drop_more is_signed (now pieces) i [] within))

    -- a mark stands here
    pub has_signed_here : is_signed (now (drop i pieces)) ≡ true → has_signed (drop i (now pieces)) ≡ true
    has_signed_here here = next ∙ ap (λ t. t || has_signed (drop (i + 1) (now pieces))) (ap is_signed left ∙ here)

    -- none stands here
    pub has_signed_behind : is_signed (now (drop i pieces)) ≡ false → has_signed (drop i (now pieces)) ≡ has_signed (drop (i + 1) (now pieces))
    has_signed_behind other = next ∙ ap (λ t. t || has_signed (drop (i + 1) (now pieces))) (ap is_signed left ∙ other)

  -- no piece is left
  pub has_signed_over : length pieces ≤ i → has_signed (drop i (now pieces)) ≡ false
  has_signed_over over = ap has_signed (left ∙ ap now (drop_all i pieces over)) ∙ has_signed_nothing
