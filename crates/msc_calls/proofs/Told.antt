-- A verdict by the list of its races.
use Rattle.std.proofs.Common.{◌≡◌, ℕ, false, List, [], ◌∷◌, ◌++◌, length, eqb, refl, ap, ap₂, ◌∙◌, arith}
use Rattle.std.proofs.lemmas.Bool.{ne_eqb}
use Rattle.msc_chart.specs.declared.queue.Queues.{Queues}
use Rattle.msc_chart.specs.Drawings.{Drawing}
use Rattle.msc_race.specs.Races.{verdict_of}
use Rattle.msc_report.specs.Heads.{head_text, verdict_text}
use Rattle.msc_calls.specs.Checking.{checked_text, passes, races_of, races_text}

-- its races are those of the list
races_told : (pairs : List (ℕ × ℕ)) → pairs ≡ races_of (verdict_of pairs)
races_told [] = refl
races_told (p ∷ pairs) = refl

-- a list with a pair has some
not_none : (p : ℕ × ℕ) (pairs : List (ℕ × ℕ)) → eqb (length (p ∷ pairs)) 0 ≡ false
not_none p pairs = ne_eqb (length (p ∷ pairs)) 0 (λ none. absurd (omega (arith, none)))

-- its head is that of their number
head_told : (d : Drawing) (queues : Queues) (pairs : List (ℕ × ℕ)) → head_text d queues (length pairs) ≡ verdict_text d queues (verdict_of pairs)
head_told d queues [] = refl
head_told d queues (p ∷ pairs) = rw (not_none p pairs) refl

-- so the head of their number and the races are what is printed of the verdict
pub checked_told : (d : Drawing) (queues : Queues) (runs : ℕ → List ℕ) (show : ℕ) (pairs : List (ℕ × ℕ)) (count : ℕ) (head : List ℕ)
    → count ≡ length pairs → head ≡ head_text d queues count
    → head ++ races_text d runs show pairs ≡ checked_text d queues runs show (verdict_of pairs)
checked_told d queues runs show pairs count head size is =
    ap₂ (λ (t : List ℕ) (l : List (ℕ × ℕ)). t ++ races_text d runs show l)
    (is ∙ ap (head_text d queues) size ∙ head_told d queues pairs) (races_told pairs)

-- and it is `pass` where they are none
pub passes_told : (pairs : List (ℕ × ℕ)) (count : ℕ) → count ≡ length pairs → eqb count 0 ≡ passes (verdict_of pairs)
passes_told pairs count size = ap (λ (n : ℕ). eqb n 0) size ∙ told pairs
  where
    -- where there are none, and where there are some
    told : (pairs : List (ℕ × ℕ)) → eqb (length pairs) 0 ≡ passes (verdict_of pairs)
    told [] = refl
    told (p ∷ pairs) = not_none p pairs
