-- The numbers of the queues, event by event.
use Rattle.std.proofs.Common.{◌≡◌, ℕ, ◌+◌, false, inl, inr, List, [], ◌∷◌, ◌++◌, length, get_or, ap, ◌∙◌, subst, arith, length-append}
use Rattle.std.proofs.lemmas.Bool.{cases_lt}
use Rattle.std.proofs.lemmas.List.{get_or_append_left, get_or_at}
use Rattle.msc_chart.specs.Charts.{is_local}
use Rattle.msc_chart.specs.Orders.{WiredChart, queue}
use Rattle.msc_ready.specs.QueueNumbers.{AreQueueNumbersTo}

-- none yet
pub no_numbers : (chart : WiredChart) (numbers : List ℕ) → numbers ≡ []
    → AreQueueNumbersTo chart 0 numbers
no_numbers chart numbers empty = record {
  many = ap (λ (l : List ℕ). length l) empty;
  each = λ x below away. absurd (omega arith);
}

-- one more
pub more_numbers : (chart : WiredChart) (n number : ℕ) (numbers more : List ℕ)
    → AreQueueNumbersTo chart n numbers → more ≡ numbers ++ number ∷ []
    → (is_local chart.events n ≡ false → number ≡ queue chart n)
    → AreQueueNumbersTo chart (n + 1) more
more_numbers chart n number numbers more are same own =
    let many = are.many in
    let longer : length more ≡ length numbers + 1 =
    ap (λ (l : List ℕ). length l) same ∙ length-append numbers (number ∷ []) in
    record {
      many = omega (arith, many, longer);
      each = λ x below away. elim (cases_lt x n) [
        | inl early ↦ ap (λ (l : List ℕ). get_or l x 0) same
            ∙ get_or_append_left numbers (number ∷ []) 0 x (omega (arith, many, early))
            ∙ are.each x early away
        | inr late ↦
            let here : n ≡ x = omega (arith, late, below) in
            let at : get_or more x 0 ≡ number = ap (λ (l : List ℕ). get_or l x 0) same
            ∙ get_or_at numbers number [] 0 x (omega (arith, many, here)) in
            at ∙ subst (λ (k : ℕ). is_local chart.events k ≡ false → number ≡ queue chart k) here
            own away
      ];
    }
