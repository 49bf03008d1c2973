-- Faulty marks that are parts of labels, one statement more.
use Rattle.std.proofs.Common.{◌≡◌, ◌<◌, ◌≤◌, ℕ, ◌+◌, true, false, List, [], ◌∷◌, ◌++◌, length, get_or, drop, refl, ap, sym, ◌∙◌}
use Rattle.std.proofs.lemmas.List.{append-nil, append_assoc, drop_all}
use Rattle.msc_chart.proofs.EndLemmas.{drop-at}
use Rattle.msc_mermaid.specs.declared.statement.Placed.{Placed}
use Rattle.msc_arrow_marks.specs.declared.fault.FaultyMark.{FaultyMark}
use Rattle.msc_arrow_marks.specs.declared.fault.Slip.TheVariants as slip
use Rattle.msc_arrow_marks.specs.Marks.{fault_at, is_label_marked, label_faults}

first_fault : (placed : Placed) (statements : List Placed) → is_label_marked placed.statement ≡ true → label_faults (placed ∷ statements) ≡ fault_at slip.Label placed.whole ∷ label_faults statements
first_fault placed statements is = rw is refl

no_fault : (placed : Placed) (statements : List Placed) → is_label_marked placed.statement ≡ false → label_faults (placed ∷ statements) ≡ label_faults statements
no_fault placed statements is = rw is refl

module _ (faults : List FaultyMark) (statements : List Placed) (i : ℕ) where
  module _ (placed : Placed) (inside : i < length statements) (at : placed ≡ get_or statements i placed) where
    -- the label has a mark in it
    pub fault_more : is_label_marked placed.statement ≡ true → (faults ++ fault_at slip.Label placed.whole ∷ []) ++ label_faults (drop (i + 1) statements) ≡ faults ++ label_faults (drop i statements)
    fault_more is = append_assoc faults (fault_at slip.Label placed.whole ∷ []) (label_faults (drop (i + 1) statements))
        ∙ sym (ap (λ t. faults ++ t) (ap label_faults (drop-at statements i placed inside at) ∙ first_fault placed (drop (i + 1) statements) is))

    -- it has none
    pub fault_none : is_label_marked placed.statement ≡ false → faults ++ label_faults (drop (i + 1) statements) ≡ faults ++ label_faults (drop i statements)
    fault_none is = sym (ap (λ t. faults ++ t) (ap label_faults (drop-at statements i placed inside at) ∙ no_fault placed (drop (i + 1) statements) is))

  -- no statement is left
  pub fault_over : length statements ≤ i → faults ++ label_faults (drop i statements) ≡ faults
  fault_over over = ap (λ t. faults ++ label_faults t) (drop_all i statements over) ∙ append-nil faults
