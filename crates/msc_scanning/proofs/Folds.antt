-- How a tally counts one diagram after the other.
use Rattle.std.proofs.Common.{◌≡◌, ◌<◌, ◌≤◌, ◌+◌, ℕ, List, drop, get_or, length, ap}
use Rattle.std.proofs.lemmas.List.{drop_all, drop_more}
use Rattle.msc_scanning.specs.Outcomes.{with_all, with_outcome}
use Rattle.msc_scanning.specs.declared.outcome.Outcome.{Outcome}
use Rattle.msc_scanning.specs.declared.tally.Tally.{Tally}

-- those from a place on are the one there, and those after it
pub counted_more : (others : List Outcome) (i : ℕ) (t : Tally) (e : Outcome) → i < length others
    → with_all (drop i others) t ≡ with_all (drop (i + 1) others) (with_outcome (get_or others i e) t)
counted_more others i t e inside = ap (λ (l : List Outcome). with_all l t) (drop_more others i e inside)

-- after the last none is left
pub counted_end : (others : List Outcome) (i : ℕ) (t : Tally) → length others ≤ i → with_all (drop i others) t ≡ t
counted_end others i t past = ap (λ (l : List Outcome). with_all l t) (drop_all i others past)
