-- The parts of a last line follow each other.
use Rattle.std.proofs.Common.{◌≡◌, ◌||◌, ℕ, Bool, List, ◌++◌, codes, nat_lt, ap, ◌∙◌}
use Rattle.std.proofs.lemmas.List.{append_assoc}
use Rattle.msc_scanning.specs.LastLines.{other_parts, part_text}
use Rattle.msc_scanning.specs.declared.tally.Tally.{Tally}

-- the parts on stale marks and on refused diagrams are put one after the other
pub two_parts : (t : Tally) (page mid new : List ℕ) (begun then_begun : Bool)
    → begun ≡ (nat_lt 0 t.passed || nat_lt 0 t.races) → then_begun ≡ (begun || nat_lt 0 t.stale)
    → mid ≡ page ++ part_text begun t.stale (codes "has stale marks") (codes "have stale marks")
    → new ≡ mid ++ part_text then_begun t.refused (codes "is refused") (codes "are refused")
    → new ≡ page ++ other_parts t
two_parts t page mid new begun then_begun is then_is first second =
    (rw (then_is, is) at second)
    ∙ ap (λ (l : List ℕ). l ++ part_text ((nat_lt 0 t.passed || nat_lt 0 t.races) || nat_lt 0 t.stale) t.refused (codes "is refused") (codes "are refused")) (rw is at first)
    ∙ append_assoc page (part_text (nat_lt 0 t.passed || nat_lt 0 t.races) t.stale (codes "has stale marks") (codes "have stale marks"))
    (part_text ((nat_lt 0 t.passed || nat_lt 0 t.races) || nat_lt 0 t.stale) t.refused (codes "is refused") (codes "are refused"))
