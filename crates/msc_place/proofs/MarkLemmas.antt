-- Positions that are kept.
use Rattle.std.proofs.Common.{◌≡◌, ℕ, ◌+◌, ◌*◌, ◌/◌, ◌<◌, ◌≤◌, List, [], ◌∷◌, ◌++◌, length, get_or, sym, subst, arith, below_more}
use Rattle.std.proofs.Math.Seq.{get_or-append_seam}
use Rattle.std.proofs.lemmas.List.{get_or_read, get_or_append_left}
use Rattle.msc_place.specs.declared.position.Position.{Position}
use Rattle.msc_place.specs.Positions.{IsPosition}
use Rattle.msc_place.specs.Marks.{no_position, AreMarksTo, AreMarks}
use Rattle.msc_place.proofs.PositionLemmas.{ends_first}

-- the position that is kept of the last multiple before a place
pub mark_before : (text : List ℕ) (marks : List Position) (at : ℕ) (mark : Position)
    → AreMarks text marks → at ≤ length text → mark ≡ get_or marks (at / 256) mark
    → IsPosition text (at / 256 * 256) mark.line mark.column
mark_before text marks at mark h le is =
    let k = at / 256 in
    let inside : k < length marks = omega (arith, h.each) in
    let same : mark ≡ get_or marks k no_position = get_or_read marks k mark inside is no_position in
    subst (λ (p : Position). IsPosition text (k * 256) p.line p.column) (sym same) (h.known k inside)

-- one more position
pub mark_more : (text : List ℕ) (marks : List Position) (k : ℕ) (mark : Position)
    → length marks ≡ k → AreMarksTo text marks k → IsPosition text (k * 256) mark.line mark.column
    → AreMarksTo text (marks ++ mark ∷ []) (k + 1)
mark_more text marks k mark each known is =
    let all = marks ++ mark ∷ [] in
    let Here : ℕ → Position → Type 0 = λ j p. IsPosition text (j * 256) p.line p.column in
    let seam : get_or all k no_position ≡ mark =
    subst (λ n. get_or all n no_position ≡ mark) each (get_or-append_seam marks mark [] no_position) in
    below_more (λ j. Here j (get_or all j no_position)) k
    (λ j h. subst (Here j) (sym (get_or_append_left marks (mark ∷ []) no_position j (omega arith))) (known j h))
    (subst (Here k) (sym seam) is)

-- the first position
pub mark_first : (text : List ℕ) → IsPosition text 0 1 1
mark_first text = ends_first
