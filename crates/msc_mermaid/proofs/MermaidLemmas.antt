-- Lines of a Mermaid text, one line more.
use Rattle.std.proofs.Common.{◌≡◌, ◌<◌, ◌≤◌, ℕ, ◌+◌, ◌-◌, List, [], ◌∷◌, length, get_or, drop, map, Option, Ok, refl, sym, ap, ◌∙◌, subst, length-take, length-drop, arith}
use Rattle.std.proofs.lemmas.List.{drop_more, drop_all}
use Rattle.msc_mermaid.specs.declared.fault.ImportFault.{ImportFault}
use Rattle.msc_mermaid.specs.declared.progress.Progress.{Progress}
use Rattle.msc_mermaid.specs.declared.statement.Cross.{Cross}
use Rattle.msc_mermaid.specs.Gives.{◌>>=◌, Fails}
use Rattle.msc_mermaid.specs.White.{front, behind_white, trimmed}
use Rattle.msc_mermaid.specs.Lines.{start_on}
use Rattle.msc_mermaid.specs.Mermaid.{step, steps}
use Rattle.msc_mermaid.proofs.ReadingLemmas.{bind_fails}

-- without white space at both ends there are fewer bytes by those in front, at least
pub trimmed_short : (bytes : List ℕ) → front 0 bytes ≤ length bytes → front 0 bytes + length (trimmed bytes) ≤ length bytes
trimmed_short bytes low =
    let rest : length (behind_white bytes) ≡ length bytes - front 0 bytes = length-drop (front 0 bytes) bytes in
    let short : length (trimmed bytes) ≤ length (behind_white bytes) = rw length-take (omega arith) in
    omega (arith, low, rest, short)

steps_cons : (cross : Option Cross) (starts : List ℕ) (line : ℕ) (l : List ℕ) (ls : List (List ℕ)) (p : Progress) → steps cross starts line (l ∷ ls) p ≡ (step cross (start_on starts line) line l p >>= (λ q. steps cross starts (line + 1) ls q))
unfolding steps
steps_cons cross starts line l ls p = refl

steps_none : (cross : Option Cross) (starts : List ℕ) (line : ℕ) (p : Progress) → steps cross starts line [] p ≡ Ok p
unfolding steps
steps_none cross starts line p = refl

module _ {X : Type 0} (f : X → List ℕ) (ls : List X) (i : ℕ) (cross : Option Cross) (starts : List ℕ) (line : ℕ) (p : Progress) where
  module _ (d : X) (inside : i < length ls) where
    -- the next line, and then the others
    step_next : steps cross starts line (map f (drop i ls)) p ≡ (step cross (start_on starts line) line (f (get_or ls i d)) p >>= (λ q. steps cross starts (line + 1) (map f (drop (i + 1) ls)) q))
    step_next = ap (λ x. steps cross starts line (map f x) p) (drop_more ls i d inside) ∙ steps_cons cross starts line (f (get_or ls i d)) (map f (drop (i + 1) ls)) p

    pub steps_next : (start : ℕ) → start ≡ start_on starts line → (q : Progress) → step cross start line (f (get_or ls i d)) p ≡ Ok q → steps cross starts line (map f (drop i ls)) p ≡ steps cross starts (line + 1) (map f (drop (i + 1) ls)) q
    steps_next start is q e =
        let there : step cross (start_on starts line) line (f (get_or ls i d)) p ≡ Ok q = ap (λ (n : ℕ). step cross n line (f (get_or ls i d)) p) (sym is) ∙ e in
        step_next ∙ ap (λ x. x >>= (λ n. steps cross starts (line + 1) (map f (drop (i + 1) ls)) n)) there

    pub steps_fail : (start : ℕ) → start ≡ start_on starts line → (e : ImportFault) → Fails e (step cross start line (f (get_or ls i d)) p) → Fails e (steps cross starts line (map f (drop i ls)) p)
    steps_fail start is e h =
        let there = subst (λ (n : ℕ). Fails e (step cross n line (f (get_or ls i d)) p)) is h in
        subst (Fails e) (sym step_next) (bind_fails e _ _ there)

  -- no line is left
  pub steps_end : length ls ≤ i → steps cross starts line (map f (drop i ls)) p ≡ Ok p
  steps_end over = ap (λ x. steps cross starts line (map f x) p) (drop_all i ls over) ∙ steps_none cross starts line p
