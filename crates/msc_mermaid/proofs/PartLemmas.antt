-- Parts of lines of a text, one more.
use Rattle.std.proofs.Common.{◌≡◌, ◌<◌, ◌≤◌, ℕ, ◌+◌, Bool, List, [], ◌∷◌, length, get_or, drop, map, Option, Ok, refl, sym, ap, ◌∙◌, subst}
use Rattle.std.proofs.lemmas.List.{drop_more, drop_all}
use Rattle.msc_mermaid.specs.declared.fault.ImportFault.{ImportFault}
use Rattle.msc_mermaid.specs.declared.progress.Progress.{Progress}
use Rattle.msc_mermaid.specs.declared.statement.Cross.{Cross}
use Rattle.msc_mermaid.specs.Gives.{◌>>=◌, Fails}
use Rattle.msc_mermaid.specs.Parts.{Stretch, part_step, steps_of}
use Rattle.msc_mermaid.proofs.ReadingLemmas.{bind_fails}

parts_cons : (markup : Bool) (cross : Option Cross) (starts : List ℕ) (s : Stretch) (ss : List Stretch) (p : Progress) → steps_of markup cross starts (s ∷ ss) p ≡ (part_step markup cross starts s p >>= (λ q. steps_of markup cross starts ss q))
unfolding steps_of
parts_cons markup cross starts s ss p = refl

parts_none : (markup : Bool) (cross : Option Cross) (starts : List ℕ) (p : Progress) → steps_of markup cross starts [] p ≡ Ok p
unfolding steps_of
parts_none markup cross starts p = refl

module _ {X : Type 0} (f : X → Stretch) (ls : List X) (i : ℕ) (markup : Bool) (cross : Option Cross) (starts : List ℕ) (p : Progress) where
  module _ (d : X) (inside : i < length ls) where
    -- the next part, and then the others
    part_next : steps_of markup cross starts (map f (drop i ls)) p ≡ (part_step markup cross starts (f (get_or ls i d)) p >>= (λ q. steps_of markup cross starts (map f (drop (i + 1) ls)) q))
    part_next = ap (λ x. steps_of markup cross starts (map f x) p) (drop_more ls i d inside) ∙ parts_cons markup cross starts (f (get_or ls i d)) (map f (drop (i + 1) ls)) p

    pub parts_next : (q : Progress) → part_step markup cross starts (f (get_or ls i d)) p ≡ Ok q → steps_of markup cross starts (map f (drop i ls)) p ≡ steps_of markup cross starts (map f (drop (i + 1) ls)) q
    parts_next q e = part_next ∙ ap (λ x. x >>= (λ n. steps_of markup cross starts (map f (drop (i + 1) ls)) n)) e

    pub parts_fail : (e : ImportFault) → Fails e (part_step markup cross starts (f (get_or ls i d)) p) → Fails e (steps_of markup cross starts (map f (drop i ls)) p)
    parts_fail e h = subst (Fails e) (sym part_next) (bind_fails e _ _ h)

  -- no part is left
  pub parts_end : length ls ≤ i → steps_of markup cross starts (map f (drop i ls)) p ≡ Ok p
  parts_end over = ap (λ x. steps_of markup cross starts (map f x) p) (drop_all i ls over) ∙ parts_none markup cross starts p
