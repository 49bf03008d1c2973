-- The first shown name of a line, one statement more.
use Rattle.std.proofs.Common.{◌≡◌, ◌<◌, ◌≤◌, ℕ, ◌+◌, Bool, true, false, cond, List, [], ◌∷◌, length, get_or, drop, None, Some, refl, ap, ◌∙◌}
use Rattle.std.proofs.lemmas.List.{drop_more, drop_all}
use Rattle.msc_mermaid.specs.declared.statement.Placed.{Placed}
use Rattle.msc_import.specs.Places.{shown_at, shows}

at_cons : (ident : List ℕ) (p : Placed) (ps : List Placed) → shown_at ident (p ∷ ps) ≡ cond (shows ident p.statement) (Some p.shown) (shown_at ident ps)
unfolding shown_at
at_cons ident p ps = refl

at_none : (ident : List ℕ) → shown_at ident [] ≡ None
unfolding shown_at
at_none ident = refl

module _ (ident : List ℕ) (ps : List Placed) (i : ℕ) where
  module _ (d : Placed) (inside : i < length ps) where
    at_next : (b : Bool) → shows ident (get_or ps i d).statement ≡ b → shown_at ident (drop i ps) ≡ cond b (Some (get_or ps i d).shown) (shown_at ident (drop (i + 1) ps))
    at_next b is =
        ap (shown_at ident) (drop_more ps i d inside) ∙ at_cons ident (get_or ps i d) (drop (i + 1) ps)
        ∙ ap (λ (t : Bool). cond t (Some (get_or ps i d).shown) (shown_at ident (drop (i + 1) ps))) is

    pub at_here : shows ident (get_or ps i d).statement ≡ true → shown_at ident (drop i ps) ≡ Some (get_or ps i d).shown
    at_here is = at_next true is

    pub at_later : shows ident (get_or ps i d).statement ≡ false → shown_at ident (drop i ps) ≡ shown_at ident (drop (i + 1) ps)
    at_later is = at_next false is

  pub at_end : length ps ≤ i → shown_at ident (drop i ps) ≡ None
  at_end over = ap (shown_at ident) (drop_all i ps over) ∙ at_none ident
