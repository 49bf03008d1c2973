-- Seeking, patterns and rows, one step of each.
use Rattle.std.proofs.Common.{◌≡◌, ◌<◌, ◌≤◌, ℕ, ◌+◌, true, false, cond, List, [], ◌∷◌, length, get_or, drop, Option, None, Some, refl, sym, ap, ◌∙◌}
use Rattle.std.specs.Prelude.{option_and_then}
use Rattle.std.proofs.lemmas.List.{drop_more, drop_all}
use Rattle.msc_mermaid.specs.declared.pattern.Part.{Part}
use Rattle.msc_mermaid.specs.declared.pattern.Pattern.{Pattern}
use Rattle.msc_mermaid.specs.declared.seeking.Sought.{Sought}
use Rattle.msc_mermaid.specs.Patterns.{behind, fits, parts_of, or_next, first_fit}
use Rattle.msc_mermaid.specs.Seeking.{is_here, before}

-- what is sought stands at the front, or further on
pub before_none : (s : Sought) (b : ℕ) (bs : List ℕ) → is_here s (b ∷ bs) ≡ true → before s (b ∷ bs) ≡ 0
unfolding before
before_none s b bs here = ap (λ t. cond t 0 (1 + before s bs)) here

pub before_one : (s : Sought) (b : ℕ) (bs : List ℕ) → is_here s (b ∷ bs) ≡ false → before s (b ∷ bs) ≡ 1 + before s bs
unfolding before
before_one s b bs other = ap (λ t. cond t 0 (1 + before s bs)) other

pub before_nothing : (s : Sought) → before s [] ≡ 0
unfolding before
before_nothing s = refl

module _ (s : Sought) (bytes : List ℕ) (i : ℕ) where
  pub before_here : i < length bytes → is_here s (drop i bytes) ≡ true → before s (drop i bytes) ≡ 0
  before_here inside here =
      let at = drop_more bytes i 0 inside in
      ap (before s) at ∙ before_none s _ _ (sym (ap (is_here s) at) ∙ here)

  pub before_on : i < length bytes → is_here s (drop i bytes) ≡ false → before s (drop i bytes) ≡ 1 + before s (drop (i + 1) bytes)
  before_on inside other =
      let at = drop_more bytes i 0 inside in
      ap (before s) at ∙ before_one s _ _ (sym (ap (is_here s) at) ∙ other)

  pub before_end : length bytes ≤ i → before s (drop i bytes) ≡ 0
  before_end over = ap (before s) (drop_all i bytes over) ∙ before_nothing s

-- one part more
fits_cons : (p : Part) (ps : List Part) (bytes : List ℕ) → fits (p ∷ ps) bytes ≡ option_and_then (fits ps) (behind p bytes)
unfolding fits
fits_cons p ps bytes = refl

fits_none : (bytes : List ℕ) → fits [] bytes ≡ Some bytes
unfolding fits
fits_none bytes = refl

module _ (ps : List Part) (i : ℕ) (d : Part) (bytes : List ℕ) where
  pub fits_more : (found : Option (List ℕ)) → i < length ps → behind (get_or ps i d) bytes ≡ found → fits (drop i ps) bytes ≡ option_and_then (fits (drop (i + 1) ps)) found
  fits_more found inside e =
      ap (λ x. fits x bytes) (drop_more ps i d inside) ∙ fits_cons (get_or ps i d) (drop (i + 1) ps) bytes ∙ ap (option_and_then (fits (drop (i + 1) ps))) e

-- no part is left
pub fits_end : (ps : List Part) (i : ℕ) (bytes : List ℕ) → length ps ≤ i → fits (drop i ps) bytes ≡ Some bytes
fits_end ps i bytes over = ap (λ x. fits x bytes) (drop_all i ps over) ∙ fits_none bytes

-- one pattern more
fit_cons : (p : Pattern) (ps : List Pattern) (bytes : List ℕ) → first_fit (p ∷ ps) bytes ≡ or_next (fits (parts_of p) bytes) (first_fit ps bytes)
unfolding first_fit
fit_cons p ps bytes = refl

fit_none : (bytes : List ℕ) → first_fit [] bytes ≡ None
unfolding first_fit
fit_none bytes = refl

module _ (ps : List Pattern) (i : ℕ) (d : Pattern) (bytes : List ℕ) where
  pub fit_more : (found : Option (List ℕ)) → i < length ps → fits (parts_of (get_or ps i d)) bytes ≡ found → first_fit (drop i ps) bytes ≡ or_next found (first_fit (drop (i + 1) ps) bytes)
  fit_more found inside e =
      ap (λ x. first_fit x bytes) (drop_more ps i d inside) ∙ fit_cons (get_or ps i d) (drop (i + 1) ps) bytes ∙ ap (λ f. or_next f (first_fit (drop (i + 1) ps) bytes)) e

-- no pattern is left
pub fit_end : (ps : List Pattern) (i : ℕ) (bytes : List ℕ) → length ps ≤ i → first_fit (drop i ps) bytes ≡ None
fit_end ps i bytes over = ap (λ x. first_fit x bytes) (drop_all i ps over) ∙ fit_none bytes
