-- Seeking in a line, one byte more.
use Rattle.std.proofs.Common.{◌≡◌, ◌<◌, ◌≤◌, ℕ, ◌+◌, true, false, cond, List, [], ◌∷◌, length, drop, refl, sym, ap, ◌∙◌}
use Rattle.std.proofs.lemmas.List.{drop_more, drop_all}
use Rattle.msc_markdown.specs.declared.seeking.Sought.{Sought}
use Rattle.msc_markdown.specs.Seeking.{is_here, before}

-- what is sought stands at the front, or further on
before_none : (s : Sought) (b : ℕ) (bs : List ℕ) → is_here s (b ∷ bs) ≡ true → before s (b ∷ bs) ≡ 0
unfolding before
before_none s b bs here = ap (λ t. cond t 0 (1 + before s bs)) here

before_one : (s : Sought) (b : ℕ) (bs : List ℕ) → is_here s (b ∷ bs) ≡ false → before s (b ∷ bs) ≡ 1 + before s bs
unfolding before
before_one s b bs other = ap (λ t. cond t 0 (1 + before s bs)) other

before_nothing : (s : Sought) → before s [] ≡ 0
unfolding before
before_nothing s = refl

module _ (s : Sought) (bytes : List ℕ) (i : ℕ) where
  pub before_here : i < length bytes → is_here s (drop i bytes) ≡ true → before s (drop i bytes) ≡ 0
  before_here inside here =
      let at = drop_more bytes i 0 inside in
      ap (before s) at ∙ before_none s _ _ (sym (ap (is_here s) at) ∙ here)

  pub before_on : i < length bytes → is_here s (drop i bytes) ≡ false → before s (drop i bytes) ≡ 1 + before s (drop (i + 1) bytes)
  before_on inside other =
      let at = drop_more bytes i 0 inside in
      ap (before s) at ∙ before_one s _ _ (sym (ap (is_here s) at) ∙ other)

  pub before_end : length bytes ≤ i → before s (drop i bytes) ≡ 0
  before_end over = ap (before s) (drop_all i bytes over) ∙ before_nothing s
