-- Marks before what a line holds, one byte more.
use Rattle.std.proofs.Common.{◌≡◌, ◌<◌, ◌≤◌, ℕ, ◌+◌, ◌-◌, false, true, cond, ◌==◌, List, [], ◌∷◌, length, get_or, drop, refl, sym, ap, ◌∙◌, arith}
use Rattle.std.proofs.lemmas.List.{drop_more, drop_all}
use Rattle.msc_markdown.specs.Marks.{ahead, is_quote, marks, quoted}

marks_cons : (left b : ℕ) (bs : List ℕ) (here : ℕ) → ahead left (b ∷ bs) ≡ here → marks left (b ∷ bs) ≡ cond (here == 0) 0 (1 + marks (here - 1) bs)
unfolding marks
marks_cons left b bs here e = ap (λ n. cond (n == 0) 0 (1 + marks (n - 1) bs)) e

marks_nothing : (left : ℕ) → marks left [] ≡ 0
unfolding marks
marks_nothing left = refl

quoted_cons : (left b : ℕ) (bs : List ℕ) → quoted left (b ∷ bs) ≡ cond (left == 0) 0 (1 + quoted (left - cond (is_quote b) 1 0) bs)
unfolding quoted
quoted_cons left b bs = refl

quoted_nothing : (left : ℕ) → quoted left [] ≡ 0
unfolding quoted
quoted_nothing left = refl

module _ (bytes : List ℕ) (i left : ℕ) where
  module _ (inside : i < length bytes) where
    module _ (here : ℕ) (is : ahead left (drop i bytes) ≡ here) where
      at : ahead left (get_or bytes i 0 ∷ drop (i + 1) bytes) ≡ here
      at = sym (ap (ahead left) (drop_more bytes i 0 inside)) ∙ is

      marks_next : marks left (drop i bytes) ≡ cond (here == 0) 0 (1 + marks (here - 1) (drop (i + 1) bytes))
      marks_next = ap (marks left) (drop_more bytes i 0 inside) ∙ marks_cons left (get_or bytes i 0) (drop (i + 1) bytes) here at

      -- no mark stands here
      pub marks_stop : here ≡ 0 → marks left (drop i bytes) ≡ 0
      marks_stop none = marks_next ∙ ap (λ n. cond (n == 0) 0 (1 + marks (n - 1) (drop (i + 1) bytes))) none

      -- a mark goes on
      pub marks_on : (here == 0) ≡ false → marks left (drop i bytes) ≡ 1 + marks (here - 1) (drop (i + 1) bytes)
      marks_on some = marks_next ∙ ap (λ t. cond t 0 (1 + marks (here - 1) (drop (i + 1) bytes))) some

    quoted_next : quoted left (drop i bytes) ≡ cond (left == 0) 0 (1 + quoted (left - cond (is_quote (get_or bytes i 0)) 1 0) (drop (i + 1) bytes))
    quoted_next = ap (quoted left) (drop_more bytes i 0 inside) ∙ quoted_cons left (get_or bytes i 0) (drop (i + 1) bytes)

    -- all marks are behind
    pub quoted_stop : left ≡ 0 → quoted left (drop i bytes) ≡ 0
    quoted_stop none = quoted_next ∙ ap (λ n. cond (n == 0) 0 (1 + quoted (left - cond (is_quote (get_or bytes i 0)) 1 0) (drop (i + 1) bytes))) none

    -- marks are left
    pub quoted_on : (next : ℕ) → (left == 0) ≡ false → next ≡ left - cond (is_quote (get_or bytes i 0)) 1 0 → quoted left (drop i bytes) ≡ 1 + quoted next (drop (i + 1) bytes)
    quoted_on next some is =
        quoted_next ∙ ap (λ t. cond t 0 (1 + quoted (left - cond (is_quote (get_or bytes i 0)) 1 0) (drop (i + 1) bytes))) some ∙ ap (λ n. 1 + quoted n (drop (i + 1) bytes)) (sym is)

  -- no byte is left
  pub marks_end : length bytes ≤ i → marks left (drop i bytes) ≡ 0
  marks_end over = ap (marks left) (drop_all i bytes over) ∙ marks_nothing left

  pub quoted_end : length bytes ≤ i → quoted left (drop i bytes) ≡ 0
  quoted_end over = ap (quoted left) (drop_all i bytes over) ∙ quoted_nothing left
