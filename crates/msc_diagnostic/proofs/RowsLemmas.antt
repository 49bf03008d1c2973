-- The rows of marks, one mark after the other.
use Rattle.std.proofs.Common.{◌≡◌, ◌<◌, ◌≤◌, ℕ, ◌+◌, ◌-◌, List, [], ◌∷◌, ◌++◌, length, get_or, drop, take, refl, sym, ap, ◌∙◌, append_assoc}
use Rattle.std.proofs.lemmas.List.{append-nil, drop_all, drop_more, take_rest}
use Rattle.msc_diagnostic.specs.declared.frame.Frame.{Frame}
use Rattle.msc_diagnostic.specs.Plain.{Placed}
use Rattle.msc_diagnostic.specs.declared.source.LineEnds.{LineEnds}
use Rattle.msc_diagnostic.specs.declared.window.Window.{Window}
use Rattle.msc_diagnostic.specs.Blocks.{next_window, rows_before, rows_of, signs_row}

module _ (f : Frame) (ends : LineEnds) (text : List ℕ) where
  no_rows : (window : Window) → rows_of f ends text window [] ≡ []
  unfolding rows_of
  no_rows window = refl

  rows_from : Window → Window → Placed → List Placed → List ℕ
  rows_from window next mark marks =
      rows_before f ends text window mark next ++ (signs_row f next mark ++ rows_of f ends text next marks)

  first_rows : (window : Window) (mark : Placed) (marks : List Placed)
      → rows_of f ends text window (mark ∷ marks) ≡ rows_from window (next_window ends text window mark (mark ∷ marks)) mark marks
  unfolding rows_of rows_from
  first_rows window mark marks = refl

  -- the rows of one mark more are printed
  pub more_rows : (marks : List Placed) (i : ℕ) (mark : Placed) (window next : Window) (all out one two : List ℕ)
      → i < length marks → mark ≡ get_or marks i mark → next ≡ next_window ends text window mark (take (length marks - i) (drop i marks))
      → out ++ rows_of f ends text window (drop i marks) ≡ all
      → one ≡ out ++ rows_before f ends text window mark next → two ≡ one ++ signs_row f next mark
      → two ++ rows_of f ends text next (drop (i + 1) marks) ≡ all
  unfolding rows_from
  more_rows marks i mark window next all out one two inside at is invariant first second =
      let left = drop (i + 1) marks in
      let split : drop i marks ≡ mark ∷ left = drop_more marks i mark inside ∙ ap (λ first. first ∷ left) (sym at) in
      let whole : take (length marks - i) (drop i marks) ≡ mark ∷ left = take_rest marks i ∙ split in
      let rows : rows_of f ends text window (drop i marks) ≡ rows_from window next mark left =
      ap (rows_of f ends text window) split ∙ first_rows window mark left
      ∙ ap (λ w. rows_from window w mark left) (ap (next_window ends text window mark) (sym whole) ∙ sym is)
      in
      let a = rows_before f ends text window mark next in let b = signs_row f next mark in
      let c = rows_of f ends text next left in
      ap (λ t. t ++ c) (second ∙ ap (λ t. t ++ b) first)
      ∙ append_assoc (out ++ a) b c ∙ append_assoc out a (b ++ c) ∙ ap (λ t. out ++ t) (sym rows) ∙ invariant

  -- the rows of all marks are printed
  pub all_rows : (marks : List Placed) (i : ℕ) (window : Window) (all out : List ℕ)
      → length marks ≤ i → out ++ rows_of f ends text window (drop i marks) ≡ all → out ≡ all
  all_rows marks i window all out over invariant =
      sym (append-nil out) ∙ ap (λ t. out ++ t) (sym (ap (rows_of f ends text window) (drop_all i marks over) ∙ no_rows window)) ∙ invariant
