-- Lines that got a word, one more at a time.
use Rattle.std.proofs.Common.{◌≡◌, ◌<◌, ◌≤◌, ◌+◌, ◌==◌, ℕ, List, [], ◌∷◌, ◌++◌, take, drop, get_or, length, length-take, arith, None, Some, sym, ap, ◌∙◌}
use Rattle.std.specs.List.{All, flat_map, position, position_or_len}
use Rattle.std.proofs.lemmas.List.{drop_more, get_or-take, get_or_default, take-append-drop}
use Rattle.std.proofs.lemmas.Bool.{eqb-true}
use Rattle.std.proofs.lemmas.List.Elements.{All-push}
use Rattle.std.proofs.lemmas.List.Quantifiers.{position-Some}
use Rattle.std.proofs.lemmas.List.Sums.{fails_before_first}
use Rattle.std.proofs.lemmas.Grind.{common_steps}
use Rattle.msc_scanning.specs.Naming.{named_line, HasNames, IsLine}

-- the bytes of lines, each with its end
abbrev pub whole : List (List ℕ) → List ℕ
whole lines = flat_map (λ line. line ++ 10 ∷ []) lines

abbrev pub whole_named : List ℕ → List (List ℕ) → List ℕ
whole_named word lines = flat_map (λ line. named_line word line ++ 10 ∷ []) lines

-- the lines before the rest have the word
pub record NamedSoFar (word bytes rest printed : List ℕ) : Type 0 where
  pub lines : List (List ℕ)
  pub are_lines : All IsLine lines
  pub bytes_are : bytes ≡ whole lines ++ rest
  pub printed_are : printed ≡ whole_named word lines

-- bytes are a line, its end and the rest
module _ (rest : List ℕ) (at : ℕ) (is : position (λ byte. byte == 10) rest ≡ Some at) where
  line_at : IsLine (take at rest)
  line_at k d within =
      let found = position-Some (λ byte. byte == 10) rest at 0 is in
      let inside : k < at = let short = length-take at rest in omega (arith, within, short, found.0) in
      ap (λ (byte : ℕ). byte == 10) (get_or-take at rest k d inside ∙ get_or_default rest k d 0 (let short = found.0 in omega (arith, inside, short))) ∙ found.2 k inside

  rest_at : rest ≡ take at rest ++ (10 ∷ drop (at + 1) rest)
  rest_at =
      let found = position-Some (λ byte. byte == 10) rest at 0 is in
      let here : get_or rest at 0 ≡ 10 = eqb-true _ _ found.1 in
      sym (take-append-drop at rest) ∙ ap (λ (l : List ℕ). take at rest ++ l) (drop_more rest at 0 found.0 ∙ ap (λ (b : ℕ). b ∷ drop (at + 1) rest) here)

module _ (word bytes : List ℕ) where
  pub next_line : (rest printed : List ℕ) (at : ℕ) → position (λ byte. byte == 10) rest ≡ Some at → NamedSoFar word bytes rest printed
      → NamedSoFar word bytes (drop (at + 1) rest) (printed ++ (named_line word (take at rest) ++ 10 ∷ []))
  next_line rest printed at is so = record {
    lines = so.lines ++ take at rest ∷ [];
    are_lines = All-push IsLine so.lines (take at rest) so.are_lines (line_at rest at is);
    bytes_are = so.bytes_are ∙ (ap (λ (l : List ℕ). whole so.lines ++ l) (rest_at rest at is) ∙ grind (arith, common_steps));
    printed_are = rw so.printed_are (grind (arith, common_steps));
  }

  pub last_line : (rest printed : List ℕ) → position (λ byte. byte == 10) rest ≡ None → NamedSoFar word bytes rest printed
      → HasNames word bytes (printed ++ rest)
  last_line rest printed none so = record {
    lines = so.lines;
    are_lines = so.are_lines;
    rest = rest;
    rest_is = λ k d within. fails_before_first (λ byte. byte == 10) rest k d
        (let all : length rest ≤ position_or_len (λ byte. byte == 10) rest = grind (arith, common_steps, none) in omega (arith, all, within));
    bytes_are = so.bytes_are;
    printed_are = ap (λ (l : List ℕ). l ++ rest) so.printed_are;
  }
