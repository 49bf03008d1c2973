-- What of a line belongs to a block stands together in the line.
use Rattle.std.proofs.Common.{◌≡◌, ℕ, zero, suc, ◌+◌, ◌-◌, Bool, true, false, cond, not, ◌&&◌, nat_le, List, [], ◌∷◌, length, take, drop, slice_get, Option, None, Some, refl, sym, ap, ◌∙◌, subst, arith}
use Rattle.std.specs.List.{prefix_len}
use Rattle.std.proofs.lemmas.List.{take_all}
use Rattle.msc_mermaid.specs.Lines.{lines_of}
use Rattle.msc_mermaid.specs.Mermaid.{is_head}
use Rattle.msc_mermaid.specs.Parts.{Stretch}
use Rattle.msc_markdown.specs.declared.around.Around.{Around}
use Rattle.msc_markdown.specs.declared.around.BlockKind.{BlockKind}
use Rattle.msc_markdown.specs.declared.closing.Closing.{Closing}
use Rattle.msc_markdown.specs.declared.closing.Closing.TheVariants as closings
use Rattle.msc_markdown.specs.declared.closing.Ends.{Ends}
use Rattle.msc_markdown.specs.declared.seeking.Sought.TheVariants as sought
use Rattle.msc_markdown.specs.Arounds.{around_of, begun, behind_marks, columns_before, is_left_out, left_by, nothing, outside, outside_by, part_of, passed, quoted_front, start_of, stray, within}
use Rattle.msc_markdown.specs.Blanks.{behind_blanks, is_blank}
use Rattle.msc_markdown.specs.Closings.{before_end, behind_name, closing_of, is_end, text_of}
use Rattle.msc_markdown.specs.Laws.{IsPartOf}
use Rattle.msc_markdown.specs.Markdowns.{ends_in, found_in, parts_from}
use Rattle.msc_markdown.specs.Marks.{marks, quoted, quotes_before}
use Rattle.msc_markdown.specs.Markup.{is_inside}
use Rattle.msc_markdown.specs.Seeking.{before}
use Rattle.msc_mermaid.proofs.SpellLemmas.{drop_twice}

-- the last bytes of a line
record IsEndOf (line bytes : List ℕ) : Type 0 where
  from : ℕ
  is : bytes ≡ drop from line

fewer : (line bytes : List ℕ) (k : ℕ) → IsEndOf line bytes → IsEndOf line (drop k bytes)
fewer line bytes k e = record { from = e.from + k; is = ap (drop k) e.is ∙ drop_twice e.from k line }

no_part : (line : List ℕ) → IsPartOf line []
no_part line = record { from = 0; count = 0; is = refl }

first_part : (line bytes : List ℕ) (k : ℕ) → IsEndOf line bytes → IsPartOf line (take k bytes)
first_part line bytes k e = record { from = e.from; count = k; is = ap (take k) e.is }

all_part : (line bytes : List ℕ) → IsEndOf line bytes → IsPartOf line bytes
all_part line bytes e = record {
  from = e.from;
  count = length (drop e.from line);
  is = e.is ∙ sym (take_all (length (drop e.from line)) (drop e.from line) (omega arith));
}

either_part : (line bytes : List ℕ) (b : Bool) → IsEndOf line bytes → IsPartOf line (cond b [] bytes)
either_part line bytes true e = no_part line
either_part line bytes false e = all_part line bytes e

end_part : (closing : Closing) (line held : List ℕ) → IsEndOf line held → IsPartOf line (before_end closing held)
end_part (closings.Element t) line held e = first_part line held (before (sought.TagEnd t) held) e
end_part (closings.Short k) line held e = first_part line held (before (sought.ShortcodeEnd k) held) e
end_part (closings.Backquotes n) line held e = either_part line held (is_end (closings.Backquotes n) held) e
end_part (closings.Tildes n) line held e = either_part line held (is_end (closings.Tildes n) held) e
end_part closings.Colons line held e = either_part line held (is_end closings.Colons held) e

-- a part of the line of a number
record IsOf (at : ℕ) (line : List ℕ) (s : Stretch) : Type 0 where
  number : s.line ≡ at
  part : IsPartOf line s.bytes

nothing_of : (at : ℕ) (line : List ℕ) → IsOf at line (nothing at)
nothing_of at line = record { number = refl; part = no_part line }

part_is : (at : ℕ) (line : List ℕ) (around : Around) (columns skipped : ℕ) (bytes : List ℕ) → IsPartOf line bytes → IsOf at line (part_of at around columns skipped bytes)
part_is at line around columns skipped bytes p = by (around.marked && not (is_left_out around bytes))
  where
    by : (b : Bool) → IsOf at line (cond b (record { line = at; before = columns; skipped = skipped; bytes = bytes }) (nothing at))
    by true = record { number = refl; part = p }
    by false = nothing_of at line

within_of : (at : ℕ) (line : List ℕ) (around : Around) (start : Option BlockKind) (columns skipped : ℕ) (held : List ℕ) → IsEndOf line held → IsOf at line (within at around start columns skipped held).part
unfolding within
within_of at line around start columns skipped held e =
    part_is at line around columns skipped (before_end around.closing held) (end_part around.closing line held e)

whole_end : (line : List ℕ) → IsEndOf line line
whole_end line = record { from = 0; is = refl }

marks_end_of : (line : List ℕ) → IsEndOf line (behind_marks line)
marks_end_of line = fewer line line (marks 0 line) (whole_end line)

all_gone : (xs : List ℕ) → drop (length xs) xs ≡ []
all_gone [] = refl
all_gone (x ∷ xs) = all_gone xs

nothing_left : (line : List ℕ) → IsEndOf line []
nothing_left line = record { from = length line; is = sym (all_gone line) }

-- the text behind the beginning of a block, or nothing
text_of_line : (closing : Closing) (line : List ℕ) → IsEndOf line (text_of closing (behind_marks line))
text_of_line (closings.Element t) line =
    fewer line (behind_marks line) (prefix_len is_inside (behind_marks line) + 1) (marks_end_of line)
text_of_line (closings.Short k) line =
    let rest = behind_marks line in
    let a = fewer line rest 3 (marks_end_of line) in
    let b = fewer line (drop 3 rest) (prefix_len is_blank (drop 3 rest)) a in
    let d = fewer line (behind_blanks (drop 3 rest)) 7 b in
    fewer line (behind_name rest) (before (sought.Ending k) (behind_name rest) + 3) d
text_of_line (closings.Backquotes n) line = nothing_left line
text_of_line (closings.Tildes n) line = nothing_left line
text_of_line closings.Colons line = nothing_left line

begun_of : (at : ℕ) (closing : Closing) (line : List ℕ) → IsOf at line (begun at closing line).part
begun_of at closing line =
    let text = text_of closing (behind_marks line) in
    within_of at line (around_of closing line) (start_of (around_of closing line)) (columns_before line text) (length line - length text) text (text_of_line closing line)

passed_of : (at : ℕ) (line : List ℕ) → IsOf at line (passed at line).part
passed_of at line = by (is_head (drop (quoted_front line) line))
  where
    by : (b : Bool) → IsOf at line (cond b (stray at line) (record { part = nothing at; start = None; after = None })).part
    by true = record {
      number = refl;
      part = all_part line (drop (quoted_front line) line) (fewer line line (quoted_front line) (whole_end line));
    }
    by false = nothing_of at line

outside_of : (at : ℕ) (line : List ℕ) (closing : Option Closing) → IsOf at line (outside_by at line closing).part
outside_of at line None = passed_of at line
outside_of at line (Some closing) = begun_of at closing line

left_of : (at : ℕ) (ends : Ends) (line : List ℕ) (o : Option Around) → IsOf at line (left_by at ends line o).part
unfolding left_by
left_of at ends line None = outside_of at line (closing_of ends (behind_marks line))
left_of at ends line (Some around) = by (nat_le around.quotes (quotes_before line))
  where
    by : (b : Bool) → IsOf at line (cond b (within at around None (quoted around.quotes line) (quoted around.quotes line) (drop (quoted around.quotes line) line)) (outside at ends line)).part
    by true =
        within_of at line around None (quoted around.quotes line) (quoted around.quotes line) (drop (quoted around.quotes line) line) (fewer line line (quoted around.quotes line) (whole_end line))
    by false = outside_of at line (closing_of ends (behind_marks line))

-- the parts of all lines
all_parts : (n : ℕ) (o : Option Around) (lines : List (List ℕ)) (i : ℕ) (line : List ℕ) (s : Stretch) → slice_get lines i ≡ Some line → slice_get (parts_from n o lines) i ≡ Some s → IsOf (n + i) line s
unfolding parts_from
all_parts n o [] i line s a b = cc
all_parts n o (l ∷ ls) zero line s a b =
    let first : l ≡ line = cc in
    let part : (left_by n (ends_in ls) l o).part ≡ s = cc in
    let same : n ≡ n + 0 = omega arith in
    subst (λ k. IsOf k line s) same (subst (λ x. IsOf n x s) first (subst (IsOf n l) part (left_of n (ends_in ls) l o)))
all_parts n o (l ∷ ls) (suc i) line s a b =
    let rest = all_parts (n + 1) (left_by n (ends_in ls) l o).after ls i line s a b in
    let same : n + 1 + i ≡ n + suc i = omega arith in
    subst (λ k. IsOf k line s) same rest

pub text_parts : (text : List ℕ) (i : ℕ) (line : List ℕ) (s : Stretch) → slice_get (lines_of text) i ≡ Some line → slice_get (found_in text).parts i ≡ Some s → (s.line ≡ i + 1) × IsPartOf line s.bytes
text_parts text i line s a b =
    let all = all_parts 1 None (lines_of text) i line s a b in
    let same : 1 + i ≡ i + 1 = omega arith in
    (all.number ∙ same, all.part)
