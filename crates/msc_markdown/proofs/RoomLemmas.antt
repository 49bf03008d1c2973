-- What of a line belongs to a block is no longer than the line, with blanks for what stands before
-- it.
use Rattle.std.proofs.Common.{◌≡◌, ◌≤◌, ℕ, zero, suc, ◌+◌, ◌-◌, Bool, true, false, cond, not, ◌&&◌, ◌==◌, nat_le, List, [], ◌∷◌, length, map, take, drop, replicate, Option, None, Some, refl, ap, ◌∙◌, arith, length-drop, length-take}
use Rattle.std.specs.List.{prefix_len}
use Rattle.std.proofs.lemmas.List.{length-append, length-replicate}
use Rattle.std.proofs.lemmas.List.Sums.{count_by-le-length, prefix_len-le-length}
use Rattle.msc_mermaid.specs.Cutting.{room}
use Rattle.msc_mermaid.specs.Lines.{is_counted}
use Rattle.msc_mermaid.specs.Mermaid.{is_head}
use Rattle.msc_mermaid.specs.Parts.{Stretch, blanked}
use Rattle.msc_markdown.specs.declared.around.Around.{Around}
use Rattle.msc_markdown.specs.declared.around.BlockKind.{BlockKind}
use Rattle.msc_markdown.specs.declared.closing.Closing.{Closing}
use Rattle.msc_markdown.specs.declared.closing.Closing.TheVariants as closings
use Rattle.msc_markdown.specs.declared.closing.Ends.{Ends}
use Rattle.msc_markdown.specs.declared.markdown.Start.{Start}
use Rattle.msc_markdown.specs.declared.seeking.Sought.TheVariants as sought
use Rattle.msc_markdown.specs.Blanks.{behind_blanks, is_blank}
use Rattle.msc_markdown.specs.Arounds.{around_of, begun, behind_marks, columns_before, is_left_out, left_by, nothing, outside, outside_by, part_of, passed, quoted_front, start_of, stray, within}
use Rattle.msc_markdown.specs.Closings.{before_end, behind_name, closing_of, is_end, text_of}
use Rattle.msc_markdown.specs.Markup.{is_inside}
use Rattle.msc_markdown.specs.Seeking.{before}
use Rattle.msc_markdown.specs.Marks.{is_quote, is_quoted, marks, quoted, quotes_before}
use Rattle.msc_markdown.specs.Markdowns.{ends_in, next_line, own_parts, parts_from}
use Rattle.msc_mermaid.proofs.StepLemmas.{drop_short}

-- how long the line of a part is
pub width : Stretch → ℕ
width s = length (blanked s)

pub width_is : (s : Stretch) → width s ≡ s.before + length s.bytes
unfolding width
width_is s = length-append (replicate s.before 32) s.bytes ∙ ap (λ n. n + length s.bytes) (length-replicate s.before 32)

width_same : (s : Stretch) → width s ≡ length (blanked s)
unfolding width
width_same s = refl

take_short : {X : Type 0} (k : ℕ) (xs : List X) → length (take k xs) ≤ length xs
take_short zero [] = omega arith
take_short zero (x ∷ xs) = omega arith
take_short (suc k) [] = omega arith
take_short (suc k) (x ∷ xs) = let r = take_short k xs in omega (arith, r)

nothing_width : (at : ℕ) → width (nothing at) ≡ 0
nothing_width at = width_is (nothing at)

part_width : (at : ℕ) (around : Around) (before skipped : ℕ) (bytes : List ℕ) → width (part_of at around before skipped bytes) ≤ before + length bytes
part_width at around before skipped bytes = by (around.marked && not (is_left_out around bytes))
  where
    by : (b : Bool) → width (cond b (record { line = at; before = before; skipped = skipped; bytes = bytes }) (nothing at)) ≤ before + length bytes
    by true = let w = width_is (record { line = at; before = before; skipped = skipped; bytes = bytes }) in omega (arith, w)
    by false = let w = nothing_width at in omega (arith, w)

end_short : (closing : Closing) (held : List ℕ) → length (before_end closing held) ≤ length held
end_short (closings.Element t) held = take_short (before (sought.TagEnd t) held) held
end_short (closings.Short k) held = take_short (before (sought.ShortcodeEnd k) held) held
end_short (closings.Backquotes n) held = either (is_end (closings.Backquotes n) held)
  where
    either : (b : Bool) → length (cond b [] held) ≤ length held
    either true = omega arith
    either false = omega arith
end_short (closings.Tildes n) held = either (is_end (closings.Tildes n) held)
  where
    either : (b : Bool) → length (cond b [] held) ≤ length held
    either true = omega arith
    either false = omega arith
end_short closings.Colons held = either (is_end closings.Colons held)
  where
    either : (b : Bool) → length (cond b [] held) ≤ length held
    either true = omega arith
    either false = omega arith

within_width : (at : ℕ) (around : Around) (start : Option BlockKind) (before skipped : ℕ) (held : List ℕ) → width (within at around start before skipped held).part ≤ before + length held
unfolding within
within_width at around start before skipped held =
    let p = part_width at around before skipped (before_end around.closing held) in
    let e = end_short around.closing held in
    omega (arith, p, e)

text_short : (closing : Closing) (bytes : List ℕ) → length (text_of closing bytes) ≤ length bytes
text_short (closings.Element t) bytes = drop_short (prefix_len is_inside bytes + 1) bytes
text_short (closings.Short k) bytes =
    let a = drop_short 3 bytes in
    let b = drop_short (prefix_len is_blank (drop 3 bytes)) (drop 3 bytes) in
    let d = drop_short 7 (behind_blanks (drop 3 bytes)) in
    let e = drop_short (before (sought.Ending k) (behind_name bytes) + 3) (behind_name bytes) in
    omega (arith, a, b, d, e)
text_short (closings.Backquotes n) bytes = omega arith
text_short (closings.Tildes n) bytes = omega arith
text_short closings.Colons bytes = omega arith

columns_short : (line text : List ℕ) → length text ≤ length line → columns_before line text + length text ≤ length line
columns_short line text short =
    let c = count_by-le-length is_counted (take (length line - length text) line) in
    let t = length-take (length line - length text) line in
    omega (arith, c, t, short)

begun_width : (at : ℕ) (closing : Closing) (line : List ℕ) → width (begun at closing line).part ≤ length line
begun_width at closing line =
    let text = text_of closing (behind_marks line) in
    let a = text_short closing (behind_marks line) in
    let b = drop_short (marks 0 line) line in
    let short : length text ≤ length line = omega (arith, a, b) in
    let w = within_width at (around_of closing line) (start_of (around_of closing line)) (columns_before line text) (length line - length text) text in
    let k = columns_short line text short in
    omega (arith, w, k)

passed_width : (at : ℕ) (line : List ℕ) → width (passed at line).part ≤ length line
passed_width at line = by (is_head (drop (quoted_front line) line))
  where
    by : (b : Bool) → width (cond b (stray at line) (record { part = nothing at; start = None; after = None })).part ≤ length line
    by true =
        let w = width_is (record { line = at; before = quoted_front line; skipped = quoted_front line; bytes = drop (quoted_front line) line }) in
        let p = prefix_len-le-length is_quoted line in
        let l = length-drop (quoted_front line) line in
        omega (arith, w, p, l)
    by false = let w = nothing_width at in omega (arith, w)

outside_width : (at : ℕ) (line : List ℕ) (closing : Option Closing) → width (outside_by at line closing).part ≤ length line
outside_width at line None = passed_width at line
outside_width at line (Some closing) = begun_width at closing line

quoted_short : (left : ℕ) (bytes : List ℕ) → quoted left bytes ≤ length bytes
unfolding quoted
quoted_short left [] = omega arith
quoted_short left (b ∷ bs) =
    let r = quoted_short (left - cond (is_quote b) 1 0) bs in by (left == 0) r
  where
    by : (t : Bool) → quoted (left - cond (is_quote b) 1 0) bs ≤ length bs → cond t 0 (1 + quoted (left - cond (is_quote b) 1 0) bs) ≤ length (b ∷ bs)
    by true r = omega arith
    by false r = omega (arith, r)

-- what a line leaves
pub left_width : (at : ℕ) (ends : Ends) (line : List ℕ) (o : Option Around) → width (left_by at ends line o).part ≤ length line
unfolding left_by
left_width at ends line None = outside_width at line (closing_of ends (behind_marks line))
left_width at ends line (Some around) = by (nat_le around.quotes (quotes_before line))
  where
    by : (b : Bool) → width (cond b (within at around None (quoted around.quotes line) (quoted around.quotes line) (drop (quoted around.quotes line) line)) (outside at ends line)).part ≤ length line
    by true =
        let w = within_width at around None (quoted around.quotes line) (quoted around.quotes line) (drop (quoted around.quotes line) line) in
        let q = quoted_short around.quotes line in
        let l = length-drop (quoted around.quotes line) line in
        omega (arith, w, q, l)
    by false = outside_width at line (closing_of ends (behind_marks line))

-- what all lines leave
pub parts_room : (n : ℕ) (o : Option Around) (lines : List (List ℕ)) → room (map blanked (parts_from n o lines)) ≤ room lines
unfolding parts_from room
parts_room n o [] = omega arith
parts_room n o (l ∷ ls) =
    let w = left_width n (ends_in ls) l o in
    let r = parts_room (n + 1) (left_by n (ends_in ls) l o).after ls in
    let s : width (left_by n (ends_in ls) l o).part ≡ length (blanked (left_by n (ends_in ls) l o).part) = width_same (left_by n (ends_in ls) l o).part in
    omega (arith, w, r, s)

room_drop : (k : ℕ) (ss : List Stretch) → room (map blanked (drop k ss)) ≤ room (map blanked ss)
unfolding room
room_drop zero ss = omega arith
room_drop (suc k) [] = omega arith
room_drop (suc k) (s ∷ ss) = let r = room_drop k ss in omega (arith, r)

room_take : (k : ℕ) (ss : List Stretch) → room (map blanked (take k ss)) ≤ room (map blanked ss)
unfolding room
room_take zero ss = omega arith
room_take (suc k) [] = omega arith
room_take (suc k) (s ∷ ss) = let r = room_take k ss in omega (arith, r)

-- the parts of a block
pub own_room : (s : Start) (others : List Start) (parts : List Stretch) → room (map blanked (own_parts s others parts)) ≤ room (map blanked parts)
own_room s others parts =
    let t = room_take (next_line others (length parts + 1) - s.line) (drop (s.line - 1) parts) in
    let d = room_drop (s.line - 1) parts in
    omega (arith, t, d)
