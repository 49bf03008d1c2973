-- Positions behind more bytes.
use Rattle.std.proofs.Common.{◌≡◌, ◌≢◌, ◌⊎◌, ℕ, ◌+◌, ◌-◌, ◌≤◌, Bool, inl, inr, List, [], ◌∷◌, ◌++◌, length, take, drop, refl, sym, ap, subst, ◌∙◌, arith, append_assoc, length-append}
use Rattle.std.specs.List.{count_by}
use Rattle.std.proofs.lemmas.List.{take-append-drop, length-take, length-take-le}
use Rattle.std.proofs.lemmas.List.Sums.{sum_by-append, count_by-le-length}
use Rattle.std.proofs.Math.Seq.{take-add}
use Rattle.msc_place.specs.Positions.{is_line_end, begins_character, EndsWith, IsCut, BeginsLine, EndsAt, IsPosition}

-- what is counted in two parts
counted : (p : ℕ → Bool) (xs ys : List ℕ) → count_by p (xs ++ ys) ≡ count_by p xs + count_by p ys
counted p xs ys = sum_by-append _ xs ys

-- the line ends of a cut are those of the lines above
cut_ends : {before above start : List ℕ} → IsCut before above start
    → count_by is_line_end before ≡ count_by is_line_end above
cut_ends {before} {above} {start} h =
    let e = ap (count_by is_line_end) h.whole in
    let n : count_by is_line_end start ≡ 0 = h.one_line in
    omega (arith, e, n, counted is_line_end above start)

-- the line is told by the line ends before it
pub line_told : {before : List ℕ} {line column : ℕ} → EndsAt before line column
    → line ≡ count_by is_line_end before + 1
line_told {before} h = h.line_is ∙ ap (λ n. n + 1) (sym (cut_ends h.cut))

-- a position is no farther than the bytes before it, and from 1
pub record IsNear (n line column : ℕ) : Type 0 where
  pub above : line ≤ n + 1
  pub ahead : column ≤ n + 1
  pub some : 1 ≤ column

pub ends_near : {before : List ℕ} {line column : ℕ} → EndsAt before line column
    → IsNear (length before) line column
ends_near {before} {line} {column} h =
    let n : length before ≡ length h.above + length h.start = ap length h.cut.whole ∙ length-append h.above h.start in
    let a = count_by-le-length is_line_end h.above in
    let b = count_by-le-length begins_character h.start in
    record {
      above = omega (arith, n, a, h.line_is);
      ahead = omega (arith, n, b, h.column_is);
      some = omega (arith, h.column_is);
    }

-- behind bytes that end no line the line is the same
pub moved_same : {before : List ℕ} {line column : ℕ} (bytes : List ℕ) → EndsAt before line column
    → count_by is_line_end bytes ≡ 0
    → EndsAt (before ++ bytes) line (column + count_by begins_character bytes)
moved_same {before} {line} {column} bytes h none = record {
  above = h.above;
  start = h.start ++ bytes;
  cut = record {
    whole = ap (λ b. b ++ bytes) h.cut.whole ∙ append_assoc h.above h.start bytes;
    lines = h.cut.lines;
    one_line = counted is_line_end h.start bytes ∙ omega (arith, h.cut.one_line, none);
  };
  line_is = h.line_is;
  column_is = omega (arith, h.column_is, counted begins_character h.start bytes);
}

-- behind a line end there is a new line
pub moved_on : {before : List ℕ} {line column : ℕ} (above start : List ℕ) → EndsAt before line column
    → EndsWith 10 above → count_by is_line_end start ≡ 0
    → EndsAt (before ++ (above ++ start)) (line + count_by is_line_end above) (1 + count_by begins_character start)
moved_on {before} {line} {column} above start h ends one = record {
  above = before ++ above;
  start = start;
  cut = record {
    whole = sym (append_assoc before above start);
    lines = inr (before ++ ends.0, ap (λ b. before ++ b) ends.1 ∙ sym (append_assoc before ends.0 (10 ∷ [])));
    one_line = one;
  };
  line_is = omega (arith, line_told h, counted is_line_end before above);
  column_is = omega arith;
}

-- the same by the beginning of the last line of the bytes
pub moved_first : {before : List ℕ} {line column : ℕ} (bytes : List ℕ) → EndsAt before line column
    → BeginsLine bytes 0
    → EndsAt (before ++ bytes) line (column + count_by begins_character bytes)
moved_first bytes h b = moved_same bytes h b.cut.one_line

pub moved_later : {before : List ℕ} {line column : ℕ} (bytes : List ℕ) (s : ℕ)
    → EndsAt before line column → BeginsLine bytes s → s ≢ 0
    → EndsAt (before ++ bytes) (line + count_by is_line_end (take s bytes)) (1 + count_by begins_character (drop s bytes))
moved_later {before} {line} {column} bytes s h b some =
    let some_lines : (take s bytes ≡ []) ⊎ EndsWith 10 (take s bytes) → EndsWith 10 (take s bytes) =
    λ c. elim c [ inl none ↦ absurd (some (sym (length-take-le s bytes b.within) ∙ ap length none)) | inr ends ↦ ends ] in
    let whole = take-append-drop s bytes in
    subst (λ bs. EndsAt (before ++ bs) (line + count_by is_line_end (take s bytes)) (1 + count_by begins_character (drop s bytes))) whole
    (moved_on (take s bytes) (drop s bytes) h (some_lines b.cut.lines) b.cut.one_line)

-- the same of the parts of the bytes, where the columns before them count only on their first line
pub moved_by : (before bytes : List ℕ) (s line column line' column' from : ℕ)
    → EndsAt before line column → BeginsLine bytes s
    → ((s ≡ 0) × (from ≡ column)) ⊎ ((s ≢ 0) × (from ≡ 1))
    → line' ≡ line + count_by is_line_end (take s bytes)
    → column' ≡ from + count_by begins_character (drop s bytes)
    → EndsAt (before ++ bytes) line' column'
moved_by before bytes s line column line' column' from h b (inl (none, same)) l c =
    let first = moved_first bytes h (subst (BeginsLine bytes) none b) in
    let l_is : line' ≡ line = l ∙ rw none (omega arith) in
    let c_is : column' ≡ column + count_by begins_character bytes = c ∙ rw (none, same) refl in
    subst (λ k. EndsAt (before ++ bytes) k column') (sym l_is)
    (subst (λ k. EndsAt (before ++ bytes) line k) (sym c_is) first)
moved_by before bytes s line column line' column' from h b (inr (some, one)) l c =
    let later = moved_later bytes s h b some in
    let c_is : column' ≡ 1 + count_by begins_character (drop s bytes) = c ∙ rw one refl in
    subst (λ k. EndsAt (before ++ bytes) k column') (sym l)
    (subst (λ k. EndsAt (before ++ bytes) (line + count_by is_line_end (take s bytes)) k) (sym c_is) later)

-- nothing stands before the first position
pub ends_first : EndsAt [] 1 1
ends_first = record {
  above = [];
  start = [];
  cut = record { whole = refl; lines = inl refl; one_line = refl };
  line_is = refl;
  column_is = refl;
}

-- the position of a place, by the place before it
pub position_behind : (text : List ℕ) (m n line column : ℕ)
    → EndsAt (take m text ++ take n (drop m text)) line column → IsPosition text (m + n) line column
position_behind text m n line column h = subst (λ b. EndsAt b line column) (sym (take-add m n text)) h

-- a position is no farther than its place
pub place_near : (text : List ℕ) (at line column : ℕ) → IsPosition text at line column
    → at ≤ length text → IsNear at line column
place_near text at line column h le =
    let near = ends_near h in let long = length-take-le at text le in
    record { above = omega (arith, near.above, long); ahead = omega (arith, near.ahead, long); some = near.some }

-- more bytes behind a place of the text fit where the text does
pub room_behind : (text : List ℕ) (m at line column : ℕ) → IsPosition text m line column → m ≤ at
    → at ≤ length text → length text + 1 ≤ 18446744073709551615
    → (line + length (take (at - m) (drop m text)) ≤ 18446744073709551615) × (column + length (take (at - m) (drop m text)) ≤ 18446744073709551615) × (1 ≤ column)
room_behind text m at line column h le inside fits =
    let near = place_near text m line column h (omega arith) in
    let long : length (take (at - m) (drop m text)) ≤ at - m = omega (arith, length-take {A = ℕ}) in
    (omega (arith, near.above, long), omega (arith, near.ahead, long), near.some)

-- the position of a place by that of one before it
pub position_moved : (text : List ℕ) (m at line column : ℕ) → m ≤ at
    → EndsAt (take m text ++ take (at - m) (drop m text)) line column
    → IsPosition text at line column
position_moved text m at line column le h =
    let sum : m + (at - m) ≡ at = omega arith in
    subst (λ k. IsPosition text k line column) sum (position_behind text m (at - m) line column h)
