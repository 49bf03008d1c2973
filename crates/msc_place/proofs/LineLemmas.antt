-- Where a line begins, where it ends, and what stands on it.
use Rattle.std.proofs.Common.{◌≡◌, ◌⊎◌, ℕ, ◌+◌, ◌-◌, ◌<◌, ◌≤◌, true, false, cond, suc, inl, inr, List, [], ◌∷◌, ◌++◌, length, take, drop, get_or, min, replicate, refl, sym, ap, ◌∙◌, arith}
use Rattle.std.specs.List.{count_by, position_or_len, before_first}
use Rattle.std.proofs.lemmas.Bool.{false_from_ne_true}
use Rattle.std.proofs.lemmas.List.{take-append-drop, take_more, get_or-drop, length-drop, drop-drop, drop-take}
use Rattle.std.proofs.lemmas.List.Sums.{sum_by-cons, position_or_len_is, length-filter}
use Rattle.std.proofs.Math.Seq.{take-add}
use Rattle.std.proofs.lemmas.List.{append_assoc, length-map}
use Rattle.memchr.specs.Find.{Nowhere, Passes, is_byte}
use Rattle.msc_place.specs.Positions.{is_line_end, begins_character, EndsWith, BeginsLine}
use Rattle.msc_place.specs.Excerpts.{without_return, line_of, row_of, lines_of}

-- bytes of which none ends a line have no line end
none_counted : (bytes : List ℕ)
    → ((k : ℕ) → k < length bytes → is_line_end (get_or bytes k 0) ≡ true → ⊥)
    → count_by is_line_end bytes ≡ 0
none_counted [] none = refl
none_counted (b ∷ bs) none =
    let first : is_line_end b ≡ false = false_from_ne_true (is_line_end b) (none 0 (omega arith)) in
    let others = none_counted bs (λ k h. none (suc k) (omega arith)) in
    let more = sum_by-cons (λ x. cond (is_line_end x) 1 0) b bs in
    more ∙ rw (first, others) refl

-- a line begins behind a line end behind which there is none
begins_behind : (bytes : List ℕ) (at : ℕ) → at ≤ length bytes
    → ((take at bytes ≡ []) ⊎ EndsWith 10 (take at bytes))
    → Nowhere (Passes (is_byte 10) bytes) at (length bytes) → BeginsLine bytes at
begins_behind bytes at within lines none = record {
  within = within;
  cut = record {
    whole = sym (take-append-drop at bytes);
    lines = lines;
    one_line =
        none_counted (drop at bytes)
        (λ k h e. none (at + k) (omega arith) (omega (arith, h, length-drop at bytes)) (ap is_line_end (sym (get_or-drop at bytes k 0)) ∙ e));
  };
}

-- the last line begins behind the last line end
pub begins_last : (bytes : List ℕ) (end : ℕ) → end < length bytes → get_or bytes end 0 ≡ 10
    → Nowhere (Passes (is_byte 10) bytes) (end + 1) (length bytes) → BeginsLine bytes (end + 1)
begins_last bytes end inside is none =
    let e = take_more bytes end 0 inside in
    begins_behind bytes (end + 1) (omega arith) (inr (take end bytes, e ∙ rw is refl)) none

-- the only line begins at 0
pub begins_first : (bytes : List ℕ) → Nowhere (Passes (is_byte 10) bytes) 0 (length bytes)
    → BeginsLine bytes 0
begins_first bytes none = begins_behind bytes 0 (omega arith) (inl refl) none

-- what stands on the line from s on, up to n bytes behind a place
pub line_joined : (text : List ℕ) (s at n : ℕ) → s ≤ at
    → take (at + n - s) (drop s text) ≡ drop s (take at text) ++ take n (drop at text)
line_joined text s at n le =
    let m : ℕ = at - s in
    let one : at + n - s ≡ m + n = omega arith in
    let two : s + m ≡ at = omega arith in
    let cut : drop s (take at text) ≡ take m (drop s text) = ap (λ k. drop s (take k text)) (sym two) ∙ drop-take s m text in
    let rest : drop m (drop s text) ≡ drop at text = drop-drop m s text ∙ ap (λ k. drop k text) two in
    rw one (take-add m n (drop s text) ∙ rw (cut, rest) refl)

-- the first line end behind a place is the first in what follows the place
pub line_ends_at : (rest : List ℕ) (n : ℕ) → n < length rest
    → Nowhere (Passes (is_byte 10) rest) 0 n → Passes (is_byte 10) rest n
    → n ≡ position_or_len is_line_end rest
line_ends_at rest n inside none is =
    sym (position_or_len_is is_line_end rest n 0 (omega arith)
    (λ k h. false_from_ne_true (is_line_end (get_or rest k 0)) (none k (omega arith) h)) (λ h. is))

-- where there is none, the line ends with the text
pub line_ends_last : (rest : List ℕ) → Nowhere (Passes (is_byte 10) rest) 0 (length rest)
    → length rest ≡ position_or_len is_line_end rest
line_ends_last rest none =
    sym (position_or_len_is is_line_end rest (length rest) 0 (omega arith)
    (λ k h. false_from_ne_true (is_line_end (get_or rest k 0)) (none k (omega arith) h)) (λ h. absurd (omega arith)))

-- the lines of a place, by where its line begins and ends
pub excerpt_same : (text : List ℕ) (s at end : ℕ) (line : List ℕ) (before : ℕ) → s ≤ at
    → end ≡ at + position_or_len is_line_end (drop at text)
    → line ≡ without_return (take (end - s) (drop s text))
    → before ≡ count_by begins_character (take (at - s) (drop s text))
    → lines_of (row_of line) before
    ≡ lines_of (row_of (line_of (drop s (take at text)) (drop at text))) (count_by begins_character (drop s (take at text)))
excerpt_same text s at end line before le end_is line_is before_is =
    let start = drop s (take at text) in
    let two : s + (at - s) ≡ at = omega arith in
    let cut : take (at - s) (drop s text) ≡ start = sym (ap (λ k. drop s (take k text)) (sym two) ∙ drop-take s (at - s) text) in
    let whole : take (end - s) (drop s text) ≡ start ++ before_first is_line_end (drop at text) =
    ap (λ k. take (k - s) (drop s text)) end_is ∙ line_joined text s at (position_or_len is_line_end (drop at text)) le in
    let line_same : line ≡ line_of start (drop at text) = line_is ∙ ap without_return whole in
    let before_same : before ≡ count_by begins_character start = before_is ∙ ap (count_by begins_character) cut in
    ap (λ l. lines_of (row_of l) before) line_same ∙ ap (λ b. lines_of (row_of (line_of start (drop at text))) b) before_same

-- a line has as many columns as bytes that begin a character
pub row_long : (line : List ℕ) → length (row_of line) ≡ count_by begins_character line
row_long line = simp (length-map, length-filter)

-- pieces that are put one behind the other
pub put_together : (line a b c d e row blanks : List ℕ) (before columns caret : ℕ)
    → a ≡ 32 ∷ 32 ∷ [] → b ≡ a ++ row
    → c ≡ b ++ (10 ∷ 32 ∷ 32 ∷ []) → d ≡ c ++ blanks → e ≡ d ++ (94 ∷ 10 ∷ [])
    → row ≡ take 100 (drop (before - 49) (row_of line)) → columns ≡ count_by begins_character line
    → caret ≡ min before columns - (before - 49) → blanks ≡ replicate caret 32
    → e ≡ lines_of (row_of line) before
put_together line a b c d e row blanks before columns caret ha hb hc hd he hr hn hk hs =
    let long : columns ≡ length (row_of line) = hn ∙ sym (row_long line) in
    let blanks_are : blanks ≡ replicate (min before (length (row_of line)) - (before - 49)) 32 =
    hs ∙ ap (λ n. replicate n 32) (hk ∙ ap (λ n. min before n - (before - 49)) long) in
    let parts : e ≡ 32 ∷ 32 ∷ row ++ (10 ∷ 32 ∷ 32 ∷ blanks ++ (94 ∷ 10 ∷ [])) =
    he ∙ rw (hd, hc, hb, ha) (simp append_assoc) in
    parts ∙ rw (hr, blanks_are) refl
