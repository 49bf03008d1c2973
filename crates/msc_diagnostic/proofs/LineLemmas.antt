-- A line lies between two ends of lines.
use Rattle.std.proofs.Common.{◌≡◌, ◌<◌, ◌≤◌, ℕ, zero, suc, ◌+◌, ◌-◌, Bool, true, false, cond, ◌||◌, nat_eq, List, ◌∷◌, length, get_or, take, drop, min, Option, Some, None, ⊎_elim, inl, inr, ◌⊎◌, refl, sym, ap, ◌∙◌, arith, length-drop, length-take}
use Rattle.std.proofs.lemmas.Bool.{cases_lt}
use Rattle.std.proofs.lemmas.Bool.Decides.{nat_tests}
use Rattle.std.proofs.lemmas.List.{get_or-take, get_or-drop, get_or_default, get_or_past}
use Rattle.std.proofs.lemmas.Option.{slice_get-get_or, slice_get_within}
use Rattle.std.specs.List.{filter, range_with_len, slice_get}
use Rattle.msc_diagnostic.specs.declared.source.LineEnds.{LineEnds}
use Rattle.msc_diagnostic.specs.declared.source.LineEnds.TheVariants.{Any, LineFeed}
use Rattle.msc_diagnostic.specs.Lines.{begins_line, ends_line, line_bytes, line_starts, line_up_to, start_of, without, without_end}
use Rattle.msc_diagnostic.specs.Laws.{IsNoEnd}

-- between two numbers that pass a test, and are listed one after the other, none passes it
record Gaps (test : ℕ → Bool) (from end : ℕ) (xs : List ℕ) : Type 0 where
  head : (k : ℕ) → from ≤ k → k < get_or xs 0 end → test k ≡ false
  gap : (i k : ℕ) → i < length xs → get_or xs i end < k → k < get_or xs (suc i) end → test k ≡ false

-- with one number more at the front, if it passes
one_more : (test : ℕ → Bool) (from end : ℕ) (xs : List ℕ) (b : Bool) → test from ≡ b → Gaps test (from + 1) end xs → Gaps test from end (cond b (from ∷ xs) xs)
one_more test from end xs true is rest = record {
  head = λ k low high. absurd (omega arith);
  gap = gap';
}
  where
    gap' : (i k : ℕ) → i < length (from ∷ xs) → get_or (from ∷ xs) i end < k → k < get_or (from ∷ xs) (suc i) end → test k ≡ false
    gap' zero k inside low high = rest.head k (omega arith) high
    gap' (suc i) k inside low high = rest.gap i k (omega arith) low high
one_more test from end xs false is rest = record {
  head = λ k low high. ⊎_elim (λ more. rest.head k more high) (λ same. let equal : k ≡ from = omega arith in ap test equal ∙ is) (cases_le k);
  gap = rest.gap;
}
  where
    cases_le : (k : ℕ) → (from + 1 ≤ k) ⊎ (k < from + 1)
    cases_le k = ⊎_elim (λ less. inr less) (λ more. inl more) (cases_lt k (from + 1))

all_gaps : (test : ℕ → Bool) (n from end : ℕ) → end ≡ from + n → Gaps test from end (filter test (range_with_len from n))
all_gaps test zero from end is = record {
  head = λ k low high. absurd (omega arith);
  gap = λ i k inside low high. absurd (omega arith);
}
all_gaps test (suc n) from end is =
    one_more test from end (filter test (range_with_len (from + 1) n)) (test from) refl (all_gaps test n (from + 1) end (omega arith))

-- bytes without this one at their end: without the last, if it is this
record Without (b : ℕ) (xs ys : List ℕ) : Type 0 where
  short : length ys ≤ length xs
  same : (j : ℕ) → j < length ys → get_or ys j 0 ≡ get_or xs j 0
  last : (j : ℕ) → j + 1 ≡ length xs → j < length ys → ¬ (get_or xs j 0 ≡ b)
  cut : (j : ℕ) → j + 1 ≡ length xs → get_or xs j 0 ≡ b → length ys ≡ j

cut_or_not : (b : ℕ) (xs : List ℕ) (is : Bool) → nat_eq (get_or xs (length xs - 1) 0) b ≡ is → Without b xs (cond is (take (length xs - 1) xs) xs)
cut_or_not b xs true is =
    let size : length (take (length xs - 1) xs) ≡ min (length xs - 1) (length xs) = length-take (length xs - 1) xs in
    record {
      short = omega arith;
      same = λ j inside. get_or-take (length xs - 1) xs j 0 (omega arith);
      last = λ j end inside. absurd (omega arith);
      cut = λ j end this. omega arith;
    }
cut_or_not b xs false is =
    let other : ¬ (get_or xs (length xs - 1) 0 ≡ b) = grind (arith, nat_tests) in
    let at : (j : ℕ) → j + 1 ≡ length xs → get_or xs j 0 ≡ get_or xs (length xs - 1) 0 = λ j end. let same : j ≡ length xs - 1 = omega arith in ap (λ k. get_or xs k 0) same in
    record {
      short = omega arith;
      same = λ j inside. refl;
      last = λ j end inside this. other (sym (at j end) ∙ this);
      cut = λ j end this. absurd (other (sym (at j end) ∙ this));
    }

is_without : (b : ℕ) (xs : List ℕ) → Without b xs (without b xs)
is_without b xs = cut_or_not b xs (nat_eq (get_or xs (length xs - 1) 0) b) refl

-- a line without its end, of the bytes up to the next line
record WithoutEnd (part ys : List ℕ) : Type 0 where
  short : length ys ≤ length part
  same : (j : ℕ) → j < length ys → get_or ys j 0 ≡ get_or part j 0
  feed : (j : ℕ) → j + 1 ≡ length part → j < length ys → ¬ (get_or part j 0 ≡ 10)
  return : (j : ℕ) → j + 1 ≡ length part → j < length ys → ¬ (get_or part j 0 ≡ 13)
  pair : (j : ℕ) → j + 2 ≡ length part → get_or part j 0 ≡ 13 → get_or part (j + 1) 0 ≡ 10 → ¬ (j < length ys)

is_without_end : (part : List ℕ) → WithoutEnd part (without_end part)
is_without_end part =
    let mid = without 10 part in
    let one = is_without 10 part in let two = is_without 13 mid in
    let one_short = one.short in let two_short = two.short in
    record {
      short = omega (arith, one_short, two_short);
      same = λ j inside. two.same j inside ∙ one.same j (omega (arith, two_short));
      feed = λ j end inside. one.last j end (omega (arith, two_short));
      return = λ j end inside this.
          two.last j (omega (arith, one_short, two_short)) inside (one.same j (omega (arith, two_short)) ∙ this);
      pair = λ j end this next inside.
          let size = one.cut (j + 1) (omega arith) next in
          let left = two.cut j (omega (arith, size)) (one.same j (omega (arith, size)) ∙ this) in
          omega (arith, left);
    }

-- what a byte that ends no line is
feed_no : (b next : ℕ) → ends_line LineFeed b next ≡ false → ¬ (b ≡ 10)
feed_no b next is = grind (arith, nat_tests)

any_no : (b next : ℕ) → ends_line Any b next ≡ false → ¬ (b ≡ 10)
any_no b next is = grind (arith, nat_tests)

return_no : (b next : ℕ) → ends_line Any b next ≡ false → b ≡ 13 → next ≡ 10
return_no b next is this = grind (arith, nat_tests)

feed_none : (ends : LineEnds) (b next : ℕ) → ends_line ends b next ≡ false → ¬ (b ≡ 10)
feed_none LineFeed b next is = feed_no b next is
feed_none Any b next is = any_no b next is

pair_follows : (ends : LineEnds) (b next : ℕ) → ends ≡ Any → ends_line ends b next ≡ false → b ≡ 13 → next ≡ 10
pair_follows LineFeed b next any is this = absurd cc
pair_follows Any b next any is this = return_no b next is this

no_end : (ends : LineEnds) (b : ℕ) → ¬ (b ≡ 10) → (ends ≡ Any → ¬ (b ≡ 13)) → IsNoEnd ends b
no_end LineFeed b feed return = feed
no_end Any b feed return = (feed, return refl)

second_no : (a b : Bool) → (a || b) ≡ false → b ≡ false
second_no true b is = absurd cc
second_no false b is = is

-- The bytes of a line that begins at `start`, if no line begins after it and before `limit`.
module _ (ends : LineEnds) (text : List ℕ) (start limit : ℕ) (none : (k : ℕ) → start < k → k < limit → begins_line ends text k ≡ false) where
  abbrev byte_at : ℕ → ℕ
  byte_at j = get_or text (start + j) 0

  ends_none : (j : ℕ) → start + j + 1 < limit → ends_line ends (byte_at j) (byte_at (j + 1)) ≡ false
  ends_none j inside =
      let here = second_no (nat_eq (start + j + 1) 0) _ (none (start + j + 1) (omega arith) inside) in
      let before : start + j + 1 - 1 ≡ start + j = omega arith in
      let next : start + j + 1 ≡ start + (j + 1) = omega arith in
      sym (ap (λ n. ends_line ends (get_or text n 0) (byte_at (j + 1))) before) ∙ sym (ap (λ n. ends_line ends (get_or text (start + j + 1 - 1) 0) (get_or text n 0)) next) ∙ here

  -- the last line
  in_last : (j : ℕ) → limit ≡ length text + 1 → j < length (drop start text) → IsNoEnd ends (get_or (drop start text) j 0)
  in_last j is inside =
      let size = length-drop start text in
      let here : get_or (drop start text) j 0 ≡ byte_at j = get_or-drop start text j 0 in
      let within : start + j + 1 < limit = omega (arith, size) in
      let none_here = ends_none j within in
      no_end ends (get_or (drop start text) j 0) (λ this. feed_none ends (byte_at j) (byte_at (j + 1)) none_here (sym here ∙ this))
      (λ any this.
      let next : byte_at (j + 1) ≡ 10 = pair_follows ends (byte_at j) (byte_at (j + 1)) any none_here (sym here ∙ this) in
      ⊎_elim
      (λ more. feed_none ends (byte_at (j + 1)) (byte_at (j + 1 + 1)) (ends_none (j + 1) (omega (arith, size))) next)
      (λ past. let zero_there : byte_at (j + 1) ≡ 0 = get_or_past text (start + (j + 1)) 0 (omega arith) in absurd (omega (arith, zero_there, next)))
      (cases_lt (start + (j + 1)) (length text)))

  -- a line before another one, which begins at `limit`
  in_part : (j : ℕ) → j < length (without_end (take (limit - start) (drop start text))) → IsNoEnd ends (get_or (without_end (take (limit - start) (drop start text))) j 0)
  in_part j inside =
      let part = take (limit - start) (drop start text) in
      let end = is_without_end part in
      let short = end.short in
      let size : length part ≡ min (limit - start) (length (drop start text)) = length-take (limit - start) (drop start text) in
      let at : (i : ℕ) → i < length part → get_or part i 0 ≡ byte_at i = λ i less. get_or-take (limit - start) (drop start text) i 0 (omega (arith, size)) ∙ get_or-drop start text i 0 in
      let here = end.same j inside in
      no_end ends (get_or (without_end part) j 0)
      (λ this. ⊎_elim
      (λ more. feed_none ends (byte_at j) (byte_at (j + 1)) (ends_none j (omega (arith, size))) (sym (at j (omega (arith, short))) ∙ sym here ∙ this))
      (λ last. end.feed j (omega (arith, short)) inside (sym here ∙ this))
      (cases_lt (j + 1) (length part)))
      (λ any this. ⊎_elim
      (λ more.
      let next : byte_at (j + 1) ≡ 10 = pair_follows ends (byte_at j) (byte_at (j + 1)) any (ends_none j (omega (arith, size))) (sym (at j (omega (arith, short))) ∙ sym here ∙ this) in
      ⊎_elim
      (λ further. feed_none ends (byte_at (j + 1)) (byte_at (j + 1 + 1)) (ends_none (j + 1) (omega (arith, size))) next)
      (λ last. end.pair j (omega (arith, more)) (sym here ∙ this) (at (j + 1) more ∙ next) inside)
      (cases_lt (j + 2) (length part)))
      (λ last. end.return j (omega (arith, short)) inside (sym here ∙ this))
      (cases_lt (j + 1) (length part)))

pub no_ends : (ends : LineEnds) (text : List ℕ) (line i : ℕ) → 0 < line → line ≤ length (line_starts ends text) → i < length (line_bytes (line_starts ends text) text line) → IsNoEnd ends (get_or (line_bytes (line_starts ends text) text line) i 0)
unfolding line_bytes
no_ends ends text line i some within inside = choose ends text line i some within (slice_get (line_starts ends text) line) refl inside
  where
    choose : (ends : LineEnds) (text : List ℕ) (line i : ℕ) → 0 < line → line ≤ length (line_starts ends text)
        → (next : Option ℕ) → slice_get (line_starts ends text) line ≡ next
        → i < length (line_up_to text (start_of (line_starts ends text) line) next)
        → IsNoEnd ends (get_or (line_up_to text (start_of (line_starts ends text) line) next) i 0)
    choose ends text line i some within None is inside =
        let starts = line_starts ends text in let end = length text + 1 in
        let gaps = all_gaps (begins_line ends text) end 0 end (omega arith) in
        let start : get_or starts (line - 1) 0 ≡ get_or starts (line - 1) end = get_or_default starts (line - 1) 0 end (omega arith) in
        let past : length starts ≤ line = ⊎_elim (λ less. let found = slice_get-get_or starts line end less in absurd cc) (λ over. over) (cases_lt line (length starts)) in
        let follows : suc (line - 1) ≡ line = omega arith in
        let next : get_or starts (suc (line - 1)) end ≡ end = ap (λ n. get_or starts n end) follows ∙ get_or_past starts line end past in
        in_last ends text (get_or starts (line - 1) 0) end
        (λ k low high. gaps.gap (line - 1) k (omega arith) (omega (arith, start)) (omega (arith, next))) i refl inside
    choose ends text line i some within (Some t) is inside =
        let starts = line_starts ends text in let end = length text + 1 in
        let gaps = all_gaps (begins_line ends text) end 0 end (omega arith) in
        let start : get_or starts (line - 1) 0 ≡ get_or starts (line - 1) end = get_or_default starts (line - 1) 0 end (omega arith) in
        let less = slice_get_within starts line t is in
        let found = slice_get-get_or starts line end less in
        let here : get_or starts line end ≡ t = cc in
        let follows : suc (line - 1) ≡ line = omega arith in
        let next : get_or starts (suc (line - 1)) end ≡ t = ap (λ n. get_or starts n end) follows ∙ here in
        in_part ends text (get_or starts (line - 1) 0) t
        (λ k low high. gaps.gap (line - 1) k (omega arith) (omega (arith, start)) (omega (arith, next))) i inside
