-- How many characters fit into so many columns.
use Rattle.std.proofs.Common.{◌≡◌, ◌<◌, ◌≤◌, ℕ, zero, suc, ◌+◌, ◌-◌, true, false, cond, nat_le, ◌*◌, Bool, nat_lt, List, [], ◌∷◌, ◌++◌, length, length-append, get_or, take, drop, ⊎_elim, refl, sym, ap, ◌∙◌, arith}
use Rattle.std.proofs.lemmas.Bool.{cases_lt, cond-true, cond-false}
use Rattle.std.proofs.lemmas.Bool.Decides.{nat_tests}
use Rattle.std.proofs.lemmas.List.{drop_more, drop_all}
use Rattle.std.proofs.lemmas.List.Sums.{sum_by-append, sum_by-cons, sum_by-take-le}
use Rattle.std.proofs.lemmas.Str.{chars_from_encodes, len_utf8_bounds, length-encode}
use Rattle.std.specs.Prelude.{chars, codes, unwrap_or, if◌then◌else◌, Some, None, encode_utf8, encode_utf8_all, IsUtf8}
use Rattle.std.specs.Char.{len_utf8}
use Rattle.unicode_width.specs.Width.{char_width}
use Rattle.unicode_width.proofs.Rules.{width_or_zero-le}
use Rattle.msc_spoken.specs.Speaking.{before_blanks, is_blank}
use Rattle.msc_spoken.specs.Cutting.{columns_of, cut_text, fitting, width_of}
use Rattle.msc_spoken.specs.Laws.{CutsToFit}
use Rattle.std.specs.List.{suffix_len}

none_fits : (room : ℕ) → fitting room [] ≡ 0
unfolding fitting
none_fits room = refl

first_fits : (room c : ℕ) (cs : List ℕ) → fitting room (c ∷ cs) ≡ cond (nat_le (width_of c) room) (1 + fitting (room - width_of c) cs) 0
unfolding fitting
first_fits room c cs = refl

fits : (room c : ℕ) (cs : List ℕ) → width_of c ≤ room → fitting room (c ∷ cs) ≡ 1 + fitting (room - width_of c) cs
fits room c cs has =
    let test : nat_le (width_of c) room ≡ true = grind (arith, nat_tests) in
    first_fits room c cs ∙ cond-true _ _ _ test

fits_not : (room c : ℕ) (cs : List ℕ) → room < width_of c → fitting room (c ∷ cs) ≡ 0
fits_not room c cs lacks =
    let test : nat_le (width_of c) room ≡ false = grind (arith, nat_tests) in
    first_fits room c cs ∙ cond-false _ _ _ test

module _ (room : ℕ) (cs : List ℕ) (i : ℕ) where
  -- one character more fits
  pub one_fits : (c w : ℕ) → i < length cs → c ≡ get_or cs i c → w ≡ width_of c → w ≤ room → fitting room (drop i cs) ≡ 1 + fitting (room - w) (drop (i + 1) cs)
  one_fits c w inside here is has =
      let next = drop_more cs i c inside ∙ ap (λ x. x ∷ drop (i + 1) cs) (sym here) in
      ap (fitting room) next ∙ fits room c (drop (i + 1) cs) (rw (← is) has) ∙ ap (λ x. 1 + fitting (room - x) (drop (i + 1) cs)) (sym is)

  -- the next character does not fit
  pub no_more_fits : (c w : ℕ) → i < length cs → c ≡ get_or cs i c → w ≡ width_of c → room < w → fitting room (drop i cs) ≡ 0
  no_more_fits c w inside here is lacks =
      let next = drop_more cs i c inside ∙ ap (λ x. x ∷ drop (i + 1) cs) (sym here) in
      ap (fitting room) next ∙ fits_not room c (drop (i + 1) cs) (rw (← is) lacks)

  -- no character is left
  pub end_fits : length cs ≤ i → fitting room (drop i cs) ≡ 0
  end_fits over = ap (fitting room) (drop_all i cs over) ∙ none_fits room

-- all characters fit if their columns do, and only then
pub all_fit : (room : ℕ) (cs : List ℕ) → columns_of cs ≤ room → fitting room cs ≡ length cs
all_fit room [] few = none_fits room
all_fit room (c ∷ cs) few =
    let sum = sum_by-cons width_of c cs in
    let first = fits room c cs (omega (arith, sum, few)) in
    let rest = all_fit (room - width_of c) cs (omega (arith, sum, few)) in
    omega (arith, first, rest)

pub only_if_all_fit : (room : ℕ) (cs : List ℕ) → fitting room cs ≡ length cs → columns_of cs ≤ room
only_if_all_fit room [] all = omega arith
only_if_all_fit room (c ∷ cs) all =
    let sum = sum_by-cons width_of c cs in
    ⊎_elim
    (λ lacks. let none = fits_not room c cs lacks in absurd (omega (arith, none, all)))
    (λ has.
    let first = fits room c cs has in
    let rest = only_if_all_fit (room - width_of c) cs (omega (arith, first, all)) in
    omega (arith, sum, rest, has))
    (cases_lt room (width_of c))

-- what is left of a text, by how many of its characters fit
pub cut_none : (cs : List ℕ) → fitting 40 cs ≡ length cs → cut_text cs ≡ cs
unfolding cut_text
cut_none cs all =
    let few = only_if_all_fit 40 cs all in
    let test : nat_le (columns_of cs) 40 ≡ true = grind (arith, nat_tests) in
    cond-true _ _ _ test

pub cut_some : (cs : List ℕ) → ¬ (fitting 40 cs ≡ length cs) → cut_text cs ≡ before_blanks (take (fitting 40 cs) cs) ++ codes "..."
unfolding cut_text
cut_some cs some =
    let many : 40 < columns_of cs = ⊎_elim (λ more. more) (λ few. absurd (some (all_fit 40 cs few))) (cases_lt 40 (columns_of cs)) in
    let test : nat_le (columns_of cs) 40 ≡ false = grind (arith, nat_tests) in
    cond-false _ _ _ test

-- the columns of a text are at most twice its bytes: only a character of two bytes or more takes more than one
at_most_one : (low printed high : Bool) (w : ℕ) → high ≡ false → unwrap_or (if low then (if printed then Some 1 else None) else (if high then Some w else None)) 0 ≤ 1
at_most_one true true high w not_high = omega arith
at_most_one true false high w not_high = omega arith
at_most_one false printed false w not_high = omega arith
at_most_one false printed true w not_high = absurd cc

width_of_ascii : (c : ℕ) → c < 128 → width_of c ≤ 1
unfolding width_of char_width
width_of_ascii c low =
    let not_high : nat_le 0xA0 c ≡ false = grind (arith, nat_tests) in
    at_most_one (nat_lt c 0x7F) (nat_le 0x20 c) (nat_le 0xA0 c) _ not_high

width_le : (c : ℕ) → width_of c ≤ 2 * length (encode_utf8 c)
unfolding width_of
width_le c =
    let bytes = length-encode c in
    ⊎_elim
    (λ low. omega (arith, width_of_ascii c low, bytes, len_utf8_bounds c))
    (λ high.
    let most : width_of c ≤ 3 = width_or_zero-le false c in
    let two : 2 ≤ len_utf8 c = grind (arith, nat_tests) in
    omega (arith, most, bytes, two))
    (cases_lt c 128)

columns_le : (cs : List ℕ) → columns_of cs ≤ 2 * length (encode_utf8_all cs)
columns_le [] = omega arith
columns_le (c ∷ cs) =
    omega (
      arith,
      sum_by-cons width_of c cs,
      width_le c,
      columns_le cs,
      length-append (encode_utf8 c) (encode_utf8_all cs),
    )

pub text_columns_le : (text : List ℕ) → IsUtf8 text → columns_of (chars text) ≤ 2 * length text
text_columns_le text utf8 =
    let cs = utf8.0 in
    let same = chars_from_encodes cs text utf8 utf8.1.1 in
    let few : columns_of cs ≤ 2 * length text = omega (arith, columns_le cs, ap length utf8.1.1) in
    rw (← same) few

-- the characters that fit are the longest front that does
within_length : (room : ℕ) (cs : List ℕ) → fitting room cs ≤ length cs
within_length room [] = omega (arith, none_fits room)
within_length room (c ∷ cs) =
    ⊎_elim
    (λ lacks. omega (arith, fits_not room c cs lacks))
    (λ has. omega (arith, fits room c cs has, within_length (room - width_of c) cs))
    (cases_lt room (width_of c))

-- the columns of a front, by its first character
front_columns : (c n : ℕ) (cs : List ℕ) → columns_of (take (1 + n) (c ∷ cs)) ≡ width_of c + columns_of (take n cs)
front_columns c n cs =
    let next : 1 + n ≡ suc n = omega arith in
    ap (λ k. columns_of (take k (c ∷ cs))) next ∙ sum_by-cons width_of c (take n cs)

front_fits : (room : ℕ) (cs : List ℕ) → columns_of (take (fitting room cs) cs) ≤ room
front_fits room [] = rw (none_fits room) (omega arith)
front_fits room (c ∷ cs) =
    ⊎_elim
    (λ lacks. rw (fits_not room c cs lacks) (omega arith))
    (λ has.
    let rest = front_fits (room - width_of c) cs in
    let n = fitting (room - width_of c) cs in
    rw (fits room c cs has) (omega (arith, has, rest, front_columns c n cs)))
    (cases_lt room (width_of c))

longest_front : (room : ℕ) (cs : List ℕ) (m : ℕ) → m ≤ length cs → columns_of (take m cs) ≤ room → m ≤ fitting room cs
longest_front room cs zero within few = omega arith
longest_front room [] (suc m) within few = absurd (omega arith)
longest_front room (c ∷ cs) (suc m) within few =
    let sum = sum_by-cons width_of c (take m cs) in
    let has : width_of c ≤ room = omega (arith, sum, few) in
    let rest = longest_front (room - width_of c) cs m (omega arith) (omega (arith, sum, few)) in
    omega (arith, fits room c cs has, rest)

-- the columns of `...`
dots_columns : columns_of (codes "...") ≡ 3
unfolding width_of char_width
dots_columns = refl

cut_columns : (cs : List ℕ) → columns_of (cut_text cs) ≤ 43
cut_columns cs =
    let front = take (fitting 40 cs) cs in
    let n = length front - suffix_len is_blank front in
    ⊎_elim
    (λ (many : 40 < columns_of cs).
    let some : ¬ (fitting 40 cs ≡ length cs) = λ all. absurd (omega (arith, only_if_all_fit 40 cs all, many)) in
    rw (cut_some cs some) (omega (
      arith,
      sum_by-append width_of (take n front) (codes "..."),
      sum_by-take-le width_of front n,
      front_fits 40 cs,
      dots_columns,
    )))
    (λ few. rw (cut_none cs (all_fit 40 cs few)) (omega (arith, few)))
    (cases_lt 40 (columns_of cs))

pub cuts_to_fit_lem : CutsToFit
cuts_to_fit_lem = record {
  front = λ room cs. record { within = within_length room cs; fits = front_fits room cs; longest = longest_front room cs };
  columns = cut_columns;
}
