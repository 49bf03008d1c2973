-- The number of an arrow with its rounds tells them, and is a name of charts.
use Rattle.std.proofs.Common.{◌≡◌, ◌⊎◌, ℕ, ◌+◌, ◌*◌, ◌^◌, ◌%◌, ◌<◌, ◌≤◌, Bool, true, false, ◌&&◌, nat_le, length, sym, arith, inl, inr, List, [], ◌∷◌, ◌++◌, map, find, None, is_none, refl, ap, subst, ◌∙◌}
use Rattle.std.specs.Char.{to_ascii_lowercase}
use Rattle.std.specs.Fmt.{decimal}
use Rattle.std.specs.List.{AllByRecursion, flat_map, list_all}
use Rattle.std.proofs.lemmas.Bool.{cases_eq, le-leb}
use Rattle.std.proofs.lemmas.Fmt.{decimal_by_steps, decimal_injective, decimal_nonempty, length-decimal-le}
use Rattle.std.proofs.lemmas.List.{length-append}
use Rattle.std.proofs.lemmas.List.Folds.{list_all-append, list_all-map}
use Rattle.std.proofs.lemmas.Slice.Eq.{bytes_eq-Decides}
use Rattle.msc_chart.proofs.ListLemmas.{by_test, clash}
use Rattle.msc_lexer.specs.Bytes.{is_run_byte}
use Rattle.msc_lexer.specs.Words.{all_words, is_spelled, spelling, word_of}
use Rattle.msc_lexer.specs.declared.word.Word.{Word}
use Rattle.msc_lexer.specs.declared.word.Word.TheVariants.{Msc, EndMsc, Inst, Instance, EndInstance, Input, From, Output, To, Concurrent, EndConcurrent, Comment, Env, Action, Condition, Set, Reset, Timeout, Create, Stop}
use Rattle.msc_lexer.specs.declared.TheConstants.{NAME_LIMIT}
use Rattle.msc_import.specs.Drafting.{fitted, is_chart_name}
use Rattle.msc_scenarios.specs.Naming.{number_name, round_text}
use Rattle.msc_mermaid.specs.Patterns.{is_empty}
use Rattle.msc_place.proofs.Walks.{AllByRecursion-append as all_joined}

-- a digit
abbrev pub IsDigit : ℕ → Type 0
IsDigit b = (48 ≤ b) × (b < 58)

-- a number is digits
pub decimal_digits : (n : ℕ) → n < 2 ^ 64 → AllByRecursion IsDigit (decimal n)
decimal_digits = decimal_by_steps (λ m ds. AllByRecursion IsDigit ds)
    (λ m l. ((omega arith, omega (arith, l)), tt))
    (λ m ds l h. all_joined IsDigit ds ((48 + m % 10) ∷ []) h ((omega arith, omega arith), tt))

-- a number from k on is k or a later one
at_least : (P : ℕ → Type 0) (b k : ℕ) → k ≤ b → P k → (k + 1 ≤ b → P b) → P b
at_least P b k low here later = elim (cases_eq b k) [ inl e ↦ subst P (sym e) here | inr other ↦ later (omega (arith, low, other)) ]

-- what a byte satisfies that is a digit
module _ (P : ℕ → Type 0) (zero_is : P 48) (one_is : P 49) (two_is : P 50) (three_is : P 51) (four_is : P 52) (five_is : P 53) (six_is : P 54) (seven_is : P 55) (eight_is : P 56) (nine_is : P 57) where
  by_digit : (b : ℕ) → IsDigit b → P b
  by_digit b h = at_least P b 48 h.0 zero_is (λ l0. at_least P b 49 l0 one_is (λ l1. at_least P b 50 l1 two_is (λ l2. at_least P b 51 l2 three_is (λ l3. at_least P b 52 l3 four_is (λ l4. at_least P b 53 l4 five_is (λ l5. at_least P b 54 l5 six_is (λ l6. at_least P b 55 l6 seven_is (λ l7. at_least P b 56 l7 eight_is (λ l8. at_least P b 57 l8 nine_is (λ l9. absurd (let high = h.1 in omega (arith, high, l9))))))))))))

digit_runs : (b : ℕ) → IsDigit b → is_run_byte b ≡ true
digit_runs = by_digit (λ b. is_run_byte b ≡ true) refl refl refl refl refl refl refl refl refl refl

-- a letter, capital or small
unfoldable pub is_letter : ℕ → Bool
is_letter b = nat_le 97 (to_ascii_lowercase b)

digit_no_letter : (b : ℕ) → IsDigit b → is_letter b ≡ false
unfolding is_letter
digit_no_letter = by_digit (λ b. is_letter b ≡ false) refl refl refl refl refl refl refl refl refl refl

pub digits_run : (ds : List ℕ) → AllByRecursion IsDigit ds → list_all is_run_byte ds ≡ true
digits_run [] h = refl
digits_run (d ∷ ds) h = rw (digit_runs d h.0) (digits_run ds h.1)

-- the words are letters
spelled_letters : (w : Word) → list_all (λ b. nat_le 97 b) (spelling w) ≡ true
spelled_letters Msc = refl
spelled_letters EndMsc = refl
spelled_letters Inst = refl
spelled_letters Instance = refl
spelled_letters EndInstance = refl
spelled_letters Input = refl
spelled_letters From = refl
spelled_letters Output = refl
spelled_letters To = refl
spelled_letters Concurrent = refl
spelled_letters EndConcurrent = refl
spelled_letters Comment = refl
spelled_letters Env = refl
spelled_letters Action = refl
spelled_letters Condition = refl
spelled_letters Set = refl
spelled_letters Reset = refl
spelled_letters Timeout = refl
spelled_letters Create = refl
spelled_letters Stop = refl

find_none : {X : Type 0} (p : X → Bool) → ((x : X) → p x ≡ false) → (xs : List X) → find p xs ≡ None
find_none p none [] = refl
find_none p none (x ∷ xs) = rw (none x) (find_none p none xs)

-- what is not letters alone is no word
pub no_word : (bytes : List ℕ) → list_all is_letter bytes ≡ false → is_none (word_of bytes) ≡ true
unfolding word_of is_letter
no_word bytes h = ap is_none (find_none (is_spelled bytes) other all_words)
  where
    other : (w : Word) → is_spelled bytes w ≡ false
    other w = by_test (is_spelled bytes w)
        (λ same.
        let e : map to_ascii_lowercase bytes ≡ spelling w = (bytes_eq-Decides (map to_ascii_lowercase bytes) (spelling w)).0 same in
        clash (sym (list_all-map (λ b. nat_le 97 b) to_ascii_lowercase bytes) ∙ ap (list_all (λ b. nat_le 97 b)) e ∙ spelled_letters w) h)
        (λ differs. differs)

-- the rounds behind an arrow's number
rounds_text : List ℕ → List ℕ
rounds_text rs = flat_map round_text rs

-- bytes that are none or begin with an underscore
IsBarred : List ℕ → Type 0
IsBarred us = (us ≡ []) ⊎ ((t : List ℕ) × (us ≡ 95 ∷ t))

rounds_barred : (rs : List ℕ) → IsBarred (flat_map round_text rs)
unfolding IsBarred
rounds_barred [] = inl refl
rounds_barred (r ∷ rs) = inr (decimal r ++ flat_map round_text rs, refl)

-- digits end where an underscore stands
cut : (xs ys us vs : List ℕ) → AllByRecursion IsDigit xs → AllByRecursion IsDigit ys → IsBarred us → IsBarred vs → xs ++ us ≡ ys ++ vs → (xs ≡ ys) × (us ≡ vs)
unfolding IsBarred
cut [] [] us vs dx dy bu bv e = (refl, e)
cut [] (y ∷ ys) us vs dx dy bu bv e =
    elim bu [
      | inl none ↦ let f : [] ≡ y ∷ (ys ++ vs) = sym none ∙ e in cc
      | inr some ↦ let f : 95 ∷ some.0 ≡ y ∷ (ys ++ vs) = sym some.1 ∙ e in let g : 95 ≡ y = cc in let high = dy.0.1 in absurd (omega (arith, g, high))
    ]
cut (x ∷ xs) [] us vs dx dy bu bv e =
    elim bv [
      | inl none ↦ let f : x ∷ (xs ++ us) ≡ [] = e ∙ none in cc
      | inr some ↦ let f : x ∷ (xs ++ us) ≡ 95 ∷ some.0 = e ∙ some.1 in let g : x ≡ 95 = cc in let high = dx.0.1 in absurd (omega (arith, g, high))
    ]
cut (x ∷ xs) (y ∷ ys) us vs dx dy bu bv e =
    let f : x ∷ (xs ++ us) ≡ y ∷ (ys ++ vs) = e in
    let first : x ≡ y = cc in
    let rest : xs ++ us ≡ ys ++ vs = cc in
    let r = cut xs ys us vs dx.1 dy.1 bu bv rest in
    (ap (λ h. h ∷ xs) first ∙ ap (λ t. y ∷ t) r.0, r.1)

-- small enough for a number to be told by its digits
abbrev pub IsSmall : ℕ → Type 0
IsSmall n = n < 2 ^ 64

-- the text of rounds tells them
same_rounds : (rs ss : List ℕ) → AllByRecursion IsSmall rs → AllByRecursion IsSmall ss → flat_map round_text rs ≡ flat_map round_text ss → rs ≡ ss
same_rounds [] [] a b e = refl
same_rounds [] (s ∷ ss) a b e = let f : [] ≡ 95 ∷ (decimal s ++ flat_map round_text ss) = e in cc
same_rounds (r ∷ rs) [] a b e = let f : 95 ∷ (decimal r ++ flat_map round_text rs) ≡ [] = e in cc
same_rounds (r ∷ rs) (s ∷ ss) a b e =
    let f : 95 ∷ (decimal r ++ flat_map round_text rs) ≡ 95 ∷ (decimal s ++ flat_map round_text ss) = e in
    let g : decimal r ++ flat_map round_text rs ≡ decimal s ++ flat_map round_text ss = cc in
    let both = cut (decimal r) (decimal s) (flat_map round_text rs) (flat_map round_text ss) (decimal_digits r a.0) (decimal_digits s b.0) (rounds_barred rs) (rounds_barred ss) g in
    let first = decimal_injective r s a.0 b.0 both.0 in
    let rest = same_rounds rs ss a.1 b.1 both.1 in
    ap (λ h. h ∷ rs) first ∙ ap (λ t. s ∷ t) rest

-- a number with rounds tells both
pub same_number : (m n : ℕ) (rs ss : List ℕ) → IsSmall m → IsSmall n → AllByRecursion IsSmall rs → AllByRecursion IsSmall ss → number_name m rs ≡ number_name n ss → (m ≡ n) × (rs ≡ ss)
unfolding number_name
same_number m n rs ss a b c d e =
    let both = cut (decimal m) (decimal n) (flat_map round_text rs) (flat_map round_text ss) (decimal_digits m a) (decimal_digits n b) (rounds_barred rs) (rounds_barred ss) e in
    (decimal_injective m n a b both.0, same_rounds rs ss c d both.1)

-- a round is a short text
abbrev pub IsRound : ℕ → Type 0
IsRound n = n < 10000

pub small_rounds : (rs : List ℕ) → AllByRecursion IsRound rs → AllByRecursion IsSmall rs
small_rounds [] h = tt
small_rounds (r ∷ rs) h = (let l = h.0 in omega (arith, l), small_rounds rs h.1)

rounds_short : (rs : List ℕ) → AllByRecursion IsRound rs → length (flat_map round_text rs) ≤ 5 * length rs
rounds_short [] h = omega arith
rounds_short (r ∷ rs) h =
    let l = h.0 in
    let one = length-decimal-le 4 r (omega arith) (omega (arith, l)) (omega (arith, l)) in
    let rest = rounds_short rs h.1 in
    let both = length-append (decimal r) (flat_map round_text rs) in
    omega (arith, one, rest, both)

rounds_run : (rs : List ℕ) → AllByRecursion IsRound rs → list_all is_run_byte (flat_map round_text rs) ≡ true
rounds_run [] h = refl
rounds_run (r ∷ rs) h =
    let l = h.0 in
    list_all-append is_run_byte (decimal r) (flat_map round_text rs)
    ∙ ap (λ (b : Bool). b && list_all is_run_byte (flat_map round_text rs)) (digits_run (decimal r) (decimal_digits r (omega (arith, l))))
    ∙ rounds_run rs h.1

-- a text that begins with a digit is no word, and some text
begins_digit : (ds us : List ℕ) → AllByRecursion IsDigit ds → 0 < length ds → (list_all is_letter (ds ++ us) ≡ false) × (is_empty (ds ++ us) ≡ false)
begins_digit [] us h k = absurd (omega (arith, k))
begins_digit (d ∷ ds) us h k = (rw (digit_no_letter d h.0) refl, refl)

-- the number of an arrow is a name of charts
pub number_named : (n : ℕ) (rs : List ℕ) → n < 10000000 → AllByRecursion IsRound rs → length rs ≤ 11 → is_chart_name (number_name n rs) ≡ true
unfolding number_name
number_named n rs small rounds few =
    let low : n < 2 ^ 64 = omega (arith, small) in
    let digits = decimal_digits n low in
    let begins = begins_digit (decimal n) (flat_map round_text rs) digits (decimal_nonempty n low) in
    let one = length-decimal-le 7 n (omega arith) (omega (arith, small)) low in
    let rest = rounds_short rs rounds in
    let both = length-append (decimal n) (flat_map round_text rs) in
    let short : nat_le (length (decimal n ++ flat_map round_text rs)) NAME_LIMIT ≡ true = le-leb _ _ (omega (arith, one, rest, both, few)) in
    let runs : list_all is_run_byte (decimal n ++ flat_map round_text rs) ≡ true = list_all-append is_run_byte (decimal n) (flat_map round_text rs) ∙ ap (λ (b : Bool). b && list_all is_run_byte (flat_map round_text rs)) (digits_run (decimal n) digits) ∙ rounds_run rs rounds in
    rw (begins.1, runs, no_word (decimal n ++ flat_map round_text rs) begins.0, short) refl

-- so it is drawn as it is
pub fitted_same : (name : List ℕ) → is_chart_name name ≡ true → fitted name ≡ name
unfolding fitted
fitted_same name h = rw h refl

pub fitted_number : (n : ℕ) (rs : List ℕ) → n < 10000000 → AllByRecursion IsRound rs → length rs ≤ 11 → fitted (number_name n rs) ≡ number_name n rs
fitted_number n rs small rounds few = fitted_same (number_name n rs) (number_named n rs small rounds few)
