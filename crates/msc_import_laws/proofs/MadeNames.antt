-- Names that are made of bytes, with a number or not, are names of charts.
use Rattle.std.proofs.Common.{◌≡◌, ℕ, zero, suc, ◌+◌, ◌<◌, ◌≤◌, ◌==◌, Bool, true, false, cond, ◌&&◌, nat_le, nat_lt, length, take, drop, sym, arith, List, [], ◌∷◌, ◌++◌, Option, None, Some, is_none, is_some, codes, refl, ap, ◌∙◌}
use Rattle.std.specs.Fmt.{decimal}
use Rattle.std.specs.List.{list_all}
use Rattle.std.proofs.Math.Bool.{and-false}
use Rattle.std.proofs.lemmas.Bool.{and_parts, le-leb}
use Rattle.std.proofs.lemmas.Fmt.{length-decimal-le}
use Rattle.std.proofs.lemmas.List.{length-append}
use Rattle.std.proofs.lemmas.List.Folds.{list_all-append}
use Rattle.msc_chart.proofs.ListLemmas.{by_test, clash}
use Rattle.msc_lexer.specs.Bytes.{is_run_byte}
use Rattle.msc_lexer.specs.Words.{word_of}
use Rattle.msc_lexer.specs.declared.TheConstants.{NAME_LIMIT}
use Rattle.msc_import.specs.Drafting.{fitted}
use Rattle.msc_scenarios.specs.Naming.{candidate, left_of, made, or_else, pass_step, passed, unreserved}
use Rattle.msc_mermaid.specs.Patterns.{is_empty}
use Rattle.msc_import_laws.proofs.Numbers.{decimal_digits, digits_run, fitted_same, is_letter, no_word}

-- parts of bytes that all pass
all_take : (p : ℕ → Bool) (k : ℕ) (bs : List ℕ) → list_all p bs ≡ true → list_all p (take k bs) ≡ true
all_take p zero [] h = refl
all_take p zero (b ∷ bs) h = refl
all_take p (suc k) [] h = refl
all_take p (suc k) (b ∷ bs) h = let both = and_parts (p b) (list_all p bs) h in rw both.0 (all_take p k bs both.1)

all_drop : (p : ℕ → Bool) (k : ℕ) (bs : List ℕ) → list_all p bs ≡ true → list_all p (drop k bs) ≡ true
all_drop p zero [] h = h
all_drop p zero (b ∷ bs) h = h
all_drop p (suc k) [] h = refl
all_drop p (suc k) (b ∷ bs) h = all_drop p k bs (and_parts (p b) (list_all p bs) h).1

-- a pass that leaves bytes of names alone, and underscores
gaps_run : (p : _) → ((s b : ℕ) (bs : List ℕ) → pass_step p s b bs ≡ cond (is_run_byte b) (Some b, 0) (cond (nat_lt 0 s) (None, 1) (Some 95, 1)))
    → (s : ℕ) (bs : List ℕ) → list_all is_run_byte (passed p s bs) ≡ true
unfolding passed
gaps_run p told s [] = refl
gaps_run p told s (b ∷ bs) =
    by_test (is_run_byte b)
    (λ runs. rw (told s b bs, runs) (rw runs (gaps_run p told 0 bs)))
    (λ other. by_test (nat_lt 0 s)
    (λ again. rw (told s b bs, other, again) (gaps_run p told 1 bs))
    (λ first. rw (told s b bs, other, first) (gaps_run p told 1 bs)))

-- what is left of bytes
left_runs : (bytes : List ℕ) → list_all is_run_byte (left_of bytes) ≡ true
unfolding pass_step
left_runs bytes = search (all_take, all_drop, gaps_run)

take_short : (k : ℕ) (bs : List ℕ) → length (take k bs) ≤ k
take_short zero [] = omega arith
take_short zero (b ∷ bs) = omega arith
take_short (suc k) [] = omega arith
take_short (suc k) (b ∷ bs) = let r = take_short k bs in omega (arith, r)

take_within : (k : ℕ) (bs : List ℕ) → length (take k bs) ≤ length bs
take_within zero [] = omega arith
take_within zero (b ∷ bs) = omega arith
take_within (suc k) [] = omega arith
take_within (suc k) (b ∷ bs) = let r = take_within k bs in omega (arith, r)

twice_short : (k j : ℕ) (bs : List ℕ) → length (take k (take j bs)) ≤ j
twice_short k j bs = let a = take_short j bs in let b = take_within k (take j bs) in omega (arith, a, b)

left_short : (bytes : List ℕ) → length (left_of bytes) ≤ 56
left_short bytes = search (twice_short)

-- a name of charts with so many bytes at most
pub record IsGood (n : ℕ) (name : List ℕ) : Type 0 where
  pub runs : list_all is_run_byte name ≡ true
  pub some : is_empty name ≡ false
  pub short : length name ≤ n
  pub no_word : is_none (word_of name) ≡ true

-- with an underscore it is no word
barred : (name rest : List ℕ) → list_all is_letter (name ++ 95 ∷ rest) ≡ false
unfolding is_letter
barred [] rest = refl
barred (b ∷ name) rest = ap (λ (t : Bool). is_letter b && t) (barred name rest) ∙ and-false (is_letter b)

some_more : (name rest : List ℕ) → is_empty name ≡ false → is_empty (name ++ rest) ≡ false
some_more [] rest h = clash refl h
some_more (b ∷ name) rest h = refl

none_if : {X : Type 0} (o : Option X) → is_some o ≡ false → is_none o ≡ true
none_if None h = refl
none_if (Some x) h = clash refl h

unreserved_good : (n : ℕ) (name : List ℕ) → list_all is_run_byte name ≡ true → is_empty name ≡ false → length name ≤ n → IsGood (n + 1) (unreserved name)
unreserved_good n name runs some short =
    by_test (is_some (word_of name))
    (λ word. rw word (record {
      runs = list_all-append is_run_byte name (95 ∷ []) ∙ ap (λ (t : Bool). t && true) runs;
      some = some_more name (95 ∷ []) some;
      short = let r = length-append name (95 ∷ []) in omega (arith, r, short);
      no_word = no_word (name ++ 95 ∷ []) (barred name []);
    }))
    (λ none. rw none (record { runs = runs; some = some; short = omega (arith, short); no_word = none_if (word_of name) none }))

or_else_is : (P : List ℕ → Type 0) (bs others : List ℕ) → ((b : ℕ) (cs : List ℕ) → bs ≡ b ∷ cs → P (b ∷ cs)) → P others → P (or_else bs others)
or_else_is P [] others h k = k
or_else_is P (b ∷ bs) others h k = h b bs refl

pub made_good : (bytes : List ℕ) → IsGood 57 (made bytes (codes "p"))
unfolding made
made_good bytes =
    or_else_is (λ name. IsGood 57 (unreserved name)) (left_of bytes) (codes "p")
    (λ b cs e. unreserved_good 56 (b ∷ cs) (sym (ap (list_all is_run_byte) e) ∙ left_runs bytes) refl (let r = left_short bytes in let l = ap length e in omega (arith, r, l)))
    (unreserved_good 56 (codes "p") refl refl (omega arith))

-- a name with a number
pub candidate_good : (name : List ℕ) (n : ℕ) → IsGood 57 name → n < 1000 → IsGood 61 (candidate name n)
candidate_good name n good low =
    by_test (n == 1)
    (λ one. rw one (record { runs = good.runs; some = good.some; short = let l = good.short in omega (arith, l); no_word = good.no_word }))
    (λ more. rw more (record {
      runs = list_all-append is_run_byte name (95 ∷ decimal n) ∙ ap (λ (t : Bool). t && list_all is_run_byte (95 ∷ decimal n)) good.runs ∙ digits_run (decimal n) (decimal_digits n (omega (arith, low)));
      some = some_more name (95 ∷ decimal n) good.some;
      short = let a = length-append name (95 ∷ decimal n) in let b = length-decimal-le 3 n (omega arith) (omega (arith, low)) (omega (arith, low)) in let c = good.short in omega (arith, a, b, c);
      no_word = no_word (name ++ 95 ∷ decimal n) (barred name (decimal n));
    }))

pub good_fitted : (name : List ℕ) → IsGood 61 name → fitted name ≡ name
good_fitted name good =
    let l = good.short in
    let short : nat_le (length name) NAME_LIMIT ≡ true = le-leb _ _ (omega (arith, l)) in
    fitted_same name (rw (good.some, good.runs, good.no_word, short) refl)
