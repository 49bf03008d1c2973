-- What is shown of events, event by event.
use Rattle.std.proofs.Common.{◌≡◌, ℕ, ◌+◌, ◌<◌, List, [], ◌∷◌, ◌++◌, length, get_or, map, take, inl, inr, sym, ap, ◌∙◌, subst, arith}
use Rattle.std.specs.List.{enumerate_from}
use Rattle.std.proofs.lemmas.Bool.{cases_lt}
use Rattle.std.proofs.lemmas.List.{get_or_append_left, get_or_push, length-append, length-take-le, map-append, take_more}
use Rattle.msc_chart.specs.Drawings.{Drawing}
use Rattle.msc_parser.specs.Drafts.{statements_of}
use Rattle.msc_parser.specs.Grammar.{Tree}
use Rattle.msc_shown_chart.specs.Words.{no_words, AreEventWords, IsEventWords, Words}

-- one event more is shown
pub words_more : (d : Drawing) (file text : List ℕ) (t : Tree) (n : ℕ) (ws : List Words) (w : Words)
    → AreEventWords d file text t n ws → (n < length (statements_of t.sections) → IsEventWords d file text t n w)
    → AreEventWords d file text t (n + 1) (ws ++ w ∷ [])
words_more d file text t n ws w are next = record {
  size = let all = length-append ws (w ∷ []) in let size = are.size in omega (arith, all, size);
  each = λ e less stands. elim (cases_lt e n) [
    | inl below ↦
        let there : e < length ws = let size = are.size in omega (arith, below, size) in
        subst (IsEventWords d file text t e) (sym (get_or_append_left ws (w ∷ []) no_words e there)) (are.each e below stands)
    | inr past ↦
        let same : n ≡ e = omega (arith, less, past) in
        let here : length ws ≡ e = are.size ∙ same in
        subst (IsEventWords d file text t e) (sym (get_or_push ws w no_words e here))
        (subst (λ (k : ℕ). IsEventWords d file text t k w) same (next (omega (arith, stands, same))))
  ];
}

-- the items of two lists, numbered through
numbered_through : {X : Type 0} (n : ℕ) (xs ys : List X)
    → enumerate_from n (xs ++ ys) ≡ enumerate_from n xs ++ enumerate_from (n + length xs) ys
numbered_through n [] ys = ap (λ m. enumerate_from m ys) (let same : n ≡ n + 0 = omega arith in same)
numbered_through n (x ∷ xs) ys =
    let same : n + 1 + length xs ≡ n + length (x ∷ xs) = omega arith in
    ap (λ l. (n, x) ∷ l) (numbered_through (n + 1) xs ys ∙ ap (λ m. enumerate_from (n + 1) xs ++ enumerate_from m ys) same)

-- one item more, with its number
pub one_more : {X Y : Type 0} (f : ℕ × X → Y) (xs : List X) (i : ℕ) (d : X) → i < length xs
    → map f (enumerate_from 0 (take (i + 1) xs)) ≡ map f (enumerate_from 0 (take i xs)) ++ f (i, get_or xs i d) ∷ []
one_more f xs i d inside =
    let x = get_or xs i d in
    let before = enumerate_from 0 (take i xs) in
    let long = length-take-le i xs (omega (arith, inside)) in
    let number : 0 + length (take i xs) ≡ i = omega (arith, long) in
    ap (λ l. map f (enumerate_from 0 l)) (take_more xs i d inside)
    ∙ ap (map f) (numbered_through 0 (take i xs) (x ∷ []))
    ∙ map-append f before ((0 + length (take i xs), x) ∷ [])
    ∙ ap (λ n. map f before ++ f (n, x) ∷ []) number
