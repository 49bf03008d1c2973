-- What stands for a text is read as that text.
use Rattle.std.proofs.Common.{◌≡◌, ◌≢◌, ℕ, Bool, true, false, cond, List, [], ◌∷◌, ◌++◌, codes, nat_eq, refl, sym, ap, ◌∙◌}
use Rattle.std.proofs.lemmas.Bool.{eqb-true, eq-eqb, false≢true}
use Rattle.std.specs.List.{AllByRecursion}
use Rattle.msc_tree.specs.Laws.{unescaped, unescaped_after, IsNoMarkup, AreNamed}
use Rattle.msc_tree.specs.Trees.{escaped, escaped_byte}

-- a byte that is this one
is_of : (b n : ℕ) → nat_eq b n ≡ true → n ≡ b
is_of b n h = sym (eqb-true b n h)

-- a byte that stands for itself is read as itself
read_itself : (b : ℕ) (rest : List ℕ) → nat_eq b 38 ≡ false → unescaped (b ∷ rest) ≡ b ∷ unescaped rest
read_itself b rest h = rw h refl

-- what stands for a byte is read as that byte: by whether it is one of the four
read_quote : (t : Bool) (b : ℕ) (rest : List ℕ) → nat_eq b 34 ≡ t → nat_eq b 38 ≡ false
    → unescaped (cond t (codes "&quot;") (b ∷ []) ++ rest) ≡ b ∷ unescaped rest
read_quote true b rest h other = ap (λ (n : ℕ). n ∷ unescaped rest) (is_of b 34 h)
read_quote false b rest h other = read_itself b rest other

read_greater : (t : Bool) (b : ℕ) (rest : List ℕ) → nat_eq b 62 ≡ t → nat_eq b 38 ≡ false
    → unescaped (cond t (codes "&gt;") (cond (nat_eq b 34) (codes "&quot;") (b ∷ [])) ++ rest)
    ≡ b ∷ unescaped rest
read_greater true b rest h other = ap (λ (n : ℕ). n ∷ unescaped rest) (is_of b 62 h)
read_greater false b rest h other = read_quote (nat_eq b 34) b rest refl other

read_less : (t : Bool) (b : ℕ) (rest : List ℕ) → nat_eq b 60 ≡ t → nat_eq b 38 ≡ false
    → unescaped (cond t (codes "&lt;") (cond (nat_eq b 62) (codes "&gt;")
    (cond (nat_eq b 34) (codes "&quot;") (b ∷ []))) ++ rest) ≡ b ∷ unescaped rest
read_less true b rest h other = ap (λ (n : ℕ). n ∷ unescaped rest) (is_of b 60 h)
read_less false b rest h other = read_greater (nat_eq b 62) b rest refl other

read_any : (t : Bool) (b : ℕ) (rest : List ℕ) → nat_eq b 38 ≡ t
    → unescaped (cond t (codes "&amp;") (cond (nat_eq b 60) (codes "&lt;") (cond (nat_eq b 62) (codes "&gt;")
    (cond (nat_eq b 34) (codes "&quot;") (b ∷ [])))) ++ rest) ≡ b ∷ unescaped rest
read_any true b rest h = ap (λ (n : ℕ). n ∷ unescaped rest) (is_of b 38 h)
read_any false b rest h = read_less (nat_eq b 60) b rest refl h

-- what stands for a text is read as that text
pub read_back : (text : List ℕ) → unescaped (escaped text) ≡ text
read_back [] = refl
read_back (b ∷ bs) =
    read_any (nat_eq b 38) b (escaped bs) refl ∙ ap (λ (l : List ℕ). b ∷ l) (read_back bs)

-- a byte that is another one
differs : (a n : ℕ) → nat_eq a n ≡ false → a ≢ n
differs a n h = λ e. false≢true (sym h ∙ eq-eqb a n e)

-- a byte that is no sign of a tag and no quotation mark, by three tests
no : (n : ℕ) → nat_eq n 60 ≡ false → nat_eq n 62 ≡ false → nat_eq n 34 ≡ false → IsNoMarkup n
no n less greater quote = (differs n 60 less, differs n 62 greater, differs n 34 quote)

-- what stands for a byte has none of these
mark_quote : (t : Bool) (b : ℕ) (rest : List ℕ) → nat_eq b 34 ≡ t → nat_eq b 60 ≡ false
    → nat_eq b 62 ≡ false → AllByRecursion IsNoMarkup rest
    → AllByRecursion IsNoMarkup (cond t (codes "&quot;") (b ∷ []) ++ rest)
mark_quote true b rest h less greater all = (
  no 38 refl refl refl,
  (
    no 113 refl refl refl,
    (
      no 117 refl refl refl,
      (
        no 111 refl refl refl,
        (no 116 refl refl refl, (no 59 refl refl refl, all)),
      ),
    ),
  ),
)
mark_quote false b rest h less greater all = (no b less greater h, all)

mark_greater : (t : Bool) (b : ℕ) (rest : List ℕ) → nat_eq b 62 ≡ t → nat_eq b 60 ≡ false
    → AllByRecursion IsNoMarkup rest
    → AllByRecursion IsNoMarkup (cond t (codes "&gt;") (cond (nat_eq b 34) (codes "&quot;") (b ∷ [])) ++ rest)
mark_greater true b rest h less all =
    (no 38 refl refl refl, (no 103 refl refl refl, (no 116 refl refl refl, (no 59 refl refl refl, all))))
mark_greater false b rest h less all = mark_quote (nat_eq b 34) b rest refl less h all

mark_less : (t : Bool) (b : ℕ) (rest : List ℕ) → nat_eq b 60 ≡ t → AllByRecursion IsNoMarkup rest
    → AllByRecursion IsNoMarkup (cond t (codes "&lt;") (cond (nat_eq b 62) (codes "&gt;")
    (cond (nat_eq b 34) (codes "&quot;") (b ∷ []))) ++ rest)
mark_less true b rest h all =
    (no 38 refl refl refl, (no 108 refl refl refl, (no 116 refl refl refl, (no 59 refl refl refl, all))))
mark_less false b rest h all = mark_greater (nat_eq b 62) b rest refl h all

mark_any : (t : Bool) (b : ℕ) (rest : List ℕ) → nat_eq b 38 ≡ t → AllByRecursion IsNoMarkup rest
    → AllByRecursion IsNoMarkup (cond t (codes "&amp;") (cond (nat_eq b 60) (codes "&lt;")
    (cond (nat_eq b 62) (codes "&gt;") (cond (nat_eq b 34) (codes "&quot;") (b ∷ [])))) ++ rest)
mark_any true b rest h all = (
  no 38 refl refl refl,
  (
    no 97 refl refl refl,
    (
      no 109 refl refl refl,
      (
        no 112 refl refl refl,
        (no 59 refl refl refl, all),
      ),
    ),
  ),
)
mark_any false b rest h all = mark_less (nat_eq b 60) b rest refl all

-- nor has what stands for a text
pub no_markup : (text : List ℕ) → AllByRecursion IsNoMarkup (escaped text)
no_markup [] = tt
no_markup (b ∷ bs) = mark_any (nat_eq b 38) b (escaped bs) refl (no_markup bs)

-- a byte that is no ampersand
past : (n : ℕ) (bytes : List ℕ) → nat_eq n 38 ≡ false → AreNamed bytes → AreNamed (n ∷ bytes)
past n bytes h all = (λ e. absurd (differs n 38 h e), all)

-- each ampersand of what stands for a byte begins an escape
name_quote : (t : Bool) (b : ℕ) (rest : List ℕ) → nat_eq b 38 ≡ false → AreNamed rest
    → AreNamed (cond t (codes "&quot;") (b ∷ []) ++ rest)
name_quote true b rest h all = (
  λ e. refl,
  past 113 (117 ∷ 111 ∷ 116 ∷ 59 ∷ rest) refl (past 117 (111 ∷ 116 ∷ 59 ∷ rest) refl
      (past 111 (116 ∷ 59 ∷ rest) refl (past 116 (59 ∷ rest) refl (past 59 rest refl all)))),
)
name_quote false b rest h all = past b rest h all

name_greater : (t : Bool) (b : ℕ) (rest : List ℕ) → nat_eq b 38 ≡ false → AreNamed rest
    → AreNamed (cond t (codes "&gt;") (cond (nat_eq b 34) (codes "&quot;") (b ∷ [])) ++ rest)
name_greater true b rest h all = (
  λ e. refl,
  past 103 (116 ∷ 59 ∷ rest) refl (past 116 (59 ∷ rest) refl
      (past 59 rest refl all)),
)
name_greater false b rest h all = name_quote (nat_eq b 34) b rest h all

name_less : (t : Bool) (b : ℕ) (rest : List ℕ) → nat_eq b 38 ≡ false → AreNamed rest
    → AreNamed (cond t (codes "&lt;") (cond (nat_eq b 62) (codes "&gt;")
    (cond (nat_eq b 34) (codes "&quot;") (b ∷ []))) ++ rest)
name_less true b rest h all = (
  λ e. refl,
  past 108 (116 ∷ 59 ∷ rest) refl (past 116 (59 ∷ rest) refl
      (past 59 rest refl all)),
)
name_less false b rest h all = name_greater (nat_eq b 62) b rest h all

name_any : (t : Bool) (b : ℕ) (rest : List ℕ) → nat_eq b 38 ≡ t → AreNamed rest
    → AreNamed (cond t (codes "&amp;") (cond (nat_eq b 60) (codes "&lt;") (cond (nat_eq b 62) (codes "&gt;")
    (cond (nat_eq b 34) (codes "&quot;") (b ∷ [])))) ++ rest)
name_any true b rest h all = (
  λ e. refl,
  past 97 (109 ∷ 112 ∷ 59 ∷ rest) refl (past 109 (112 ∷ 59 ∷ rest) refl
      (past 112 (59 ∷ rest) refl (past 59 rest refl all))),
)
name_any false b rest h all = name_less (nat_eq b 60) b rest h all

-- so it is in what stands for a text
pub all_named : (text : List ℕ) → AreNamed (escaped text)
all_named [] = tt
all_named (b ∷ bs) = name_any (nat_eq b 38) b (escaped bs) refl (all_named bs)
