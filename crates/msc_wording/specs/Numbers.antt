-- Numbers in words.
use Rattle.std.specs.Prelude.{ℕ, cond, ◌==◌, List, [], ◌++◌, codes, decimal}

-- the singular or the plural of a word
abbrev pub plural : ℕ → List ℕ → List ℕ → List ℕ
plural n one several = cond (n == 1) one several

-- a number of things, with `no` for 0
unfoldable pub counted : ℕ → List ℕ → List ℕ → List ℕ
counted n one several = cond (n == 0) (codes "no") (decimal n) ++ (codes " " ++ plural n one several)

-- a number, or `none` for 0
unfoldable pub number_or_none : ℕ → List ℕ
number_or_none n = cond (n == 0) (codes "none") (decimal n)

-- a number of things after a comma, unless it is 0
unfoldable pub part : ℕ → List ℕ → List ℕ
part n things = cond (n == 0) [] (codes ", " ++ (decimal n ++ (codes " " ++ things)))
