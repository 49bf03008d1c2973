-- What begins with no white space has none in front of its first bytes.
use Rattle.std.proofs.Common.{◌≡◌, ℕ, zero, suc, ◌+◌, ◌-◌, Bool, true, false, cond, ◌&&◌, ◌==◌, List, [], ◌∷◌, get_or, take, drop, refl, ap, ◌∙◌, arith}
use Rattle.msc_mermaid.specs.White.{body, front, is_one, is_three, is_two, trimmed, white, width}

and_none : (b : Bool) → (b && false) ≡ false
and_none true = refl
and_none false = refl

-- no white space ends with a zero
two_none : (a : ℕ) → is_two a 0 ≡ false
two_none a = and_none (a == 194)

three_none : (a b : ℕ) → is_three a b 0 ≡ false
three_none a b = simp and_none

-- what a width of nothing says
widths : (one two three : Bool) → (cond one 1 (cond two 2 (cond three 3 0)) == 0) ≡ true → (one ≡ false) × (two ≡ false)
widths true two three e = cc
widths false true three e = cc
widths false false three e = (refl, refl)

width_of : (a b c : ℕ) → is_one a ≡ false → is_two a b ≡ false → is_three a b c ≡ false → (width a b c == 0) ≡ true
width_of a b c one two three = rw (one, two, three) refl

shorter : (a b c : ℕ) → (width a b c == 0) ≡ true → ((width a b 0 == 0) ≡ true) × ((width a 0 0 == 0) ≡ true)
shorter a b c e =
    let w = widths (is_one a) (is_two a b) (is_three a b c) e in
    (width_of a b 0 w.0 w.1 (three_none a b), width_of a 0 0 w.0 (two_none a) (three_none a 0))

-- no white space stands in front
starts_plain : (b : ℕ) (bs : List ℕ) → front 0 (b ∷ bs) ≡ 0 → (white (b ∷ bs) == 0) ≡ true
unfolding front
starts_plain b bs e = by (white (b ∷ bs) == 0) refl e
  where
    by : (t : Bool) → (white (b ∷ bs) == 0) ≡ t → cond t 0 (1 + front (white (b ∷ bs) - 1) bs) ≡ 0 → (white (b ∷ bs) == 0) ≡ true
    by true is e = is
    by false is e = absurd (omega (arith, e))

plain_starts : (b : ℕ) (bs : List ℕ) → (white (b ∷ bs) == 0) ≡ true → front 0 (b ∷ bs) ≡ 0
unfolding front
plain_starts b bs is = ap (λ (t : Bool). cond t 0 (1 + front (white (b ∷ bs) - 1) bs)) is

taken : (k : ℕ) (b : ℕ) (bs : List ℕ) → (white (b ∷ bs) == 0) ≡ true → (white (b ∷ take k bs) == 0) ≡ true
taken zero b bs is = (shorter b (get_or bs 0 0) (get_or bs 1 0) is).1
taken (suc k) b [] is = is
taken (suc zero) b (c ∷ cs) is = (shorter b c (get_or cs 0 0) is).0
taken (suc (suc k)) b (c ∷ []) is = is
taken (suc (suc k)) b (c ∷ d ∷ ds) is = is

front_nothing : front 0 [] ≡ 0
unfolding front
front_nothing = refl

front_taken : (bytes : List ℕ) (k : ℕ) → front 0 bytes ≡ 0 → front 0 (take k bytes) ≡ 0
front_taken [] zero none = none
front_taken [] (suc k) none = none
front_taken (b ∷ bs) zero none = front_nothing
front_taken (b ∷ bs) (suc k) none = plain_starts b (take k bs) (taken k b bs (starts_plain b bs none))

-- so the first bytes are themselves without white space at both ends, up to that at their end
pub trimmed_first : (bytes xs : List ℕ) (k : ℕ) → front 0 bytes ≡ 0 → xs ≡ take k bytes → trimmed xs ≡ take (body 0 xs) xs
trimmed_first bytes xs k none is =
    let no_front : front 0 xs ≡ 0 = ap (front 0) is ∙ front_taken bytes k none in
    ap (λ (n : ℕ). take (body 0 (drop n xs)) (drop n xs)) no_front
