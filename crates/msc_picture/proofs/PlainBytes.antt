-- What stays plain while bytes are put together.
use Rattle.std.proofs.Common.{◌≡◌, ℕ, zero, suc, ◌+◌, ◌/◌, ◌%◌, ◌<◌, ◌≤◌, Bool, true, false, cond, ◌&&◌, List, [], ◌∷◌, ◌++◌, length, get_or, map, take, replicate, fold, refl, arith}
use Rattle.std.specs.Bool.{if◌then◌else◌, ◌==◌}
use Rattle.std.specs.Prelude.{nat_lt, slice_set}
use Rattle.std.specs.Fmt.{decimal, digit_glyph, digits, digits_onto}
use Rattle.std.specs.List.{flat_map, range_with_len}
use Rattle.std.proofs.lemmas.Bool.{and_parts, and_from, or_right, le-leb, lt-ltb, ltb-false}
use Rattle.msc_chart.proofs.ListLemmas.{by_test}
use Rattle.msc_picture.specs.Plain.{is_plain, is_plain_byte}
use Rattle.msc_picture.specs.Scenes.{shown_byte}

-- a text that is plain by a look at it
abbrev pub looks_plain : List ℕ → Bool
looks_plain [] = true
looks_plain (b ∷ bs) = is_plain_byte b && looks_plain bs

pub plain_by : (xs : List ℕ) → looks_plain xs ≡ true → is_plain xs ≡ true
unfolding is_plain
plain_by [] p = refl
plain_by (x ∷ xs) p =
    let parts = and_parts _ _ p in and_from _ _ parts.0 (plain_by xs parts.1)

-- one byte, and the first of several
pub plain_single : (b : ℕ) → is_plain_byte b ≡ true → is_plain (b ∷ []) ≡ true
unfolding is_plain
plain_single b p = and_from _ _ p refl

pub plain_cons : (b : ℕ) (bs : List ℕ) → is_plain (b ∷ bs) ≡ true
    → (is_plain_byte b ≡ true) × (is_plain bs ≡ true)
unfolding is_plain
plain_cons b bs p = and_parts _ _ p

-- a byte between the two ends
pub plain_between : (b : ℕ) → 32 ≤ b → b ≤ 126 → is_plain_byte b ≡ true
plain_between b low high = or_right _ _ (and_from _ _ (le-leb 32 b low) (le-leb b 126 high))

pub plain_join : (xs ys : List ℕ) → is_plain xs ≡ true → is_plain ys ≡ true
    → is_plain (xs ++ ys) ≡ true
unfolding is_plain
plain_join [] ys p q = q
plain_join (x ∷ xs) ys p q =
    let parts = and_parts _ _ p in and_from _ _ parts.0 (plain_join xs ys parts.1 q)

pub plain_parts : (xs ys : List ℕ) → is_plain (xs ++ ys) ≡ true
    → (is_plain xs ≡ true) × (is_plain ys ≡ true)
unfolding is_plain
plain_parts [] ys p = (refl, p)
plain_parts (x ∷ xs) ys p =
    let parts = and_parts _ _ p in
    let rest = plain_parts xs ys parts.1 in (and_from _ _ parts.0 rest.0, rest.1)

pub plain_take : (n : ℕ) (xs : List ℕ) → is_plain xs ≡ true → is_plain (take n xs) ≡ true
unfolding is_plain
plain_take zero xs p = refl
plain_take (suc n) [] p = refl
plain_take (suc n) (x ∷ xs) p =
    let parts = and_parts _ _ p in and_from _ _ parts.0 (plain_take n xs parts.1)

pub plain_replicate : (n b : ℕ) → is_plain_byte b ≡ true → is_plain (replicate n b) ≡ true
unfolding is_plain
plain_replicate zero b p = refl
plain_replicate (suc n) b p = and_from _ _ p (plain_replicate n b p)

pub plain_set : (xs : List ℕ) (k b : ℕ) → is_plain xs ≡ true → is_plain_byte b ≡ true
    → is_plain (slice_set xs k b) ≡ true
unfolding is_plain
plain_set [] k b p q = refl
plain_set (x ∷ xs) zero b p q = and_from _ _ q (and_parts _ _ p).1
plain_set (x ∷ xs) (suc k) b p q =
    let parts = and_parts _ _ p in and_from _ _ parts.0 (plain_set xs k b parts.1 q)

pub plain_at : (xs : List ℕ) (k : ℕ) → k < length xs → is_plain xs ≡ true
    → is_plain_byte (get_or xs k 0) ≡ true
unfolding is_plain
plain_at [] k inside p = absurd (omega arith)
plain_at (x ∷ xs) zero inside p = (and_parts _ _ p).0
plain_at (x ∷ xs) (suc k) inside p = plain_at xs k (omega arith) (and_parts _ _ p).1

-- of one of two texts
pub plain_choice : (b : Bool) (xs ys : List ℕ) → is_plain xs ≡ true → is_plain ys ≡ true
    → is_plain (cond b xs ys) ≡ true
plain_choice true xs ys p q = p
plain_choice false xs ys p q = q

-- of each of several texts
pub plain_flat : {X : Type 0} (f : X → List ℕ) (xs : List X)
    → ((x : X) → is_plain (f x) ≡ true) → is_plain (flat_map f xs) ≡ true
plain_flat {X} f [] p = plain_by [] refl
plain_flat {X} f (x ∷ xs) p = plain_join (f x) (flat_map f xs) (p x) (plain_flat f xs p)

-- over a fold
pub plain_fold : {X : Type 0} (f : List ℕ → X → List ℕ) (z : List ℕ) (xs : List X)
    → is_plain z ≡ true → ((l : List ℕ) (x : X) → is_plain l ≡ true → is_plain (f l x) ≡ true)
    → is_plain (fold f z xs) ≡ true
plain_fold {X} f z [] p step = p
plain_fold {X} f z (x ∷ xs) p step = plain_fold f (f z x) xs (step z x p) step

-- and over one of numbers of a range
pub plain_fold_range : (f : List ℕ → ℕ → List ℕ) (z : List ℕ) (a n : ℕ) → is_plain z ≡ true
    → ((l : List ℕ) (k : ℕ) → a ≤ k → k < a + n → is_plain l ≡ true → is_plain (f l k) ≡ true)
    → is_plain (fold f z (range_with_len a n)) ≡ true
plain_fold_range f z a zero p step = p
plain_fold_range f z a (suc n) p step =
    plain_fold_range f (f z a) (a + 1) n (step z a (omega arith) (omega arith) p)
    (λ l k low high. step l k (omega (arith, low)) (omega (arith, high)))

-- a digit is
glyph_plain : (d : ℕ) → d < 10 → is_plain_byte (digit_glyph false d) ≡ true
glyph_plain d small =
    rw (lt-ltb d 10 small) (plain_between (48 + d) (omega arith) (omega (arith, small)))

-- of one of two texts, by whether a number is 0
choice_plain : (n : ℕ) (xs ys : List ℕ) → is_plain xs ≡ true → is_plain ys ≡ true
    → is_plain (if n == 0 then xs else ys) ≡ true
choice_plain n xs ys p q = by_test (n == 0) (λ yes_zero. rw yes_zero p) (λ other. rw other q)

-- so is a number
digits_plain : (k n : ℕ) (acc : List ℕ) → is_plain acc ≡ true
    → is_plain (digits_onto k 10 false n acc) ≡ true
unfolding is_plain
digits_plain zero n acc p = p
digits_plain (suc k) n acc p =
    let digit : is_plain_byte (digit_glyph false (n % 10)) ≡ true = glyph_plain (n % 10) (omega arith) in
    choice_plain (n / 10) (digit_glyph false (n % 10) ∷ acc)
    (digits_onto k 10 false (n / 10) (digit_glyph false (n % 10) ∷ acc)) (and_from _ _ digit p)
    (digits_plain k (n / 10) (digit_glyph false (n % 10) ∷ acc) (and_from _ _ digit p))

pub plain_decimal : (n : ℕ) → is_plain (decimal n) ≡ true
unfolding digits is_plain
plain_decimal n = digits_plain 64 n [] refl

-- so is what is shown of a text
shown_plain : (b : ℕ) → is_plain_byte (shown_byte b) ≡ true
shown_plain b = by_test (nat_lt b 32)
    (λ low. rw low refl)
    (λ high. by_test (nat_lt 126 b)
    (λ past. rw high (rw past refl))
    (λ below. rw high (rw below (plain_between b (ltb-false b 32 high) (ltb-false 126 b below)))))

pub plain_shown : (xs : List ℕ) → is_plain (map shown_byte xs) ≡ true
unfolding is_plain
plain_shown [] = refl
plain_shown (x ∷ xs) = and_from _ _ (shown_plain x) (plain_shown xs)
