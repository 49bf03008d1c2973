-- Tables of pairs: which they have.
use Rattle.std.proofs.Common.{◌≡◌, ◌≢◌, ℕ, ◌<◌, ◌≤◌, Bool, true, false, ◌&&◌, ◌||◌, nat_eq, nat_lt, List, inl, inr, refl, sym, ap, ◌∙◌, arith}
use Rattle.std.proofs.lemmas.Bool.{cases_lt, le-ltb, lt-ltb, ne_eqb}
use Rattle.bit_rows.specs.Tables.{cell}
use Rattle.msc_reason.specs.PairTables.{has_pair, pair_table, PairTable}

-- nothing holds with what does not
none_with : (a b : Bool) → (a && (b && false)) ≡ false
none_with true true = refl
none_with true false = refl
none_with false b = refl

-- a table without cells has no pair
pub none_has : (n : ℕ) (cells : List ℕ) → ((x y : ℕ) → cell n cells x y ≡ false) → (x y : ℕ) → has_pair (pair_table n cells) x y ≡ false
unfolding has_pair
none_has n cells none x y = ap (λ b. nat_lt x n && (nat_lt y n && b)) (none x y) ∙ none_with (nat_lt x n) (nat_lt y n)

-- none has a number past its events
pub past_first : (t : PairTable) (x y : ℕ) → t.events ≤ x → has_pair t x y ≡ false
unfolding has_pair
past_first t x y past = rw (le-ltb x t.events past) refl

pub past_second : (t : PairTable) (x y : ℕ) → t.events ≤ y → has_pair t x y ≡ false
unfolding has_pair
past_second t x y past = rw (le-ltb y t.events past) (by (nat_lt x t.events))
  where
    by : (a : Bool) → (a && false) ≡ false
    by true = refl
    by false = refl

-- of two events it has what its cell has
pub within : (t : PairTable) (x y : ℕ) → x < t.events → y < t.events → has_pair t x y ≡ cell t.events t.cells x y
unfolding has_pair
within t x y first second = rw (lt-ltb x t.events first, lt-ltb y t.events second) refl

-- other pairs are not put
other_first : (old : Bool) (x e y f : ℕ) → old ≡ false → x ≢ e → false ≡ (old || (nat_eq x e && nat_eq y f))
other_first old x e y f none other = rw (none, ne_eqb x e other) refl

other_second : (old : Bool) (x e y f : ℕ) → old ≡ false → y ≢ f → false ≡ (old || (nat_eq x e && nat_eq y f))
other_second old x e y f none other = rw (none, ne_eqb y f other) (by (nat_eq x e))
  where
    by : (a : Bool) → false ≡ (a && false)
    by true = refl
    by false = refl

-- a pair that is put is had, and no other one more
pub put_has : (n : ℕ) (old new : List ℕ) (e f : ℕ) → e < n → f < n
    → ((x y : ℕ) → cell n new x y ≡ (cell n old x y || (nat_eq x e && nat_eq y f)))
    → (x y : ℕ) → has_pair (pair_table n new) x y ≡ (has_pair (pair_table n old) x y || (nat_eq x e && nat_eq y f))
put_has n old new e f e_known f_known put x y = elim (cases_lt x n) [
  | inl first ↦ elim (cases_lt y n) [
    | inl second ↦
        within (pair_table n new) x y first second ∙ put x y
        ∙ ap (λ b. b || (nat_eq x e && nat_eq y f)) (sym (within (pair_table n old) x y first second))
    | inr past ↦
        past_second (pair_table n new) x y past
        ∙ other_second (has_pair (pair_table n old) x y) x e y f (past_second (pair_table n old) x y past) (let other : y ≢ f = omega (arith, past, f_known) in other)
  ]
  | inr past ↦
      past_first (pair_table n new) x y past
      ∙ other_first (has_pair (pair_table n old) x y) x e y f (past_first (pair_table n old) x y past) (let other : x ≢ e = omega (arith, past, e_known) in other)
]
