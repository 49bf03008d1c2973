-- A table is closed under transitivity: over one number after the other.
use Rattle.std.proofs.Common.{◌≡◌, ℕ, ◌+◌, ◌<◌, true, inl, inr, List, subst, arith}
use Rattle.std.proofs.lemmas.Bool.{cases_eq}
use Rattle.bit_rows.specs.Tables.{cell}
use Rattle.std.specs.Prelude.{Option, None, Some, MatchOption}
use Rattle.msc_chart.specs.Lists.{IsLeast}
use Rattle.msc_follow.specs.Paths.{Path, HasNoClosedPath, IsLeastOnARing}
use Rattle.msc_follow.specs.Tables.{HasJoined, IsClosed}

module _ (n : ℕ) (old now : List ℕ) (k i : ℕ) (joins : HasJoined n old now k i) where
  -- row k is still what it was
  row_k : (y : ℕ) → cell n now k y ≡ true → cell n old k y ≡ true
  row_k y h = elim (joins.only k y h) [ inl before ↦ before | inr both ↦ both.1 ]

  -- and so is column k
  column_k : (x : ℕ) → cell n now x k ≡ true → cell n old x k ≡ true
  column_k x h = elim (joins.only x k h) [ inl before ↦ before | inr both ↦ both.0 ]

-- at first a table is closed over no number
pub closed_none : (n : ℕ) (old : List ℕ) → IsClosed n old old 0
closed_none n old = record { kept = λ x y h. h; paths = λ x y h. Path.step h; over = λ x m y inside below. absurd (omega (arith, below)) }

-- once the rows that have k are joined, it is closed over k too
pub closed_more : (n : ℕ) (old now new : List ℕ) (k : ℕ) → k < n → IsClosed n old now k → HasJoined n now new k n → IsClosed n old new (k + 1)
closed_more n old now new k k_below closed joins = record {
  kept = λ x y h. joins.kept x y (closed.kept x y h);
  paths = λ x y h. elim (joins.only x y h) [
    | inl before ↦ closed.paths x y before
    | inr both ↦ Path.joined (closed.paths x k both.0) (closed.paths k y both.1)
  ];
  over = λ x m y inside below h g.
      let into_k : cell n new x k ≡ true → cell n now x k ≡ true = column_k n now new k n joins x in
      let from_k : cell n new k y ≡ true → cell n now k y ≡ true = row_k n now new k n joins y in
      let over_k = joins.joined x y inside in
      elim (cases_eq m k) [
        | inl is ↦
            over_k (into_k (subst (λ (z : ℕ). cell n new x z ≡ true) is h)) (from_k (subst (λ (z : ℕ). cell n new z y ≡ true) is g))
        | inr other ↦
            let m_below : m < k = omega (arith, below, other) in
            elim (joins.only x m h) [
              | inl a ↦ elim (joins.only m y g) [
                | inl b ↦ joins.kept x y (closed.over x m y inside m_below a b)
                | inr b ↦ over_k (closed.over x m k inside m_below a b.0) b.1
              ]
              | inr a ↦ elim (joins.only m y g) [
                | inl b ↦ over_k a.0 (closed.over k m y k_below m_below a.1 b)
                | inr b ↦ over_k a.0 b.1
              ]
            ]
      ];
}

module _ (n : ℕ) (old new : List ℕ) (closed : IsClosed n old new n) (within : (x y : ℕ) → cell n old x y ≡ true → (x < n) × (y < n)) where
  -- a closed table has each path of what it was made from
  path_closed : (x y : ℕ) → Path (cell n old) x y → (x < n) × (y < n) × (cell n new x y ≡ true)
  path_closed x y (Path.step h) = let p = within x y h in (p.0, p.1, closed.kept x y h)
  path_closed x y (Path.joined {y = m} h g) =
      let a = path_closed x m h in
      let b = path_closed m y g in
      (a.0, b.1, closed.over x m y a.0 a.1 a.2 b.2)

  -- so the least number that it pairs with itself is the least from which a path leads back
  pub least_closed : (found : Option ℕ)
      → MatchOption found ((e : ℕ) → e < n → cell n new e e ≡ true → ⊥) (IsLeast (λ e. (e < n) × (cell n new e e ≡ true)))
      → MatchOption found (HasNoClosedPath (cell n old)) (IsLeastOnARing (cell n old))
  least_closed None none = λ e path. let p = path_closed e e path in none e p.0 p.2
  least_closed (Some e) least = record {
    itself = closed.paths e e least.itself.1;
    none_below = λ y less path. let p = path_closed y y path in least.none_below y less (p.0, p.2);
  }
