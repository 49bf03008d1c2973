-- Where one number at most may come next, lists of steps go alike.
use Rattle.std.proofs.Common.{◌≡◌, ℕ, true, inl, inr, List, [], ◌∷◌, ◌++◌, refl, sym, ap, ◌∙◌, subst, append_assoc}
use Rattle.std.proofs.lemmas.List.{append-nil}
use Rattle.msc_chart.specs.Lists.{occurs, Steps}
use Rattle.msc_chart.proofs.ListLemmas.{occurs-head, occurs-tail}
use Rattle.msc_race.proofs.Pasts.Pigeons.{head_or_behind}

module _ (May : List ℕ → ℕ → Type 0) (one : (past : List ℕ) (x y : ℕ) → May past x → May past y → x ≡ y) where
  -- after these nothing may come next
  abbrev pub IsStuck : List ℕ → Type 0
  IsStuck past = (x : ℕ) → May past x → ⊥

  -- what is in a list of steps is in one that goes as far as it can
  pub within_stuck : (past xs ys : List ℕ) → Steps May past xs → Steps May past ys → IsStuck (past ++ xs) → (z : ℕ)
      → occurs ys z ≡ true → occurs xs z ≡ true
  unfolding occurs
  within_stuck past xs [] h k stuck z there = cc
  within_stuck past [] (y ∷ ys) h k stuck z there =
      absurd (stuck y (subst (λ (l : List ℕ). May l y) (sym (append-nil past)) k.0))
  within_stuck past (x ∷ xs) (y ∷ ys) h k stuck z there =
      let same : x ≡ y = one past x y h.0 k.0 in
      let h2 : Steps May (past ++ y ∷ []) xs = subst (λ (w : ℕ). Steps May (past ++ w ∷ []) xs) same h.1 in
      let end : IsStuck ((past ++ y ∷ []) ++ xs) = rw append_assoc (subst (λ (w : ℕ). IsStuck (past ++ w ∷ xs)) same stuck) in
      elim (head_or_behind y ys z there) [
        | inl is ↦ subst (λ (w : ℕ). occurs (x ∷ xs) w ≡ true) (same ∙ is) (occurs-head x xs)
        | inr later ↦ occurs-tail x xs z (within_stuck (past ++ y ∷ []) xs ys h2 k.1 end z later)
      ]

  -- two that go as far as they can are the same
  pub stuck_same : (past xs ys : List ℕ) → Steps May past xs → Steps May past ys → IsStuck (past ++ xs) → IsStuck (past ++ ys)
      → xs ≡ ys
  stuck_same past [] [] h k u v = refl
  stuck_same past [] (y ∷ ys) h k u v = absurd (u y (subst (λ (l : List ℕ). May l y) (sym (append-nil past)) k.0))
  stuck_same past (x ∷ xs) [] h k u v = absurd (v x (subst (λ (l : List ℕ). May l x) (sym (append-nil past)) h.0))
  stuck_same past (x ∷ xs) (y ∷ ys) h k u v =
      let same : x ≡ y = one past x y h.0 k.0 in
      let h2 : Steps May (past ++ y ∷ []) xs = subst (λ (w : ℕ). Steps May (past ++ w ∷ []) xs) same h.1 in
      let u2 : IsStuck ((past ++ y ∷ []) ++ xs) = rw append_assoc (subst (λ (w : ℕ). IsStuck (past ++ w ∷ xs)) same u) in
      let v2 : IsStuck ((past ++ y ∷ []) ++ ys) = rw append_assoc v in
      let rest = stuck_same (past ++ y ∷ []) xs ys h2 k.1 u2 v2 in
      ap (λ w. w ∷ xs) same ∙ ap (λ l. y ∷ l) rest
