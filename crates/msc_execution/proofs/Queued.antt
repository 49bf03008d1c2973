-- The places of a queue: what stands before what, and the greatest offers.
use Rattle.std.proofs.Common.{◌≡◌, ℕ, ◌<◌, ◌≤◌, max, Bool, true, false, cond, ◌&&◌, ◌||◌, inl, inr, eqb, List, [], ◌∷◌, ◌++◌, suc, refl, sym, ap, subst, ◌∙◌, arith}
use Rattle.std.proofs.lemmas.Bool.{eqb-true, eq-eqb, ne_eqb, and_parts, and_from, or_cases, or_left, or_right}
use Rattle.msc_chart.specs.Orders.{WiredChart, IsWired, queue}
use Rattle.msc_chart.specs.Charts.{partner, is_input}
use Rattle.msc_chart.specs.Lists.{occurs, until}
use Rattle.msc_chart.proofs.ListLemmas.{clash, by_test}
use Rattle.msc_chart.proofs.KindTests.{input_below}
use Rattle.msc_execution.specs.Clocks.{QueuePlace, messages, place_number, greatest_offer}
use Rattle.msc_execution.specs.Clocks.QueuePlace.{Message, EndMark}
use Rattle.msc_execution.specs.Timed.{taken_from}

-- an offer is no greater than the greatest up to its place
pub own_offer : (offer : ℕ → ℕ) (places : List QueuePlace) (s : ℕ) → occurs (messages places) s ≡ true
    → offer s ≤ greatest_offer offer places s
unfolding occurs messages greatest_offer
own_offer offer [] s h = clash h refl
own_offer offer (Message i x c ∷ places) s h =
    (elim (eqb x s) as (λ b. eqb x s ≡ b → (b || occurs (messages places) s) ≡ true
    → offer s ≤ cond b (offer x) (max (offer x) (greatest_offer offer places s))) [
      | true ↦ λ same k. let e : offer x ≡ offer s = ap offer (eqb-true x s same) in omega arith
      | false ↦ λ other k. let rest = own_offer offer places s k in omega arith
    ]) refl h
own_offer offer (EndMark i ∷ places) s h = let rest = own_offer offer places s h in omega arith

-- along the places the greatest offer doesn't fall, and the places rise
pub offers_rise : (offer : ℕ → ℕ) (places : List QueuePlace) (s t : ℕ)
    → occurs (until (messages places) t) s ≡ true
    → (greatest_offer offer places s ≤ greatest_offer offer places t)
    × (place_number places s < place_number places t)
unfolding occurs until messages greatest_offer place_number
offers_rise offer [] s t h = clash h refl
offers_rise offer (Message i x c ∷ places) s t h =
    (elim (eqb x t) as (λ b. occurs (cond b [] (x ∷ until (messages places) t)) s ≡ true
    → (cond (eqb x s) (offer x) (max (offer x) (greatest_offer offer places s))
    ≤ cond b (offer x) (max (offer x) (greatest_offer offer places t)))
    × (cond (eqb x s) 0 (suc (place_number places s)) < cond b 0 (suc (place_number places t)))) [
      | true ↦ λ k. clash k refl
      | false ↦ λ k.
          (elim (eqb x s) as (λ b. (b || occurs (until (messages places) t) s) ≡ true
          → (cond b (offer x) (max (offer x) (greatest_offer offer places s))
          ≤ max (offer x) (greatest_offer offer places t))
          × (cond b 0 (suc (place_number places s)) < suc (place_number places t))) [
            | true ↦ λ j. (omega arith, omega arith)
            | false ↦ λ j. let rest = offers_rise offer places s t
                j in (omega (arith, rest.0), omega (arith, rest.1))
          ]) k
    ]) h
offers_rise offer (EndMark i ∷ places) s t h = let rest =
    offers_rise offer places s t h in (omega (arith, rest.0), omega (arith, rest.1))

-- what stands before an event in the front of a list stands before it in the list
pub until-front : (xs ys : List ℕ) (t s : ℕ) → occurs (until xs t) s ≡ true
    → occurs (until (xs ++ ys) t) s ≡ true
unfolding occurs until
until-front [] ys t s h = clash h refl
until-front (x ∷ xs) ys t s h =
    (elim (eqb x t) as (λ b. occurs (cond b [] (x ∷ until xs t)) s ≡ true
    → occurs (cond b [] (x ∷ until (xs ++ ys) t)) s ≡ true) [
      | true ↦ λ k. k
      | false ↦ λ k. elim (or_cases (eqb x s) (occurs (until xs t) s) k) [
        | inl same ↦ or_left (eqb x s) (occurs (until (xs ++ ys) t) s) same
        | inr later ↦ or_right (eqb x s) (occurs (until (xs ++ ys) t) s)
            (until-front xs ys t s later)
      ]
    ]) h

-- an input that stands before another in a log took an output that stands before the other's
pub taken_in_order : (chart : WiredChart) → IsWired chart → (q : ℕ) (log : List ℕ) (r u : ℕ)
    → is_input chart.events r ≡ true → queue chart r ≡ q → is_input chart.events u ≡ true
    → occurs (until log u) r ≡ true → occurs
    (until (taken_from chart q log) (partner chart.events u)) (partner chart.events r) ≡ true
unfolding occurs until taken_from
taken_in_order chart matched q [] r u ri rq ui h = clash h refl
taken_in_order chart matched q (x ∷ log) r u ri rq ui h =
    by_test (eqb x u)
    (λ same. clash (subst (λ (b : Bool). occurs (cond b [] (x ∷ until log u)) r ≡ true) same h)
    refl)
    (λ other.
    let apart : x ≡ u → ⊥ = λ e. clash (eq-eqb x u e) other in
    let k : (eqb x r || occurs (until log u) r) ≡ true =
    subst (λ (b : Bool). occurs (cond b [] (x ∷ until log u)) r ≡ true) other h in
    elim (or_cases (eqb x r) (occurs (until log u) r) k) [
      | inl here ↦
          let xr : x ≡ r = eqb-true x r here in
          let passes : (is_input chart.events x && eqb (queue chart x) q) ≡ true =
          subst (λ (z : ℕ). (is_input chart.events z && eqb (queue chart z) q) ≡ true) (sym xr)
          (and_from _ _ ri (eq-eqb _ _ rq)) in
          let partners : partner chart.events x ≡ partner chart.events u → ⊥ = λ e.
          apart (sym (matched.matched.to_and_fro x
          (input_below chart.events x (and_parts _ _ passes).0))
          ∙ ap (λ z. partner chart.events z) e
          ∙ matched.matched.to_and_fro u (input_below chart.events u ui)) in
          rw passes (rw (ne_eqb _ _ partners)
          (or_left _ _ (eq-eqb _ _ (ap (λ z. partner chart.events z) xr))))
      | inr later ↦
          let rest = taken_in_order chart matched q log r u ri rq ui later in
          by_test (is_input chart.events x && eqb (queue chart x) q)
          (λ passes.
          let partners : partner chart.events x ≡ partner chart.events u → ⊥ = λ e.
          apart (sym (matched.matched.to_and_fro x
          (input_below chart.events x (and_parts _ _ passes).0))
          ∙ ap (λ z. partner chart.events z) e
          ∙ matched.matched.to_and_fro u (input_below chart.events u ui)) in
          rw passes (rw (ne_eqb _ _ partners) (or_right _ _ rest)))
          (λ fails. rw fails rest)
    ])

-- what a log took
pub taken_has : (chart : WiredChart) (q : ℕ) (log : List ℕ) (r : ℕ) → is_input chart.events r ≡ true
    → queue chart r ≡ q → occurs log r ≡ true → occurs (taken_from chart q log)
    (partner chart.events r) ≡ true
unfolding occurs taken_from
taken_has chart q [] r ri rq h = clash h refl
taken_has chart q (x ∷ log) r ri rq h =
    elim (or_cases (eqb x r) (occurs log r) h) [
      | inl here ↦
          let xr : x ≡ r = eqb-true x r here in
          let passes : (is_input chart.events x && eqb (queue chart x) q) ≡ true =
          subst (λ (z : ℕ). (is_input chart.events z && eqb (queue chart z) q) ≡ true) (sym xr)
          (and_from _ _ ri (eq-eqb _ _ rq)) in
          rw passes (or_left _ _ (eq-eqb _ _ (ap (λ z. partner chart.events z) xr)))
      | inr later ↦
          let rest = taken_has chart q log r ri rq later in
          by_test (is_input chart.events x && eqb (queue chart x) q)
          (λ passes. rw passes (or_right _ _ rest))
          (λ fails. rw fails rest)
    ]
