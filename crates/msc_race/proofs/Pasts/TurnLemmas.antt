-- What the turn of a queue tells, and that it is told of all queues.
use Rattle.std.proofs.Common.{◌≡◌, ◌≢◌, ℕ, ◌+◌, ◌<◌, ◌≤◌, ◌↔◌, ◌⊎◌, Bool, true, ◌&&◌, inl, inr, eqb, List, length, get_or, set, sym, ap, ◌∙◌, subst, arith, get_or-set_same, get_or-set_other}
use Rattle.std.proofs.lemmas.Bool.{and_from, and_parts, cases_eq, cases_lt, eqb-true, eq-eqb, or_cases, or_left, or_right}
use Rattle.msc_chart.specs.Charts.{partner, is_output}
use Rattle.msc_chart.specs.Orders.{WiredChart, queue}
use Rattle.bit_rows.specs.Rows.{has, IsWith, IsWithout}
use Rattle.msc_race.specs.Remainders.{HoldsExactly}
use Rattle.msc_race.specs.Short.{IsHeldFor, IsNeeded, IsTakenFor}
use Rattle.msc_race.specs.PastEvents.{AreNexts, AreSpans, HasTurned, IsNextTaken, IsReadyTo, IsSentFor, IsTakenLeft, IsUnheldFor, NoneIsLeft}
use Rattle.msc_race.proofs.Shared.{by_test, clash}
use Rattle.msc_race.proofs.Runs.EventLemmas.{output_below}
use Rattle.msc_race.proofs.Making.FrontLemmas.{still_in, was_in}

module _ (chart : WiredChart) (f : ℕ) where
  -- no output is left that is found nowhere from y on
  pub none_from : (left : List ℕ) (q : ℕ) → NoneIsLeft chart f left q → IsNextTaken chart f left q (length chart.events)
  none_from left q none = record {
    below = λ t taken. absurd (none t taken);
    within = omega arith;
    itself = λ less. absurd (omega (arith, less));
  }

  -- where the next one is past all events, none is left
  pub none_of_next : (left : List ℕ) (q y : ℕ) → IsNextTaken chart f left q y → y ≡ length chart.events → NoneIsLeft chart f left q
  none_of_next left q y next past t taken =
      let late = next.below t taken in
      let known = output_below chart.events t taken.0.0 in
      absurd (omega (arith, late, known, past))

  -- an output of the past to queue q stands from the first output of the queue on
  pub sent_from : (firsts ends : List ℕ) (n q y : ℕ) → AreSpans chart firsts ends n → n ≡ length chart.events → y ≡ get_or firsts q 0
      → (z : ℕ) → IsSentFor chart f q z → y ≤ z
  sent_from firsts ends n q y spans all is z sent =
      let known = output_below chart.events z sent.0 in
      let from = spans.from z (omega (arith, known, all)) sent.0 in
      let moved : get_or firsts (queue chart z) 0 ≡ get_or firsts q 0 = ap (λ p. get_or firsts p 0) sent.2 in
      omega (arith, from, moved, is)

  -- and before the end of the queue
  pub sent_past : (firsts ends : List ℕ) (n q y : ℕ) → AreSpans chart firsts ends n → n ≡ length chart.events → y ≡ get_or ends q 0
      → (z : ℕ) → IsSentFor chart f q z → z < y
  sent_past firsts ends n q y spans all is z sent =
      let known = output_below chart.events z sent.0 in
      let past = spans.past z (omega (arith, known, all)) sent.0 in
      let moved : get_or ends (queue chart z) 0 ≡ get_or ends q 0 = ap (λ p. get_or ends p 0) sent.2 in
      omega (arith, past, moved, is)

  -- one output more does not wait, where it is of the past and of the queue
  pub released_more : (first old new : List ℕ) (q y : ℕ) (b : Bool)
      → ((z : ℕ) → (has old z ≡ true) ↔ ((has first z ≡ true) ⊎ (IsSentFor chart f q z × (z < y))))
      → IsWith old new b y → ((b ≡ true) ↔ IsSentFor chart f q y)
      → (z : ℕ) → (has new z ≡ true) ↔ ((has first z ≡ true) ⊎ (IsSentFor chart f q z × (z < y + 1)))
  released_more first old new q y b told wider here z = (
    λ h. elim (or_cases (has old z) (b && eqb z y) (sym (wider z) ∙ h)) [
      | inl before ↦ elim ((told z).0 before) [
        | inl there ↦ inl there
        | inr sent ↦ let less = sent.1 in inr (sent.0, omega (arith, less))
      ]
      | inr more ↦
          let both = and_parts b (eqb z y) more in
          let same : z ≡ y = eqb-true z y both.1 in
          inr (subst (λ (w : ℕ). IsSentFor chart f q w) (sym same) (here.0 both.0), omega (arith, same))
    ],
    λ h. wider z ∙ elim h [
      | inl there ↦ or_left (has old z) (b && eqb z y) ((told z).1 (inl there))
      | inr sent ↦ elim (cases_lt z y) [
        | inl less ↦ or_left (has old z) (b && eqb z y) ((told z).1 (inr (sent.0, less)))
        | inr past ↦
            let most = sent.1 in
            let same : z ≡ y = omega (arith, past, most) in
            or_right (has old z) (b && eqb z y)
            (and_from b (eqb z y) (here.1 (subst (λ (w : ℕ). IsSentFor chart f q w) same sent.0)) (eq-eqb z y same))
      ]
    ],
  )

  -- before any turn the first outputs are held, and no held output is told of
  pub nexts_first : (firsts ends left : List ℕ) → AreSpans chart firsts ends (length chart.events) → AreNexts chart f left firsts
  nexts_first firsts ends left spans t taken there = spans.from t (output_below chart.events t taken.0) taken.0

  -- so that what does not wait is what is no held output
  pub untold_ready : (left ready : List ℕ) → HoldsExactly ready (IsUnheldFor chart f) → HoldsExactly ready (IsReadyTo chart f left 0)
  untold_ready left ready unheld y = (
    λ h. let p = (unheld y).0 h in (p.0, λ held. absurd (p.1 held)),
    λ p. (unheld y).1 (p.0, λ held. let r = p.1 held in let less = r.0 in omega (arith, less)),
  )

  -- what is held of a queue is set to its next output
  pub nexts_set : (left nexts : List ℕ) (q y : ℕ) → q < length nexts → AreNexts chart f left nexts → IsNextTaken chart f left q y
      → AreNexts chart f left (set nexts q y)
  nexts_set left nexts q y known were next t taken there = elim (cases_eq (queue chart t) q) [
    | inl same ↦
        let value : get_or (set nexts q y) (queue chart t) 0 ≡ y = ap (λ p. get_or (set nexts q y) p 0) same ∙ get_or-set_same nexts q y 0 known in
        let late = next.below t (taken, same, there) in
        omega (arith, value, late)
    | inr apart ↦
        let value = get_or-set_other nexts q (queue chart t) y 0 apart in
        let late = were t taken there in
        omega (arith, value, late)
  ]

  -- fewer events are left
  pub nexts_fewer : (before left nexts : List ℕ) (x : ℕ) → IsWithout before left x → AreNexts chart f before nexts → AreNexts chart f left nexts
  nexts_fewer before left nexts x without were t taken there = were t taken (was_in before left x without t there).0

  -- where the outputs of queue q are told, and none that is taken is left, it has turned
  pub turned_none : (left old new : List ℕ) (q : ℕ) → NoneIsLeft chart f left q
      → ((y : ℕ) → (has new y ≡ true) ↔ ((has old y ≡ true) ⊎ IsSentFor chart f q y)) → HasTurned chart f left q old new
  turned_none left old new q none told y = (
    λ h. elim ((told y).0 h) [ inl there ↦ inl there | inr sent ↦ inr (sent, none) ],
    λ h. (told y).1 (elim h [ inl there ↦ inl there | inr sent ↦ inr sent.0 ]),
  )

  -- and where one is left, nothing is told
  pub turned_some : (left old : List ℕ) (q t : ℕ) → IsTakenLeft chart f left q t → HasTurned chart f left q old old
  turned_some left old q t taken y = (
    λ h. inl h,
    λ h. elim h [ inl there ↦ there | inr sent ↦ absurd (sent.1 t taken) ],
  )

  -- The rows hold what is needed, and where it is a held output, only if its queue has a property.
  module _ (needed : List ℕ) (exact : HoldsExactly needed (IsNeeded chart f)) (q : ℕ) (Old New : ℕ → Type 0) where
    -- the event is needed, and the queue of a held output has the property
    abbrev IsOf : (ℕ → Type 0) → ℕ → Type 0
    IsOf P y = IsNeeded chart f y × (IsHeldFor chart f y → P (queue chart y))

    -- Queue q has turned: other queues have the new property where they had the old one, and q has the
    -- new one where it had the old one, or where N holds.
    pub after_turn : ((p : ℕ) → p ≢ q → Old p ↔ New p) → (Old q → New q) → (N : Type 0) → (New q ↔ N) → (old new : List ℕ)
        → HoldsExactly old (IsOf Old) → ((y : ℕ) → (has new y ≡ true) ↔ ((has old y ≡ true) ⊎ (IsSentFor chart f q y × N)))
        → HoldsExactly new (IsOf New)
    after_turn other own N told old new were turned y = (
      λ h. elim ((turned y).0 h) [
        | inl there ↦
            let p = (were y).0 there in (
              p.0,
              λ held. elim (cases_eq (queue chart y) q) [
                | inl same ↦ subst New (sym same) (own (subst Old same (p.1 held)))
                | inr apart ↦ (other (queue chart y) apart).0 (p.1 held)
              ],
            )
        | inr sent ↦ (sent.0.1, λ held. subst New (sym sent.0.2) (told.1 sent.1))
      ],
      λ p. (turned y).1 (by_test (is_output chart.events y)
          (λ out. by_test (has needed (partner chart.events y))
          (λ there. inl ((were y).1 (p.0, λ held. absurd (held.2 ((exact (partner chart.events y)).0 there)))))
          (λ none.
          let held : IsHeldFor chart f y = (out, p.0, λ h. clash ((exact (partner chart.events y)).1 h) none) in
          elim (cases_eq (queue chart y) q) [
            | inl same ↦ inr ((out, p.0, same), told.0 (subst New same (p.1 held)))
            | inr apart ↦ inl ((were y).1 (p.0, λ again. (other (queue chart y) apart).1 (p.1 again)))
          ]))
          (λ none. inl ((were y).1 (p.0, λ held. clash held.0 none)))),
    )

  module _ (needed : List ℕ) (exact : HoldsExactly needed (IsNeeded chart f)) (left : List ℕ) (q : ℕ) where
    -- It is told of one queue more.
    pub told_more : (old new : List ℕ) → HoldsExactly old (IsReadyTo chart f left q) → HasTurned chart f left q old new
        → HoldsExactly new (IsReadyTo chart f left (q + 1))
    told_more old new were turned =
        after_turn needed exact q (λ p. (p < q) × NoneIsLeft chart f left p) (λ p. (p < q + 1) × NoneIsLeft chart f left p)
        (λ p apart. (λ h. let less = h.0 in (omega (arith, less), h.1), λ h. let less = h.0 in (omega (arith, less, apart), h.1)))
        (λ h. let less = h.0 in absurd (omega (arith, less)))
        (NoneIsLeft chart f left q) (λ h. h.1, λ none. (omega arith, none)) old new were turned

    module _ (before : List ℕ) (x : ℕ) (without : IsWithout before left x) (count : ℕ) where
      -- where none was left none is left
      fewer : (p : ℕ) → NoneIsLeft chart f before p → NoneIsLeft chart f left p
      fewer p none t taken = none t (taken.0, taken.1, (was_in before left x without t taken.2).0)

      -- and in another queue than that of x none was left where none is left
      none_was : (p : ℕ) → (IsTakenFor chart f x → queue chart x ≢ p) → NoneIsLeft chart f left p → NoneIsLeft chart f before p
      none_was p apart none t taken =
          none t (
            taken.0,
            taken.1,
            still_in before left x without t taken.2 (λ same.
                apart (subst (λ (z : ℕ). IsTakenFor chart f z) same taken.0) (ap (λ z. queue chart z) (sym same) ∙ taken.1)),
          )

      -- When x has come, an output of queue q, it is told again of q.
      pub told_again : queue chart x ≡ q → q < count → (old new : List ℕ) → HoldsExactly old (IsReadyTo chart f before count)
          → HasTurned chart f left q old new → HoldsExactly new (IsReadyTo chart f left count)
      told_again here known old new were turned =
          after_turn needed exact q (λ p. (p < count) × NoneIsLeft chart f before p) (λ p. (p < count) × NoneIsLeft chart f left p)
          (λ p apart. (λ h. (h.0, fewer p h.1), λ h. (h.0, none_was p (λ taken same. apart (sym same ∙ here)) h.1)))
          (λ h. (h.0, fewer q h.1))
          (NoneIsLeft chart f left q) (λ h. h.1, λ none. (known, none)) old new were turned

      -- Another event changes nothing.
      pub told_still : (IsTakenFor chart f x → ⊥) → (old : List ℕ) → HoldsExactly old (IsReadyTo chart f before count)
          → HoldsExactly old (IsReadyTo chart f left count)
      told_still none old were y = (
        λ h. let p = (were y).0 h in (p.0, λ held. let r = p.1 held in (r.0, fewer (queue chart y) r.1)),
        λ p. (were y).1 (p.0, λ held. let r = p.1 held in (r.0, none_was (queue chart y) (λ taken. absurd (none taken)) r.1)),
      )
