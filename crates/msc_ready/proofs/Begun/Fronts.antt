-- The first events of the lines that have not occurred.
use Rattle.std.proofs.Common.{◌≡◌, ◌≢◌, ℕ, ◌<◌, ◌≤◌, ◌+◌, Bool, true, List, [], ◌∷◌, ◌++◌, length, get_or, refl, sym, ap, ◌∙◌, subst, arith, inl, inr, set, get_or-set_other, get_or-set_same}
use Rattle.std.proofs.lemmas.Bool.{cases_eq, cases_lt}
use Rattle.std.proofs.lemmas.List.{get_or_append_left, length_push}
use Rattle.std.proofs.Math.ListN.{length-set}
use Rattle.std.proofs.Math.Seq.{get_or-append_seam}
use Rattle.msc_chart.specs.declared.event.ChartEvent.{ChartEvent}
use Rattle.msc_chart.specs.Lists.{occurs}
use Rattle.msc_chart.specs.Charts.{line, segment, before, IsInTextOrder}
use Rattle.msc_chart.specs.Drawings.{Drawing, IsLine}
use Rattle.msc_chart.proofs.Drawn.{before_from}
use Rattle.msc_race.proofs.Making.LinkLemmas.{any_default}
use Rattle.msc_ready.specs.Beginnings.{HasMarks, HasFronts, IsFront, IsNextFront}
use Rattle.msc_ready.proofs.Shared.{by_test, clash, before_parts, occurs-left, occurs_other}

-- the first event of a line is its front while nothing has occurred
pub first_front : (d : Drawing) (i start end : ℕ) → IsLine d i start end → IsFront d.events [] i start
unfolding occurs
first_front d i start end is_line = record {
  passed = λ y below inside same. let within = (is_line y inside).0 same in absurd (omega (arith, within.0, below));
  itself = λ inside same. refl;
  reach = λ y past inside same.
      let within = (is_line y inside).0 same in
      (is_line start (omega (arith, past, inside))).1 (omega arith, omega (arith, within.1, past));
}

-- the fronts of the lines below k
pub record AreFrontsBelow (d : Drawing) (run fronts : List ℕ) (k : ℕ) : Type 0 where
  pub each : length fronts ≡ k
  pub front : (i : ℕ) → i < k → IsFront d.events run i (get_or fronts i 0)

-- one more line with its front
pub fronts_more : (d : Drawing) (run fronts : List ℕ) (k f : ℕ) → AreFrontsBelow d run fronts k → IsFront d.events run k f
    → AreFrontsBelow d run (fronts ++ f ∷ []) (k + 1)
fronts_more d run fronts k f before own = record {
  each = length_push fronts f ∙ ap (λ (n : ℕ). n + 1) before.each;
  front = λ i below. elim (cases_lt i k) [
    | inl less ↦
        let size = before.each in
        subst (λ (x : ℕ). IsFront d.events run i x) (sym (get_or_append_left fronts (f ∷ []) 0 i (omega (arith, less, size)))) (before.front i less)
    | inr more ↦
        let same : i ≡ k = omega (arith, more, below) in
        let seam : IsFront d.events run k (get_or (fronts ++ f ∷ []) (length fronts) 0) =
        subst (λ (x : ℕ). IsFront d.events run k x) (sym (get_or-append_seam fronts f [] 0)) own in
        subst (λ (n : ℕ). IsFront d.events run n (get_or (fronts ++ f ∷ []) n 0)) (sym same)
        (subst (λ (n : ℕ). IsFront d.events run k (get_or (fronts ++ f ∷ []) n 0)) before.each seam)
  ];
}

module _ (events : List ChartEvent) (text : IsInTextOrder events) (run : List ℕ) where
  -- where all that is drawn before x has occurred, the front of its line is not drawn before it
  pub front_not_before : (x f : ℕ) → IsFront events run (line events x) f
      → ((y : ℕ) → before events y x ≡ true → occurs run y ≡ true) → before events f x ≡ true → ⊥
  front_not_before x f front all h =
      let parts = before_parts events f x h in
      clash (all f h) (front.itself parts.0 parts.2)

  -- and where that is past the events, or not drawn before x, all that is drawn before x has occurred
  pub settled_by : (x f : ℕ) → IsFront events run (line events x) f → (f < length events → before events f x ≡ true → ⊥)
      → (y : ℕ) → before events y x ≡ true → occurs run y ≡ true
  settled_by x f front apart y h =
      let parts = before_parts events y x h in
      by_test (occurs run y) (λ there. there)
      (λ out. elim (cases_lt y f) [
        | inl less ↦ front.passed y less parts.0 parts.2
        | inr past ↦
            let f_below : f < length events = omega (arith, past, parts.0) in
            let f_line = front.reach y past parts.0 parts.2 in
            let rises : segment events f ≤ segment events y = text.rising f y past parts.0 (f_line ∙ sym parts.2) in
            let lower : segment events y < segment events x = parts.3 in
            absurd (apart f_below (before_from events f x f_below parts.1 f_line (omega (arith, rises, lower))))
      ])

  module _ (x : ℕ) (x_below : x < length events) where
    -- the front of a line goes on to the next event that has not occurred
    pub front_after : (done : List Bool) (f g : ℕ) → HasMarks (length events) (run ++ x ∷ []) done
        → IsFront events run (line events x) f → IsNextFront events done (line events x) f g
        → IsFront events (run ++ x ∷ []) (line events x) g
    front_after done f g marks front next = record {
      passed = λ y below inside same. elim (cases_lt y f) [
        | inl less ↦ occurs-left run (x ∷ []) y (front.passed y less inside same)
        | inr past ↦ sym (marks.told y inside) ∙ next.between y past below inside
      ];
      itself = λ inside same. sym (marks.told g inside) ∙ next.itself inside same;
      reach = λ y past inside same.
          let later = next.later in
          let f_line = front.reach y (omega (arith, past, later)) inside same in
          let g_below : g < length events = omega (arith, past, inside) in
          let low : line events f ≤ line events g = text.lines f g later g_below in
          let high : line events g ≤ line events y = text.lines g y past inside in
          omega (arith, low, high, f_line, same);
    }

    -- the fronts of other lines stay
    pub front_other : (i f : ℕ) → i ≢ line events x → IsFront events run i f → IsFront events (run ++ x ∷ []) i f
    front_other i f other front = record {
      passed = λ y below inside same. occurs-left run (x ∷ []) y (front.passed y below inside same);
      itself = λ inside same.
          occurs_other run x f (λ is. other (sym (subst (λ (z : ℕ). line events z ≡ i) is same))) ∙ front.itself inside same;
      reach = front.reach;
    }

-- the fronts after x has occurred
pub fronts_after : (d : Drawing) (text : IsInTextOrder d.events) (run fronts : List ℕ) (done : List Bool) (x g : ℕ)
    → x < length d.events → line d.events x < length d.instances → HasMarks (length d.events) (run ++ x ∷ []) done → HasFronts d run fronts
    → IsNextFront d.events done (line d.events x) (get_or fronts (line d.events x) 0) g
    → HasFronts d (run ++ x ∷ []) (set fronts (line d.events x) g)
fronts_after d text run fronts done x g below on marks before next = record {
  each = length-set fronts (line d.events x) g ∙ before.each;
  front = λ i inside. elim (cases_eq i (line d.events x)) [
    | inl same ↦
        let size = before.each in
        let here = front_after d.events text run x below done (get_or fronts (line d.events x) 0) g marks (before.front (line d.events x) on) next in
        let at : get_or (set fronts (line d.events x) g) (line d.events x) 0 ≡ g = get_or-set_same fronts (line d.events x) g 0 (omega (arith, size, on)) in
        subst (λ (n : ℕ). IsFront d.events (run ++ x ∷ []) n (get_or (set fronts (line d.events x) g) n 0)) (sym same)
        (subst (λ (n : ℕ). IsFront d.events (run ++ x ∷ []) (line d.events x) n) (sym at) here)
    | inr other ↦
        subst (λ (n : ℕ). IsFront d.events (run ++ x ∷ []) i n) (sym (get_or-set_other fronts (line d.events x) i g 0 other))
        (front_other d.events text run x below i (get_or fronts i 0) other (before.front i inside))
  ];
}

-- the front that is read is that of the line
pub front_read : (d : Drawing) (run fronts : List ℕ) (i j f : ℕ) → HasFronts d run fronts → j < length d.instances → i ≡ j
    → f ≡ get_or fronts i f → IsFront d.events run j f
front_read d run fronts i j f held below same read =
    let each = held.each in
    subst (λ (g : ℕ). IsFront d.events run j g)
    (sym (read ∙ any_default fronts i f 0 (omega (arith, each, below, same)) ∙ ap (λ (k : ℕ). get_or fronts k 0) same)) (held.front j below)
