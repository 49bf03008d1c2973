-- The sorting of the events into a linear order: what may be put next, and what is kept.
use Rattle.std.proofs.Common.{◌≡◌, ℕ, ◌+◌, ◌-◌, ◌<◌, ◌≤◌, ◌⊎◌, Bool, true, false, not, cond, List, [], ◌∷◌, ◌++◌, length, get_or, set, inl, inr, refl, sym, ap, subst, ◌∙◌, arith, get_or-set_other, get_or-set_same, length-set}
use Rattle.std.specs.Prelude.{count_by}
use Rattle.std.proofs.Math.ListN.{replicate}
use Rattle.std.proofs.lemmas.Bool.{cases_lt, cases_eq}
use Rattle.std.proofs.lemmas.List.{get_or-replicate, length-replicate, length-append, get_or_past}
use Rattle.std.proofs.lemmas.List.Folds.{sum_by-replicate}
use Rattle.std.proofs.lemmas.List.Sums.{sum_by-set}
use Rattle.msc_chart.specs.declared.event.ChartEvent.{ChartEvent}
use Rattle.msc_chart.specs.Lists.{occurs, Steps}
use Rattle.msc_chart.specs.Charts.{line, segment, partner, is_input, is_controlled, before, Visual, Follows}
use Rattle.msc_chart.specs.Charts.Visual.{seen, passed, linked}
use Rattle.msc_chart.specs.Sortings.{IsDirectly, is_put, NoneLeftBelow, IsLeftOn, IsUnbarred, IsBarred, AreReady, IsSortingOf}
use Rattle.msc_chart.proofs.ListLemmas.{by_test, clash, occurs-push, occurs_other, occurs_at, until-within, Steps-push, step_at}
use Rattle.msc_chart.proofs.Drawn.{before_from, before_parts, output_parts, controlled_no_input, partner_of_output, partner_of_input}

module _ (events : List ChartEvent) (marks : List Bool) where
  -- one event more of a line that was put, or of another line
  pub none-next : (i k : ℕ) → NoneLeftBelow events marks i k → (IsLeftOn events marks i k → ⊥) → NoneLeftBelow events marks i (k + 1)
  none-next i k none out x within below on =
      elim (cases_lt x k) [
        | inl lt ↦ none x within lt on
        | inr ge ↦
            let same : x ≡ k = omega arith in
            by_test (is_put marks x)
            (λ there. there)
            (λ left. absurd (out (record { on_line = ap (line events) (sym same) ∙ on; left = ap (is_put marks) (sym same) ∙ left })))
      ]

  -- where an event is left, so is the first of its line
  pub first_within : (e first : ℕ) → e < length events → is_put marks e ≡ false → NoneLeftBelow events marks (line events e) first → first < length events
  first_within e first within out below =
      elim (cases_lt first (length events)) [
        | inl lt ↦ lt
        | inr ge ↦ clash (below e within (omega arith) refl) out
      ]

  -- below the first event of a line that is left, none is: so what is drawn before another event of
  -- no lesser segment was put
  module _ (lines : ℕ) (ready : AreReady lines events) (e first : ℕ) (within : e < length events) (known : first < length events)
      (is_left : IsLeftOn events marks (line events e) first) (below : NoneLeftBelow events marks (line events e) first) where
    -- an event in no later segment than that first one has all put that is drawn before it
    pub drawn_put : segment events e ≤ segment events first → (x : ℕ) → before events x e ≡ true → is_put marks x ≡ true
    drawn_put low x h =
        let p = before_parts events x e h in
        elim (cases_lt x first) [
          | inl lt ↦ below x p.0 lt p.2
          | inr ge ↦ let up = ready.in_text_order.rising first x ge p.0 (is_left.on_line ∙ sym p.2) in let deeper = p.3 in absurd (omega arith)
        ]

    -- an event in a later segment is barred by that first one, which is drawn before it
    pub barred_by_first : segment events first < segment events e → IsBarred events marks e
    barred_by_first low = (first, inl (before_from events first e known within is_left.on_line low), is_left.left)

    -- a controlled event in no later segment is open: only what is drawn before it comes directly
    -- before it
    pub controlled_open : segment events e ≤ segment events first → is_controlled events e ≡ true → IsUnbarred events marks e
    controlled_open low c x (inl h) = drawn_put low x h
    controlled_open low c x (inr h) =
        absurd (controlled_no_input events e c (ap (is_input events) (sym h.1) ∙ partner_of_output events ready.matched x h.0))

    -- so is an input, where its output was put too
    pub input_open : segment events e ≤ segment events first → is_put marks (partner events e) ≡ true → IsUnbarred events marks e
    input_open low there x (inl h) = drawn_put low x h
    input_open low there x (inr h) =
        let back : partner events e ≡ x = ap (partner events) (sym h.1) ∙ ready.matched.to_and_fro x (output_parts events x h.0).0 in
        ap (is_put marks) (sym back) ∙ there

    -- an input whose output was not put is barred by it
    pub input_barred : is_input events e ≡ true → is_put marks (partner events e) ≡ false → IsBarred events marks e
    input_barred i away = (partner events e, inr (partner_of_input events ready.matched e i, ready.matched.to_and_fro e within), away)

-- what precedes an event of steps visibly stands before it
preceded : (events : List ChartEvent) (order : List ℕ) → Steps (Follows events) [] order → (x y : ℕ) → occurs order y ≡ true → Visual events x y → occurs order x ≡ true
preceded events order steps x y there v = until-within order y x ((step_at (Follows events) order y steps there).1.precedes x v)

-- where all that comes directly before e stands, all that precedes it visibly does
module _ (events : List ChartEvent) (order : List ℕ) (steps : Steps (Follows events) [] order) (e : ℕ)
    (opens : (x : ℕ) → IsDirectly events x e → occurs order x ≡ true) where
  -- what precedes e, or anything in the order, stands in the order: the last step of a chain comes
  -- directly before its end
  precedes : {x y : ℕ} → Visual events x y → (y ≡ e) ⊎ (occurs order y ≡ true) → occurs order x ≡ true
  precedes {x} {y} (seen h) (inl same) = opens x (inl (subst (λ (z : ℕ). before events x z ≡ true) same h))
  precedes {x} {y} (seen h) (inr there) = preceded events order steps x y there (seen h)
  precedes {x} {y} (passed h k) (inl same) = opens x (inr (h, k ∙ same))
  precedes {x} {y} (passed h k) (inr there) = preceded events order steps x y there (passed h k)
  precedes (linked h k) at = precedes h (inr (precedes k at))

  -- so e may follow
  pub follows : e < length events → occurs order e ≡ false → Follows events order e
  follows within new = record { event = within; new = new; precedes = λ x v. precedes v (inl refl) }

-- one event more of those that were not put
pub count_less : (marks : List Bool) (e left : ℕ) → e < length marks → is_put marks e ≡ false → left ≡ count_by not marks → count_by not (set marks e true) + 1 ≡ left
count_less marks e left within out count =
    let s = sum_by-set (λ (b : Bool). cond (not b) 1 0) marks e true false within in
    let one : cond (not (get_or marks e false)) 1 0 ≡ 1 + 0 = ap (λ (b : Bool). cond (not b) 1 0) out in
    omega (arith, s, one, count)

module _ (events : List ChartEvent) (order : List ℕ) (marks : List Bool) (first : List ℕ) (left : ℕ) (kept : IsSortingOf events order marks first left) where
  -- where an event was not put, some are left
  pub some_left : (e : ℕ) → e < length events → is_put marks e ≡ false → 0 < left
  some_left e within out =
      let known : e < length marks = let n = kept.marks_len in omega arith in
      let count = count_less marks e left known out kept.left_count in
      omega arith

  -- an event more is put
  pub pushed : (e : ℕ) → e < length events → is_put marks e ≡ false → IsUnbarred events marks e
      → IsSortingOf events (order ++ e ∷ []) (set marks e true) first (left - 1)
  pushed e within out opens =
      let known : e < length marks = let n = kept.marks_len in omega arith in
      let count = count_less marks e left known out kept.left_count in
      let new : occurs order e ≡ false = sym (kept.marked e within) ∙ out in
      let opened : (x : ℕ) → IsDirectly events x e → occurs order x ≡ true = λ x h. sym (kept.marked x (directly_within x h)) ∙ opens x h in
      record {
        ready = kept.ready;
        marks_len = length-set marks e true ∙ kept.marks_len;
        marked = λ x x_in. elim (cases_eq x e) [
          | inl same ↦ subst (λ (z : ℕ). is_put (set marks e true) z ≡ occurs (order ++ e ∷ []) z) (sym same) (get_or-set_same marks e true false known ∙ sym (occurs-push order e))
          | inr other ↦ get_or-set_other marks e x true false other ∙ kept.marked x x_in ∙ sym (occurs_other order e x other)
        ];
        first_left = λ i x x_in below on. still x (kept.first_left i x x_in below on);
        left_count = omega arith;
        all = let n = kept.all in let m = length-append order (e ∷ []) in omega arith;
        steps = Steps-push (Follows events) order e kept.steps (follows events order kept.steps e opened within new);
      }
    where
      -- what is directly before e is an event of the chart
      directly_within : (x : ℕ) → IsDirectly events x e → x < length events
      directly_within x (inl h) = (before_parts events x e h).0
      directly_within x (inr h) = (output_parts events x h.0).0

      -- what was put is still put
      still : (x : ℕ) → is_put marks x ≡ true → is_put (set marks e true) x ≡ true
      still x there = elim (cases_eq x e) [
        | inl same ↦ clash (ap (is_put marks) (sym same) ∙ there) out
        | inr other ↦ get_or-set_other marks e x true false other ∙ there
      ]

  -- the events of the order are events of the chart
  pub order_within : (k : ℕ) → k < length order → get_or order k 0 < length events
  order_within k below = (step_at (Follows events) order (get_or order k 0) kept.steps (occurs_at order k below)).1.event

-- what a list of equal elements has at a place, or past its end, is that element
zeros_at : (n i z : ℕ) → get_or (replicate n z) i z ≡ z
zeros_at n i z =
    elim (cases_lt i n) [
      | inl lt ↦ get_or-replicate n i z z lt
      | inr ge ↦ get_or_past (replicate n z) i z (let l = length-replicate n z in omega arith)
    ]

-- nothing was put yet
pub nothing_put : (lines : ℕ) (events : List ChartEvent) → AreReady lines events → (order : List ℕ) → order ≡ []
    → (marks : List Bool) → marks ≡ replicate (length events) false → (first : List ℕ) → first ≡ replicate lines 0
    → IsSortingOf events order marks first (length events)
unfolding occurs
nothing_put lines events ready order none marks ms first fs = record {
  ready = subst (λ (n : ℕ). AreReady n events) (sym (ap length fs ∙ length-replicate lines 0)) ready;
  marks_len = ap length ms ∙ length-replicate (length events) false;
  marked = λ e within. ap (λ (l : List Bool). is_put l e) ms ∙ get_or-replicate (length events) e false false within ∙ ap (λ (l : List ℕ). occurs l e) (sym none);
  first_left = λ i x within below on. let z = ap (λ (l : List ℕ). get_or l i 0) fs ∙ zeros_at lines i 0 in absurd (omega arith);
  left_count = let c = ap (count_by not) ms ∙ sum_by-replicate (λ (b : Bool). cond (not b) 1 0) (length events) false in omega arith;
  all = let n = ap length none in omega arith;
  steps = subst (λ (l : List ℕ). Steps (Follows events) [] l) (sym none) tt;
}

-- a mark that was read
pub read_mark : (marks : List Bool) (e : ℕ) (r : Bool) → r ≡ false → r ≡ get_or marks e r → is_put marks e ≡ false
read_mark marks e r out here = sym (subst (λ (b : Bool). b ≡ get_or marks e b) out here)
