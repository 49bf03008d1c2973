-- What the rows of an order come to.
use Rattle.std.proofs.Common.{◌≡◌, ℕ, zero, suc, ◌<◌, ◌⊎◌, true, false, List, [], ◌∷◌, ◌++◌, length, get_or, take, drop, Option, None, Some, All, eqb, inl, inr, sym, ap, subst, ◌∙◌, refl, append_assoc, arith}
use Rattle.std.proofs.lemmas.Bool.{and_parts, or_cases, eqb-true, cases_lt, cases_eq, false≢true, false_from_ne_true}
use Rattle.std.proofs.lemmas.List.Elements.{All-cons, All-nil}
use Rattle.msc_chart.specs.declared.event.ChartEvent.{ChartEvent}
use Rattle.msc_chart.specs.Charts.{is_output, Visual, passed, linked, Follows, IsLinearOrder}
use Rattle.msc_chart.specs.Lists.{Steps, occurs, until}
use Rattle.msc_chart.proofs.ListLemmas.{by_test, clash, occurs-left, occurs-right, step_at, until-append, until-within, until-self, Steps-parts}
use Rattle.msc_picture.specs.declared.scene.Row.{Row}
use Rattle.msc_picture.specs.Rows.{answers_to, row_of_one, row_of_two, rows_after, rows_of}
use Rattle.msc_picture.specs.Laws.{as_list, row_events, events_of_rows, IsOfOneMessage, AreFull, IsInRow}

module _ (events : List ChartEvent) where
  -- the rows after an event that has none, read down
  pub read_back : (left : Option ℕ) (order : List ℕ)
      → events_of_rows (rows_after events left order) ≡ as_list left ++ order
  read_back None [] = refl
  read_back (Some s) [] = refl
  read_back None (e ∷ es) = read_back (Some e) es
  read_back (Some s) (e ∷ es) = by_test (answers_to events s e)
      (λ yes. rw yes (ap (λ (l : List ℕ). s ∷ e ∷ l) (read_back None es)))
      (λ no. rw no (ap (λ (l : List ℕ). s ∷ l) (read_back (Some e) es)))

  -- a row of one event
  one_message : (s : ℕ) → IsOfOneMessage events (row_of_one s)
  one_message s r same = let f : ⊥ = cc in absurd f

  -- each row has the events of one message at most
  pub one_label : (left : Option ℕ) (order : List ℕ)
      → All (IsOfOneMessage events) (rows_after events left order)
  one_label None [] = All-nil (IsOfOneMessage events)
  one_label (Some s) [] =
      All-cons (IsOfOneMessage events) (row_of_one s) [] (one_message s)
      (All-nil (IsOfOneMessage events))
  one_label None (e ∷ es) = one_label (Some e) es
  one_label (Some s) (e ∷ es) = by_test (answers_to events s e)
      (λ yes. rw yes (All-cons (IsOfOneMessage events) (row_of_two s e) (rows_after events None es)
      (λ r same. let equal : e ≡ r = cc in
      subst (λ (w : ℕ). answers_to events s w ≡ true) equal yes) (one_label None es)))
      (λ no. rw no (All-cons (IsOfOneMessage events) (row_of_one s) (rows_after events (Some e) es)
      (one_message s) (one_label (Some e) es)))

  -- a row of one event above others, of which the first does not begin with its input
  full_one : (s : ℕ) (rows : List Row) → AreFull events rows
      → ((y : Row) (ys : List Row) → rows ≡ y ∷ ys → answers_to events s y.first ≡ false)
      → AreFull events (row_of_one s ∷ rows)
  full_one s [] full apart = tt
  full_one s (y ∷ ys) full apart = (λ none. apart y ys refl, full)

  -- a row of two events above others
  full_two : (s r : ℕ) (rows : List Row) → AreFull events rows
      → AreFull events (row_of_two s r ∷ rows)
  full_two s r [] full = tt
  full_two s r (y ∷ ys) full = (λ none. let f : ⊥ = cc in absurd f, full)

  -- the first row begins with the event that had no row
  begins_with : (e : ℕ) (es : List ℕ) (y : Row) (ys : List Row)
      → rows_after events (Some e) es ≡ y ∷ ys → y.first ≡ e
  begins_with e [] y ys same = let equal : row_of_one e ≡ y = cc in ap (λ (r : Row). r.first) (sym equal)
  begins_with e (f ∷ fs) y ys same = by_test (answers_to events e f)
      (λ yes. let now = rw yes at same in let equal : row_of_two e f ≡ y = cc in
      ap (λ (r : Row). r.first) (sym equal))
      (λ no. let now = rw no at same in let equal : row_of_one e ≡ y = cc in
      ap (λ (r : Row). r.first) (sym equal))

  -- an input stands beside its output wherever it can
  pub full : (left : Option ℕ) (order : List ℕ) → AreFull events (rows_after events left order)
  full None [] = tt
  full (Some s) [] = tt
  full None (e ∷ es) = full (Some e) es
  full (Some s) (e ∷ es) = by_test (answers_to events s e)
      (λ yes. rw yes (full_two s e (rows_after events None es) (full None es)))
      (λ no. rw no (full_one s (rows_after events (Some e) es) (full (Some e) es)
      (λ y ys same. ap (λ (w : ℕ). answers_to events s w) (begins_with e es y ys same) ∙ no)))

-- what comes later is new
later_new : (events : List ChartEvent) (past xs : List ℕ) (x : ℕ) → Steps (Follows events) past xs
    → occurs xs x ≡ true → occurs past x ≡ false
unfolding occurs
later_new events past [] x steps there = absurd (false≢true there)
later_new events past (e ∷ es) x steps there = elim (or_cases (eqb e x) (occurs es x) there) [
  | inl same ↦ subst (λ (w : ℕ). occurs past w ≡ false) (eqb-true e x same) steps.0.new
  | inr later ↦ false_from_ne_true _ (λ old.
      clash (occurs-left past (e ∷ []) x old)
      (later_new events (past ++ e ∷ []) es x steps.1 later))
]

-- what precedes an event visibly stands before it
stands_before : (events : List ChartEvent) (order : List ℕ) (x y : ℕ) → IsLinearOrder events order
    → occurs order y ≡ true → Visual events x y → occurs (until order y) x ≡ true
stands_before events order x y linear there visible =
    (step_at (Follows events) order y linear.steps there).1.precedes x visible

-- so no event of an order precedes itself
none_itself : {X : Type 0} (events : List ChartEvent) (order : List ℕ) (x : ℕ)
    → IsLinearOrder events order → occurs order x ≡ true → Visual events x x → X
none_itself events order x linear there visible =
    clash (stands_before events order x x linear there visible) (until-self order x)

-- the events of the rows up to row i, and from it on
parted : (rows : List Row) (i : ℕ)
    → events_of_rows rows ≡ events_of_rows (take i rows) ++ events_of_rows (drop i rows)
parted rows zero = refl
parted [] (suc i) = refl
parted (r ∷ rs) (suc i) =
    ap (λ (l : List ℕ). row_events r ++ l) (parted rs i)
    ∙ sym (append_assoc (row_events r) (events_of_rows (take i rs)) (events_of_rows (drop i rs)))

-- an event of a row stands in the rows up to any later row
in_front : (rows : List Row) (i j x : ℕ) → j < i → IsInRow rows j x
    → occurs (events_of_rows (take i rows)) x ≡ true
in_front [] i j x less in_row = absurd (omega (arith, in_row.within))
in_front (r ∷ rs) zero j x less in_row = absurd (omega arith)
in_front (r ∷ rs) (suc i) zero x less in_row =
    occurs-left (row_events r) (events_of_rows (take i rs)) x in_row.event
in_front (r ∷ rs) (suc i) (suc j) x less in_row =
    occurs-right (row_events r) (events_of_rows (take i rs)) x
    (in_front rs i j x (omega arith)
    (record { within = omega (arith, in_row.within); event = in_row.event }))

-- and in the rows from its own on
in_rest : (rows : List Row) (i x : ℕ) → IsInRow rows i x
    → occurs (events_of_rows (drop i rows)) x ≡ true
in_rest [] i x in_row = absurd (omega (arith, in_row.within))
in_rest (r ∷ rs) zero x in_row = occurs-left (row_events r) (events_of_rows rs) x in_row.event
in_rest (r ∷ rs) (suc i) x in_row =
    in_rest rs i x (record { within = omega (arith, in_row.within); event = in_row.event })

-- and in all rows
in_all : (rows : List Row) (i x : ℕ) → IsInRow rows i x → occurs (events_of_rows rows) x ≡ true
in_all rows i x in_row =
    subst (λ (l : List ℕ). occurs l x ≡ true) (sym (parted rows i))
    (occurs-right (events_of_rows (take i rows)) _ x (in_rest rows i x in_row))

-- what precedes visibly stands in no later row
not_below : {X : Type 0} (events : List ChartEvent) (rows : List Row) (i j x y : ℕ)
    → IsLinearOrder events (events_of_rows rows) → IsInRow rows i x → IsInRow rows j y
    → Visual events x y → j < i → X
not_below events rows i j x y linear at_x at_y visible less =
    let front = events_of_rows (take i rows) in
    let rest = events_of_rows (drop i rows) in
    let y_front : occurs front y ≡ true = in_front rows i j y less at_y in
    let steps : Steps (Follows events) [] (front ++ rest) =
    subst (λ (l : List ℕ). Steps (Follows events) [] l) (parted rows i) linear.steps in
    let before = stands_before events (events_of_rows rows) x y linear (in_all rows j y at_y)
    visible in
    let in_until : occurs (until (front ++ rest) y) x ≡ true =
    subst (λ (l : List ℕ). occurs (until l y) x ≡ true) (parted rows i) before in
    let x_front : occurs front x ≡ true =
    until-within front y x
    (subst (λ (l : List ℕ). occurs l x ≡ true) (until-append front rest y y_front) in_until) in
    clash x_front
    (later_new events front rest x (Steps-parts (Follows events) [] front rest steps).1
    (in_rest rows i x at_x))

-- an event of a row of two is the first, or the second
in_two : (row : Row) (x : ℕ) → occurs (row_events row) x ≡ true
    → (x ≡ row.first) ⊎ (row.second ≡ Some x)
unfolding occurs
in_two row x h = elim (or_cases (eqb row.first x) (occurs (as_list row.second) x) h) [
  | inl same ↦ inl (sym (eqb-true row.first x same))
  | inr rest ↦ inr (by row.second rest)
]
  where
    -- the only event there may be
    by : (o : Option ℕ) → occurs (as_list o) x ≡ true → o ≡ Some x
    by None k = absurd (false≢true k)
    by (Some y) k = elim (or_cases (eqb y x) false k) [
      | inl same ↦ ap Some (eqb-true y x same)
      | inr none ↦ absurd (false≢true none)
    ]

-- of two events of one row the first precedes the second only where it is its output
same_row : (events : List ChartEvent) (order : List ℕ) (row : Row) (x y : ℕ)
    → IsLinearOrder events order → occurs order x ≡ true → IsOfOneMessage events row
    → occurs (row_events row) x ≡ true → occurs (row_events row) y ≡ true → Visual events x y
    → answers_to events x y ≡ true
same_row events order row x y linear there one at_x at_y visible = elim (in_two row x at_x) [
  | inl x_first ↦ elim (in_two row y at_y) [
    | inl y_first ↦
        none_itself events order x linear there
        (subst (λ (w : ℕ). Visual events x w) (y_first ∙ sym x_first) visible)
    | inr y_second ↦
        subst (λ (w : ℕ). answers_to events w y ≡ true) (sym x_first) (one y y_second)
  ]
  | inr x_second ↦ elim (in_two row y at_y) [
    | inl y_first ↦
        let parts = and_parts (is_output events row.first) _ (one x x_second) in
        let back : Visual events row.first x = passed parts.0 (eqb-true _ _ parts.1) in
        let on : Visual events x row.first =
        subst (λ (w : ℕ). Visual events x w) y_first visible in
        none_itself events order x linear there (linked on back)
    | inr y_second ↦
        let same : y ≡ x = cc in
        none_itself events order x linear there
        (subst (λ (w : ℕ). Visual events x w) same visible)
  ]
]

-- what precedes an event visibly is in a row above it, or is its output in the same row
pub keep_visual : (events : List ChartEvent) (order : List ℕ) (i j x y : ℕ)
    → IsLinearOrder events order → IsInRow (rows_of events order) i x
    → IsInRow (rows_of events order) j y → Visual events x y
    → (i < j) ⊎ ((i ≡ j) × (answers_to events x y ≡ true))
keep_visual events order i j x y linear at_x at_y visible =
    let rows = rows_of events order in
    let read : IsLinearOrder events (events_of_rows rows) =
    subst (λ (l : List ℕ). IsLinearOrder events l) (sym (read_back events None order)) linear in
    elim (cases_lt i j) [
      | inl less ↦ inl less
      | inr ge ↦ elim (cases_eq i j) [
        | inl same ↦
            let here : occurs (row_events (get_or rows i (row_of_one 0))) y ≡ true =
            subst (λ (w : ℕ). occurs (row_events (get_or rows w (row_of_one 0))) y ≡ true) (sym same)
            at_y.event in
            inr (
              same,
              same_row events (events_of_rows rows) (get_or rows i (row_of_one 0)) x y read
                  (in_all rows i x at_x) (one_label events None order i (row_of_one 0) at_x.within)
                  at_x.event here visible,
            )
        | inr other ↦
            not_below events rows i j x y read at_x at_y visible (omega (arith, ge, other))
      ]
    ]

-- an event of a row is an event of the chart
pub row_known : (events : List ChartEvent) (order : List ℕ) (i x : ℕ) → IsLinearOrder events order
    → IsInRow (rows_of events order) i x → x < length events
row_known events order i x linear at_x =
    let there : occurs order x ≡ true =
    subst (λ (l : List ℕ). occurs l x ≡ true) (read_back events None order)
    (in_all (rows_of events order) i x at_x) in
    (step_at (Follows events) order x linear.steps there).1.event
