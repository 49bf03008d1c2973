-- A drawing order has all events, and that of a chart keeps the visual order.
use Rattle.std.proofs.Common.{◌≡◌, ℕ, ◌<◌, true, false, ◌⊎◌, List, [], ◌∷◌, ◌++◌, length, Option, inl, inr, sym, subst, ◌∙◌, arith}
use Rattle.std.proofs.lemmas.Bool.{and_parts, and_from, or_left, or_right, or_cases, eqb-true, eq-eqb, ltb-true, lt-ltb, false≢true}
use Rattle.std.proofs.lemmas.List.FromFn.{get_or-map-range_with_len}
use Rattle.msc_chart.specs.declared.event.ChartEvent.{ChartEvent}
use Rattle.msc_chart.specs.Charts.{segment, before, Visual, seen, passed, linked, Follows, IsLinearOrder}
use Rattle.msc_chart.specs.Lists.{Steps, occurs}
use Rattle.msc_chart.proofs.ListLemmas.{by_test, clash, occurs-left, occurs-append, Steps-map}
use Rattle.msc_picture.proofs.Events.{before_from, before_parts, output_known}
use Rattle.msc_picture.specs.Frames.{Frame, level, is_sent_as, is_above, goes_first, MayFollow, chart_frame, IsDrawnNext, IsDrawingOrder}
use Rattle.msc_picture.proofs.FollowLemmas.{sent_from}
use Rattle.msc_picture.proofs.DrawnLemmas.{next_may}

-- an event of the joined lists is in one of them
pub occurs_cases : (xs ys : List ℕ) (e : ℕ) → occurs (xs ++ ys) e ≡ true
    → (occurs xs e ≡ true) ⊎ (occurs ys e ≡ true)
occurs_cases xs ys e h = or_cases _ _ (sym (occurs-append xs ys e) ∙ h)

-- where an event is drawn, and so are all before it, all up to it are drawn
pub drawn_to_it : (past prior : List ℕ) (x : ℕ)
    → ((y : ℕ) → occurs prior y ≡ true → occurs past y ≡ true) → occurs past x ≡ true
    → (y : ℕ) → occurs (prior ++ x ∷ []) y ≡ true → occurs past y ≡ true
unfolding occurs
drawn_to_it past prior x has old y h = elim (occurs_cases prior (x ∷ []) y h) [
  | inl before ↦ has y before
  | inr here ↦ elim (or_cases _ _ here) [
    | inl same ↦ subst (λ (w : ℕ). occurs past w ≡ true) (eqb-true _ _ same) old
    | inr none ↦ absurd (false≢true none)
  ]
]

-- of a list in which each event may follow those before it, the first that is missing may follow
-- what is drawn
first_missing : (f : Frame) (past prior xs : List ℕ) (e : ℕ) → Steps (MayFollow f) prior xs
    → ((x : ℕ) → occurs prior x ≡ true → occurs past x ≡ true)
    → occurs xs e ≡ true → occurs past e ≡ false → (y : ℕ) × MayFollow f past y
unfolding occurs
first_missing f past prior [] e steps has there new = absurd (false≢true there)
first_missing f past prior (x ∷ xs) e steps has there new = by_test (occurs past x)
    (λ old.
    first_missing f past (prior ++ x ∷ []) xs e steps.1 (drawn_to_it past prior x has old)
    (elim (or_cases _ _ there) [
      | inl same ↦ clash (subst (λ (w : ℕ). occurs past w ≡ true) (eqb-true _ _ same) old) new
      | inr later ↦ later
    ]) new)
    (λ fresh. (
      x,
      record {
        event = steps.0.event;
        new = fresh;
        behind = λ y inside h. has y (steps.0.behind y inside h);
      },
    ))

-- where no event may follow, all events of such a list are drawn
pub whole_by : (f : Frame) (past order : List ℕ) → Steps (MayFollow f) [] order
    → ((e : ℕ) → MayFollow f past e → ⊥) → (e : ℕ) → occurs order e ≡ true → occurs past e ≡ true
unfolding occurs
whole_by f past order steps none e there = by_test (occurs past e) (λ old. old) (λ new.
    let left = first_missing f past [] order e steps (λ x h. absurd (false≢true h)) there new in
    absurd (none left.0 left.1))

-- of a chart, what is above an event is drawn before it, and the other way round
above_before : (events : List ChartEvent) (x y : ℕ) → x < length events → y < length events
    → is_above (chart_frame events) x y ≡ before events x y
above_before events x y p q =
    let at_x : level (chart_frame events) x ≡ segment events x =
    get_or-map-range_with_len (segment events) 0 (length events) x x 0 p (omega arith) in
    let at_y : level (chart_frame events) y ≡ segment events y =
    get_or-map-range_with_len (segment events) 0 (length events) y y 0 q (omega arith) in
    by_test (before events x y)
    (λ yes. let parts = before_parts events x y yes in
    and_from _ _ (eq-eqb _ _ parts.2)
    (rw at_x (rw at_y (lt-ltb _ _ parts.3))) ∙ sym yes)
    (λ no. by_test (is_above (chart_frame events) x y)
    (λ is. let parts = and_parts _ _ is in
    clash (before_from events x y p q (eqb-true _ _ parts.0)
    (rw at_x at (rw at_y at (ltb-true _ _ parts.1)))) no)
    (λ is. is ∙ sym no))

-- what precedes visibly by one rule goes first
pub visible_first : (events : List ChartEvent) (x y : ℕ) → x < length events → y < length events
    → goes_first (chart_frame events) x y ≡ true → Visual events x y
visible_first events x y p q h = elim (or_cases _ _ h) [
  | inl sent ↦ let parts = and_parts _ _ sent in passed parts.0 (eqb-true _ _ parts.1)
  | inr rest ↦ elim (or_cases _ _ rest) [
    | inl above ↦ seen (sym (above_before events x y p q) ∙ above)
    | inr queued ↦ absurd (false≢true queued)
  ]
]

-- an event that follows visibly in a chart may follow in its picture
pub follower_may : (events : List ChartEvent) (past : List ℕ) (e : ℕ) → Follows events past e
    → MayFollow (chart_frame events) past e
follower_may events past e h = record {
  event = h.event;
  new = h.new;
  behind = λ x inside first. h.precedes x (visible_first events x e inside h.event first);
}

-- all that precedes one of these events visibly is among them
IsClosed : List ChartEvent → List ℕ → Type 0
IsClosed events past =
    (x y : ℕ) → Visual events x y → occurs past y ≡ true → occurs past x ≡ true

-- what precedes visibly an event that may follow is among the events before it
visible_behind : (events : List ChartEvent) (past : List ℕ) (x e : ℕ) → IsClosed events past
    → MayFollow (chart_frame events) past e → Visual events x e → occurs past x ≡ true
unfolding IsClosed
visible_behind events past x e closed may (seen b) =
    let parts = before_parts events x e b in
    may.behind x parts.0
    (or_right (is_sent_as (chart_frame events) x e) _
    (or_left (is_above (chart_frame events) x e) _
    (above_before events x e parts.0 may.event ∙ b)))
visible_behind events past x e closed may (passed o p) =
    may.behind x (output_known events x o)
    (or_left (is_sent_as (chart_frame events) x e) _ (sent_from (chart_frame events) x e o p))
visible_behind events past x e closed may (linked {y = y} first second) =
    closed x y first (visible_behind events past y e closed may second)

-- so each event of a picture of a chart follows visibly
linear_steps : (events : List ChartEvent) (past xs : List ℕ) → IsClosed events past
    → Steps (MayFollow (chart_frame events)) past xs → Steps (Follows events) past xs
unfolding IsClosed occurs
linear_steps events past [] closed steps = tt
linear_steps events past (e ∷ es) closed steps = (
  record {
    event = steps.0.event;
    new = steps.0.new;
    precedes = λ x h. visible_behind events past x e closed steps.0 h;
  },
  linear_steps events (past ++ e ∷ []) es
      (λ x y h there. elim (occurs_cases past (e ∷ []) y there) [
        | inl old ↦ occurs-left past (e ∷ []) x (closed x y h old)
        | inr here ↦ elim (or_cases _ _ here) [
          | inl same ↦
              occurs-left past (e ∷ []) x
              (visible_behind events past x e closed steps.0
              (subst (λ (w : ℕ). Visual events x w) (sym (eqb-true _ _ same)) h))
          | inr none ↦ absurd (false≢true none)
        ]
      ]) steps.1,
)

-- the drawing order of a chart has all its events, since its linear order has
pub chart_order : (events : List ChartEvent) (ranks : Option (List ℕ)) (order past : List ℕ)
    → IsLinearOrder events order → Steps (IsDrawnNext (chart_frame events) ranks) [] past
    → ((e : ℕ) → MayFollow (chart_frame events) past e → ⊥)
    → IsDrawingOrder (chart_frame events) ranks past
chart_order events ranks order past linear steps none = record {
  steps = steps;
  whole = λ e below.
      whole_by (chart_frame events) past order
      (Steps-map (Follows events) (MayFollow (chart_frame events)) (follower_may events) [] order
      linear.steps) none e (linear.whole e below);
}

-- and is a linear order too
pub drawn_linear : (events : List ChartEvent) (ranks : Option (List ℕ)) (past : List ℕ)
    → IsDrawingOrder (chart_frame events) ranks past → IsLinearOrder events past
unfolding IsClosed occurs
drawn_linear events ranks past drawn = record {
  steps = linear_steps events [] past (λ x y h none. absurd (false≢true none))
      (Steps-map (IsDrawnNext (chart_frame events) ranks) (MayFollow (chart_frame events))
      (λ before e h. next_may h) [] past drawn.steps);
  whole = drawn.whole;
}

-- the same, of a frame that is the chart's
pub frame_order : (f : Frame) (events : List ChartEvent) (ranks : Option (List ℕ))
    (order past : List ℕ) → f ≡ chart_frame events → IsLinearOrder events order
    → Steps (IsDrawnNext f ranks) [] past
    → ((e : ℕ) → MayFollow f past e → ⊥) → IsDrawingOrder (chart_frame events) ranks past
frame_order f events ranks order past is linear steps none =
    chart_order events ranks order past linear
    (subst (λ (g : Frame). Steps (IsDrawnNext g ranks) [] past) is steps)
    (subst (λ (g : Frame). (e : ℕ) → MayFollow g past e → ⊥) is none)
