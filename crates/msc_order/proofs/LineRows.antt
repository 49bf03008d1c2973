-- What the lines lead to, and how rows of bits come to hold it.
use Rattle.std.proofs.Common.{◌≡◌, ◌≢◌, ℕ, ◌+◌, ◌<◌, ◌≤◌, ◌⊎◌, Bool, true, false, ◌&&◌, ◌||◌, ◌↔◌, inl, inr, eqb, List, length, refl, sym, ◌∙◌, subst, arith}
use Rattle.std.proofs.lemmas.Bool.{eqb-true, eq-eqb, ne_eqb, and_parts, and_from, or_cases, or_left, or_right, cases_lt, cases_eq}
use Rattle.std.proofs.Math.Bool.{or-false}
use Rattle.msc_chart.specs.declared.event.ChartEvent.{ChartEvent}
use Rattle.msc_chart.specs.Charts.{partner, is_output, is_controlled, before, ShareSegment}
use Rattle.msc_chart.proofs.Drawn.{before_from, before_parts, output_controlled}
use Rattle.bit_rows.specs.Tables.{with_row}
use Rattle.msc_order.specs.Caused.{Led}
use Rattle.msc_order.specs.Closing.{LedByLine, HoldsOnly, HasRowOf, KeepsOthers, IsBegun, IsNextSegment}
use Rattle.msc_order.specs.Caused.Led.{led, carried, chained}
use Rattle.bit_rows.proofs.Bits.{clash}
use Rattle.msc_order.proofs.Leading.{row_cases, row_kept, row_there, row_after, row_others}

module _ (events : List ChartEvent) (inputs : Bool) where
  -- the number itself, or what is led to from it
  abbrev From : ℕ → ℕ → Type 0
  From g y = (g ≡ y) ⊎ Led events inputs g y

  -- from a number and what is led to from it, on to more
  from_more : (g m y : ℕ) → From g m → Led events inputs m y → From g y
  from_more g m y (inl same) k = inr (subst (λ (z : ℕ). Led events inputs z y) (sym same) k)
  from_more g m y (inr h) k = inr (chained h k)

  -- what the line leads to, and what comes after that
  line_more : (e m y : ℕ) → LedByLine events inputs e m → Led events inputs m y → LedByLine events inputs e y
  line_more e m y l k = record { first = l.first; drawn = l.drawn; led_to = l.led_to; onward = from_more l.first m y l.onward k }

  -- what is led to from an event that is drawn later, the line leads to from the earlier
  line_over : (e f y : ℕ) → before events e f ≡ true → Led events inputs f y → LedByLine events inputs e y
  line_over e f y b (led c g) =
      let p = before_parts events e f b in
      let q = before_parts events f y c in
      record { first = y; drawn = before_from events e y p.0 q.1 (p.2 ∙ q.2) (omega (arith, p.3, q.3)); led_to = g; onward = inl refl }
  line_over e f y b (carried o p) = record { first = f; drawn = b; led_to = or_right inputs (is_controlled events f) (output_controlled events f o); onward = inr (carried o p) }
  line_over e f y b (chained {y = m} h k) = line_more e m y (line_over e f m b h) k

  -- what the line leads to is led to
  pub line_led : (e y : ℕ) → LedByLine events inputs e y → Led events inputs e y
  line_led e y l =
      elim l.onward [
        | inl same ↦ subst (λ (z : ℕ). Led events inputs e z) same (led l.drawn l.led_to)
        | inr more ↦ chained (led l.drawn l.led_to) more
      ]

  -- the line leads to the same from all events of a segment
  pub line_shared : (e f y : ℕ) → ShareSegment events e f → f < length events → LedByLine events inputs e y → LedByLine events inputs f y
  line_shared e f y share known l =
      let p = before_parts events e l.first l.drawn in
      record {
        first = l.first;
        drawn = before_from events f l.first known p.1 (sym share.0 ∙ p.2) (let same = share.1 in let rising = p.3 in omega (arith, same, rising));
        led_to = l.led_to;
        onward = l.onward;
      }

  -- what is led to from an event, its line leads to or its message
  first_step : (e y : ℕ) → Led events inputs e y → LedByLine events inputs e y ⊎ ((is_output events e ≡ true) × From (partner events e) y)
  first_step e y (led b g) = inl (record { first = y; drawn = b; led_to = g; onward = inl refl })
  first_step e y (carried o p) = inr (o, inl p)
  first_step e y (chained {y = m} h k) =
      elim (first_step e m h) [
        | inl line ↦ inl (line_more e m y line k)
        | inr sent ↦ inr (sent.0, from_more (partner events e) m y sent.1 k)
      ]

  -- a row that takes in the row of an event that is drawn later stays within what the line leads to
  pub line_taken : (test now last : ℕ → ℕ → Bool) (e f : ℕ) (wanted : Bool) → HoldsOnly (Led events inputs) test → before events e f ≡ true
      → (wanted ≡ true → (inputs || is_controlled events f) ≡ true) → f ≢ e → KeepsOthers e test now
      → ((x y : ℕ) → last x y ≡ with_row now e f wanted x y) → ((y : ℕ) → now e y ≡ true → LedByLine events inputs e y)
      → (y : ℕ) → last e y ≡ true → LedByLine events inputs e y
  line_taken test now last e f wanted sound b goal apart others is was y h =
      elim (row_cases now e f wanted e y (sym (is e y) ∙ h)) [
        | inl old ↦ was y old
        | inr more ↦ elim more.1 [
          | inl here ↦ record { first = f; drawn = b; led_to = goal here.0; onward = inl (sym here.1) }
          | inr after ↦ line_over e f y b (sound f y (sym (others f y apart) ∙ after))
        ]
      ]

  -- the rows of the segment below f are taken in, and that of f too
  pub taken_more : (start e f : ℕ) (test now last : ℕ → ℕ → Bool) (wanted : Bool) → f ≢ e → wanted ≡ (inputs || is_controlled events f)
      → ((x y : ℕ) → last x y ≡ with_row now e f wanted x y) → KeepsOthers e test now
      → ((g : ℕ) → start ≤ g → g < f → ((inputs || is_controlled events g) ≡ true → now e g ≡ true) × ((y : ℕ) → test g y ≡ true → now e y ≡ true))
      → (g : ℕ) → start ≤ g → g < f + 1 → ((inputs || is_controlled events g) ≡ true → last e g ≡ true) × ((y : ℕ) → test g y ≡ true → last e y ≡ true)
  taken_more start e f test now last wanted apart goal is others taken g low high =
      elim (cases_lt g f) [
        | inl less ↦
            let t = taken g low less in
            (λ h. is e g ∙ row_kept now e f wanted e g (t.0 h), λ y h. is e y ∙ row_kept now e f wanted e y (t.1 y h))
        | inr more ↦
            let same : g ≡ f = omega (arith, high, more) in (
              λ h. subst (λ (z : ℕ). last e z ≡ true) (sym same) (is e f ∙ row_there now e f wanted (goal ∙ subst (λ (z : ℕ). (inputs || is_controlled events z) ≡ true) same h)),
              λ y h. is e y ∙ row_after now e f wanted y (others f y apart ∙ subst (λ (z : ℕ). test z y ≡ true) same h),
            )
      ]

  -- a row that has taken in the rows of the next segment has all that the line leads to
  pub line_row : (test now : ℕ → ℕ → Bool) (e start end : ℕ) → IsNextSegment events e start end
      → ((f : ℕ) → before events e f ≡ true → HasRowOf (Led events inputs) test f)
      → ((g : ℕ) → start ≤ g → g < end → ((inputs || is_controlled events g) ≡ true → now e g ≡ true) × ((y : ℕ) → test g y ≡ true → now e y ≡ true))
      → HasRowOf (LedByLine events inputs) now e
  line_row test now e start end segment later taken y l =
      let n = segment.next l.first l.drawn in
      elim n.1 [
        | inl inside ↦
            let t = taken l.first inside.0 inside.1 in
            elim l.onward [
              | inl same ↦ subst (λ (z : ℕ). now e z ≡ true) same (t.0 l.led_to)
              | inr more ↦ t.1 y (later l.first l.drawn y more)
            ]
        | inr beyond ↦
            let drawn = segment.drawn start (omega arith) n.0 in
            let after : LedByLine events inputs start y = record { first = l.first; drawn = beyond; led_to = l.led_to; onward = l.onward } in
            (taken start (omega arith) n.0).1 y (later start drawn y (line_led start y after))
      ]

  -- a blank table is one of which no row is begun
  pub begun_none : (test : ℕ → ℕ → Bool) (begun : ℕ → Bool) → ((x y : ℕ) → test x y ≡ false) → ((x : ℕ) → begun x ≡ false) → IsBegun events inputs test begun
  begun_none test begun blank none = record {
    sound = λ x y h. clash h (blank x y);
    lines = λ x h. clash h (none x);
    blank = λ x y h. blank x y;
  }

  -- a row that got exactly what the line leads to is begun
  pub begun_first : (test now : ℕ → ℕ → Bool) (begun marks : ℕ → Bool) (e : ℕ) → IsBegun events inputs test begun → KeepsOthers e test now
      → ((y : ℕ) → (now e y ≡ true) ↔ LedByLine events inputs e y) → ((x : ℕ) → marks x ≡ (begun x || eqb x e)) → IsBegun events inputs now marks
  begun_first test now begun marks e was others row is = record {
    sound = λ x y h. elim (cases_eq x e) [
      | inl same ↦ subst (λ (z : ℕ). Led events inputs z y) (sym same) (line_led e y ((row y).0 (subst (λ (z : ℕ). now z y ≡ true) same h)))
      | inr other ↦ was.sound x y (sym (others x y other) ∙ h)
    ];
    lines = λ x h y l. elim (cases_eq x e) [
      | inl same ↦ subst (λ (z : ℕ). now z y ≡ true) (sym same) ((row y).1 (subst (λ (z : ℕ). LedByLine events inputs z y) same l))
      | inr other ↦ others x y other ∙ was.lines x (sym (or-false (begun x)) ∙ (rw (is x, ne_eqb x e other) at h)) y l
    ];
    blank = λ x y h. elim (cases_eq x e) [
      | inl same ↦ clash (or_right (begun x) (eqb x e) (eq-eqb x e same)) (sym (is x) ∙ h)
      | inr other ↦ others x y other ∙ was.blank x y (sym (or-false (begun x)) ∙ (rw (is x, ne_eqb x e other) at h))
    ];
  }

  -- another row of the segment that took over such a row is begun
  pub begun_more : (test now : ℕ → ℕ → Bool) (begun marks : ℕ → Bool) (e f : ℕ) → IsBegun events inputs test begun → begun e ≡ true
      → ((y : ℕ) → test e y ≡ true → LedByLine events inputs e y) → ShareSegment events e f → e < length events → f < length events
      → ((x y : ℕ) → now x y ≡ (test x y || (eqb x f && test e y))) → ((x : ℕ) → marks x ≡ (begun x || eqb x f)) → IsBegun events inputs now marks
  begun_more test now begun marks e f was here row share e_known f_known is marked = record {
    sound = λ x y h. elim (or_cases (test x y) _ (sym (is x y) ∙ h)) [
      | inl old ↦ was.sound x y old
      | inr more ↦
          let both = and_parts (eqb x f) (test e y) more in
          subst (λ (z : ℕ). Led events inputs z y) (sym (eqb-true x f both.0)) (line_led f y (line_shared e f y share f_known (row y both.1)))
    ];
    lines = λ x h y l. elim (or_cases (begun x) _ (sym (marked x) ∙ h)) [
      | inl old ↦ is x y ∙ or_left (test x y) _ (was.lines x old y l)
      | inr more ↦
          let same = eqb-true x f more in
          let there = line_shared f e y (sym share.0, sym share.1) e_known (subst (λ (z : ℕ). LedByLine events inputs z y) same l) in
          is x y ∙ or_right (test x y) _ (and_from (eqb x f) (test e y) more (was.lines e here y there))
    ];
    blank = λ x y h. elim (cases_eq x f) [
      | inl same ↦ clash (or_right (begun x) (eqb x f) (eq-eqb x f same)) (sym (marked x) ∙ h)
      | inr other ↦ is x y ∙ rw (ne_eqb x f other) (or-false (test x y)) ∙ was.blank x y (sym (or-false (begun x)) ∙ (rw (marked x, ne_eqb x f other) at h))
    ];
  }

  -- a row that is begun may take in the row of the input of its event
  module _ (test now : ℕ → ℕ → Bool) (begun : ℕ → Bool) (e : ℕ) (was : IsBegun events inputs test begun) (here : begun e ≡ true)
      (o : is_output events e ≡ true) (is : (x y : ℕ) → now x y ≡ with_row test e (partner events e) true x y) where
    -- what the row of an output takes in with its input is led to
    message_sound : HoldsOnly (Led events inputs) now
    message_sound x y h =
        elim (row_cases test e (partner events e) true x y (sym (is x y) ∙ h)) [
          | inl old ↦ was.sound x y old
          | inr more ↦ subst (λ (z : ℕ). Led events inputs z y) (sym more.0) (elim more.1 [
            | inl there ↦ carried o (sym there.1)
            | inr after ↦ chained (carried o refl) (was.sound (partner events e) y after)
          ])
        ]

    -- the other rows stay as they are
    pub begun_message : IsBegun events inputs now begun
    begun_message = record {
      sound = message_sound;
      lines = λ x h y l. is x y ∙ row_kept test e (partner events e) true x y (was.lines x h y l);
      blank = λ x y h.
          let other : x ≢ e = λ same. clash here (subst (λ (z : ℕ). begun z ≡ false) same h) in
          is x y ∙ row_others test e (partner events e) true x y other ∙ was.blank x y h;
    }

    -- the row of an output then has all that is led to
    pub output_row : HasRowOf (Led events inputs) test (partner events e) → HasRowOf (Led events inputs) now e
    output_row later y h =
        elim (first_step e y h) [
          | inl line ↦ is e y ∙ row_kept test e (partner events e) true e y (was.lines e here y line)
          | inr sent ↦ elim sent.1 [
            | inl same ↦ subst (λ (z : ℕ). now e z ≡ true) same (is e (partner events e) ∙ row_there test e (partner events e) true refl)
            | inr more ↦ is e y ∙ row_after test e (partner events e) true y (later y more)
          ]
        ]

  -- the row of an input has all that is led to once it is begun
  pub input_row : (test : ℕ → ℕ → Bool) (begun : ℕ → Bool) (e : ℕ) → IsBegun events inputs test begun → begun e ≡ true → is_output events e ≡ false → HasRowOf (Led events inputs) test e
  input_row test begun e was here out y h =
      elim (first_step e y h) [
        | inl line ↦ was.lines e here y line
        | inr sent ↦ clash sent.0 out
      ]
