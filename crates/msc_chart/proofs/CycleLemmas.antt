-- The search for an event that precedes itself: what it takes as reached is reached, and where it is
-- closed it has reached everything.
use Rattle.std.proofs.Common.{◌≡◌, ℕ, ◌<◌, ◌≤◌, true, List, length, get_or, set, ◌⊎◌, inl, inr, refl, sym, ap, subst, ◌∙◌, arith, get_or-set_other, get_or-set_same}
use Rattle.std.proofs.lemmas.Bool.{cases_eq}
use Rattle.msc_chart.specs.declared.TheConstants.{EVENT_LIMIT}
use Rattle.msc_chart.specs.declared.event.ChartEvent.{ChartEvent}
use Rattle.msc_chart.specs.Charts.{at, line, segment, kind, partner, is_output, is_input, Visual, IsMatched, AreOnLines}
use Rattle.msc_chart.specs.Charts.Visual.{seen, passed, linked}
use Rattle.msc_chart.specs.Reach.{IsBelow, IsPassed, AreReached, AreClosedBelow}
use Rattle.msc_chart.proofs.Drawn.{before_from, before_parts, output_from, output_parts, partner_of_output, not_both}

module _ (lines : ℕ) (events : List ChartEvent) (e : ℕ) (low : List ℕ) (matched : IsMatched events) (on_lines : AreOnLines lines events) where
  -- the output of IsPassed, as the orders have it
  is_sent : (s : ℕ) → s < length events → IsPassed events e low s → is_output events s ≡ true
  unfolding kind
  is_sent s within pass = output_from events s within pass.output

  -- the input of an output that is passed is reached
  pub input_reached : AreReached events e low → (s : ℕ) → s < length events → IsPassed events e low s → Visual events e (partner events s)
  input_reached sound s within pass =
      let carried : Visual events s (partner events s) = passed (is_sent s within pass) refl in
      elim pass.reached [
        | inl same ↦ subst (λ (z : ℕ). Visual events z (partner events s)) same carried
        | inr below ↦ linked (sound.reached s within below) carried
      ]

  -- reached, by a line or by a message
  abbrev pub Seen : ℕ → Type 0
  Seen y = IsBelow events low y ⊎ ((s : ℕ) × (s < length events) × IsPassed events e low s × (partner events s ≡ y))

  -- what is reached by a message is an input
  is_taken : (s y : ℕ) → s < length events → IsPassed events e low s → partner events s ≡ y → is_input events y ≡ true
  is_taken s y within pass same = ap (is_input events) (sym same) ∙ partner_of_output events matched s (is_sent s within pass)

  -- where the search is closed, all that comes after e is reached
  pub complete : get_or low (at events e).line 0 ≤ (at events e).segment → AreClosedBelow events e low (length events)
      → {x y : ℕ} → Visual events x y → (x ≡ e) ⊎ Seen x → Seen y
  unfolding line segment partner kind
  complete begun closed {x} {y} (seen h) from =
      let p = before_parts events x y h in
      let reached : get_or low (at events x).line 0 ≤ (at events x).segment =
      elim from [
        | inl same ↦ subst (λ (z : ℕ). get_or low (at events z).line 0 ≤ (at events z).segment) (sym same) begun
        | inr (inl below) ↦ omega arith
        | inr (inr found) ↦ subst (λ (z : ℕ). get_or low (at events z).line 0 ≤ (at events z).segment) found.3 (closed found.0 found.1 found.2)
      ] in
      inl (rw (← p.2) (omega (arith, p.3)))
  complete begun closed {x} {y} (passed h same) from =
      let p = output_parts events x h in
      let reached : (x ≡ e) ⊎ IsBelow events low x =
      elim from [
        | inl here ↦ inl here
        | inr (inl below) ↦ inr below
        | inr (inr found) ↦ absurd (not_both events x h (is_taken found.0 x found.1 found.2 found.3))
      ] in
      inr (x, p.0, record { output = p.1; reached = reached }, same)
  complete begun closed (linked h k) from = complete begun closed k (inr (complete begun closed h from))

  -- where the search is closed and e precedes itself, the search sees it: on the line of e, or by
  -- its message
  pub found : AreReached events e low → e < length events → Visual events e e → AreClosedBelow events e low (length events)
      → IsBelow events low e ⊎ ((is_input events e ≡ true) × IsPassed events e low (partner events e))
  found sound within cycle closed =
      elim (complete sound.begun closed cycle (inl refl)) [
        | inl below ↦ inl below
        | inr f ↦
            let back : partner events e ≡ f.0 = ap (partner events) (sym f.3) ∙ matched.to_and_fro f.0 f.1 in
            inr (is_taken f.0 e f.1 f.2 f.3, subst (IsPassed events e low) (sym back) f.2)
      ]

  -- where the search sees e below what is reached, or its partner passed, e precedes itself
  pub cycle_from : AreReached events e low → e < length events → IsBelow events low e ⊎ IsPassed events e low (partner events e) → Visual events e e
  cycle_from sound within h =
      elim h [
        | inl below ↦ sound.reached e within below
        | inr p ↦ subst (Visual events e) (matched.to_and_fro e within) (input_reached sound (partner events e) (matched.in_range e within) p)
      ]

  -- one more input is reached
  pub lowered_sound : AreReached events e low → (s : ℕ) → s < length events → IsPassed events e low s → length low ≡ lines
      → (at events (at events s).partner).segment < get_or low (at events (at events s).partner).line 0
      → AreReached events e (set low (at events (at events s).partner).line (at events (at events s).partner).segment)
  unfolding line segment partner
  lowered_sound sound s within pass len higher =
      let r : ℕ = (at events s).partner in
      let r_in : r < length events = matched.in_range s within in
      let line_in : (at events r).line < length low = let l = on_lines.on_line r r_in in omega arith in
      let e_to_r : Visual events e r = input_reached sound s within pass in
      record {
        begun =
            elim (cases_eq (at events e).line (at events r).line) [
              | inl same ↦ rw (same, get_or-set_same) (let b = sound.begun in let b' = subst (λ (z : ℕ). get_or low z 0 ≤ (at events e).segment) same b in omega arith)
              | inr other ↦ rw get_or-set_other sound.begun
            ];
        reached = λ y y_in below.
            elim (cases_eq (at events y).line (at events r).line) [
              | inl same ↦
                  let deeper : (at events r).segment < (at events y).segment = rw (same, get_or-set_same) at below in
                  linked e_to_r (seen (before_from events r y r_in y_in (sym same) deeper))
              | inr other ↦ sound.reached y y_in (rw get_or-set_other at below)
            ];
      }

  -- at first e alone is reached
  pub begun_sound : e < length events → length events ≤ EVENT_LIMIT → length low ≡ lines → ((k : ℕ) → k < length low → get_or low k 0 ≡ 4294967295)
      → AreReached events e (set low (at events e).line (at events e).segment)
  unfolding line segment
  begun_sound within few len none =
      let line_in : (at events e).line < length low = let l = on_lines.on_line e within in omega arith in
      record {
        begun = rw get_or-set_same (omega arith);
        reached = λ y y_in below.
            elim (cases_eq (at events y).line (at events e).line) [
              | inl same ↦
                  let deeper : (at events e).segment < (at events y).segment = rw (same, get_or-set_same) at below in
                  seen (before_from events e y within y_in (sym same) deeper)
              | inr other ↦
                  let l = on_lines.on_line y y_in in
                  let top : get_or low (at events y).line 0 ≡ 4294967295 = none (at events y).line (omega arith) in
                  let under : get_or low (at events y).line 0 < (at events y).segment = rw get_or-set_other at below in
                  let small = on_lines.few y y_in in
                  absurd (omega arith)
            ];
      }
