-- Drawn events: what the tests for their kinds and for the drawn order say.
use Rattle.std.proofs.Common.{◌≡◌, ℕ, ◌<◌, ◌⊎◌, true, false, List, length, inl, inr, refl, sym, ap, ◌∙◌, true≢false}
use Rattle.std.proofs.lemmas.Bool.{and_parts, and_from, ltb-true, lt-ltb, eqb-true, eq-eqb}
use Rattle.msc_chart.specs.declared.event.EventKind.{EventKind}
use Rattle.msc_chart.specs.declared.event.EventKind.TheVariants.{Output, Input, Local}
use Rattle.msc_chart.specs.declared.event.ChartEvent.{ChartEvent}
use Rattle.msc_chart.specs.Charts.{line, segment, kind, partner, sends, takes, acts, controls, is_output, is_input, is_local, is_controlled, before, IsMatched}

module _ (events : List ChartEvent) where
  -- two events on one line, the first in a smaller segment, are drawn in that order
  pub before_from : (x y : ℕ) → x < length events → y < length events → line events x ≡ line events y → segment events x < segment events y → before events x y ≡ true
  unfolding before
  before_from x y p q l s = and_from _ _ (and_from _ _ (lt-ltb _ _ p) (lt-ltb _ _ q)) (and_from _ _ (eq-eqb _ _ l) (lt-ltb _ _ s))

  -- what is drawn in an order are two events on one line, the first in a smaller segment
  pub before_parts : (x y : ℕ) → before events x y ≡ true → (x < length events) × (y < length events) × (line events x ≡ line events y) × (segment events x < segment events y)
  unfolding before
  before_parts x y h =
      let p = and_parts _ _ h in
      let a = and_parts _ _ p.0 in
      let b = and_parts _ _ p.1 in
      (ltb-true _ _ a.0, ltb-true _ _ a.1, eqb-true _ _ b.0, ltb-true _ _ b.1)

  -- an event of the chart whose kind sends is an output
  pub output_from : (s : ℕ) → s < length events → sends (kind events s) ≡ true → is_output events s ≡ true
  unfolding is_output
  output_from s p h = and_from _ _ (lt-ltb _ _ p) h

  -- an output is an event of the chart, and its kind sends
  pub output_parts : (s : ℕ) → is_output events s ≡ true → (s < length events) × (sends (kind events s) ≡ true)
  unfolding is_output
  output_parts s h = let p = and_parts _ _ h in (ltb-true _ _ p.0, p.1)

  -- an event of the chart is an output where its kind sends
  pub output_is : (e : ℕ) → e < length events → sends (kind events e) ≡ is_output events e
  unfolding is_output
  output_is e h = rw (lt-ltb e (length events) h) refl

  -- an event of the chart whose kind takes is an input
  pub input_from : (r : ℕ) → r < length events → takes (kind events r) ≡ true → is_input events r ≡ true
  unfolding is_input
  input_from r p h = and_from _ _ (lt-ltb _ _ p) h

  -- an input is an event of the chart, and its kind takes
  pub input_parts : (r : ℕ) → is_input events r ≡ true → (r < length events) × (takes (kind events r) ≡ true)
  unfolding is_input
  input_parts r h = let p = and_parts _ _ h in (ltb-true _ _ p.0, p.1)

  -- an event of the chart is an input where its kind takes
  pub input_is : (e : ℕ) → e < length events → takes (kind events e) ≡ is_input events e
  unfolding is_input
  input_is e h = rw (lt-ltb e (length events) h) refl

  -- no event is both
  pub not_both : (e : ℕ) → is_output events e ≡ true → is_input events e ≡ true → ⊥
  not_both e o i = by (kind events e) (output_parts e o).1 (input_parts e i).1
    where
      -- no kind both sends and takes
      by : (k : EventKind) → sends k ≡ true → takes k ≡ true → ⊥
      by Output h k = true≢false (sym k)
      by Input h k = true≢false (sym h)
      by Local h k = true≢false (sym h)

  -- an event of the chart whose kind acts is a local event
  pub local_from : (e : ℕ) → e < length events → acts (kind events e) ≡ true → is_local events e ≡ true
  unfolding is_local
  local_from e p h = and_from _ _ (lt-ltb _ _ p) h

  -- a local event is an event of the chart, and its kind acts
  pub local_parts : (e : ℕ) → is_local events e ≡ true → (e < length events) × (acts (kind events e) ≡ true)
  unfolding is_local
  local_parts e h = let p = and_parts _ _ h in (ltb-true _ _ p.0, p.1)

  -- an event of the chart is local where its kind acts
  pub local_is : (e : ℕ) → e < length events → acts (kind events e) ≡ is_local events e
  unfolding is_local
  local_is e h = rw (lt-ltb e (length events) h) refl

  -- an event of the chart whose kind controls is controlled
  pub controlled_from : (e : ℕ) → e < length events → controls (kind events e) ≡ true → is_controlled events e ≡ true
  unfolding is_controlled
  controlled_from e p h = and_from _ _ (lt-ltb _ _ p) h

  -- a controlled event is an event of the chart, and its kind controls
  pub controlled_parts : (e : ℕ) → is_controlled events e ≡ true → (e < length events) × (controls (kind events e) ≡ true)
  unfolding is_controlled
  controlled_parts e h = let p = and_parts _ _ h in (ltb-true _ _ p.0, p.1)

  -- an event of the chart is controlled where its kind controls
  pub controlled_is : (e : ℕ) → e < length events → controls (kind events e) ≡ is_controlled events e
  unfolding is_controlled
  controlled_is e h = rw (lt-ltb e (length events) h) refl

  -- an output is controlled
  pub output_controlled : (e : ℕ) → is_output events e ≡ true → is_controlled events e ≡ true
  output_controlled e o = let p = output_parts e o in controlled_from e p.0 (by (kind events e) p.1)
    where
      -- a kind that sends controls
      by : (k : EventKind) → sends k ≡ true → controls k ≡ true
      by Output h = refl
      by Input h = h
      by Local h = refl

  -- no input is
  pub controlled_no_input : (e : ℕ) → is_controlled events e ≡ true → is_input events e ≡ true → ⊥
  controlled_no_input e c i = by (kind events e) (controlled_parts e c).1 (input_parts e i).1
    where
      -- no kind both controls and takes
      by : (k : EventKind) → controls k ≡ true → takes k ≡ true → ⊥
      by Output h k = true≢false (sym k)
      by Input h k = true≢false (sym h)
      by Local h k = true≢false (sym k)

  -- each event is controlled or an input
  pub controlled_or_input : (e : ℕ) → e < length events → (is_controlled events e ≡ true) ⊎ (is_input events e ≡ true)
  controlled_or_input e below = by (kind events e) refl
    where
      -- each kind controls or takes
      by : (k : EventKind) → kind events e ≡ k → (is_controlled events e ≡ true) ⊎ (is_input events e ≡ true)
      by Output h = inl (controlled_from e below (ap controls h))
      by Input h = inr (input_from e below (ap takes h))
      by Local h = inl (controlled_from e below (ap controls h))

  -- each event that is not local is an output or an input
  pub output_or_input : (e : ℕ) → e < length events → is_local events e ≡ false → (is_output events e ≡ true) ⊎ (is_input events e ≡ true)
  output_or_input e below away = by (kind events e) refl
    where
      -- each kind but the local one sends or takes
      by : (k : EventKind) → kind events e ≡ k → (is_output events e ≡ true) ⊎ (is_input events e ≡ true)
      by Output h = inl (output_from e below (ap sends h))
      by Input h = inr (input_from e below (ap takes h))
      by Local h = absurd (true≢false (sym (local_from e below (ap acts h)) ∙ away))

  -- no output is local
  pub output_not_local : (e : ℕ) → is_output events e ≡ true → is_local events e ≡ false
  unfolding is_local
  output_not_local e o = let p = output_parts e o in rw (lt-ltb e (length events) p.0) (by (kind events e) p.1)
    where
      -- no kind both sends and acts
      by : (k : EventKind) → sends k ≡ true → acts k ≡ false
      by Output h = refl
      by Input h = refl
      by Local h = sym h

  -- and no input is
  pub input_not_local : (e : ℕ) → is_input events e ≡ true → is_local events e ≡ false
  unfolding is_local
  input_not_local e i = let p = input_parts e i in rw (lt-ltb e (length events) p.0) (by (kind events e) p.1)
    where
      -- no kind both takes and acts
      by : (k : EventKind) → takes k ≡ true → acts k ≡ false
      by Output h = refl
      by Input h = refl
      by Local h = sym h

  module _ (matched : IsMatched events) where
    -- the partner of an output is an input
    pub partner_of_output : (s : ℕ) → is_output events s ≡ true → is_input events (partner events s) ≡ true
    partner_of_output s o =
        let below = (output_parts s o).0 in
        sym (matched.other_kind (partner events s) (matched.in_range s below))
        ∙ ap (is_output events) (matched.to_and_fro s below)
        ∙ o

    -- the partner of an input is an output
    pub partner_of_input : (r : ℕ) → is_input events r ≡ true → is_output events (partner events r) ≡ true
    partner_of_input r i = matched.other_kind r (input_parts r i).0 ∙ i
