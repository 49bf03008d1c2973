-- What the tests of charts say of events.
use Rattle.std.proofs.Common.{◌≡◌, ℕ, ◌<◌, Bool, true, false, List, length, Option, None, Some, refl, ap, sym, ◌∙◌, true≢false}
use Rattle.std.proofs.lemmas.Bool.{and_parts, and_from, ltb-true, lt-ltb, eqb-true, eq-eqb, false≢true}
use Rattle.msc_chart.specs.declared.event.EventKind.{EventKind}
use Rattle.msc_chart.specs.declared.event.EventKind.TheVariants.{Output, Input, Local}
use Rattle.msc_chart.specs.declared.event.ChartEvent.{ChartEvent}
use Rattle.msc_picture.specs.Frames.{is_some}
use Rattle.msc_chart.specs.Charts.{line, segment, kind, sends, takes, acts, is_output, is_input, is_local, before}

-- no kind both sends and takes
one_kind : (k : EventKind) → sends k ≡ true → takes k ≡ true → ⊥
one_kind Output h k = true≢false (sym k)
one_kind Input h k = true≢false (sym h)
one_kind Local h k = true≢false (sym h)

-- nor does one that sends act
quiet_kind : (k : EventKind) → sends k ≡ true → acts k ≡ false
quiet_kind Output h = refl
quiet_kind Input h = refl
quiet_kind Local h = absurd (true≢false (sym h))

-- a number that passes for an option
pub some_is : (o : Option ℕ) (x : ℕ) → is_some o x ≡ true → o ≡ Some x
some_is None x h = absurd (false≢true h)
some_is (Some y) x h = ap Some (eqb-true y x h)

module _ (events : List ChartEvent) where
  -- an output is no local event
  pub output_quiet : (e : ℕ) (b : Bool) → e < length events → b ≡ is_output events e
      → b ≡ true → is_local events e ≡ false
  unfolding is_output is_local
  output_quiet e b below is h =
      let o = and_parts _ _ (sym is ∙ h) in
      rw (lt-ltb e (length events) below) (quiet_kind (kind events e) o.1)

  -- no event is both an output and an input
  pub not_both : (e : ℕ) → is_output events e ≡ true → is_input events e ≡ true → ⊥
  unfolding is_output is_input
  not_both e o i = one_kind (kind events e) (and_parts _ _ o).1 (and_parts _ _ i).1

  -- an output is an event
  pub output_known : (e : ℕ) → is_output events e ≡ true → e < length events
  unfolding is_output
  output_known e o = ltb-true _ _ (and_parts _ _ o).0

  -- two events on one line, the first in a smaller segment, are drawn in that order
  pub before_from : (x y : ℕ) → x < length events → y < length events
      → line events x ≡ line events y → segment events x < segment events y
      → before events x y ≡ true
  unfolding before
  before_from x y p q l s =
      and_from _ _ (and_from _ _ (lt-ltb _ _ p) (lt-ltb _ _ q))
      (and_from _ _ (eq-eqb _ _ l) (lt-ltb _ _ s))

  -- what is drawn in an order are two events on one line, the first in a smaller segment
  pub before_parts : (x y : ℕ) → before events x y ≡ true → (x < length events)
      × (y < length events) × (line events x ≡ line events y)
      × (segment events x < segment events y)
  unfolding before
  before_parts x y h =
      let p = and_parts _ _ h in
      let a = and_parts _ _ p.0 in
      let b = and_parts _ _ p.1 in
      (ltb-true _ _ a.0, ltb-true _ _ a.1, eqb-true _ _ b.0, ltb-true _ _ b.1)
