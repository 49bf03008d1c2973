-- The mark of an event that is for the architecture, looked up by its number.
use Rattle.std.proofs.Common.{◌≡◌, ℕ, ◌<◌, ◌≤◌, Bool, true, false, List, [], length, get_or, Some, None, refl, sym, ap, ◌∙◌, subst, arith}
use Rattle.std.specs.List.{position_or_len, slice_get}
use Rattle.std.specs.Option.{option_map_or}
use Rattle.std.specs.Prelude.{is_some}
use Rattle.std.proofs.lemmas.List.{get_or_default}
use Rattle.std.proofs.lemmas.List.Folds.{find_at}
use Rattle.std.proofs.lemmas.List.Sums.{position_or_len_is}
use Rattle.std.proofs.lemmas.Option.{slice_get-get_or, slice_get_read, slice_get_past}
use Rattle.msc_mark.specs.declared.mark.Mark.{Mark}
use Rattle.msc_mark.specs.Accepting.{Acceptance, accepts_from, is_mark_for, mark_for, name_at, names_event, number_at}
use Rattle.msc_mark.specs.Kept.{AreNumbers, number_of}
use Rattle.msc_mark.specs.Named.{MarkedChart, marked_chart}

-- what is read past the last mark
abbrev pub no_mark : Mark
no_mark = record { event = 0; place = 0; words = [] }

module _ (test : Mark → Bool) (marks : List Mark) where
  -- mark i is the first that passes
  pub first_is : (i : ℕ) (m : Mark) → i < length marks → m ≡ get_or marks i m → test m ≡ true
      → ((k : ℕ) → k < i → test (get_or marks k no_mark) ≡ false) → i ≡ position_or_len test marks
  first_is i m inside is passes before =
      let here = sym (ap test (is ∙ get_or_default marks i m no_mark inside)) ∙ passes in
      sym (position_or_len_is test marks i no_mark (omega arith) before (λ h. here))

  -- mark i does not pass either
  pub fails_at : (i : ℕ) (m : Mark) → i < length marks → m ≡ get_or marks i m → test m ≡ false
      → test (get_or marks i no_mark) ≡ false
  fails_at i m inside is fails = sym (ap test (is ∙ get_or_default marks i m no_mark inside)) ∙ fails

  -- none passes
  pub none_is : (i : ℕ) → length marks ≤ i → ((k : ℕ) → k < i → test (get_or marks k no_mark) ≡ false)
      → length marks ≡ position_or_len test marks
  none_is i past before =
      sym (position_or_len_is test marks (length marks) no_mark (omega arith) (λ k less. before k (omega arith)) (λ h. absurd (omega arith)))

module _ (a : Acceptance) (e i : ℕ) (is : i ≡ number_of a e) where
  -- the mark of e is that of its number
  mark_is : mark_for a.marks a.queues e ≡ slice_get a.marks i
  unfolding mark_for
  mark_is = find_at (is_mark_for a.queues e) a.marks ∙ ap (slice_get a.marks) (sym is)

  pub mark_some : (m : Mark) → i < length a.marks → m ≡ get_or a.marks i m
      → mark_for a.marks a.queues e ≡ Some m
  mark_some m inside at = mark_is ∙ slice_get_read a.marks (length a.marks) i m refl inside at

  pub mark_none : length a.marks ≤ i → mark_for a.marks a.queues e ≡ None
  mark_none past = mark_is ∙ slice_get_past a.marks i past

  -- whether it is for f
  pub accepts_some : (f : ℕ) (m : Mark) → i < length a.marks → m ≡ get_or a.marks i m
      → accepts_from a.marks a.chart a.queues e f ≡ names_event (name_at a.chart f) (number_at a.chart f) m
  unfolding accepts_from
  accepts_some f m inside at =
      ap (λ o. option_map_or (names_event (name_at a.chart f) (number_at a.chart f)) o false) (mark_some m inside at)

  pub accepts_none : (f : ℕ) → length a.marks ≤ i → accepts_from a.marks a.chart a.queues e f ≡ false
  unfolding accepts_from
  accepts_none f past =
      ap (λ o. option_map_or (names_event (name_at a.chart f) (number_at a.chart f)) o false) (mark_none past)

  -- the same, told by what is kept of the events that marks name
  pub accepts_named : (f : ℕ) (n : MarkedChart) (r : Bool) → i < length a.marks → n ≡ marked_chart a.marks a.chart
      → ((m : Mark) → slice_get n.marks i ≡ Some m → r ≡ names_event (name_at n.chart f) (number_at n.chart f) m)
      → r ≡ accepts_from a.marks a.chart a.queues e f
  accepts_named f n r inside same tells =
      let m = get_or a.marks i no_mark in
      let own = subst (λ k. (m : Mark) → slice_get k.marks i ≡ Some m → r ≡ names_event (name_at k.chart f) (number_at k.chart f) m) same tells in
      own m (slice_get-get_or a.marks i no_mark inside)
      ∙ sym (accepts_some f m inside (get_or_default a.marks i no_mark m inside))

  -- whether there is one
  pub has_mark : i < length a.marks → is_some (mark_for a.marks a.queues e) ≡ true
  has_mark inside =
      ap is_some (mark_some (get_or a.marks i no_mark) inside (get_or_default a.marks i no_mark (get_or a.marks i no_mark) inside))

  pub has_none : length a.marks ≤ i → is_some (mark_for a.marks a.queues e) ≡ false
  has_none past = ap is_some (mark_none past)

-- what stands for event e is the number of its mark
pub told_by : (a v : Acceptance) (at : List ℕ) (e i : ℕ) → a ≡ v → AreNumbers a at
    → e < length v.chart.events → i ≡ get_or at e i → i ≡ number_of a e
told_by a v at e i same h known is =
    let size = ap (λ w. length w.chart.events) same in
    let inside : e < length at = let each = h.each in omega (arith, each, size, known) in
    is ∙ get_or_default at e i 0 inside ∙ h.own e inside
