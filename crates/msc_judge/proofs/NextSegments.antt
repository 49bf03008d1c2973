-- Between whose events nothing is drawn: those of a segment and of the next one of the line.
use Rattle.std.proofs.Common.{◌≡◌, ℕ, ◌<◌, ◌≤◌, Bool, true, ◌&&◌, inl, inr, List, length, get_or, sym, ◌∙◌, arith}
use Rattle.std.specs.List.{range_with_len}
use Rattle.std.proofs.lemmas.Bool.{and_from, and_parts, cases_lt, not-true, not_from_false, false_from_ne_true}
use Rattle.std.proofs.lemmas.List.Folds.{list_any_at}
use Rattle.std.proofs.lemmas.List.FromFn.{get_or-range_with_len, length-range_with_len}
use Rattle.msc_chart.specs.declared.event.ChartEvent.{ChartEvent}
use Rattle.msc_chart.specs.Charts.{before, line, segment, IsInTextOrder, IsSegmentEnd}
use Rattle.msc_chart.proofs.Drawn.{before_parts}
use Rattle.msc_chart.proofs.ListLemmas.{clash}
use Rattle.msc_reason.proofs.Filtered.{any_parts}
use Rattle.msc_judge.specs.Between.{are_next}

module _ (events : List ChartEvent) where
  -- z is drawn between x and y
  abbrev pub lies_between : ℕ → ℕ → ℕ → Bool
  lies_between x y z = before events x z && before events z y

  -- where no event is drawn between two, they are next
  pub next_from : (x y : ℕ) → ((z : ℕ) → before events x z ≡ true → before events z y ≡ true → ⊥) → are_next events x y ≡ true
  unfolding are_next
  next_from x y none =
      not_from_false _ (false_from_ne_true _ (λ some.
      let it = any_parts (lies_between x y) (range_with_len 0 (length events)) some in
      let both = and_parts _ _ it.2 in
      none it.0 both.0 both.1))

  -- and where they are, none is
  pub next_parts : (x y z : ℕ) → are_next events x y ≡ true → before events x z ≡ true → before events z y ≡ true → ⊥
  unfolding are_next
  next_parts x y z next above below =
      let z_in = (before_parts events x z above).1 in
      let long = length-range_with_len 0 (length events) in
      let at = get_or-range_with_len 0 (length events) z 0 z_in in
      let here : get_or (range_with_len 0 (length events)) z 0 ≡ z = omega (arith, at) in
      let passes : lies_between x y (get_or (range_with_len 0 (length events)) z 0) ≡ true = rw here (and_from _ _ above below) in
      clash (list_any_at (lies_between x y) (range_with_len 0 (length events)) z 0 (omega (arith, long, z_in)) passes) (not-true _ next)

-- what is drawn after an event has a greater number
pub drawn_later : (events : List ChartEvent) → IsInTextOrder events → (x y : ℕ) → before events x y ≡ true → x < y
drawn_later events text x y drawn =
    let parts = before_parts events x y drawn in
    elim (cases_lt x y) [
      | inl less ↦ less
      | inr past ↦
          let down : segment events y ≤ segment events x = text.rising y x past parts.0 (sym parts.2) in
          absurd (omega (arith, down, parts.3))
    ]

module _ (events : List ChartEvent) (text : IsInTextOrder events) (x start : ℕ) (s : IsSegmentEnd events x start) where
  -- what is drawn after an event stands behind its segment
  pub after_segment : (y : ℕ) → before events x y ≡ true → start ≤ y
  after_segment y drawn = elim (cases_lt y start) [
    | inl within ↦
        let later : x < y = drawn_later events text x y drawn in
        let same = s.together y (omega (arith, later)) within in
        let parts = before_parts events x y drawn in
        absurd (omega (arith, parts.3, same.1))
    | inr past ↦ past
  ]

  module _ (end : ℕ) (t : IsSegmentEnd events start end) where
    -- nothing is drawn between it and an event of the segment below
    pub next_segment : (y : ℕ) → start ≤ y → y < end → are_next events x y ≡ true
    next_segment y low high = next_from events x y (λ z above below.
        let from : start ≤ z = after_segment z above in
        let later : z < y = drawn_later events text z y below in
        let one = t.together z from (omega (arith, later, high)) in
        let other = t.together y low high in
        let parts = before_parts events z y below in
        omega (arith, parts.3, one.1, other.1))

    -- and of what is drawn after it, of no other
    pub in_segment : (y : ℕ) → before events x y ≡ true → are_next events x y ≡ true → y < end
    in_segment y drawn next = elim (cases_lt y end) [
      | inl within ↦ within
      | inr past ↦
          let parts = before_parts events x y drawn in
          let low : start ≤ y = after_segment y drawn in
          let here : x < start = s.later in
          let inside : start < length events = omega (arith, low, parts.1) in
          let up : line events x ≤ line events start = text.lines x start (omega (arith, here)) inside in
          let down : line events start ≤ line events y = text.lines start y low parts.1 in
          let its : line events x ≡ line events start = omega (arith, up, down, parts.2) in
          let above = s.past start (omega arith) inside its in
          let below = t.past y past parts.1 (sym its ∙ parts.2) in
          absurd (next_parts events x y start next above below)
    ]
