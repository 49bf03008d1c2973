-- The segments of lines, and what the order in which they are walked gives.
use Rattle.std.proofs.Common.{◌≡◌, ℕ, ◌<◌, ◌≤◌, true, false, inl, inr, List, length, sym, ◌∙◌, arith}
use Rattle.std.proofs.lemmas.Bool.{cases_lt}
use Rattle.msc_chart.specs.declared.event.ChartEvent.{ChartEvent}
use Rattle.msc_chart.specs.Charts.{line, segment, before, IsInTextOrder, IsSegmentEnd}
use Rattle.msc_chart.proofs.Drawn.{before_from, before_parts}
use Rattle.msc_order.specs.Closing.{IsNextSegment}

module _ (events : List ChartEvent) (text : IsInTextOrder events) where
  -- what is drawn before has a smaller number
  pub before_later : (x y : ℕ) → before events x y ≡ true → x < y
  before_later x y h =
      let p = before_parts events x y h in
      elim (cases_lt x y) [
        | inl less ↦ less
        | inr more ↦ let down : segment events y ≤ segment events x = text.rising y x more p.0 (sym p.2) in absurd (omega (arith, down, p.3))
      ]

  -- where nothing is drawn after its segment, no segment comes next
  pub none_next : (e start : ℕ) → IsSegmentEnd events e start → (start < length events → before events e start ≡ false) → IsNextSegment events e start start
  none_next e start s none = record {
    rising = omega arith;
    within = s.within;
    drawn = λ f low high. absurd (omega (arith, low, high));
    next = λ y b.
        let p = before_parts events e y b in
        let later : e < y = before_later e y b in
        elim (cases_lt y start) [
          | inl within ↦ let t = s.together y (omega arith) within in absurd (omega (arith, t.1, p.3))
          | inr past ↦
              let up : line events e ≤ line events start = text.lines e start (let l = s.later in omega (arith, l)) (omega (arith, past, p.1)) in
              let down : line events start ≤ line events y = text.lines start y past p.1 in
              let b = s.past start (omega arith) (omega (arith, past, p.1)) (omega (arith, up, down, p.2)) in
              absurd (let c = none (omega (arith, past, p.1)) in cc)
        ];
  }

  -- the segment that comes next
  pub is_next : (e start end : ℕ) → IsSegmentEnd events e start → before events e start ≡ true → IsSegmentEnd events start end → IsNextSegment events e start end
  is_next e start end s b t =
      let q = before_parts events e start b in
      record {
        rising = let l = t.later in omega (arith, l);
        within = t.within;
        drawn = λ f low high.
            let g = t.together f low high in
            before_from events e f q.0 (let w = t.within in omega (arith, high, w)) (q.2 ∙ g.0) (omega (arith, q.3, g.1));
        next = λ y b.
            let p = before_parts events e y b in
            let later : e < y = before_later e y b in
            let past : start ≤ y = elim (cases_lt y start) [
              | inl within ↦ let u = s.together y (omega arith) within in absurd (omega (arith, u.1, p.3))
              | inr ge ↦ ge
            ] in (
              t.later,
              elim (cases_lt y end) [
                | inl inside ↦ inl (past, inside)
                | inr out ↦ inr (t.past y out p.1 (sym q.2 ∙ p.2))
              ],
            );
      }
