use Rattle.std.proofs.Common.{◌≡◌, ◌<◌, ◌+◌, ℕ, List, true, inl, inr, length, get_or, sym, ◌∙◌, subst, arith}
use Rattle.msc_chart.proofs.Drawn.{before_parts}
use Rattle.msc_chart.proofs.ListLemmas.{by_test, clash}
use Rattle.msc_chart.specs.Charts.{before, IsSegmentEnd}
use Rattle.msc_chart.specs.declared.event.ChartEvent.{ChartEvent}
use Rattle.msc_race.proofs.Making.LinkLemmas.{any_default}
use Rattle.msc_reason.proofs.Counted.{counted_drawn}
use Rattle.msc_reason.proofs.Marking.{none_within, some_within}
use Rattle.msc_reason.proofs.Within.{found_first, found_last, found_least, told_by}
use Rattle.msc_reason.specs.Marked.{is_counted}
use Rattle.msc_reason.proofs.marks.Marks.has_within.Goals as goal
use Rattle.msc_reason.proofs.marks.Marks.has_within.Goals.{else-least-events-via-then-least-events+else-before-2, else-least-events-via-else-least-events}

-- what stands at a place of a list
last_is : (xs : List ℕ) (i x : ℕ) → x ≡ get_or xs i x → i < length xs → x ≡ get_or xs i 0
last_is xs i x is inside = is ∙ any_default xs i x 0 inside

-- and at the end of a segment
least_is : (events : List ChartEvent) (xs : List ℕ) (e end x : ℕ) → length xs ≡ length events + 1 → IsSegmentEnd events e end → x ≡ get_or xs end x → x ≡ get_or xs end 0
least_is events xs e end x long past is = last_is xs end x is (let w = past.within in omega (arith, w, long))

pub before-requires-clause-e_known : goal.before-requires-clause-e_known
before-requires-clause-e_known c =
    let e = c.args.enforced.now in
    let own = before_parts e.chart.events _ _ (counted_drawn e c.requires.0 c.args.race.0 c.args.race.1 c.requires.1.race) in
    let le = c.requires.1.first.none_below c.args.race.1 c.requires.1.race in
    rw c.chart-chart.ensures (omega (arith, le, own.1))

pub before-requires-clause-f_known : goal.before-requires-clause-f_known
before-requires-clause-f_known c =
    let e = c.args.enforced.now in
    rw c.chart-chart.ensures (before_parts e.chart.events _ _ (counted_drawn e c.requires.0 c.args.race.0 c.args.race.1 c.requires.1.race)).1

pub before-requires-then-least-events-clause-f_known : goal.before-requires-then-least-events-clause-f_known
before-requires-then-least-events-clause-f_known c =
    let e = c.args.enforced.now in
    rw c.chart-chart.ensures (before_parts e.chart.events _ _ (counted_drawn e c.requires.0 c.args.race.0 c.args.race.1 c.requires.1.race)).1

pub index-requires : goal.index-requires
index-requires c =
    let e = c.args.enforced.now in
    let own = before_parts e.chart.events _ _ (counted_drawn e c.requires.0 c.args.race.0 c.args.race.1 c.requires.1.race) in
    let h = c.requires.1.marks.lasts in
    omega (arith, own.1, h)

pub before-requires-2-clause-f_known : goal.before-requires-2-clause-f_known
before-requires-2-clause-f_known c =
    let e = c.args.enforced.now in
    let end = c.requires.1.marks.end c.args.race.0 c.args.race.1 c.requires.1.race in
    let own = before_parts e.chart.events _ _ (counted_drawn e c.requires.0 _ c.args.race.1 end.1) in
    let same = last_is c.args.self.now.last.items c.args.race.1 c.index.result.now c.index.ensures (omega (arith, own.1, c.requires.1.marks.lasts)) in
    rw c.chart-chart.ensures (omega (arith, same, own.0))

pub returns-then-before : goal.returns-then-before
returns-then-before c allowed asked =
    let e = c.args.enforced.now in
    let drawn = rw c.chart-chart.ensures at c.before-2.ensures in
    let found = found_first e.chart.events c.facts.ensures.chart.in_text_order (is_counted e allowed) (counted_drawn e allowed) _ _ asked.marks
    c.args.race.0 c.args.race.1 c.args.first c.args.end asked.race asked.first asked.end (drawn.0 c.if-before.true) in
    sym (some_within e allowed c.args.race found.0 found.1 found.2)

pub returns-then-before-2 : goal.returns-then-before-2
returns-then-before-2 c allowed asked =
    let e = c.args.enforced.now in
    let n = rw c.chart-chart.ensures at c.events.ensures.number in
    let drawn = rw c.chart-chart.ensures at c.before-then-least-events.ensures in
    let same = least_is e.chart.events c.args.self.now.least.items c.args.race.0 c.args.end c.index-least.result.now asked.marks.leasts asked.end c.index-least.ensures in
    let found = found_least e.chart.events c.facts.ensures.chart.in_text_order (is_counted e allowed) (counted_drawn e allowed) _ _ asked.marks
    c.args.race.0 c.args.race.1 c.args.first c.args.end asked.race asked.first asked.end
    (let low = c.if-least-events.true in omega (arith, low, same, n))
    (subst (λ (x : ℕ). before e.chart.events x c.args.race.1 ≡ true) same (drawn.0 c.if-before-2.true)) in
    sym (some_within e allowed c.args.race found.0 found.1 found.2)

pub returns : goal.returns
returns c allowed asked =
    let e = c.args.enforced.now in
    let n = rw c.chart-chart.ensures at c.events.ensures.number in
    let ahead = rw c.chart-chart.ensures at c.before-2.ensures in
    let drawn = rw c.chart-chart.ensures at c.before-3.ensures in
    let text = c.facts.ensures.chart.in_text_order in
    let own = before_parts e.chart.events _ _ (counted_drawn e allowed c.args.race.0 c.args.race.1 asked.race) in
    let last = last_is c.args.self.now.last.items c.args.race.1 c.index.result.now c.index.ensures (omega (arith, own.1, asked.marks.lasts)) in
    let least = least_is e.chart.events c.args.self.now.least.items c.args.race.0 c.args.end c.index-least.result.now asked.marks.leasts asked.end c.index-least.ensures in
    let none : get_or c.args.self.now.least.items c.args.end 0 < length e.chart.events → before e.chart.events (get_or c.args.self.now.least.items c.args.end 0) c.args.race.1 ≡ true → ⊥ =
    λ low high. elim c.else-least-events.branch [
      | else-least-events-via-then-least-events+else-before-2 w ↦
          let told = rw c.chart-chart.ensures at w.before-then-least-events.ensures in
          clash (told.1 (subst (λ (x : ℕ). before e.chart.events x c.args.race.1 ≡ true) (sym least) high)) w.if-before-2.false
      | else-least-events-via-else-least-events w ↦ let past = w.if-least-events.false in absurd (omega (arith, past, low, least, n))
    ] in
    by_test c.before-3.result
    (λ yes.
    let found = found_last e.chart.events text (is_counted e allowed) (counted_drawn e allowed) _ _ asked.marks
    c.args.race.0 c.args.race.1 c.args.first c.args.end asked.race asked.first asked.end (subst (λ (x : ℕ). before e.chart.events c.args.race.0 x ≡ true) last (drawn.0 yes)) in
    yes ∙ sym (some_within e allowed c.args.race found.0 found.1 found.2))
    (λ no. no ∙ sym (none_within e allowed c.args.race (λ q its within.
    elim (told_by e.chart.events text (is_counted e allowed) (counted_drawn e allowed) _ _ asked.marks
    c.args.race.0 c.args.race.1 c.args.first c.args.end asked.race asked.first asked.end (q, its, within)) [
      | inl one ↦ clash (ahead.1 one) c.if-before.false
      | inr rest ↦ elim rest [
        | inl two ↦ none two.0 two.1
        | inr three ↦ clash (drawn.1 (subst (λ (x : ℕ). before e.chart.events c.args.race.0 x ≡ true) (sym last) three)) no
      ]
    ])))
