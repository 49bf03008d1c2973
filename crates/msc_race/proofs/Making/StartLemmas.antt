-- The lines before any event has occurred.
use Rattle.std.proofs.Common.{◌≡◌, ℕ, ◌+◌, ◌<◌, true, ◌↔◌, ◌⊎◌, inl, inr, List, length, get_or, set, refl, sym, ap, ◌∙◌, arith, get_or-set_same, get_or-set_other}
use Rattle.std.proofs.lemmas.Bool.{cases_eq, cases_lt}
use Rattle.msc_chart.specs.declared.event.ChartEvent.{ChartEvent}
use Rattle.msc_chart.specs.Drawings.{Drawing}
use Rattle.msc_chart.specs.Charts.{line, IsInTextOrder, IsSegmentEnd}
use Rattle.msc_chart.proofs.Drawn.{before_parts}
use Rattle.bit_rows.specs.Rows.{has}
use Rattle.msc_race.specs.Fronts.{AreLinesTo, IsLowest, IsOpenControlled, IsToOpen}
use Rattle.msc_race.proofs.Shared.{clash}
use Rattle.msc_race.proofs.Making.RowLemmas.{row_same}
use Rattle.msc_race.proofs.Runs.EventLemmas.{controlled_parts}

-- Where the first events from x + 1 on are told, x is the first of its line from x on, and the other
-- lines keep theirs.
pub first_sooner : (events : List ChartEvent) (firsts : List ℕ) (x i : ℕ) → x < length events → line events x < length firsts
    → IsLowest events (x + 1) i (get_or firsts i 0) → IsLowest events x i (get_or (set firsts (line events x) x) i 0)
first_sooner events firsts x i known on was = elim (cases_eq i (line events x)) [
  | inl same ↦ rw (same, get_or-set_same firsts (line events x) x 0 on) (record {
    least = λ y from below here. from;
    within = omega (arith, known);
    itself = λ below. (refl, omega arith);
  })
  | inr other ↦ rw (get_or-set_other firsts (line events x) i x 0 other) (record {
    least = λ y from below here. elim (cases_eq y x) [
      | inl is ↦ absurd (other (sym here ∙ ap (λ z. line events z) is))
      | inr apart ↦ was.least y (omega (arith, from, apart)) below here
    ];
    within = was.within;
    itself = λ below. let p = was.itself below in let from = p.1 in (p.0, omega (arith, from));
  })
]

module _ (events : List ChartEvent) (text : IsInTextOrder events) (left : List ℕ) (all : (y : ℕ) → (has left y ≡ true) ↔ (y < length events))
    (i front : ℕ) (low : IsLowest events 0 i front) where
  -- on a line whose first event is none, nothing is open
  none_open : (front < length events → line events front ≡ i → ⊥) → (y : ℕ) → IsOpenControlled events left y → line events y ≡ i → ⊥
  none_open none y opens on =
      let known = (controlled_parts events y opens.controlled).0 in
      let first = low.least y (omega arith) known on in
      let here : front < length events = omega (arith, first, known) in
      none here (low.itself here).0

  module _ (end : ℕ) (ends : IsSegmentEnd events front end) (here : line events front ≡ i) where
    -- what is controlled in the segment of the first event is open
    opened_open : (y : ℕ) → IsToOpen events left front end y → IsOpenControlled events left y × (line events y ≡ i)
    opened_open y opened =
        let share = ends.together y opened.later opened.within in
        let on : line events y ≡ i = sym share.0 ∙ here in (
          record {
            controlled = opened.controlled;
            remains = opened.remains;
            ready = λ z drawn.
                let p = before_parts events z y drawn in
                let later = low.least z (omega arith) p.0 (p.2 ∙ on) in
                let rises = text.rising front z later p.0 (share.0 ∙ sym p.2) in
                absurd (omega (arith, rises, p.3, share.1));
          },
          on,
        )

    -- and nothing else of the line
    open_opened : (y : ℕ) → IsOpenControlled events left y → line events y ≡ i → IsToOpen events left front end y
    open_opened y opens on =
        let known = (controlled_parts events y opens.controlled).0 in
        let later = low.least y (omega arith) known on in
        record {
          later = later;
          within = elim (cases_lt y end) [
            | inl less ↦ less
            | inr more ↦ clash ((all front).1 (omega (arith, later, known))) (opens.ready front (ends.past y more known (here ∙ sym on)))
          ];
          controlled = opens.controlled;
          remains = opens.remains;
        }

module _ (d : Drawing) (text : IsInTextOrder d.events) (left fronts opens : List ℕ) (i : ℕ) (were : AreLinesTo d left fronts opens i) (known : i < length d.instances) where
  -- of the lines up to i is open what is open of those below i, or of line i
  one_line_more : (y : ℕ) → IsOpenControlled d.events left y × (line d.events y < i + 1)
      → (IsOpenControlled d.events left y × (line d.events y < i)) ⊎ (line d.events y ≡ i)
  one_line_more y p = elim (cases_eq (line d.events y) i) [
    | inl here ↦ inr here
    | inr other ↦ let most = p.1 in inl (p.0, omega (arith, most, other))
  ]

  -- a line without events opens nothing
  pub told_none : (get_or fronts i 0 < length d.events → line d.events (get_or fronts i 0) ≡ i → ⊥) → AreLinesTo d left fronts opens (i + 1)
  told_none none = record {
    left_row = were.left_row;
    controlled_row = were.controlled_row;
    left = were.left;
    lines = were.lines;
    fronts = were.fronts;
    controlled = λ y. (
      λ h. let p = (were.controlled y).0 h in let below = p.1 in (p.0, omega (arith, below)),
      λ p. elim (one_line_more y p) [
        | inl before ↦ (were.controlled y).1 before
        | inr here ↦ absurd (none_open d.events text left were.left i (get_or fronts i 0) (were.fronts i known) none y p.0 here)
      ],
    );
  }

  -- another opens what is controlled in its first segment
  pub told_more : (end : ℕ) (new : List ℕ) → IsSegmentEnd d.events (get_or fronts i 0) end → line d.events (get_or fronts i 0) ≡ i → length new ≡ length opens
      → ((y : ℕ) → (has new y ≡ true) ↔ ((has opens y ≡ true) ⊎ IsToOpen d.events left (get_or fronts i 0) end y))
      → AreLinesTo d left fronts new (i + 1)
  told_more end new ends here same added =
      let front = get_or fronts i 0 in
      let low = were.fronts i known in
      record {
        left_row = were.left_row;
        controlled_row = row_same (length d.events) opens new same were.controlled_row;
        left = were.left;
        lines = were.lines;
        fronts = were.fronts;
        controlled = λ y. (
          λ h. elim ((added y).0 h) [
            | inl there ↦ let p = (were.controlled y).0 there in let below = p.1 in (p.0, omega (arith, below))
            | inr opened ↦ let p = opened_open d.events text left were.left i front low end ends here y opened in let on = p.1 in (p.0, omega (arith, on))
          ],
          λ p. (added y).1 (elim (one_line_more y p) [
            | inl before ↦ inl ((were.controlled y).1 before)
            | inr on ↦ inr (open_opened d.events text left were.left i front low end ends here y p.0 on)
          ]),
        );
      }
