-- How the fronts of the lines and the open controlled change when an event occurs.
use Rattle.std.proofs.Common.{◌≡◌, ◌≢◌, ℕ, ◌<◌, ◌≤◌, true, false, ◌↔◌, ◌⊎◌, inl, inr, List, length, get_or, set, refl, sym, ap, ◌∙◌, arith, get_or-set_same, get_or-set_other}
use Rattle.std.proofs.lemmas.Bool.{eq-eqb, ne_eqb, cases_lt, cases_eq, and_parts, and_from, not-true, not_from_false}
use Rattle.std.proofs.lemmas.List.{length-set}
use Rattle.msc_race.proofs.Making.RowLemmas.{row_same}
use Rattle.msc_chart.specs.declared.event.ChartEvent.{ChartEvent}
use Rattle.msc_chart.specs.Charts.{line, segment, before, IsInTextOrder, IsSegmentEnd}
use Rattle.msc_chart.proofs.Drawn.{before_from, before_parts}
use Rattle.bit_rows.specs.Rows.{has, IsWithout}
use Rattle.msc_race.specs.Fronts.{AreLines, IsFront, IsOpenControlled, IsToOpen, IsOpenedEnd, IsNextLeft}
use Rattle.msc_race.proofs.Shared.{by_test, clash}
use Rattle.msc_race.proofs.Runs.EventLemmas.{controlled_parts}

module _ (old new : List ℕ) (x : ℕ) (without : IsWithout old new x) where
  -- what is not there is not there later
  pub still_out : (y : ℕ) → has old y ≡ false → has new y ≡ false
  still_out y h = without y ∙ rw h refl

  -- what else is there stays
  pub still_in : (y : ℕ) → has old y ≡ true → y ≢ x → has new y ≡ true
  still_in y h other = without y ∙ and_from _ _ h (not_from_false _ (ne_eqb y x other))

  -- and what is there was there, and is another number
  pub was_in : (y : ℕ) → has new y ≡ true → (has old y ≡ true) × (y ≢ x)
  was_in y h =
      let both = and_parts _ _ (sym (without y) ∙ h) in
      (both.0, λ same. clash (eq-eqb y x same) (not-true _ both.1))

module _ (events : List ChartEvent) (text : IsInTextOrder events) (old new : List ℕ) (x : ℕ) (without : IsWithout old new x) where
  -- another line's front stays
  pub other_front : (i f : ℕ) → line events x ≢ i → IsFront events old i f → IsFront events new i f
  other_front i f other was = record {
    within = was.within;
    below = λ y less on. still_out old new x without y (was.below y less on);
    itself = λ less on. still_in old new x without f (was.itself less on) (λ same. other (ap (λ z. line events z) (sym same) ∙ on));
    reach = was.reach;
  }

  module _ (start front : ℕ) (was : IsFront events old (line events x) start) (next : IsNextLeft events new (line events x) start front) where
    -- the line of x has the next event that is left as its front
    pub own_front : IsFront events new (line events x) front
    own_front = record {
      within = next.within;
      below = λ y less on. elim (cases_lt y start) [
        | inl before ↦ still_out old new x without y (was.below y before on)
        | inr after ↦ (next.between y after less).1
      ];
      itself = next.itself;
      reach = λ y later below on.
          let from = next.later in
          let first = was.reach y (omega (arith, from, later)) below on in
          let up = text.lines start front from (omega (arith, later, below)) in
          let down = text.lines front y later below in
          omega (arith, first, up, down, on);
    }

    -- where nothing is left that is drawn before an output of the line, the front is on the line, and
    -- not drawn before the output
    meets : (y : ℕ) → IsOpenControlled events new y → line events y ≡ line events x
        → (front ≤ y) × (y < length events) × (line events front ≡ line events x) × (before events front y ≡ false)
    meets y opens on =
        let below = (controlled_parts events y opens.controlled).0 in
        let later : front ≤ y = elim (cases_lt y front) [
          | inl less ↦ clash opens.remains (own_front.below y less on)
          | inr more ↦ more
        ] in
        let here = own_front.reach y later below on in (
          later,
          below,
          here,
          by_test (before events front y)
              (λ drawn. clash (own_front.itself (omega (arith, later, below)) here) (opens.ready front drawn)) (λ h. h),
        )

    -- a segment that is not before another is no lower
    no_lower : (y z : ℕ) → y < length events → z < length events → line events y ≡ line events z → before events y z ≡ false → segment events z ≤ segment events y
    no_lower y z y_in z_in same h =
        elim (cases_lt (segment events y) (segment events z)) [
          | inl less ↦ clash (before_from events y z y_in z_in same less) h
          | inr more ↦ more
        ]

    -- what was open and is not x stays open
    pub stays_open : (y : ℕ) → IsOpenControlled events old y → y ≢ x → IsOpenControlled events new y
    stays_open y opens other = record {
      controlled = opens.controlled;
      remains = still_in old new x without y opens.remains other;
      ready = λ z drawn. still_out old new x without z (opens.ready z drawn);
    }

    -- an open output of another line was open
    elsewhere : (y : ℕ) → IsOpenControlled events new y → line events y ≢ line events x → IsOpenControlled events old y
    elsewhere y opens off = record {
      controlled = opens.controlled;
      remains = (was_in old new x without y opens.remains).0;
      ready = λ z drawn. by_test (has old z)
          (λ there.
          let apart = λ (same : z ≡ x). off (sym (before_parts events z y drawn).2 ∙ ap (λ e. line events e) same) in
          clash (still_in old new x without z there apart) (opens.ready z drawn))
          (λ out. out);
    }

    -- so it is with the line of x, where the front has not come to another segment
    was_open : (front < length events → line events front ≡ line events x → before events start front ≡ false)
        → (y : ℕ) → IsOpenControlled events new y → IsOpenControlled events old y
    was_open level y opens =
        elim (cases_eq (line events y) (line events x)) [
          | inr off ↦ elsewhere y opens off
          | inl on ↦
              let met = meets y opens on in
              let from = next.later in
              let first = was.reach y (omega (arith, from, met.0)) met.1 on in
              let front_in : front < length events = omega (arith, met.0, met.1) in
              let low = no_lower start front (omega (arith, from, front_in)) front_in (first ∙ sym met.2) (level front_in met.2) in
              let high = no_lower front y front_in met.1 (met.2 ∙ sym on) met.3 in
              record {
                controlled = opens.controlled;
                remains = (was_in old new x without y opens.remains).0;
                ready = λ z drawn.
                    let p = before_parts events z y drawn in
                    by_test (has old z)
                    (λ there.
                    let later : start ≤ z = elim (cases_lt z start) [
                      | inl less ↦ clash there (was.below z less (p.2 ∙ on))
                      | inr more ↦ more
                    ] in
                    let rises = text.rising start z later p.0 (first ∙ sym (p.2 ∙ on)) in
                    absurd (omega (arith, rises, p.3, low, high)))
                    (λ out. out);
              }
        ]

    module _ (end : ℕ) (segment_end : IsSegmentEnd events front end) (here : line events front ≡ line events x) where
      -- what is left in the segment of the front is open
      opened_open : (y : ℕ) → IsToOpen events new front end y → IsOpenControlled events new y
      opened_open y opened =
          let share = segment_end.together y opened.later opened.within in
          record {
            controlled = opened.controlled;
            remains = opened.remains;
            ready = λ z drawn.
                let p = before_parts events z y drawn in
                elim (cases_lt z front) [
                  | inl less ↦ own_front.below z less (p.2 ∙ sym share.0 ∙ here)
                  | inr more ↦
                      let rises = text.rising front z more p.0 (share.0 ∙ sym p.2) in
                      absurd (omega (arith, rises, p.3, share.1))
                ];
          }

      -- and what is open was open, or is left there
      open_opened : (y : ℕ) → IsOpenControlled events new y → IsOpenControlled events old y ⊎ IsToOpen events new front end y
      open_opened y opens =
          elim (cases_eq (line events y) (line events x)) [
            | inr off ↦ inl (elsewhere y opens off)
            | inl on ↦
                let met = meets y opens on in
                inr (record {
                  later = met.0;
                  within = elim (cases_lt y end) [
                    | inl less ↦ less
                    | inr more ↦ clash (segment_end.past y more met.1 (here ∙ sym on)) met.3
                  ];
                  controlled = opens.controlled;
                  remains = opens.remains;
                })
          ]

    module _ (end : ℕ) (ends : IsOpenedEnd events (line events x) start front end) where
      -- what is open was open, or is opened
      was_or_opened : (y : ℕ) → IsOpenControlled events new y → IsOpenControlled events old y ⊎ IsToOpen events new front end y
      was_or_opened y open_now = elim ends [
        | inl segment ↦ open_opened end segment.1 segment.0 y open_now
        | inr none ↦ inl (was_open none.1 y open_now)
      ]

      -- the open controlled are those that were, without x, and those that are opened
      pub controlled_after : (opens cleared new_opens : List ℕ) → IsWithout opens cleared x
          → ((y : ℕ) → (has opens y ≡ true) ↔ IsOpenControlled events old y)
          → ((y : ℕ) → (has new_opens y ≡ true) ↔ ((has cleared y ≡ true) ⊎ IsToOpen events new front end y))
          → (y : ℕ) → (has new_opens y ≡ true) ↔ IsOpenControlled events new y
      controlled_after opens cleared new_opens clears told added y = (
        λ h. elim ((added y).0 h) [
          | inl kept ↦ let there = was_in opens cleared x clears y kept in stays_open y ((told y).0 there.0) there.1
          | inr opened ↦ elim ends [
            | inl segment ↦ opened_open end segment.1 segment.0 y opened
            | inr none ↦ let same = none.0 in let later = opened.later in let within = opened.within in absurd (omega (arith, same, later, within))
          ]
        ],
        λ open_now. (added y).1 (elim (was_or_opened y open_now) [
          | inl was_there ↦ inl (still_in opens cleared x clears y ((told y).1 was_there) (was_in old new x without y open_now.remains).1)
          | inr opened ↦ inr opened
        ]),
      )

  -- the fronts, with that of the line of x moved
  moved_fronts : (fronts : List ℕ) (front : ℕ) → line events x < length fronts → IsFront events new (line events x) front
      → ((i : ℕ) → i < length fronts → IsFront events old i (get_or fronts i 0))
      → (i : ℕ) → i < length fronts → IsFront events new i (get_or (set fronts (line events x) front) i 0)
  moved_fronts fronts front known own were i below =
      elim (cases_eq i (line events x)) [
        | inl same ↦ rw (same, get_or-set_same fronts (line events x) front 0 known) own
        | inr other ↦ rw (get_or-set_other fronts (line events x) i front 0 other) (other_front i (get_or fronts i 0) (λ h. other (sym h)) (were i below))
      ]

  -- The lines after x: its line has a new front, and what is opened ends at `end`.
  pub lines_after : (instances : ℕ) (fronts opens cleared new_opens : List ℕ) (front end : ℕ)
      → AreLines instances events old fronts opens → line events x < instances
      → IsNextLeft events new (line events x) (get_or fronts (line events x) 0) front
      → IsOpenedEnd events (line events x) (get_or fronts (line events x) 0) front end
      → length new ≡ length old → length new_opens ≡ length opens → IsWithout opens cleared x
      → ((y : ℕ) → (has new_opens y ≡ true) ↔ ((has cleared y ≡ true) ⊎ IsToOpen events new front end y))
      → AreLines instances events new (set fronts (line events x) front) new_opens
  lines_after instances fronts opens cleared new_opens front end kept on next ends same_left same_opens clears added =
      let start = get_or fronts (line events x) 0 in
      let was = kept.fronts (line events x) on in
      let number = kept.lines in
      record {
        left_row = row_same (length events) old new same_left kept.left_row;
        controlled_row = row_same (length events) opens new_opens same_opens kept.controlled_row;
        known = λ y there. kept.known y (was_in old new x without y there).0;
        lines = length-set fronts (line events x) front ∙ kept.lines;
        fronts = λ i below. moved_fronts fronts front (omega (arith, number, on)) (own_front start front was next)
            (λ j less. kept.fronts j (omega (arith, number, less))) i (omega (arith, number, below));
        controlled = controlled_after start front was next end ends opens cleared new_opens clears kept.controlled added;
      }
