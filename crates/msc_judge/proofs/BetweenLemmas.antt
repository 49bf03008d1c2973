-- The pairs between two rounds that are told, event by event, and all of them.
use Rattle.std.proofs.Common.{◌≡◌, ◌≢◌, ℕ, ◌+◌, ◌*◌, ◌<◌, ◌≤◌, Bool, true, false, List, [], ◌++◌, length, nat_eq, refl, sym, ap, ap₂, ◌∙◌, arith}
use Rattle.std.specs.Prelude.{◌↔◌, None}
use Rattle.std.proofs.lemmas.Bool.{and_from, and_parts, eq-eqb, eqb-true, ne_eqb, false_from_ne_true, not-true, not_from_false}
use Rattle.std.proofs.lemmas.List.{length-append, nil_from_length}
use Rattle.msc_chart.specs.declared.TheConstants.{EVENT_LIMIT}
use Rattle.msc_chart.specs.Charts.{before, IsInTextOrder, IsSegmentEnd}
use Rattle.msc_chart.specs.Drawings.{Drawing}
use Rattle.msc_chart.specs.Lists.{pairs_to}
use Rattle.msc_chart.specs.Orders.{IsRace}
use Rattle.msc_chart.specs.Rounds.{round_of, two_rounds}
use Rattle.msc_chart.proofs.Drawn.{before_parts}
use Rattle.msc_chart.proofs.ListLemmas.{clash}
use Rattle.msc_chart.proofs.RoundEvents.{events_many}
use Rattle.msc_race.specs.Races.{is_raced}
use Rattle.msc_race.specs.Views.{races_of, wiring_of, AreRacesOf}
use Rattle.msc_race.specs.Wired.{EnforcedChart, IsEnforced}
use Rattle.msc_race.proofs.Listing.Ascending.{of_ascends}
use Rattle.msc_race.proofs.Listing.Counts.{below_few}
use Rattle.msc_race.proofs.Listing.DrawnPairs.{list_of_races}
use Rattle.msc_race.proofs.Listing.Pairs.{below_all, below_more, below_none, of_from, of_rest, of_parts, pairs_below, pairs_between, pairs_none, to_parts}
use Rattle.msc_reason.specs.Counting.{counts}
use Rattle.msc_reason.specs.Kinds.{has_kind}
use Rattle.msc_reason.specs.Marked.{cause_in}
use Rattle.msc_reason.specs.declared.left_out.LeftOut.{LeftOut}
use Rattle.msc_judge.specs.Between.{are_next, is_told, told_of, told_with}
use Rattle.msc_judge.specs.Rounds.{AreRoundRaces, IsTold}
use Rattle.msc_judge.proofs.NextSegments.{after_segment, in_segment, next_from, next_parts}

-- two rounds have each event twice
pub two_many : (d two : Drawing) → two ≡ two_rounds d → length two.events ≡ 2 * length d.events
two_many d two is = ap (λ (x : Drawing). length x.events) is ∙ events_many 2 (length d.messages) d.events

-- what is raced is drawn in the order
raced_drawn : (e : EnforcedChart) (x y : ℕ) → is_raced e.chart.events e.order x y ≡ true → before e.chart.events x y ≡ true
unfolding is_raced
raced_drawn e x y raced = (and_parts _ _ raced).0

-- a race is what is drawn in an order that the enforced order has not
pub raced_is_race : (e : EnforcedChart) → IsEnforced e → (x y : ℕ) → (is_raced e.chart.events e.order x y ≡ true) ↔ IsRace (wiring_of e) x y
raced_is_race e is x y =
    let list = list_of_races (wiring_of e) e.order is.enforced (races_of e) refl in (
      λ raced.
          let known = before_parts e.chart.events x y (raced_drawn e x y raced) in
          (list.races x y).1 (of_from (is_raced e.chart.events e.order) (length e.chart.events) x y known.0 known.1 raced),
      λ race. (of_parts (is_raced e.chart.events e.order) (length e.chart.events) x y ((list.races x y).0 race)).2,
    )

-- what is known of a pair that is told
pub record Parts (d : Drawing) (two : EnforcedChart) (left : LeftOut) (x y : ℕ) : Type 0 where
  pub first : round_of 2 d.events x ≡ 0
  pub second : round_of 2 d.events y ≡ 1
  pub raced : is_raced two.chart.events two.order x y ≡ true
  pub next : are_next two.chart.events x y ≡ true
  pub counts : counts left (cause_in two) (x, y) ≡ true

module _ (d : Drawing) (two : EnforcedChart) (left : LeftOut) where
  -- the parts of the test
  pub told_parts : (x y : ℕ) → is_told d two left x y ≡ true → Parts d two left x y
  unfolding is_told
  told_parts x y h =
      let both = and_parts _ _ h in
      let rounds = and_parts _ _ both.0 in
      let race = and_parts _ _ both.1 in
      let drawn = and_parts _ _ race.0 in
      record { first = eqb-true _ _ rounds.0; second = eqb-true _ _ rounds.1; raced = drawn.0; next = drawn.1; counts = race.1 }

  -- and what makes a pair pass it
  pub told_from_parts : (x y : ℕ) → Parts d two left x y → is_told d two left x y ≡ true
  unfolding is_told
  told_from_parts x y p =
      and_from _ _ (and_from _ _ (eq-eqb _ _ p.first) (eq-eqb _ _ p.second)) (and_from _ _ (and_from _ _ p.raced p.next) p.counts)

  -- a pair without one of the parts does not pass
  pub told_not : (x y : ℕ) → (Parts d two left x y → ⊥) → is_told d two left x y ≡ false
  told_not x y none = false_from_ne_true _ (λ h. none (told_parts x y h))

  -- a pair that has all parts but the last is told where it counts
  pub told_when : (x y : ℕ) → round_of 2 d.events x ≡ 0 → round_of 2 d.events y ≡ 1 → is_raced two.chart.events two.order x y ≡ true
      → are_next two.chart.events x y ≡ true → counts left (cause_in two) (x, y) ≡ is_told d two left x y
  unfolding is_told
  told_when x y first second raced next = rw (first, second, raced, next) refl

  -- what is told is drawn in the order
  told_drawn : (x y : ℕ) → is_told d two left x y ≡ true → before two.chart.events x y ≡ true
  told_drawn x y h = raced_drawn two x y (told_parts x y h).raced

  -- an event of the second round is the first of no pair
  pub none_of_second : (x : ℕ) → round_of 2 d.events x ≢ 0 → told_with d two left x ≡ []
  none_of_second x other =
      pairs_between (is_told d two left) x 0 (length two.chart.events) (omega arith)
      (λ y low high. told_not x y (λ p. other p.first))
      ∙ pairs_none (is_told d two left) x

  module _ (text : IsInTextOrder two.chart.events) (x start : ℕ) (s : IsSegmentEnd two.chart.events x start) where
    -- no event of its segment or above is the second of one
    pub none_up_to : pairs_to (is_told d two left) x start ≡ []
    none_up_to =
        pairs_between (is_told d two left) x 0 start (omega arith)
        (λ y low high. false_from_ne_true _ (λ h.
        let from : start ≤ y = after_segment two.chart.events text x start s y (told_drawn x y h) in
        omega (arith, from, high)))
        ∙ pairs_none (is_told d two left) x

    -- so where its segment is the last of all there is none
    pub none_behind : length two.chart.events ≤ start → told_with d two left x ≡ []
    none_behind past =
        let within = s.within in
        let all : length two.chart.events ≡ start = omega (arith, past, within) in
        ap (pairs_to (is_told d two left) x) all ∙ none_up_to

    -- and none below the next segment
    pub none_below : (end : ℕ) → IsSegmentEnd two.chart.events start end → told_with d two left x ≡ pairs_to (is_told d two left) x end
    none_below end t =
        pairs_between (is_told d two left) x end (length two.chart.events) t.within
        (λ y low high. false_from_ne_true _ (λ h.
        let below = in_segment two.chart.events text x start s end t y (told_drawn x y h) (told_parts x y h).next in
        omega (arith, below, low)))

  -- the pairs of an event are races
  pub told_races : IsEnforced two → (x : ℕ) → AreRacesOf two (told_with d two left x)
  told_races is x y z there =
      let p = to_parts (is_told d two left) x (length two.chart.events) y z there in
      let told : is_told d two left y z ≡ true = ap (λ (n : ℕ). is_told d two left n z) p.0 ∙ p.2 in
      (raced_is_race two is y z).0 (told_parts y z told).raced

  -- the pairs of the events below k
  abbrev pub told_below : ℕ → List (ℕ × ℕ)
  told_below k = pairs_below (is_told d two left) (length two.chart.events) k

  -- none are below the first event
  pub told_none : told_below 0 ≡ []
  told_none = below_none (is_told d two left) (length two.chart.events)

  -- one event more brings its own
  pub told_next : (k : ℕ) → told_below (k + 1) ≡ told_below k ++ told_with d two left k
  told_next k = below_more (is_told d two left) (length two.chart.events) k

  -- with the last event they are all
  pub told_last : (k : ℕ) → k ≡ length two.chart.events → told_below k ≡ told_of d two left
  told_last k same = below_all (is_told d two left) (length two.chart.events) k same

  -- and before that the first of all
  pub told_after : (k : ℕ) → k ≤ length two.chart.events → (rest : List (ℕ × ℕ)) × (told_of d two left ≡ told_below k ++ rest)
  told_after k le = of_rest (is_told d two left) (length two.chart.events) k le

  -- so many more
  pub told_more : (k n : ℕ) (list : List (ℕ × ℕ)) → n ≡ length (told_below k) → list ≡ told_with d two left k
      → n + length list ≡ length (told_below (k + 1))
  told_more k n list is same =
      let more = ap length (told_next k) ∙ length-append (told_below k) (told_with d two left k) in
      let size = ap length same in
      omega (arith, is, more, size)

  -- they are few
  pub told_few : (k : ℕ) → length two.chart.events ≤ EVENT_LIMIT → k ≤ EVENT_LIMIT → length (told_below k) ≤ EVENT_LIMIT * EVENT_LIMIT
  told_few k few within =
      let most = below_few (is_told d two left) (length two.chart.events) k few in
      omega (arith, most, within)

  -- an event without pairs adds none
  pub still_none : (k : ℕ) (list : List (ℕ × ℕ)) (empty : Bool) → told_below k ≡ [] → list ≡ told_with d two left k
      → empty ≡ nat_eq (length list) 0 → empty ≡ true → told_below (k + 1) ≡ []
  still_none k list empty before same said is =
      let none : list ≡ [] = nil_from_length list (eqb-true _ _ (sym said ∙ is)) in
      told_next k ∙ ap₂ (λ (a b : List (ℕ × ℕ)). a ++ b) before (sym same ∙ none)

  -- with the pairs of one event there are some
  pub some_told : (k : ℕ) (list : List (ℕ × ℕ)) (empty : Bool) → k < length two.chart.events → list ≡ told_with d two left k
      → empty ≡ nat_eq (length list) 0 → empty ≡ false → false ≡ nat_eq (length (told_of d two left)) 0
  some_told k list empty inside same said is =
      let after = told_after (k + 1) (omega (arith, inside)) in
      let all = ap length after.1 ∙ length-append (told_below (k + 1)) after.0 in
      let more = told_more k (length (told_below k)) list refl same in
      sym (ne_eqb _ _ (λ none.
      let nothing : length list ≡ 0 = omega (arith, all, more, none) in
      clash (said ∙ eq-eqb _ _ nothing) is))

-- where kinds alone are left out, a race counts where it is of none of them
pub counts_kind : (two : EnforcedChart) (left : LeftOut) → left.accepted ≡ None → (x y : ℕ)
    → (counts left (cause_in two) (x, y) ≡ true) ↔ (has_kind left.kinds (cause_in two x y).kind ≡ false)
counts_kind two left none x y = rw none (λ h. not-true _ h, λ h. not_from_false _ h)

-- what passes the test is told, and nothing else
pub told_exact : (d : Drawing) (two : EnforcedChart) (left : LeftOut) → IsEnforced two → left.accepted ≡ None → (x y : ℕ)
    → (is_told d two left x y ≡ true) ↔ IsTold d two left.kinds (cause_in two) x y
told_exact d two left is none x y = (
  λ h.
      let p = told_parts d two left x y h in
      record {
        between = record {
          first = p.first;
          second = p.second;
          closest = record {
            race = (raced_is_race two is x y).0 p.raced;
            next = λ z above below. next_parts two.chart.events x y z p.next above below;
          };
        };
        kind = (counts_kind two left none x y).0 p.counts;
      },
  λ t. told_from_parts d two left x y (record {
    first = t.between.first;
    second = t.between.second;
    raced = (raced_is_race two is x y).1 t.between.closest.race;
    next = next_from two.chart.events x y t.between.closest.next;
    counts = (counts_kind two left none x y).1 t.kind;
  }),
)

-- so the list of what passes is the list of what is told
pub told_list : (d : Drawing) (two : EnforcedChart) (left : LeftOut) → IsEnforced two → left.accepted ≡ None
    → AreRoundRaces d two left.kinds (cause_in two) (told_of d two left)
told_list d two left is none = record {
  ascending = of_ascends (is_told d two left) (length two.chart.events);
  each = λ x y. (
    λ t.
        let known = before_parts two.chart.events x y t.between.closest.race.0 in
        of_from (is_told d two left) (length two.chart.events) x y known.0 known.1 ((told_exact d two left is none x y).1 t),
    λ there. (told_exact d two left is none x y).0 (of_parts (is_told d two left) (length two.chart.events) x y there).2,
  );
}
