-- The pairs that an event is drawn before: from the end of its segment up to the end of its line.
use Rattle.std.proofs.Common.{◌≡◌, ℕ, ◌+◌, ◌<◌, ◌≤◌, Bool, false, not, ◌&&◌, inl, inr, List, [], length, refl, sym, ap, ◌∙◌, subst, arith}
use Rattle.std.specs.Prelude.{nat_le}
use Rattle.std.proofs.lemmas.Bool.{and_parts, cases_lt, le-leb, lt-leb, not-true}
use Rattle.msc_chart.specs.declared.event.ChartEvent.{ChartEvent}
use Rattle.msc_chart.specs.Charts.{before, IsInTextOrder, IsLineEnd, IsSegmentEnd}
use Rattle.msc_chart.specs.Lists.{pairs_to, Occurs}
use Rattle.msc_chart.specs.Orders.{WiredChart, IsEnforcedOrder}
use Rattle.msc_chart.proofs.Drawn.{before_from, before_parts}
use Rattle.msc_order.specs.Tables.{Table, orders}
use Rattle.msc_order.proofs.Drawing.{before_later}
use Rattle.msc_race.specs.Races.{all_races, is_raced, AreAscending, IsRaceList}
use Rattle.msc_race.specs.declared.racing.Walk.{Walk}
use Rattle.msc_race.specs.Gaps.{is_open}
use Rattle.msc_race.specs.Laws.{HasNoRace}
use Rattle.msc_race.specs.Walks.{HasReached}
use Rattle.msc_race.proofs.Listing.Ascending.{of_ascends}
use Rattle.msc_race.proofs.Listing.Pairs.{of_from, of_parts, pairs_between, pairs_same}
use Rattle.msc_race.proofs.Shared.{by_test, clash}

module _ (events : List ChartEvent) where
  -- the next event of the segment has the same end
  pub segment_goes_on : (e end : ℕ) → IsSegmentEnd events e end → e + 1 < end → IsSegmentEnd events (e + 1) end
  segment_goes_on e end s more =
      let next = s.together (e + 1) (omega arith) more in
      record {
        later = more;
        within = s.within;
        together = λ f low high. let t = s.together f (omega arith) high in (sym next.0 ∙ t.0, sym next.1 ∙ t.1);
        past = λ f low inside same.
            let p = before_parts events e f (s.past f low inside (next.0 ∙ same)) in
            before_from events (e + 1) f (let w = s.within in omega (arith, w, more)) inside same (omega (arith, next.1, p.3));
      }

  -- the next event of the line has the same end
  line_goes_on : (e end : ℕ) → IsLineEnd events e end → e + 1 < end → IsLineEnd events (e + 1) end
  line_goes_on e end l more =
      let next = l.together (e + 1) (omega arith) more in
      record {
        later = more;
        within = l.within;
        together = λ f low high. sym next ∙ l.together f (omega arith) high;
        past = λ f low inside same. l.past f low inside (next ∙ same);
      }

  module _ (text : IsInTextOrder events) (e start end : ℕ) (s : IsSegmentEnd events e start) (l : IsLineEnd events e end) where
    -- up to the end of the line the events from the end of the segment on are drawn after e
    drawn_from : (f : ℕ) → f < end → nat_le start f ≡ before events e f
    drawn_from f inside =
        elim (cases_lt f start) [
          | inl less ↦ lt-leb start f less ∙ by_test (before events e f) (λ b.
              let p = before_parts events e f b in
              let later = before_later events text e f b in
              let t = s.together f (omega arith) less in
              absurd (omega (arith, t.1, p.3))) (λ none. sym none)
          | inr past ↦
              let from = s.later in
              le-leb start f past ∙ sym (s.past f past (let w = l.within in omega (arith, w, inside)) (l.together f (omega (arith, past, from)) inside))
        ]

    -- from the end of the line on none is
    drawn_past : (f : ℕ) → end ≤ f → before events e f ≡ false
    drawn_past f past = by_test (before events e f) (λ b. let p = before_parts events e f b in absurd (l.past f past p.1 p.2)) (λ none. none)

    -- so what an order leaves open is raced
    open_is_raced : (order : Table) (f : ℕ) → f < end → is_open order start e f ≡ is_raced events order e f
    unfolding is_open is_raced
    open_is_raced order f inside = ap (λ (b : Bool). b && not (orders order e f)) (drawn_from f inside)

    -- no event past the line is raced
    none_past : (order : Table) (f : ℕ) → end ≤ f → is_raced events order e f ≡ false
    unfolding is_raced
    none_past order f past = rw (drawn_past f past) refl

    -- so what an order leaves open up to the end of the line are all pairs of e that are raced
    pub open_are_raced : (order : Table) → pairs_to (is_open order start) e end ≡ pairs_to (is_raced events order) e (length events)
    open_are_raced order =
        pairs_same (is_open order start) (is_raced events order) e end (open_is_raced order)
        ∙ sym (pairs_between (is_raced events order) e end (length events) l.within (λ f low high. none_past order f low))

    -- and what has the ends of e has reached the events before the next one
    pub goes_on : (walk : Walk) → walk.segment_end ≡ start → walk.line_end ≡ end → HasReached events (e + 1) walk
    goes_on walk segment line = record {
      segment = rw segment (segment_goes_on e start s);
      line = rw line (line_goes_on e end l);
    }

-- the drawn pairs that the enforced order has not are the races
pub list_of_races : (chart : WiredChart) (order : Table) → IsEnforcedOrder chart (orders order) → (pairs : List (ℕ × ℕ)) → pairs ≡ all_races chart.events order → IsRaceList chart pairs
unfolding is_raced
list_of_races chart order exact pairs is = record {
  ascending = subst AreAscending (sym is) (of_ascends (is_raced chart.events order) (length chart.events));
  enumerated = (order, exact, is);
  races = λ e f. (
    λ race.
        let p = before_parts chart.events e f race.0 in
        let not_held = by_test (orders order e f) (λ holds. absurd (race.1 (exact.holds e f p.0 p.1 holds))) (λ none. none) in
        subst (λ (l : List (ℕ × ℕ)). Occurs l (e, f)) (sym is) (of_from (is_raced chart.events order) (length chart.events) e f p.0 p.1 (rw (race.0, not_held) refl)),
    λ there.
        let p = of_parts (is_raced chart.events order) (length chart.events) e f (subst (λ (l : List (ℕ × ℕ)). Occurs l (e, f)) is there) in
        let both = and_parts (before chart.events e f) (not (orders order e f)) p.2 in
        (both.0, λ enforced. clash (exact.complete e f enforced) (not-true (orders order e f) both.1)),
  );
}

-- where the list is empty there is no race
pub no_races : (chart : WiredChart) (pairs : List (ℕ × ℕ)) → IsRaceList chart pairs → pairs ≡ [] → HasNoRace chart
no_races chart pairs list none e f race = nothing (subst (λ (l : List (ℕ × ℕ)). Occurs l (e, f)) none ((list.races e f).0 race))
  where
    -- nothing occurs in an empty list
    nothing : Occurs {T = ℕ × ℕ} [] (e, f) → ⊥
    nothing (j, h) = cc
