-- The blocked pairs between two rounds as lists of pairs.
use Rattle.std.proofs.Common.{◌≡◌, ℕ, ◌+◌, ◌-◌, ◌*◌, ◌<◌, ◌≤◌, Bool, true, false, ◌&&◌, inl, inr, [], length, eqb, refl, sym, ap, ◌∙◌, subst, arith}
use Rattle.std.specs.Prelude.{IsTrue, ◌↔◌}
use Rattle.std.proofs.lemmas.Bool.{and_from, and_parts, cases_lt, eq-eqb, eqb-true, false_from_ne_true}
use Rattle.msc_chart.specs.Charts.{is_input, line, IsLineEnd}
use Rattle.msc_chart.specs.Drawings.{Drawing, IsAccepted, IsLine}
use Rattle.msc_chart.specs.Lists.{pairs_to}
use Rattle.msc_chart.specs.Rounds.{count_of, event_of, first_of, number_of, round_of, two_rounds}
use Rattle.msc_chart.proofs.EventNumbers.{count_is, count_same, event_in, event_number, first_le, first_same, number_event, number_in, past_gt, round_in}
use Rattle.msc_chart.proofs.RoundEvents.{events_in, in_events, line_is}
use Rattle.msc_race.proofs.Listing.Pairs.{of_from, of_parts, pairs_between, pairs_none, to_parts}
use Rattle.msc_ready.specs.Held.{ReadyChart, wiring_of, ready_in}
use Rattle.msc_ready.specs.Rounds.{between_from, between_of, crosses, is_between, AreBetween, AreBetweenFrom, AreSeconds, BeginsSecond, HasNoneBetween, IsBetween}
use Rattle.msc_ready.specs.BlockedPairs.{IsBlockedPair}
use Rattle.msc_ready.proofs.Listing.{no_pairs, test, test_drawn}
use Rattle.msc_ready.proofs.Shared.{before_parts, clash}

module _ (r : ReadyChart) (d : Drawing) where
  -- what passes is of both rounds, and passes the test for blocked pairs
  pub between_parts : (x y : ℕ) → is_between r d x y ≡ true
      → (round_of 2 d.events x ≡ 0) × (round_of 2 d.events y ≡ 1) × (test r x y ≡ true)
  unfolding is_between crosses
  between_parts x y h =
      let both = and_parts _ _ h in
      let rounds = and_parts _ _ both.0 in
      (eqb-true _ _ rounds.0, eqb-true _ _ rounds.1, both.1)

  -- from the first round to the second it is the test for blocked pairs
  pub between_when : (x y : ℕ) (b : Bool) → round_of 2 d.events x ≡ 0 → round_of 2 d.events y ≡ 1 → b ≡ test r x y
      → is_between r d x y ≡ b
  unfolding is_between crosses
  between_when x y b first second same = rw (first, second) (sym same)

  module _ (told : (e f : ℕ) → IsTrue (test r e f) ↔ IsBlockedPair (wiring_of r) (ready_in r) e f) where
    -- so the test is exact
    between_exact : (x y : ℕ) → (is_between r d x y ≡ true) ↔ IsBetween (wiring_of r) (ready_in r) d x y
    between_exact x y = (
      λ h.
          let parts = between_parts x y h in
          record { blocked_pair = (told x y).0 parts.2; first = parts.0; second = parts.1 },
      λ b. between_when x y true b.first b.second (sym ((told x y).1 b.blocked_pair)),
    )

    -- the listed pairs are these blocked pairs
    pub are_between : AreBetween r d (between_of r d)
    are_between x y = (
      λ b.
          let below = before_parts r.chart.events x y b.blocked_pair.drawn in
          of_from (is_between r d) (length r.chart.events) x y below.0 below.1 ((between_exact x y).1 b),
      λ there. (between_exact x y).0 (of_parts (is_between r d) (length r.chart.events) x y there).2,
    )

    -- and those of one event are its own
    pub each_between : (e : ℕ) → AreBetweenFrom r d e (between_from r d e)
    each_between e x y there =
        let p = to_parts (is_between r d) e (length r.chart.events) x y there in
        (p.0, subst (λ (z : ℕ). IsBetween (wiring_of r) (ready_in r) d z y) (sym p.0) ((between_exact e y).0 p.2))

  -- none is listed where there is none
  pub none_between : AreBetween r d (between_of r d) → (n : ℕ) → n ≡ length (between_of r d) → (n ≡ 0) ↔ HasNoneBetween (wiring_of r) (ready_in r) d
  none_between are n count =
      let told = no_pairs (between_of r d) n count in
      (λ none x y b. told.0 none x y ((are x y).0 b), λ none. told.1 (λ x y there. none x y ((are x y).1 there)))

  -- the first event of what passes is an input of the first round
  begun : (x y : ℕ) → is_between r d x y ≡ true → (eqb (round_of 2 d.events x) 0 && is_input r.chart.events x) ≡ true
  begun x y h =
      let parts = between_parts x y h in
      and_from _ _ (eq-eqb _ _ parts.0) (test_drawn r x y parts.2).1

  -- an event of another kind has no events with which it may make such a blocked pair
  pub none_seconds : (x : ℕ) → (eqb (round_of 2 d.events x) 0 && is_input r.chart.events x) ≡ false → AreSeconds r d x 0 0
  none_seconds x out = record {
    ordered = omega arith;
    within = omega arith;
    all = λ y h. absurd (clash (begun x y h) out);
    told = λ y from below. absurd (omega arith);
  }

  module _ (two : r.chart ≡ two_rounds d) (x start : ℕ) (begins : BeginsSecond d x start) where
    -- of the events of the line of x those from the start on are of the second round
    begins_here : (y : ℕ) → y < length r.chart.events → line r.chart.events y ≡ line r.chart.events x
        → (start ≤ y) ↔ (round_of 2 d.events y ≡ 1)
    begins_here y = rw two (begins y)

    -- an event of the first round makes such blocked pairs with these alone
    pub seconds : (end : ℕ) → x < length r.chart.events → round_of 2 d.events x ≡ 0 → IsLineEnd r.chart.events x end
        → start < length r.chart.events → line r.chart.events start ≡ line r.chart.events x → AreSeconds r d x start end
    seconds end known first line_end inside on =
        let above : x < start = elim (cases_lt x start) [
          | inl less ↦ less
          | inr past ↦
              let second = (begins_here x known refl).0 past in
              absurd (omega (arith, first, second))
        ] in
        let short : start < end = elim (cases_lt start end) [ inl less ↦ less | inr past ↦ absurd (line_end.past start past inside (sym on)) ] in
        record {
          ordered = omega (arith, short);
          within = line_end.within;
          all = λ y h.
              let parts = between_parts x y h in
              let drawn = before_parts r.chart.events x y (test_drawn r x y parts.2).0 in (
                (begins_here y drawn.1 (sym drawn.2)).1 parts.1,
                elim (cases_lt y end) [ inl less ↦ less | inr past ↦ absurd (line_end.past y past drawn.1 drawn.2) ],
              );
          told = λ y from below.
              let within = line_end.within in
              let same = line_end.together y (omega (arith, above, from)) below in
              between_when x y (test r x y) first ((begins_here y (omega (arith, below, within)) (sym same)).0 from) refl;
        }

  module _ (x start end : ℕ) (are : AreSeconds r d x start end) where
    -- none is with an event before these
    pub none_before : pairs_to (is_between r d) x start ≡ []
    none_before =
        pairs_between (is_between r d) x 0 start (omega arith)
        (λ y low high. false_from_ne_true _ (λ h. let from = (are.all y h).0 in omega (arith, from, high)))
        ∙ pairs_none (is_between r d) x

    -- and none with one past them
    pub none_behind : (k : ℕ) → k ≡ end → pairs_to (is_between r d) x k ≡ between_from r d x
    none_behind k last =
        ap (pairs_to (is_between r d) x) last
        ∙ sym (pairs_between (is_between r d) x end (length r.chart.events) are.within
        (λ y low high. false_from_ne_true _ (λ h. let below = (are.all y h).1 in omega (arith, below, low))))

    -- among them a pair passes where it is a blocked pair
    pub passes_here : (y : ℕ) (b : Bool) → start ≤ y → y < end → b ≡ test r x y → is_between r d x y ≡ b
    passes_here y b from below same = are.told y from below ∙ sym same

-- an event of two rounds
pub known_two : (d : Drawing) (chart : Drawing) (x : ℕ) → chart ≡ two_rounds d → x < length chart.events → x < 2 * length d.events
known_two d chart x two below =
    events_in 2 (length d.messages) d.events x (subst (λ (c : Drawing). x < length c.events) two below)

-- the first event of the line of x in two rounds
pub record IsLineStart (d : Drawing) (x start : ℕ) : Type 0 where
  pub known : start < length (two_rounds d).events
  pub same : line (two_rounds d).events start ≡ line (two_rounds d).events x
  pub least : (y : ℕ) → y < length (two_rounds d).events → line (two_rounds d).events y ≡ line (two_rounds d).events x → start ≤ y

-- the range of the line of x starts with it
pub line_start_of : (d : Drawing) (x i start past : ℕ) → x < length (two_rounds d).events → i ≡ line (two_rounds d).events x
    → IsLine (two_rounds d) i start past → IsLineStart d x start
line_start_of d x i start past known here range =
    let own = (range x known).0 (sym here) in
    let first = own.0 in
    let last = own.1 in
    let inside : start < length (two_rounds d).events = omega (arith, first, known) in
    record {
      known = inside;
      same = (range start inside).1 (omega arith, omega (arith, first, last)) ∙ here;
      least = λ y within on. ((range y within).0 (on ∙ sym here)).0;
    }

module _ (d : Drawing) (accepted : IsAccepted d) where
  -- the numbers of an event in both rounds, written out
  number_first : (e : ℕ) → number_of 2 d.events e 0 ≡ 2 * first_of d.events e + (e - first_of d.events e)
  unfolding number_of
  number_first e = omega arith

  number_second : (e : ℕ) → number_of 2 d.events e 1 ≡ 2 * first_of d.events e + (count_of d.events e + (e - first_of d.events e))
  unfolding number_of
  number_second e = omega arith

  -- no round of an event is before the first
  number_least : (e r : ℕ) → number_of 2 d.events e 0 ≤ number_of 2 d.events e r
  unfolding number_of
  number_least e r = omega arith

  -- an event of two rounds is on the line of its event
  on_line : (k : ℕ) → k < length (two_rounds d).events → line (two_rounds d).events k ≡ line d.events (event_of 2 d.events k)
  on_line k within = line_is 2 (length d.messages) d.events k (events_in 2 (length d.messages) d.events k within)

  -- an event of the chart is on its line in each round
  placed : (f r : ℕ) → f < length d.events → r < 2
      → (number_of 2 d.events f r < length (two_rounds d).events) × (line (two_rounds d).events (number_of 2 d.events f r) ≡ line d.events f)
  placed f r known round =
      let within = in_events 2 (length d.messages) d.events (number_of 2 d.events f r) (number_in d.events accepted.in_text_order 2 f r known round) in
      (within, on_line (number_of 2 d.events f r) within ∙ ap (line d.events) (event_number d.events accepted.in_text_order 2 f r known round))

  module _ (x start : ℕ) (begin : IsLineStart d x start) where
    -- on the line of x the second round begins with the first event of the line in that round
    pub second_begins : BeginsSecond d x (number_of 2 d.events (event_of 2 d.events start) 1)
    second_begins y within on =
        let ordered = accepted.in_text_order in
        let k = events_in 2 (length d.messages) d.events start begin.known in
        let j = events_in 2 (length d.messages) d.events y within in
        let first = event_of 2 d.events start in
        let f = event_of 2 d.events y in
        let q = round_of 2 d.events y in
        let f-in = event_in d.events ordered 2 y j in
        let lines : line d.events f ≡ line d.events first = sym (on_line y within) ∙ on ∙ sym begin.same ∙ on_line start begin.known in
        let z = placed f 0 f-in (omega arith) in
        let low = begin.least (number_of 2 d.events f 0) z.0 (z.1 ∙ sym (on_line y within) ∙ on) in
        let from : number_of 2 d.events first 0 ≤ start =
        subst (λ (i : ℕ). number_of 2 d.events first 0 ≤ i) (number_event d.events ordered 2 start k) (number_least first (round_of 2 d.events start)) in
        let above = first_same d.events ordered f first lines in
        let count = count_same d.events ordered f first lines in
        let part = first_le d.events ordered f f-in in
        let end = past_gt d.events ordered f f-in in
        let all = count_is d.events ordered f f-in in
        let few = round_in d.events ordered 2 y j in
        let a = number_first first in
        let b = number_first f in
        let c = number_second first in
        let e = number_second f in
        let here = number_event d.events ordered 2 y j in
        elim (cases_lt q 1) [
          | inl none ↦
              let zero : q ≡ 0 = omega (arith, none) in
              let place : number_of 2 d.events f 0 ≡ y = subst (λ (i : ℕ). number_of 2 d.events f i ≡ y) zero here in (
                λ past. absurd (omega (arith, past, place, a, b, c, above, count, part, end, all)),
                λ one. absurd (omega (arith, one, zero)),
              )
          | inr some ↦
              let one : q ≡ 1 = omega (arith, some, few) in
              let place : number_of 2 d.events f 1 ≡ y = subst (λ (i : ℕ). number_of 2 d.events f i ≡ y) one here in
              (λ past. one, λ h. omega (arith, low, from, place, a, b, c, e, above, count, part))
        ]

    -- which is an event of that line
    pub second_known : number_of 2 d.events (event_of 2 d.events start) 1 < length (two_rounds d).events
    second_known = (placed (event_of 2 d.events start) 1 (event_in d.events accepted.in_text_order 2 start (events_in 2 (length d.messages) d.events start begin.known)) (omega arith)).0

    pub second_on : line (two_rounds d).events (number_of 2 d.events (event_of 2 d.events start) 1) ≡ line (two_rounds d).events x
    second_on =
        let k = events_in 2 (length d.messages) d.events start begin.known in
        (placed (event_of 2 d.events start) 1 (event_in d.events accepted.in_text_order 2 start k) (omega arith)).1
        ∙ sym (on_line start begin.known) ∙ begin.same
