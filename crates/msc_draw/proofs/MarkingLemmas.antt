-- Bars that are made of the races of one event after the other.
use Rattle.std.proofs.Common.{◌≡◌, ℕ, ◌+◌, ◌-◌, ◌<◌, ◌≤◌, ◌⊎◌, Bool, true, false, cond, List, [], ◌∷◌, ◌++◌, length, get_or, Option, None, Some, inl, inr, refl, sym, ap, subst, ◌∙◌, arith}
use Rattle.std.specs.Prelude.{replicate, slice_set}
use Rattle.std.specs.List.{All, flat_map, range_with_len}
use Rattle.std.proofs.lemmas.Bool.{cases_eq, false_from_ne_true}
use Rattle.std.proofs.lemmas.List.{get_or-replicate, length-append, length-replicate, length-set}
use Rattle.std.proofs.lemmas.List.Elements.{All-append, All-cons, All-nil}
use Rattle.msc_chart.specs.declared.event.ChartEvent.{ChartEvent}
use Rattle.msc_chart.specs.Charts.{IsInTextOrder}
use Rattle.msc_chart.proofs.ListLemmas.{clash}
use Rattle.msc_picture.specs.declared.scene.RaceBar.{RaceBar}
use Rattle.msc_picture.specs.Bars.{is_from, bar_at, bar_over, bars_of}
use Rattle.msc_picture.specs.Rows.{begins_segment, grown, reach_of, share_segment}
use Rattle.msc_picture.proofs.MarkLemmas.{share_on}
use Rattle.msc_picture.proofs.Ranges.{flat_next}
use Rattle.msc_picture.proofs.SegmentLemmas.{apart, of_above, share_back, share_own}
use Rattle.msc_draw.specs.Marking.{bar_by, IsMarking}
use Rattle.msc_draw.proofs.EndLemmas.{bar_noted, bar_same, no_end, noted_ends, noted_more}
use Rattle.msc_draw.proofs.Lists.{made_quiet, reach_push, reach_quiet, same_made}

module _ (events : List ChartEvent) (n : ℕ) (races : List (ℕ × ℕ)) (bars : List RaceBar)
    (upper lower : List Bool) (begun : ℕ) (reach : Option (ℕ × ℕ)) (told : ℕ)
    (h : IsMarking events n races bars upper lower begun reach told) where
  -- with the bar of the segment at hand, these are the bars of the segments of all events so far
  pub closed : 0 < n
      → bars ++ bar_by events upper lower begun reach
      ≡ flat_map (bar_at events races) (range_with_len 0 n)
  closed some =
      let at = bar_at events races in
      let over = bar_over events races begun (reach_of (is_from events begun) races) in
      let same : bar_by events upper lower begun reach ≡ at begun =
      ap (bar_by events upper lower begun) h.reached
      ∙ bar_noted events races upper lower begun (reach_of (is_from events begun) races)
      (noted_ends events races upper begun false h.uppers)
      (noted_ends events races lower begun true h.lowers)
      ∙ ap (λ (b : Bool). cond b over []) (sym h.begins) in
      let here : begun < n = omega (arith, h.within) in
      let left = n - (begun + 1) in
      let sum : (begun + 1) + left ≡ n = omega arith in
      ap (λ (l : List RaceBar). bars ++ l) same
      ∙ flat_next at begun bars (bars ++ at begun) h.marked refl
      ∙ made_quiet at left (begun + 1) n sum (λ x low high.
      ap (λ (b : Bool). cond b (bar_over events races x (reach_of (is_from events x) races)) [])
      (h.rest x (omega (arith, low)) high))

-- before the first event
pub nothing_marked : (events : List ChartEvent)
    → IsMarking events 0 [] [] (replicate (length events) false) (replicate (length events) false) 0 None 0
nothing_marked events = record {
  marked = refl;
  uppers = λ x below. get_or-replicate (length events) x false false below;
  lowers = λ x below. get_or-replicate (length events) x false false below;
  reached = refl;
  counted = refl;
  firsts = λ k d below. absurd (omega (arith, below));
  begins = refl;
  within = omega arith;
  rest = λ x low high. absurd (omega (arith, high));
  shared = λ some. absurd (omega (arith, some));
  long_upper = length-replicate _ _;
  long_lower = length-replicate _ _;
}

module _ (events : List ChartEvent) (e : ℕ) (races : List (ℕ × ℕ)) (bars : List RaceBar)
    (upper lower : List Bool) (begun : ℕ) (reach : Option (ℕ × ℕ)) (told : ℕ)
    (h : IsMarking events e races bars upper lower begun reach told) where
  -- an event that begins no segment is of the one at hand
  pub turned_same : (e ≡ 0) ⊎ (begins_segment events e ≡ false)
      → IsMarking events (e + 1) races bars upper lower begun reach told
  turned_same inner = record {
    marked = h.marked;
    uppers = h.uppers;
    lowers = h.lowers;
    reached = h.reached;
    counted = h.counted;
    firsts = λ k d below. let first = h.firsts k d below in omega (arith, first);
    begins = h.begins;
    within = omega (arith, h.within);
    rest = λ x low high. elim (cases_eq x e) [
      | inl same ↦ elim inner [
        | inl zero_is ↦ absurd (omega (arith, low, same, zero_is))
        | inr none ↦ subst (λ (y : ℕ). begins_segment events y ≡ false) (sym same) none
      ]
      | inr other ↦ h.rest x low (omega (arith, other, high))
    ];
    shared = λ some. let here : e ≡ (e + 1) - 1 = omega arith in
        subst (λ (y : ℕ). share_segment events begun y ≡ true) here (elim inner [
          | inl zero_is ↦
              let same : begun ≡ e = omega (arith, h.within, zero_is) in
              subst (λ (y : ℕ). share_segment events begun y ≡ true) same (share_own events begun)
          | inr none ↦ of_segment none
        ]);
    long_upper = h.long_upper;
    long_lower = h.long_lower;
  }
    where
      of_segment : begins_segment events e ≡ false → share_segment events begun e ≡ true
      of_segment none = elim (cases_eq e 0) [
        | inl zero_is ↦
            let same : begun ≡ e = omega (arith, h.within, zero_is) in
            subst (λ (y : ℕ). share_segment events begun y ≡ true) same (share_own events begun)
        | inr some ↦
            share_on events begun (e - 1) e (h.shared (omega (arith, some))) (of_above events e none)
      ]

  -- an event that begins a segment closes the one at hand
  pub turned_new : IsInTextOrder events → 0 < e → e < length events
      → begins_segment events e ≡ true
      → IsMarking events (e + 1) races (bars ++ bar_by events upper lower begun reach)
      (replicate (length events) false) (replicate (length events) false) e None told
  turned_new order some below begins =
      let none : All (λ p. is_from events e p ≡ false) races =
      λ k d inside.
      let p = get_or races k d in
      false_from_ne_true _ (λ shared. clash (share_back events e p.0 shared)
      (apart events order p.0 e e (h.firsts k d inside) (omega arith) below begins)) in
      let empty = λ (lower_is : Bool) (x : ℕ) (inside : x < length events).
      get_or-replicate (length events) x false false inside
      ∙ sym (no_end events races e lower_is x none) in
      record {
        marked = closed events e races bars upper lower begun reach told h some;
        uppers = empty false;
        lowers = empty true;
        reached = sym (reach_quiet (is_from events e) None 0 races none);
        counted = h.counted;
        firsts = λ k d inside. let first = h.firsts k d inside in omega (arith, first);
        begins = begins;
        within = omega arith;
        rest = λ x low high. absurd (omega (arith, low, high));
        shared = λ any. let here : e ≡ (e + 1) - 1 = omega arith in
            subst (λ (y : ℕ). share_segment events e y ≡ true) here (share_own events e);
        long_upper = length-replicate _ _;
        long_lower = length-replicate _ _;
      }

-- one more race of the event that was reached last
pub added : (events : List ChartEvent) (e f : ℕ) (races : List (ℕ × ℕ)) (bars : List RaceBar)
    (upper lower : List Bool) (begun : ℕ) (reach : Option (ℕ × ℕ)) (told : ℕ) → IsInTextOrder events
    → e < length events → f < length events
    → IsMarking events (e + 1) races bars upper lower begun reach told
    → IsMarking events (e + 1) (races ++ (e, f) ∷ []) bars (slice_set upper e true)
    (slice_set lower f true) begun (Some (grown reach told)) (told + 1)
added events e f races bars upper lower begun reach told order below inside h =
    let p : ℕ × ℕ = (e, f) in
    let here : (e + 1) - 1 ≡ e = omega arith in
    let own : is_from events begun p ≡ true =
    subst (λ (y : ℕ). share_segment events begun y ≡ true) here (h.shared (omega arith)) in
    let first : begun ≤ e = omega (arith, h.within) in
    let test = is_from events begun in
    record {
      marked = h.marked
          ∙ sym (same_made (bar_at events (races ++ p ∷ [])) (bar_at events races) begun 0
          (λ x low high. bar_same events races p x
          (apart events order x begun e (omega (arith, high)) first below h.begins)));
      uppers = noted_more events races p begun false upper own h.long_upper below h.uppers;
      lowers = noted_more events races p begun true lower own h.long_lower inside h.lowers;
      reached =
          let pushed = reach_push test None 0 races p
          ∙ ap (λ (b : Bool). cond b (Some (grown (reach_of test races) (0 + length races)))
          (reach_of test races)) own in
          let count : told ≡ 0 + length races = omega (arith, h.counted) in
          ap (λ (o : Option (ℕ × ℕ)). Some (grown o told)) h.reached
          ∙ ap (λ (j : ℕ). Some (grown (reach_of test races) j)) count ∙ sym pushed;
      counted =
          let long : length (races ++ p ∷ []) ≡ length races + 1 = length-append races (p ∷ []) in
          omega (arith, long, h.counted);
      firsts = firsts_more;
      begins = h.begins;
      within = h.within;
      rest = h.rest;
      shared = h.shared;
      long_upper = length-set upper e true ∙ h.long_upper;
      long_lower = length-set lower f true ∙ h.long_lower;
    }
  where
    firsts_more : All (λ q. q.0 < e + 1) (races ++ (e, f) ∷ [])
    firsts_more = All-append (λ q. q.0 < e + 1) races ((e, f) ∷ []) h.firsts
        (All-cons (λ q. q.0 < e + 1) (e, f) [] (omega arith) (All-nil (λ q. q.0 < e + 1)))

-- the bars of all events
pub all_marked : (events : List ChartEvent) (races : List (ℕ × ℕ)) (bars : List RaceBar)
    (upper lower : List Bool) (begun : ℕ) (reach : Option (ℕ × ℕ)) (told : ℕ)
    → IsMarking events (length events) races bars upper lower begun reach told → 0 < length events
    → bars ++ bar_by events upper lower begun reach ≡ bars_of events races
all_marked events races bars upper lower begun reach told h some =
    closed events (length events) races bars upper lower begun reach told h some

-- the same, in equal parts
pub same_marking : (events : List ChartEvent) (n : ℕ) (races : List (ℕ × ℕ)) (bars bars' : List RaceBar)
    (upper upper' lower lower' : List Bool) (begun begun' : ℕ) (reach reach' : Option (ℕ × ℕ))
    (told told' : ℕ) → bars' ≡ bars → upper' ≡ upper → lower' ≡ lower → begun' ≡ begun
    → reach' ≡ reach → told' ≡ told → IsMarking events n races bars upper lower begun reach told
    → IsMarking events n races bars' upper' lower' begun' reach' told'
same_marking events n races bars bars' upper upper' lower lower' begun begun' reach reach' told told' a b c d e f h =
    subst (λ (x : List RaceBar). IsMarking events n races x upper' lower' begun' reach' told') (sym a)
    (subst (λ (x : List Bool). IsMarking events n races bars x lower' begun' reach' told') (sym b)
    (subst (λ (x : List Bool). IsMarking events n races bars upper x begun' reach' told') (sym c)
    (subst (λ (x : ℕ). IsMarking events n races bars upper lower x reach' told') (sym d)
    (subst (λ (x : Option (ℕ × ℕ)). IsMarking events n races bars upper lower begun x told') (sym e)
    (subst (λ (x : ℕ). IsMarking events n races bars upper lower begun reach x) (sym f) h)))))

-- both cases are one
both : {X : Type 0} (b : Bool) (x : X) → cond b x x ≡ x
both true x = refl
both false x = refl

-- of no races there are no bars
pub no_bars : (events : List ChartEvent) → [] ≡ bars_of events []
no_bars events =
    let none : List RaceBar = [] in
    made_quiet (bar_at events []) (length events) 0 (length events) (omega arith)
    (λ x low high. both (begins_segment events x) none)
