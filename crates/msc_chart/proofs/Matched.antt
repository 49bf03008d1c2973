-- Where no fault up to the unmatched inputs stands, the events of the draft's chart have their
-- partners, and they stand in the order of the text.
use Rattle.std.proofs.Common.{◌≡◌, ℕ, ◌+◌, ◌<◌, ◌≤◌, Bool, true, false, cond, not, List, [], ◌∷◌, length, get_or, Some, suc, zero, refl, sym, ap, ◌∙◌, subst, true≢false, arith}
use Rattle.std.specs.List.{list_any}
use Rattle.std.proofs.lemmas.Bool.{lt-ltb}
use Rattle.std.proofs.lemmas.Option.{slice_get_within, slice_get-get_or, get_or_from_slice_get}
use Rattle.std.proofs.lemmas.List.{length-map}
use Rattle.msc_parser.specs.Grammar.{Tree}
use Rattle.msc_chart.specs.Building.{IsClearBelow}
use Rattle.msc_chart.specs.declared.TheConstants.{EVENT_LIMIT}
use Rattle.msc_chart.specs.declared.fault.ChartFault.TheVariants.{TwiceEvent, UnmatchedOut, UnmatchedIn}
use Rattle.msc_chart.specs.declared.event.EventKind.TheVariants.{Output, Input}
use Rattle.msc_chart.specs.declared.event.ChartEvent.{ChartEvent}
use Rattle.msc_chart.specs.Events.{MessageEnd, Act, DraftEvent, acts_of, events_of, other_end, is_end}
use Rattle.msc_chart.specs.Events.Act.{OfMessage, Action}
use Rattle.msc_chart.specs.Charts.{at, no_event, line, segment, kind, partner, sends, takes, acts, is_output, is_input, IsMatched, IsInTextOrder, AreOnLines}
use Rattle.msc_chart.specs.Drawings.{chart_events}
use Rattle.msc_chart.specs.Charting.{end_place, act_kind, partner_of, event_of, events_from}
use Rattle.msc_chart.specs.Sortings.{AreReady}
use Rattle.msc_chart.specs.Lists.{StandsAt, Occurs}
use Rattle.msc_chart.specs.Faults.{Stands, IsTwice}
use Rattle.msc_chart.proofs.ListLemmas.{by_test, clash}
use Rattle.msc_chart.proofs.Places.{one_at, any-place, place-any, place-map}
use Rattle.msc_chart.proofs.MatchingLemmas.{is_end-true, same_end-refl}
use Rattle.msc_chart.proofs.TableLemmas.{place-stands, place-once}
use Rattle.msc_chart.proofs.DraftEvents.{of_sections, in_text_order}
use Rattle.msc_chart.proofs.Drawn.{local_parts}

-- the other end of the other end is the end itself
other-other : (x : MessageEnd) → other_end (other_end x) ≡ x
other-other x = λ i. record { sends = two_rounds x.sends i; key = x.key }
  where
    -- what is negated twice is as before
    two_rounds : (b : Bool) → not (not b) ≡ b
    two_rounds true = refl
    two_rounds false = refl

-- the other end of an output is an input, and the other way round
other_kinds : (b : Bool) → sends (cond (not b) Output Input) ≡ takes (cond b Output Input)
other_kinds true = refl
other_kinds false = refl

-- an end of a message is no local event
none_acts : (b : Bool) → acts (cond b Output Input) ≡ true → ⊥
none_acts true h = true≢false (sym h)
none_acts false h = true≢false (sym h)

-- as many events of a chart as of the draft
events-length : (acts : List Act) (k : ℕ) (xs : List DraftEvent) → length (events_from acts k xs) ≡ length xs
events-length acts k [] = refl
events-length acts k (x ∷ xs) = ap suc (events-length acts (k + 1) xs)

-- and each at its place
events-place : (acts : List Act) (k : ℕ) (xs : List DraftEvent) (i : ℕ) (x : DraftEvent) → StandsAt xs i x → StandsAt (events_from acts k xs) i (event_of acts (k + i) x)
events-place acts k [] i x h = cc
events-place acts k (y ∷ ys) zero x h =
    let same : y ≡ x = cc in
    let number : k ≡ k + 0 = omega arith in
    ap Some (ap (event_of acts k) same ∙ ap (λ (n : ℕ). event_of acts n x) number)
events-place acts k (y ∷ ys) (suc i) x h =
    let number : (k + 1) + i ≡ k + suc i = omega arith in
    subst (λ (n : ℕ). StandsAt (events_from acts (k + 1) ys) i (event_of acts n x)) number (events-place acts (k + 1) ys i x h)

-- the events of the chart are those of the draft
pub chart_count : (d : Tree) → length (chart_events d) ≡ length (events_of d)
unfolding chart_events
chart_count d = events-length (acts_of d) 0 (events_of d)

-- and each has one act
pub acts_count : (d : Tree) → length (acts_of d) ≡ length (events_of d)
unfolding acts_of
acts_count d = length-map (events_of d) (λ e. e.act)

-- an event of the draft is that event of the chart
pub chart-place : (d : Tree) (e : ℕ) (x : DraftEvent) → StandsAt (events_of d) e x → StandsAt (chart_events d) e (event_of (acts_of d) e x)
unfolding chart_events
chart-place d e x h =
    let number : 0 + e ≡ e = omega arith in
    subst (λ (n : ℕ). StandsAt (chart_events d) e (event_of (acts_of d) n x)) number (events-place (acts_of d) 0 (events_of d) e x h)

module _ (d : Tree) where
  -- the event at a place, in the draft and in the chart
  pub drawn_at : (e : ℕ) → e < length (chart_events d) → (x : DraftEvent) × StandsAt (events_of d) e x × StandsAt (acts_of d) e x.act × (at (chart_events d) e ≡ event_of (acts_of d) e x)
  unfolding acts_of
  drawn_at e within =
      let n = chart_count d in
      let none : DraftEvent = record { line = 0; segment = 0; act = Action [] } in
      let x : DraftEvent = get_or (events_of d) e none in
      let here : StandsAt (events_of d) e x = slice_get-get_or (events_of d) e none (omega arith) in
      (x, here, place-map (λ y. y.act) (events_of d) e x here, get_or_from_slice_get (chart_events d) e (event_of (acts_of d) e x) no_event (chart-place d e x here))

  -- its line and its segment
  pub line_at : (e : ℕ) (within : e < length (chart_events d)) → line (chart_events d) e ≡ (drawn_at e within).0.line
  unfolding line
  line_at e within = ap (λ (v : ChartEvent). v.line) (drawn_at e within).3

  -- and its segment is that of the draft
  pub segment_at : (e : ℕ) (within : e < length (chart_events d)) → segment (chart_events d) e ≡ (drawn_at e within).0.segment
  unfolding segment
  segment_at e within = ap (λ (v : ChartEvent). v.segment) (drawn_at e within).3

  -- each event is on the line of a section, in fewer segments than there are events
  pub chart_on_lines : AreOnLines (length d.sections) (chart_events d)
  unfolding events_of
  chart_on_lines =
      let n = chart_count d in
      record {
        on_line = λ e within. let x = drawn_at e within in let r = of_sections 0 d.sections x.0 (e, x.1) in omega (arith, r.0, line_at e within);
        few = λ e within. let x = drawn_at e within in let r = of_sections 0 d.sections x.0 (e, x.1) in omega (arith, r.1, n, segment_at e within);
      }

  -- events are numbered line by line, and down each line
  pub chart_in_text_order : IsInTextOrder (chart_events d)
  chart_in_text_order = record {
    lines = λ e f le within.
        let early : e < length (chart_events d) = omega arith in
        let x = drawn_at e early in
        let y = drawn_at f within in
        omega (arith, (in_text_order d e f x.0 y.0 le x.1 y.1).0, line_at e early, line_at f within);
    rising = λ e f le within same.
        let early : e < length (chart_events d) = omega arith in
        let x = drawn_at e early in
        let y = drawn_at f within in
        let one : x.0.line ≡ y.0.line = sym (line_at e early) ∙ same ∙ line_at f within in
        omega (arith, (in_text_order d e f x.0 y.0 le x.1 y.1).1 one, segment_at e early, segment_at f within);
  }

module _ (d : Tree) (clear : IsClearBelow d 10) where
  -- no end stands twice
  pub none-two_rounds : (e : ℕ) → IsTwice (acts_of d) e → ⊥
  unfolding Stands
  none-two_rounds e h = let low : 10 ≤ 7 = clear (TwiceEvent e) h in omega arith

  -- so each stands at its place
  pub place-own : (e : ℕ) (x : MessageEnd) → StandsAt (acts_of d) e (OfMessage x) → end_place (acts_of d) x ≡ e
  place-own = place-once (acts_of d) none-two_rounds

  -- no end is alone
  other-occurs : (e : ℕ) (x : MessageEnd) → StandsAt (acts_of d) e (OfMessage x) → Occurs (acts_of d) (OfMessage (other_end x))
  unfolding Stands
  other-occurs e x h =
      by_test (list_any (is_end (other_end x)) (acts_of d))
      (λ some. let r = any-place (is_end (other_end x)) (acts_of d) some in (r.0, subst (StandsAt (acts_of d) r.0) (is_end-true (other_end x) r.1 r.3) r.2))
      (λ none.
      let alone : Occurs (acts_of d) (OfMessage (other_end x)) → ⊥ = λ o. clash (place-any (is_end (other_end x)) (acts_of d) o.0 (OfMessage (other_end x)) o.1 (same_end-refl (other_end x))) none in
      by_test x.sends
      (λ sent. let low : 10 ≤ 8 = clear (UnmatchedOut e) (OfMessage x, h, record { kind = sent; alone = alone }) in absurd (omega arith))
      (λ taken. let low : 10 ≤ 9 = clear (UnmatchedIn e) (OfMessage x, h, record { kind = taken; alone = alone }) in absurd (omega arith)))

  -- the other end of an end, at its place
  pub partner_at : (e : ℕ) (x : MessageEnd) → StandsAt (acts_of d) e (OfMessage x)
      → (end_place (acts_of d) (other_end x) < length (chart_events d))
      × ((y : DraftEvent) × (at (chart_events d) (end_place (acts_of d) (other_end x)) ≡ event_of (acts_of d) (end_place (acts_of d) (other_end x)) y) × (y.act ≡ OfMessage (other_end x)))
  partner_at e x here =
      let p : ℕ = end_place (acts_of d) (other_end x) in
      let o = other-occurs e x here in
      let stands : StandsAt (acts_of d) p (OfMessage (other_end x)) = (place-stands (acts_of d) (other_end x) o.0 o.1).0 in
      let n = chart_count d in
      let m = acts_count d in
      let below : p < length (acts_of d) = slice_get_within (acts_of d) p (OfMessage (other_end x)) stands in
      let within : p < length (chart_events d) = omega arith in
      let y = drawn_at d p within in
      (within, (y.0, y.3, one_at (acts_of d) p y.0.act (OfMessage (other_end x)) y.2 stands))

  -- the partner of an event is an event
  partner_in : (e : ℕ) (a : Act) → StandsAt (acts_of d) e a → e < length (chart_events d) → partner_of (acts_of d) e a < length (chart_events d)
  partner_in e (OfMessage x) here within = (partner_at e x here).0
  partner_in e (Action text) here within = within

  -- and its partner is that event
  back_to : (e : ℕ) (a : Act) → StandsAt (acts_of d) e a → (at (chart_events d) e).partner ≡ partner_of (acts_of d) e a
      → (at (chart_events d) (partner_of (acts_of d) e a)).partner ≡ e
  back_to e (OfMessage x) here same =
      let p : ℕ = end_place (acts_of d) (other_end x) in
      let y = (partner_at e x here).1 in
      ap (λ (v : ChartEvent). v.partner) y.1
      ∙ ap (partner_of (acts_of d) p) y.2
      ∙ ap (end_place (acts_of d)) (other-other x)
      ∙ place-own e x here
  back_to e (Action text) here same = same

  -- it is an output where that event is an input
  crosswise : (e : ℕ) (a : Act) → StandsAt (acts_of d) e a → e < length (chart_events d) → (at (chart_events d) e).kind ≡ act_kind a
      → is_output (chart_events d) (partner_of (acts_of d) e a) ≡ is_input (chart_events d) e
  unfolding is_output is_input kind
  crosswise e (OfMessage x) here within same =
      let p = partner_at e x here in
      let y = p.1 in
      rw (lt-ltb _ _ p.0, lt-ltb _ _ within)
      (ap (λ (v : ChartEvent). sends v.kind) y.1
      ∙ ap (λ (a : Act). sends (act_kind a)) y.2
      ∙ other_kinds x.sends
      ∙ ap takes (sym same))
  crosswise e (Action text) here within same = rw (lt-ltb _ _ within) (ap sends same ∙ ap takes (sym same))

  -- and of a local event it is that event itself
  alone : (e : ℕ) (a : Act) → (at (chart_events d) e).partner ≡ partner_of (acts_of d) e a → acts (act_kind a) ≡ true → (at (chart_events d) e).partner ≡ e
  alone e (OfMessage x) same local = absurd (none_acts x.sends local)
  alone e (Action text) same local = same

  -- partners lead to and fro: no end stands twice, and none is alone
  pub chart_matched : IsMatched (chart_events d)
  unfolding partner kind
  chart_matched =
      record {
        in_range = λ e within.
            let x = drawn_at d e within in
            let same : (at (chart_events d) e).partner ≡ partner_of (acts_of d) e x.0.act = ap (λ (v : ChartEvent). v.partner) x.3 in
            rw same (partner_in e x.0.act x.2 within);
        to_and_fro = λ e within.
            let x = drawn_at d e within in
            let same : (at (chart_events d) e).partner ≡ partner_of (acts_of d) e x.0.act = ap (λ (v : ChartEvent). v.partner) x.3 in
            ap (λ (z : ℕ). (at (chart_events d) z).partner) same ∙ back_to e x.0.act x.2 same;
        other_kind = λ e within.
            let x = drawn_at d e within in
            let same : (at (chart_events d) e).partner ≡ partner_of (acts_of d) e x.0.act = ap (λ (v : ChartEvent). v.partner) x.3 in
            ap (is_output (chart_events d)) same ∙ crosswise e x.0.act x.2 within (ap (λ (v : ChartEvent). v.kind) x.3);
        own = λ e local.
            let p = local_parts (chart_events d) e local in
            let x = drawn_at d e p.0 in
            alone e x.0.act (ap (λ (v : ChartEvent). v.partner) x.3) (sym (ap (λ (v : ChartEvent). acts v.kind) x.3) ∙ p.1);
      }

  -- so the events are ready to be put into a linear order
  pub chart_ready : length (events_of d) ≤ EVENT_LIMIT → AreReady (length d.sections) (chart_events d)
  chart_ready few = record {
    few = let n = chart_count d in omega arith;
    matched = chart_matched;
    in_text_order = chart_in_text_order d;
    on_lines = chart_on_lines d;
  }
