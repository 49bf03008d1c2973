-- The last fault, and the chart of a draft with none.
use Rattle.std.proofs.Common.{◌≡◌, ℕ, ◌+◌, ◌<◌, ◌≤◌, Bool, true, false, not, cond, List, [], ◌∷◌, length, Option, None, refl, sym, ap, ◌∙◌, subst, arith, inl, inr}
use Rattle.std.specs.Prelude.{MatchOption, count_by, Result, Ok, Err, IfErr}
use Rattle.std.specs.Result.{IsErrAnd}
use Rattle.std.proofs.lemmas.Bool.{cases_lt}
use Rattle.std.proofs.lemmas.List.{length-map}
use Rattle.std.proofs.lemmas.List.Sums.{sum_by-cons}
use Rattle.msc_parser.specs.Grammar.{Tree}
use Rattle.msc_chart.specs.Building.{IsClearBelow, IsFirstOrMemory, IsLeastCyclic}
use Rattle.msc_chart.specs.declared.TheConstants.{ACTION_LIMIT, EVENT_LIMIT, INSTANCE_LIMIT, MESSAGE_LIMIT}
use Rattle.msc_chart.specs.declared.fault.ChartFault.{ChartFault}
use Rattle.msc_chart.specs.declared.fault.ChartFault.TheVariants.{TooManyInstances, TwiceInstance, HeaderWithoutBody, UnknownAddress, TooManyMessages, TooManyActions, TwiceEvent, UnmatchedOut, UnmatchedIn, Cyclic, Memory}
use Rattle.msc_chart.specs.declared.event.ChartEvent.{ChartEvent}
use Rattle.msc_chart.specs.declared.message.Message.{Message}
use Rattle.msc_chart.specs.Events.{Act, DraftEvent, is_sent, is_taken, is_action, acts_of, events_of, instances_of}
use Rattle.msc_chart.specs.Events.Act.{OfMessage, Action}
use Rattle.msc_chart.specs.Charts.{IsAcyclic, IsLinearOrder}
use Rattle.msc_chart.specs.Drawings.{IsAccepted, drawing, chart_events, chart_of}
use Rattle.msc_chart.specs.Charting.{events_from}
use Rattle.msc_chart.specs.Faults.{Stands, AreTooMany, IsFirstFault, IsFaultless}
use Rattle.msc_chart.specs.Sortings.{IsCycleOrMemory}
use Rattle.msc_chart.proofs.FaultLemmas.{first_of, clear_next, faultless}
use Rattle.msc_chart.proofs.Matched.{chart_count, acts_count, chart_on_lines, chart_in_text_order, chart_matched}
use Rattle.msc_chart.proofs.StuckLemmas.{linear_acyclic}
use Rattle.msc_chart.proofs.Messages.{messages_count, chart_messages}
use Rattle.msc_chart.proofs.ActionLemmas.{texts_count, chart_actions}

-- the events that the code makes are those of the draft's chart
pub made : (d : Tree) (xs : List Act) (drawn : List DraftEvent) (chart : List ChartEvent) → xs ≡ acts_of d → drawn ≡ events_of d
    → chart ≡ events_from xs 0 drawn → chart ≡ chart_events d
unfolding chart_events
made d xs drawn chart e v h = h ∙ ap (λ ys. events_from ys 0 drawn) e ∙ ap (events_from (acts_of d) 0) v

module _ (d : Tree) (clear : IsClearBelow d 10) where
  -- where no fault of a lower rank stands, the least event that precedes itself is the first fault
  pub least_cyclic_first : (e : ℕ) → IsLeastCyclic (chart_events d) e → IsFirstFault d (Cyclic e)
  unfolding Stands
  least_cyclic_first e h =
      first_of d 10 e clear (Cyclic e) refl refl (h.within, h.precedes_itself)
      (λ p s. elim (cases_lt p e) [ inl below ↦ absurd (h.least p below s.1) | inr ge ↦ ge ])

  -- where no event precedes itself either, no fault stands
  pub no_fault : IsAcyclic (chart_events d) → IsFaultless d
  unfolding Stands
  no_fault acyclic = faultless d (clear_next d 10 clear (λ p s. acyclic p s.0 s.1))

  -- a linear order of the events shows that no fault stands
  pub linear_faultless : (order : List ℕ) → IsLinearOrder (chart_events d) order → IsFaultless d
  linear_faultless order linear = no_fault (linear_acyclic (chart_events d) order linear)

  -- the least event that precedes itself is the first fault
  pub cyclic_first : (f : ChartFault) → IsCycleOrMemory (chart_events d) f → IsFirstOrMemory d f
  cyclic_first TooManyInstances h = absurd h
  cyclic_first (TwiceInstance i) h = absurd h
  cyclic_first (HeaderWithoutBody k) h = absurd h
  cyclic_first (UnknownAddress e) h = absurd h
  cyclic_first TooManyMessages h = absurd h
  cyclic_first TooManyActions h = absurd h
  cyclic_first (TwiceEvent e) h = absurd h
  cyclic_first (UnmatchedOut e) h = absurd h
  cyclic_first (UnmatchedIn e) h = absurd h
  cyclic_first (Cyclic e) h = λ _. least_cyclic_first e h
  cyclic_first Memory h = λ other. absurd (other refl)

-- a fault that is passed on
pub passed_on : {X : Type 0} (d : Tree) (r : Result X ChartFault) (f : ChartFault) → IsErrAnd r (λ e. e ≡ f) → IsFirstOrMemory d f → IfErr r (IsFirstOrMemory d)
passed_on d (Ok x) f h first = tt
passed_on d (Err e) f h first = subst (IsFirstOrMemory d) (sym h) first

-- what the search for cycles answers, where it answers none
module _ (events : List ChartEvent) (r : Option ℕ) where
  -- then no event precedes itself
  pub acyclic_at : r ≡ None → MatchOption r (IsAcyclic events) (IsLeastCyclic events) → IsAcyclic events
  acyclic_at is h = let at : MatchOption None (IsAcyclic events) (IsLeastCyclic events) = subst (λ o. MatchOption o (IsAcyclic events) (IsLeastCyclic events)) is h in at

-- charts with equal parts are equal
pub same_drawing : {n n' : List ℕ} {i i' : List (List ℕ)} {e e' : List ChartEvent} {m m' : List Message} {t t' : List (List ℕ)} → n ≡ n' → i ≡ i' → e ≡ e' → m ≡ m' → t ≡ t'
    → drawing n i e m t ≡ drawing n' i' e' m' t'
same_drawing p q r s t = λ k. record { name = p k; instances = q k; events = r k; messages = s k; actions = t k }

-- an event is an output, an input or an action
each_way : (xs : List Act) → count_by is_sent xs + count_by is_taken xs + count_by is_action xs ≡ length xs
each_way [] = refl
each_way (x ∷ xs) =
    let rest = each_way xs in
    let sent = sum_by-cons (λ (y : Act). cond (is_sent y) 1 0) x xs in
    let taken = sum_by-cons (λ (y : Act). cond (is_taken y) 1 0) x xs in
    let own = sum_by-cons (λ (y : Act). cond (is_action y) 1 0) x xs in
    omega (arith, rest, sent, taken, own, one_way x)
  where
    -- an end of a message is sent or taken, and not both
    by : (b : Bool) → cond b 1 0 + cond (not b) 1 0 + 0 ≡ 1
    by true = refl
    by false = refl

    -- an act is exactly one of the three
    one_way : (a : Act) → cond (is_sent a) 1 0 + cond (is_taken a) 1 0 + cond (is_action a) 1 0 ≡ 1
    one_way (OfMessage e) = by e.sends
    one_way (Action text) = refl

-- what is not above a limit is at most that
at_most : (limit n : ℕ) → (limit < n → ⊥) → n ≤ limit
at_most limit n none = elim (cases_lt limit n) [ inl many ↦ absurd (none many) | inr few ↦ few ]

-- so where none of them are too many, all are few
pub few_acts : (xs : List Act) → (AreTooMany xs → ⊥) → (ACTION_LIMIT < count_by is_action xs → ⊥) → length xs ≤ EVENT_LIMIT
few_acts xs none few =
    let each = each_way xs in
    let sent = at_most MESSAGE_LIMIT (count_by is_sent xs) (λ m. none (inl m)) in
    let taken = at_most MESSAGE_LIMIT (count_by is_taken xs) (λ m. none (inr m)) in
    let own = at_most ACTION_LIMIT (count_by is_action xs) few in omega arith

-- the chart of a draft without faults is accepted
pub accepted : (d : Tree) → IsFaultless d → IsAccepted (chart_of d)
unfolding Stands instances_of
accepted d none =
    let clear : IsClearBelow d 10 = λ f h. absurd (none f h) in
    let count : length (instances_of d) ≡ length d.sections = length-map d.sections (λ s. s.decl.name) in
    let few = few_acts (acts_of d) (none TooManyMessages) (none TooManyActions) in
    let sent = at_most MESSAGE_LIMIT (count_by is_sent (acts_of d)) (λ m. none TooManyMessages (inl m)) in
    let own = at_most ACTION_LIMIT (count_by is_action (acts_of d)) (none TooManyActions) in
    let outputs = messages_count 0 (acts_of d) in
    let texts = texts_count (acts_of d) in
    let events = chart_count d in
    let acts = acts_count d in
    record {
      few_instances = at_most INSTANCE_LIMIT (length (instances_of d)) (none TooManyInstances);
      few_messages = omega arith;
      few_actions = omega arith;
      few_events = omega arith;
      on_lines = rw count (chart_on_lines d);
      in_text_order = chart_in_text_order d;
      matched = chart_matched d clear;
      acyclic = λ e within cycle. none (Cyclic e) (within, cycle);
      has_messages = chart_messages d clear;
      has_actions = chart_actions d;
    }
