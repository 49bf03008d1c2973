-- The actions of a chart and their events.
use Rattle.std.proofs.Common.{◌≡◌, ℕ, ◌+◌, ◌<◌, Bool, true, false, cond, List, [], ◌∷◌, length, map, suc, zero, refl, sym, ap, ◌∙◌, true≢false, arith, take}
use Rattle.std.specs.Prelude.{count_by}
use Rattle.std.proofs.lemmas.List.Sums.{sum_by-cons}
use Rattle.msc_parser.specs.Grammar.{Tree}
use Rattle.msc_chart.specs.declared.event.EventKind.TheVariants.{Output, Input}
use Rattle.msc_chart.specs.declared.event.ChartEvent.{ChartEvent}
use Rattle.msc_chart.specs.Events.{Act, DraftEvent, is_action, acts_of, events_of}
use Rattle.msc_chart.specs.Events.Act.{OfMessage, Action}
use Rattle.msc_chart.specs.Charts.{kind, action, acts}
use Rattle.msc_chart.specs.Drawings.{chart_events, HasActions, chart_of}
use Rattle.msc_chart.specs.Charting.{act_kind, subject_of, event_of, actions_before, events_from, texts_of}
use Rattle.msc_chart.specs.Lists.{StandsAt}
use Rattle.msc_chart.proofs.Matched.{drawn_at}
use Rattle.msc_chart.proofs.Drawn.{local_parts}

-- an act in front is counted where it is an action
one_more : (x : Act) (xs : List Act) → count_by is_action (x ∷ xs) ≡ cond (is_action x) 1 0 + count_by is_action xs
one_more x xs = sum_by-cons (λ (y : Act). cond (is_action y) 1 0) x xs

-- an event in front is counted where it is local
one_event : (x : ChartEvent) (xs : List ChartEvent) → count_by (λ y. acts y.kind) (x ∷ xs) ≡ cond (acts x.kind) 1 0 + count_by (λ y. acts y.kind) xs
one_event x xs = sum_by-cons (λ (y : ChartEvent). cond (acts y.kind) 1 0) x xs

-- as many texts as actions
pub texts_count : (xs : List Act) → length (texts_of xs) ≡ count_by is_action xs
texts_count [] = refl
texts_count (OfMessage x ∷ xs) =
    let here : count_by is_action (OfMessage x ∷ xs) ≡ 0 + count_by is_action xs = one_more (OfMessage x) xs in
    omega (arith, texts_count xs, here)
texts_count (Action text ∷ xs) =
    let here : count_by is_action (Action text ∷ xs) ≡ 1 + count_by is_action xs = one_more (Action text) xs in
    omega (arith, texts_count xs, here)

-- an event is local where its act is an action
local_kind : (a : Act) → acts (act_kind a) ≡ is_action a
local_kind (OfMessage x) = by x.sends
  where
    -- neither an output nor an input acts
    by : (b : Bool) → acts (cond b Output Input) ≡ false
    by true = refl
    by false = refl
local_kind (Action text) = refl

-- as many local events as actions
kinds_count : (all : List Act) (k : ℕ) (xs : List DraftEvent) → count_by (λ y. acts y.kind) (events_from all k xs) ≡ count_by is_action (map (λ y. y.act) xs)
kinds_count all k [] = refl
kinds_count all k (x ∷ xs) =
    one_event (event_of all k x) (events_from all (k + 1) xs)
    ∙ ap (λ (b : Bool). cond b 1 0 + count_by (λ y. acts y.kind) (events_from all (k + 1) xs)) (local_kind x.act)
    ∙ ap (λ (n : ℕ). cond (is_action x.act) 1 0 + n) (kinds_count all (k + 1) xs)
    ∙ sym (one_more x.act (map (λ y. y.act) xs))

-- and so it is before each place
kinds_before : (all : List Act) (k : ℕ) (xs : List DraftEvent) (e : ℕ) → count_by (λ y. acts y.kind) (take e (events_from all k xs)) ≡ actions_before (map (λ y. y.act) xs) e
kinds_before all k xs zero = refl
kinds_before all k [] (suc e) = refl
kinds_before all k (x ∷ xs) (suc e) =
    one_event (event_of all k x) (take e (events_from all (k + 1) xs))
    ∙ ap (λ (b : Bool). cond b 1 0 + count_by (λ y. acts y.kind) (take e (events_from all (k + 1) xs))) (local_kind x.act)
    ∙ ap (λ (n : ℕ). cond (is_action x.act) 1 0 + n) (kinds_before all (k + 1) xs e)
    ∙ sym (one_more x.act (take e (map (λ y. y.act) xs)))

-- an action has fewer before it than there are
before_less : (xs : List Act) (j : ℕ) (text : List ℕ) → StandsAt xs j (Action text) → actions_before xs j < count_by is_action xs
before_less [] j text h = cc
before_less (x ∷ xs) zero text h =
    let same : x ≡ Action text = cc in
    let here : is_action x ≡ true = ap is_action same in
    let count : count_by is_action (x ∷ xs) ≡ 1 + count_by is_action xs = one_more x xs ∙ ap (λ (b : Bool). cond b 1 0 + count_by is_action xs) here in
    omega (arith, count)
before_less (x ∷ xs) (suc j) text h =
    let rest = before_less xs j text h in
    let front : actions_before (x ∷ xs) (suc j) ≡ cond (is_action x) 1 0 + actions_before xs j = one_more x (take j xs) in
    omega (arith, rest, front, one_more x xs)

module _ (d : Tree) where
  -- a local event is an action, numbered by the actions before it
  local_at : (e : ℕ) (a : Act) → StandsAt (acts_of d) e a → acts (act_kind a) ≡ true → (subject_of (acts_of d) e a ≡ actions_before (acts_of d) e) × (actions_before (acts_of d) e < count_by is_action (acts_of d))
  local_at e (OfMessage x) here local = absurd (true≢false (sym local ∙ local_kind (OfMessage x)))
  local_at e (Action text) here local = (refl, before_less (acts_of d) e text here)

  -- so is a local event of the chart
  numbered : (e : ℕ) → e < length (chart_events d) → acts (kind (chart_events d) e) ≡ true
      → (action (chart_events d) e ≡ actions_before (acts_of d) e) × (actions_before (acts_of d) e < count_by is_action (acts_of d))
  unfolding kind action
  numbered e within local =
      let x = drawn_at d e within in
      let r = local_at e x.0.act x.2 (sym (ap (λ (v : ChartEvent). acts v.kind) x.3) ∙ local) in
      (ap (λ (v : ChartEvent). v.subject) x.3 ∙ r.0, r.1)

  -- the local events of the chart are its actions
  pub chart_actions : HasActions (chart_of d)
  unfolding chart_events acts_of
  chart_actions = record {
    each = texts_count (acts_of d) ∙ sym (kinds_count (acts_of d) 0 (events_of d));
    own = λ e local. let p = local_parts (chart_events d) e local in (numbered e p.0 p.1).0 ∙ sym (kinds_before (acts_of d) 0 (events_of d) e);
    known = λ e local.
        let p = local_parts (chart_events d) e local in
        let r = numbered e p.0 p.1 in
        let less = r.1 in
        omega (arith, r.0, less, texts_count (acts_of d));
  }
