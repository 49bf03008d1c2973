-- Each line has the ends of its arrows in their order.
use Rattle.std.proofs.Common.{◌≡◌, ◌≤◌, ℕ, zero, suc, ◌+◌, ◌-◌, Bool, true, false, cond, ◌==◌, List, [], ◌∷◌, ◌++◌, length, take, drop, map, nat_le, Option, None, Some, Result, Ok, Err, refl, sym, ap, ◌∙◌, subst, arith, tests}
use Rattle.std.specs.List.{flat_map}
use Rattle.std.proofs.lemmas.List.{append-nil, append_assoc, drop-drop, drop_all, length-append, length_push, map-append, take-append-drop}
use Rattle.msc_parser.specs.Drafts.{statements_in}
use Rattle.msc_scenarios.specs.declared.steps.Message.{Message}
use Rattle.msc_scenarios.specs.declared.steps.Step.{Step}
use Rattle.msc_scenarios.specs.declared.steps.Step.TheVariants as steps
use Rattle.msc_mermaid.specs.declared.fault.ImportFault.{ImportFault}
use Rattle.msc_mermaid.specs.declared.fault.ImportFault.TheVariants.{Shared}
use Rattle.msc_import.specs.declared.plan.Frame.{Frame}
use Rattle.msc_import.specs.declared.plan.Manner.{Manner}
use Rattle.msc_import.specs.declared.plan.Par.{Par}
use Rattle.msc_import.specs.declared.plan.Own.{Own}
use Rattle.msc_import.specs.declared.plan.Side.{Side}
use Rattle.msc_import.specs.declared.plan.Side.TheVariants as sides
use Rattle.msc_mermaid.specs.Gives.{◌>>=◌}
use Rattle.msc_import.specs.Drafting.{between, drawn_event, drawn_item, drawn_items}
use Rattle.msc_import.specs.Plans.{Event, Plan, closed_last, exchange_sides, exchanged, is_coregion, is_exchange, is_refused, joined_ends, last_frame, marked_last, met, opened, plan_on, planned, sides_on, single_sides, unplanned, with_both, with_event, with_pair, with_sides}
use Rattle.msc_import.specs.Laws.{ends_on}

-- places that ascend from the first to at most the last
UpTo : ℕ → List ℕ → ℕ → Type 0
UpTo a [] n = a ≤ n
UpTo a (e ∷ es) n = (a ≤ e) × UpTo e es n

-- and reach it
Reaches : ℕ → List ℕ → ℕ → Type 0
Reaches a [] n = a ≡ n
Reaches a (e ∷ es) n = (a ≤ e) × Reaches e es n

module _ (n : ℕ) where
  upto : (a : ℕ) (es : List ℕ) → Reaches a es n → UpTo a es n
  unfolding Reaches UpTo
  upto a [] h = omega (arith, h)
  upto a (e ∷ es) h = (h.0, upto e es h.1)

  upto_le : (a : ℕ) (es : List ℕ) → UpTo a es n → a ≤ n
  unfolding UpTo
  upto_le a [] h = h
  upto_le a (e ∷ es) h = let low = h.0 in let rest = upto_le e es h.1 in omega (arith, low, rest)

  upto_take : (k a : ℕ) (es : List ℕ) → UpTo a es n → UpTo a (take k es) n
  unfolding UpTo
  upto_take zero a es h = upto_le a es h
  upto_take (suc k) a [] h = h
  upto_take (suc k) a (e ∷ es) h = (h.0, upto_take k e es h.1)

  upto_wider : (m a : ℕ) (es : List ℕ) → n ≤ m → UpTo a es n → UpTo a es m
  unfolding UpTo
  upto_wider m a [] more h = omega (arith, more, h)
  upto_wider m a (e ∷ es) more h = (h.0, upto_wider m e es more h.1)

  upto_end : (a : ℕ) (es : List ℕ) → UpTo a es n → Reaches a (es ++ n ∷ []) n
  unfolding Reaches UpTo
  upto_end a [] h = (h, refl)
  upto_end a (e ∷ es) h = (h.0, upto_end e es h.1)

  joined : (b : Bool) (k a : ℕ) (es : List ℕ) → Reaches a es n → Reaches a (cond b (take k es ++ n ∷ []) es) n
  joined true k a es h = upto_end a (take k es) (upto_take k a es (upto a es h))
  joined false k a es h = h

-- the segments of a plan have all of its events
Fits : Plan → Type 0
Fits p = Reaches 0 p.ends (length p.events)

-- a plan behind another, with these events more
Kept : Plan → List Event → Plan → Type 0
Kept p es q = Fits q × (q.events ≡ p.events ++ es)

event_fits : (p : Plan) (e : Event) → Fits p → Fits (with_event p e)
unfolding Fits
event_fits p e h =
    let n = length p.events in
    let up = upto_wider n (n + 1) 0 p.ends (omega arith) (upto n 0 p.ends h) in
    subst (Reaches 0 (p.ends ++ (n + 1) ∷ [])) (sym (length_push p.events e)) (upto_end (n + 1) 0 p.ends up)

sides_kept : (m : Message) (ss : List Side) (p : Plan) → Fits p → Kept p (map (λ s. record { message = m; side = s }) ss) (with_sides m ss p)
unfolding with_sides Kept
sides_kept m [] p h = (h, sym (append-nil p.events))
sides_kept m (s ∷ ss) p h =
    let e : Event = record { message = m; side = s } in
    let rest = sides_kept m ss (with_event p e) (event_fits p e h) in
    (rest.0, rest.1 ∙ append_assoc p.events (e ∷ []) (map (λ s. record { message = m; side = s }) ss))

both_kept : (p : Plan) (e f : Event) → Fits p → Kept p (e ∷ f ∷ []) (with_both p e f)
unfolding Kept Fits
both_kept p e f h =
    let n = length p.events in
    let up = upto_wider n (n + 2) 0 p.ends (omega arith) (upto n 0 p.ends h) in
    let many : length (p.events ++ e ∷ f ∷ []) ≡ n + 2 = length-append p.events (e ∷ f ∷ []) in
    (subst (Reaches 0 (p.ends ++ (n + 2) ∷ [])) (sym many) (upto_end (n + 2) 0 p.ends up), refl)

-- the ends of an arrow, as events
abbrev pub ends_of : Message → List Side → List Event
ends_of m ss = map (λ s. record { message = m; side = s }) ss

exchange_kept : (line : ℕ) (m : Message) (p : Plan) → Fits p → Kept p (ends_of m (exchange_sides line m)) (exchanged line m p)
unfolding Kept Fits
exchange_kept line m p h =
    elim (m.from == line) as (λ t. Kept p (ends_of m (cond t (sides.Out ∷ sides.InBack ∷ []) (cond (m.to == line) (sides.OutBack ∷ sides.In ∷ []) []))) (cond t (with_pair m sides.Out sides.InBack p) (cond (m.to == line) (with_pair m sides.OutBack sides.In p) p))) [
      | true ↦ both_kept p (record { message = m; side = sides.Out }) (record { message = m; side = sides.InBack }) h
      | false ↦ elim (m.to == line) as (λ t. Kept p (ends_of m (cond t (sides.OutBack ∷ sides.In ∷ []) [])) (cond t (with_pair m sides.OutBack sides.In p) p)) [
        | true ↦ both_kept p (record { message = m; side = sides.OutBack }) (record { message = m; side = sides.In }) h
        | false ↦ (h, sym (append-nil p.events))
      ]
    ]

met_kept : (own : Own) (line : ℕ) (m : Message) (p : Plan) → Fits p → Kept p (ends_of m (sides_on own line m)) (met own line m p)
unfolding sides_on met
met_kept own line m p h =
    elim (is_exchange m) as (λ t. Kept p (ends_of m (cond t (exchange_sides line m) (single_sides own line m))) (cond t (exchanged line m p) (with_sides m (single_sides own line m) p))) [
      | true ↦ exchange_kept line m p h
      | false ↦ sides_kept m (single_sides own line m) p h
    ]

marked_kept : (p : Plan) (f : Option Frame) → Fits p → Kept p [] (marked_last p f)
unfolding Kept Fits
marked_kept p None h = (h, sym (append-nil p.events))
marked_kept p (Some f) h = (h, sym (append-nil p.events))

ok_same : (r : Result Plan ImportFault) (p q : Plan) → r ≡ Ok p → r ≡ Ok q → p ≡ q
ok_same r p q e f = cc

kept_same : (p : Plan) (es : List Event) (r : Result Plan ImportFault) (x q : Plan) → r ≡ Ok x → r ≡ Ok q → Kept p es x → Kept p es q
kept_same p es r x q e f k = subst (Kept p es) (ok_same r x q e f) k

kept_none : (p q : Plan) → q.events ≡ p.events → Fits q → Kept p [] q
unfolding Kept
kept_none p q e h = (h, e ∙ sym (append-nil p.events))

pub without_fault : (b : Bool) (f : ImportFault) (x q : Plan) → cond b (Err f) (Ok x) ≡ Ok q → x ≡ q
without_fault true f x q e = cc
without_fault false f x q e = cc

closed_kept : (par : Par) (line : ℕ) (p : Plan) (f : Option Frame) (q : Plan) → closed_last par line p f ≡ Ok q → Fits p → Kept p [] q
unfolding Fits
closed_kept par line p None q e h = kept_same p [] (closed_last par line p None) p q refl e (kept_none p p refl h)
closed_kept par line p (Some f) q e h =
    let x : Plan = record { events = p.events; ends = joined_ends p f; frames = take (length p.frames - 1) p.frames } in
    subst (Kept p []) (without_fault (is_refused par f) (Shared f.place line) x q e) (kept_none p x refl (joined (length p.events) (is_coregion f) f.start 0 p.ends h))

module _ (manner : Manner) (line : ℕ) where
  step_kept : (s : Step) (p q : Plan) → planned manner line s p ≡ Ok q → Fits p → Kept p (ends_on manner.own line s) q
  unfolding planned Fits
  step_kept (steps.Meets m) p q e h = kept_same p _ (planned manner line (steps.Meets m) p) (met manner.own line m p) q refl e (met_kept manner.own line m p h)
  step_kept (steps.Opens text) p q e h = kept_same p [] (planned manner line (steps.Opens text) p) (opened text p) q refl e (kept_none p (opened text p) refl h)
  step_kept steps.Next p q e h = kept_same p [] (planned manner line steps.Next p) (marked_last p (last_frame p)) q refl e (marked_kept p (last_frame p) h)
  step_kept steps.Closes p q e h = closed_kept manner.par line p (last_frame p) q e h

  behind_step : (s : Step) (ss : List Step) (p q : Plan) (r : Result Plan ImportFault) → planned manner line s p ≡ r → (r >>= (λ x. plan_on manner line ss x)) ≡ Ok q → ((x : Plan) → plan_on manner line ss x ≡ Ok q → Fits x → Kept x (flat_map (ends_on manner.own line) ss) q) → Fits p → Kept p (flat_map (ends_on manner.own line) (s ∷ ss)) q
  unfolding Kept
  behind_step s ss p q (Ok x) e f rest h =
      let first = step_kept s p x e h in
      let last = rest x f first.0 in
      (last.0, last.1 ∙ ap (λ l. l ++ flat_map (ends_on manner.own line) ss) first.1 ∙ append_assoc p.events (ends_on manner.own line s) (flat_map (ends_on manner.own line) ss))
  behind_step s ss p q (Err g) e f rest h = cc

  plan_kept : (ss : List Step) (p q : Plan) → plan_on manner line ss p ≡ Ok q → Fits p → Kept p (flat_map (ends_on manner.own line) ss) q
  unfolding plan_on
  plan_kept [] p q e h = kept_same p [] (Ok p) p q refl e (kept_none p p refl h)
  plan_kept (s ∷ ss) p q e h = behind_step s ss p q (planned manner line s p) refl e (λ x f k. plan_kept ss x q f k) h

-- a segment has the events that stand in it
module _ (names : List (List ℕ)) (es : List Event) where
  item_has : (xs : List Event) → statements_in (drawn_item names xs) ≡ map (drawn_event names) xs
  unfolding drawn_item
  item_has [] = refl
  item_has (x ∷ []) = refl
  item_has (x ∷ y ∷ xs) = refl

  between_is : (start stop : ℕ) → start ≤ stop → stop ≤ length es → between es start stop ++ drop stop es ≡ drop start es
  between_is start stop low high =
      let a : nat_le start stop ≡ true = search (arith, tests) in
      let b : nat_le stop (length es) ≡ true = search (arith, tests) in
      let taken : between es start stop ≡ take (stop - start) (drop start es) = rw (a, b) refl in
      let at : start + (stop - start) ≡ stop = omega (arith, low) in
      ap (λ x. x ++ drop stop es) taken
      ∙ ap (λ x. take (stop - start) (drop start es) ++ x) (sym (drop-drop (stop - start) start es ∙ ap (λ n. drop n es) at))
      ∙ take-append-drop (stop - start) (drop start es)

  items_have : (start : ℕ) (stops : List ℕ) → Reaches start stops (length es) → flat_map statements_in (drawn_items names es start stops) ≡ map (drawn_event names) (drop start es)
  unfolding drawn_items Reaches
  items_have start [] h =
      let over : length es ≤ start = omega (arith, h) in
      ap (map (drawn_event names)) (sym (drop_all start es over))
  items_have start (stop ∷ stops) h =
      let high = upto_le (length es) stop stops (upto (length es) stop stops h.1) in
      ap (λ x. x ++ flat_map statements_in (drawn_items names es stop stops)) (item_has (between es start stop))
      ∙ ap (λ x. map (drawn_event names) (between es start stop) ++ x) (items_have stop stops h.1)
      ∙ sym (map-append (drawn_event names) (between es start stop) (drop stop es))
      ∙ ap (map (drawn_event names)) (between_is start stop h.0 high)

pub line_has : (manner : Manner) (names : List (List ℕ)) (line : ℕ) (ss : List Step) (p : Plan) → plan_on manner line ss unplanned ≡ Ok p → flat_map statements_in (drawn_items names p.events 0 p.ends) ≡ map (drawn_event names) (flat_map (ends_on manner.own line) ss)
unfolding Kept Fits Reaches
line_has manner names line ss p e =
    let kept = plan_kept manner line ss unplanned p e refl in
    items_have names p.events 0 p.ends kept.0 ∙ ap (map (drawn_event names)) kept.1

-- a line's events are the ends of the path's arrows, in their order
pub plan_events : (manner : Manner) (line : ℕ) (ss : List Step) (p : Plan) → plan_on manner line ss unplanned ≡ Ok p → p.events ≡ flat_map (ends_on manner.own line) ss
unfolding Kept Fits Reaches
plan_events manner line ss p e = (plan_kept manner line ss unplanned p e refl).1
