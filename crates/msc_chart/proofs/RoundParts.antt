-- The parts of a chart of two rounds, as they are made one by one.
use Rattle.std.proofs.Common.{◌≡◌, ℕ, zero, suc, ◌+◌, ◌<◌, ◌≤◌, Bool, true, false, cond, List, [], ◌∷◌, ◌++◌, length, get_or, map, refl, sym, ap, ◌∙◌, arith}
use Rattle.std.specs.Prelude.{Option, Some, None}
use Rattle.std.proofs.lemmas.List.{append-nil, map-append}
use Rattle.std.proofs.lemmas.List.Sums.{count_by-le-length}
use Rattle.std.specs.List.{range_with_len}
use Rattle.std.proofs.lemmas.List.FromFn.{length-map-range_with_len, get_or-map-range_with_len, map-range_with_len_more, filter_of_map_range_with_len_more, sum_by-map-range_with_len_more}
use Rattle.msc_chart.specs.declared.event.EventKind.{EventKind}
use Rattle.msc_chart.specs.declared.event.ChartEvent.{ChartEvent}
use Rattle.msc_chart.specs.declared.message.Message.{Message}
use Rattle.msc_chart.specs.declared.rounds.Rounds.{Rounds}
use Rattle.msc_chart.specs.declared.rounds.Span.{Span}
use Rattle.msc_chart.specs.Charts.{line, kind, acts, is_local, Follows, IsLinearOrder}
use Rattle.msc_chart.specs.Drawings.{Drawing, IsAccepted, label_of}
use Rattle.msc_chart.specs.Lists.{Steps}
use Rattle.msc_chart.specs.Rounds.{first_of, past_of, event_of, events_below, locals_below, count_below, repeated_event}
use Rattle.msc_chart.specs.Spans.{span_at, HasSpans, IsSpanOf}
use Rattle.msc_chart.proofs.Drawn.{local_is}
use Rattle.msc_chart.proofs.EventNumbers.{first_le, past_gt, past_le}

-- there is a span for each line
pub span_many : (r : Rounds) → HasSpans r → length r.spans.now ≡ length r.chart.now.instances
span_many r spans = ap length spans ∙ length-map-range_with_len (span_at r.chart.now.events) 0 (length r.chart.now.instances)

-- the span at the line of an event is that of its line
pub span_read : (r : Rounds) → HasSpans r → IsAccepted r.chart.now → (e i : ℕ) → e < length r.chart.now.events → i ≡ line r.chart.now.events e → (d : Span)
    → IsSpanOf r.chart.now.events e (get_or r.spans.now i d)
unfolding first_of past_of
span_read r spans accepted e i within on d =
    let events = r.chart.now.events in
    let below = accepted.on_lines.on_line e within in
    let is : get_or r.spans.now i d ≡ span_at events (line events e) =
    ap (λ (xs : List Span). get_or xs i d) spans ∙ get_or-map-range_with_len (span_at events) 0 (length r.chart.now.instances) i (line events e) d (omega arith) (omega arith) in
    let first = ap (λ (s : Span). s.first) is in
    let past = ap (λ (s : Span). s.past) is in
    let from = first_le events accepted.in_text_order e within in
    let end = past_gt events accepted.in_text_order e within in
    let most = past_le events accepted.in_text_order e in
    record {
      first = first;
      past = past;
      begun = omega (arith, first, from);
      ended = omega (arith, past, end);
      within = omega (arith, past, most);
    }

-- spans with equal parts are equal
pub same_span : {a a' b b' : ℕ} → a ≡ a' → b ≡ b'
    → ◌≡◌ {A = Span} (record { first = a; past = b }) (record { first = a'; past = b' })
same_span p q = λ i. record { first = p i; past = q i }

-- events with equal parts are equal
pub same_event : {l l' s s' p p' u u' : ℕ} {k k' : EventKind} → l ≡ l' → s ≡ s' → k ≡ k' → p ≡ p' → u ≡ u'
    → ◌≡◌ {A = ChartEvent} (record { line = l; segment = s; kind = k; partner = p; subject = u })
    (record { line = l'; segment = s'; kind = k'; partner = p'; subject = u' })
same_event a b c d e = λ i. record { line = a i; segment = b i; kind = c i; partner = d i; subject = e i }

-- so are messages
pub same_message : {n n' : List ℕ} {m m' : Option (List ℕ)} {o o' : ℕ} → n ≡ n' → m ≡ m' → o ≡ o'
    → ◌≡◌ {A = Message} (record { name = n; number = m; output = o }) (record { name = n'; number = m'; output = o' })
same_message a b c = λ i. record { name = a i; number = b i; output = c i }

-- a list that grows by one as another does
pub grown : {X : Type 0} (xs ys zs more : List X) (x t : X) → ys ≡ xs ++ x ∷ [] → xs ≡ zs → x ≡ t → more ≡ zs ++ t ∷ [] → ys ≡ more
grown xs ys zs more x t push same here next = push ∙ ap (λ l. l ++ x ∷ []) same ∙ ap (λ y. zs ++ y ∷ []) here ∙ sym next

-- a list of what stands at the numbers below k, with one more
pub range_grown : {X : Type 0} (f : ℕ → X) (k : ℕ) (xs ys : List X) (x : X) → ys ≡ xs ++ x ∷ [] → xs ≡ map f (range_with_len 0 k) → x ≡ f k
    → ys ≡ map f (range_with_len 0 (k + 1))
range_grown f k xs ys x push same here =
    grown xs ys (map f (range_with_len 0 k)) (map f (range_with_len 0 (k + 1))) x (f k) push same here (map-range_with_len_more f 0 k k (omega arith))

module _ (n : ℕ) (events : List ChartEvent) (k : ℕ) where
  -- one local event more is counted
  pub count_more : count_below n events (k + 1) ≡ count_below n events k + cond (acts (kind events (event_of n events k))) 1 0
  unfolding count_below events_below
  count_more = sum_by-map-range_with_len_more (λ (e : ℕ). cond (acts (kind events e)) 1 0) (event_of n events) 0 k k (omega arith)

  -- and listed
  pub locals_more : locals_below n events (k + 1) ≡ locals_below n events k ++ cond (acts (kind events (event_of n events k))) (event_of n events k ∷ []) []
  unfolding locals_below events_below
  locals_more = filter_of_map_range_with_len_more (λ (e : ℕ). acts (kind events e)) (event_of n events) 0 k k (omega arith)

-- none is counted below 0
pub count_zero : (n : ℕ) (events : List ChartEvent) → count_below n events 0 ≡ 0
unfolding count_below events_below
count_zero n events = refl

-- no more are counted than stand there
pub count_few : (n : ℕ) (events : List ChartEvent) (k : ℕ) → count_below n events k ≤ k
unfolding count_below events_below
count_few n events k =
    omega (
      arith,
      count_by-le-length (λ (e : ℕ). acts (kind events e)) (map (event_of n events) (range_with_len 0 k)),
      length-map-range_with_len (event_of n events) 0 k,
    )

-- the kind of an event of n rounds is that of its event
pub repeated_kind : (n m : ℕ) (events : List ChartEvent) (k : ℕ) → (repeated_event n m events k).kind ≡ kind events (event_of n events k)
unfolding repeated_event
repeated_kind n m events k = refl

module _ (d : Drawing) (k e : ℕ) (known : e < length d.events) (here : e ≡ event_of 2 d.events k) where
  -- the texts with one more, where the next event is local
  pub labels_more : is_local d.events e ≡ true
      → map (label_of d) (locals_below 2 d.events (k + 1)) ≡ map (label_of d) (locals_below 2 d.events k) ++ label_of d e ∷ []
  labels_more local =
      let acting : acts (kind d.events (event_of 2 d.events k)) ≡ true = ap (λ (x : ℕ). acts (kind d.events x)) (sym here) ∙ local_is d.events e known ∙ local in
      ap (map (label_of d)) (locals_more 2 d.events k ∙ ap (λ (b : Bool). locals_below 2 d.events k ++ cond b (event_of 2 d.events k ∷ []) []) acting)
      ∙ map-append (label_of d) (locals_below 2 d.events k) (event_of 2 d.events k ∷ [])
      ∙ ap (λ (x : ℕ). map (label_of d) (locals_below 2 d.events k) ++ label_of d x ∷ []) (sym here)

  -- and without, where it is not
  pub labels_same : is_local d.events e ≡ false
      → map (label_of d) (locals_below 2 d.events (k + 1)) ≡ map (label_of d) (locals_below 2 d.events k)
  labels_same other =
      let acting : acts (kind d.events (event_of 2 d.events k)) ≡ false = ap (λ (x : ℕ). acts (kind d.events x)) (sym here) ∙ local_is d.events e known ∙ other in
      ap (map (label_of d)) (locals_more 2 d.events k ∙ ap (λ (b : Bool). locals_below 2 d.events k ++ cond b (event_of 2 d.events k ∷ []) []) acting ∙ append-nil (locals_below 2 d.events k))

-- where a text is answered, the event is local, and the text is its own
pub label_some : {A : Type 0} (b : Bool) (r : Option A) (x t : A) → r ≡ cond b (Some t) None → r ≡ Some x → (b ≡ true) × (x ≡ t)
label_some true r x t says is = (refl, cc)
label_some false r x t says is = cc

-- where none is answered, it is not local
pub label_none : {A : Type 0} (b : Bool) (r : Option A) (t : A) → r ≡ cond b (Some t) None → r ≡ None → b ≡ false
label_none true r t says is = cc
label_none false r t says is = refl

-- each of a list of steps is an event
each_step : (events : List ChartEvent) (past order : List ℕ) → Steps (Follows events) past order → (i : ℕ) → i < length order → get_or order i 0 < length events
each_step events past [] steps i lt = absurd (omega arith)
each_step events past (x ∷ xs) steps zero lt = steps.0.event
each_step events past (x ∷ xs) steps (suc i) lt = each_step events (past ++ x ∷ []) xs steps.1 i (omega arith)

-- each of a linear order is an event
pub linear_in : (events : List ChartEvent) (order : List ℕ) → IsLinearOrder events order → (i : ℕ) → i < length order → get_or order i 0 < length events
linear_in events order linear i lt = each_step events [] order linear.steps i lt
