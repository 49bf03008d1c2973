-- The messages of a chart and their events.
use Rattle.std.proofs.Common.{◌≡◌, ℕ, ◌+◌, ◌<◌, Bool, true, false, cond, List, [], ◌∷◌, length, get_or, suc, zero, refl, sym, ap, ◌∙◌, subst, true≢false, arith, inl, inr, take}
use Rattle.std.specs.Prelude.{count_by}
use Rattle.std.proofs.lemmas.List.Sums.{sum_by-cons}
use Rattle.std.proofs.lemmas.Option.{slice_get_within}
use Rattle.msc_parser.specs.Grammar.{Tree}
use Rattle.msc_chart.specs.Building.{IsClearBelow}
use Rattle.msc_chart.specs.declared.event.EventKind.TheVariants.{Output, Input}
use Rattle.msc_chart.specs.declared.event.ChartEvent.{ChartEvent}
use Rattle.msc_chart.specs.declared.message.Message.{Message}
use Rattle.msc_chart.specs.Events.{MessageEnd, Act, is_sent, other_end, acts_of}
use Rattle.msc_chart.specs.Events.Act.{OfMessage, Action}
use Rattle.msc_chart.specs.Charts.{at, kind, partner, message, sends, is_output}
use Rattle.msc_chart.specs.Drawings.{chart_events, Drawing, no_message, output_of, HasMessages, chart_of}
use Rattle.msc_chart.specs.Charting.{end_place, output_end, outputs_before, act_kind, partner_of, subject_of, messages_from}
use Rattle.msc_chart.specs.Lists.{StandsAt}
use Rattle.msc_chart.proofs.ListLemmas.{by_test}
use Rattle.msc_chart.proofs.Places.{one_at}
use Rattle.msc_chart.proofs.Matched.{drawn_at, partner_at, place-own, chart_count, acts_count, chart_matched}
use Rattle.msc_chart.proofs.Drawn.{output_from, output_parts, output_or_input, partner_of_input}

-- how many are outputs
abbrev sent_of : List Act → ℕ
sent_of xs = count_by is_sent xs

-- an output in front is one output more
count-yes : (x : Act) (xs : List Act) → is_sent x ≡ true → sent_of (x ∷ xs) ≡ suc (sent_of xs)
count-yes x xs h = sum_by-cons (λ (y : Act). cond (is_sent y) 1 0) x xs ∙ ap (λ (b : Bool). cond b 1 0 + sent_of xs) h ∙ omega arith

-- what is none in front is none more
count-no : (x : Act) (xs : List Act) → is_sent x ≡ false → sent_of (x ∷ xs) ≡ sent_of xs
count-no x xs h = sum_by-cons (λ (y : Act). cond (is_sent y) 1 0) x xs ∙ ap (λ (b : Bool). cond b 1 0 + sent_of xs) h ∙ omega arith

-- the message of an output at place k
abbrev message_sent : ℕ → MessageEnd → Message
message_sent k x = record { name = x.key.name; number = x.key.number; output = k }

-- an output in front gives its message first
messages-yes : (k : ℕ) (x : MessageEnd) (xs : List Act) → x.sends ≡ true → messages_from k (OfMessage x ∷ xs) ≡ message_sent k x ∷ messages_from (k + 1) xs
messages-yes k x xs h = ap (λ (b : Bool). cond b (message_sent k x ∷ messages_from (k + 1) xs) (messages_from (k + 1) xs)) h

-- what is none in front gives no message
messages-no : (k : ℕ) (x : Act) (xs : List Act) → is_sent x ≡ false → messages_from k (x ∷ xs) ≡ messages_from (k + 1) xs
messages-no k (OfMessage x) xs h = ap (λ (b : Bool). cond b (message_sent k x ∷ messages_from (k + 1) xs) (messages_from (k + 1) xs)) h
messages-no k (Action text) xs h = refl

-- the messages are as many as the outputs
pub messages_count : (k : ℕ) (xs : List Act) → length (messages_from k xs) ≡ count_by is_sent xs
messages_count k [] = refl
messages_count k (OfMessage x ∷ xs) =
    by_test x.sends
    (λ sent. ap length (messages-yes k x xs sent) ∙ ap suc (messages_count (k + 1) xs) ∙ sym (count-yes (OfMessage x) xs sent))
    (λ taken. ap length (messages-no k (OfMessage x) xs taken) ∙ messages_count (k + 1) xs ∙ sym (count-no (OfMessage x) xs taken))
messages_count k (Action text ∷ xs) = messages_count (k + 1) xs ∙ sym (count-no (Action text) xs refl)

-- message m has its output at place j
pub record HasOutputAt (messages : List Message) (m j : ℕ) : Type 0 where
  pub within : m < length messages
  pub output : (get_or messages m no_message).output ≡ j

-- one message more in front
later : (messages : List Message) (x : Message) (m j : ℕ) → HasOutputAt messages m j → HasOutputAt (x ∷ messages) (suc m) j
later messages x m j h = record { within = omega (arith, h.within); output = h.output }

-- what is none in front leaves message m where it is
none_more : (k : ℕ) (y : Act) (ys : List Act) (j : ℕ) → is_sent y ≡ false → HasOutputAt (messages_from (k + 1) ys) (outputs_before ys j) (k + suc j)
    → HasOutputAt (messages_from k (y ∷ ys)) (outputs_before (y ∷ ys) (suc j)) (k + suc j)
none_more k y ys j none here =
    subst (λ (n : ℕ). HasOutputAt (messages_from k (y ∷ ys)) n (k + suc j)) (sym (count-no y (take j ys) none))
    (subst (λ (l : List Message). HasOutputAt l (outputs_before ys j) (k + suc j)) (sym (messages-no k y ys none)) here)

-- an output has its message, at the number of outputs before it
pub message_back : (k : ℕ) (xs : List Act) (j : ℕ) (x : MessageEnd) → StandsAt xs j (OfMessage x) → x.sends ≡ true → HasOutputAt (messages_from k xs) (outputs_before xs j) (k + j)
message_back k [] j x h sent = cc
message_back k (OfMessage y ∷ ys) zero x h sent =
    let same : OfMessage y ≡ OfMessage x = cc in
    let first : y.sends ≡ true = ap is_sent same ∙ sent in
    subst (λ (l : List Message). HasOutputAt l 0 (k + 0)) (sym (messages-yes k y ys first)) (record { within = omega arith; output = omega arith })
message_back k (Action text ∷ ys) zero x h sent = cc
message_back k (OfMessage y ∷ ys) (suc j) x h sent =
    let rest = message_back (k + 1) ys j x h sent in
    let place : (k + 1) + j ≡ k + suc j = omega arith in
    let here : HasOutputAt (messages_from (k + 1) ys) (outputs_before ys j) (k + suc j) = subst (λ (p : ℕ). HasOutputAt (messages_from (k + 1) ys) (outputs_before ys j) p) place rest in
    by_test y.sends
    (λ first.
    subst (λ (n : ℕ). HasOutputAt (messages_from k (OfMessage y ∷ ys)) n (k + suc j)) (sym (count-yes (OfMessage y) (take j ys) first))
    (subst (λ (l : List Message). HasOutputAt l (suc (outputs_before ys j)) (k + suc j)) (sym (messages-yes k y ys first)) (later _ _ _ _ here)))
    (λ first. none_more k (OfMessage y) ys j first here)
message_back k (Action text ∷ ys) (suc j) x h sent =
    let rest = message_back (k + 1) ys j x h sent in
    let place : (k + 1) + j ≡ k + suc j = omega arith in
    none_more k (Action text) ys j refl (subst (λ (p : ℕ). HasOutputAt (messages_from (k + 1) ys) (outputs_before ys j) p) place rest)

-- message m is that of the output at a place
pub record IsMessageOf (k : ℕ) (xs : List Act) (messages : List Message) (m : ℕ) : Type 0 where
  pub place : ℕ
  pub end : MessageEnd
  pub stands : StandsAt xs place (OfMessage end)
  pub sent : end.sends ≡ true
  pub count : outputs_before xs place ≡ m
  pub output : (get_or messages m no_message).output ≡ k + place

-- what is none in front moves it by one place
moved : (k : ℕ) (y : Act) (ys : List Act) (m : ℕ) → is_sent y ≡ false → IsMessageOf (k + 1) ys (messages_from (k + 1) ys) m → IsMessageOf k (y ∷ ys) (messages_from k (y ∷ ys)) m
moved k y ys m none r =
    let o = r.output in
    subst (λ (l : List Message). IsMessageOf k (y ∷ ys) l m) (sym (messages-no k y ys none))
    (record { place = suc r.place; end = r.end; stands = r.stands; sent = r.sent; count = count-no y (take r.place ys) none ∙ r.count; output = o ∙ omega arith })

-- and each message has its output
pub message_own : (k : ℕ) (xs : List Act) (m : ℕ) → m < length (messages_from k xs) → IsMessageOf k xs (messages_from k xs) m
message_own k [] m below = absurd (omega arith)
message_own k (Action text ∷ ys) m below = moved k (Action text) ys m refl (message_own (k + 1) ys m below)
message_own k (OfMessage y ∷ ys) m below =
    by_test y.sends
    (λ sent.
    subst (λ (l : List Message). IsMessageOf k (OfMessage y ∷ ys) l m) (sym (messages-yes k y ys sent))
    (first k y ys (λ n lt. message_own (k + 1) ys n lt) m sent (subst (λ (l : List Message). m < length l) (messages-yes k y ys sent) below)))
    (λ taken. moved k (OfMessage y) ys m taken (message_own (k + 1) ys m (subst (λ (l : List Message). m < length l) (messages-no k (OfMessage y) ys taken) below)))
  where
    -- the first message is that of the output in front, and the others come behind it
    first : (k : ℕ) (y : MessageEnd) (ys : List Act) → ((n : ℕ) → n < length (messages_from (k + 1) ys) → IsMessageOf (k + 1) ys (messages_from (k + 1) ys) n)
        → (m : ℕ) → y.sends ≡ true → m < suc (length (messages_from (k + 1) ys)) → IsMessageOf k (OfMessage y ∷ ys) (message_sent k y ∷ messages_from (k + 1) ys) m
    first k y ys rest zero sent lt = record { place = 0; end = y; stands = refl; sent = sent; count = refl; output = omega arith }
    first k y ys rest (suc m) sent lt =
        let r = rest m (omega arith) in
        record { place = suc r.place; end = r.end; stands = r.stands; sent = r.sent; count = count-yes (OfMessage y) (take r.place ys) sent ∙ ap suc r.count; output = r.output ∙ omega arith }

-- the output of an output's message is itself
output_same : (x : MessageEnd) → x.sends ≡ true → output_end x ≡ x
output_same x h = λ i. record { sends = sym h i; key = x.key }

module _ (d : Tree) (clear : IsClearBelow d 10) where
  -- the chart of the draft, under a short name
  chart : Drawing
  chart = chart_of d

  -- the end of an output
  sent_end : (e : ℕ) (a : Act) → StandsAt (acts_of d) e a → sends (act_kind a) ≡ true → (x : MessageEnd) × StandsAt (acts_of d) e (OfMessage x) × (x.sends ≡ true) × (a ≡ OfMessage x)
  sent_end e (OfMessage x) here sent = (x, here, by x.sends sent, refl)
    where
      -- of the two kinds of end only an output sends
      by : (b : Bool) → sends (cond b Output Input) ≡ true → b ≡ true
      by true h = refl
      by false h = h
  sent_end e (Action text) here sent = absurd (true≢false (sym sent))

  -- the event at a place, as an end
  sent_at : (e : ℕ) → is_output (chart_events d) e ≡ true
      → (x : MessageEnd) × StandsAt (acts_of d) e (OfMessage x) × (x.sends ≡ true) × ((at (chart_events d) e).subject ≡ subject_of (acts_of d) e (OfMessage x))
  unfolding kind
  sent_at e o =
      let p = output_parts (chart_events d) e o in
      let x = drawn_at d e p.0 in
      let r = sent_end e x.0.act x.2 (sym (ap (λ (v : ChartEvent). sends v.kind) x.3) ∙ p.1) in
      (r.0, r.1, r.2, ap (λ (v : ChartEvent). v.subject) x.3 ∙ ap (subject_of (acts_of d) e) r.3)

  -- an output's message is numbered by the outputs before it
  sent_message : (e : ℕ) → is_output (chart_events d) e ≡ true → message (chart_events d) e ≡ outputs_before (acts_of d) e
  unfolding message
  sent_message e o =
      let x = sent_at e o in
      x.3
      ∙ ap (λ (end : MessageEnd). outputs_before (acts_of d) (end_place (acts_of d) end)) (output_same x.0 x.2)
      ∙ ap (outputs_before (acts_of d)) (place-own d clear e x.0 x.1)

  -- both ends of a message are about it, and a local event is its own partner
  shared_by : (e : ℕ) (a : Act) → StandsAt (acts_of d) e a → (at (chart_events d) e).subject ≡ subject_of (acts_of d) e a
      → (at (chart_events d) (partner_of (acts_of d) e a)).subject ≡ (at (chart_events d) e).subject
  shared_by e (OfMessage x) here same =
      let y = (partner_at d clear e x here).1 in
      ap (λ (v : ChartEvent). v.subject) y.1
      ∙ ap (subject_of (acts_of d) (end_place (acts_of d) (other_end x))) y.2
      ∙ sym same
  shared_by e (Action text) here same = refl

  -- so partners are about one message
  shares : (e : ℕ) → e < length (chart_events d) → message (chart_events d) (partner (chart_events d) e) ≡ message (chart_events d) e
  unfolding message partner
  shares e within =
      let x = drawn_at d e within in
      ap (λ (v : ChartEvent). (at (chart_events d) v.partner).subject) x.3
      ∙ shared_by e x.0.act x.2 (ap (λ (v : ChartEvent). v.subject) x.3)

  -- an output's message is a message of the chart, and its output is that event
  sent_back : (e : ℕ) → is_output (chart_events d) e ≡ true
      → (message (chart_events d) e < length (messages_from 0 (acts_of d))) × (output_of chart (message (chart_events d) e) ≡ e)
  unfolding output_of chart
  sent_back e o =
      let x = sent_at e o in
      let m = message_back 0 (acts_of d) e x.0 x.1 x.2 in
      rw (sent_message e o) (m.within, m.output ∙ omega arith)

  -- the output of a message
  own_output : (m : ℕ) → m < length (messages_from 0 (acts_of d))
      → (is_output (chart_events d) (output_of chart m) ≡ true) × (outputs_before (acts_of d) (output_of chart m) ≡ m)
  unfolding output_of chart kind
  own_output m below =
      let r = message_own 0 (acts_of d) m below in
      let n = chart_count d in
      let k = acts_count d in
      let lt : r.place < length (acts_of d) = slice_get_within (acts_of d) r.place (OfMessage r.end) r.stands in
      let within : r.place < length (chart_events d) = omega arith in
      let x = drawn_at d r.place within in
      let same : x.0.act ≡ OfMessage r.end = one_at (acts_of d) r.place x.0.act (OfMessage r.end) x.2 r.stands in
      let output : output_of chart m ≡ r.place = r.output ∙ omega arith in
      rw output (
        output_from (chart_events d) r.place within
            (ap (λ (v : ChartEvent). sends v.kind) x.3 ∙ ap (λ (a : Act). sends (act_kind a)) same ∙ ap (λ (b : Bool). sends (cond b Output Input)) r.sent),
        r.count,
      )

  -- each message has its output and its input among the events, and each event has its message
  pub chart_messages : HasMessages (chart_of d)
  unfolding chart
  chart_messages =
      let matched = chart_matched d clear in
      record {
        output = λ m below. (own_output m below).0;
        own = λ m below. let o = own_output m below in sent_message (output_of (chart_of d) m) o.0 ∙ o.1;
        known = λ e within away.
            elim (output_or_input (chart_events d) e within away) [
              | inl o ↦ (sent_back e o).0
              | inr i ↦ rw (← shares e within) (sent_back (partner (chart_events d) e) (partner_of_input (chart_events d) matched e i)).0
            ];
        back = λ e o. (sent_back e o).1;
        shared = shares;
      }
