-- The laws that say what the events of several rounds are.
use Rattle.std.proofs.Common.{◌≡◌, ℕ, zero, suc, ◌+◌, ◌*◌, ◌/◌, ◌<◌, ◌≤◌, Bool, true, cond, List, [], ◌∷◌, length, get_or, map, filter, take, sym, ap, subst, ◌∙◌, arith}
use Rattle.std.specs.Prelude.{count_by}
use Rattle.std.specs.List.{range_with_len}
use Rattle.std.proofs.Math.Nat.{mul-le-mul_right, suc-mul}
use Rattle.std.proofs.lemmas.Nat.{div-mul-add, mod-mul-add}
use Rattle.std.proofs.lemmas.List.{get_or-map}
use Rattle.std.proofs.lemmas.List.FromFn.{length-map-range_with_len, get_or-map-range_with_len, take-map-range_with_len}
use Rattle.std.proofs.lemmas.List.Sums.{sum_by-cons}
use Rattle.msc_chart.specs.declared.queue.LinkKind.TheVariants.{Single}
use Rattle.msc_chart.specs.declared.queue.Queues.TheVariants.{Uniform}
use Rattle.msc_chart.specs.Charts.{line, kind, partner, message, action, acts, is_local}
use Rattle.msc_chart.specs.Drawings.{Drawing, label_of, message_at, no_message}
use Rattle.msc_chart.specs.Rounds.{number_of, event_of, round_of, events_below, locals_below, count_below, message_in, repeated_message, repeated}
use Rattle.msc_chart.specs.RoundLaws.{in_round, EachEventIsInOneRound, EachEventIsInEachRound, LinesAreDoneRoundByRound, EventsStayAsTheyAre, MessagesAreOfOneRound, TextsStayAsTheyAre, NamesStayAsTheyAre}
use Rattle.msc_chart.proofs.ListLemmas.{by_test}
use Rattle.msc_chart.proofs.Drawn.{local_is}
use Rattle.msc_chart.proofs.EventNumbers.{number_in, event_in}
use Rattle.msc_chart.proofs.RoundEvents.{line_is, kind_is, partner_is}
use Rattle.msc_chart.proofs.RoundMessages.{message_of_round, action_of_round}
use Rattle.msc_chart.proofs.RoundRaces.{event_here, round_here, number_here, above_here, drawn_here, event_round}

-- what passes stands in a filter behind as many as pass before it
filter_at : {X : Type 0} (p : X → Bool) (xs : List X) (k : ℕ) (d : X) → k < length xs → p (get_or xs k d) ≡ true
    → (count_by p (take k xs) < length (filter p xs)) × (get_or (filter p xs) (count_by p (take k xs)) d ≡ get_or xs k d)
filter_at p [] k d lt h = absurd (omega arith)
filter_at p (x ∷ xs) zero d lt h =
    let is = ap (λ (b : Bool). cond b (x ∷ filter p xs) (filter p xs)) h in
    (subst (λ l. 0 < length l) (sym is) (omega arith), ap (λ l. get_or l 0 d) is)
filter_at p (x ∷ xs) (suc k) d lt h =
    let rest = filter_at p xs k d (omega arith) h in
    let more = sum_by-cons (λ y. cond {A = ℕ} (p y) 1 0) x (take k xs) in
    by_test (p x)
    (λ passes.
    let is = ap (λ (b : Bool). cond b (x ∷ filter p xs) (filter p xs)) passes in
    let count : count_by p (take (suc k) (x ∷ xs)) ≡ suc (count_by p (take k xs)) = (let one = ap (λ (b : Bool). cond {A = ℕ} b 1 0) passes in omega (arith, more, one)) in
    let low = rest.0 in (
      subst (λ l. count_by p (take (suc k) (x ∷ xs)) < length l) (sym is) (omega (arith, count, low)),
      ap (λ l. get_or l (count_by p (take (suc k) (x ∷ xs))) d) is ∙ ap (λ (i : ℕ). get_or (x ∷ filter p xs) i d) count ∙ rest.1,
    ))
    (λ fails.
    let is = ap (λ (b : Bool). cond b (x ∷ filter p xs) (filter p xs)) fails in
    let count : count_by p (take (suc k) (x ∷ xs)) ≡ count_by p (take k xs) = (let none = ap (λ (b : Bool). cond {A = ℕ} b 1 0) fails in omega (arith, more, none)) in
    let low = rest.0 in (
      subst (λ l. count_by p (take (suc k) (x ∷ xs)) < length l) (sym is) (omega (arith, count, low)),
      ap (λ l. get_or l (count_by p (take (suc k) (x ∷ xs))) d) is ∙ ap (λ (i : ℕ). get_or (filter p xs) i d) count ∙ rest.1,
    ))

-- so the text of a local event of n rounds stands behind those of the local events before it
label_at : (n : ℕ) (d : Drawing) (k : ℕ) → k < n * length d.events → acts (kind d.events (event_of n d.events k)) ≡ true
    → get_or (repeated n d).actions (count_below n d.events k) [] ≡ label_of d (event_of n d.events k)
unfolding count_below locals_below events_below
label_at n d k within acting =
    let p = λ (e : ℕ). acts (kind d.events e) in
    let all = map (event_of n d.events) (range_with_len 0 (n * length d.events)) in
    let here : get_or all k 0 ≡ event_of n d.events k = get_or-map-range_with_len (event_of n d.events) 0 (n * length d.events) k k 0 within (omega arith) in
    let long = length-map-range_with_len (event_of n d.events) 0 (n * length d.events) in
    let front = take-map-range_with_len (event_of n d.events) 0 (n * length d.events) k (omega arith) in
    let found = filter_at p all k 0 (omega (arith, long)) (ap p here ∙ acting) in
    let place : count_by p (map (event_of n d.events) (range_with_len 0 k)) ≡ count_by p (take k all) = ap (count_by p) (sym front) in
    let low = found.0 in
    ap (λ (i : ℕ). get_or (map (label_of d) (filter p all)) i []) place
    ∙ get_or-map (label_of d) (filter p all) (count_by p (take k all)) 0 [] low
    ∙ ap (label_of d) (found.1 ∙ here)

-- each event of n rounds is in one round
pub in_one_round : EachEventIsInOneRound
in_one_round n d k accepted within = event_round (Uniform Single) d accepted n k within

-- and each event of the chart in each round
pub in_each_round : EachEventIsInEachRound
in_each_round n d e r accepted is = (number_here d accepted n e r is, event_here d accepted n e r is, round_here d accepted n e r is)

-- lines are done round by round
pub round_by_round : LinesAreDoneRoundByRound
round_by_round n d e r f q accepted a b = (above_here (Uniform Single) d accepted n e r f q a b, drawn_here (Uniform Single) d accepted n e r f q a b)

-- events stay as they are
pub stay_as_they_are : EventsStayAsTheyAre
stay_as_they_are n d e r accepted is =
    let within = number_in d.events accepted.in_text_order n e r is.0 is.1 in
    let event = event_here d accepted n e r is in
    let k = in_round n d e r in (
      line_is n (length d.messages) d.events k within ∙ ap (line d.events) event,
      kind_is n (length d.messages) d.events k within ∙ ap (kind d.events) event,
      partner_is n (length d.messages) d.events k within
          ∙ ap (λ (x : ℕ). number_of n d.events (partner d.events x) (round_of n d.events k)) event
          ∙ ap (number_of n d.events (partner d.events e)) (round_here d accepted n e r is),
    )

-- messages are of one round
pub of_one_round : MessagesAreOfOneRound
of_one_round n d e r accepted is away =
    let within = number_in d.events accepted.in_text_order n e r is.0 is.1 in
    let event = event_here d accepted n e r is in
    let k = in_round n d e r in
    message_of_round n d accepted k within (ap (is_local d.events) event ∙ away)
    ∙ ap (λ (x : ℕ). round_of n d.events k * length d.messages + message d.events x) event
    ∙ ap (λ (x : ℕ). x * length d.messages + message d.events e) (round_here d accepted n e r is)

-- an action has its text in each round
pub texts_stay : TextsStayAsTheyAre
unfolding label_of
texts_stay n d e r accepted is local =
    let k = in_round n d e r in
    let within = number_in d.events accepted.in_text_order n e r is.0 is.1 in
    let event = event_here d accepted n e r is in
    let here : is_local d.events (event_of n d.events k) ≡ true = ap (is_local d.events) event ∙ local in
    ap (λ (i : ℕ). get_or (repeated n d).actions i []) (action_of_round n d accepted k within here)
    ∙ label_at n d k within (local_is d.events (event_of n d.events k) (event_in d.events accepted.in_text_order n k within) ∙ here)
    ∙ ap (λ (x : ℕ). get_or d.actions (action d.events x) []) event

-- a message has its names in each round
pub names_stay : NamesStayAsTheyAre
unfolding repeated_message
names_stay n d m r accepted known round =
    let count = length d.messages in
    let rows : suc r * count ≤ n * count = mul-le-mul_right count round in
    let within : r * count + m < n * count = omega (arith, known, rows, suc-mul r count) in
    get_or-map-range_with_len (repeated_message n d) 0 (n * count) (r * count + m) (r * count + m) no_message within (omega arith)
    ∙ ap (λ (x : ℕ). message_in n d.events (message_at d x) ((r * count + m) / count)) (mod-mul-add r count m known)
    ∙ ap (λ (x : ℕ). message_in n d.events (message_at d m) x) (div-mul-add r count m known)
