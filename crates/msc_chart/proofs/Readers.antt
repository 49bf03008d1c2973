-- What the readers of a chart read.
use Rattle.std.proofs.Common.{◌≡◌, ℕ, suc, ◌+◌, ◌*◌, ◌<◌, ◌≤◌, List, [], length, get_or, refl, sym, ap, ◌∙◌, subst, arith}
use Rattle.std.proofs.Math.Nat.{mul-le-mul_right, suc-mul}
use Rattle.std.proofs.lemmas.Option.{get_or_from_slice_get, slice_get_read}
use Rattle.msc_chart.specs.declared.TheConstants.{INSTANCE_LIMIT}
use Rattle.msc_chart.specs.declared.event.ChartEvent.{ChartEvent}
use Rattle.msc_chart.specs.declared.message.Message.{Message}
use Rattle.msc_chart.specs.Charts.{at, no_event}
use Rattle.msc_chart.specs.Drawings.{Drawing, IsAccepted, no_message, message_at, output_of, input_of, sender_of, receiver_of}
use Rattle.msc_chart.proofs.Drawn.{output_parts}

-- the events of a message are events of the chart, and its instances are instances of the chart
module _ (d : Drawing) (accepted : IsAccepted d) (m : ℕ) (known : m < length d.messages) where
  -- its output is an event of the chart
  pub output_in : output_of d m < length d.events
  output_in = (output_parts d.events (output_of d m) (accepted.has_messages.output m known)).0

  -- so is its input
  pub input_in : input_of d m < length d.events
  unfolding input_of
  input_in = accepted.matched.in_range (output_of d m) output_in

  -- its sender is an instance of the chart
  pub sender_in : sender_of d m < length d.instances
  unfolding sender_of
  sender_in = accepted.on_lines.on_line (output_of d m) output_in

  -- so is its receiver
  pub receiver_in : receiver_of d m < length d.instances
  unfolding receiver_of
  receiver_in = accepted.on_lines.on_line (input_of d m) input_in

-- what is read at a place of a list is what stands there
pub read_at : (xs ys : List ChartEvent) (i : ℕ) (x : ChartEvent) → xs ≡ ys → i < length ys → x ≡ get_or xs i x → x ≡ at ys i
read_at xs ys i x same within here =
    let e : x ≡ get_or ys i x = here ∙ ap (λ zs. get_or zs i x) same in
    sym (get_or_from_slice_get ys i x no_event (slice_get_read ys (length ys) i x refl within e))

-- the same of a chart, seen from inside and outside
module _ (inside now : Drawing) (view : inside ≡ now) where
  -- what holds of every chart holds as seen from outside
  pub seen_accepted : IsAccepted inside → IsAccepted now
  seen_accepted a = subst IsAccepted view a

  -- an event as seen from outside is one inside
  pub seen_within : (i e : ℕ) → i ≡ e → e < length now.events → i < length inside.events
  seen_within i e same below = let n = ap (λ (d : Drawing). length d.events) view in omega arith

  -- the event that is read inside is the one that is seen outside
  pub seen_at : (i e : ℕ) (x : ChartEvent) → i ≡ e → e < length now.events → x ≡ get_or inside.events i x → x ≡ at now.events e
  seen_at i e x same below here =
      read_at inside.events now.events e x (ap (λ (d : Drawing). d.events) view) below (here ∙ ap (λ (j : ℕ). get_or inside.events j x) same)

-- the same of its messages
pub seen_message : (inside now : Drawing) → inside ≡ now → (slice : List Message) → slice ≡ inside.messages
    → (m : ℕ) (x : Message) → m < length now.messages → x ≡ get_or slice m x → x ≡ message_at now m
seen_message inside now view slice same m x below here =
    let messages : slice ≡ now.messages = same ∙ ap (λ (d : Drawing). d.messages) view in
    let e : x ≡ get_or now.messages m x = here ∙ ap (λ (l : List Message). get_or l m x) messages in
    sym (get_or_from_slice_get now.messages m x no_message (slice_get_read now.messages (length now.messages) m x refl below e))

-- the same of its texts
pub seen_text : (inside now : Drawing) → inside ≡ now → (slice : List (List ℕ)) → slice ≡ inside.actions
    → (i k : ℕ) (x : List ℕ) → i ≡ k → k < length now.actions → x ≡ get_or slice i x → x ≡ get_or now.actions k []
seen_text inside now view slice same i k x number below here =
    let texts : slice ≡ now.actions = same ∙ ap (λ (d : Drawing). d.actions) view in
    let e : x ≡ get_or now.actions k x = here ∙ ap (λ (l : List (List ℕ)). get_or l i x) texts ∙ ap (λ (j : ℕ). get_or now.actions j x) number in
    sym (get_or_from_slice_get now.actions k x [] (slice_get_read now.actions (length now.actions) k x refl below e))

-- queue numbers are small
pub small_queue : (s n r : ℕ) → s < n → r < n → n ≤ INSTANCE_LIMIT → s * n + r < INSTANCE_LIMIT * INSTANCE_LIMIT
small_queue s n r sender receiver few =
    let one_more : suc s * n ≤ n * n = mul-le-mul_right n sender in
    let most : n * n ≤ INSTANCE_LIMIT * n = mul-le-mul_right n few in
    omega (arith, suc-mul s n, one_more, most)
