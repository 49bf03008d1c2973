-- How claims and clocks grow with a log, one event at a time.
use Rattle.std.proofs.Common.{◌≡◌, ℕ, ◌+◌, max, Bool, true, false, cond, List, [], ◌∷◌, ◌++◌, map, filter, length, refl, ap, ◌∙◌, subst, arith}
use Rattle.std.specs.Prelude.{nat_eq}
use Rattle.std.proofs.lemmas.Bool.{eq-eqb, eqb-true, ne_eqb}
use Rattle.std.proofs.lemmas.List.{append-nil}
use Rattle.std.proofs.lemmas.List.Elements.{filter-append}
use Rattle.msc_chart.specs.Lists.{occurs, until}
use Rattle.msc_chart.specs.Charts.{message, is_output, is_input}
use Rattle.msc_chart.specs.Drawings.{Drawing}
use Rattle.msc_chart.specs.Orders.{queue_of}
use Rattle.msc_chart.proofs.ListLemmas.{clash, by_test, until-append, until-within, occurs-head, occurs-tail}
use Rattle.msc_gather.proofs.Once.{until-new}
use Rattle.msc_fifo.specs.declared.entry.Entry.{Entry}
use Rattle.msc_fifo.specs.declared.entry.Entry.TheVariants.{Message, Ended}
use Rattle.msc_fifo.specs.Claims.{claim}
use Rattle.msc_execution.specs.Roles.{Role}
use Rattle.msc_execution.specs.Logs.{Reading, clock_next, along_from, clock_along, outputs_at, inputs_at, outputs, inputs}
use Rattle.msc_execution.specs.Growth.{clocks_at, claim_at}
use Rattle.msc_execution.proofs.Lists.Words.{passes, fails}
use Rattle.msc_execution.proofs.Wiring.Growing.{agree}

-- the same reading, but that clock n and place k are read at event e
abbrev pub with_event : ℕ → ℕ → ℕ → Reading → Reading
with_event e k n r = record {
  read_at = λ x. cond (nat_eq x e) n (r.read_at x);
  place_at = λ x. cond (nat_eq x e) k (r.place_at x);
}

-- two functions of clocks that agree on a list give one clock along it
pub one_clock : (d : Drawing) (f g : ℕ → ℕ) (c : ℕ) (log : List ℕ)
    → ((e : ℕ) → occurs log e ≡ true → f e ≡ g e) → along_from d f c log ≡ along_from d g c log
unfolding along_from clock_next
one_clock d f g c [] same = refl
one_clock d f g c (e ∷ es) same =
    ap (λ (n : ℕ). along_from d f
    (cond (is_output d.events e) n (cond (is_input d.events e) (max c n) c)) es)
    (same e (occurs-head e es))
    ∙ one_clock d f g (clock_next d g c e) es (λ x there. same x (occurs-tail e es x there))

-- of the new event the new clock and place are read
pub event_own : (e k n : ℕ) (r : Reading)
    → ((with_event e k n r).read_at e ≡ n) × ((with_event e k n r).place_at e ≡ k)
event_own e k n r = (
  ap (λ (b : Bool). cond b n (r.read_at e)) (eq-eqb e e refl),
  ap (λ (b : Bool). cond b k (r.place_at e)) (eq-eqb e e refl),
)

-- and of another event what was read before
pub event_other : (e k n : ℕ) (r : Reading) (x : ℕ) → (x ≡ e → ⊥)
    → ((with_event e k n r).read_at x ≡ r.read_at x) × ((with_event e k n r).place_at x ≡ r.place_at x)
event_other e k n r x other = (
  ap (λ (b : Bool). cond b n (r.read_at x)) (ne_eqb x e other),
  ap (λ (b : Bool). cond b k (r.place_at x)) (ne_eqb x e other),
)

-- what occurs in a list is not a new event
not_new : (log : List ℕ) (e x : ℕ) → occurs log e ≡ false → occurs log x ≡ true → x ≡ e → ⊥
not_new log e x new there same = clash (subst (λ (z : ℕ). occurs log z ≡ true) same there) new

-- the clock along a list goes on with its last event
along_push : (d : Drawing) (f : ℕ → ℕ) (c : ℕ) (log : List ℕ) (e : ℕ)
    → along_from d f c (log ++ e ∷ []) ≡ clock_next d f (along_from d f c log) e
unfolding along_from
along_push d f c [] e = refl
along_push d f c (x ∷ log) e = along_push d f (clock_next d f c x) log e

-- the clock along a log with one event more
pub clock_pushed : (d : Drawing) (r : Reading) (log : List ℕ) (e k n : ℕ) → occurs log e ≡ false
    → clock_along d (with_event e k n r).read_at (log ++ e ∷ [])
    ≡ cond (is_output d.events e) n
    (cond (is_input d.events e) (max (clock_along d r.read_at log) n) (clock_along d r.read_at log))
unfolding clock_next
clock_pushed d r log e k n new =
    let own = (event_own e k n r).0 in
    let before : clock_along d (with_event e k n r).read_at log ≡ clock_along d r.read_at log =
    one_clock d (with_event e k n r).read_at r.read_at 0 log
    (λ x there. (event_other e k n r x (not_new log e x new there)).0) in
    along_push d (with_event e k n r).read_at 0 log e
    ∙ (λ j. cond (is_output d.events e) (own j)
    (cond (is_input d.events e) (max (before j) (own j)) (before j)))

-- values of a list with one more at its end
pub map_push : {B : Type 0} (f : ℕ → B) (xs : List ℕ) (x : ℕ) → map f (xs ++ x ∷ []) ≡ map f xs ++ f x ∷ []
map_push f [] x = refl
map_push f (y ∷ xs) x = ap (λ l. f y ∷ l) (map_push f xs x)

-- what passes at the end of a list is kept
pub filter_yes : (p : ℕ → Bool) (xs : List ℕ) (e : ℕ) → p e ≡ true
    → filter p (xs ++ e ∷ []) ≡ filter p xs ++ e ∷ []
filter_yes p xs e h = filter-append p xs (e ∷ []) ∙ ap (λ (b : Bool). filter p xs ++ cond b (e ∷ []) []) h

-- and what fails there is not
pub filter_no : (p : ℕ → Bool) (xs : List ℕ) (e : ℕ) → p e ≡ false → filter p (xs ++ e ∷ []) ≡ filter p xs
filter_no p xs e h = filter-append p xs (e ∷ [])
    ∙ ap (λ (b : Bool). filter p xs ++ cond b (e ∷ []) []) h ∙ append-nil (filter p xs)

module _ (p q : ℕ → Bool) (xs : List ℕ) (e : ℕ) where
  -- one number more that passes two tests
  both_pass : p e ≡ true → q e ≡ true → filter q (filter p (xs ++ e ∷ [])) ≡ filter q (filter p xs) ++ e ∷ []
  both_pass first second = ap (filter q) (filter_yes p xs e first) ∙ filter_yes q (filter p xs) e second

  -- and one that fails one of them
  one_fails : (p e ≡ true → q e ≡ true → ⊥) → filter q (filter p (xs ++ e ∷ [])) ≡ filter q (filter p xs)
  one_fails not_both =
      by_test (p e)
      (λ first. ap (filter q) (filter_yes p xs e first)
      ∙ filter_no q (filter p xs) e (fails (q e) (λ second. not_both first second)))
      (λ none. ap (filter q) (filter_no p xs e none))

-- the outputs to a queue and the inputs from it, with one event more
module _ (r : Role) (log : List ℕ) (e q : ℕ) where
  -- the message of the event is in the queue
  abbrev in_queue : ℕ → Bool
  in_queue x = nat_eq (queue_of r.queues r.chart (message r.chart.events x)) q

  -- an output to the queue comes behind the others
  pub outputs_more : is_output r.chart.events e ≡ true
      → queue_of r.queues r.chart (message r.chart.events e) ≡ q
      → outputs_at r.queues r.chart q (log ++ e ∷ []) ≡ outputs_at r.queues r.chart q log ++ e ∷ []
  outputs_more output here = both_pass (is_output r.chart.events) in_queue log e output (eq-eqb _ _ here)

  -- any other event is none of them
  pub outputs_same : (is_output r.chart.events e ≡ true
      → queue_of r.queues r.chart (message r.chart.events e) ≡ q → ⊥)
      → outputs_at r.queues r.chart q (log ++ e ∷ []) ≡ outputs_at r.queues r.chart q log
  outputs_same other = one_fails (is_output r.chart.events) in_queue log e (λ output there. other output (eqb-true _ _ there))

  -- an input from the queue comes behind the others
  pub inputs_more : is_input r.chart.events e ≡ true
      → queue_of r.queues r.chart (message r.chart.events e) ≡ q
      → inputs_at r.queues r.chart q (log ++ e ∷ []) ≡ inputs_at r.queues r.chart q log ++ e ∷ []
  inputs_more input here = both_pass (is_input r.chart.events) in_queue log e input (eq-eqb _ _ here)

  -- and any other event is none of them
  pub inputs_same : (is_input r.chart.events e ≡ true
      → queue_of r.queues r.chart (message r.chart.events e) ≡ q → ⊥)
      → inputs_at r.queues r.chart q (log ++ e ∷ []) ≡ inputs_at r.queues r.chart q log
  inputs_same other = one_fails (is_input r.chart.events) in_queue log e (λ input there. other input (eqb-true _ _ there))

module _ (r : Role) (reading : Reading) (log : List ℕ) (e k n : ℕ) (new : occurs log e ≡ false)
    (sender q : ℕ) where
  -- the claims of earlier outputs stay
  claim_same : (s : ℕ) → occurs log s ≡ true
      → claim_at r (log ++ e ∷ []) (with_event e k n reading) sender s ≡ claim_at r log reading sender s
  claim_same s there =
      let other = event_other e k n reading s (not_new log e s new there) in
      let past : until (log ++ e ∷ []) s ≡ until log s = until-append log (e ∷ []) s there in
      let clock : clock_along r.chart (with_event e k n reading).read_at (until (log ++ e ∷ []) s)
      ≡ clock_along r.chart reading.read_at (until log s) =
      ap (clock_along r.chart (with_event e k n reading).read_at) past
      ∙ one_clock r.chart (with_event e k n reading).read_at reading.read_at 0 (until log s)
      (λ x h. (event_other e k n reading x (not_new log e x new (until-within log s x h))).0) in
      λ j. claim (other.1 j) (Message sender (message r.chart.events s)) (clock j + 1) (other.0 j)

  -- the outputs to the queue are in the log
  in_outputs : (s : ℕ) → occurs (outputs_at r.queues r.chart q log) s ≡ true → occurs log s ≡ true
  in_outputs s h =
      (passes (is_output r.chart.events) log s
      (passes (λ x. nat_eq (queue_of r.queues r.chart (message r.chart.events x)) q)
      (outputs r.chart log) s h).0).0

  -- and so are the inputs from it
  in_inputs : (s : ℕ) → occurs (inputs_at r.queues r.chart q log) s ≡ true → occurs log s ≡ true
  in_inputs s h =
      (passes (is_input r.chart.events) log s
      (passes (λ x. nat_eq (queue_of r.queues r.chart (message r.chart.events x)) q)
      (inputs r.chart log) s h).0).0

  -- so all earlier claims stay
  old_claims : map (claim_at r (log ++ e ∷ []) (with_event e k n reading) sender)
      (outputs_at r.queues r.chart q log) ≡ map (claim_at r log reading sender)
      (outputs_at r.queues r.chart q log)
  old_claims = agree (claim_at r (log ++ e ∷ []) (with_event e k n reading) sender)
      (claim_at r log reading sender) (outputs_at r.queues r.chart q log)
      (λ s h. claim_same s (in_outputs s h))

  -- an output to the queue adds its claim, with the clock before it plus one as its offer
  pub sent_more : is_output r.chart.events e ≡ true → queue_of r.queues r.chart (message r.chart.events e) ≡ q
      → map (claim_at r (log ++ e ∷ []) (with_event e k n reading) sender)
      (outputs_at r.queues r.chart q (log ++ e ∷ []))
      ≡ map (claim_at r log reading sender) (outputs_at r.queues r.chart q log)
      ++ claim k (Message sender (message r.chart.events e))
      (clock_along r.chart reading.read_at log + 1) n ∷ []
  sent_more output here =
      let own = event_own e k n reading in
      let past : until (log ++ e ∷ []) e ≡ log = until-new log [] e new in
      let clock : clock_along r.chart (with_event e k n reading).read_at (until (log ++ e ∷ []) e)
      ≡ clock_along r.chart reading.read_at log =
      ap (clock_along r.chart (with_event e k n reading).read_at) past
      ∙ one_clock r.chart (with_event e k n reading).read_at reading.read_at 0 log
      (λ x h. (event_other e k n reading x (not_new log e x new h)).0) in
      let last : claim_at r (log ++ e ∷ []) (with_event e k n reading) sender e
      ≡ claim k (Message sender (message r.chart.events e))
      (clock_along r.chart reading.read_at log + 1) n =
      (λ j. claim (own.1 j) (Message sender (message r.chart.events e)) (clock j + 1) (own.0 j)) in
      ap (map (claim_at r (log ++ e ∷ []) (with_event e k n reading) sender)) (outputs_more r log e q output here)
      ∙ map_push (claim_at r (log ++ e ∷ []) (with_event e k n reading) sender)
      (outputs_at r.queues r.chart q log) e
      ∙ (λ j. old_claims j ++ last j ∷ [])

  -- any other event leaves the claims in the queue as they are
  pub sent_same : (is_output r.chart.events e ≡ true
      → queue_of r.queues r.chart (message r.chart.events e) ≡ q → ⊥)
      → map (claim_at r (log ++ e ∷ []) (with_event e k n reading) sender)
      (outputs_at r.queues r.chart q (log ++ e ∷ [])) ≡ map (claim_at r log reading sender)
      (outputs_at r.queues r.chart q log)
  sent_same other =
      ap (map (claim_at r (log ++ e ∷ []) (with_event e k n reading) sender)) (outputs_same r log e q other) ∙ old_claims

  -- so the clocks that earlier inputs read stay
  old_reads : map (with_event e k n reading).read_at (inputs_at r.queues r.chart q log)
      ≡ map reading.read_at (inputs_at r.queues r.chart q log)
  old_reads = agree (with_event e k n reading).read_at reading.read_at
      (inputs_at r.queues r.chart q log)
      (λ s h. (event_other e k n reading s (not_new log e s new (in_inputs s h))).0)

  -- an input from the queue adds the clock that was read
  pub read_more : is_input r.chart.events e ≡ true → queue_of r.queues r.chart (message r.chart.events e) ≡ q
      → map (with_event e k n reading).read_at (inputs_at r.queues r.chart q (log ++ e ∷ []))
      ≡ map reading.read_at (inputs_at r.queues r.chart q log) ++ n ∷ []
  read_more input here =
      let own = (event_own e k n reading).0 in
      ap (map (with_event e k n reading).read_at) (inputs_more r log e q input here)
      ∙ map_push (with_event e k n reading).read_at (inputs_at r.queues r.chart q log) e
      ∙ (λ j. old_reads j ++ own j ∷ [])

  -- any other event leaves those clocks as they are
  pub read_same : (is_input r.chart.events e ≡ true
      → queue_of r.queues r.chart (message r.chart.events e) ≡ q → ⊥)
      → map (with_event e k n reading).read_at (inputs_at r.queues r.chart q (log ++ e ∷ []))
      ≡ map reading.read_at (inputs_at r.queues r.chart q log)
  read_same other = ap (map (with_event e k n reading).read_at) (inputs_same r log e q other) ∙ old_reads

-- what a take adds to the clocks of messages, where there is a clock for each entry
pub clocks_message : (got : List Entry) (clocks : List ℕ) (i m n : ℕ) → length clocks ≡ length got
    → clocks_at (got ++ Message i m ∷ []) (clocks ++ n ∷ []) ≡ clocks_at got clocks ++ n ∷ []
clocks_message [] [] i m n h = refl
clocks_message [] (x ∷ clocks) i m n h = absurd (omega arith)
clocks_message (g ∷ got) [] i m n h = absurd (omega arith)
clocks_message (Message a b ∷ got) (x ∷ clocks) i m n h =
    ap (λ l. x ∷ l) (clocks_message got clocks i m n (omega arith))
clocks_message (Ended a ∷ got) (x ∷ clocks) i m n h = clocks_message got clocks i m n (omega arith)

-- an end mark brings no clock of a message
pub clocks_ended : (got : List Entry) (clocks : List ℕ) (i n : ℕ) → length clocks ≡ length got
    → clocks_at (got ++ Ended i ∷ []) (clocks ++ n ∷ []) ≡ clocks_at got clocks
clocks_ended [] [] i n h = refl
clocks_ended [] (x ∷ clocks) i n h = absurd (omega arith)
clocks_ended (g ∷ got) [] i n h = absurd (omega arith)
clocks_ended (Message a b ∷ got) (x ∷ clocks) i n h =
    ap (λ l. x ∷ l) (clocks_ended got clocks i n (omega arith))
clocks_ended (Ended a ∷ got) (x ∷ clocks) i n h = clocks_ended got clocks i n (omega arith)

-- an empty log leaves the clock 0
pub clock_nil : (d : Drawing) (f : ℕ → ℕ) → clock_along d f [] ≡ 0
unfolding along_from
clock_nil d f = refl
