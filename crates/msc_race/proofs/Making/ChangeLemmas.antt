-- How the queues and the inputs whose messages are first change when an output or an input occurs.
use Rattle.std.proofs.Common.{◌≡◌, ◌≢◌, ℕ, ◌<◌, true, ◌&&◌, inl, inr, List, [], ◌∷◌, ◌++◌, length, get_or, set, eqb, refl, sym, ap, ◌∙◌, subst, arith, get_or-set_same, get_or-set_other}
use Rattle.std.proofs.lemmas.Bool.{eqb-true, eq-eqb, cases_eq, or_cases, or_left, or_right}
use Rattle.std.proofs.lemmas.List.{length-set}
use Rattle.msc_chart.specs.Lists.{occurs, IsFirst}
use Rattle.msc_chart.specs.Charts.{partner, is_output, is_input}
use Rattle.msc_chart.specs.Orders.{WiredChart, queue}
use Rattle.msc_chart.specs.Runs.{state}
use Rattle.bit_rows.specs.Rows.{has, IsWith, IsWithout}
use Rattle.msc_race.specs.declared.queued_run.QueuedRun.{QueuedRun}
use Rattle.msc_race.specs.QueuedRuns.{IsArrived, AreQueues, IsQueue, IsComing}
use Rattle.msc_race.proofs.Making.RowLemmas.{row_same}
use Rattle.msc_race.proofs.Runs.EventLemmas.{input_below, partner_of_output}
use Rattle.msc_race.proofs.Making.StateLemmas.{state_sent, state_sent_elsewhere, state_taken, state_taken_elsewhere}
use Rattle.msc_race.proofs.Making.LinkLemmas.{empty_queue, last_in, queue_same, queue_push, queue_ends, queue_goes_on, first_parts, first_append, first_unique, first_later}
use Rattle.msc_race.proofs.Making.ComingLemmas.{has_head, has_last}
use Rattle.msc_race.proofs.Making.ArrivedLemmas.{member, once, still_arrived, had_arrived, linked_elsewhere}
use Rattle.msc_race.proofs.Making.FrontLemmas.{still_in, was_in}
use Rattle.msc_chart.proofs.ListLemmas.{IsDistinct}

module _ {chart : WiredChart} {c : QueuedRun} {x : ℕ} (here : IsComing chart c x) where
  open here use {is_wired, run, may, were}

  -- the run so far
  abbrev past : List ℕ
  past = c.run.items

  -- the first of each queue
  abbrev heads : List ℕ
  heads = c.heads.items

  -- the last of each queue
  abbrev lasts : List ℕ
  lasts = c.lasts.items

  -- what comes next in its queue after each event
  abbrev next : List ℕ
  next = c.next.items

  -- the inputs whose messages are first, as a row
  abbrev inputs : List ℕ
  inputs = c.inputs

  -- how many events there are; in the lists this stands for none
  abbrev n : ℕ
  n = length chart.events

  -- the queue of x
  abbrev q : ℕ
  q = queue chart x

  -- what is in each queue when x has occurred
  abbrev after : ℕ → List ℕ
  after p = state chart p (past ++ x ∷ [])

  -- the first of the queue of x
  abbrev head : ℕ
  head = get_or heads q 0

  -- and the last of it
  abbrev last : ℕ
  last = get_or lasts q 0

  -- the last of the queue of x, where that has a head, is an event
  pub last_known : head ≢ n → last < n
  last_known some = (member chart past q last (last_in n next head last (state chart q past) (were.linked q (has_head here)) some)).1

  module _ (o : is_output chart.events x ≡ true) where
    -- the other queues are as they were
    away : (p : ℕ) → q ≢ p → after p ≡ state chart p past
    away p other = state_sent_elsewhere chart past x is_wired run may o p other

    -- an output becomes the head of an empty queue
    pub sent_first : head ≡ n → (new_inputs : List ℕ) → length new_inputs ≡ length inputs
        → IsWith inputs new_inputs true (partner chart.events x)
        → AreQueues chart after (set heads q x) (set lasts q x) next new_inputs
    sent_first none new_inputs same wider =
        let empty = empty_queue n next head last (state chart q past) (were.linked q (has_head here)) none (λ y there. (member chart past q y there).1) in
        let full : after q ≡ x ∷ [] = state_sent chart past x is_wired run may o ∙ ap (λ l. l ++ x ∷ []) empty in
        record {
          inputs_row = row_same n inputs new_inputs same were.inputs_row;
          heads = λ e below message. rw (length-set heads q x) (were.heads e below message);
          lasts = length-set lasts q x ∙ were.lasts ∙ sym (length-set heads q x);
          next = were.next;
          linked = λ p p_below. elim (cases_eq p q) [
            | inl own ↦ rw (own, get_or-set_same heads q x 0 (has_head here), get_or-set_same lasts q x 0 (has_last here), full) (refl, refl)
            | inr other ↦
                linked_elsewhere chart past x away heads lasts next (set heads q x) (set lasts q x) p other (were.linked p (rw (length-set heads q x) at p_below))
                (get_or-set_other heads q p x 0 other) (get_or-set_other lasts q p x 0 other)
          ];
          inputs = λ y. (
            λ h. elim (or_cases (has inputs y) (true && eqb y (partner chart.events x)) (sym (wider y) ∙ h)) [
              | inl there ↦ let a = (were.inputs y).0 there in elim (cases_eq (queue chart y) q) [
                | inl here ↦ absurd (subst (λ (l : List ℕ). IsFirst l (partner chart.events y)) (ap (λ p. state chart p past) here ∙ empty) a.first)
                | inr other ↦ still_arrived chart past x away y other a
              ]
              | inr added ↦ subst (λ (z : ℕ). IsArrived chart after z) (sym (eqb-true y (partner chart.events x) added)) (record {
                input = partner_of_output chart.events is_wired.matched x o;
                first = rw (is_wired.one_queue x may.event, full, is_wired.matched.to_and_fro x may.event) refl;
              })
            ],
            λ a. wider y ∙ elim (cases_eq (queue chart y) q) [
              | inl here ↦
                  let first : x ≡ partner chart.events y = subst (λ (l : List ℕ). IsFirst l (partner chart.events y)) (ap after here ∙ full) a.first in
                  let y_in = input_below chart.events y a.input in
                  or_right (has inputs y) (true && eqb y (partner chart.events x))
                  (eq-eqb y (partner chart.events x) (sym (ap (λ e. partner chart.events e) first ∙ is_wired.matched.to_and_fro y y_in)))
              | inr other ↦ or_left (has inputs y) (true && eqb y (partner chart.events x)) ((were.inputs y).1 (had_arrived chart past x away y other a))
            ],
          );
        }

    -- an output is put at the end of a queue with a head
    pub sent_later : head ≢ n → AreQueues chart after heads (set lasts q x) (set next last x) inputs
    sent_later some =
        let there = last_in n next head last (state chart q past) (were.linked q (has_head here)) some in
        let size = were.next in
        let known = last_known some in
        let full : after q ≡ state chart q past ++ x ∷ [] = state_sent chart past x is_wired run may o in
        record {
          inputs_row = were.inputs_row;
          heads = were.heads;
          lasts = length-set lasts q x ∙ were.lasts;
          next = length-set next last x ∙ were.next;
          linked = λ p p_below. elim (cases_eq p q) [
            | inl own ↦ rw (own, get_or-set_same lasts q x 0 (has_last here), full)
                (queue_push n next head last x (state chart q past) (were.linked q (has_head here)) some (once chart past run q) (omega (arith, known, size)))
            | inr other ↦ rw (get_or-set_other lasts q p x 0 other, away p (λ h. other (sym h)))
                (queue_same n next (get_or heads p 0) (get_or lasts p 0) (set next last x) (state chart p past)
                (λ y in_p. get_or-set_other next last y x 0
                (λ same. other (sym (member chart past p y in_p).2 ∙ ap (λ z. queue chart z) same ∙ (member chart past q last there).2)))
                (were.linked p p_below))
          ];
          inputs = λ y. (
            λ h. let a = (were.inputs y).0 h in elim (cases_eq (queue chart y) q) [
              | inl here ↦ record {
                input = a.input;
                first = subst (λ (l : List ℕ). IsFirst l (partner chart.events y)) (sym (ap after here ∙ full))
                    ((first_append (state chart q past) x last (partner chart.events y) there).1
                    (subst (λ (p : ℕ). IsFirst (state chart p past) (partner chart.events y)) here a.first));
              }
              | inr other ↦ still_arrived chart past x away y other a
            ],
            λ a. (were.inputs y).1 (elim (cases_eq (queue chart y) q) [
              | inl here ↦ record {
                input = a.input;
                first = subst (λ (p : ℕ). IsFirst (state chart p past) (partner chart.events y)) (sym here)
                    ((first_append (state chart q past) x last (partner chart.events y) there).0
                    (subst (λ (l : List ℕ). IsFirst l (partner chart.events y)) (ap after here ∙ full) a.first));
              }
              | inr other ↦ had_arrived chart past x away y other a
            ]),
          );
        }

  -- an input whose output is that of another input is that input
  same_partner : (y z : ℕ) → y < n → z < n → partner chart.events y ≡ partner chart.events z → y ≡ z
  same_partner y z y_in z_in same =
      sym (is_wired.matched.to_and_fro y y_in) ∙ ap (λ e. partner chart.events e) same ∙ is_wired.matched.to_and_fro z z_in

  module _ (i : is_input chart.events x ≡ true) where
    -- the other queues are as they were
    gone : (p : ℕ) → q ≢ p → after p ≡ state chart p past
    gone p other = state_taken_elsewhere chart past x is_wired run may i p other

    -- the output of x
    abbrev s : ℕ
    s = partner chart.events x

    -- the message of x is the first of its queue
    full_queue : (rest : List ℕ) × (state chart q past ≡ s ∷ rest)
    full_queue = first_parts (state chart q past) s (may.input i)

    -- what is behind it in the queue
    abbrev rest : List ℕ
    rest = full_queue.0

    -- so the queue is that output and what is behind it
    full : state chart q past ≡ s ∷ rest
    full = full_queue.1

    -- and when x has occurred, what is behind it is left
    left : after q ≡ rest
    left = state_taken chart past x is_wired run may i rest full

    -- the links lead over all of the queue
    linked_full : IsQueue n next head last (s ∷ rest)
    linked_full = subst (λ (l : List ℕ). IsQueue n next head last l) full (were.linked q (has_head here))

    -- no other input of the queue had arrived
    not_arrived : (y : ℕ) → queue chart y ≡ q → IsArrived chart (λ p. state chart p past) y → y ≡ x
    not_arrived y here a =
        let first : s ≡ partner chart.events y = subst (λ (l : List ℕ). IsFirst l (partner chart.events y)) (ap (λ p. state chart p past) here ∙ full) a.first in
        same_partner y x (input_below chart.events y a.input) may.event (sym first)

    -- where the first is the last, the queue is empty
    pub taken_last : last ≡ s → (new_inputs : List ℕ) → length new_inputs ≡ length inputs → IsWithout inputs new_inputs x
        → AreQueues chart after (set heads q n) lasts next new_inputs
    taken_last same new_inputs size without =
        let none = queue_ends n next head last s rest linked_full (subst IsDistinct full (once chart past run q)) same in
        let empty : after q ≡ [] = left ∙ none in
        record {
          inputs_row = row_same n inputs new_inputs size were.inputs_row;
          heads = λ e below message. rw (length-set heads q n) (were.heads e below message);
          lasts = were.lasts ∙ sym (length-set heads q n);
          next = were.next;
          linked = λ p p_below. elim (cases_eq p q) [
            | inl own ↦ rw (own, get_or-set_same heads q n 0 (has_head here), empty) refl
            | inr other ↦
                linked_elsewhere chart past x gone heads lasts next (set heads q n) lasts p other (were.linked p (rw (length-set heads q n) at p_below)) (get_or-set_other heads q p n 0 other) refl
          ];
          inputs = λ y. (
            λ h.
                let was = was_in inputs new_inputs x without y h in
                let a = (were.inputs y).0 was.0 in
                elim (cases_eq (queue chart y) q) [
                  | inl here ↦ absurd (was.1 (not_arrived y here a))
                  | inr other ↦ still_arrived chart past x gone y other a
                ],
            λ a. elim (cases_eq (queue chart y) q) [
              | inl here ↦ absurd (subst (λ (l : List ℕ). IsFirst l (partner chart.events y)) (ap after here ∙ empty) a.first)
              | inr other ↦ still_in inputs new_inputs x without y ((were.inputs y).1 (had_arrived chart past x gone y other a)) (λ same. other (ap (λ z. queue chart z) same))
            ],
          );
        }

    -- else the next of the queue is its first
    following : last ≢ s → IsFirst rest (get_or next s 0) × IsQueue n next (get_or next s 0) last rest
    following other = queue_goes_on n next head last s rest linked_full other

    -- which is an output of the queue
    follower : last ≢ s → (is_output chart.events (get_or next s 0) ≡ true) × (get_or next s 0 < n) × (queue chart (get_or next s 0) ≡ q)
    follower other =
        member chart past q (get_or next s 0) (subst (λ (l : List ℕ). occurs l (get_or next s 0) ≡ true) (sym full) (first_later s rest (get_or next s 0) (following other).0))

    -- and so an event
    pub following_known : last ≢ s → get_or next s 0 < n
    following_known other = (follower other).1

    -- and its input arrives
    pub taken_more : last ≢ s → (cleared new_inputs : List ℕ) → length cleared ≡ length inputs → length new_inputs ≡ length cleared
        → IsWithout inputs cleared x → IsWith cleared new_inputs true (partner chart.events (get_or next s 0))
        → AreQueues chart after (set heads q (get_or next s 0)) lasts next new_inputs
    taken_more differs cleared new_inputs size more without wider =
        let t : ℕ = get_or next s 0 in
        let next_first = following differs in
        let t_is = follower differs in
        record {
          inputs_row = row_same n inputs new_inputs (more ∙ size) were.inputs_row;
          heads = λ e below message. rw (length-set heads q t) (were.heads e below message);
          lasts = were.lasts ∙ sym (length-set heads q t);
          next = were.next;
          linked = λ p p_below. elim (cases_eq p q) [
            | inl own ↦ rw (own, get_or-set_same heads q t 0 (has_head here), left) next_first.1
            | inr other ↦
                linked_elsewhere chart past x gone heads lasts next (set heads q t) lasts p other (were.linked p (rw (length-set heads q t) at p_below)) (get_or-set_other heads q p t 0 other) refl
          ];
          inputs = λ y. (
            λ h. elim (or_cases (has cleared y) (true && eqb y (partner chart.events t)) (sym (wider y) ∙ h)) [
              | inl there ↦
                  let was = was_in inputs cleared x without y there in
                  let a = (were.inputs y).0 was.0 in
                  elim (cases_eq (queue chart y) q) [
                    | inl here ↦ absurd (was.1 (not_arrived y here a))
                    | inr other ↦ still_arrived chart past x gone y other a
                  ]
              | inr added ↦ subst (λ (z : ℕ). IsArrived chart after z) (sym (eqb-true y (partner chart.events t) added)) (record {
                input = partner_of_output chart.events is_wired.matched t t_is.0;
                first = rw (is_wired.one_queue t t_is.1, t_is.2, left, is_wired.matched.to_and_fro t t_is.1) next_first.0;
              })
            ],
            λ a. wider y ∙ elim (cases_eq (queue chart y) q) [
              | inl here ↦
                  let first : IsFirst rest (partner chart.events y) = subst (λ (l : List ℕ). IsFirst l (partner chart.events y)) (ap after here ∙ left) a.first in
                  let same = first_unique rest (partner chart.events y) t first next_first.0 in
                  let y_in = input_below chart.events y a.input in
                  or_right (has cleared y) (true && eqb y (partner chart.events t))
                  (eq-eqb y (partner chart.events t) (sym (is_wired.matched.to_and_fro y y_in) ∙ ap (λ e. partner chart.events e) same))
              | inr other ↦ or_left (has cleared y) (true && eqb y (partner chart.events t))
                  (still_in inputs cleared x without y ((were.inputs y).1 (had_arrived chart past x gone y other a)) (λ same. other (ap (λ z. queue chart z) same)))
            ],
          );
        }
