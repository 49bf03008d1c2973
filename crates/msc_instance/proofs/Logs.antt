-- Logs of a line that grow by one event.
use Rattle.std.proofs.Common.{◌≡◌, ◌≢◌, ℕ, zero, suc, ◌+◌, ◌-◌, ◌<◌, ◌≤◌, true, false, cond, eqb, List, [], ◌∷◌, ◌++◌, length, filter, refl, sym, ap, ◌∙◌, subst, inl, inr, arith, append_assoc, length-append}
use Rattle.std.specs.Prelude.{nat_eq}
use Rattle.std.specs.List.{range_with_len}
use Rattle.std.proofs.lemmas.Bool.{eq-eqb, ne_eqb, cases_eq, cases_lt}
use Rattle.std.proofs.lemmas.List.{append-nil}
use Rattle.std.proofs.lemmas.List.Elements.{filter-append}
use Rattle.msc_chart.specs.Lists.{occurs}
use Rattle.msc_chart.specs.Charts.{line, before, is_controlled}
use Rattle.msc_chart.specs.Drawings.{Drawing}
use Rattle.msc_chart.proofs.ListLemmas.{clash, by_test, Steps-push, occurs_other, occurs-left}
use Rattle.msc_chart.proofs.Drawn.{before_parts, before_from, controlled_parts}
use Rattle.msc_execution.specs.Logs.{Begins, IsLogOf, MayBeLogged, IsWholeLog, line_events, controlled}
use Rattle.msc_execution.proofs.Lists.Words.{steps_once, passes, kept, fails}
use Rattle.msc_execution.proofs.Lists.Ranges.{filter_more, in_range, range_has}
use Rattle.msc_execution.proofs.Wiring.Fitted.{pigeons}
use Rattle.msc_instance.specs.declared.active.Post.{Post}
use Rattle.msc_instance.specs.Active.{line_below, IsPost, IsNext, HasUpTo, IsBlocked}
use Rattle.msc_instance.proofs.Growing.{filter_yes, filter_no}

-- a log is no longer than its line
pub log_within : (d : Drawing) (i : ℕ) (log : List ℕ) → IsLogOf d i log
    → length log ≤ length (line_events d i)
unfolding line_events
log_within d i log is =
    pigeons log (filter (λ e. eqb (line d.events e) i) (range_with_len 0 (length d.events)))
    (steps_once d [] log is.steps).0
    (λ e there. let on = is.on_line e there in
    kept (λ x. eqb (line d.events x) i) (range_with_len 0 (length d.events)) e
    (range_has 0 (length d.events) e (omega arith) (omega (arith, on.0))) (eq-eqb _ _ on.1))

-- one event more
pub log_push : (d : Drawing) (i : ℕ) (log : List ℕ) (e : ℕ) → IsLogOf d i log → e < length d.events
    → line d.events e ≡ i
    → MayBeLogged d log e → Begins (controlled d (log ++ e ∷ [])) (controlled d (line_events d i))
    → IsLogOf d i (log ++ e ∷ [])
log_push d i log e is event on may begins = record {
  on_line = λ x there. elim (cases_eq x e) [
    | inl same ↦ (subst (λ z. z < length d.events) (sym same) event, ap (line d.events) same ∙ on)
    | inr other ↦ is.on_line x (sym (occurs_other log e x other) ∙ there)
  ];
  steps = Steps-push (MayBeLogged d) log e is.steps may;
  controlled = begins;
}

module _ (d : Drawing) (i : ℕ) where
  -- the controlled events of the line below n + 1
  below_more : (n : ℕ) → controlled d (line_below d i (n + 1))
      ≡ controlled d (line_below d i n) ++ controlled d (cond (nat_eq (line d.events n) i) (n ∷ []) [])
  below_more n =
      (let s : n + 1 ≡ suc n = omega arith in ap (λ k. controlled d (line_below d i k)) s)
      ∙ ap (controlled d) (filter_more (λ e. nat_eq (line d.events e) i) n)
      ∙ filter-append (is_controlled d.events) (line_below d i n)
      (cond (nat_eq (line d.events n) i) (n ∷ []) [])

  -- n is not among them where it is not controlled
  below_skip : (n : ℕ) → is_controlled d.events n ≡ false
      → controlled d (line_below d i (n + 1)) ≡ controlled d (line_below d i n)
  below_skip n out =
      below_more n
      ∙ ap (λ l. controlled d (line_below d i n) ++ l)
      (by_test (nat_eq (line d.events n) i)
      (λ on. ap (λ b. controlled d (cond b (n ∷ []) [])) on ∙ ap (λ b. cond b (n ∷ []) []) out)
      (λ off. ap (λ b. controlled d (cond b (n ∷ []) [])) off))
      ∙ append-nil (controlled d (line_below d i n))

  -- and comes last where it is, and is on the line
  below_take : (n : ℕ) → is_controlled d.events n ≡ true → line d.events n ≡ i
      → controlled d (line_below d i (n + 1)) ≡ controlled d (line_below d i n) ++ n ∷ []
  below_take n in' on =
      below_more n
      ∙ ap (λ b. controlled d (line_below d i n) ++ controlled d (cond b (n ∷ []) [])) (eq-eqb _ _ on)
      ∙ ap (λ b. controlled d (line_below d i n) ++ cond b (n ∷ []) []) in'

  -- a range without a controlled event adds none
  below_skips : (n k : ℕ) → ((e : ℕ) → n ≤ e → e < n + k → is_controlled d.events e ≡ false)
      → controlled d (line_below d i (n + k)) ≡ controlled d (line_below d i n)
  below_skips n zero none = let s : n + 0 ≡ n = omega arith in ap (λ m. controlled d (line_below d i m)) s
  below_skips n (suc k) none =
      (let s : n + suc k ≡ (n + k) + 1 = omega arith in ap (λ m. controlled d (line_below d i m)) s)
      ∙ below_skip (n + k) (none (n + k) (omega arith) (omega arith))
      ∙ below_skips n k (λ e from to. none e from (omega arith))

  -- those below n begin those below a later number
  below_begins : (n k : ℕ) → Begins (controlled d (line_below d i n)) (controlled d (line_below d i (n + k)))
  below_begins n zero = (
    [],
    (let s : n + 0 ≡ n = omega arith in ap (λ m. controlled d (line_below d i m)) s)
        ∙ sym (append-nil _),
  )
  below_begins n (suc k) =
      let r = below_begins n k in
      let last : List ℕ = controlled d (cond (nat_eq (line d.events (n + k)) i) ((n + k) ∷ []) []) in (
        r.0 ++ last,
        (let s : n + suc k ≡ (n + k) + 1 = omega arith in ap (λ m. controlled d (line_below d i m)) s)
            ∙ below_more (n + k) ∙ ap (λ l. l ++ last) r.1
            ∙ append_assoc (controlled d (line_below d i n)) r.0 last,
      )

  -- and so they begin those of the line
  pub begins_line : (n : ℕ) → n ≤ length d.events
      → Begins (controlled d (line_below d i n)) (controlled d (line_events d i))
  unfolding line_events
  begins_line n le =
      let r = below_begins n (length d.events - n) in (
        r.0,
        (let s : length d.events ≡ n + (length d.events - n) = omega arith in
            ap (λ m. controlled d (line_below d i m)) s) ∙ r.1,
      )

  -- no event of the line is below its start
  pub none_below : (n : ℕ) → ((e : ℕ) → e < n → line d.events e ≢ i) → line_below d i n ≡ []
  none_below zero none = refl
  none_below (suc n) none =
      filter_more (λ e. nat_eq (line d.events e) i) n
      ∙ ap (λ b. line_below d i n ++ cond b (n ∷ []) []) (ne_eqb _ _ (none n (omega arith)))
      ∙ append-nil (line_below d i n) ∙ none_below n (λ e lt. none e (omega arith))

-- One controlled event more in a log that has those of the line up to it.
module _ (d : Drawing) (p : Post) (post : IsPost d p) (log : List ℕ) (next : ℕ)
    (is : IsNext d p log next) where
  -- the numbers from start to end are on the line
  pub on_post : (e : ℕ) → p.start ≤ e → e < p.end → (e < length d.events) × (line d.events e ≡ p.instance)
  on_post e from to =
      let below : e < length d.events = omega (arith, post.within) in
      (below, (post.line e below).1 (from, to))

  -- a controlled event of the line below next is logged
  pub logged_below : (t : ℕ) → t < next → is_controlled d.events t ≡ true
      → line d.events t ≡ p.instance → occurs log t ≡ true
  logged_below t lt yes' on =
      let there = kept (is_controlled d.events) (line_below d p.instance next) t
      (kept (λ e. nat_eq (line d.events e) p.instance) (range_with_len 0 next) t
      (range_has 0 next t (omega arith) (omega arith)) (eq-eqb _ _ on)) yes' in
      (passes (is_controlled d.events) log t (subst (λ l. occurs l t ≡ true) (sym is.done) there)).0

  -- and none from next on is
  pub not_logged : (t : ℕ) → next ≤ t → is_controlled d.events t ≡ true → occurs log t ≡ false
  not_logged t le yes' =
      fails (occurs log t) (λ there.
      let in' = kept (is_controlled d.events) log t there yes' in
      let low = (passes (is_controlled d.events) (line_below d p.instance next) t
      (subst (λ l. occurs l t ≡ true) is.done in')).0 in
      let r = in_range 0 next t
      (passes (λ e. nat_eq (line d.events e) p.instance) (range_with_len 0 next) t low).0 in
      absurd (omega (arith, r.1)))

  -- no controlled event stands between them
  pub next_moves : (to : ℕ) → next ≤ to → to ≤ p.end
      → ((e : ℕ) → next ≤ e → e < to → is_controlled d.events e ≡ false) → IsNext d p log to
  next_moves to le within none = record {
    from = omega (arith, is.from);
    to = within;
    done = is.done ∙ sym ((let s : to ≡ next + (to - next) = omega arith in
        ap (λ n. controlled d (line_below d p.instance n)) s)
        ∙ below_skips d p.instance next (to - next) (λ e from lt. none e from (omega arith)));
  }

  module _ (within : next < p.end) (yes' : is_controlled d.events next ≡ true) where
    -- once it is logged, the next one is looked for behind it
    next_after : IsNext d p (log ++ next ∷ []) (next + 1)
    next_after = record {
      from = omega (arith, is.from);
      to = omega arith;
      done = filter_yes (is_controlled d.events) log next yes' ∙ ap (λ l. l ++ next ∷ []) is.done
          ∙ sym (below_take d p.instance next yes' (on_post next is.from within).1);
    }

    -- it is logged, where all that is drawn before it is
    pub log_due : IsLogOf d p.instance log → ((x : ℕ) → before d.events x next ≡ true → occurs log x ≡ true)
        → IsLogOf d p.instance (log ++ next ∷ []) × IsNext d p (log ++ next ∷ []) (next + 1)
    log_due is_log ready =
        let on = on_post next is.from within in
        let begins = begins_line d p.instance (next + 1) (omega (arith, on.0)) in (
          log_push d p.instance log next is_log on.0 on.1
              (record { new = not_logged next (omega arith) yes'; drawn = λ _. ready })
              (subst (λ l. Begins l (controlled d (line_events d p.instance))) (sym next_after.done) begins),
          next_after,
        )

  -- all controlled events are logged, so none is due
  pub none_due : next ≡ p.end → IsBlocked d p.instance log
  none_due at s due =
      let parts = controlled_parts d.events s due.controlled in
      let on = (post.line s parts.0).0 due.on_line in
      clash (logged_below s (omega (arith, on.1)) due.controlled due.on_line) due.missing

  module _ (first : ℕ) (upto : HasUpTo p log first) (missing : first < p.end → occurs log first ≡ false)
      (within : next < p.end) (yes' : is_controlled d.events next ≡ true) where
    -- the first missing event is not behind the next controlled one
    pub first_within : first ≤ next
    first_within = elim (cases_lt next first) [
      | inl lt ↦ clash (upto.there next is.from lt) (not_logged next (omega arith) yes')
      | inr ge ↦ ge
    ]

    -- where the first missing event is drawn before the next controlled one, the line waits
    pub waits : before d.events first next ≡ true → IsBlocked d p.instance log
    waits drawn s due = elim (cases_lt s next) [
      | inl lt ↦ clash (logged_below s lt due.controlled due.on_line) due.missing
      | inr ge ↦ elim (cases_lt next s) [
        | inl gt ↦ clash (due.first next gt yes' (on_post next is.from within).1)
            (not_logged next (omega arith) yes')
        | inr le ↦
            let same : next ≡ s = omega arith in (
              first,
              subst (λ t. before d.events first t ≡ true) same drawn,
              missing (omega (arith, first_within)),
            )
      ]
    ]

    -- where it is not, all that is drawn before the next controlled one is logged
    pub ready : before d.events first next ≡ false → (x : ℕ) → before d.events x next ≡ true
        → occurs log x ≡ true
    ready none x drawn =
        let parts = before_parts d.events x next drawn in
        let here = on_post next is.from within in
        let on = (post.line x parts.0).0 (parts.2 ∙ here.1) in
        elim (cases_lt x first) [
          | inl lt ↦ upto.there x on.0 lt
          | inr ge ↦
              let f = on_post first upto.from (omega (arith, first_within)) in
              let rise = post.laws.rise d first x post.accepted ge parts.0 (f.1 ∙ sym (parts.2 ∙ here.1)) in
              clash (before_from d.events first next f.0 here.0 (f.1 ∙ sym here.1)
              (omega (arith, rise, parts.3))) none
        ]

-- one input more
pub log_input : (d : Drawing) (p : Post) (log : List ℕ) (next e : ℕ) → IsPost d p → IsNext d p log next
    → IsLogOf d p.instance log
    → e < length d.events → line d.events e ≡ p.instance → is_controlled d.events e ≡ false
    → occurs log e ≡ false
    → IsLogOf d p.instance (log ++ e ∷ []) × IsNext d p (log ++ e ∷ []) next
log_input d p log next e post is is_log event on no' new =
    let same = filter_no (is_controlled d.events) log e no' in (
      log_push d p.instance log e is_log event on (record { new = new; drawn = λ yes'. clash yes' no' })
          (subst (λ l. Begins l (controlled d (line_events d p.instance))) (sym same) is_log.controlled),
      record { from = is.from; to = is.to; done = same ∙ is.done },
    )

-- what was logged stays logged
pub upto_push : (p : Post) (log : List ℕ) (first e : ℕ) → HasUpTo p log first
    → HasUpTo p (log ++ e ∷ []) first
upto_push p log first e h =
    record { from = h.from; to = h.to; there = λ x from lt. occurs-left log (e ∷ []) x (h.there x from lt) }

-- a log with one event more leaves room before it
pub log_shorter : (d : Drawing) (i : ℕ) (log : List ℕ) (e : ℕ) → IsLogOf d i (log ++ e ∷ [])
    → length log < length (line_events d i)
log_shorter d i log e is = omega (arith, log_within d i (log ++ e ∷ []) is, length-append log (e ∷ []))

-- all of the line up to its end
pub whole : (d : Drawing) (p : Post) (log : List ℕ) → IsPost d p → HasUpTo p log p.end
    → IsWholeLog d p.instance log
whole d p log post upto e below on = let r = (post.line e below).0 on in upto.there e r.0 r.1
