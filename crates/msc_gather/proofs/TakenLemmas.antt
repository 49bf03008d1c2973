-- What was last taken from a queue in a list of events.
use Rattle.std.proofs.Common.{◌≡◌, ℕ, ◌<◌, true, false, inl, inr, eqb, List, [], ◌∷◌, ◌++◌, length, get_or, set, replicate, filter, Option, Some, None, refl, sym, ap, subst, ◌∙◌, Bool, arith}
use Rattle.std.proofs.lemmas.Bool.{eqb-true, or_cases, cases_eq}
use Rattle.std.proofs.lemmas.List.{length-set, get_or-set_same, get_or-set_other, length-replicate, get_or-replicate}
use Rattle.msc_chart.specs.Charts.{partner, is_input, is_local, is_controlled}
use Rattle.msc_chart.specs.Lists.{occurs, until}
use Rattle.msc_chart.specs.Orders.{WiredChart, IsWired, queue}
use Rattle.msc_chart.proofs.ListLemmas.{by_test, clash, until-append, occurs-left, occurs-push}
use Rattle.msc_chart.proofs.Drawn.{controlled_no_input, partner_of_output, input_not_local}
use Rattle.msc_gather.specs.Links.{IsLastTaken, HoldsTaken}
use Rattle.msc_chart.proofs.KindTests.{output_below, input_below}
use Rattle.msc_gather.proofs.Once.{until-new, occurs-cases}
use Rattle.msc_gather.proofs.Filters.{occurs-filter, filter-within, until-filter}

-- what occurs in a list of one is that one
pub single : (r t : ℕ) → occurs (r ∷ []) t ≡ true → r ≡ t
unfolding occurs
single r t h = elim (or_cases (eqb r t) false h)
    [ inl same ↦ eqb-true r t same | inr never ↦ clash never refl ]

-- a new input of the queue is the last
taken_push : (chart : WiredChart) (q : ℕ) (front : List ℕ) (r : ℕ) → occurs front r ≡ false
    → is_input chart.events r ≡ true → queue chart r ≡ q
    → IsLastTaken chart q (front ++ r ∷ []) (Some (partner chart.events r))
taken_push chart q front r new ri rq = (
  r,
  occurs-push front r,
  ri,
  rq,
  refl,
  λ t h ti tq. by_test (occurs front t)
      (λ old. inr (ap (λ l. occurs l t) (until-new front [] r new) ∙ old))
      (λ fresh. inl (sym (single r t (occurs-cases front (r ∷ []) t h fresh)))),
)

-- and another event changes nothing
taken_skip : (chart : WiredChart) (q : ℕ) (front : List ℕ) (r : ℕ) (last : Option ℕ)
    → (is_input chart.events r ≡ true → queue chart r ≡ q → ⊥)
    → IsLastTaken chart q front last → IsLastTaken chart q (front ++ r ∷ []) last
taken_skip chart q front r None other l = λ t h ti tq.
    by_test (occurs front t) (λ old. l t old ti tq)
    (λ fresh.
    let same = single r t (occurs-cases front (r ∷ []) t h fresh) in
    other (subst (λ (z : ℕ). is_input chart.events z ≡ true) (sym same) ti)
    (ap (λ z. queue chart z) same ∙ tq))
taken_skip chart q front r (Some s) other l = (
  l.0,
  occurs-left front (r ∷ []) l.0 l.1,
  l.2,
  l.3,
  l.4,
  λ t h ti tq. by_test (occurs front t)
      (λ old. elim (l.5 t old ti tq) [
        | inl same ↦ inl same
        | inr earlier ↦ inr (ap (λ x. occurs x t) (until-append front (r ∷ []) l.0 l.1) ∙ earlier)
      ])
      (λ fresh.
      let same = single r t (occurs-cases front (r ∷ []) t h fresh) in
      absurd (other (subst (λ (z : ℕ). is_input chart.events z ≡ true) (sym same) ti)
      (ap (λ z. queue chart z) same ∙ tq))),
)

-- what was last taken in a list was last taken in what passes of it, where the queue's inputs pass
pub taken_filtered : (chart : WiredChart) (q : ℕ) (p : ℕ → Bool) (list : List ℕ) (last : Option ℕ)
    → ((r : ℕ) → is_input chart.events r ≡ true → queue chart r ≡ q → p r ≡ true)
    → IsLastTaken chart q list last → IsLastTaken chart q (filter p list) last
taken_filtered chart q p list None passes l = λ r h ri rq. l r (filter-within p list r h) ri rq
taken_filtered chart q p list (Some s) passes l = (
  l.0,
  occurs-filter p list l.0 (passes l.0 l.2 l.3) ∙ l.1,
  l.2,
  l.3,
  l.4,
  λ t h ti tq. elim (l.5 t (filter-within p list t h) ti tq) [
    | inl same ↦ inl same
    | inr earlier ↦ inr (ap (λ x. occurs x t) (until-filter p list l.0 (passes l.0 l.2 l.3))
        ∙ occurs-filter p (until list l.0) t (passes t ti tq) ∙ earlier)
  ],
)

-- before any event nothing was taken
pub taken_begins : (chart : WiredChart) (before last : List (Option ℕ)) (count : ℕ)
    → before ≡ replicate (length chart.events) None → last ≡ replicate count None
    → ((e : ℕ) → e < length chart.events → is_local chart.events e ≡ false → queue chart e < count)
    → HoldsTaken chart [] before last
unfolding occurs
taken_begins chart before last count b l known = record {
  long = ap (λ (xs : List (Option ℕ)). length xs) b ∙ length-replicate (length chart.events) None;
  queues = λ e below away.
      let many : length last ≡ count = ap (λ (xs : List (Option ℕ)). length xs) l
      ∙ length-replicate count None in
      omega (arith, known e below away);
  ends = λ q below.
      let many : length last ≡ count = ap (λ (xs : List (Option ℕ)). length xs) l
      ∙ length-replicate count None in
      let none : get_or last q None ≡ None =
      ap (λ (xs : List (Option ℕ)). get_or xs q None) l
      ∙ get_or-replicate count q None None (omega arith) in
      subst (λ (o : Option ℕ). IsLastTaken chart q [] o) (sym none) (λ r h ri rq. clash h refl);
  own = λ s o h. clash h refl;
}

-- a controlled event takes nothing
pub taken_other : (chart : WiredChart) → IsWired chart
    → {list : List ℕ} {before last : List (Option ℕ)} (r : ℕ)
    → is_controlled chart.events r ≡ true → HoldsTaken chart list before last
    → HoldsTaken chart (list ++ r ∷ []) before last
taken_other chart is_wired {list} {before} {last} r controlled h = record {
  long = h.long;
  queues = h.queues;
  ends = λ q below.
      taken_skip chart q list r (get_or last q None)
      (λ ri rq. controlled_no_input chart.events r controlled ri) (h.ends q below);
  own = λ s o there.
      let u : ℕ = partner chart.events s in
      let ui = partner_of_output chart.events is_wired.matched s o in
      by_test (occurs list u)
      (λ old. subst (λ (l : List ℕ). IsLastTaken chart (queue chart s) l (get_or before s None))
      (sym (until-append list (r ∷ []) u old)) (h.own s o old))
      (λ fresh.
      let same = single r u (occurs-cases list (r ∷ []) u there fresh) in
      absurd (controlled_no_input chart.events r controlled
      (subst (λ (z : ℕ). is_input chart.events z ≡ true) (sym same) ui)));
}

-- a new input takes the message of its output
pub taken_input : (chart : WiredChart) → IsWired chart
    → {list : List ℕ} {before last : List (Option ℕ)} (r : ℕ)
    → is_input chart.events r ≡ true → occurs list r ≡ false → HoldsTaken chart list before last
    → HoldsTaken chart (list ++ r ∷ [])
    (set before (partner chart.events r) (get_or last (queue chart r) None))
    (set last (queue chart r) (Some (partner chart.events r)))
taken_input chart is_wired {list} {before} {last} r ri new h =
    let s : ℕ = partner chart.events r in
    let q : ℕ = queue chart r in
    let r_below = input_below chart.events r ri in
    let s_below : s < length chart.events = is_wired.matched.in_range r r_below in
    let q_below : q < length last = h.queues r r_below (input_not_local chart.events r ri) in
    record {
      long = length-set before s (get_or last q None) ∙ h.long;
      queues = λ e below away.
          let many : length (set last q (Some s)) ≡ length last = length-set last q (Some s) in
          omega (arith, h.queues e below away);
      ends = λ p below.
          let many : length (set last q (Some s)) ≡ length last = length-set last q (Some s) in
          elim (cases_eq p q) [
            | inl same ↦
                let here : get_or (set last q (Some s)) p None ≡ Some s =
                ap (λ (w : ℕ). get_or (set last q (Some s)) w None) same
                ∙ get_or-set_same last q (Some s) None q_below in
                subst (λ (o : Option ℕ). IsLastTaken chart p (list ++ r ∷ []) o) (sym here)
                (taken_push chart p list r new ri (sym same))
            | inr other ↦
                subst (λ (o : Option ℕ). IsLastTaken chart p (list ++ r ∷ []) o)
                (sym (get_or-set_other last q p (Some s) None other))
                (taken_skip chart p list r (get_or last p None) (λ i rq. other (sym rq))
                (h.ends p (omega arith)))
          ];
      own = λ t o there.
          let u : ℕ = partner chart.events t in
          elim (cases_eq t s) [
            | inl same ↦
                let u_is : u ≡ r = ap (λ (w : ℕ). partner chart.events w) same
                ∙ is_wired.matched.to_and_fro r r_below in
                let q_is : queue chart t ≡ q =
                ap (λ (w : ℕ). queue chart w) same ∙ is_wired.one_queue r r_below in
                let front : until (list ++ r ∷ []) u ≡ list =
                ap (λ (w : ℕ). until (list ++ r ∷ []) w) u_is ∙ until-new list [] r new in
                let value : get_or (set before s (get_or last q None)) t None ≡ get_or last q None =
                ap (λ (w : ℕ). get_or (set before s (get_or last q None)) w None) same
                ∙ get_or-set_same before s (get_or last q None) None
                (omega (arith, s_below, h.long)) in
                rw (front, value, q_is) (h.ends q q_below)
            | inr other ↦
                let ui = partner_of_output chart.events is_wired.matched t o in
                let old : occurs list u ≡ true = by_test (occurs list u) (λ old. old)
                (λ fresh.
                let u_is = single r u (occurs-cases list (r ∷ []) u there fresh) in
                absurd (other (sym (is_wired.matched.to_and_fro t (output_below chart.events t o))
                ∙ ap (λ (w : ℕ). partner chart.events w) (sym u_is)))) in
                rw (
                  until-append list (r ∷ []) u old,
                  get_or-set_other before s t
                      (get_or last q None) None other,
                )
                (h.own t o old)
          ];
    }
