-- What is in a queue when one more event of a run has occurred.
use Rattle.std.proofs.Common.{◌≡◌, ◌≢◌, ℕ, Bool, true, false, ◌&&◌, ◌||◌, not, cond, List, [], ◌∷◌, ◌++◌, filter, eqb, refl, sym, ap, ◌∙◌, subst}
use Rattle.std.proofs.lemmas.Bool.{eqb-true, eq-eqb, ne_eqb, or_left}
use Rattle.std.proofs.lemmas.List.{append-nil}
use Rattle.std.proofs.lemmas.List.Elements.{filter-append, filter_agree}
use Rattle.msc_chart.specs.Lists.{occurs, until, Steps}
use Rattle.msc_chart.specs.Charts.{partner, is_output, is_input, is_local}
use Rattle.msc_chart.specs.Orders.{WiredChart, IsWired, queue}
use Rattle.msc_chart.specs.Runs.{Run, MayCome, is_waiting, state}
use Rattle.msc_chart.proofs.ListLemmas.{occurs-append, IsDistinct}
use Rattle.msc_race.proofs.Shared.{by_test, clash, occurs-left, occurs-push, until-within, step_at, first_occurs}
use Rattle.msc_race.proofs.Runs.EventLemmas.{input_not_local, output_below, output_not_local, not_both, partner_of_output}
use Rattle.msc_chart.proofs.Waiting.{waiting_from, waiting_parts}

-- what occurs in a filter occurs in the list
filter_within : (p : ℕ → Bool) (xs : List ℕ) (e : ℕ) → occurs xs e ≡ false → occurs (filter p xs) e ≡ false
unfolding occurs
filter_within p [] e h = refl
filter_within p (x ∷ xs) e h =
    by_test (eqb x e) (λ same. clash (or_left (eqb x e) (occurs xs e) same) h)
    (λ other.
    let rest : occurs xs e ≡ false = rw other at h in
    (elim (p x) as (λ b. occurs (cond b (x ∷ filter p xs) (filter p xs)) e ≡ false) [
      | true ↦ rw other (filter_within p xs e rest)
      | false ↦ filter_within p xs e rest
    ]))

-- a filter of a list without repetition has none
pub distinct_filter : (p : ℕ → Bool) (xs : List ℕ) → IsDistinct xs → IsDistinct (filter p xs)
distinct_filter p [] h = tt
distinct_filter p (x ∷ xs) h =
    elim (p x) as (λ b. IsDistinct (cond b (x ∷ filter p xs) (filter p xs))) [
      | true ↦ (filter_within p xs x h.0, distinct_filter p xs h.1)
      | false ↦ distinct_filter p xs h.1
    ]

-- a filter by two tests is a filter of a filter
filter_twice : (p q : ℕ → Bool) (xs : List ℕ) → filter (λ z. p z && q z) xs ≡ filter q (filter p xs)
filter_twice p q [] = refl
filter_twice p q (x ∷ xs) =
    elim (p x) as (λ b. cond (b && q x) (x ∷ filter (λ z. p z && q z) xs) (filter (λ z. p z && q z) xs) ≡ filter q (cond b (x ∷ filter p xs) (filter p xs))) [
      | true ↦ ap (λ l. cond (q x) (x ∷ l) l) (filter_twice p q xs)
      | false ↦ filter_twice p q xs
    ]

-- nothing is lost where what is left out is not there
filter_absent : (xs : List ℕ) (s : ℕ) → occurs xs s ≡ false → filter (λ z. not (eqb z s)) xs ≡ xs
unfolding occurs
filter_absent [] s h = refl
filter_absent (x ∷ xs) s h =
    by_test (eqb x s) (λ same. clash (or_left (eqb x s) (occurs xs s) same) h)
    (λ other. let rest : occurs xs s ≡ false = rw other at h in rw other (ap (λ l. x ∷ l) (filter_absent xs s rest)))

module _ (chart : WiredChart) where
  -- what has occurred does not occur again
  new_later : (past xs : List ℕ) (y : ℕ) → Steps (MayCome chart) past xs → occurs past y ≡ true → occurs xs y ≡ false
  unfolding occurs
  new_later past [] y h k = refl
  new_later past (x ∷ xs) y h k =
      by_test (eqb x y)
      (λ same. clash (subst (λ (z : ℕ). occurs past z ≡ true) (sym (eqb-true x y same)) k) h.0.new)
      (λ other. rw other (new_later (past ++ x ∷ []) xs y h.1 (occurs-left past (x ∷ []) y k)))

  -- a run has no event twice
  pub distinct : (past xs : List ℕ) → Steps (MayCome chart) past xs → IsDistinct xs
  distinct past [] h = tt
  distinct past (x ∷ xs) h =
      (new_later (past ++ x ∷ []) xs x h.1 (occurs-push past x), distinct (past ++ x ∷ []) xs h.1)

  module _ (past : List ℕ) (x : ℕ) where
    -- an output stays in its queue, unless x is its input
    waiting_after : (q z : ℕ) → is_waiting chart q (past ++ x ∷ []) z ≡ (is_waiting chart q past z && not (eqb x (partner chart.events z)))
    unfolding is_waiting occurs
    waiting_after q z =
        ap (λ b. (is_output chart.events z && eqb (queue chart z) q) && not b) (occurs-append past (x ∷ []) (partner chart.events z))
        ∙ tests (is_output chart.events z && eqb (queue chart z) q) (occurs past (partner chart.events z)) (eqb x (partner chart.events z))
      where
        -- what is neither the one nor the other is not the one, and then not the other
        tests : (a b d : Bool) → (a && not (b || (d || false))) ≡ ((a && not b) && not d)
        tests true true d = refl
        tests true false true = refl
        tests true false false = refl
        tests false b d = refl

    -- what is in a queue after x, from what was in it
    state_after : (q : ℕ) → state chart q (past ++ x ∷ [])
        ≡ filter (is_waiting chart q (past ++ x ∷ [])) past ++ cond (is_waiting chart q (past ++ x ∷ []) x) (x ∷ []) []
    state_after q = filter-append (is_waiting chart q (past ++ x ∷ [])) past (x ∷ [])

    -- where x is no input of what is in a queue, all that is in the queue stays
    kept : (q : ℕ) → ((z : ℕ) → is_waiting chart q past z ≡ true → x ≢ partner chart.events z)
        → filter (is_waiting chart q (past ++ x ∷ [])) past ≡ state chart q past
    kept q other =
        filter_agree (is_waiting chart q (past ++ x ∷ [])) (is_waiting chart q past)
        (λ z. waiting_after q z ∙ by_test (is_waiting chart q past z)
        (λ there. rw (there, ne_eqb x (partner chart.events z) (other z there)) refl)
        (λ out. rw out refl))
        past

    module _ (is_wired : IsWired chart) (run : Run chart past) (may : MayCome chart past x) where
      -- x is not its own partner, nor has its partner occurred where x is an output
      partner_new : is_output chart.events x ≡ true → occurs past (partner chart.events x) ≡ false
      partner_new o =
          by_test (occurs past (partner chart.events x))
          (λ there.
          let r : ℕ = partner chart.events x in
          let at_r = step_at (MayCome chart) past r run there in
          let first = first_occurs (is_waiting chart (queue chart r) (until past r)) (until past r) (partner chart.events r) (at_r.1.input (partner_of_output chart.events is_wired.matched x o)) in
          let x_there : occurs (until past r) x ≡ true = subst (λ (z : ℕ). occurs (until past r) z ≡ true) (is_wired.matched.to_and_fro x may.event) first.0 in
          clash (until-within past r x x_there) may.new)
          (λ out. out)

      -- an output is the input of nothing
      output_takes_none : is_output chart.events x ≡ true → (q z : ℕ) → is_waiting chart q past z ≡ true → x ≢ partner chart.events z
      output_takes_none o q z there same =
          let z_out = (waiting_parts chart q past z there).0 in
          not_both chart.events x o (subst (λ (y : ℕ). is_input chart.events y ≡ true) (sym same) (partner_of_output chart.events is_wired.matched z z_out))

      -- an output joins the end of its queue
      pub state_sent : is_output chart.events x ≡ true → state chart (queue chart x) (past ++ x ∷ []) ≡ state chart (queue chart x) past ++ x ∷ []
      state_sent o =
          let there : is_waiting chart (queue chart x) past x ≡ true = waiting_from chart (queue chart x) past x o refl (partner_new o) in
          let own : is_waiting chart (queue chart x) (past ++ x ∷ []) x ≡ true = waiting_after (queue chart x) x ∙ rw (there, ne_eqb x (partner chart.events x) (output_takes_none o (queue chart x) x there)) refl in
          state_after (queue chart x)
          ∙ ap (λ b. filter (is_waiting chart (queue chart x) (past ++ x ∷ [])) past ++ cond b (x ∷ []) []) own
          ∙ ap (λ l. l ++ x ∷ []) (kept (queue chart x) (output_takes_none o (queue chart x)))

      -- x joins no queue of which it is no output
      out_of : (q : ℕ) → is_waiting chart q past x ≡ false
          → ((z : ℕ) → is_waiting chart q past z ≡ true → x ≢ partner chart.events z)
          → state chart q (past ++ x ∷ []) ≡ state chart q past
      out_of q out other =
          let own : is_waiting chart q (past ++ x ∷ []) x ≡ false = waiting_after q x ∙ rw out refl in
          state_after q ∙ ap (λ b. filter (is_waiting chart q (past ++ x ∷ [])) past ++ cond b (x ∷ []) []) own
          ∙ append-nil _ ∙ kept q other

      -- an output leaves other queues as they were
      pub state_sent_elsewhere : is_output chart.events x ≡ true → (q : ℕ) → queue chart x ≢ q → state chart q (past ++ x ∷ []) ≡ state chart q past
      state_sent_elsewhere o q other =
          out_of q (by_test (is_waiting chart q past x) (λ there. absurd (other (waiting_parts chart q past x there).1)) (λ out. out))
          (output_takes_none o q)

      -- an input is in no queue
      input_waits_not : is_input chart.events x ≡ true → (q : ℕ) → is_waiting chart q past x ≡ false
      input_waits_not i q =
          by_test (is_waiting chart q past x) (λ there. absurd (not_both chart.events x (waiting_parts chart q past x there).0 i)) (λ out. out)

      -- an input leaves other queues as they were
      pub state_taken_elsewhere : is_input chart.events x ≡ true → (q : ℕ) → queue chart x ≢ q → state chart q (past ++ x ∷ []) ≡ state chart q past
      state_taken_elsewhere i q other =
          out_of q (input_waits_not i q)
          (λ z there same.
          let z_is = waiting_parts chart q past z there in
          let queues = is_wired.one_queue z (output_below chart.events z z_is.0) in
          other (ap (λ y. queue chart y) same ∙ queues ∙ z_is.1))

      -- an input takes the first of its queue
      pub state_taken : is_input chart.events x ≡ true → (rest : List ℕ) → state chart (queue chart x) past ≡ partner chart.events x ∷ rest
          → state chart (queue chart x) (past ++ x ∷ []) ≡ rest
      state_taken i rest full =
          let q : ℕ = queue chart x in
          let s : ℕ = partner chart.events x in
          let own : is_waiting chart q (past ++ x ∷ []) x ≡ false = waiting_after q x ∙ rw (input_waits_not i q) refl in
          let same_test : (z : ℕ) → is_waiting chart q (past ++ x ∷ []) z ≡ (is_waiting chart q past z && not (eqb z s)) = λ z. waiting_after q z ∙ by_test (is_waiting chart q past z)
          (λ there. ap (λ b. is_waiting chart q past z && not b) (same_pair z there))
          (λ out. rw out refl) in
          let all : IsDistinct (s ∷ rest) = subst IsDistinct full (distinct_filter (is_waiting chart q past) past (distinct [] past run)) in
          state_after q ∙ ap (λ b. filter (is_waiting chart q (past ++ x ∷ [])) past ++ cond b (x ∷ []) []) own
          ∙ append-nil _
          ∙ filter_agree (is_waiting chart q (past ++ x ∷ [])) (λ z. is_waiting chart q past z && not (eqb z s)) same_test past
          ∙ filter_twice (is_waiting chart q past) (λ z. not (eqb z s)) past
          ∙ ap (λ l. filter (λ z. not (eqb z s)) l) full
          ∙ rw (eq-eqb s s refl) (filter_absent rest s all.0)
        where
          -- x is the input of an output that waits where that is the output of x
          same_pair : (z : ℕ) → is_waiting chart (queue chart x) past z ≡ true → eqb x (partner chart.events z) ≡ eqb z (partner chart.events x)
          same_pair z there =
              let below = output_below chart.events z (waiting_parts chart (queue chart x) past z there).0 in
              by_test (eqb z (partner chart.events x))
              (λ same. rw same (eq-eqb x (partner chart.events z) (sym (ap (λ y. partner chart.events y) (eqb-true z (partner chart.events x) same) ∙ is_wired.matched.to_and_fro x may.event))))
              (λ other. rw other (ne_eqb x (partner chart.events z) (λ same.
              clash (eq-eqb z (partner chart.events x) (sym (ap (λ y. partner chart.events y) same ∙ is_wired.matched.to_and_fro z below))) other)))

      -- a local event leaves all queues as they were
      pub state_passed : is_local chart.events x ≡ true → (q : ℕ) → state chart q (past ++ x ∷ []) ≡ state chart q past
      state_passed l q =
          let other : is_local chart.events x ≡ false → ⊥ = λ b. clash l b in
          out_of q
          (by_test (is_waiting chart q past x)
          (λ there. absurd (other (output_not_local chart.events x (waiting_parts chart q past x there).0))) (λ out. out))
          (λ z there same.
          let input = partner_of_output chart.events is_wired.matched z (waiting_parts chart q past z there).0 in
          other (input_not_local chart.events x (subst (λ (y : ℕ). is_input chart.events y ≡ true) (sym same) input)))
