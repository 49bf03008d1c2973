-- Tests that compute: that a list is a run, and that partners match and have one queue.
use Rattle.std.proofs.Common.{◌≡◌, ℕ, ◌<◌, Bool, true, false, cond, ◌&&◌, ◌||◌, not, inl, inr, eqb, ltb, List, [], ◌∷◌, ◌++◌, length, refl, subst}
use Rattle.std.proofs.lemmas.Bool.{ltb-true, eqb-true, and_parts, and_from, or_cases, not-true, not-false, not_from_false, false_from_ne_true}
use Rattle.msc_chart.specs.Lists.{occurs, until, IsFirst, Steps}
use Rattle.msc_chart.specs.Charts.{partner, is_output, is_input, is_local, is_controlled, before}
use Rattle.msc_chart.specs.Orders.{WiredChart, IsWired, queue}
use Rattle.msc_chart.specs.Runs.{MayCome, state}
use Rattle.msc_race.specs.Samples.{IsReversal}
use Rattle.msc_race.proofs.Shared.{by_test, clash, any_below, none_of_any}
use Rattle.msc_race.proofs.Runs.EventLemmas.{before_parts, controlled_no_input, local_parts}

-- s is the first of the list
abbrev is_first : List ℕ → ℕ → Bool
is_first [] s = false
is_first (x ∷ xs) s = eqb x s

-- the test says so
first_from : (xs : List ℕ) (s : ℕ) → is_first xs s ≡ true → IsFirst xs s
first_from [] s h = clash h refl
first_from (x ∷ xs) s h = eqb-true x s h

module _ (chart : WiredChart) where
  -- something that is drawn before x has not occurred
  abbrev is_missing : List ℕ → ℕ → Bool
  is_missing past x = any_below (λ y. before chart.events y x && not (occurs past y)) (length chart.events)

  -- a controlled event has all that is drawn before it behind it, and the message of an input is the
  -- first of its queue
  abbrev is_due : List ℕ → ℕ → Bool → Bool
  is_due past x controlled =
      cond controlled (not (is_missing past x)) (is_first (state chart (queue chart x) past) (partner chart.events x))

  -- x may come next
  abbrev may_come : List ℕ → ℕ → Bool
  may_come past x =
      (ltb x (length chart.events) && not (occurs past x)) && is_due past x (is_controlled chart.events x)

  -- each event of the list may come after those before it
  abbrev pub is_run : List ℕ → List ℕ → Bool
  is_run past [] = true
  is_run past (x ∷ xs) = may_come past x && is_run (past ++ x ∷ []) xs

  -- the test of an event says so
  may_from : (past : List ℕ) (x : ℕ) → may_come past x ≡ true → MayCome chart past x
  may_from past x h =
      let both = and_parts _ _ h in
      let own = and_parts _ _ both.0 in
      record {
        event = ltb-true _ _ own.0;
        new = not-true _ own.1;
        controlled = λ o y drawn.
            let none = not-true _ (subst (λ (controlled : Bool). is_due past x controlled ≡ true) o both.1) in
            by_test (occurs past y) (λ there. there)
            (λ out.
            let fails = none_of_any _ _ none y (before_parts chart.events y x drawn).0 in
            clash (and_from _ _ drawn (not_from_false _ out)) fails);
        input = λ i.
            let takes : is_controlled chart.events x ≡ false = false_from_ne_true _ (λ o. controlled_no_input chart.events x o i) in
            first_from _ _ (subst (λ (controlled : Bool). is_due past x controlled ≡ true) takes both.1);
      }

  -- so does the test of a run
  pub run_from : (past xs : List ℕ) → is_run past xs ≡ true → Steps (MayCome chart) past xs
  run_from past [] h = tt
  run_from past (x ∷ xs) h =
      let both = and_parts _ _ h in
      (may_from past x both.0, run_from (past ++ x ∷ []) xs both.1)

  -- some event of the chart is not in the list
  abbrev pub is_short : List ℕ → Bool
  is_short events = any_below (λ e. not (occurs events e)) (length chart.events)

  -- a run that reverses, by computing
  pub reversal_from : (events : List ℕ) (e f : ℕ) → is_run [] events ≡ true
      → is_short events ≡ false
      → occurs events f ≡ true → occurs (until events f) e ≡ false → IsReversal chart events e f
  reversal_from events e f runs whole there out = record {
    run = run_from [] events runs;
    whole = λ x below. not-false _ (none_of_any _ _ whole x below);
    reverses = (there, out);
  }

  -- the partner of e is an event of the other kind and of the same queue, whose partner is e; a local
  -- event is its own
  abbrev is_paired : ℕ → Bool
  is_paired e =
      (ltb (partner chart.events e) (length chart.events)
      && (eqb (partner chart.events (partner chart.events e)) e
      && (not (is_local chart.events e) || eqb (partner chart.events e) e)))
      && (eqb (queue chart (partner chart.events e)) (queue chart e)
      && cond (is_input chart.events e) (is_output chart.events (partner chart.events e))
      (not (is_output chart.events (partner chart.events e))))

  -- some event is not so
  abbrev pub is_unpaired : Bool
  is_unpaired = any_below (λ e. not (is_paired e)) (length chart.events)

  -- two tests that agree are equal
  same_from : (a b : Bool) → cond a b (not b) ≡ true → b ≡ a
  same_from true b h = h
  same_from false b h = not-true b h

  -- so partners match and have one queue, by computing
  pub wired_from : is_unpaired ≡ false → IsWired chart
  wired_from h =
      let each =
      λ (e : ℕ) (below : e < length chart.events). and_parts _ _ (not-false _ (none_of_any _ _ h e below)) in
      let own = λ (e : ℕ) (below : e < length chart.events). and_parts _ _ (and_parts _ _ (each e below).0).1 in
      record {
        matched = record {
          in_range = λ e below. ltb-true _ _ (and_parts _ _ (each e below).0).0;
          to_and_fro = λ e below. eqb-true _ _ (own e below).0;
          other_kind = λ e below. same_from _ _ (and_parts _ _ (each e below).1).1;
          own = λ e local. elim (or_cases _ _ (own e (local_parts chart.events e local).0).1) [
            | inl away ↦ clash local (not-true _ away)
            | inr same ↦ eqb-true _ _ same
          ];
        };
        one_queue = λ e below. eqb-true _ _ (and_parts _ _ (each e below).1).0;
      }
