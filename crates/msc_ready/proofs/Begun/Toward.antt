-- The way to the second output of a first blocked pair, and on to where the system has stuck.
use Rattle.std.proofs.Common.{◌≡◌, ℕ, ◌<◌, ◌⊎◌, Bool, true, false, inl, inr, List, [], ◌∷◌, ◌++◌, length, refl, sym, ap, ◌∙◌, subst, append_assoc}
use Rattle.std.specs.Prelude.{IsTrue, IfNone, MatchOption, Option, None, Some}
use Rattle.std.proofs.lemmas.Bool.{cases_eq, false_from_ne_true}
use Rattle.std.proofs.lemmas.List.{append-nil}
use Rattle.msc_chart.specs.Charts.{IsAcyclic, partner, is_input, is_output}
use Rattle.msc_chart.specs.Lists.{occurs, until, IsLeast, Steps}
use Rattle.msc_chart.specs.Orders.{WiredChart, IsWired}
use Rattle.msc_chart.specs.Runs.{Reverses}
use Rattle.msc_ready.specs.Readiness.{MayComeReady, ReadyRun, ReadyOrder}
use Rattle.msc_ready.specs.Running.{GoesOnAs, HasOutputsUpTo, IsBlockedPairNext, IsBlockedPairRun, IsTowardNext, IsUpTo}
use Rattle.msc_ready.specs.BlockedPairs.{IsFirstBlockedPair}
use Rattle.msc_ready.proofs.Shared.{by_test, clash, count_below, is_left, left_less, not_both, occurs-left, occurs_other, partner_of_input, until-append, until-within}
use Rattle.msc_ready.proofs.Runs.Final.{final, lined_of, outputs_differ}
use Rattle.msc_ready.proofs.Runs.Growing.{everything}
use Rattle.msc_ready.proofs.Runs.Keeping.{HaveOneLine}
use Rattle.msc_ready.proofs.Runs.Sticking.{toward_next}

-- what follows from finding none
pub if_none : {A P : Type 0} (B : ℕ → Type 0) (found : Option ℕ) → MatchOption found A B → (A → P) → IfNone found P
if_none B None told f = f told
if_none B (Some x) told f = tt

-- one more event leaves fewer
pub less_after : (n : ℕ) (run next : List ℕ) (x : ℕ) → x < n → occurs run x ≡ false → next ≡ run ++ x ∷ []
    → count_below (is_left everything next) n < count_below (is_left everything run) n
less_after n run next x below new same = rw same (left_less everything run n x below refl new)

-- a list goes on as itself
pub goes_on_same : (xs : List ℕ) → GoesOnAs xs xs
goes_on_same xs = ([], sym (append-nil xs))

-- and one item further
pub goes_on_more : (xs ys zs : List ℕ) (x : ℕ) → GoesOnAs xs ys → zs ≡ ys ++ x ∷ [] → GoesOnAs xs zs
goes_on_more xs ys zs x on same =
    (on.0 ++ x ∷ [], same ∙ ap (λ (l : List ℕ). l ++ x ∷ []) on.1 ∙ append_assoc xs on.0 (x ∷ []))

-- what occurs still does when the list goes on
pub still_there : (xs ys : List ℕ) (t : ℕ) → GoesOnAs xs ys → occurs xs t ≡ true → occurs ys t ≡ true
still_there xs ys t on there = subst (λ (l : List ℕ). occurs l t ≡ true) (sym on.1) (occurs-left xs on.0 t there)

-- the least of all events that may come
pub least_of_all : (chart : WiredChart) (ready : ℕ → Bool) (past : List ℕ) (x : ℕ) → IsLeast (λ y. Unit {0} × MayComeReady chart ready past y) x
    → IsLeast (MayComeReady chart ready past) x
least_of_all chart ready past x least = record { itself = least.itself.1; none_below = λ y less may. least.none_below y less (tt, may) }

module _ (chart : WiredChart) (ready : ℕ → Bool) (t : ℕ) where
  -- no output has occurred yet
  pub none_sent : HasOutputsUpTo chart ready t []
  unfolding occurs
  none_sent s o there = clash there refl

  -- x may come next on the way to t: it is t, stands before it, or is an input
  abbrev pub ComesToward : List ℕ → ℕ → Type 0
  ComesToward past x =
      MayComeReady chart ready past x × (IsUpTo chart ready t x ⊎ IsTrue (is_input chart.events x))

  -- so it is for what comes next
  pub comes_so : (past : List ℕ) (x : ℕ) → IsTowardNext chart ready t past x → ComesToward past x
  comes_so past x next =
      elim next.least [ inl up ↦ (up.itself.1, inl up.itself.0) | inr other ↦ (other.1.itself.1, inr other.1.itself.0) ]

  -- what comes on the way to t keeps that
  pub sent_after : (run next : List ℕ) (x : ℕ) → HasOutputsUpTo chart ready t run → ComesToward run x → next ≡ run ++ x ∷ []
      → HasOutputsUpTo chart ready t next
  sent_after run next x before comes same s o there =
      by_test (occurs run s) (λ early. before s o early)
      (λ new.
      let last : occurs (run ++ x ∷ []) s ≡ true = subst (λ (l : List ℕ). occurs l s ≡ true) same there in
      let is : s ≡ x = only run s x last new in
      elim comes.1 [
        | inl up ↦ subst (λ (z : ℕ). IsUpTo chart ready t z) (sym is) up
        | inr i ↦ absurd (not_both chart.events x (subst (λ (z : ℕ). is_output chart.events z ≡ true) is o) i)
      ])
    where
      -- what is new occurs because it was put last
      only : (run : List ℕ) (s x : ℕ) → occurs (run ++ x ∷ []) s ≡ true → occurs run s ≡ false → s ≡ x
      only run s x there new =
          elim (cases_eq s x) [ inl same ↦ same | inr other ↦ clash there (occurs_other run x s other ∙ new) ]

module _ (chart : WiredChart) (is_wired : IsWired chart) (lines : HaveOneLine chart) (acyclic : IsAcyclic chart.events) (ready : ℕ → Bool)
    (e f t : ℕ) (first : IsFirstBlockedPair chart ready e f) (is : t ≡ partner chart.events f) where
  -- before t has occurred, something comes on the way to it
  pub comes_toward : (past : List ℕ) → ReadyRun chart ready past → HasOutputsUpTo chart ready t past → occurs past t ≡ false
      → (x : ℕ) × ComesToward chart ready t past x
  comes_toward past run outs new =
      let new_out : occurs past (partner chart.events f) ≡ false = subst (λ (z : ℕ). occurs past z ≡ false) is new in
      let next = toward_next chart is_wired lines acyclic ready e f first past run
      (λ s o there. elim (outs s o there) [
        | inl same ↦ clash there (subst (λ (z : ℕ). occurs past z ≡ false) (sym same) new)
        | inr h ↦ subst (λ (z : ℕ). ReadyOrder chart ready s z) is h
      ]) new_out in (
        next.0,
        (
          next.1,
          elim next.2 [
            | inl up ↦ inl (elim up [ inl same ↦ inl (same ∙ sym is) | inr h ↦ inr (subst (λ (z : ℕ). ReadyOrder chart ready next.0 z) (sym is) h) ])
            | inr i ↦ inr i
          ],
        ),
      )

module _ (chart : WiredChart) (is_wired : IsWired chart) (ready : ℕ → Bool)
    (e f t : ℕ) (first : IsFirstBlockedPair chart ready e f) (is : t ≡ partner chart.events f) where
  -- Where t has occurred on the way there, the first output has not. So the run is one for the
  -- blocked pair once no event may come.
  pub blocked_pair_run : (front whole : List ℕ) → HasOutputsUpTo chart ready t front → occurs front t ≡ true → GoesOnAs front whole
      → ReadyRun chart ready whole → ((x : ℕ) → MayComeReady chart ready whole x → ⊥) → Steps (IsBlockedPairNext chart ready t) [] whole
      → IsBlockedPairRun chart ready e f whole
  blocked_pair_run front whole outs there on run none witness =
      let lined = lined_of chart ready e f first.blocked_pair in
      let e_out = partner_of_input chart.events is_wired.matched e first.blocked_pair.inputs.0 in
      let t_there : occurs front (partner chart.events f) ≡ true = subst (λ (z : ℕ). occurs front z ≡ true) is there in
      let late : occurs (until front (partner chart.events f)) (partner chart.events e) ≡ false = false_from_ne_true _
      (λ early. elim (outs (partner chart.events e) e_out (until-within front _ _ early)) [
        | inl same ↦ outputs_differ chart is_wired ready e f lined (sym (same ∙ is))
        | inr h ↦ first.blocked_pair.free (subst (λ (z : ℕ). ReadyOrder chart ready (partner chart.events e) z) is h)
      ]) in
      let reverses : Reverses front (partner chart.events e) (partner chart.events f) = (t_there, late) in
      let longer : ReadyRun chart ready (front ++ on.0) = subst (λ (l : List ℕ). ReadyRun chart ready l) on.1 run in
      record {
        witness = subst (λ (z : ℕ). Steps (IsBlockedPairNext chart ready z) [] whole) is witness;
        stuck = record {
          run = run;
          unfinished = λ all. final chart is_wired ready e f lined front on.0 longer reverses
              (subst (λ (l : List ℕ). (x : ℕ) → x < length chart.events → IsTrue (occurs l x)) on.1 all);
          none = none;
        };
        reverses = subst (λ (l : List ℕ). Reverses l (partner chart.events e) (partner chart.events f)) (sym on.1) (
          occurs-left front on.0 (partner chart.events f) t_there,
          ap (λ (l : List ℕ). occurs l (partner chart.events e)) (until-append front on.0 (partner chart.events f) t_there) ∙ late,
        );
      }
