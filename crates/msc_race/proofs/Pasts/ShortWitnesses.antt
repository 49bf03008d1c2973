-- The short witness of two events is a run that shows that the first is not needed for the second.
use Rattle.std.proofs.Common.{◌≡◌, ℕ, ◌<◌, true, false, cond, ◌||◌, inl, inr, eqb, List, [], ◌∷◌, ◌++◌, length, refl, sym, ap, ◌∙◌, subst, append_assoc}
use Rattle.std.proofs.lemmas.Bool.{eq-eqb, false_from_ne_true}
use Rattle.msc_chart.specs.Lists.{occurs, until, Steps}
use Rattle.msc_chart.specs.Orders.{WiredChart, IsWired}
use Rattle.msc_chart.specs.Runs.{Run, MayCome}
use Rattle.msc_chart.specs.Witness.{IsFree}
use Rattle.msc_chart.proofs.ListLemmas.{clash, parts, until-self, until-within, occurs-head, occurs-left, occurs-push, occurs-right, occurs-tail, occurs_other, step_at, Steps-map, Steps-parts}
use Rattle.msc_race.specs.Reversals.{ComesFirst}
use Rattle.msc_race.specs.Short.{HasNeeded, IsWitnessUpTo, IsLeastRun, IsNeeded, IsNeededRun, IsShortNext, IsShortWitness, MayComeFor, ShowsWithout}
use Rattle.msc_race.proofs.Runs.Witnesses.{witness_reverses, witness_unique, witness_whole, least_unique}
use Rattle.msc_race.proofs.Runs.Respects.{kept}
use Rattle.msc_race.proofs.Pasts.Pigeons.{no_longer}
use Rattle.msc_race.proofs.Pasts.SameSteps.{IsStuck, stuck_same, within_stuck}

-- before a number that is put at the end, and is new, stands the list
until_push : (xs : List ℕ) (f : ℕ) → occurs xs f ≡ false → until (xs ++ f ∷ []) f ≡ xs
unfolding occurs until
until_push [] f out = rw (eq-eqb f f refl) refl
until_push (x ∷ xs) f out =
    (elim (eqb x f) as (λ b. (b || occurs xs f) ≡ false → cond b [] (x ∷ until (xs ++ f ∷ []) f) ≡ x ∷ xs) [
      | true ↦ λ k. cc
      | false ↦ λ k. ap (λ l. x ∷ l) (until_push xs f k)
    ]) out

module _ (chart : WiredChart) where
  -- The beginning of a short witness is a run.
  pub short_steps : (f : ℕ) (events : List ℕ) → Steps (IsShortNext chart f) [] events → Run chart events
  short_steps f events steps =
      Steps-map (IsShortNext chart f) (MayCome chart) (λ past x next. next.itself.may) [] events steps

  -- of the past of f one event at most comes next
  pub one_next : (f : ℕ) (past : List ℕ) (x y : ℕ) → IsShortNext chart f past x → IsShortNext chart f past y → x ≡ y
  one_next f past x y h k = least_unique (MayComeFor chart f past) x y h k

  -- each event so far is of the past of f
  each_needed : (f : ℕ) (events : List ℕ) → Steps (IsShortNext chart f) [] events → (x : ℕ) → occurs events x ≡ true
      → IsNeeded chart f x
  each_needed f events steps x there = (step_at (IsShortNext chart f) events x steps there).1.itself.needed

  -- when all of the past of f has come, nothing of it comes next
  none_after : (f : ℕ) (events : List ℕ) → HasNeeded chart f events → IsStuck (IsShortNext chart f) (one_next f) events
  none_after f events all x next = clash (all x next.itself.needed) next.itself.may.new

  -- Where the events so far lack f and nothing comes next, the past of f does not all come.
  pub never_needed : (f : ℕ) (events : List ℕ) → Steps (IsShortNext chart f) [] events
      → IsStuck (IsShortNext chart f) (one_next f) events → occurs events f ≡ false
      → (other : List ℕ) → IsNeededRun chart f other → ⊥
  never_needed f events steps stuck out other whole =
      clash (within_stuck (IsShortNext chart f) (one_next f) [] events other steps whole.0 stuck f (whole.1 f (inl refl))) out

  -- There is one short witness at most.
  pub short_unique : (e f : ℕ) (xs ys : List ℕ) → IsShortWitness chart e f xs → IsShortWitness chart e f ys → xs ≡ ys
  short_unique e f xs ys h k =
      elim h [
        | inl a ↦ elim k [
          | inl b ↦ stuck_same (IsShortNext chart f) (one_next f) [] xs ys a.0 b.0 (none_after f xs a.1) (none_after f ys b.1)
          | inr b ↦ absurd (b.0 xs a)
        ]
        | inr a ↦ elim k [
          | inl b ↦ absurd (a.0 ys b)
          | inr b ↦
              let same = witness_unique chart e a.1.0 b.1.0 a.1.1 b.1.1 in
              a.1.2 ∙ ap (λ (l : List ℕ). until l f ++ f ∷ []) same ∙ sym b.1.2
        ]
      ]

  -- The witness of e up to f is a run that ends with f, and does not have e.
  pub witness_shows : (e f : ℕ) → f < length chart.events → (ComesFirst chart e f → ⊥) → (events : List ℕ)
      → IsWitnessUpTo chart e f events → ShowsWithout chart e f events
  witness_shows e f below apart events upto =
      let whole : List ℕ = upto.0 in
      let run = (witness_whole chart e whole upto.1).0 in
      let free : IsFree chart e f = (below, λ same. apart (inl (sym same)), λ after. apart (inr after)) in
      let reverses = witness_reverses chart e whole upto.1 f free in
      let p = parts whole f reverses.0 in
      let front : List ℕ = until whole f in
      let cut : whole ≡ (front ++ f ∷ []) ++ p.0 = p.1 ∙ sym (append_assoc front (f ∷ []) p.0) in
      let both = Steps-parts (MayCome chart) [] (front ++ f ∷ []) p.0 (subst (λ (l : List ℕ). Run chart l) cut run) in
      subst (λ (l : List ℕ). ShowsWithout chart e f l) (sym upto.2) (record {
        run = both.0;
        last = ap (λ (l : List ℕ). l ++ f ∷ []) (sym (until_push front f (until-self whole f)));
        without = occurs_other front f e (λ same. apart (inl same)) ∙ reverses.1;
      })

module _ (chart : WiredChart) (is_wired : IsWired chart) where
  -- Each run that has f has all of the past of f.
  pub all_needed : (events : List ℕ) → Run chart events → (f : ℕ) → occurs events f ≡ true → HasNeeded chart f events
  all_needed events run f there x needed =
      elim needed [
        | inl same ↦ subst (λ (z : ℕ). occurs events z ≡ true) (sym same) there
        | inr link ↦ until-within events f x (kept chart is_wired events run x f link there)
      ]

  -- Where all events of a run are of the past of f, nothing comes behind f: it would have come
  -- before.
  ends_so : (events : List ℕ) → Run chart events → (f : ℕ) → occurs events f ≡ true
      → ((x : ℕ) → occurs events x ≡ true → IsNeeded chart f x) → (rest : List ℕ) → events ≡ until events f ++ f ∷ rest
      → events ≡ until events f ++ f ∷ []
  ends_so events run f there each [] is = is
  ends_so events run f there each (y ∷ ys) is =
      let front : List ℕ = until events f in
      let both = Steps-parts (MayCome chart) [] front (f ∷ y ∷ ys) (subst (λ (l : List ℕ). Run chart l) is run) in
      let new : occurs (front ++ f ∷ []) y ≡ false = both.1.1.0.new in
      let behind = occurs-right front (f ∷ y ∷ ys) y (occurs-tail f (y ∷ ys) y (occurs-head y ys)) in
      elim (each y (subst (λ (l : List ℕ). occurs l y ≡ true) (sym is) behind)) [
        | inl same ↦ clash (subst (λ (z : ℕ). occurs (front ++ f ∷ []) z ≡ true) (sym same) (occurs-push front f)) new
        | inr link ↦ clash (occurs-left front (f ∷ []) y (kept chart is_wired events run y f link there)) new
      ]

  -- The past of f, as it comes so, is a run that ends with f, and does not have e.
  pub needed_shows : (e f : ℕ) → (ComesFirst chart e f → ⊥) → (events : List ℕ) → IsNeededRun chart f events
      → ShowsWithout chart e f events
  needed_shows e f apart events whole =
      let run = short_steps chart f events whole.0 in
      let each = each_needed chart f events whole.0 in
      let there = whole.1 f (inl refl) in
      let p = parts events f there in
      record {
        run = run;
        last = ends_so events run f there each p.0 p.1;
        without = false_from_ne_true _ (λ has. apart (each e has));
      }

  -- And no run that has f is shorter.
  pub needed_least : (f : ℕ) (events : List ℕ) → IsNeededRun chart f events → IsLeastRun chart f events
  needed_least f events whole =
      let each = each_needed chart f events whole.0 in
      let once = Steps-map (MayCome chart) (λ past x. occurs past x ≡ false) (λ past x may. may.new) [] events (short_steps chart f events whole.0) in
      record {
        exactly = λ x. (each x, whole.1 x);
        fewest = λ other run there. no_longer events other once (λ x has. all_needed other run f there x (each x has));
      }

  -- So in both cases.
  pub short_shows : (e f : ℕ) → f < length chart.events → (ComesFirst chart e f → ⊥) → (events : List ℕ) → IsShortWitness chart e f events
      → ShowsWithout chart e f events
  short_shows e f below apart events short =
      elim short [
        | inl whole ↦ needed_shows e f apart events whole
        | inr upto ↦ witness_shows chart e f below apart events upto.1
      ]
