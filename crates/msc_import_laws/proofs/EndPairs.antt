-- Each end of a message has its other end.
use Rattle.std.proofs.Common.{◌≡◌, ℕ, zero, suc, Bool, true, false, not, sym, eqb, [], ◌∷◌, refl, ap, subst, ◌∙◌}
use Rattle.std.proofs.lemmas.Bool.{and_parts, eqb-true, eq-eqb}
use Rattle.msc_chart.specs.Lists.{Occurs}
use Rattle.msc_chart.proofs.ListLemmas.{by_test, clash}
use Rattle.msc_scenarios.specs.declared.steps.Message.{Message}
use Rattle.msc_import.specs.declared.plan.Own.{Own}
use Rattle.msc_import.specs.declared.plan.Own.TheVariants as owns
use Rattle.msc_import.specs.Plans.{is_exchange}
use Rattle.msc_import_laws.proofs.Parts.Side.{Out, In, OutBack, InBack}
use Rattle.msc_import_laws.proofs.EndLists.{at_home, home}
use Rattle.msc_import_laws.proofs.Parts.{Side, is_back, sides_by, sides_on, single_by}

-- a lost message is no message of the chart
out_goes : (own : Own) (lost from to : Bool) → Occurs (single_by own lost from to) Out → lost ≡ false
out_goes own true true to (zero, h) = cc
out_goes own true true to (suc j, h) = cc
out_goes own true false to (j, h) = cc
out_goes own false from to h = refl

in_comes : (own : Own) (lost from to : Bool) → Occurs (single_by own lost from to) In → lost ≡ false
in_comes own true true to (zero, h) = cc
in_comes own true true to (suc j, h) = cc
in_comes own true false to (j, h) = cc
in_comes own false from to h = refl

-- a message to oneself has both of its ends or none
both_in : (own : Own) → Occurs (single_by own false true true) Out → Occurs (single_by own false true true) In
both_in owns.Action (zero, h) = cc
both_in owns.Action (suc j, h) = cc
both_in owns.Message h = (1, refl)

both_out : (own : Own) → Occurs (single_by own false true true) In → Occurs (single_by own false true true) Out
both_out owns.Action (zero, h) = cc
both_out owns.Action (suc j, h) = cc
both_out owns.Message h = (0, refl)

-- an end of a message that is sent back is one of an arrow with two heads
no_single_back : (own : Own) (lost from to : Bool) (s : Side) → is_back s ≡ true → Occurs (single_by own lost from to) s → ⊥
no_single_back own true true to s b (zero, h) = cc
no_single_back own true true to s b (suc j, h) = cc
no_single_back own true false to s b (j, h) = cc
no_single_back owns.Action false true true s b (zero, h) = cc
no_single_back owns.Action false true true s b (suc j, h) = cc
no_single_back owns.Message false true true s b (zero, h) = cc
no_single_back owns.Message false true true s b (suc zero, h) = cc
no_single_back owns.Message false true true s b (suc (suc j), h) = cc
no_single_back own false true false s b (zero, h) = cc
no_single_back own false true false s b (suc j, h) = cc
no_single_back own false false true s b (zero, h) = cc
no_single_back own false false true s b (suc j, h) = cc
no_single_back own false false false s b (j, h) = cc

back_is_pair : (own : Own) (pair lost from to : Bool) (s : Side) → is_back s ≡ true → Occurs (sides_by own pair lost from to) s → pair ≡ true
back_is_pair own true lost from to s b o = refl
back_is_pair own false lost from to s b o = absurd (no_single_back own lost from to s b o)

-- different numbers
not_same : (i j : ℕ) → (i ≡ j → ⊥) → eqb i j ≡ false
not_same i j h = by_test (eqb i j) (λ same. absurd (h (eqb-true i j same))) (λ other. other)

pub no_truth : (b : Bool) → not b ≡ true → b ≡ false
no_truth true h = cc
no_truth false h = refl

-- two lines send each other a message, so they are two
exchange_apart : (m : Message) → is_exchange m ≡ true → eqb m.from m.to ≡ false
unfolding is_exchange
exchange_apart m h = no_truth (eqb m.from m.to) (and_parts _ _ h).1

pub back_apart : (own : Own) (line : ℕ) (m : Message) (s : Side) → is_back s ≡ true → Occurs (sides_on own line m) s → m.from ≡ m.to → ⊥
back_apart own line m s b o e =
    clash (eq-eqb m.from m.to e) (exchange_apart m (back_is_pair own (is_exchange m) m.lost (eqb m.from line) (eqb m.to line) s b o))

-- the sides by what the tests are known to tell
sides_if : (own : Own) (line : ℕ) (m : Message) (pair lost from to : Bool) → is_exchange m ≡ pair → m.lost ≡ lost → eqb m.from line ≡ from → eqb m.to line ≡ to → sides_on own line m ≡ sides_by own pair lost from to
sides_if own line m pair lost from to p a b c =
    ap (λ (x : Bool). sides_by own x m.lost (eqb m.from line) (eqb m.to line)) p ∙ ap (λ (x : Bool). sides_by own pair x (eqb m.from line) (eqb m.to line)) a
    ∙ ap (λ (x : Bool). sides_by own pair lost x (eqb m.to line)) b ∙ ap (λ (x : Bool). sides_by own pair lost from x) c

-- the ends of an arrow with two heads
module _ (own : Own) (m : Message) (pair : is_exchange m ≡ true) where
  on_from : sides_on own m.from m ≡ Out ∷ InBack ∷ []
  on_from = sides_if own m.from m true m.lost true (eqb m.to m.from) pair refl (eq-eqb m.from m.from refl) refl

  on_to : sides_on own m.to m ≡ OutBack ∷ In ∷ []
  on_to = sides_if own m.to m true m.lost false true pair refl (exchange_apart m pair) (eq-eqb m.to m.to refl)

module _ (own : Own) (line : ℕ) (m : Message) where
  -- where a message goes out of a line, it comes in on the line that it goes to
  pub comes_in : Occurs (sides_on own line m) Out → Occurs (sides_on own m.to m) In
  unfolding home
  comes_in o =
      by_test (is_exchange m)
      (λ pair. subst (λ l. Occurs l In) (sym (on_to own m pair)) (1, refl))
      (λ single.
      let p = subst (λ (x : Bool). Occurs (sides_by own x m.lost (eqb m.from line) (eqb m.to line)) Out) single o in
      let lost : m.lost ≡ false = out_goes own m.lost (eqb m.from line) (eqb m.to line) p in
      let here : line ≡ m.from = at_home own line m Out o in
      by_test (eqb m.to line)
      (λ same.
      let there : m.to ≡ line = eqb-true m.to line same in
      let tests = sides_if own line m false false true true single lost (eq-eqb m.from line (sym here)) same in
      subst (λ (l : ℕ). Occurs (sides_on own l m) In) (sym there) (subst (λ l. Occurs l In) (sym tests) (both_in own (subst (λ l. Occurs l Out) tests o))))
      (λ other.
      let apart : eqb m.from m.to ≡ false = not_same m.from m.to (λ e. clash (eq-eqb m.to line (sym (here ∙ e))) other) in
      subst (λ l. Occurs l In) (sym (sides_if own m.to m false false false true single lost apart (eq-eqb m.to m.to refl))) (0, refl)))

  -- and the other way
  pub goes_out : Occurs (sides_on own line m) In → Occurs (sides_on own m.from m) Out
  unfolding home
  goes_out o =
      by_test (is_exchange m)
      (λ pair. subst (λ l. Occurs l Out) (sym (on_from own m pair)) (0, refl))
      (λ single.
      let p = subst (λ (x : Bool). Occurs (sides_by own x m.lost (eqb m.from line) (eqb m.to line)) In) single o in
      let lost : m.lost ≡ false = in_comes own m.lost (eqb m.from line) (eqb m.to line) p in
      let here : line ≡ m.to = at_home own line m In o in
      by_test (eqb m.from line)
      (λ same.
      let there : m.from ≡ line = eqb-true m.from line same in
      let tests = sides_if own line m false false true true single lost same (eq-eqb m.to line (sym here)) in
      subst (λ (l : ℕ). Occurs (sides_on own l m) Out) (sym there) (subst (λ l. Occurs l Out) (sym tests) (both_out own (subst (λ l. Occurs l In) tests o))))
      (λ other.
      let apart : eqb m.to m.from ≡ false = not_same m.to m.from (λ e. clash (eq-eqb m.from line (sym (here ∙ e))) other) in
      subst (λ l. Occurs l Out) (sym (sides_if own m.from m false false true false single lost (eq-eqb m.from m.from refl) apart)) (0, refl)))

  -- the same of what is sent back
  pub comes_back : Occurs (sides_on own line m) OutBack → Occurs (sides_on own m.from m) InBack
  comes_back o =
      let pair = back_is_pair own (is_exchange m) m.lost (eqb m.from line) (eqb m.to line) OutBack refl o in
      subst (λ l. Occurs l InBack) (sym (on_from own m pair)) (1, refl)

  pub goes_back : Occurs (sides_on own line m) InBack → Occurs (sides_on own m.to m) OutBack
  goes_back o =
      let pair = back_is_pair own (is_exchange m) m.lost (eqb m.from line) (eqb m.to line) InBack refl o in
      subst (λ l. Occurs l OutBack) (sym (on_to own m pair)) (0, refl)
