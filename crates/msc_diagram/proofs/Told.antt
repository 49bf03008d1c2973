-- What is printed of the new races of a scenario.
use Rattle.std.proofs.Common.{◌≡◌, ℕ, ◌+◌, ◌<◌, List, [], ◌∷◌, ◌++◌, Option, Result, length, refl, sym, ap, ◌∙◌, subst, inl, inr, arith}
use Rattle.msc_judge.specs.Findings.{Texts}
use Rattle.msc_judge.specs.Telling.{told_from}
use Rattle.msc_diagram.specs.declared.check.ScenarioCheck.{ScenarioCheck}
use Rattle.msc_print.specs.Pages.{Puts}
use Rattle.msc_print.specs.declared.page.WriteFault.{WriteFault}
use Rattle.msc_diagram.specs.Places.{above_with}
use Rattle.msc_diagram.specs.Scenarios.{asked_of, new_in, told_text, AreTextsIf, AreTold, Case, TextsOf}
use Rattle.msc_diagram.specs.Telling.{PutsNew}
use Rattle.msc_diagram.specs.declared.place.EventPlace.{EventPlace}
use Rattle.msc_diagram.specs.declared.scenario.Scenario.{Scenario}

-- no texts
abbrev pub no_texts : Texts
no_texts = record { heading = λ h. []; run = λ run. []; finding = λ f line. []; end = λ stale totals. [] }

module _ (text : ℕ → ℕ × ℕ → List ℕ) (head : List ℕ) (most n : ℕ) where
  -- if there are some, the head precedes them
  pub told_some : (xs : List (ℕ × ℕ)) → 0 < length xs → told_text text head most n xs ≡ head ++ told_from text most n xs
  told_some [] some = absurd (omega (arith, some))
  told_some (x ∷ xs) some = refl

  -- if there are none, nothing is printed
  pub told_none : (xs : List (ℕ × ℕ)) → length xs ≡ 0 → told_text text head most n xs ≡ []
  told_none [] none = refl
  told_none (x ∷ xs) none = absurd (omega (arith, none))

module _ (are : TextsOf) (i first : ℕ) (s : Scenario) (texts : Texts) where
  -- of no races nothing has to be known
  pub none_told : (xs : List (ℕ × ℕ)) → length xs ≡ 0 → AreTextsIf are i first xs s texts
  none_told [] none = tt
  none_told (x ∷ xs) none = absurd (omega (arith, none))

  -- of some it is known
  some_told : (xs : List (ℕ × ℕ)) → 0 < length xs → are i first xs s texts → AreTextsIf are i first xs s texts
  some_told [] some is = tt
  some_told (x ∷ xs) some is = is

-- what was put of new races, of which there are some, was put of all of them
pub new_told : (are : TextsOf) (text : Texts → ℕ → ℕ × ℕ → List ℕ) (head : List ℕ) (most i first n : ℕ) (s : Scenario) (xs new : List (ℕ × ℕ))
    (r : Result (Unit {0}) WriteFault) (before after : Option (List ℕ)) (old page : List ℕ)
    → first ≡ n → xs ≡ new → 0 < length xs
    → PutsNew (are i first xs s) (λ texts. head ++ told_from (text texts) most first xs) r before after old page
    → PutsNew (AreTextsIf are i n new s) (λ texts. told_text (text texts) head most n new) r before after old page
new_told are text head most i first n s xs new r before after old page number same some (inl (texts, known, put)) = inl (
  texts,
  subst (λ (l : List (ℕ × ℕ)). AreTextsIf are i n l s texts) same (some_told are i n s texts xs some (subst (λ (m : ℕ). are i m xs s texts) number known)),
  subst (Puts r before after old page)
      (ap (λ (m : ℕ). head ++ told_from (text texts) most m xs) number ∙ sym (told_some (text texts) head most n xs some) ∙ ap (told_text (text texts) head most n) same) put,
)
new_told are text head most i first n s xs new r before after old page number same some (inr fails) = inr fails

-- texts of which everything is known are known of all scenarios
pub all_told : (are : TextsOf) → ((i first : ℕ) (new : List (ℕ × ℕ)) (s : Scenario) (texts : Texts) → are i first new s texts)
    → (q : ScenarioCheck) (i : ℕ) (above : List (EventPlace × EventPlace)) (cases : List Case) → AreTold are q i above cases
all_told are each q i above [] = tt
all_told are each q i above (c ∷ cases) = (
  one (new_in q above c),
  all_told are each q (i + 1) (above_with c.scenario above (asked_of q c)) cases,
)
  where
    one : (new : List (ℕ × ℕ)) → AreTextsIf are i (length above) new c.scenario c.texts
    one [] = tt
    one (p ∷ new) = each i (length above) (p ∷ new) c.scenario c.texts
