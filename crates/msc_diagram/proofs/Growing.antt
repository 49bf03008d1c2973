-- Scenarios and one more of them.
use Rattle.std.proofs.Common.{◌≡◌, zero, suc, ℕ, ◌+◌, ◌<◌, Bool, true, false, not, ◌&&◌, ◌||◌, cond, nat_eq, List, [], ◌∷◌, ◌++◌, get_or, length, take, refl, sym, ap, ap₂, ◌∙◌, append_assoc, subst, inl, inr, Option, Err, arith}
use Rattle.std.specs.List.{filter, list_any, All}
use Rattle.std.proofs.lemmas.List.Folds.{list_any-append}
use Rattle.msc_reason.proofs.Filtered.{filter_both}
use Rattle.std.proofs.lemmas.List.{append-nil, length-map, length-take, map-append, take_more}
use Rattle.std.proofs.lemmas.List.Elements.{All-append}
use Rattle.std.proofs.lemmas.List.Sums.{sum_by-append}
use Rattle.msc_print.proofs.KnownBytes.{Appends-append}
use Rattle.msc_print.proofs.Putting.{pages_then}
use Rattle.msc_print.specs.Pages.{Pages, WritesBeginning}
use Rattle.msc_print.specs.declared.page.WriteFault.{WriteFault}
use Rattle.msc_print.specs.declared.page.WriteFault.TheVariants.{Memory, Device}
use Rattle.msc_diagram.specs.declared.check.ScenarioCheck.{ScenarioCheck}
use Rattle.msc_diagram.specs.Places.{above_with}
use Rattle.msc_diagram.specs.Scenarios.{asked_of, case_text, cases_text, counting_of, new_in, passed_of, places_from, AreCases, AreTextsIf, AreTold, Case, IsCase, TextsOf}
use Rattle.msc_diagram.specs.Stale.{idle_in, uses}
use Rattle.msc_diagram.specs.Telling.{has_heads, AreTextsBy, IsTold, PutsCase, PutsCases, TellsCase, TellsCases}
use Rattle.msc_diagram.specs.declared.cases.Asked.{Asked}
use Rattle.msc_diagram.specs.declared.place.EventPlace.{EventPlace}
use Rattle.msc_diagram.specs.declared.scenario.Scenario.{Scenario}

-- the places of the races of one scenario more
pub places_more : (pairs : Case → List (ℕ × ℕ)) (above : List (EventPlace × EventPlace)) (cases : List Case) (c : Case)
    → places_from pairs above (cases ++ c ∷ []) ≡ above_with c.scenario (places_from pairs above cases) (pairs c)
places_more pairs above [] c = refl
places_more pairs above (d ∷ cases) c = places_more pairs (above_with d.scenario above (pairs d)) cases c

-- what is written of one scenario more
pub cases_more : (t : Bool) (q : ScenarioCheck) (i j : ℕ) (above : List (EventPlace × EventPlace)) (cases : List Case) (c : Case) → j ≡ i + length cases
    → cases_text t q i above (cases ++ c ∷ [])
    ≡ cases_text t q i above cases ++ case_text t q j (places_from (asked_of q) above cases) c
cases_more t q i j above [] c is =
    let same : j ≡ i = omega (arith, is) in
    append-nil (case_text t q i above c) ∙ ap (λ (n : ℕ). case_text t q n above c) (sym same)
cases_more t q i j above (d ∷ cases) c is =
    ap (λ (text : List ℕ). case_text t q i above d ++ text) (cases_more t q (i + 1) j (above_with d.scenario above (asked_of q d)) cases c (omega (arith, is)))
    ∙ sym (append_assoc (case_text t q i above d) (cases_text t q (i + 1) (above_with d.scenario above (asked_of q d)) cases)
    (case_text t q j (places_from (asked_of q) (above_with d.scenario above (asked_of q d)) cases) c))

-- what is known of the texts of one scenario more
pub told_more : (are : TextsOf) (q : ScenarioCheck) (i j : ℕ) (above : List (EventPlace × EventPlace)) (cases : List Case) (c : Case) → j ≡ i + length cases
    → AreTold are q i above cases
    → AreTextsIf are j (length (places_from (asked_of q) above cases)) (new_in q (places_from (asked_of q) above cases) c) c.scenario c.texts
    → AreTold are q i above (cases ++ c ∷ [])
told_more are q i j above [] c is told its =
    let same : j ≡ i = omega (arith, is) in
    (subst (λ (n : ℕ). AreTextsIf are n (length above) (new_in q above c) c.scenario c.texts) same its, tt)
told_more are q i j above (d ∷ cases) c is told its = (
  told.0,
  told_more are q (i + 1) j (above_with d.scenario above (asked_of q d)) cases c (omega (arith, is)) told.1 its,
)

-- one scenario more has no race that counts, or has some
pub passed_more : (q : ScenarioCheck) (cases : List Case) (c : Case)
    → passed_of q (cases ++ c ∷ []) ≡ passed_of q cases + cond (nat_eq (length (counting_of q c)) 0) 1 0
passed_more q cases c =
    let both = sum_by-append (λ (x : Case). cond (nat_eq (length (counting_of q x)) 0) 1 0) cases (c ∷ []) in
    omega (arith, both)

-- of idle marks, those are left that accept no race of one scenario more
pub idle_more : (q : ScenarioCheck) (cases : List Case) (c : Case) (marks : List ℕ)
    → filter (λ n. not (uses q c n)) (idle_in q cases marks) ≡ idle_in q (cases ++ c ∷ []) marks
idle_more q cases c marks =
    filter_both (λ n. not (list_any (λ x. uses q x n) cases)) (λ n. not (uses q c n)) marks
    ∙ ap (λ (test : ℕ → Bool). filter test marks) (λ j n. one n j)
  where
    none_of : (a b : Bool) → (not a && not b) ≡ not (a || (b || false))
    none_of true b = refl
    none_of false true = refl
    none_of false false = refl

    one : (n : ℕ) → (not (list_any (λ x. uses q x n) cases) && not (uses q c n)) ≡ not (list_any (λ x. uses q x n) (cases ++ c ∷ []))
    one n =
        none_of (list_any (λ x. uses q x n) cases) (uses q c n)
        ∙ ap not (sym (list_any-append (λ x. uses q x n) cases (c ∷ [])))

-- what holds of one holds of each of it alone
pub All-one : {X : Type 0} (P : X → Type 0) (x : X) → P x → All P (x ∷ [])
All-one P x is zero d within = is
All-one P x is (suc k) d within = absurd (omega (arith, within))

-- what is known of one more
pub known_more : (q : ScenarioCheck) (scenarios : List Scenario) (k : ℕ) (cases : List Case) (c : Case) (d : Scenario)
    → AreCases q (take k scenarios) cases → IsCase q c → k < length scenarios → c.scenario ≡ get_or scenarios k d
    → AreCases q (take (k + 1) scenarios) (cases ++ c ∷ [])
known_more q scenarios k cases c d are is within same = record {
  each = map-append (λ x. x.scenario) cases (c ∷ []) ∙ ap₂ (λ (l : List Scenario) (x : Scenario). l ++ x ∷ []) are.each same ∙ sym (take_more scenarios k d within);
  all = All-append (IsCase q) cases (c ∷ []) are.all (All-one (IsCase q) c is);
}

module _ (a : Asked) (scenarios : List Scenario) (k : ℕ) (d : Scenario) (within : k < length scenarios) (above now : List (EventPlace × EventPlace)) (before mid after : Option (List ℕ)) (old one : List ℕ) where
  -- so many are known as were put
  so_many : (cases : List Case) → AreCases a.check (take k scenarios) cases → length cases ≡ k
  so_many cases are =
      let size = sym (length-map cases (λ c. c.scenario)) ∙ ap length are.each in
      let few = length-take k scenarios in
      omega (arith, size, few, within)

  -- one scenario more is put behind them
  pub cases_grow : (later : List (EventPlace × EventPlace)) (new : List ℕ) (passed count more : ℕ)
      → PutsCases a (take k scenarios) above now before mid old one passed
      → PutsCase a (k + 1) (get_or scenarios k d) now later mid after one new count
      → more ≡ passed + cond (nat_eq count 0) 1 0
      → PutsCases a (take (k + 1) scenarios) above later before after old new more
  cases_grow later new passed count more p c is =
      let q = a.check in
      let t = has_heads a.format in
      let many = so_many p.cases p.are in
      let number : k + 1 ≡ 1 + length p.cases = omega (arith, many) in
      record {
        cases = p.cases ++ c.known ∷ [];
        are = known_more q scenarios k p.cases c.known d p.are c.is within c.scenario;
        counted = is ∙ ap₂ (λ (x r : ℕ). x + cond (nat_eq r 0) 1 0) p.counted c.counted ∙ sym (passed_more q p.cases c.known);
        reported = c.reported ∙ ap (λ (l : List (EventPlace × EventPlace)). above_with c.known.scenario l (asked_of q c.known)) p.reported
            ∙ sym (places_more (asked_of q) above p.cases c.known);
        told = told_more (AreTextsBy a.format a.check.queues) q 1 (k + 1) above p.cases c.known number p.told
            (subst (λ (l : List (EventPlace × EventPlace)). IsTold a (k + 1) l c.known) p.reported c.told);
        put = subst (Pages before after old new) (sym (cases_more t q 1 (k + 1) above p.cases c.known number))
            (pages_then before mid after old one new (cases_text t q 1 above p.cases) (case_text t q (k + 1) (places_from (asked_of q) above p.cases) c.known)
            p.put (subst (λ (l : List (EventPlace × EventPlace)). Pages mid after one new (case_text t q (k + 1) l c.known)) p.reported c.put));
      }

  -- a beginning of the page, and of what stands behind it, is one of all
  begins_behind : (text more : List ℕ) → Pages before mid old one text → WritesBeginning mid after (one ++ more) → WritesBeginning before after (old ++ (text ++ more))
  begins_behind text more (f, is, out) (g, left, split, went) = (
    f ++ g,
    left,
    sym (append_assoc old text more) ∙ ap (λ (t : List ℕ). t ++ more) is ∙ append_assoc f one more ∙ ap (λ (t : List ℕ). f ++ t) split ∙ sym (append_assoc f g left),
    Appends-append before mid after f g out went,
  )

  -- or a fault comes
  pub cases_stop : (later below : List (EventPlace × EventPlace)) (new last : List ℕ) (passed : ℕ) (f : WriteFault)
      → PutsCases a (take k scenarios) above now before mid old one passed
      → TellsCase a (k + 1) (get_or scenarios k d) now later mid after one new (Err f)
      → TellsCases a scenarios above below before after old last (Err f)
  cases_stop later below new last passed Memory p (inl begun) =
      let t = has_heads a.format in
      let text = cases_text t a.check 1 above p.cases in
      record {
        first = k;
        cases = p.cases;
        are = p.are;
        told = p.told;
        begun = subst (λ (x : List ℕ). WritesBeginning before after (old ++ x)) (append-nil text)
            (begins_behind text [] p.put (subst (WritesBeginning mid after) (sym (append-nil one)) begun));
      }
  cases_stop later below new last passed Memory p (inr (c, same, is, told, begun)) =
      let q = a.check in
      let t = has_heads a.format in
      let many = so_many p.cases p.are in
      let number : k + 1 ≡ 1 + length p.cases = omega (arith, many) in
      record {
        first = k + 1;
        cases = p.cases ++ c ∷ [];
        are = known_more q scenarios k p.cases c d p.are is within same;
        told = told_more (AreTextsBy a.format a.check.queues) q 1 (k + 1) above p.cases c number p.told
            (subst (λ (l : List (EventPlace × EventPlace)). IsTold a (k + 1) l c) p.reported told);
        begun = subst (λ (x : List ℕ). WritesBeginning before after (old ++ x)) (sym (cases_more t q 1 (k + 1) above p.cases c number))
            (begins_behind (cases_text t q 1 above p.cases) (case_text t q (k + 1) (places_from (asked_of q) above p.cases) c) p.put
            (subst (λ (l : List (EventPlace × EventPlace)). WritesBeginning mid after (one ++ case_text t q (k + 1) l c)) p.reported begun));
      }
  cases_stop later below new last passed Device p told = tt
