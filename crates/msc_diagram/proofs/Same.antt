-- What is known of a scenario is the same, whoever found it: its races, those that count, and those
-- that are listed.
use Rattle.std.proofs.Common.{◌≡◌, zero, suc, ℕ, ◌<◌, Bool, cond, not, ◌&&◌, ◌||◌, nat_eq, List, [], ◌∷◌, length, map, refl, sym, ap, ap₂, ◌∙◌, subst, arith}
use Rattle.std.specs.Cmp.{both_ways}
use Rattle.std.specs.List.{filter, list_any, All}
use Rattle.msc_chart.proofs.Drawn.{before_parts}
use Rattle.msc_chart.proofs.ListLemmas.{by_test}
use Rattle.msc_chart.specs.Charts.{before, is_controlled, partner}
use Rattle.msc_chart.specs.Drawings.{Drawing, IsAccepted}
use Rattle.msc_chart.specs.Lists.{pairs_of, Occurs}
use Rattle.msc_chart.specs.Orders.{queue}
use Rattle.msc_chart.specs.declared.queue.Queues.{Queues}
use Rattle.msc_order.specs.Tables.{orders, Table}
use Rattle.msc_race.proofs.Listing.Pairs.{of_parts}
use Rattle.msc_race.specs.Races.{is_raced}
use Rattle.msc_race.specs.Views.{races_of, wiring_of}
use Rattle.msc_race.specs.Wired.{enforced_chart, EnforcedChart, IsEnforced}
use Rattle.msc_reason.specs.Counting.{counting, counts, is_alone, is_listed, listed}
use Rattle.msc_reason.specs.Kinds.{has_kind}
use Rattle.msc_reason.specs.LeftOut.{is_accepted, of_kinds}
use Rattle.msc_reason.specs.Marked.{kind_in, cause_in}
use Rattle.msc_reason.specs.declared.cause.RaceKind.TheVariants.{Early, Queues as QueueRace, Unordered, Overtaken}
use Rattle.msc_reason.specs.declared.left_out.LeftOut.{LeftOut}
use Rattle.msc_diagram.specs.Checks.{accepts_in}
use Rattle.msc_diagram.specs.Counts.{counting_places, counts_of, listed_places, named_places, place_counts, race_places}
use Rattle.msc_diagram.specs.Places.{above_with}
use Rattle.msc_diagram.specs.Scenarios.{all_of, asked_of, counting_of, named_of, places_from, AreCases, Case, IsCase}
use Rattle.msc_diagram.specs.Stale.{stale_marks, told_marks, used_among, uses}
use Rattle.msc_diagram.specs.declared.check.ScenarioCheck.{ScenarioCheck}
use Rattle.msc_diagram.specs.declared.place.EventPlace.{EventPlace}
use Rattle.msc_diagram.specs.declared.scenario.Scenario.{Scenario}

-- two tests that agree on the items of a list keep the same ones
pub filter_agreed : {X : Type 0} (p q : X → Bool) (xs : List X) → ((x : X) → Occurs xs x → p x ≡ q x) → filter p xs ≡ filter q xs
filter_agreed p q [] same = refl
filter_agreed {X} p q (x ∷ xs) same =
    ap₂ (λ (b : Bool) (l : List X). cond b (x ∷ l) l) (same x (zero, refl)) (filter_agreed p q xs (λ y there. same y (suc there.0, there.1)))

module _ (d : Drawing) (queues : Queues) (t u : Table) (accepted : IsAccepted d) (is : IsEnforced (enforced_chart d queues t)) (its : IsEnforced (enforced_chart d queues u)) where
  -- the chart with the one order, and with the other
  abbrev one : EnforcedChart
  one = enforced_chart d queues t

  abbrev two : EnforcedChart
  two = enforced_chart d queues u

  -- both tables order events in the same way
  same_order : (x y : ℕ) → x < length d.events → y < length d.events → orders t x y ≡ orders u x y
  same_order x y first second = both_ways (orders t x y) (orders u x y)
      (λ held. its.enforced.complete x y (is.enforced.holds x y first second held))
      (λ held. is.enforced.complete x y (its.enforced.holds x y first second held))

  -- so the same pairs race
  same_raced : (x y : ℕ) → is_raced d.events t x y ≡ is_raced d.events u x y
  unfolding is_raced
  same_raced x y = by_test (before d.events x y)
      (λ drawn. let known = before_parts d.events x y drawn in ap (λ (b : Bool). before d.events x y && not b) (same_order x y known.0 known.1))
      (λ fails. rw fails refl)

  pub same_races : races_of one ≡ races_of two
  same_races =
      let test : is_raced d.events t ≡ is_raced d.events u = λ j x y. same_raced x y j in
      ap (λ (test : ℕ → ℕ → Bool). pairs_of test (length d.events)) test

  -- both events of a race are events of the chart
  known_race : (p : ℕ × ℕ) → Occurs (races_of one) p → (p.0 < length d.events) × (p.1 < length d.events)
  known_race (x, y) there = let parts = of_parts (is_raced d.events t) (length d.events) x y there in (parts.0, parts.1)

  -- races are of the same kinds
  same_kind : (x y : ℕ) → x < length d.events → y < length d.events → kind_in one x y ≡ kind_in two x y
  same_kind x y first second =
      ap (λ (b : Bool). cond (is_controlled d.events x) Early (cond (not (nat_eq (queue (wiring_of one) x) (queue (wiring_of one) y))) QueueRace (cond b Overtaken Unordered)))
      (same_order (partner d.events y) (partner d.events x) (accepted.matched.in_range y second) (accepted.matched.in_range x first))

  module _ (left other : LeftOut) (kinds : left.kinds ≡ other.kinds) (accepts : (p : ℕ × ℕ) → Occurs (races_of one) p → is_accepted left p ≡ is_accepted other p) where
    -- so the same races count, if the same are left out
    same_counts : (p : ℕ × ℕ) → Occurs (races_of one) p → counts left (cause_in one) p ≡ counts other (cause_in two) p
    same_counts p there =
        let known = known_race p there in
        let kind = same_kind p.0 p.1 known.0 known.1 in
        let is = accepts p there in
        λ j. not (is j) && not (has_kind (kinds j) (kind j))

    pub same_counting : counting one left (cause_in one) ≡ counting two other (cause_in two)
    same_counting =
        filter_agreed (counts left (cause_in one)) (counts other (cause_in two)) (races_of one) same_counts
        ∙ ap (filter (counts other (cause_in two))) same_races

    -- and the same are listed
    same_test : (closest : Bool) (p : ℕ × ℕ) → Occurs (races_of one) p
        → is_listed one left closest (cause_in one) p ≡ is_listed two other closest (cause_in two) p
    same_test closest p there =
        ap₂ (λ (b : Bool) (l : List (ℕ × ℕ)). b && (not closest || is_alone d.events l p)) (same_counts p there) same_counting

    pub same_listed : (closest : Bool) → listed one left closest (cause_in one) ≡ listed two other closest (cause_in two)
    same_listed closest =
        filter_agreed (is_listed one left closest (cause_in one)) (is_listed two other closest (cause_in two)) (races_of one) (same_test closest)
        ∙ ap (filter (is_listed two other closest (cause_in two))) same_races

-- two findings of one scenario agree on some races of it
abbrev pub Agree : ScenarioCheck → (Case → List (ℕ × ℕ)) → Type 0
Agree q pairs = (c b : Case) → c.scenario ≡ b.scenario → IsCase q c → IsCase q b → pairs c ≡ pairs b

module _ (q : ScenarioCheck) where
  -- the order of the one finding, of the scenario of the other
  moved : (c b : Case) → c.scenario ≡ b.scenario → IsCase q b → IsEnforced (enforced_chart c.scenario.chart q.queues b.order)
  moved c b same its = subst (λ (s : Scenario). IsEnforced (enforced_chart s.chart q.queues b.order)) (sym same) its.enforced

  pub all_agree : Agree q (all_of q)
  all_agree c b same is its =
      same_races c.scenario.chart q.queues c.order b.order is.accepted is.enforced (moved c b same its)
      ∙ ap (λ (s : Scenario). races_of (enforced_chart s.chart q.queues b.order)) same

  pub named_agree : Agree q (named_of q)
  named_agree c b same is its =
      same_counting c.scenario.chart q.queues c.order b.order is.accepted is.enforced (moved c b same its)
      (of_kinds q.options.allowed) (of_kinds q.options.allowed) refl (λ p there. refl)
      ∙ ap (λ (s : Scenario). let e = enforced_chart s.chart q.queues b.order in counting e (of_kinds q.options.allowed) (cause_in e)) same

  -- both leave out the same
  same_kinds : (c b : Case) → IsCase q c → IsCase q b → c.left.kinds ≡ b.left.kinds
  same_kinds c b is its = is.left_is.kinds ∙ sym its.left_is.kinds

  same_accepted : (c b : Case) → c.scenario ≡ b.scenario → IsCase q c → IsCase q b
      → (p : ℕ × ℕ) → Occurs (races_of (enforced_chart c.scenario.chart q.queues c.order)) p → is_accepted c.left p ≡ is_accepted b.left p
  same_accepted c b same is its p there =
      is.left_is.accepted p there
      ∙ ap (λ (s : Scenario). accepts_in q.marks s p) same
      ∙ sym (its.left_is.accepted p (subst (λ (l : List (ℕ × ℕ)). Occurs l p) (all_agree c b same is its) there))

  pub counting_agree : Agree q (counting_of q)
  counting_agree c b same is its =
      same_counting c.scenario.chart q.queues c.order b.order is.accepted is.enforced (moved c b same its)
      c.left b.left (same_kinds c b is its) (same_accepted c b same is its)
      ∙ ap (λ (s : Scenario). let e = enforced_chart s.chart q.queues b.order in counting e b.left (cause_in e)) same

  pub listed_agree : Agree q (asked_of q)
  listed_agree c b same is its =
      same_listed c.scenario.chart q.queues c.order b.order is.accepted is.enforced (moved c b same its)
      c.left b.left (same_kinds c b is its) (same_accepted c b same is its) q.options.closest
      ∙ ap (λ (s : Scenario). let e = enforced_chart s.chart q.queues b.order in listed e b.left q.options.closest (cause_in e)) same

  -- so the places of these races are the same
  pub places_agree : (pairs : Case → List (ℕ × ℕ)) → Agree q pairs → (above : List (EventPlace × EventPlace)) (cs bs : List Case)
      → map (λ (c : Case). c.scenario) cs ≡ map (λ (c : Case). c.scenario) bs → All (IsCase q) cs → All (IsCase q) bs
      → places_from pairs above cs ≡ places_from pairs above bs
  places_agree pairs agree above [] [] same are its = refl
  places_agree pairs agree above [] (b ∷ bs) same are its = absurd cc
  places_agree pairs agree above (c ∷ cs) [] same are its = absurd cc
  places_agree pairs agree above (c ∷ cs) (b ∷ bs) same are its =
      let first : c.scenario ≡ b.scenario = cc in
      let rest : map (λ (x : Case). x.scenario) cs ≡ map (λ (x : Case). x.scenario) bs = cc in
      let here = agree c b first (are zero c (omega arith)) (its zero b (omega arith)) in
      ap₂ (λ (s : Scenario) (l : List (ℕ × ℕ)). places_from pairs (above_with s above l) cs) first here
      ∙ places_agree pairs agree (above_with b.scenario above (pairs b)) cs bs rest (λ k x within. are (suc k) x (omega (arith, within))) (λ k x within. its (suc k) x (omega (arith, within)))

  -- a mark accepts a race of a scenario, whoever found it
  uses_agree : (n : ℕ) (cs bs : List Case)
      → map (λ (c : Case). c.scenario) cs ≡ map (λ (c : Case). c.scenario) bs → All (IsCase q) cs → All (IsCase q) bs
      → list_any (λ c. uses q c n) cs ≡ list_any (λ c. uses q c n) bs
  uses_agree n [] [] same are its = refl
  uses_agree n [] (b ∷ bs) same are its = absurd cc
  uses_agree n (c ∷ cs) [] same are its = absurd cc
  uses_agree n (c ∷ cs) (b ∷ bs) same are its =
      let first : c.scenario ≡ b.scenario = cc in
      let rest : map (λ (x : Case). x.scenario) cs ≡ map (λ (x : Case). x.scenario) bs = cc in
      ap₂ (λ (x y : Bool). x || y) (ap₂ (λ (s : Scenario) (l : List (ℕ × ℕ)). used_among q.marks s l n) first (all_agree c b first (are zero c (omega arith)) (its zero b (omega arith))))
      (uses_agree n cs bs rest (λ k x within. are (suc k) x (omega (arith, within))) (λ k x within. its (suc k) x (omega (arith, within))))

-- so the same marks are stale
pub stale_agree : (scenarios : List Scenario) (q : ScenarioCheck) (cs bs : List Case)
    → AreCases q scenarios cs → AreCases q scenarios bs → stale_marks q cs ≡ stale_marks q bs
stale_agree scenarios q cs bs are its =
    let same = are.each ∙ sym its.each in
    ap (λ (test : ℕ → Bool). filter (λ n. not (test n)) (told_marks q.marks)) (λ j n. uses_agree q n cs bs same are.all its.all j)

-- and so are all numbers of places
pub counted_agree : (scenarios : List Scenario) (q : ScenarioCheck) (cs bs : List Case)
    → AreCases q scenarios cs → AreCases q scenarios bs → place_counts q cs ≡ place_counts q bs
counted_agree scenarios q cs bs are its =
    let same = are.each ∙ sym its.each in
    let all : race_places q cs ≡ race_places q bs = places_agree q (all_of q) (all_agree q) [] cs bs same are.all its.all in
    let named : named_places q cs ≡ named_places q bs = places_agree q (named_of q) (named_agree q) [] cs bs same are.all its.all in
    let some : counting_places q cs ≡ counting_places q bs = places_agree q (counting_of q) (counting_agree q) [] cs bs same are.all its.all in
    let few : listed_places q cs ≡ listed_places q bs = places_agree q (asked_of q) (listed_agree q) [] cs bs same are.all its.all in
    λ j. counts_of q (all j) (named j) (some j) (few j)
