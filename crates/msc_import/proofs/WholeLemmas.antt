-- All scenarios: one more, each of them, and those of which parallel branches are refused.
use Rattle.std.proofs.Common.{◌≡◌, ◌<◌, ◌≤◌, ℕ, zero, suc, ◌+◌, Bool, true, false, not, ◌&&◌, ◌||◌, List, [], ◌∷◌, ◌++◌, length, get_or, drop, take, Option, None, Some, slice_get, Result, Ok, Err, is_ok, ◌⊎◌, inl, inr, refl, sym, ap, ◌∙◌, subst, append_assoc, arith}
use Rattle.std.specs.List.{All, list_any}
use Rattle.std.proofs.lemmas.List.{append-nil, drop_more, drop_all, length_push, take_at}
use Rattle.std.proofs.lemmas.List.Elements.{All-push}
use Rattle.msc_mermaid.specs.declared.fault.ImportFault.{ImportFault}
use Rattle.msc_mermaid.specs.declared.statement.Diagram.{Diagram}
use Rattle.msc_mermaid.specs.Gives.{◌>>=◌, Fails}
use Rattle.msc_mermaid.proofs.ReadingLemmas.{bind_fails}
use Rattle.msc_parser.specs.Grammar.{Tree}
use Rattle.msc_scenarios.specs.Steps.{Walk, unended}
use Rattle.msc_scenarios.specs.Laws.{walked}
use Rattle.msc_scenarios.specs.declared.steps.Step.{Step}
use Rattle.msc_scenarios.specs.declared.steps.Step.TheVariants as steps
use Rattle.msc_import.specs.declared.drawings.Scenario.{Scenario}
use Rattle.msc_import.specs.declared.plan.Frame.{Frame}
use Rattle.msc_import.specs.declared.plan.Manner.{Manner}
use Rattle.msc_import.specs.declared.plan.Own.{Own}
use Rattle.msc_import.specs.declared.plan.Par.{Par}
use Rattle.msc_import.specs.declared.plan.Par.TheVariants as pars
use Rattle.msc_import.specs.Drafting.{drawn, drawn_walk, IsReadAgain}
use Rattle.msc_import.specs.Drawings.{list_of, refused_plans, scenario_with, scenarios_on, shares_line, AreDrawn, AreFirst}
use Rattle.msc_import.specs.Importing.{drawn_at}
use Rattle.msc_import.specs.Places.{event_spans, places, walk_places, walk_spans}
use Rattle.msc_import.specs.Plans.{Plan, closed_last, last_frame, planned, planned_all, plans_of, plans_on}
use Rattle.msc_mermaid.proofs.SpellLemmas.{bound}

module _ (manner : Manner) (name : List ℕ) (d : Diagram) where
  whole_cons : (done : List Scenario) (given : List ℕ) (lists : List (List ℕ)) → scenarios_on manner name d done (given ∷ lists) ≡ (scenario_with manner name d given >>= (λ s. scenarios_on manner name d (done ++ s ∷ []) lists))
  unfolding scenarios_on
  whole_cons done given lists = refl

  whole_none : (done : List Scenario) → scenarios_on manner name d done [] ≡ Ok done
  unfolding scenarios_on
  whole_none done = refl

  -- what lines have of a walk that has a draft, and that it is whole
  plans_there : (given : List ℕ) (draft : Tree) → drawn manner name d given ≡ Ok draft
      → ((plans : List Plan) × (plans_of manner (walked d given).steps (length (walked d given).lines) ≡ Ok plans))
      × ((w : Walk) × (unended (walked d given) (walked d given).ending ≡ Ok w))
  unfolding drawn drawn_walk
  plans_there given draft e =
      let a = bound (plans_of manner (walked d given).steps (length (walked d given).lines)) _ draft e in
      let b = bound (unended (walked d given) (walked d given).ending) _ draft a.2 in ((a.0, a.1), (b.0, b.1))

  -- a draft is that of a scenario
  pub drawn_so : (given : List ℕ) (draft : Tree) → drawn manner name d given ≡ Ok draft
      → (s : Scenario) × (scenario_with manner name d given ≡ Ok s) × (s.draft ≡ draft)
  unfolding scenario_with drawn_at places walk_places event_spans walk_spans
  drawn_so given draft e =
      let there = plans_there given draft e in
      rw (e, there.0.1, there.1.1) (_, refl, refl)

  -- a fault of a draft is that of the scenario
  pub drawn_not : (given : List ℕ) (fault : ImportFault) → Fails fault (drawn manner name d given) → Fails fault (scenario_with manner name d given)
  unfolding scenario_with drawn_at
  drawn_not given fault h = bind_fails fault _ _ (bind_fails fault _ _ h)

  module _ (done : List Scenario) (lists : List (List ℕ)) (i : ℕ) where
    module _ (e : List ℕ) (inside : i < length lists) where
      whole_next : scenarios_on manner name d done (drop i lists) ≡ (scenario_with manner name d (get_or lists i e) >>= (λ s. scenarios_on manner name d (done ++ s ∷ []) (drop (i + 1) lists)))
      whole_next =
          ap (scenarios_on manner name d done) (drop_more lists i e inside) ∙ whole_cons done (get_or lists i e) (drop (i + 1) lists)

      pub whole_more : (s : Scenario) → scenario_with manner name d (get_or lists i e) ≡ Ok s → scenarios_on manner name d done (drop i lists) ≡ scenarios_on manner name d (done ++ s ∷ []) (drop (i + 1) lists)
      whole_more s is =
          whole_next ∙ ap (λ x. x >>= (λ t. scenarios_on manner name d (done ++ t ∷ []) (drop (i + 1) lists))) is

      pub whole_fails : (fault : ImportFault) → Fails fault (scenario_with manner name d (get_or lists i e)) → Fails fault (scenarios_on manner name d done (drop i lists))
      whole_fails fault h = subst (Fails fault) (sym whole_next) (bind_fails fault _ _ h)

    pub whole_end : length lists ≤ i → scenarios_on manner name d done (drop i lists) ≡ Ok done
    whole_end over = ap (scenarios_on manner name d done) (drop_all i lists over) ∙ whole_none done

  -- so many scenarios are drawn, and the others are those with these choices
  abbrev pub DrawnSoFar : List (List ℕ) → ℕ → Type 0
  DrawnSoFar lists i =
      (done : List Scenario) × All (λ s. IsReadAgain s.draft) done
      × (scenarios_on manner name d done (drop i lists) ≡ scenarios_on manner name d [] lists)

  -- one more has a draft
  pub drawn_more : (lists : List (List ℕ)) (i : ℕ) (e : List ℕ) → i < length lists → (draft : Tree)
      → drawn manner name d (get_or lists i e) ≡ Ok draft → IsReadAgain draft → DrawnSoFar lists i → DrawnSoFar lists (i + 1)
  drawn_more lists i e inside draft is again (done, all, same) =
      let s = drawn_so (get_or lists i e) draft is in (
        done ++ s.0 ∷ [],
        All-push (λ x. IsReadAgain x.draft) done s.0 all (subst IsReadAgain (sym s.2) again),
        sym (whole_more done lists i e inside s.0 s.1) ∙ same,
      )

  -- all have one
  pub drawn_end : (lists : List (List ℕ)) (i : ℕ) → length lists ≤ i → DrawnSoFar lists i → AreDrawn (scenarios_on manner name d [] lists)
  drawn_end lists i over (done, all, same) = subst AreDrawn (sym (whole_end done lists i over) ∙ same) all

  -- the first fault
  pub drawn_stop : (lists : List (List ℕ)) (i : ℕ) (e : List ℕ) → i < length lists → (fault : ImportFault)
      → Fails fault (drawn manner name d (get_or lists i e)) → DrawnSoFar lists i → Fails fault (scenarios_on manner name d [] lists)
  drawn_stop lists i e inside fault h (done, all, same) =
      subst (Fails fault) same (whole_fails done lists i e inside fault (drawn_not (get_or lists i e) fault h))

  module _ (lists : List (List ℕ)) (first : List Scenario) where
    -- none is first of all
    pub first_none : first ≡ [] → AreFirst manner name d lists first
    first_none is = rw is ((λ i e within. absurd (omega (arith, within))), refl)

    module _ (i : ℕ) (e : List ℕ) (inside : i < length lists) (size : length first ≡ i) (are : AreFirst manner name d lists first) where
      here : scenarios_on manner name d first (drop i lists) ≡ scenarios_on manner name d [] lists
      here = ap (λ n. scenarios_on manner name d first (drop n lists)) (sym size) ∙ are.1

      -- one more of the first is drawn
      pub first_more : (s : Scenario) → scenario_with manner name d (get_or lists i e) ≡ Ok s → IsReadAgain s.draft
          → (length (first ++ s ∷ []) ≡ i + 1) × AreFirst manner name d lists (first ++ s ∷ [])
      first_more s is again =
          let more : length (first ++ s ∷ []) ≡ i + 1 = omega (arith, length_push first s, size) in (
            more,
            (
              All-push (λ x. IsReadAgain x.draft) first s are.0 again,
              ap (λ n. scenarios_on manner name d (first ++ s ∷ []) (drop n lists)) more
                  ∙ sym (whole_more first lists i e inside s is) ∙ here,
            ),
          )

      -- the first fault
      pub first_stop : (fault : ImportFault) → Fails fault (scenario_with manner name d (get_or lists i e)) → Fails fault (scenarios_on manner name d [] lists)
      first_stop fault h = subst (Fails fault) here (whole_fails first lists i e inside fault h)

  -- each scenario is that with its choices
  abbrev pub Each : List (List ℕ) → List Scenario → Type 0
  Each [] [] = Unit {0}
  Each [] (s ∷ ss) = ⊥
  Each (given ∷ lists) [] = ⊥
  Each (given ∷ lists) (s ∷ ss) = (scenario_with manner name d given ≡ Ok s) × Each lists ss

  -- those that were drawn first stand first, and each behind them has its choices
  each_of : (lists : List (List ℕ)) (done all : List Scenario) → scenarios_on manner name d done lists ≡ Ok all
      → (more : List Scenario) × (all ≡ done ++ more) × Each lists more
  each_of [] done all e =
      let is : ◌≡◌ {A = Result (List Scenario) ImportFault} (Ok done) (Ok all) = sym (whole_none done) ∙ e in
      let same : done ≡ all = cc in ([], sym same ∙ sym (append-nil done), tt)
  each_of (given ∷ lists) done all e =
      let a = bound (scenario_with manner name d given) (λ s. scenarios_on manner name d (done ++ s ∷ []) lists) all (sym (whole_cons done given lists) ∙ e) in
      let b = each_of lists (done ++ a.0 ∷ []) all a.2 in
      (a.0 ∷ b.0, b.1 ∙ append_assoc done (a.0 ∷ []) b.0, (a.1, b.2))

  -- so each of the list is
  pub each_drawn : (lists : List (List ℕ)) → AreDrawn (scenarios_on manner name d [] lists) → Each lists (list_of (scenarios_on manner name d [] lists))
  each_drawn lists h = by (scenarios_on manner name d [] lists) refl h
    where
      by : (r : Result (List Scenario) ImportFault) → scenarios_on manner name d [] lists ≡ r → AreDrawn r → Each lists (list_of r)
      by (Ok all) e k = let a = each_of lists [] all e in subst (Each lists) (sym a.1) a.2
      by (Err fault) e k = absurd k

  -- those that are first stand first
  pub first_are : (lists : List (List ℕ)) (first : List Scenario) → AreDrawn (scenarios_on manner name d [] lists)
      → AreFirst manner name d lists first → first ≡ take (length first) (list_of (scenarios_on manner name d [] lists))
  first_are lists first h are = by (scenarios_on manner name d [] lists) refl h
    where
      by : (r : Result (List Scenario) ImportFault) → scenarios_on manner name d [] lists ≡ r → AreDrawn r → first ≡ take (length first) (list_of r)
      by (Ok all) e k =
          let a = each_of (drop (length first) lists) first all (are.1 ∙ e) in
          sym (ap (take (length first)) a.1 ∙ take_at first a.0 (length first) refl)
      by (Err fault) e k = absurd k

  pub each_size : (lists : List (List ℕ)) (all : List Scenario) → Each lists all → length lists ≡ length all
  each_size [] [] h = refl
  each_size [] (s ∷ ss) h = absurd h
  each_size (given ∷ lists) [] h = absurd h
  each_size (given ∷ lists) (s ∷ ss) h = ap suc (each_size lists ss h.1)

  pub each_at : (lists : List (List ℕ)) (all : List Scenario) (i : ℕ) (e : List ℕ) (s : Scenario) → Each lists all → i < length lists
      → scenario_with manner name d (get_or lists i e) ≡ Ok s → slice_get all i ≡ Some s
  each_at [] all i e s h inside is = absurd (omega (arith, inside))
  each_at (given ∷ lists) [] i e s h inside is = absurd h
  each_at (given ∷ lists) (t ∷ ts) zero e s h inside is =
      let same : ◌≡◌ {A = Result Scenario ImportFault} (Ok t) (Ok s) = sym h.0 ∙ is in
      let one : t ≡ s = cc in ap Some one
  each_at (given ∷ lists) (t ∷ ts) (suc i) e s h inside is = each_at lists ts i e s h.1 (omega (arith, inside)) is

-- what is not refused is planned as if nothing were
module _ (own : Own) (par : Par) where
  abbrev pub refusing : Manner
  refusing = record { own = own; par = pars.Refused }

  abbrev pub letting : Manner
  letting = record { own = own; par = par }

  closed_same : (line : ℕ) (p q : Plan) (f : Option Frame) → closed_last pars.Refused line p f ≡ Ok q → closed_last par line p f ≡ Ok q
  closed_same line p q None e = e
  closed_same line p q (Some f) e = by (f.several && f.wide) refl e par
    where
      refused : {X : Type 0} {fault : ImportFault} {x : X} {Y : Type 0} → ◌≡◌ {A = Result X ImportFault} (Err fault) (Ok x) → Y
      refused k = cc

      by : (b : Bool) → (f.several && f.wide) ≡ b → closed_last pars.Refused line p (Some f) ≡ Ok q → (x : Par) → closed_last x line p (Some f) ≡ Ok q
      by b is k pars.Refused = k
      by true is k pars.Drawn = refused (rw is at k)
      by false is k pars.Drawn = rw is at k

  planned_same : (line : ℕ) (s : Step) (p q : Plan) → planned refusing line s p ≡ Ok q → planned letting line s p ≡ Ok q
  unfolding planned
  planned_same line (steps.Meets m) p q e = e
  planned_same line (steps.Opens at) p q e = e
  planned_same line steps.Next p q e = e
  planned_same line steps.Closes p q e = closed_same line p q (last_frame p) e

  all_same : (s : Step) (ps done qs : List Plan) → planned_all refusing s done ps ≡ Ok qs → planned_all letting s done ps ≡ Ok qs
  unfolding planned_all
  all_same s [] done qs e = e
  all_same s (p ∷ ps) done qs e =
      let a = bound (planned refusing (length done) s p) (λ q. planned_all refusing s (done ++ q ∷ []) ps) qs e in
      ap (λ r. r >>= (λ q. planned_all letting s (done ++ q ∷ []) ps)) (planned_same (length done) s p a.0 a.1) ∙ all_same s ps (done ++ a.0 ∷ []) qs a.2

  plans_same : (ss : List Step) (ps qs : List Plan) → plans_on refusing ss ps ≡ Ok qs → plans_on letting ss ps ≡ Ok qs
  unfolding plans_on
  plans_same [] ps qs e = e
  plans_same (s ∷ ss) ps qs e =
      let a = bound (planned_all refusing s [] ps) (λ x. plans_on refusing ss x) qs e in
      ap (λ r. r >>= (λ x. plans_on letting ss x)) (all_same s ps [] a.0 a.1) ∙ plans_same ss a.0 qs a.2

  module _ (name : List ℕ) (d : Diagram) where
    -- a scenario without such branches is drawn as if they were refused
    kept : (given : List ℕ) (plans : List Plan) → refused_plans own (walked d given) ≡ Ok plans → scenario_with refusing name d given ≡ scenario_with letting name d given
    unfolding scenario_with drawn_at drawn drawn_walk places walk_places event_spans walk_spans plans_on
    kept given plans e =
        rw (e, plans_same (walked d given).steps _ plans e) refl

    -- one with such branches is refused
    lost : (given : List ℕ) (fault : ImportFault) → refused_plans own (walked d given) ≡ Err fault → scenario_with refusing name d given ≡ Err fault
    unfolding scenario_with drawn_at drawn drawn_walk plans_on
    lost given fault e = rw e refl

    -- one scenario and those behind it
    whole_more_or : (manner : Manner) (done : List Scenario) (given : List ℕ) (lists : List (List ℕ)) (s : Scenario) (one others : Bool)
        → ((one ≡ false) × (scenario_with manner name d given ≡ Ok s)) ⊎ ((one ≡ true) × (is_ok (scenario_with manner name d given) ≡ false))
        → is_ok (scenarios_on manner name d (done ++ s ∷ []) lists) ≡ not others
        → is_ok (scenarios_on manner name d done (given ∷ lists)) ≡ not (one || others)
    whole_more_or manner done given lists s one others (inl (off, is)) rest = rw (whole_cons manner name d done given lists, off, is) rest
    whole_more_or manner done given lists s one others (inr (on, is)) rest =
        rw (whole_cons manner name d done given lists, on) (none (scenario_with manner name d given) (λ t. scenarios_on manner name d (done ++ t ∷ []) lists) is)
      where
        none : {A B : Type 0} (r : Result A ImportFault) (f : A → Result B ImportFault) → is_ok r ≡ false → is_ok (r >>= f) ≡ false
        none (Ok x) f e = cc
        none (Err fault) f e = refl

    -- so all of them are there if no scenario has such branches
    refused_on : (lists : List (List ℕ)) (all done : List Scenario) → Each letting name d lists all
        → is_ok (scenarios_on refusing name d done lists) ≡ not (list_any (shares_line own d) lists)
    unfolding shares_line
    refused_on [] all done h = rw (whole_none refusing name d done) refl
    refused_on (given ∷ lists) [] done h = absurd h
    refused_on (given ∷ lists) (s ∷ ss) done h =
        whole_more_or refusing done given lists s (shares_line own d given) (list_any (shares_line own d) lists)
        (here (refused_plans own (walked d given)) refl) (refused_on lists ss (done ++ s ∷ []) h.1)
      where
        here : (r : Result (List Plan) ImportFault) → refused_plans own (walked d given) ≡ r
            → ((shares_line own d given ≡ false) × (scenario_with refusing name d given ≡ Ok s)) ⊎ ((shares_line own d given ≡ true) × (is_ok (scenario_with refusing name d given) ≡ false))
        here (Ok plans) e = inl (rw e refl, kept given plans e ∙ h.0)
        here (Err fault) e = inr (rw e refl, rw (lost given fault e) refl)

    pub refused_so : (lists : List (List ℕ)) → AreDrawn (scenarios_on letting name d [] lists)
        → list_any (shares_line own d) lists ≡ not (is_ok (scenarios_on refusing name d [] lists))
    refused_so lists h =
        let e = refused_on lists _ [] (each_drawn letting name d lists h) in
        twice (list_any (shares_line own d) lists) ∙ ap not (sym e)
      where
        twice : (b : Bool) → b ≡ not (not b)
        twice true = refl
        twice false = refl
