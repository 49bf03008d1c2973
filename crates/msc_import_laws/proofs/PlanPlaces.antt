-- The places of a draft's events are those of the arrows whose ends they are.
use Rattle.std.proofs.Common.{◌≡◌, ℕ, suc, ◌+◌, ◌-◌, ◌*◌, ◌==◌, length, sym, arith, List, [], ◌∷◌, ◌++◌, map, take, Option, None, Some, Result, Ok, Err, refl, ap, subst, ◌∙◌}
use Rattle.std.specs.List.{flat_map}
use Rattle.std.proofs.lemmas.List.{append-nil, append_assoc, length-map, map-append}
use Rattle.std.proofs.lemmas.Simd.{map-map}
use Rattle.msc_chart.specs.Lists.{StandsAt}
use Rattle.msc_chart.proofs.ListLemmas.{by_test}
use Rattle.msc_place.specs.declared.position.Position.{Position}
use Rattle.msc_scenarios.specs.declared.steps.Message.{Message}
use Rattle.msc_scenarios.specs.declared.steps.Step.{Step}
use Rattle.msc_scenarios.specs.declared.steps.Step.TheVariants as steps
use Rattle.msc_mermaid.specs.declared.fault.ImportFault.{ImportFault}
use Rattle.msc_mermaid.specs.declared.fault.ImportFault.TheVariants.{Shared}
use Rattle.msc_import.specs.declared.plan.Manner.{Manner}
use Rattle.msc_import.specs.declared.plan.Own.{Own}
use Rattle.msc_import.specs.declared.plan.Par.{Par}
use Rattle.msc_mermaid.specs.Gives.{◌>>=◌}
use Rattle.msc_import.specs.Laws.{ends_on}
use Rattle.msc_import.specs.Places.{place_of, places_in}
use Rattle.msc_import.specs.Plans.{Event, Plan, closed_last, exchange_sides, exchanged, is_exchange, is_refused, joined_ends, last_frame, marked_last, met, opened, plan_on, planned, plans_of, sides_on as drawn_sides, single_sides, unplanned, with_event, with_sides}
use Rattle.msc_import.proofs.TogetherLemmas.{line_planned}
use Rattle.msc_import_laws.specs.Ends.{fall as drop}
use Rattle.msc_import_laws.proofs.EndLists.{End, end_at, ends_at, ends_from, ends_on_lines}
use Rattle.msc_import_laws.proofs.Parts.{Same, fall, same_ends, sides_on}
use Rattle.msc_import_laws.proofs.Sections.{plans_many}
use Rattle.msc_import.proofs.OrderLemmas.{without_fault}

-- what a plan has behind another
abbrev Has : Plan → List Event → Plan → Type 0
Has p es q = q.events ≡ p.events ++ es

sides_events : (m : Message) (ss : List _) (p : Plan) → Has p (map (λ s. record { message = m; side = s }) ss) (with_sides m ss p)
unfolding with_sides
sides_events m [] p = sym (append-nil p.events)
sides_events m (s ∷ ss) p =
    let e : Event = record { message = m; side = s } in
    sides_events m ss (with_event p e) ∙ append_assoc p.events (e ∷ []) (map (λ s. record { message = m; side = s }) ss)

exchange_events : (line : ℕ) (m : Message) (p : Plan) → Has p (map (λ s. record { message = m; side = s }) (exchange_sides line m)) (exchanged line m p)
exchange_events line m p =
    by_test (m.from == line) (λ f. rw f refl) (λ f. by_test (m.to == line) (λ t. rw (f, t) refl) (λ t. rw (f, t) (sym (append-nil p.events))))

met_events : (own : Own) (line : ℕ) (m : Message) (p : Plan) → Has p (map (λ s. record { message = m; side = s }) (drawn_sides own line m)) (met own line m p)
unfolding drawn_sides met
met_events own line m p =
    by_test (is_exchange m) (λ b. rw b (exchange_events line m p)) (λ b. rw b (sides_events m (single_sides own line m) p))

ok_has : (p x q : Plan) (es : List Event) → ◌≡◌ {A = Result Plan ImportFault} (Ok x) (Ok q) → Has p es x → Has p es q
ok_has p x q es e h = let same : x ≡ q = cc in subst (λ (y : Plan). Has p es y) same h

marked_events : (p : Plan) (f : Option _) → Has p [] (marked_last p f)
marked_events p None = sym (append-nil p.events)
marked_events p (Some f) = sym (append-nil p.events)

closed_events : (par : Par) (line : ℕ) (p : Plan) (f : Option _) (q : Plan) → closed_last par line p f ≡ Ok q → Has p [] q
closed_events par line p None q e = ok_has p p q [] e (sym (append-nil p.events))
closed_events par line p (Some f) q e =
    let x : Plan = record { events = p.events; ends = joined_ends p f; frames = take (length p.frames - 1) p.frames } in
    subst (λ (y : Plan). Has p [] y) (without_fault (is_refused par f) (Shared f.place line) x q e) (sym (append-nil p.events))

-- a line has the ends of these steps
module _ (manner : Manner) (line : ℕ) where
  step_events : (s : Step) (p q : Plan) → planned manner line s p ≡ Ok q → Has p (ends_on manner.own line s) q
  unfolding planned
  step_events (steps.Meets m) p q e = ok_has p (met manner.own line m p) q (ends_on manner.own line (steps.Meets m)) e (met_events manner.own line m p)
  step_events (steps.Opens text) p q e = ok_has p (opened text p) q [] e (sym (append-nil p.events))
  step_events steps.Next p q e = ok_has p (marked_last p (last_frame p)) q [] e (marked_events p (last_frame p))
  step_events steps.Closes p q e = closed_events manner.par line p (last_frame p) q e

  behind_step : (s : Step) (ss : List Step) (p q : Plan) (r : Result Plan ImportFault) → planned manner line s p ≡ r → (r >>= (λ x. plan_on manner line ss x)) ≡ Ok q → ((x : Plan) → plan_on manner line ss x ≡ Ok q → Has x (flat_map (ends_on manner.own line) ss) q) → Has p (flat_map (ends_on manner.own line) (s ∷ ss)) q
  behind_step s ss p q (Ok x) e f rest =
      rest x f ∙ ap (λ l. l ++ flat_map (ends_on manner.own line) ss) (step_events s p x e) ∙ append_assoc p.events (ends_on manner.own line s) (flat_map (ends_on manner.own line) ss)
  behind_step s ss p q (Err g) e f rest = cc

  plan_events : (ss : List Step) (p q : Plan) → plan_on manner line ss p ≡ Ok q → Has p (flat_map (ends_on manner.own line) ss) q
  unfolding plan_on
  plan_events [] p q e = ok_has p p q [] e (sym (append-nil p.events))
  plan_events (s ∷ ss) p q e = behind_step s ss p q (planned manner line s p) refl e (λ x f. plan_events ss x q f)

-- the place of an end's arrow
abbrev pub end_place : End → Position
end_place x = record { line = x.message.line; column = x.message.column }

-- lists of one length, of one place
one_place : {X Y : Type 0} (c : Position) (xs : List X) (ys : List Y) → length xs ≡ length ys → map (λ x. c) xs ≡ map (λ y. c) ys
one_place c [] [] e = refl
one_place c [] (y ∷ ys) e = absurd (omega (arith, e))
one_place c (x ∷ xs) [] e = absurd (omega (arith, e))
one_place c (x ∷ xs) (y ∷ ys) e = ap (λ l. c ∷ l) (one_place c xs ys (omega (arith, e)))

module _ (own : Own) where
  many_ends : (line : ℕ) (m : Message) → length (drawn_sides own line m) ≡ length (sides_on own line m)
  unfolding Same
  many_ends line m =
      let high = (same_ends line 0 m [] own).1 in
      sym (length-map (drawn_sides own line m) (λ s. 4 * 0 + drop (record { message = m; side = s })))
      ∙ ap length (sym (map-map (λ (e : Event). 4 * 0 + drop e) (λ s. record { message = m; side = s }) (drawn_sides own line m)) ∙ high)
      ∙ length-map (sides_on own line m) (λ s. 4 * 0 + fall s)

  step_places : (line k : ℕ) (s : Step) → map place_of (ends_on own line s) ≡ map end_place (ends_at own line k s)
  step_places line k (steps.Meets m) =
      let c : Position = record { line = m.line; column = m.column } in
      map-map place_of (λ s. record { message = m; side = s }) (drawn_sides own line m)
      ∙ one_place c (drawn_sides own line m) (sides_on own line m) (many_ends line m)
      ∙ sym (map-map end_place (end_at line k m) (sides_on own line m))
  step_places line k (steps.Opens text) = refl
  step_places line k steps.Next = refl
  step_places line k steps.Closes = refl

  line_places : (line k : ℕ) (ss : List Step) → map place_of (flat_map (ends_on own line) ss) ≡ map end_place (ends_from own line k ss)
  line_places line k [] = refl
  line_places line k (s ∷ ss) =
      map-append place_of (ends_on own line s) (flat_map (ends_on own line) ss)
      ∙ ap (λ x. x ++ map place_of (flat_map (ends_on own line) ss)) (step_places line k s)
      ∙ ap (λ x. map end_place (ends_at own line k s) ++ x) (line_places line (k + 1) ss)
      ∙ sym (map-append end_place (ends_at own line k s) (ends_from own line (k + 1) ss))

  lines_places : (ss : List Step) (line : ℕ) (plans : List Plan) → ((j : ℕ) (p : Plan) → StandsAt plans j p → p.events ≡ flat_map (ends_on own (line + j)) ss)
      → flat_map places_in plans ≡ map end_place (ends_on_lines own ss line (length plans))
  lines_places ss line [] h = refl
  lines_places ss line (p ∷ plans) h =
      let zero_on : line + 0 ≡ line = omega arith in
      let first = ap (map place_of) (h 0 p refl ∙ ap (λ (n : ℕ). flat_map (ends_on own n) ss) zero_on) ∙ line_places line 0 ss in
      let rest = lines_places ss (line + 1) plans (λ j q at. let number : line + suc j ≡ (line + 1) + j = omega arith in h (suc j) q at ∙ ap (λ (n : ℕ). flat_map (ends_on own n) ss) number) in
      ap (λ x. x ++ flat_map places_in plans) first
      ∙ ap (λ x. map end_place (ends_from own line 0 ss) ++ x) rest
      ∙ sym (map-append end_place (ends_from own line 0 ss) (ends_on_lines own ss (line + 1) (length plans)))

-- the places of the events are those of the ends
pub places_are : (manner : Manner) (ss : List Step) (lines : ℕ) (plans : List Plan) → plans_of manner ss lines ≡ Ok plans → flat_map places_in plans ≡ map end_place (ends_on_lines manner.own ss 0 lines)
places_are manner ss lines plans e =
    lines_places manner.own ss 0 plans (λ j p at. let number : j ≡ 0 + j = omega arith in plan_events manner j ss unplanned p (line_planned manner ss lines plans j p e at) ∙ ap (λ (n : ℕ). flat_map (ends_on manner.own n) ss) number)
    ∙ ap (λ n. map end_place (ends_on_lines manner.own ss 0 n)) (plans_many manner ss lines plans e)
