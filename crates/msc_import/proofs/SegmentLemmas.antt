-- Each line has the segments of its path.
use Rattle.std.proofs.Common.{◌≡◌, ℕ, suc, ◌+◌, ◌-◌, Bool, true, false, not, ◌||◌, ◌&&◌, cond, ◌==◌, nat_le, nat_lt, List, [], ◌∷◌, ◌++◌, length, take, drop, map, slice_get, Some, Result, Ok, Err, refl, sym, ap, ◌∙◌, subst, arith}
use Rattle.std.specs.List.{flat_map, list_any}
use Rattle.std.proofs.Math.Seq.{drop-append_seam, take-append_seam}
use Rattle.std.proofs.lemmas.Bool.{le-leb}
use Rattle.std.proofs.lemmas.Bool.Decides.{nat_tests}
use Rattle.std.proofs.lemmas.List.{append-nil, append_assoc, length-append, length_push}
use Rattle.std.proofs.lemmas.List.Concat.{flat_map-append}
use Rattle.msc_place.specs.declared.position.Position.{Position}
use Rattle.msc_scenarios.specs.declared.steps.Message.{Message}
use Rattle.msc_scenarios.specs.declared.steps.Step.{Step}
use Rattle.msc_scenarios.specs.declared.steps.Step.TheVariants as steps
use Rattle.msc_mermaid.specs.declared.fault.ImportFault.{ImportFault}
use Rattle.msc_mermaid.specs.declared.fault.ImportFault.TheVariants.{Shared}
use Rattle.msc_import.specs.declared.plan.Frame.{Frame}
use Rattle.msc_import.specs.declared.plan.Manner.{Manner}
use Rattle.msc_import.specs.declared.plan.Own.{Own}
use Rattle.msc_import.specs.declared.plan.Par.{Par}
use Rattle.msc_import.specs.declared.plan.Side.{Side}
use Rattle.msc_import.specs.declared.plan.Side.TheVariants as sides
use Rattle.msc_mermaid.specs.Gives.{◌>>=◌}
use Rattle.msc_import.specs.Drafting.{between, drawn_item, drawn_items}
use Rattle.msc_import.specs.Plans.{Event, Plan, closed_last, exchange_sides, exchanged, is_coregion, is_exchange, is_refused, last_frame, marked, marked_last, met, opened, plan_on, planned, sides_on, single_sides, unplanned, with_event, with_pair, with_sides}
use Rattle.msc_import.specs.Segments.{AreBranches, IsSegmented, Segments, arrow_segments, is_some, is_wide, joined, several, together}
use Rattle.msc_import.specs.Segments.AreBranches.{branch, none}
use Rattle.msc_import.specs.Segments.IsSegmented.{arrow, nothing, par}
use Rattle.msc_import.proofs.OrderLemmas.{without_fault}

-- the events of segments, and where each ends, behind so many events
abbrev all_of : Segments → List Event
all_of gs = flat_map (λ g. g) gs

stops : ℕ → Segments → List ℕ
stops n [] = []
stops n (g ∷ gs) = (n + length g) ∷ stops (n + length g) gs

stops_append : (n : ℕ) (gs hs : Segments) → stops n (gs ++ hs) ≡ stops n gs ++ stops (n + length (all_of gs)) hs
unfolding stops
stops_append n [] hs = let same : n ≡ n + 0 = omega arith in ap (λ k. stops k hs) same
stops_append n (g ∷ gs) hs =
    let same : (n + length g) + length (all_of gs) ≡ n + length (g ++ all_of gs) = omega (arith, length-append g (all_of gs)) in
    ap (λ l. (n + length g) ∷ l) (stops_append (n + length g) gs hs ∙ ap (λ k. stops (n + length g) gs ++ stops k hs) same)

-- a plan has the events of these segments more than another, and their ends
record Holds (p : Plan) (gs : Segments) (q : Plan) : Type 0 where
  events : q.events ≡ p.events ++ all_of gs
  ends : q.ends ≡ p.ends ++ stops (length p.events) gs

-- and the same pars are open
record Adds (p : Plan) (gs : Segments) (q : Plan) : Type 0 where
  holds : Holds p gs q
  frames : q.frames ≡ p.frames

adds_none : (p : Plan) → Adds p [] p
unfolding stops
adds_none p = record { holds = record { events = sym (append-nil p.events); ends = sym (append-nil p.ends) }; frames = refl }

holds_then : (p x q : Plan) (gs hs : Segments) → Holds p gs x → Holds x hs q → Holds p (gs ++ hs) q
holds_then p x q gs hs a b =
    let many : length x.events ≡ length p.events + length (all_of gs) = ap length a.events ∙ length-append p.events (all_of gs) in
    record {
      events = b.events ∙ ap (λ l. l ++ all_of hs) a.events ∙ append_assoc p.events (all_of gs) (all_of hs) ∙ ap (λ l. p.events ++ l) (sym (flat_map-append (λ g. g) gs hs));
      ends =
          b.ends ∙ ap (λ l. l ++ stops (length x.events) hs) a.ends ∙ append_assoc p.ends (stops (length p.events) gs) (stops (length x.events) hs)
          ∙ ap (λ k. p.ends ++ (stops (length p.events) gs ++ stops k hs)) many ∙ ap (λ l. p.ends ++ l) (sym (stops_append (length p.events) gs hs));
    }

adds_then : (p x q : Plan) (gs hs : Segments) → Adds p gs x → Adds x hs q → Adds p (gs ++ hs) q
adds_then p x q gs hs a b = record { holds = holds_then p x q gs hs a.holds b.holds; frames = b.frames ∙ a.frames }

-- an event by itself, and two together
adds_event : (p : Plan) (e : Event) → Adds p ((e ∷ []) ∷ []) (with_event p e)
unfolding stops
adds_event p e = record { holds = record { events = refl; ends = refl }; frames = refl }

abbrev ends_of : Message → List Side → List Event
ends_of m ss = map (λ s. record { message = m; side = s }) ss

adds_sides : (m : Message) (ss : List Side) (p : Plan) → Adds p (map (λ e. e ∷ []) (ends_of m ss)) (with_sides m ss p)
unfolding with_sides
adds_sides m [] p = adds_none p
adds_sides m (s ∷ ss) p =
    let e : Event = record { message = m; side = s } in
    adds_then p (with_event p e) (with_sides m ss (with_event p e)) ((e ∷ []) ∷ []) (map (λ e. e ∷ []) (ends_of m ss)) (adds_event p e) (adds_sides m ss (with_event p e))

adds_pair : (m : Message) (s t : Side) (p : Plan) → Adds p (together (ends_of m (s ∷ t ∷ []))) (with_pair m s t p)
unfolding stops
adds_pair m s t p = record { holds = record { events = refl; ends = refl }; frames = refl }

adds_exchange : (line : ℕ) (m : Message) (p : Plan) → Adds p (together (ends_of m (exchange_sides line m))) (exchanged line m p)
adds_exchange line m p =
    elim (m.from == line) as (λ t. Adds p (together (ends_of m (cond t (sides.Out ∷ sides.InBack ∷ []) (cond (m.to == line) (sides.OutBack ∷ sides.In ∷ []) [])))) (cond t (with_pair m sides.Out sides.InBack p) (cond (m.to == line) (with_pair m sides.OutBack sides.In p) p))) [
      | true ↦ adds_pair m sides.Out sides.InBack p
      | false ↦ elim (m.to == line) as (λ t. Adds p (together (ends_of m (cond t (sides.OutBack ∷ sides.In ∷ []) []))) (cond t (with_pair m sides.OutBack sides.In p) p)) [
        | true ↦ adds_pair m sides.OutBack sides.In p
        | false ↦ adds_none p
      ]
    ]

adds_met : (own : Own) (line : ℕ) (m : Message) (p : Plan) → Adds p (arrow_segments own line m) (met own line m p)
unfolding sides_on met
adds_met own line m p =
    elim (is_exchange m) as (λ t. Adds p (cond t (together (ends_of m (cond t (exchange_sides line m) (single_sides own line m)))) (map (λ e. e ∷ []) (ends_of m (cond t (exchange_sides line m) (single_sides own line m))))) (cond t (exchanged line m p) (with_sides m (single_sides own line m) p))) [
      | true ↦ adds_exchange line m p
      | false ↦ adds_sides m (single_sides own line m) p
    ]

-- a frame behind some branches of its par
record Marks (f : Frame) (bs : List Segments) (g : Frame) : Type 0 where
  start : g.start ≡ f.start
  several_are : g.several ≡ (f.several || ((f.busy && list_any is_some bs) || several bs))
  wide_is : g.wide ≡ (f.wide || is_wide bs)

or_false : (b : Bool) → b ≡ (b || false)
or_false true = refl
or_false false = refl

and_none : (a b : Bool) → a ≡ (a || ((b && false) || false))
and_none true b = refl
and_none false true = refl
and_none false false = refl

marks_none : (f : Frame) → Marks f [] f
marks_none f = record { start = refl; several_are = and_none f.several f.busy; wide_is = or_false f.wide }

-- one branch more: whether it has segments, and more than one
some_more : (n : ℕ) (gs : Segments) → nat_lt n (n + length gs) ≡ is_some gs
some_more n [] = grind (arith, nat_tests)
some_more n (g ∷ gs) = grind (arith, nat_tests)

wide_more : (n : ℕ) (gs : Segments) → nat_lt (n + 1) (n + length gs) ≡ nat_lt 1 (length gs)
wide_more n gs = grind (arith, nat_tests)

shuffle : (v b s a w : Bool) → ((v || (b && s)) || (((b || s) && a) || w)) ≡ (v || ((b && (s || a)) || ((s && a) || w)))
shuffle true b s a w = refl
shuffle false true true a w = refl
shuffle false true false true w = refl
shuffle false true false false w = refl
shuffle false false true a w = refl
shuffle false false false a w = refl

or_assoc : (a b c : Bool) → ((a || b) || c) ≡ (a || (b || c))
or_assoc true b c = refl
or_assoc false b c = refl

marks_more : (f g : Frame) (n : ℕ) (gs : Segments) (bs : List Segments) → f.mark ≡ n → Marks (marked (n + length gs) f) bs g → Marks f (gs ∷ bs) g
marks_more f g n gs bs at m =
    let some : nat_lt f.mark (n + length gs) ≡ is_some gs = ap (λ k. nat_lt k (n + length gs)) at ∙ some_more n gs in
    let wide : nat_lt (f.mark + 1) (n + length gs) ≡ nat_lt 1 (length gs) = ap (λ k. nat_lt (k + 1) (n + length gs)) at ∙ wide_more n gs in
    record {
      start = m.start;
      several_are =
          m.several_are ∙ ap (λ s. (f.several || (f.busy && s)) || (((f.busy || s) && list_any is_some bs) || several bs)) some
          ∙ shuffle f.several f.busy (is_some gs) (list_any is_some bs) (several bs);
      wide_is = m.wide_is ∙ ap (λ w. (f.wide || w) || is_wide bs) wide ∙ or_assoc f.wide (nat_lt 1 (length gs)) (is_wide bs);
    }

-- steps in two parts
plan_parts : (manner : Manner) (line : ℕ) (xs ys : List Step) (p q : Plan) → plan_on manner line (xs ++ ys) p ≡ Ok q → (x : Plan) × (plan_on manner line xs p ≡ Ok x) × (plan_on manner line ys x ≡ Ok q)
unfolding plan_on
plan_parts manner line [] ys p q e = (p, refl, e)
plan_parts manner line (s ∷ xs) ys p q e = by (planned manner line s p) refl e (λ y f. plan_parts manner line xs ys y q f)
  where
    by : (r : Result Plan ImportFault) → planned manner line s p ≡ r → (r >>= (λ x. plan_on manner line (xs ++ ys) x)) ≡ Ok q
        → ((y : Plan) → plan_on manner line (xs ++ ys) y ≡ Ok q → (x : Plan) × (plan_on manner line xs y ≡ Ok x) × (plan_on manner line ys x ≡ Ok q))
        → (x : Plan) × ((planned manner line s p >>= (λ x. plan_on manner line xs x)) ≡ Ok x) × (plan_on manner line ys x ≡ Ok q)
    by (Ok y) is f more = let rest = more y f in (rest.0, ap (λ r. r >>= (λ x. plan_on manner line xs x)) is ∙ rest.1, rest.2)
    by (Err g) is f more = cc

plan_first : (manner : Manner) (line : ℕ) (s : Step) (ss : List Step) (p q : Plan) → plan_on manner line (s ∷ ss) p ≡ Ok q → (x : Plan) × (planned manner line s p ≡ Ok x) × (plan_on manner line ss x ≡ Ok q)
unfolding plan_on
plan_first manner line s ss p q e = by (planned manner line s p) refl e
  where
    by : (r : Result Plan ImportFault) → planned manner line s p ≡ r → (r >>= (λ x. plan_on manner line ss x)) ≡ Ok q → (x : Plan) × (planned manner line s p ≡ Ok x) × (plan_on manner line ss x ≡ Ok q)
    by (Ok y) is f = (y, is, f)
    by (Err g) is f = cc

ok_is : (p q : Plan) → ◌≡◌ {A = Result Plan ImportFault} (Ok p) (Ok q) → p ≡ q
ok_is p q e = cc

-- the innermost frame
last_of : (fs : List Frame) (f : Frame) → slice_get (fs ++ f ∷ []) (length (fs ++ f ∷ []) - 1) ≡ Some f
last_of fs f = let k : length (fs ++ f ∷ []) - 1 ≡ length fs = omega (arith, length_push fs f) in ap (slice_get (fs ++ f ∷ [])) k ∙ get_seam fs f
  where
    get_seam : (xs : List Frame) (c : Frame) → slice_get (xs ++ c ∷ []) (length xs) ≡ Some c
    get_seam [] c = refl
    get_seam (x ∷ xs) c = get_seam xs c

without_last : (fs : List Frame) (f : Frame) → take (length (fs ++ f ∷ []) - 1) (fs ++ f ∷ []) ≡ fs
without_last fs f =
    let k : length (fs ++ f ∷ []) - 1 ≡ length fs = omega (arith, length_push fs f) in ap (λ n. take n (fs ++ f ∷ [])) k ∙ take-append_seam fs (f ∷ [])

stops_many : (n : ℕ) (gs : Segments) → length (stops n gs) ≡ length gs
unfolding stops
stops_many n [] = refl
stops_many n (g ∷ gs) = ap (λ k. suc k) (stops_many (n + length g) gs)

-- the segments of all branches, one below the other
abbrev below : List Segments → Segments
below bs = flat_map (λ b. b) bs

-- a plan behind the branches of its innermost par
record Branched (p : Plan) (fs : List Frame) (f : Frame) (bs : List Segments) (q : Plan) : Type 0 where
  holds : Holds p (below bs) q
  frame : Frame
  frames : q.frames ≡ fs ++ frame ∷ []
  marks : Marks f bs frame

branched_none : (p : Plan) (fs : List Frame) (f : Frame) → p.frames ≡ fs ++ f ∷ [] → Branched p fs f [] p
branched_none p fs f frames = record { holds = (adds_none p).holds; frame = f; frames = frames; marks = marks_none f }

-- one branch, which has led to y, and then others
branched_more : (p y z q : Plan) (fs : List Frame) (f : Frame) (gs : Segments) (bs : List Segments) → f.mark ≡ length p.ends → Adds p gs y → z.events ≡ y.events → z.ends ≡ y.ends → Branched z fs (marked (length y.ends) f) bs q → Branched p fs f (gs ∷ bs) q
branched_more p y z q fs f gs bs at a events ends r =
    let many : length y.ends ≡ length p.ends + length gs = ap length a.holds.ends ∙ length-append p.ends (stops (length p.events) gs) ∙ ap (λ k. length p.ends + k) (stops_many (length p.events) gs) in
    let first : Holds p gs z = record { events = events ∙ a.holds.events; ends = ends ∙ a.holds.ends } in
    record {
      holds = holds_then p z q gs (below bs) first r.holds;
      frame = r.frame;
      frames = r.frames;
      marks = marks_more f r.frame (length p.ends) gs bs at (subst (λ k. Marks (marked k f) bs r.frame) many r.marks);
    }

-- a par of this plan, at its begin
abbrev begun : Position → Plan → Frame
begun place p = record { place = place; start = length p.ends; mark = length p.ends; busy = false; several = false; wide = false }

-- a par ends
module _ (p : Plan) (place : Position) (bs : List Segments) (x : Plan) (b : Branched (opened place p) p.frames (begun place p) bs x) where
  abbrev ended : Bool → Plan
  ended t = record { events = x.events; ends = cond t (take b.frame.start x.ends ++ length x.events ∷ []) x.ends; frames = take (length x.frames - 1) x.frames }

  ended_holds : (t : Bool) → Holds p (cond t (all_of (below bs) ∷ []) (below bs)) (ended t)
  unfolding stops
  ended_holds true =
      let front : take b.frame.start x.ends ≡ p.ends = ap (λ k. take k x.ends) b.marks.start ∙ ap (take (length p.ends)) b.holds.ends ∙ take-append_seam p.ends (stops (length p.events) (below bs)) in
      let many : length x.events ≡ length p.events + length (all_of (below bs)) = ap length b.holds.events ∙ length-append p.events (all_of (below bs)) in
      record {
        events = b.holds.events ∙ ap (λ l. p.events ++ l) (sym (append-nil (all_of (below bs))));
        ends = ap (λ l. l ++ length x.events ∷ []) front ∙ ap (λ k. p.ends ++ k ∷ []) many;
      }
  ended_holds false = record { events = b.holds.events; ends = b.holds.ends }

  same_test : is_coregion b.frame ≡ (several bs && not (is_wide bs))
  same_test = ap (λ s. s && not b.frame.wide) b.marks.several_are ∙ ap (λ w. several bs && not w) b.marks.wide_is

  ended_adds : Adds p (joined bs) (ended (is_coregion b.frame))
  ended_adds = record {
    holds = subst (λ t. Holds p (joined bs) (ended t)) (sym same_test) (ended_holds (several bs && not (is_wide bs)));
    frames = ap (λ l. take (length l - 1) l) b.frames ∙ without_last p.frames b.frame;
  }

  shut : (how : Par) (line : ℕ) (q : Plan) → closed_last how line x (last_frame x) ≡ Ok q → Adds p (joined bs) q
  shut how line q e =
      let last : last_frame x ≡ Some b.frame = ap (λ l. slice_get l (length l - 1)) b.frames ∙ last_of p.frames b.frame in
      let f : closed_last how line x (Some b.frame) ≡ Ok q = ap (closed_last how line x) (sym last) ∙ e in
      subst (Adds p (joined bs)) (without_fault (is_refused how b.frame) (Shared b.frame.place line) (ended (is_coregion b.frame)) q f) ended_adds

module _ (manner : Manner) (line : ℕ) where
  mutual
    unfolding plan_on planned

    adds : {ss : List Step} {gs : Segments} → IsSegmented manner.own line ss gs → (p q : Plan) → plan_on manner line ss p ≡ Ok q → Adds p gs q
    adds nothing p q e = subst (Adds p []) (ok_is p q e) (adds_none p)
    adds (arrow m ss gs d) p q e =
        let x = plan_first manner line (steps.Meets m) ss p q e in
        let is : met manner.own line m p ≡ x.0 = ok_is (met manner.own line m p) x.0 x.1 in
        adds_then p x.0 q (arrow_segments manner.own line m) gs (subst (Adds p (arrow_segments manner.own line m)) is (adds_met manner.own line m p)) (adds d x.0 q x.2)
    adds (par place inside bs ss gs b d) p q e =
        let x = plan_first manner line (steps.Opens place) (inside ++ steps.Closes ∷ ss) p q e in
        let is : opened place p ≡ x.0 = ok_is (opened place p) x.0 x.1 in
        let y = plan_parts manner line inside (steps.Closes ∷ ss) x.0 q x.2 in
        let z = plan_first manner line steps.Closes ss y.0 q y.2 in
        let r = branched b (opened place p) p.frames (begun place p) y.0 refl refl (subst (λ w. plan_on manner line inside w ≡ Ok y.0) (sym is) y.1) in
        adds_then p z.0 q (joined bs) gs (shut p place bs y.0 r manner.par line z.0 z.1) (adds d z.0 q z.2)

    branched : {ss : List Step} {bs : List Segments} → AreBranches manner.own line ss bs → (p : Plan) (fs : List Frame) (f : Frame) (q : Plan) → p.frames ≡ fs ++ f ∷ [] → f.mark ≡ length p.ends → plan_on manner line ss p ≡ Ok q → Branched p fs f bs q
    branched none p fs f q frames at e = subst (Branched p fs f []) (ok_is p q e) (branched_none p fs f frames)
    branched (branch ss gs rest bs d b) p fs f q frames at e =
        let y = plan_parts manner line ss (steps.Next ∷ rest) p q e in
        let a = adds d p y.0 y.1 in
        let z = plan_first manner line steps.Next rest y.0 q y.2 in
        let still : y.0.frames ≡ fs ++ f ∷ [] = a.frames ∙ frames in
        let last : last_frame y.0 ≡ Some f = ap (λ l. slice_get l (length l - 1)) still ∙ last_of fs f in
        let is : marked_last y.0 (Some f) ≡ z.0 = ap (marked_last y.0) (sym last) ∙ ok_is (marked_last y.0 (last_frame y.0)) z.0 z.1 in
        let g = marked (length y.0.ends) f in
        let events : z.0.events ≡ y.0.events = sym (ap (λ (w : Plan). w.events) is) in
        let ends : z.0.ends ≡ y.0.ends = sym (ap (λ (w : Plan). w.ends) is) in
        let now : z.0.frames ≡ fs ++ g ∷ [] = sym (ap (λ (w : Plan). w.frames) is) ∙ ap (λ l. take (length l - 1) l ++ g ∷ []) still ∙ ap (λ l. l ++ g ∷ []) (without_last fs f) in
        branched_more p y.0 z.0 q fs f gs bs at a events ends (branched b z.0 fs g q now (ap length (sym ends)) z.2)

-- each segment is an item
module _ (names : List (List ℕ)) where
  between_seam : (front g rest : List Event) → between (front ++ (g ++ rest)) (length front) (length front + length g) ≡ g
  between_seam front g rest =
      let all = front ++ (g ++ rest) in let n = length front in
      let low : nat_le n (n + length g) ≡ true = le-leb n (n + length g) (omega arith) in
      let high : nat_le (n + length g) (length all) ≡ true = le-leb (n + length g) (length all) (omega (arith, length-append front (g ++ rest), length-append g rest)) in
      let few : (n + length g) - n ≡ length g = omega arith in
      let found = take ((n + length g) - n) (drop n all) in
      ap (λ t. cond (t && nat_le (n + length g) (length all)) found []) low ∙ ap (λ t. cond (true && t) found []) high
      ∙ ap (λ k. take k (drop n all)) few ∙ ap (take (length g)) (drop-append_seam front (g ++ rest)) ∙ take-append_seam g rest

  items_are : (front : List Event) (gs : Segments) → drawn_items names (front ++ all_of gs) (length front) (stops (length front) gs) ≡ map (drawn_item names) gs
  unfolding drawn_items stops
  items_are front [] = refl
  items_are front (g ∷ gs) =
      let all = front ++ (g ++ all_of gs) in
      let many : length (front ++ g) ≡ length front + length g = length-append front g in
      let rest = ap (λ es. drawn_items names es (length (front ++ g)) (stops (length (front ++ g)) gs)) (sym (append_assoc front g (all_of gs))) ∙ items_are (front ++ g) gs in
      let these = ap (λ k. drawn_items names all k (stops k gs)) (sym many) ∙ rest in
      ap (λ es. drawn_item names es ∷ drawn_items names all (length front + length g) (stops (length front + length g) gs)) (between_seam front g (all_of gs))
      ∙ ap (λ is. drawn_item names g ∷ is) these

pub line_segments : (manner : Manner) (names : List (List ℕ)) (line : ℕ) (ss : List Step) (p : Plan) (gs : Segments) → plan_on manner line ss unplanned ≡ Ok p → IsSegmented manner.own line ss gs → drawn_items names p.events 0 p.ends ≡ map (drawn_item names) gs
line_segments manner names line ss p gs e s =
    let a = adds manner line s unplanned p e in
    ap (λ es. drawn_items names es 0 p.ends) a.holds.events ∙ ap (drawn_items names (all_of gs) 0) a.holds.ends ∙ items_are names [] gs
