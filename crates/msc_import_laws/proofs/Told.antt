-- The draft of a path whose arrows and lines are told apart has no fault, and is drawn from top to
-- bottom.
use Rattle.std.proofs.Common.{◌/◌, ◌≡◌, ℕ, ◌+◌, ◌*◌, ◌<◌, ◌≤◌, Bool, true, false, not, cond, length, sym, arith, inl, inr, List, [], ◌∷◌, map, slice_get, Option, Some, Ok, refl, ap, subst, ◌∙◌, count_by, IsTrue}
use Rattle.std.specs.List.{sum_by}
use Rattle.std.proofs.lemmas.Bool.{and_parts, cases_lt, eqb-true, ltb-true}
use Rattle.std.proofs.lemmas.List.{length-map}
use Rattle.std.proofs.lemmas.Option.{get_or_from_slice_get, slice_get_within}
use Rattle.msc_parser.specs.Grammar.{Tree}
use Rattle.msc_chart.specs.declared.event.ChartEvent.{ChartEvent}
use Rattle.msc_chart.specs.declared.event.EventKind.TheVariants.{Output, Input}
use Rattle.msc_chart.specs.Building.{IsClearBelow}
use Rattle.msc_chart.specs.Charting.{act_kind, end_place, event_of, partner_of}
use Rattle.msc_chart.specs.Charts.{at, before, is_output, kind, line, partner, segment, sends}
use Rattle.msc_chart.specs.Drawings.{chart_events}
use Rattle.msc_chart.specs.Events.{Act, DraftEvent, Key, MessageEnd, acts_of, address_of, events_of, header_of, instances_of, is_action, is_sent, is_taken, other_end}
use Rattle.msc_chart.specs.Events.Act.{OfMessage, Action}
use Rattle.msc_chart.specs.Faults.{AreTooMany, HoldsAt, IsRepeat, IsUnknown, IsUnmatched, OfEnd, Stands}
use Rattle.msc_chart.specs.Lists.{StandsAt, Occurs}
use Rattle.msc_chart.proofs.FaultLemmas.{clear_first, clear_next}
use Rattle.msc_chart.proofs.Lawful.{no_fault}
use Rattle.msc_chart.proofs.Matched.{chart_count, chart_in_text_order, drawn_at}
use Rattle.msc_chart.proofs.Places.{map-place, one_at, place-map}
use Rattle.msc_chart.proofs.TableLemmas.{place-stands}
use Rattle.msc_scenarios.specs.declared.steps.Message.{Message}
use Rattle.msc_scenarios.specs.declared.steps.Step.{Step}
use Rattle.msc_scenarios.specs.declared.steps.Step.TheVariants as steps
use Rattle.msc_import.specs.declared.plan.Manner.{Manner}
use Rattle.msc_mermaid.specs.declared.statement.Placed.{Placed}
use Rattle.msc_import.specs.Drafting.{fitted, line_name, sections_on, tree_of, drawn_event}
use Rattle.msc_import.specs.declared.plan.Own.{Own}
use Rattle.msc_import.specs.Plans.{Event, Plan, plans_of}
use Rattle.msc_import.specs.Laws.{ends_on}
use Rattle.msc_chart.specs.Events.{act_of}
use Rattle.msc_import_laws.proofs.Parts.{end_of_part}
use Rattle.msc_import_laws.proofs.EndOrder.{fall_small}
use Rattle.msc_import_laws.specs.Apart.{IsDrawnDown, IsToldApart, messages_in}
use Rattle.msc_import_laws.specs.Ends.{IsEndOfItsArrow, heights_of}
use Rattle.msc_import_laws.specs.Heights.{AreDrawnAt, height}
use Rattle.msc_import_laws.proofs.Acts.{IsEndAs, act_at, act_by, alone_is, back_key, end_as, fall_of_end, home_of_input, in_act, in_back_act, key_of, one_source, out_act, out_back_act, sent_is, source, taken_is, the_in, the_in_back, the_out, the_out_back, way, way_number, way_source}
use Rattle.msc_import_laws.proofs.Acts.IsEndAs.{Comes, ComesBack, Goes, GoesBack}
use Rattle.msc_import_laws.proofs.Counts.{OnceEach, alones_once, count_same, few_pass, ins_once, is_alone, is_in, is_out, outs_once}
use Rattle.msc_markdown.proofs.PassLemmas.{count_view as count_mapped}
use Rattle.msc_import_laws.proofs.Descent.{visual_down}
use Rattle.msc_import_laws.proofs.EndLists.{End, IsEndOf, ends_on_lines, at_home, end_of, has_end}
use Rattle.msc_import_laws.proofs.EndOrder.{Earlier, ends_apart, ends_ordered}
use Rattle.msc_import_laws.proofs.EndPairs.{back_apart, comes_back, comes_in, goes_back, goes_out, no_truth as not_so}
use Rattle.msc_import_laws.proofs.Parts.Side.{Out, In, OutBack, InBack}
use Rattle.msc_import_laws.proofs.Parts.{Side, fall, is_back, sides_on}
use Rattle.msc_import_laws.proofs.Sections.{Doing, heights_are, doing, draft_does, end_does, plans_many, section_named, sections_are, sections_from, sections_many, the_draft}

-- tests that are the other way round
same_not : (a b : Bool) → not a ≡ not b → a ≡ b
same_not true true e = refl
same_not true false e = cc
same_not false true e = cc
same_not false false e = refl

so : (b : Bool) → not b ≡ false → b ≡ true
so true e = refl
so false e = cc

some_number : (a b : List ℕ) → ◌≡◌ {A = Option (List ℕ)} (Some a) (Some b) → a ≡ b
some_number a b e = cc

-- the second output of an arrow is one below the first
one_below : (a b : ℕ) (x y : Bool) → 4 * a + cond x 1 0 ≡ 4 * b + cond y 1 0 + 1 → (a ≡ b) × (x ≡ true) × (y ≡ false)
one_below a b true false e = (omega (arith, e), refl, refl)
one_below a b true true e = absurd (omega (arith, e))
one_below a b false true e = absurd (omega (arith, e))
one_below a b false false e = absurd (omega (arith, e))

-- an event of a draft, as an end of its arrow, among those of so many lines
pub record DrawnEnd (own : Own) (names : List (List ℕ)) (lines : ℕ) (ss : List Step) (e : ℕ) (v : DraftEvent) : Type 0 where
  pub end : End
  pub stands : StandsAt (ends_on_lines own ss 0 lines) e end
  pub step : ℕ
  pub met : StandsAt ss step (steps.Meets end.message)
  pub event : Event
  pub its : Occurs (ends_on own v.line (steps.Meets end.message)) event
  pub does : v.act ≡ act_of (fitted (line_name names v.line)) (drawn_event names event)

module _ (manner : Manner) (name : List ℕ) (lines names : List (List ℕ)) (ps : List Placed) (ss : List Step) (plans : List Plan)
    (planned : plans_of manner ss (length lines) ≡ Ok plans) (told : IsToldApart (length lines) names ss) where
  d : Tree
  d = tree_of name (sections_on lines names ps 0 plans [])

  n : ℕ
  n = length lines

  ends : List End
  ends = ends_on_lines manner.own ss 0 (length lines)

  all_do : map doing (events_of d) ≡ map (end_does names) ends
  unfolding d ends the_draft
  all_do = draft_does manner name lines names ps ss plans planned

  -- the end of an event
  record OfEvent (e : ℕ) (v : DraftEvent) : Type 0 where
    end : End
    stands : StandsAt ends e end
    line : end.line ≡ v.line
    act : act_at names end ≡ v.act

  of_event : (e : ℕ) (v : DraftEvent) → StandsAt (events_of d) e v → OfEvent e v
  of_event e v h =
      let p = place-map doing (events_of d) e v h in
      let q = map-place (end_does names) ends e (doing v) (subst (λ l. StandsAt l e (doing v)) all_do p) in
      record { end = q.0; stands = q.1; line = ap (λ (w : Doing). w.line) q.2; act = ap (λ (w : Doing). w.act) q.2 }

  acts_are : acts_of d ≡ map (λ (w : Doing). w.act) (map doing (events_of d))
  unfolding acts_of
  acts_are = acts_by (events_of d)
    where
      acts_by : (vs : List DraftEvent) → map (λ v. v.act) vs ≡ map (λ (w : Doing). w.act) (map doing vs)
      acts_by [] = refl
      acts_by (v ∷ vs) = ap (λ x. v.act ∷ x) (acts_by vs)

  acts_told : acts_of d ≡ map (act_at names) ends
  acts_told = acts_are ∙ ap (map (λ (w : Doing). w.act)) all_do ∙ by ends
    where
      by : (xs : List End) → map (λ (w : Doing). w.act) (map (end_does names) xs) ≡ map (act_at names) xs
      by [] = refl
      by (x ∷ xs) = ap (λ y. act_at names x ∷ y) (by xs)

  -- an end of a message in the acts, and the end of which it is
  record OfMessageEnd (e : ℕ) (y : MessageEnd) : Type 0 where
    end : End
    stands : StandsAt ends e end
    of : IsEndOf manner.own ss end
    within : end.line < n
    is : IsEndAs names end.message end.side y

  of_end : (e : ℕ) (y : MessageEnd) → StandsAt (acts_of d) e (OfMessage y) → OfMessageEnd e y
  unfolding ends n
  of_end e y h =
      let q = map-place (act_at names) ends e (OfMessage y) (subst (λ l. StandsAt l e (OfMessage y)) acts_told h) in
      let x : End = q.0 in
      let r = end_of manner.own ss 0 (length lines) x (e, q.1) in
      record {
        end = x;
        stands = q.1;
        of = r.2;
        within = omega (arith, r.1);
        is = end_as names x.line x.message x.side y (at_home manner.own x.line x.message x.side r.2.side) (q.2);
      }

  act_stands : (e : ℕ) (x : End) → StandsAt ends e x → StandsAt (acts_of d) e (act_at names x)
  act_stands e x h = subst (λ l. StandsAt l e (act_at names x)) (sym acts_told) (place-map (act_at names) ends e x h)

  -- ends of messages with one number are of one step
  one_step : (x y : End) → IsEndOf manner.own ss x → IsEndOf manner.own ss y → fitted x.message.number ≡ fitted y.message.number → (a : ℕ) × (x.height ≡ 4 * a + fall x.side) × (y.height ≡ 4 * a + fall y.side) × (x.message ≡ y.message) × StandsAt ss a (steps.Meets x.message)
  one_step x y p q e =
      let same = told.arrows_apart p.step q.step x.message y.message p.met q.met e in
      let one : Some (steps.Meets x.message) ≡ Some (steps.Meets y.message) = sym p.met ∙ ap (slice_get ss) same ∙ q.met in
      (p.step, p.high, q.high ∙ ap (λ (k : ℕ). 4 * k + fall y.side) (sym same), cc, p.met)

  -- who sends is a line
  source_within : (x : End) → IsEndOf manner.own ss x → source x.message x.side < length lines
  source_within x p =
      elim (is_back x.side) as (λ b. cond b x.message.to x.message.from < length lines) [
        | true ↦ (told.known p.step x.message p.met).1
        | false ↦ (told.known p.step x.message p.met).0
      ]

  -- ends of messages of one arrow and one sender are of one message
  one_way : (x y : End) (u v : MessageEnd) → IsEndOf manner.own ss x → IsEndOf manner.own ss y → IsEndAs names x.message x.side u → IsEndAs names y.message y.side v
      → x.message ≡ y.message → u.key ≡ v.key → is_back x.side ≡ is_back y.side
  one_way x y u v p q i j same key =
      let senders = way_source names x.message x.side u i ∙ ap (λ (k : Key). k.sender) key ∙ sym (way_source names y.message y.side v j) in
      let here = told.lines_apart (source x.message x.side) (source y.message y.side) (source_within x p) (source_within y q) senders in
      one_source x.message x.side y.side
      (λ b e. back_apart manner.own x.line x.message x.side b p.side e)
      (λ b e. back_apart manner.own y.line y.message y.side b q.side (ap (λ (m : Message). m.from) (sym same) ∙ e ∙ ap (λ (m : Message). m.to) same))
      (here ∙ ap (λ (m : Message). source m y.side) (sym same))

  -- equal ends stand at one place
  once : (e f : ℕ) (y : MessageEnd) → StandsAt (acts_of d) e (OfMessage y) → StandsAt (acts_of d) f (OfMessage y) → e ≡ f
  unfolding ends
  once e f y h k =
      let p = of_end e y h in
      let q = of_end f y k in
      let number = some_number (fitted p.end.message.number) (fitted q.end.message.number) (way_number names p.end.message p.end.side y p.is ∙ sym (way_number names q.end.message q.end.side y q.is)) in
      let step = one_step p.end q.end p.of q.of number in
      let back = one_way p.end q.end y y p.of q.of p.is q.is step.3 refl in
      let taking = same_not (is_in p.end.side) (is_in q.end.side) (way names p.end.message p.end.side y p.is ∙ sym (way names q.end.message q.end.side y q.is)) in
      let same : fall p.end.side ≡ fall q.end.side =
      fall_of_end names p.end.message p.end.side y p.is ∙ ap (λ (b : Bool). cond b 1 0 + cond (is_in p.end.side) 2 0) back ∙ ap (λ (b : Bool). cond (is_back q.end.side) 1 0 + cond b 2 0) taking
      ∙ sym (fall_of_end names q.end.message q.end.side y q.is) in
      ends_apart manner.own ss 0 (length lines) e f p.end q.end p.stands q.stands (step.1 ∙ ap (λ (t : ℕ). 4 * step.0 + t) same ∙ sym step.2)

  -- an end that a step has occurs in the acts
  end_occurs : (i k : ℕ) (m : Message) (s : Side) → k < length lines → StandsAt ss i (steps.Meets m) → Occurs (sides_on manner.own k m) s → Occurs (acts_of d) (act_by names k m s)
  unfolding ends
  end_occurs i k m s lt h o =
      let number : 0 + k ≡ k = omega arith in
      let r = has_end manner.own ss 0 (length lines) k i m s lt h (subst (λ (l : ℕ). Occurs (sides_on manner.own l m) s) (sym number) o) in
      let x : End = record { line = 0 + k; height = 4 * i + fall s; message = m; side = s } in
      (r.0, subst (StandsAt (acts_of d) r.0) (ap (λ (l : ℕ). act_by names l m s) number) (act_stands r.0 x r.1))

  -- the other end of each end is there
  other_there : (i line : ℕ) (m : Message) (s : Side) (y : MessageEnd) → StandsAt ss i (steps.Meets m) → Occurs (sides_on manner.own line m) s → IsEndAs names m s y → Occurs (acts_of d) (OfMessage (other_end y))
  unfolding the_out the_in the_out_back the_in_back
  other_there i line m s y met o Goes =
      subst (Occurs (acts_of d)) (in_act names m.to m refl) (end_occurs i m.to m In (told.known i m met).1 met (comes_in manner.own line m o))
  other_there i line m s y met o Comes =
      subst (Occurs (acts_of d)) (out_act names m.from m refl) (end_occurs i m.from m Out (told.known i m met).0 met (goes_out manner.own line m o))
  other_there i line m s y met o GoesBack =
      subst (Occurs (acts_of d)) (in_back_act names m.from m refl) (end_occurs i m.from m InBack (told.known i m met).0 met (comes_back manner.own line m o))
  other_there i line m s y met o ComesBack =
      subst (Occurs (acts_of d)) (out_back_act names m.to m refl) (end_occurs i m.to m OutBack (told.known i m met).1 met (goes_back manner.own line m o))

  other_occurs : (e : ℕ) (y : MessageEnd) → StandsAt (acts_of d) e (OfMessage y) → Occurs (acts_of d) (OfMessage (other_end y))
  other_occurs e y h = let p = of_end e y h in other_there p.of.step p.end.line p.end.message p.end.side y p.of.met p.of.side p.is

  -- the instances
  instances_are : instances_of d ≡ map (λ s. s.decl.name) (sections_from lines names ps 0 plans)
  unfolding instances_of d
  instances_are = ap (map (λ s. s.decl.name)) (sections_are lines names ps 0 plans [])

  instances_many : length (instances_of d) ≡ length lines
  instances_many = ap length instances_are ∙ length-map (sections_from lines names ps 0 plans) (λ s. s.decl.name) ∙ sections_many lines names ps 0 plans ∙ plans_many manner ss (length lines) plans planned

  instance_at : (j : ℕ) → j < length lines → StandsAt (instances_of d) j (fitted (line_name names j))
  instance_at j lt =
      let many = plans_many manner ss (length lines) plans planned in
      let number : 0 + j ≡ j = omega arith in
      subst (λ l. StandsAt l j (fitted (line_name names j))) (sym instances_are)
      (subst (λ (k : ℕ). StandsAt (map (λ s. s.decl.name) (sections_from lines names ps 0 plans)) j (fitted (line_name names k))) number (section_named lines names ps 0 plans j (omega (arith, lt, many))))

  none_repeats : (i : ℕ) → IsRepeat (instances_of d) i → ⊥
  none_repeats i h =
      let j : ℕ = h.2.0 in
      let known = slice_get_within (instances_of d) i h.0 h.1 in
      let many = instances_many in
      let below : i < length lines = omega (arith, known, many) in
      let low = h.2.1 in
      let before : j < length lines = omega (arith, below, low) in
      let one = one_at (instances_of d) i (fitted (line_name names i)) h.0 (instance_at i below) h.1 in
      let two = one_at (instances_of d) j (fitted (line_name names j)) h.0 (instance_at j before) h.2.2 in
      let same = told.lines_apart i j below before (one ∙ sym two) in
      omega (arith, same, low)

  address_there : (i : ℕ) (m : Message) (s : Side) (y : MessageEnd) → StandsAt ss i (steps.Meets m) → IsEndAs names m s y → Occurs (instances_of d) (address_of y)
  unfolding the_out the_in the_out_back the_in_back key_of back_key
  address_there i m s y met Goes = (m.to, instance_at m.to (told.known i m met).1)
  address_there i m s y met Comes = (m.from, instance_at m.from (told.known i m met).0)
  address_there i m s y met GoesBack = (m.from, instance_at m.from (told.known i m met).0)
  address_there i m s y met ComesBack = (m.to, instance_at m.to (told.known i m met).1)

  addresses_known : (e : ℕ) (a : Act) → StandsAt (acts_of d) e a → OfEnd (λ end. IsUnknown (instances_of d) (address_of end)) a → ⊥
  addresses_known e (OfMessage y) h u = let p = of_end e y h in u (address_there p.of.step p.end.message p.end.side y p.of.met p.is)
  addresses_known e (Action text) h u = absurd u

  matched : (sends : Bool) (e : ℕ) (a : Act) → StandsAt (acts_of d) e a → OfEnd (IsUnmatched sends (acts_of d)) a → ⊥
  matched sends e (OfMessage y) h u = u.alone (other_occurs e y h)
  matched sends e (Action text) h u = absurd u

  -- counts
  counted : (p : Act → Bool) (q : Side → Bool) → ((x : End) → p (act_at names x) ≡ q x.side) → count_by p (acts_of d) ≡ count_by (λ (x : End). q x.side) ends
  counted p q same = ap (count_by p) acts_told ∙ count_mapped p (act_at names) ends ∙ count_same (λ x. p (act_at names x)) (λ (x : End). q x.side) same ends

  few : (p : Act → Bool) (q : Side → Bool) → OnceEach manner.own q → ((x : End) → p (act_at names x) ≡ q x.side) → count_by p (acts_of d) ≤ sum_by messages_in ss
  unfolding ends
  few p q each same = let a = counted p q same in let b = few_pass manner.own q each ss 0 (length lines) in omega (arith, a, b)

  few_sent : count_by is_sent (acts_of d) ≤ sum_by messages_in ss
  few_sent = few is_sent is_out (outs_once manner.own) (λ x. sent_is names x.line x.message x.side)

  few_taken : count_by is_taken (acts_of d) ≤ sum_by messages_in ss
  few_taken = few is_taken is_in (ins_once manner.own) (λ x. taken_is names x.line x.message x.side)

  few_alone : count_by is_action (acts_of d) ≤ sum_by messages_in ss
  few_alone = few is_action is_alone (alones_once manner.own) (λ x. alone_is names x.line x.message x.side)

  not_too_many : AreTooMany (acts_of d) → ⊥
  not_too_many h = elim h [ inl many ↦ let a = few_sent in let b = told.few_messages in omega (arith, many, a, b) | inr many ↦ let a = few_taken in let b = told.few_messages in omega (arith, many, a, b) ]

  -- none of the faults below cycles stands
  clear : IsClearBelow d 10
  unfolding Stands header_of d
  clear =
      let c1 = clear_first d in
      let c2 = clear_next d 1 c1 (λ p h. let many = instances_many in let b = told.few_lines in omega (arith, h, many, b)) in
      let c3 = clear_next d 2 c2 none_repeats in
      let c4 = clear_next d 3 c3 no_header in
      let c5 = clear_next d 4 c4 (λ p h. addresses_known p h.0 h.1 h.2) in
      let c6 = clear_next d 5 c5 (λ p h. not_too_many h) in
      let c7 = clear_next d 6 c6 (λ p h. let a = few_alone in let b = told.few_actions in omega (arith, h, a, b)) in
      let c8 = clear_next d 7 c7 (λ p h. let same = once p h.2.0 h.0 h.1 h.2.2 in let low = h.2.1 in omega (arith, same, low)) in
      let c9 = clear_next d 8 c8 (λ p h. matched true p h.0 h.1 h.2) in
      clear_next d 9 c9 (λ p h. matched false p h.0 h.1 h.2)
    where
      no_header : (k : ℕ) → HoldsAt (IsUnknown (instances_of d)) (header_of d) k → ⊥
      no_header k h = let at = h.1 in cc

  heights : List ℕ
  heights = map (λ (x : End). x.height) (ends_on_lines manner.own ss 0 (length lines))

  height_is : (e : ℕ) (x : End) → StandsAt ends e x → height heights e ≡ x.height
  unfolding heights ends
  height_is e x h = get_or_from_slice_get (map (λ (x : End). x.height) (ends_on_lines manner.own ss 0 (length lines))) e x.height 0 (place-map (λ (x : End). x.height) ends e x h)

  -- the end of an event of the chart
  record OfChart (e : ℕ) : Type 0 where
    event : DraftEvent
    act : StandsAt (acts_of d) e event.act
    at : at (chart_events d) e ≡ event_of (acts_of d) e event
    end : OfEvent e event

  of_chart : (e : ℕ) → e < length (chart_events d) → OfChart e
  of_chart e within = let v = drawn_at d e within in record { event = v.0; act = v.2; at = v.3; end = of_event e v.0 v.1 }

  apart : (e f : ℕ) → e < length (chart_events d) → f < length (chart_events d) → height heights e ≡ height heights f → e ≡ f
  unfolding ends
  apart e f a b same =
      let x = (of_chart e a).end in
      let y = (of_chart f b).end in
      ends_apart manner.own ss 0 (length lines) e f x.end y.end x.stands y.stands (sym (height_is e x.end x.stands) ∙ same ∙ height_is f y.end y.stands)

  falls : (e f : ℕ) → IsTrue (before (chart_events d) e f) → height heights e < height heights f
  unfolding before ends Earlier line
  falls e f h =
      let both = and_parts _ _ h in
      let known = and_parts _ _ both.0 in
      let low = and_parts _ _ both.1 in
      let a : e < length (chart_events d) = ltb-true e _ known.0 in
      let b : f < length (chart_events d) = ltb-true f _ known.1 in
      let same : line (chart_events d) e ≡ line (chart_events d) f = eqb-true _ _ low.0 in
      let less : segment (chart_events d) e < segment (chart_events d) f = ltb-true _ _ low.1 in
      let x = of_chart e a in
      let y = of_chart f b in
      let lines_same : x.end.end.line ≡ y.end.end.line = x.end.line ∙ sym (ap (λ (v : ChartEvent). v.line) x.at) ∙ same ∙ ap (λ (v : ChartEvent). v.line) y.at ∙ sym y.end.line in
      let hx = height_is e x.end.end x.end.stands in
      let hy = height_is f y.end.end y.end.stands in
      elim (cases_lt e f) [
        | inl lt ↦ elim (ends_ordered manner.own ss 0 (length lines) e f x.end.end y.end.end lt x.end.stands y.end.stands) [
          | inl other ↦ absurd (omega (arith, other, lines_same))
          | inr below ↦ let r = below.1 in omega (arith, r, hx, hy)
        ]
        | inr ge ↦ let r = (chart_in_text_order d).rising f e ge a (sym same) in absurd (omega (arith, r, less))
      ]

  -- an output and its input, and of which ends of an arrow they are
  record Sending (s f : ℕ) : Type 0 where
    out : End
    out_stands : StandsAt ends s out
    out_of : IsEndOf manner.own ss out
    into : End
    into_stands : StandsAt ends f into
    into_of : IsEndOf manner.own ss into
    step : ℕ
    out_high : out.height ≡ 4 * step + cond (is_back out.side) 1 0
    into_high : into.height ≡ 4 * step + (cond (is_back out.side) 1 0 + 2)
    line_is : into.line ≡ cond (is_back out.side) out.message.from out.message.to
    met : StandsAt ss step (steps.Meets out.message)
    within : f < length (acts_of d)

  sending : (s : ℕ) (y : MessageEnd) → StandsAt (acts_of d) s (OfMessage y) → y.sends ≡ true → Sending s (end_place (acts_of d) (other_end y))
  unfolding ends
  sending s y h out =
      let o = other_occurs s y h in
      let f : ℕ = end_place (acts_of d) (other_end y) in
      let there : StandsAt (acts_of d) f (OfMessage (other_end y)) = (place-stands (acts_of d) (other_end y) o.0 o.1).0 in
      let p = of_end s y h in
      let q = of_end f (other_end y) there in
      let number = some_number (fitted p.end.message.number) (fitted q.end.message.number) (way_number names p.end.message p.end.side y p.is ∙ sym (way_number names q.end.message q.end.side (other_end y) q.is)) in
      let step = one_step p.end q.end p.of q.of number in
      let back = one_way p.end q.end y (other_end y) p.of q.of p.is q.is step.3 refl in
      let goes : is_in p.end.side ≡ false = not_so (is_in p.end.side) (way names p.end.message p.end.side y p.is ∙ out) in
      let comes : is_in q.end.side ≡ true = so (is_in q.end.side) (way names q.end.message q.end.side (other_end y) q.is ∙ ap not out) in
      let up = fall_of_end names p.end.message p.end.side y p.is ∙ ap (λ (b : Bool). cond (is_back p.end.side) 1 0 + cond b 2 0) goes in
      let down = fall_of_end names q.end.message q.end.side (other_end y) q.is ∙ ap (λ (b : Bool). cond (is_back q.end.side) 1 0 + cond b 2 0) comes ∙ ap (λ (b : Bool). cond b 1 0 + 2) (sym back) in
      let one = step.1 in
      let two = step.2 in
      let line = at_home manner.own q.end.line q.end.message q.end.side q.of.side ∙ home_of_input names q.end.message q.end.side (other_end y) q.is comes in
      record {
        out = p.end;
        out_stands = p.stands;
        out_of = p.of;
        into = q.end;
        into_stands = q.stands;
        into_of = q.of;
        step = step.0;
        out_high = omega (arith, one, up);
        into_high = two ∙ ap (λ (n : ℕ). 4 * step.0 + n) down;
        met = step.4;
        line_is = line ∙ ap (λ (b : Bool). cond b q.end.message.from q.end.message.to) (sym back) ∙ ap (λ (m : Message). cond (is_back p.end.side) m.from m.to) (sym step.3);
        within = slice_get_within (acts_of d) f (OfMessage (other_end y)) there;
      }

  sends_so : (y : MessageEnd) → sends (act_kind (OfMessage y)) ≡ true → y.sends ≡ true
  sends_so y out = elim y.sends as (λ b. sends (cond b Output Input) ≡ true → b ≡ true) [ true ↦ λ q. refl | false ↦ λ q. cc ] out

  -- the same of an output of the chart
  sending_act : (s : ℕ) (a : Act) → StandsAt (acts_of d) s a → sends (act_kind a) ≡ true → Sending s (partner_of (acts_of d) s a)
  sending_act s (OfMessage y) h out = sending s y h (sends_so y out)
  sending_act s (Action text) h out = cc

  sending_of : (s : ℕ) → IsTrue (is_output (chart_events d) s) → Sending s (partner (chart_events d) s)
  unfolding is_output kind partner
  sending_of s h =
      let parts = and_parts _ _ h in
      let x = of_chart s (ltb-true s _ parts.0) in
      let out : sends (act_kind x.event.act) ≡ true = sym (ap (λ (v : ChartEvent). sends v.kind) x.at) ∙ parts.1 in
      subst (Sending s) (sym (ap (λ (v : ChartEvent). v.partner) x.at)) (sending_act s x.event.act x.act out)

  sent : (s : ℕ) → IsTrue (is_output (chart_events d) s) → height heights (partner (chart_events d) s) ≡ height heights s + 2
  sent s h =
      let x = sending_of s h in
      let hp = height_is s x.out x.out_stands in
      let hq = height_is (partner (chart_events d) s) x.into x.into_stands in
      let one = x.out_high in
      let two = x.into_high in
      omega (arith, hp, hq, one, two)

  acts_many : length (acts_of d) ≡ length (events_of d)
  unfolding acts_of
  acts_many = length-map (events_of d) (λ v. v.act)

  -- the line of an input
  input_line : (s : ℕ) (h : IsTrue (is_output (chart_events d) s)) → line (chart_events d) (partner (chart_events d) s) ≡ (sending_of s h).into.line
  unfolding line
  input_line s h =
      let x = sending_of s h in
      let f : ℕ = partner (chart_events d) s in
      let y = of_chart f (subst (λ (n : ℕ). f < n) (acts_many ∙ sym (chart_count d)) x.within) in
      let same : y.end.end ≡ x.into = one_at ends f y.end.end x.into y.end.stands x.into_stands in
      ap (λ (v : ChartEvent). v.line) y.at ∙ sym y.end.line ∙ ap (λ (e : End). e.line) same

  -- where outputs stand right below each other, they are those of one arrow
  crossing : (s t : ℕ) → IsTrue (is_output (chart_events d) s) → IsTrue (is_output (chart_events d) t) → height heights t ≡ height heights s + 1
      → line (chart_events d) (partner (chart_events d) s) ≡ line (chart_events d) (partner (chart_events d) t) → ⊥
  crossing s t h k next same =
      let x = sending_of s h in
      let y = sending_of t k in
      let hs = height_is s x.out x.out_stands in
      let ht = height_is t y.out y.out_stands in
      let near : 4 * y.step + cond (is_back y.out.side) 1 0 ≡ 4 * x.step + cond (is_back x.out.side) 1 0 + 1 = sym y.out_high ∙ sym ht ∙ next ∙ ap (λ n. n + 1) (hs ∙ x.out_high) in
      let both = one_below y.step x.step (is_back y.out.side) (is_back x.out.side) near in
      let arrow : Some (steps.Meets x.out.message) ≡ Some (steps.Meets y.out.message) = sym x.met ∙ ap (slice_get ss) (sym both.0) ∙ y.met in
      let one : x.out.message ≡ y.out.message = cc in
      let lines : cond (is_back x.out.side) x.out.message.from x.out.message.to ≡ cond (is_back y.out.side) y.out.message.from y.out.message.to = sym x.line_is ∙ sym (input_line s h) ∙ same ∙ input_line t k ∙ y.line_is in
      let to : x.out.message.to ≡ y.out.message.from = sym (ap (λ (b : Bool). cond b x.out.message.from x.out.message.to) both.2) ∙ lines ∙ ap (λ (b : Bool). cond b y.out.message.from y.out.message.to) both.1 in
      back_apart manner.own y.out.line y.out.message y.out.side both.1 y.out_of.side (sym to ∙ ap (λ (m : Message). m.to) one)

  -- as many heights as events
  as_many : length heights ≡ length (chart_events d)
  unfolding heights ends
  as_many =
      length-map (ends_on_lines manner.own ss 0 (length lines)) (λ (x : End). x.height)
      ∙ sym (length-map ends (end_does names)) ∙ sym (ap length all_do) ∙ length-map (events_of d) doing ∙ sym (chart_count d)

  drawn_down : AreDrawnAt heights (chart_events d)
  drawn_down = record { each = as_many; apart = apart; falls = falls; sent = sent; crossing = crossing }

  pub is_drawn_down : IsDrawnDown (heights_of manner.own ss (length lines)) (tree_of name (sections_on lines names ps 0 plans []))
  unfolding d heights
  is_drawn_down = subst (λ hs. IsDrawnDown hs d) (sym (heights_are manner.own ss (length lines))) (record {
    faultless = no_fault d clear (λ e within cycle. let r = visual_down heights (chart_events d) drawn_down e e cycle in omega (arith, r));
    drawn = drawn_down;
  })

  -- each event is an end of its arrow
  pub end_of_arrow : (e : ℕ) (v : DraftEvent) → StandsAt (events_of (tree_of name (sections_on lines names ps 0 plans []))) e v
      → IsEndOfItsArrow manner.own names ss v (height (heights_of manner.own ss (length lines)) e)
  unfolding d ends heights act_by
  end_of_arrow e v h =
      let r = of_event e v h in
      let x : End = r.end in
      let of = (end_of manner.own ss 0 (length lines) x (e, r.stands)).2 in
      let part = end_of_part x.line x.message names manner.own x.side of.side in
      let high : height (heights_of manner.own ss (length lines)) e ≡ x.height = ap (λ (hs : List ℕ). height hs e) (heights_are manner.own ss (length lines)) ∙ height_is e x r.stands in
      let up = of.high in
      let small = fall_small x.side in
      let step : height (heights_of manner.own ss (length lines)) e / 4 ≡ of.step = omega (arith, high, up, small) in
      let falls = part.3 in
      record {
        arrow = steps.Meets x.message;
        met = subst (λ (k : ℕ). StandsAt ss k (steps.Meets x.message)) (sym step) of.met;
        end = part.0;
        its = subst (λ (l : ℕ). Occurs (ends_on manner.own l (steps.Meets x.message)) part.0) r.line part.1;
        does = sym r.act ∙ ap (act_of (fitted (line_name names x.line))) (sym part.2) ∙ ap (λ (l : ℕ). act_of (fitted (line_name names l)) (drawn_event names part.0)) r.line;
        falls = omega (arith, high, up, step, falls);
      }

  -- and the end itself, with its arrow
  pub drawn_end : (e : ℕ) (v : DraftEvent) → StandsAt (events_of (tree_of name (sections_on lines names ps 0 plans []))) e v → DrawnEnd manner.own names (length lines) ss e v
  unfolding d ends heights act_by
  drawn_end e v h =
      let r = of_event e v h in
      let x : End = r.end in
      let of = (end_of manner.own ss 0 (length lines) x (e, r.stands)).2 in
      let part = end_of_part x.line x.message names manner.own x.side of.side in
      record {
        end = x;
        stands = r.stands;
        step = of.step;
        met = of.met;
        event = part.0;
        its = subst (λ (l : ℕ). Occurs (ends_on manner.own l (steps.Meets x.message)) part.0) r.line part.1;
        does = sym r.act ∙ ap (act_of (fitted (line_name names x.line))) (sym part.2) ∙ ap (λ (l : ℕ). act_of (fitted (line_name names l)) (drawn_event names part.0)) r.line;
      }
