-- The events of a draft are the ends of its path's arrows.
use Rattle.std.proofs.Common.{◌≡◌, ℕ, zero, suc, ◌+◌, ◌*◌, ◌<◌, length, sym, arith, List, [], ◌∷◌, ◌++◌, map, replicate, Some, Result, Ok, Err, refl, ap, subst, ◌∙◌}
use Rattle.std.specs.List.{flat_map}
use Rattle.std.proofs.lemmas.List.{append-nil, append_assoc, length_push, length-replicate, map-append}
use Rattle.std.proofs.lemmas.Simd.{map-map}
use Rattle.msc_parser.specs.Grammar.{Tree}
use Rattle.msc_parser.specs.declared.tree.Item.{Item}
use Rattle.msc_parser.specs.declared.tree.Item.TheVariants.{Single, Coregion}
use Rattle.msc_parser.specs.declared.tree.Section.{Section}
use Rattle.msc_parser.specs.declared.tree.Statement.{Statement as Drawn}
use Rattle.msc_parser.specs.Drafts.{statements_in}
use Rattle.msc_chart.specs.Events.{Act, DraftEvent, act_of, drawn, events_of, events_of_item, events_of_items, events_of_sections, next_segment}
use Rattle.msc_chart.specs.Lists.{StandsAt}
use Rattle.msc_scenarios.specs.declared.steps.Message.{Message}
use Rattle.msc_scenarios.specs.declared.steps.Step.{Step}
use Rattle.msc_scenarios.specs.declared.steps.Step.TheVariants as steps
use Rattle.msc_mermaid.specs.declared.fault.ImportFault.{ImportFault}
use Rattle.msc_import.specs.declared.plan.Manner.{Manner}
use Rattle.msc_import.specs.declared.plan.Own.{Own}
use Rattle.msc_mermaid.specs.declared.statement.Placed.{Placed}
use Rattle.msc_import.specs.Drafting.{decl_of, drawn_event, drawn_items, fitted, line_name, section_of, sections_on, tree_of}
use Rattle.msc_mermaid.specs.Gives.{◌>>=◌}
use Rattle.msc_import.specs.Laws.{ends_on}
use Rattle.msc_import.specs.Plans.{Plan, planned, planned_all, plans_of, plans_on, unplanned}
use Rattle.msc_import.proofs.OrderLemmas.{line_has}
use Rattle.msc_import.proofs.TogetherLemmas.{line_planned}
use Rattle.msc_import_laws.specs.Ends.{fall as drop, heights_from, heights_of, heights_on}
use Rattle.msc_import_laws.proofs.Acts.{act_at, act_by}
use Rattle.msc_import_laws.proofs.EndLists.{End, end_at, ends_at, ends_from, ends_on_lines}
use Rattle.msc_import_laws.proofs.Parts.{Same, Side, drawn_part, same_ends, sides_on}

-- each line keeps its plan: as many plans as lines
all_many : (manner : Manner) (s : Step) (done ps qs : List Plan) → planned_all manner s done ps ≡ Ok qs → length qs ≡ length done + length ps
unfolding planned_all
all_many manner s done [] qs e = let same : done ≡ qs = cc in omega (arith, ap length same)
all_many manner s done (p ∷ ps) qs e = by (planned manner (length done) s p) (λ q k. all_many manner s (done ++ q ∷ []) ps qs k) e
  where
    by : (r : Result Plan ImportFault) → ((q : Plan) → planned_all manner s (done ++ q ∷ []) ps ≡ Ok qs → length qs ≡ length (done ++ q ∷ []) + length ps) → (r >>= (λ q. planned_all manner s (done ++ q ∷ []) ps)) ≡ Ok qs → length qs ≡ length done + suc (length ps)
    by (Ok q) more k = let rest = more q k in omega (arith, rest, length_push done q)
    by (Err f) more k = cc

on_many : (manner : Manner) (ss : List Step) (ps qs : List Plan) → plans_on manner ss ps ≡ Ok qs → length qs ≡ length ps
unfolding plans_on
on_many manner [] ps qs e = let same : ps ≡ qs = cc in sym (ap length same)
on_many manner (s ∷ ss) ps qs e = by (planned_all manner s [] ps) refl (λ q k. on_many manner ss q qs k) e
  where
    by : (r : Result (List Plan) ImportFault) → planned_all manner s [] ps ≡ r → ((q : List Plan) → plans_on manner ss q ≡ Ok qs → length qs ≡ length q) → (r >>= (λ q. plans_on manner ss q)) ≡ Ok qs → length qs ≡ length ps
    by (Ok q) is more k = let first = all_many manner s [] ps q is in let rest = more q k in omega (arith, first, rest)
    by (Err f) is more k = cc

pub plans_many : (manner : Manner) (ss : List Step) (n : ℕ) (qs : List Plan) → plans_of manner ss n ≡ Ok qs → length qs ≡ n
plans_many manner ss n qs e = on_many manner ss (replicate n unplanned) qs e ∙ length-replicate n unplanned

-- the sections of plans, of which the first is that of this line
pub sections_from : List (List ℕ) → List (List ℕ) → List Placed → ℕ → List Plan → List Section
sections_from lines names ps line [] = []
sections_from lines names ps line (p ∷ plans) = section_of names line (line_name lines line) ps p ∷ sections_from lines names ps (line + 1) plans

pub sections_are : (lines names : List (List ℕ)) (ps : List Placed) (line : ℕ) (plans : List Plan) (done : List Section) → sections_on lines names ps line plans done ≡ done ++ sections_from lines names ps line plans
unfolding sections_on sections_from
sections_are lines names ps line [] done = sym (append-nil done)
sections_are lines names ps line (p ∷ plans) done =
    sections_are lines names ps (line + 1) plans (done ++ section_of names line (line_name lines line) ps p ∷ [])
    ∙ append_assoc done (section_of names line (line_name lines line) ps p ∷ []) (sections_from lines names ps (line + 1) plans)

pub sections_many : (lines names : List (List ℕ)) (ps : List Placed) (line : ℕ) (plans : List Plan) → length (sections_from lines names ps line plans) ≡ length plans
unfolding sections_from
sections_many lines names ps line [] = refl
sections_many lines names ps line (p ∷ plans) = ap suc (sections_many lines names ps (line + 1) plans)

-- the name of each line stands among the instances
pub section_named : (lines names : List (List ℕ)) (ps : List Placed) (line : ℕ) (plans : List Plan) (j : ℕ) → j < length plans
    → StandsAt (map (λ s. s.decl.name) (sections_from lines names ps line plans)) j (fitted (line_name names (line + j)))
unfolding sections_from decl_of
section_named lines names ps line [] j lt = absurd (omega (arith, lt))
section_named lines names ps line (p ∷ plans) zero lt = let number : line ≡ line + 0 = omega arith in ap (λ (n : ℕ). Some (fitted (line_name names n))) number
section_named lines names ps line (p ∷ plans) (suc j) lt =
    let number : (line + 1) + j ≡ line + suc j = omega arith in
    subst (λ (n : ℕ). StandsAt (map (λ s. s.decl.name) (sections_from lines names ps (line + 1) plans)) j (fitted (line_name names n))) number (section_named lines names ps (line + 1) plans j (omega (arith, lt)))

-- what a contract sees of an event: its line, and what it does
pub record Doing : Type 0 where
  pub line : ℕ
  pub act : Act

abbrev pub doing : DraftEvent → Doing
doing v = record { line = v.line; act = v.act }

abbrev pub does : ℕ → List ℕ → Drawn → Doing
does line own s = record { line = line; act = act_of own s }

module _ (line : ℕ) (own : List ℕ) where
  item_does : (segment : ℕ) (i : Item) → map doing (events_of_item line own segment i) ≡ map (does line own) (statements_in i)
  item_does segment (Single s) = refl
  item_does segment (Coregion ss) = map-map doing (drawn line own segment) ss

  items_do : (segment : ℕ) (is : List Item) → map doing (events_of_items line own segment is) ≡ map (does line own) (flat_map statements_in is)
  items_do segment [] = refl
  items_do segment (i ∷ is) =
      map-append doing (events_of_item line own segment i) (events_of_items line own (next_segment segment i) is)
      ∙ ap (λ x. x ++ map doing (events_of_items line own (next_segment segment i) is)) (item_does segment i)
      ∙ ap (λ x. map (does line own) (statements_in i) ++ x) (items_do (next_segment segment i) is)
      ∙ sym (map-append (does line own) (statements_in i) (flat_map statements_in is))

-- the same of an end
abbrev pub end_does : List (List ℕ) → End → Doing
end_does names x = record { line = x.line; act = act_at names x }

module _ (names : List (List ℕ)) (own : Own) (line : ℕ) where
  part_does : (k : ℕ) (m : Message) (s : Side) → does line (fitted (line_name names line)) (drawn_part names m s) ≡ end_does names (end_at line k m s)
  unfolding act_by
  part_does k m s = refl

  parts_do : (k : ℕ) (m : Message) (es : List Side) → map (does line (fitted (line_name names line))) (map (drawn_part names m) es) ≡ map (end_does names) (map (end_at line k m) es)
  parts_do k m [] = refl
  parts_do k m (e ∷ es) = ap (λ x. x ∷ map (does line (fitted (line_name names line))) (map (drawn_part names m) es)) (part_does k m e) ∙ ap (λ x. end_does names (end_at line k m e) ∷ x) (parts_do k m es)

  step_does : (k : ℕ) (s : Step) → map (does line (fitted (line_name names line))) (map (drawn_event names) (ends_on own line s)) ≡ map (end_does names) (ends_at own line k s)
  unfolding Same
  step_does k (steps.Meets m) = ap (map (does line (fitted (line_name names line)))) (same_ends line k m names own).0 ∙ parts_do k m (sides_on own line m)
  step_does k (steps.Opens text) = refl
  step_does k steps.Next = refl
  step_does k steps.Closes = refl

  -- what the ends of a line do
  ends_do : (k : ℕ) (ss : List Step) → map (does line (fitted (line_name names line))) (map (drawn_event names) (flat_map (ends_on own line) ss)) ≡ map (end_does names) (ends_from own line k ss)
  ends_do k [] = refl
  ends_do k (s ∷ ss) =
      let f : Drawn → Doing = does line (fitted (line_name names line)) in
      ap (map f) (map-append (drawn_event names) (ends_on own line s) (flat_map (ends_on own line) ss))
      ∙ map-append f (map (drawn_event names) (ends_on own line s)) (map (drawn_event names) (flat_map (ends_on own line) ss))
      ∙ ap (λ x. x ++ map f (map (drawn_event names) (flat_map (ends_on own line) ss))) (step_does k s)
      ∙ ap (λ x. map (end_does names) (ends_at own line k s) ++ x) (ends_do (k + 1) ss)
      ∙ sym (map-append (end_does names) (ends_at own line k s) (ends_from own line (k + 1) ss))

-- the heights of the events are those of the ends
module _ (own : Own) where
  step_high : (line k : ℕ) (s : Step) → map (λ e. 4 * k + drop e) (ends_on own line s) ≡ map (λ (x : End). x.height) (ends_at own line k s)
  unfolding Same
  step_high line k (steps.Meets m) = (same_ends line k m [] own).1 ∙ sym (map-map (λ (x : End). x.height) (end_at line k m) (sides_on own line m))
  step_high line k (steps.Opens text) = refl
  step_high line k steps.Next = refl
  step_high line k steps.Closes = refl

  line_high : (line k : ℕ) (ss : List Step) → heights_from own line k ss ≡ map (λ (x : End). x.height) (ends_from own line k ss)
  line_high line k [] = refl
  line_high line k (s ∷ ss) =
      ap (λ x. x ++ heights_from own line (k + 1) ss) (step_high line k s)
      ∙ ap (λ x. map (λ (x : End). x.height) (ends_at own line k s) ++ x) (line_high line (k + 1) ss)
      ∙ sym (map-append (λ (x : End). x.height) (ends_at own line k s) (ends_from own line (k + 1) ss))

  lines_high : (ss : List Step) (line n : ℕ) → heights_on own ss line n ≡ map (λ (x : End). x.height) (ends_on_lines own ss line n)
  lines_high ss line zero = refl
  lines_high ss line (suc n) =
      ap (λ x. x ++ heights_on own ss (line + 1) n) (line_high line 0 ss)
      ∙ ap (λ x. map (λ (x : End). x.height) (ends_from own line 0 ss) ++ x) (lines_high ss (line + 1) n)
      ∙ sym (map-append (λ (x : End). x.height) (ends_from own line 0 ss) (ends_on_lines own ss (line + 1) n))

  pub heights_are : (ss : List Step) (n : ℕ) → heights_of own ss n ≡ map (λ (x : End). x.height) (ends_on_lines own ss 0 n)
  unfolding heights_of
  heights_are ss n = lines_high ss 0 n

-- all lines
module _ (lines names : List (List ℕ)) (ps : List Placed) (own : Own) (ss : List Step) where
  lines_do : (line : ℕ) (plans : List Plan)
      → ((j : ℕ) (p : Plan) → StandsAt plans j p → flat_map statements_in (drawn_items names p.events 0 p.ends) ≡ map (drawn_event names) (flat_map (ends_on own (line + j)) ss))
      → map doing (events_of_sections line (sections_from lines names ps line plans)) ≡ map (end_does names) (ends_on_lines own ss line (length plans))
  unfolding sections_from decl_of
  lines_do line [] h = refl
  lines_do line (p ∷ plans) h =
      let name = fitted (line_name names line) in
      let items = drawn_items names p.events 0 p.ends in
      let zero_on : line + 0 ≡ line = omega arith in
      let first = items_do line name 0 items ∙ ap (map (does line name)) (h 0 p refl ∙ ap (λ (n : ℕ). map (drawn_event names) (flat_map (ends_on own n) ss)) zero_on) ∙ ends_do names own line 0 ss in
      let rest = lines_do (line + 1) plans (λ j q at. let number : line + suc j ≡ (line + 1) + j = omega arith in h (suc j) q at ∙ ap (λ (n : ℕ). map (drawn_event names) (flat_map (ends_on own n) ss)) number) in
      map-append doing (events_of_items line name 0 items) (events_of_sections (line + 1) (sections_from lines names ps (line + 1) plans))
      ∙ ap (λ x. x ++ map doing (events_of_sections (line + 1) (sections_from lines names ps (line + 1) plans))) first
      ∙ ap (λ x. map (end_does names) (ends_from own line 0 ss) ++ x) rest
      ∙ sym (map-append (end_does names) (ends_from own line 0 ss) (ends_on_lines own ss (line + 1) (length plans)))

-- the events of a draft do what the ends of its path's arrows do, line by line
module _ (manner : Manner) (name : List ℕ) (lines names : List (List ℕ)) (ps : List Placed) (ss : List Step) (plans : List Plan) where
  unfoldable pub the_draft : Tree
  the_draft = tree_of name (sections_on lines names ps 0 plans [])

  pub draft_does : plans_of manner ss (length lines) ≡ Ok plans → map doing (events_of the_draft) ≡ map (end_does names) (ends_on_lines manner.own ss 0 (length lines))
  unfolding the_draft events_of
  draft_does e =
      ap (λ (x : List Section). map doing (events_of_sections 0 x)) (sections_are lines names ps 0 plans [])
      ∙ lines_do lines names ps manner.own ss 0 plans (λ j p at. let number : 0 + j ≡ j = omega arith in line_has manner names j ss p (line_planned manner ss (length lines) plans j p e at) ∙ ap (λ (n : ℕ). map (drawn_event names) (flat_map (ends_on manner.own n) ss)) (sym number))
      ∙ ap (ends_on_map manner.own ss names) (plans_many manner ss (length lines) plans e)
    where
      ends_on_map : Own → List Step → List (List ℕ) → ℕ → List Doing
      ends_on_map own ss names n = map (end_does names) (ends_on_lines own ss 0 n)
