-- The drafts of diagrams as they are read.
use Rattle.std.proofs.Common.{◌≡◌, ℕ, zero, suc, ◌+◌, ◌<◌, ◌≤◌, Bool, true, false, nat_le, length, sym, arith, List, [], ◌∷◌, Ok, refl, ap, subst, ◌∙◌}
use Rattle.std.specs.List.{sum_by}
use Rattle.std.specs.Str.{bytes_eq}
use Rattle.std.proofs.lemmas.Slice.Eq.{bytes_eq-Decides}
use Rattle.msc_chart.specs.Lists.{StandsAt, Occurs}
use Rattle.msc_chart.proofs.ListLemmas.{by_test}
use Rattle.msc_parser.specs.Canonical.{canonical}
use Rattle.msc_parser.specs.Drafts.{statements_of}
use Rattle.msc_parser.specs.Grammar.{Tree}
use Rattle.msc_parser.specs.declared.tree.Section.{Section}
use Rattle.msc_lexer.specs.declared.TheConstants.{TEXT_LIMIT}
use Rattle.msc_mermaid.specs.declared.TheConstants.{DEPTH_LIMIT}
use Rattle.msc_scenarios.specs.declared.steps.Message.{Message}
use Rattle.msc_scenarios.specs.declared.steps.Step.TheVariants as steps
use Rattle.msc_mermaid.specs.declared.fault.ImportFault.{ImportFault}
use Rattle.msc_import.specs.declared.plan.Manner.{Manner}
use Rattle.msc_mermaid.specs.declared.statement.Diagram.{Diagram}
use Rattle.msc_scenarios.specs.Steps.{Walk, line_at, walk, at_rest, unended}
use Rattle.msc_import.specs.Drafting.{drawn, drawn_walk, fitted, few_events, sections_on, short_enough, too_long, tree_of}
use Rattle.msc_mermaid.specs.Gives.{unless}
use Rattle.msc_scenarios.specs.Laws.{walked}
use Rattle.msc_scenarios.specs.Naming.{names_behind, number_name}
use Rattle.msc_import.specs.Plans.{Plan, plans_of}
use Rattle.msc_chart.specs.Events.{DraftEvent, events_of}
use Rattle.msc_import_laws.specs.Ends.{IsEndOfItsArrow}
use Rattle.msc_import_laws.specs.Heights.{height}
use Rattle.msc_import_laws.specs.Apart.{IsDrawnDown, IsToldApart, messages_in}
use Rattle.msc_import_laws.specs.Drawn.{heights_in}
use Rattle.msc_import_laws.specs.Outlined.{IsOutlined}
use Rattle.msc_import_laws.proofs.Growth.{Grows}
use Rattle.msc_import_laws.proofs.Names.{names_apart}
use Rattle.msc_import_laws.proofs.Numbers.{fitted_number}
use Rattle.msc_import_laws.proofs.Told.{DrawnEnd, drawn_end, end_of_arrow, is_drawn_down}
use Rattle.msc_import_laws.proofs.MetArrows.{IsMet, Meets}
use Rattle.msc_import_laws.proofs.Walks.{walks_meet}
use Rattle.msc_mermaid.proofs.SpellLemmas.{bound}

pub unless_is : {A : Type 0} (b : Bool) (e : ImportFault) (x y : A) → unless b e x ≡ Ok y → (b ≡ true) × (x ≡ y)
unless_is true e x y h = let same : x ≡ y = cc in (refl, same)
unless_is false e x y h = cc

-- a line that is there has a place
pub line_there : (lines : List (List ℕ)) (x : List ℕ) → Occurs lines x → line_at lines x < length lines
line_there [] x (j, h) = cc
line_there (l ∷ lines) x o =
    by_test (bytes_eq l x)
    (λ same. rw same (omega arith))
    (λ other.
    let rest = line_there lines x (behind o other) in
    rw other (omega (arith, rest)))
  where
    behind : Occurs (l ∷ lines) x → bytes_eq l x ≡ false → Occurs lines x
    behind (zero, h) other = let e : l ≡ x = cc in let f = (bytes_eq-Decides l x).1 e in cc
    behind (suc j, h) other = (j, h)

module _ (d : Diagram) (out : IsOutlined d) (given : List ℕ) where
  w : Walk
  w = walked d given

  grown : Grows (IsMet d.lines (DEPTH_LIMIT + 1) d.statements []) (at_rest d.lines given) (walked d given)
  unfolding Meets
  grown = meets (DEPTH_LIMIT + 1) refl
    where
      meets : (k : ℕ) → k ≡ DEPTH_LIMIT + 1 → Grows (IsMet d.lines k d.statements []) (at_rest d.lines given) (walk k d.statements [] (at_rest d.lines given))
      meets k e = walks_meet d.lines k d.statements [] (at_rest d.lines given) out.distinct out.low tt refl

  steps_new : (walked d given).steps ≡ grown.new
  steps_new = grown.steps

  pub walked_lines : (walked d given).lines ≡ d.lines
  walked_lines = grown.lines

  -- what is drawn of a number is the number
  drawn_number : (m : Message) → IsMet d.lines (DEPTH_LIMIT + 1) d.statements [] m → fitted m.number ≡ m.number
  drawn_number m h =
      let is : m.number ≡ number_name h.placed.number h.more = ap (λ (x : Message). x.number) h.is in
      ap fitted is ∙ fitted_number h.placed.number h.more h.low h.short (let few = h.few in omega (arith, few)) ∙ sym is

  pub met : (i : ℕ) (m : Message) → StandsAt (walked d given).steps i (steps.Meets m) → IsMet d.lines (DEPTH_LIMIT + 1) d.statements [] m
  met i m h = grown.made.each i m (subst (λ ss. StandsAt ss i (steps.Meets m)) steps_new h)

  few : sum_by messages_in (walked d given).steps ≤ 1024
  few = let a = grown.arrows in let b = grown.few (omega arith) in let c = ap (sum_by messages_in) steps_new in omega (arith, a, b, c)

  -- the path is one that is told apart
  apart : IsToldApart (length d.lines) (names_behind [] d.lines) (walked d given).steps
  apart = record {
    few_lines = out.few_lines;
    few_messages = few;
    few_actions = few;
    lines_apart = names_apart d.lines out.few_lines;
    arrows_apart = λ i j m n h k e.
        let a = met i m h in
        let b = met j n k in
        grown.made.apart i j m n (subst (λ ss. StandsAt ss i (steps.Meets m)) steps_new h) (subst (λ ss. StandsAt ss j (steps.Meets n)) steps_new k) (sym (drawn_number m a) ∙ e ∙ drawn_number n b);
    known = λ i m h.
        let a = met i m h in
        let both = out.known a.placed a.arrow a.stands a.says in
        let from : m.from ≡ line_at d.lines a.arrow.from = ap (λ (x : Message). x.from) a.is in
        let to : m.to ≡ line_at d.lines a.arrow.to = ap (λ (x : Message). x.to) a.is in
        (rw from (line_there d.lines a.arrow.from both.0), rw to (line_there d.lines a.arrow.to both.1));
  }

  module _ (manner : Manner) (name : List ℕ) (draft : Tree) where
    -- the draft is that of its plans
    draft_is : drawn manner name d given ≡ Ok draft → (plans : List Plan) × (plans_of manner (walked d given).steps (length (walked d given).lines) ≡ Ok plans)
        × (tree_of name (sections_on (walked d given).lines (names_behind [] (walked d given).lines) d.statements 0 plans []) ≡ draft)
    unfolding drawn drawn_walk
    draft_is e =
        let w : Walk = walked d given in
        let a = bound (plans_of manner w.steps (length w.lines)) _ draft e in
        let b = bound (unended w w.ending) _ draft a.2 in
        let sections : List Section = sections_on w.lines (names_behind [] w.lines) d.statements 0 a.0 [] in
        let c = bound (few_events name sections) short_enough draft b.2 in
        let first = (unless_is (nat_le (length (statements_of sections)) TEXT_LIMIT) too_long (tree_of name sections) c.0 c.1).1 in
        let second = (unless_is (nat_le (length (canonical c.0)) TEXT_LIMIT) too_long c.0 draft c.2).1 in
        (a.0, a.1, first ∙ second)

    pub draft_drawn : drawn manner name d given ≡ Ok draft → IsDrawnDown (heights_in manner d given) draft
    draft_drawn e =
        let p = draft_is e in
        let same : (walked d given).lines ≡ d.lines = grown.lines in
        let planned : plans_of manner (walked d given).steps (length d.lines) ≡ Ok p.0 = subst (λ (l : List (List ℕ)). plans_of manner (walked d given).steps (length l) ≡ Ok p.0) same p.1 in
        let is : tree_of name (sections_on d.lines (names_behind [] d.lines) d.statements 0 p.0 []) ≡ draft = subst (λ (l : List (List ℕ)). tree_of name (sections_on l (names_behind [] l) d.statements 0 p.0 []) ≡ draft) same p.2 in
        subst (IsDrawnDown (heights_in manner d given)) is (is_drawn_down manner name d.lines (names_behind [] d.lines) d.statements (walked d given).steps p.0 planned apart)

    -- each event is an end of its arrow
    pub draft_events : drawn manner name d given ≡ Ok draft → (e : ℕ) (v : DraftEvent) → StandsAt (events_of draft) e v
        → IsEndOfItsArrow manner.own (names_behind [] d.lines) (walked d given).steps v (height (heights_in manner d given) e)
    draft_events made e v h =
        let p = draft_is made in
        let same : (walked d given).lines ≡ d.lines = grown.lines in
        let planned : plans_of manner (walked d given).steps (length d.lines) ≡ Ok p.0 = subst (λ (l : List (List ℕ)). plans_of manner (walked d given).steps (length l) ≡ Ok p.0) same p.1 in
        let is : tree_of name (sections_on d.lines (names_behind [] d.lines) d.statements 0 p.0 []) ≡ draft = subst (λ (l : List (List ℕ)). tree_of name (sections_on l (names_behind [] l) d.statements 0 p.0 []) ≡ draft) same p.2 in
        end_of_arrow manner name d.lines (names_behind [] d.lines) d.statements (walked d given).steps p.0 planned apart e v (subst (λ (t : Tree). StandsAt (events_of t) e v) (sym is) h)

    -- with the end itself
    pub draft_ends : drawn manner name d given ≡ Ok draft → (e : ℕ) (v : DraftEvent) → StandsAt (events_of draft) e v
        → DrawnEnd manner.own (names_behind [] d.lines) (length d.lines) (walked d given).steps e v
    draft_ends made e v h =
        let p = draft_is made in
        let same : (walked d given).lines ≡ d.lines = grown.lines in
        let planned : plans_of manner (walked d given).steps (length d.lines) ≡ Ok p.0 = subst (λ (l : List (List ℕ)). plans_of manner (walked d given).steps (length l) ≡ Ok p.0) same p.1 in
        let is : tree_of name (sections_on d.lines (names_behind [] d.lines) d.statements 0 p.0 []) ≡ draft = subst (λ (l : List (List ℕ)). tree_of name (sections_on l (names_behind [] l) d.statements 0 p.0 []) ≡ draft) same p.2 in
        drawn_end manner name d.lines (names_behind [] d.lines) d.statements (walked d given).steps p.0 planned apart e v (subst (λ (t : Tree). StandsAt (events_of t) e v) (sym is) h)
