-- The events that names mean.
use Rattle.std.proofs.Common.{◌≡◌, ℕ, ◌<◌, List, Option, None, Some, MatchOption, length, ap, sym, ◌∙◌, subst, inl, inr, true, arith, tests}
use Rattle.std.proofs.lemmas.Option.{slice_get_within}
use Rattle.msc_chart.proofs.DraftEvents.{events_count}
use Rattle.msc_chart.proofs.Matched.{chart_count}
use Rattle.msc_chart.specs.Drawings.{Drawing}
use Rattle.msc_import.specs.declared.importing.Imported.{Imported}
use Rattle.msc_parser.specs.Drafts.{statements_of}
use Rattle.msc_parser.specs.Grammar.{Tree}
use Rattle.msc_parser.specs.Parsing.{HasDraft}
use Rattle.msc_place.specs.Standing.{HasNoneOnLine, IsFirstOnLine}
use Rattle.msc_place.specs.declared.position.Position.{Position}
use Rattle.msc_reason.specs.Pairs.{AreTwoEvents}
use Rattle.msc_report.specs.declared.pair.EventName.{EventName}
use Rattle.msc_report.specs.declared.pair.EventName.TheVariants.{Number, Line}
use Rattle.msc_source.specs.Texts.{IsChartOf}
use Rattle.msc_answer.specs.Charted.{ChartedText, HasChart, IsCharted}
use Rattle.msc_answer.specs.Naming.{can_lead, can_pair, AreTwoNamed, HasNoLead, IsLead, IsNamed, IsNamedIn, LeastPairIf, NamesBy, NamesNoneBy}

-- a text that is no diagram draws its chart
pub draws_chart : (s : ChartedText) → s.imported ≡ None → IsCharted s → IsChartOf s.text s.chart
draws_chart s none has = subst (λ (i : Option Imported). HasChart i s.text s.chart) none has

-- the first event of a line is an event of the chart
pub known_event : (text : List ℕ) (d : Drawing) → IsChartOf text d → (line e : ℕ)
    → ((t : Tree) → HasDraft text t → IsFirstOnLine text t line e) → e < length d.events
known_event text d is line e first =
    let statements = statements_of is.draft.sections in
    let begins = (first is.draft is.has).begins.begins in
    let within : e < length statements = slice_get_within statements e begins.event begins.statement.listed in
    let size : length d.events ≡ length statements =
    ap (λ (d : Drawing). length d.events) is.chart ∙ chart_count is.draft ∙ events_count is.draft in
    omega (arith, within, size)

module _ (s : ChartedText) (text : List ℕ) (line : ℕ) where
  -- what is the first event of a line in a text is so in the source of that text
  pub first_here : (e : ℕ) → text ≡ s.text → ((t : Tree) → HasDraft text t → IsFirstOnLine text t line e)
      → (t : Tree) → HasDraft s.text t → IsFirstOnLine s.text t line e
  first_here e same first =
      subst (λ (bytes : List ℕ). (t : Tree) → HasDraft bytes t → IsFirstOnLine bytes t line e) same first

  -- and where there is none, there is none
  pub none_here : text ≡ s.text → ((t : Tree) → HasDraft text t → HasNoneOnLine text t line)
      → (t : Tree) → HasDraft s.text t → HasNoneOnLine s.text t line
  none_here same none =
      subst (λ (bytes : List ℕ). (t : Tree) → HasDraft bytes t → HasNoneOnLine bytes t line) same none

module _ (s : ChartedText) (name : EventName) where
  -- a name in a chart
  pub named_in_chart : s.imported ≡ None → (event : Option ℕ) → IsNamedIn s.text s.chart name event → IsNamed s name event
  named_in_chart none None is = subst (λ (i : Option Imported). NamesNoneBy i s.text s.chart name) (sym none) is
  named_in_chart none (Some e) is = subst (λ (i : Option Imported). NamesBy i s.text s.chart name e) (sym none) is

  -- and in a diagram
  pub named_in_diagram : (im : Imported) → s.imported ≡ Some im → (event : Option ℕ)
      → MatchOption event (HasNoLead im.places s.chart name) (IsLead im.places s.chart name) → IsNamed s name event
  named_in_diagram im some None is = subst (λ (i : Option Imported). NamesNoneBy i s.text s.chart name) (sym some) is
  named_in_diagram im some (Some e) is = subst (λ (i : Option Imported). NamesBy i s.text s.chart name e) (sym some) is

-- events that pass such tests are events of the chart
led : (positions : List Position) (d : Drawing) (name : EventName) (e : ℕ) → can_lead positions d name e ≡ true → e < length d.events
led positions d (Number n) e is = search (arith, tests)
led positions d (Line line) e is = search (arith, tests)

pair_first : (positions : List Position) (d : Drawing) (first second : EventName) (e f : ℕ) → can_pair positions d first second e f ≡ true → e < length d.events
pair_first positions d first second e f is = search (arith, tests)

pair_second : (positions : List Position) (d : Drawing) (first second : EventName) (e f : ℕ) → can_pair positions d first second e f ≡ true → f < length d.events
pair_second positions d first second e f is = search (arith, tests)

-- a name means an event of the chart
names_known : (im : Option Imported) (text : List ℕ) (d : Drawing) (name : EventName) (e : ℕ) → NamesBy im text d name e → e < length d.events
names_known None text d (Number n) e is = is.0
names_known None text d (Line line) e is = is.0
names_known (Some im) text d name e is = led im.places d name e is.passes

-- two names mean two events of the chart
paired_known : (im : Option Imported) (d : Drawing) (first second : EventName) (e f : ℕ) → LeastPairIf im d first second e f → AreTwoEvents d e f
paired_known None d first second e f is = absurd is
paired_known (Some im) d first second e f is = record {
  first = pair_first im.places d first second e f is.second_is.passes;
  second = pair_second im.places d first second e f is.second_is.passes;
  other = search (arith, tests);
}

pub two_known : (s : ChartedText) (first second : EventName) (e f : ℕ) → AreTwoNamed s first second e f → AreTwoEvents s.chart e f
two_known s first second e f (inl is) = paired_known s.imported s.chart first second e f is
two_known s first second e f (inr (none, two)) = record {
  first = names_known s.imported s.text s.chart first e two.first_is;
  second = names_known s.imported s.text s.chart second f two.second_is;
  other = two.differ;
}
