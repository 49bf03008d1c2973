-- A text is read in one way.
use Rattle.std.proofs.Common.{◌≡◌, ◌≢◌, ◌⊎◌, ℕ, List, Ok, Err, inl, inr, refl, sym, ap, ap₂, ◌∙◌, subst, arith}
use Rattle.msc_chart.specs.declared.fault.ChartFault.{ChartFault}
use Rattle.msc_chart.specs.declared.fault.ChartFault.TheVariants.{TooManyInstances, TwiceInstance, HeaderWithoutBody, UnknownAddress, TooManyMessages, TooManyActions, TwiceEvent, UnmatchedOut, UnmatchedIn, Cyclic, Memory}
use Rattle.msc_chart.specs.Drawings.{Drawing, chart_of}
use Rattle.msc_chart.specs.Faults.{Stands, rank, place, IsFirstFault}
use Rattle.msc_chart.proofs.FaultLemmas.{ranked_fault}
use Rattle.msc_parser.specs.Grammar.{Tree}
use Rattle.msc_parser.specs.Parsing.{HasDraft, OneParsing}
use Rattle.msc_source.specs.declared.fault.SourceFault.{SourceFault}
use Rattle.msc_source.specs.declared.fault.SourceFault.TheVariants as source
use Rattle.msc_source.specs.declared.language.Language.{Language}
use Rattle.msc_source.specs.declared.language.Language.TheVariants.{MscPr}
use Rattle.msc_source.specs.Reading.{DraftsAreReadInOneWay, IsRead, IsReading, Refuses, RefusesDraft, TextsAreReadInOneWay}
use Rattle.msc_source.specs.Texts.{ReadText, read_text, SourceText, source_text, IsChartOf}

-- a fault is the one of its rank at its place
ranked : (f : ChartFault) → f ≡ ranked_fault (rank f) (place f)
ranked TooManyInstances = refl
ranked (TwiceInstance i) = refl
ranked (HeaderWithoutBody k) = refl
ranked (UnknownAddress e) = refl
ranked TooManyMessages = refl
ranked TooManyActions = refl
ranked (TwiceEvent e) = refl
ranked (UnmatchedOut e) = refl
ranked (UnmatchedIn e) = refl
ranked (Cyclic e) = refl
ranked Memory = refl

-- a draft has one first fault
one_first : (d : Tree) (f g : ChartFault) → IsFirstFault d f → IsFirstFault d g → f ≡ g
one_first d f g first other =
    let there = first.first g other.stands in
    let back = other.first f first.stands in
    let ranks : rank f ≡ rank g = grind (arith, there, back) in
    let places : place f ≡ place g = grind (arith, there, back) in
    ranked f ∙ ap₂ ranked_fault ranks places ∙ sym (ranked g)

module _ (one : OneParsing) (text : List ℕ) where
  -- a text has one chart
  one_chart : (c d : Drawing) → IsChartOf text c → IsChartOf text d → c ≡ d
  one_chart c d is other =
      is.chart ∙ ap chart_of (one.draft text is.draft other.draft is.has other.has) ∙ sym other.chart

  -- so there is one source
  one_source : (s t : SourceText) → IsReading MscPr text (Ok s) → IsReading MscPr text (Ok t) → s ≡ t
  one_source s t a b =
      let charts = one_chart s.chart t.chart a.2 b.2 in
      ap (λ (l : Language). source_text l s.text s.chart) (a.0 ∙ sym b.0)
      ∙ ap₂ (λ (x : List ℕ) (y : Drawing). source_text t.language x y) (a.1 ∙ sym b.1) charts

  -- and one refusal
  one_refusal : (f g : SourceFault) → Refuses MscPr text f → f ≢ source.Memory → Refuses MscPr text g → (g ≡ f) ⊎ (g ≡ source.Memory)
  one_refusal f source.Memory a some b = inr refl
  one_refusal (source.Parse f) (source.Parse g) a some b = inl (ap source.Parse (one.fault text g f b a))
  one_refusal (source.Parse f) (source.Chart g) a some (d, has, first) = absurd (one.apart text d f has a)
  one_refusal (source.Chart f) (source.Parse g) (d, has, first) some b = absurd (one.apart text d g has b)
  one_refusal (source.Chart f) (source.Chart g) (d, has, first) some (t, its, other) =
      inl (ap source.Chart (one_first d g f (subst (λ (x : Tree). IsFirstFault x g) (one.draft text t d its has) other) first))
  one_refusal source.Memory g a some b = absurd (some refl)

  -- where it has a chart, no fault is answered
  only_memory : (d : Drawing) (f : SourceFault) → IsChartOf text d → Refuses MscPr text f → f ≡ source.Memory
  only_memory d (source.Parse f) is refused = absurd (one.apart text is.draft f is.has refused)
  only_memory d (source.Chart f) is (t, has, first) =
      absurd (is.faultless f (subst (λ (x : Tree). Stands x f) (one.draft text t is.draft has is.has) first.stands))
  only_memory d source.Memory is refused = refl

  -- a text has one draft
  one_read : (r t : ReadText) → IsRead MscPr text (Ok r) → IsRead MscPr text (Ok t) → r ≡ t
  one_read r t a b =
      let drafts = one.draft text r.draft t.draft a.2 b.2 in
      ap (λ (l : Language). read_text l r.text r.draft) (a.0 ∙ sym b.0)
      ∙ ap₂ (λ (x : List ℕ) (y : Tree). read_text t.language x y) (a.1 ∙ sym b.1) drafts

  -- where it has a draft, no fault is answered
  draft_only_memory : (d : Tree) (f : SourceFault) → HasDraft text d → RefusesDraft MscPr text f → f ≡ source.Memory
  draft_only_memory d (source.Parse f) has refused = absurd (one.apart text d f has refused)
  draft_only_memory d (source.Chart f) has refused = absurd refused
  draft_only_memory d source.Memory has refused = refl

  -- and where it has none, one fault is
  one_draft_refusal : (f g : SourceFault) → RefusesDraft MscPr text f → f ≢ source.Memory → RefusesDraft MscPr text g → (g ≡ f) ⊎ (g ≡ source.Memory)
  one_draft_refusal f source.Memory a some b = inr refl
  one_draft_refusal f (source.Chart g) a some b = absurd b
  one_draft_refusal (source.Parse f) (source.Parse g) a some b = inl (ap source.Parse (one.fault text g f b a))
  one_draft_refusal (source.Chart f) (source.Parse g) a some b = absurd a
  one_draft_refusal source.Memory (source.Parse g) a some b = absurd (some refl)

-- so its chart is read in one way
pub one_way : OneParsing → TextsAreReadInOneWay
one_way one MscPr text (Ok s) (Ok t) a some b = inl (ap Ok (one_source one text t s b a))
one_way one MscPr text (Ok s) (Err f) a some b = inr (ap Err (only_memory one text s.chart f a.2 b))
one_way one MscPr text (Err f) (Ok t) a some b = absurd (some (ap Err (only_memory one text t.chart f b.2 a)))
one_way one MscPr text (Err f) (Err g) a some b = elim (one_refusal one text f g a (λ memory. some (ap Err memory)) b) [
  | inl same ↦ inl (ap Err same)
  | inr memory ↦ inr (ap Err memory)
]

-- and its draft
pub one_draft_way : OneParsing → DraftsAreReadInOneWay
one_draft_way one MscPr text (Ok r) (Ok t) a some b = inl (ap Ok (one_read one text t r b a))
one_draft_way one MscPr text (Ok r) (Err f) a some b = inr (ap Err (draft_only_memory one text r.draft f a.2 b))
one_draft_way one MscPr text (Err f) (Ok t) a some b = absurd (some (ap Err (draft_only_memory one text t.draft f b.2 a)))
one_draft_way one MscPr text (Err f) (Err g) a some b = elim (one_draft_refusal one text f g a (λ memory. some (ap Err memory)) b) [
  | inl same ↦ inl (ap Err same)
  | inr memory ↦ inr (ap Err memory)
]
