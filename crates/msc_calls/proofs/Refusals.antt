-- How the faults of texts and drafts are answered.
use Rattle.std.proofs.Common.{◌≡◌, ◌≢◌, ℕ, List, Result, Err, refl, ap, subst, inl, inr}
use Rattle.msc_parser.specs.declared.fault.ParseFault.{ParseFault}
use Rattle.msc_parser.specs.Grammar.{Tree}
use Rattle.msc_parser.specs.Parsing.{HasDraft, HasParseFault, OneParsing}
use Rattle.msc_chart.specs.declared.fault.ChartFault.{ChartFault}
use Rattle.msc_chart.specs.Drawings.{Drawing}
use Rattle.msc_chart.specs.Faults.{Stands, IsFirstFault}
use Rattle.msc_source.specs.declared.fault.SourceFault.{SourceFault}
use Rattle.msc_source.specs.declared.fault.SourceFault.TheVariants as sources
use Rattle.msc_source.specs.declared.language.Language.TheVariants.{MscPr}
use Rattle.msc_source.specs.Reading as reading
use Rattle.msc_source.specs.Texts.{IsChartOf}
use Rattle.msc_report.specs.declared.fault.Fault.{Fault}
use Rattle.msc_report.specs.declared.fault.Fault.TheVariants.{Parse, Chart, Memory}
use Rattle.msc_print.specs.declared.page.WriteFault.{WriteFault}
use Rattle.msc_print.specs.declared.page.WriteFault.TheVariants as writing
use Rattle.msc_report.specs.Refusals.{of_source, of_writing}
use Rattle.msc_calls.specs.Answers.{RefusesText}
use Rattle.msc_calls.specs.Checking.{RefusesDraft}

module _ (one : OneParsing) (text : List ℕ) where
  -- a text is refused with the fault that it has
  pub text_refused : {A : Type 0} (f : SourceFault) → reading.Refuses MscPr text f → RefusesText {A = A} text (Err (of_source f))
  text_refused {A} (sources.Parse f) has = record {
    stands = λ g e. let same : f ≡ g = cc in subst (HasParseFault text) same has;
    comes = λ g h. inl (ap (λ (x : ParseFault). Err (Parse x)) (one.fault text f g has h));
    accepted = λ t h g e. one.apart text t f h has;
  }
  text_refused {A} (sources.Chart f) (d, has, first) = record {
    stands = λ g e. absurd cc;
    comes = λ g h. absurd (one.apart text d g has h);
    accepted = λ t h g e. cc;
  }
  text_refused {A} sources.Memory said = record {
    stands = λ g e. absurd cc;
    comes = λ g h. inr refl;
    accepted = λ t h g e. cc;
  }

  -- and so is its draft
  pub draft_refused : {A : Type 0} (f : SourceFault) → reading.Refuses MscPr text f → RefusesDraft {A = A} text (Err (of_source f))
  draft_refused {A} (sources.Parse f) has = record {
    stands = λ g e. absurd cc;
    comes = λ t h g stands. absurd (one.apart text t f h has);
  }
  draft_refused {A} (sources.Chart f) (d, has, first) = record {
    stands = λ g e. (d, has, let same : f ≡ g = cc in subst (IsFirstFault d) same first);
    comes = λ t h g stands. (Chart f, refl, subst (λ (x : Tree). IsFirstFault x f) (one.draft text d t has h) first);
  }
  draft_refused {A} sources.Memory said = record {
    stands = λ g e. absurd cc;
    comes = λ t h g stands. (Memory, refl, tt);
  }

  -- where a text has a draft, what is answered of it names no fault of a text
  pub text_drafted : {A : Type 0} (t : Tree) (answer : Result A Fault) → HasDraft text t
      → ((f : ParseFault) → answer ≢ Err (Parse f)) → RefusesText text answer
  text_drafted {A} t answer has other = record {
    stands = λ f e. absurd (other f e);
    comes = λ f h. absurd (one.apart text t f has h);
    accepted = λ u h f. other f;
  }

  -- and where it has a chart, no fault of a draft
  pub draft_charted : {A : Type 0} (d : Drawing) (answer : Result A Fault) → IsChartOf text d
      → ((f : ChartFault) → answer ≢ Err (Chart f)) → RefusesDraft text answer
  draft_charted {A} d answer is other = record {
    stands = λ f e. absurd (other f e);
    comes = λ t h f stands. absurd (is.faultless f (subst (λ (x : Tree). Stands x f) (one.draft text t is.draft h is.has) stands));
  }

-- why a text has no draft is why it has no chart
pub read_refused : (text : List ℕ) (f : SourceFault) → reading.RefusesDraft MscPr text f → reading.Refuses MscPr text f
read_refused text (sources.Parse f) has = has
read_refused text (sources.Chart f) has = absurd has
read_refused text sources.Memory has = tt

-- what is not written to its end has no fault of a text
pub write_refuses_no_text : {A : Type 0} (w : WriteFault) (f : ParseFault) → ◌≢◌ {A = Result A Fault} (Err (of_writing w)) (Err (Parse f))
write_refuses_no_text {A} writing.Memory f e = cc
write_refuses_no_text {A} writing.Device f e = cc

-- and none of a draft
pub write_refuses_no_draft : {A : Type 0} (w : WriteFault) (f : ChartFault) → ◌≢◌ {A = Result A Fault} (Err (of_writing w)) (Err (Chart f))
write_refuses_no_draft {A} writing.Memory f e = cc
write_refuses_no_draft {A} writing.Device f e = cc
