-- Texts that were read, as contracts see them.
use Rattle.std.specs.Prelude.{◌≡◌, ℕ, List}
use Rattle.msc_chart.specs.Drawings.{Drawing, chart_of}
use Rattle.msc_chart.specs.Faults.{IsFaultless}
use Rattle.msc_parser.specs.declared.fault.ParseFault.{ParseFault}
use Rattle.msc_parser.specs.Grammar.{Tree}
use Rattle.msc_parser.specs.Parsing.{HasDraft, HasParseFault}
use Rattle.msc_source.specs.declared.language.Language.{Language}
use Rattle.msc_source.specs.declared.language.Language.TheVariants.{MscPr}

-- in this language the text has this draft
abbrev pub HasDraftIn : Language → List ℕ → Tree → Type 0
HasDraftIn MscPr text draft = HasDraft text draft

-- in this language the text has this fault, and so no draft
abbrev pub HasFaultIn : Language → List ℕ → ParseFault → Type 0
HasFaultIn MscPr text fault = HasParseFault text fault

-- the text has a draft in which no fault stands, and this is its chart
pub record IsChartIn (language : Language) (text : List ℕ) (d : Drawing) : Type 0 where
  pub draft : Tree
  pub has : HasDraftIn language text draft
  pub faultless : IsFaultless draft
  pub chart : d ≡ chart_of draft

-- the same in MSC/PR
abbrev pub IsChartOf : List ℕ → Drawing → Type 0
IsChartOf text d = IsChartIn MscPr text d

-- a text in its language, and a draft
pub record ReadText : Type 0 where
  pub language : Language
  pub text : List ℕ
  pub draft : Tree

-- these three
abbrev pub read_text : Language → List ℕ → Tree → ReadText
read_text language text draft = record { language = language; text = text; draft = draft }

-- the draft is that of the text
abbrev pub IsDrafted : ReadText → Type 0
IsDrafted r = HasDraftIn r.language r.text r.draft

-- a text in its language, and a chart
pub record SourceText : Type 0 where
  pub language : Language
  pub text : List ℕ
  pub chart : Drawing

-- these three
abbrev pub source_text : Language → List ℕ → Drawing → SourceText
source_text language text chart = record { language = language; text = text; chart = chart }

-- the chart is that of the text
abbrev pub IsSource : SourceText → Type 0
IsSource s = IsChartIn s.language s.text s.chart
