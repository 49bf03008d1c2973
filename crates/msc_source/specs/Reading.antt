-- What reading a text answers. How a text is refused is said here, and nowhere else.
use Rattle.std.specs.Prelude.{◌≡◌, ◌≢◌, ◌⊎◌, ℕ, List, Result, Ok, Err}
use Rattle.msc_chart.specs.Faults.{IsFirstFault}
use Rattle.msc_parser.specs.Grammar.{Tree}
use Rattle.msc_source.specs.Texts.{HasDraftIn, HasFaultIn, IsChartIn, ReadText, SourceText}
use Rattle.msc_source.specs.declared.fault.SourceFault.{SourceFault}
use Rattle.msc_source.specs.declared.fault.SourceFault.TheVariants.{Parse, Chart, Memory}
use Rattle.msc_source.specs.declared.language.Language.{Language}

-- the text has no draft, and this is its first fault, or memory ran out
abbrev pub RefusesDraft : Language → List ℕ → SourceFault → Type 0
RefusesDraft language text (Parse f) = HasFaultIn language text f
RefusesDraft language text (Chart f) = ⊥
RefusesDraft language text Memory = Unit {0}

-- the text has no chart: it has no draft, or a draft with this first fault, or memory ran out
abbrev pub Refuses : Language → List ℕ → SourceFault → Type 0
Refuses language text (Parse f) = HasFaultIn language text f
Refuses language text (Chart f) = (draft : Tree) × HasDraftIn language text draft × IsFirstFault draft f
Refuses language text Memory = Unit {0}

-- the draft of the text is answered, or why it has none
abbrev pub IsRead : Language → List ℕ → Result ReadText SourceFault → Type 0
IsRead language text (Ok r) = (r.language ≡ language) × (r.text ≡ text) × HasDraftIn language text r.draft
IsRead language text (Err f) = RefusesDraft language text f

-- the chart of the text is answered, or why it has none
abbrev pub IsReading : Language → List ℕ → Result SourceText SourceFault → Type 0
IsReading language text (Ok s) = (s.language ≡ language) × (s.text ≡ text) × IsChartIn language text s.chart
IsReading language text (Err f) = Refuses language text f

-- A text is read in one way: what is said of it is answered, unless memory runs out. So a chart is
-- not refused, and what is refused with a fault is refused with that one.
abbrev pub TextsAreReadInOneWay : Type 0
TextsAreReadInOneWay =
    (language : Language) (text : List ℕ) (said answer : Result SourceText SourceFault)
    → IsReading language text said → said ≢ Err Memory → IsReading language text answer
    → (answer ≡ said) ⊎ (answer ≡ Err Memory)

-- and so is its draft
abbrev pub DraftsAreReadInOneWay : Type 0
DraftsAreReadInOneWay =
    (language : Language) (text : List ℕ) (said answer : Result ReadText SourceFault)
    → IsRead language text said → said ≢ Err Memory → IsRead language text answer
    → (answer ≡ said) ⊎ (answer ≡ Err Memory)
