-- What reading a text to its canonical text answers, and how a text without a draft is refused.
use Rattle.std.specs.Prelude.{◌≡◌, ◌≢◌, ◌⊎◌, ℕ, List, Option, Result, Err}
use Rattle.std.specs.Io.KnownBytes.{Appends}
use Rattle.msc_parser.specs.declared.fault.ParseFault.{ParseFault}
use Rattle.msc_chart.specs.declared.fault.ChartFault.{ChartFault}
use Rattle.msc_parser.specs.Grammar.{Tree}
use Rattle.msc_parser.specs.Canonical.{canonical}
use Rattle.msc_parser.specs.Parsing.{HasDraft, HasParseFault}
use Rattle.msc_report.specs.declared.fault.Fault.{Fault}
use Rattle.msc_report.specs.declared.fault.Fault.TheVariants.{Parse, Chart, NotStarted, Memory}

-- the text has a draft, whose canonical text went behind the known bytes of a writer
pub record WritesDraft (text : List ℕ) (before after : Option (List ℕ)) : Type 0 where
  pub draft : Tree
  pub has : HasDraft text draft
  pub written : Appends before after (canonical draft)

-- a fault of the text is answered exactly where it stands, unless memory runs out
pub record RefusesText {A : Type 0} (text : List ℕ) (answer : Result A Fault) : Type 0 where
  pub stands : (f : ParseFault) → answer ≡ Err (Parse f) → HasParseFault text f
  pub comes : (f : ParseFault) → HasParseFault text f → (answer ≡ Err (Parse f)) ⊎ (answer ≡ Err Memory)
  pub accepted : (t : Tree) → HasDraft text t → (f : ParseFault) → answer ≢ Err (Parse f)

-- no fault of a chart is answered
abbrev pub BuildsNoChart : {A : Type 0} → Result A Fault → Type 0
BuildsNoChart answer = (f : ChartFault) → answer ≢ Err (Chart f)

-- no instance is answered that could not be started
abbrev pub StartsNothing : {A : Type 0} → Result A Fault → Type 0
StartsNothing answer = (i : ℕ) → answer ≢ Err (NotStarted i)
