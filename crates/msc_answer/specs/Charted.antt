-- A text with its chart: the text draws it, or is a diagram of which the chart is a scenario.
use Rattle.std.specs.Prelude.{◌≡◌, ℕ, List, Option, None, Some, option_map}
use Rattle.msc_chart.specs.Drawings.{Drawing, chart_of}
use Rattle.msc_chart.specs.Faults.{IsFaultless}
use Rattle.msc_import.specs.declared.importing.Imported.{Imported}
use Rattle.msc_source.specs.Texts.{IsChartOf}
use Rattle.msc_answer.specs.declared.importing.ImportedDiagram.{ImportedDiagram}

-- a text and its chart, and if the text is a diagram, that and what was imported of it
pub record ChartedText : Type 0 where
  pub text : List ℕ
  pub chart : Drawing
  pub drawing : Option ImportedDiagram
  pub imported : Option Imported

-- these three
abbrev pub charted : List ℕ → Drawing → Option ImportedDiagram → ChartedText
charted text d drawing = record { text = text; chart = d; drawing = drawing; imported = option_map (λ x. x.imported) drawing }

-- a text that draws this chart
abbrev pub of_text : List ℕ → Drawing → ChartedText
of_text text d = charted text d None

-- a diagram of which this was imported
abbrev pub of_diagram : List ℕ → ImportedDiagram → ChartedText
of_diagram text drawing = charted text (chart_of drawing.imported.draft) (Some drawing)

-- the text draws this chart, or this is the chart of what was imported of it
abbrev pub HasChart : Option Imported → List ℕ → Drawing → Type 0
HasChart None text d = IsChartOf text d
HasChart (Some is) text d = IsFaultless is.draft × (d ≡ chart_of is.draft)

abbrev pub IsCharted : ChartedText → Type 0
IsCharted s = HasChart s.imported s.text s.chart
