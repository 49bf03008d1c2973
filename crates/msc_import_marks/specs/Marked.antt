-- The text of an import with the marks of its diagram.
use Rattle.std.specs.Prelude.{◌≡◌, ℕ, List, [], ◌∷◌, Option}
use Rattle.msc_arrow_marks.specs.Marks.{found_in}
use Rattle.msc_arrow_marks.specs.declared.marks.ArrowMark.{ArrowMark}
use Rattle.msc_place.specs.Standing.{ArePlaces, TextPlaces}
use Rattle.msc_scenarios.specs.Laws.{walked}
use Rattle.msc_import_marks.specs.declared.marked.DrawnScenario.{DrawnScenario}
use Rattle.msc_import_marks.specs.Commented.{commented}
use Rattle.msc_import_marks.specs.Comments.{mark_comments}
use Rattle.msc_import_marks.specs.Met.{met_arrows}

-- the comments of the events of a scenario, by these marks of its diagram
abbrev pub scenario_comments : List ℕ → List ArrowMark → DrawnScenario → List (Option (List ℕ))
scenario_comments text marks s =
    mark_comments text marks s.diagram.now.statements
    (met_arrows s.own s.diagram.now.statements (walked s.diagram.now s.choices.now).steps) s.events.now

-- it is a text with these comments of its events
abbrev pub IsCommentedText : List ℕ → List (Option (List ℕ)) → List ℕ → Type 0
IsCommentedText text comments out = (p : TextPlaces) × ArePlaces p × (p.text ≡ text) × (out ≡ commented p comments)

-- it is the text of a chart with these marks, if there are some
abbrev pub IsMarkedBy : List ℕ → List ArrowMark → DrawnScenario → List ℕ → List ℕ → Type 0
IsMarkedBy text [] s chart out = out ≡ chart
IsMarkedBy text (m ∷ ms) s chart out = IsCommentedText chart (scenario_comments text (m ∷ ms) s) out

-- it is the text of a chart with the marks of its diagram
abbrev pub IsMarkedText : List ℕ → DrawnScenario → List ℕ → List ℕ → Type 0
IsMarkedText text s chart out = IsMarkedBy text (found_in text s.diagram.now).marks s chart out
