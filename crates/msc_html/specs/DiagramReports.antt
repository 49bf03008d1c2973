-- The report of a diagram: one page for all its scenarios, as a tree, and its bytes.
use Rattle.std.specs.Prelude.{◌≡◌, ℕ, ◌+◌, Bool, cond, List, [], ◌∷◌, ◌++◌, Option, None, Some, codes, get_or, map, nat_eq}
use Rattle.std.specs.Fmt.{decimal}
use Rattle.std.specs.List.{range_with_len}
use Rattle.msc_chart.specs.Drawings.{Drawing}
use Rattle.msc_chart.specs.declared.queue.Queues.{Queues}
use Rattle.msc_links.specs.Said.{queues_said}
use Rattle.msc_picture.specs.declared.scene.Scene.{Scene}
use Rattle.msc_html.specs.declared.diagram.DiagramReport.{DiagramReport}
use Rattle.msc_html.specs.declared.diagram.CutReport.{CutReport}
use Rattle.msc_html.specs.declared.diagram.ReportSection.{ReportSection}
use Rattle.msc_html.specs.declared.part.SentenceStyle.{SentenceStyle}
use Rattle.msc_html.specs.declared.part.SentenceStyle.TheVariants.{Plain, Soft, Verdict, Pass, Scrolled}
use Rattle.msc_html.specs.declared.part.Tag.TheVariants.{Number}
use Rattle.msc_html.specs.Articles.{place_text}
use Rattle.msc_html.specs.Figures.{caption_nodes, figure_of}
use Rattle.msc_html.specs.Front.{diagram_advice, head_with, store_node, wide_sheet}
use Rattle.msc_html.specs.Paragraphs.{paragraphs}
use Rattle.msc_html.specs.Parts.{code, part_of, sentence, words}
use Rattle.msc_html.specs.Reports.{if_any, queues_text, race_text, version_node}
use Rattle.msc_tree.specs.Shapes.{plain, valued}
use Rattle.msc_tree.specs.Trees.{Node, children, line_text}
use Rattle.msc_tree.specs.Trees.Node.{block}

-- a finding as it is read: a paragraph of a text
abbrev pub paragraph_at : List (List ℕ) → ℕ → List ℕ
paragraph_at found j = get_or found j []

-- what the article of race k is called
abbrev pub race_title : ℕ → Node
race_title k = sentence (codes "h3") Plain (words (codes "Race ") ∷ part_of Number (decimal k) ∷ [])

-- the article of race k: its finding as people read it
abbrev pub finding_node : ℕ → List ℕ → Node
finding_node k text =
    block (codes "article") (valued (codes "id") (place_text k) ∷ [])
    (children (race_title k ∷ sentence (codes "pre") Scrolled (words text ∷ []) ∷ []))

-- the articles of these races, of which the first is number k + 1
abbrev pub findings_nodes : List (List ℕ) → ℕ → ℕ → List Node
findings_nodes found k races = map (λ j. finding_node (j + 1) (paragraph_at found j)) (range_with_len k races)

-- what stands below the picture of a scenario
abbrev pub scenario_caption : List ℕ
scenario_caption =
    codes "A capsule with a number marks a race, or several, told below by number; races that are told above are not marked. The small numbers are those of events."

-- the picture of a scenario, or else the command that draws it
abbrev pub picture_node : List ℕ → List ℕ → Option Scene → Node
picture_node heading command None = sentence (codes "p") Plain (words (codes "Its picture: ") ∷ code command ∷ [])
picture_node heading command (Some scene) = figure_of scene heading (caption_nodes scenario_caption)

-- a scenario, of whose races the first is number k + 1
abbrev pub section_nodes : List (List ℕ) → ℕ → ReportSection → List Node
section_nodes found k s =
    plain (codes "h2") s.heading ∷ picture_node s.heading s.command s.picture ∷ findings_nodes found k s.races

-- these scenarios
abbrev pub sections_nodes : List (List ℕ) → ℕ → List ReportSection → List Node
sections_nodes found k [] = []
sections_nodes found k (s ∷ sections) = section_nodes found k s ++ sections_nodes found (k + s.races) sections

-- how many races are told in these scenarios
abbrev pub races_in : List ReportSection → ℕ
races_in [] = 0
races_in (s ∷ sections) = s.races + races_in sections

-- so many scenarios
abbrev pub scenarios_text : ℕ → List ℕ
scenarios_text n =
    cond (nat_eq n 1) (codes "Sequence diagram") ((codes "Sequence diagram with " ++ decimal n) ++ codes " scenarios")

-- what is checked
abbrev pub diagram_checked : ℕ → Drawing → Queues → List ℕ
diagram_checked n d queues =
    ((((scenarios_text n ++ codes ", checked with ") ++ queues_text queues) ++ codes " (")
    ++ queues_said d queues) ++ codes ")."

-- how the verdict looks: of a diagram without races as one that passes
abbrev pub verdict_style : ℕ → SentenceStyle
verdict_style races = cond (nat_eq races 0) Pass Verdict

-- the verdict stands behind the findings
abbrev pub verdict_of : DiagramReport → List ℕ
verdict_of r = paragraph_at (paragraphs r.found) (races_in r.sections)

-- what the page begins with
abbrev pub diagram_front : DiagramReport → Drawing → Queues → List Node
diagram_front r d queues =
    plain (codes "h1") r.name
    ∷ sentence (codes "p") Soft (words (diagram_checked r.scenarios d queues) ∷ [])
    ∷ sentence (codes "p") (verdict_style (races_in r.sections)) (words (verdict_of r) ∷ [])
    ∷ if_any (races_in r.sections) (plain (codes "p") race_text ∷ [])

-- what it ends with, if it tells so many races
abbrev pub end_of_diagram : ℕ → List ℕ → List Node
end_of_diagram races version = if_any races diagram_advice ++ version_node version ∷ []

-- what it tells
abbrev pub diagram_nodes : DiagramReport → Drawing → Queues → List ℕ → List Node
diagram_nodes r d queues version =
    (diagram_front r d queues ++ sections_nodes (paragraphs r.found) 0 r.sections)
    ++ end_of_diagram (races_in r.sections) version

-- its body
abbrev pub diagram_body : DiagramReport → Drawing → Queues → List ℕ → Node
diagram_body r d queues version =
    block (codes "body") []
    (children (store_node ∷ block (codes "main") [] (children (diagram_nodes r d queues version)) ∷ []))

-- the page
abbrev pub diagram_page : DiagramReport → Drawing → Queues → List ℕ → Node
diagram_page r d queues version =
    block (codes "html") (valued (codes "lang") (codes "en") ∷ [])
    (children (head_with wide_sheet (verdict_of r) ∷ diagram_body r d queues version ∷ []))

-- its bytes
abbrev pub diagram_report_text : DiagramReport → Drawing → Queues → List ℕ → List ℕ
diagram_report_text r d queues version = codes "<!DOCTYPE html>\n" ++ line_text (diagram_page r d queues version)

-- the code has the paragraphs of a report's findings, and the number of its races
pub record IsCut (cut : CutReport) : Type 0 where
  pub found : cut.found.now ≡ paragraphs cut.report.now.found
  pub races : cut.races ≡ races_in cut.report.now.sections
