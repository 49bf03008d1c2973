-- The report of a chart's races as a tree, and its bytes.
use Rattle.std.specs.Prelude.{ℕ, ◌-◌, cond, List, [], ◌∷◌, ◌++◌, codes, map, nat_eq, nat_lt}
use Rattle.std.specs.Fmt.{decimal}
use Rattle.msc_chart.specs.Architectures.{usual_of}
use Rattle.msc_chart.specs.Drawings.{Drawing}
use Rattle.msc_chart.specs.declared.queue.Queues.{Queues}
use Rattle.msc_chart.specs.declared.queue.LinkKind.{LinkKind}
use Rattle.msc_chart.specs.declared.queue.LinkKind.TheVariants.{Pair, Mailbox, Single}
use Rattle.msc_draw.specs.Verdicts.{verdict_text}
use Rattle.msc_links.specs.Said.{queue_options, queues_said}
use Rattle.msc_picture.specs.declared.scene.Scene.{Scene}
use Rattle.msc_picture.specs.Scenes.{shown_byte}
use Rattle.msc_html.specs.declared.part.SentenceStyle.TheVariants.{Plain, Soft, Verdict, Pass, Scrolled}
use Rattle.msc_html.specs.Articles.{Article, article_node}
use Rattle.msc_html.specs.Figures.{caption_nodes, figure_of}
use Rattle.msc_html.specs.Front.{advice_nodes, head_node, store_node}
use Rattle.msc_html.specs.Parts.{code, sentence, words}
use Rattle.msc_tree.specs.Shapes.{plain, valued}
use Rattle.msc_tree.specs.Trees.{Node, children, line_text}
use Rattle.msc_tree.specs.Trees.Node.{block}

-- What a report tells: the chart and the architecture, how many races there are and how many of them are closest,
-- the picture of the chart, the races that are told one by one, the canonical text, and the version
-- of the program.
pub record Report : Type 0 where
  pub chart : Drawing
  pub queues : Queues
  pub races : ℕ
  pub closest : ℕ
  pub scene : Scene
  pub articles : List Article
  pub text : List ℕ
  pub version : List ℕ

-- such a report
abbrev pub report : Drawing → Queues → ℕ → ℕ → Scene → List Article → List ℕ → List ℕ → Report
report d queues races closest scene articles text version = record {
  chart = d;
  queues = queues;
  races = races;
  closest = closest;
  scene = scene;
  articles = articles;
  text = text;
  version = version;
}

-- a kind of links in words
abbrev pub link_text : LinkKind → List ℕ
link_text Pair = codes "one queue for each sender and receiver"
link_text Mailbox = codes "one queue for each receiver"
link_text Single = codes "one queue for each message"

-- an architecture in words
abbrev pub queues_text : Queues → List ℕ
queues_text queues = link_text (usual_of queues)

-- what is checked
abbrev pub checked_text : Drawing → Queues → List ℕ
checked_text d queues =
    (((codes "Message sequence chart, checked with " ++ queues_text queues) ++ codes " (")
    ++ queues_said d queues) ++ codes ")."

-- what a page is called
abbrev pub title_text : List ℕ → Drawing → Queues → ℕ → ℕ → List ℕ
title_text name d queues races closest =
    (name ++ codes ", ") ++ verdict_text d queues races closest

-- how many races there are, and how many of them are closest
abbrev pub count_text : ℕ → ℕ → List ℕ
count_text races closest =
    cond (nat_eq races 1) (codes "1 race")
    (((decimal races ++ codes " races, ") ++ decimal closest) ++ codes " of them closest")

-- the verdict of a chart that passes
abbrev pub passed_nodes : List Node
passed_nodes =
    sentence (codes "p") Pass (words (codes "Pass") ∷ [])
    ∷ plain (codes "p") (codes "Every run keeps the drawn order of every instance.") ∷ []

-- what a race is
abbrev pub race_text : List ℕ
race_text =
    codes "A race is a pair of events of one instance that comes in the other order than drawn in some run. It is closest where nothing is drawn between the two, and every race spans a closest one."

-- the verdict of a chart with so many races
abbrev pub counted_nodes : ℕ → ℕ → List Node
counted_nodes races closest =
    sentence (codes "p") Verdict (words (count_text races closest) ∷ []) ∷ plain (codes "p") race_text ∷ []

-- the verdict
abbrev pub verdict_nodes : ℕ → ℕ → List Node
verdict_nodes races closest = cond (nat_eq races 0) passed_nodes (counted_nodes races closest)

-- what stands below the picture of a chart with so many races
abbrev pub caption_text : ℕ → List ℕ
caption_text races =
    cond (nat_eq races 0) (codes "The small numbers are those of events.")
    (codes "A capsule with a number marks a closest race, or several, told below by number. The small numbers are those of events.")

-- the picture of the chart
abbrev pub chart_node : Scene → ℕ → Node
chart_node s races = figure_of s (codes "The chart as drawn") (caption_nodes (caption_text races))

-- how many closest races are not told one by one
abbrev pub left_text : ℕ → List ℕ
left_text closest = (codes "And " ++ decimal (closest - 50)) ++ codes " more: "

-- the command that tells them
abbrev pub command_text : Drawing → Queues → List ℕ
command_text d queues =
    (codes "msc check " ++ queue_options d queues) ++ codes " --closest --why FILE"

-- how to have them told
abbrev pub more_node : Drawing → Queues → ℕ → Node
more_node d queues closest =
    sentence (codes "p") Plain (words (left_text closest) ∷ code (command_text d queues) ∷ [])

-- the same, where there are more than 50 closest races
abbrev pub more_nodes : Drawing → Queues → ℕ → List Node
more_nodes d queues closest = cond (nat_lt 50 closest) (more_node d queues closest ∷ []) []

-- these, where there are races
abbrev pub if_any : ℕ → List Node → List Node
if_any races nodes = cond (nat_eq races 0) [] nodes

-- what stands above the articles
abbrev pub races_title : List Node
races_title = plain (codes "h2") (codes "Closest races") ∷ []

-- the articles, and what stands below them
abbrev pub races_nodes : Drawing → Queues → ℕ → ℕ → List Node → List Node
races_nodes d queues races closest articles =
    ((if_any races races_title ++ articles) ++ more_nodes d queues closest)
    ++ if_any races advice_nodes

-- what is shown of a byte of a text: an end of a line is one
abbrev pub text_byte : ℕ → ℕ
text_byte b = cond (nat_eq b 10) 10 (shown_byte b)

-- a text
abbrev pub shown_node : List ℕ → Node
shown_node text = sentence (codes "pre") Scrolled (words (map text_byte text) ∷ [])

-- the version of the program
abbrev pub version_node : List ℕ → Node
version_node version = plain (codes "footer") (codes "msc " ++ version)

-- the canonical text, and the version
abbrev pub end_nodes : List ℕ → List ℕ → List Node
end_nodes text version =
    plain (codes "h2") (codes "The text") ∷ shown_node text ∷ version_node version ∷ []

-- what the page begins with
abbrev pub begin_nodes : List ℕ → Drawing → Queues → List Node
begin_nodes name d queues =
    plain (codes "h1") name ∷ sentence (codes "p") Soft (words (checked_text d queues) ∷ []) ∷ []

-- the picture of the chart under its title
abbrev pub chart_nodes : Scene → ℕ → List Node
chart_nodes s races = plain (codes "h2") (codes "The chart") ∷ chart_node s races ∷ []

-- what the page tells before the races
abbrev pub front_nodes : Scene → Drawing → Queues → ℕ → ℕ → List Node
front_nodes s d queues races closest =
    (begin_nodes s.name d queues ++ verdict_nodes races closest) ++ chart_nodes s races

-- what the page tells
abbrev pub main_nodes : Report → List Node
main_nodes r =
    (front_nodes r.scene r.chart r.queues r.races r.closest
    ++ races_nodes r.chart r.queues r.races r.closest (map (article_node r.scene r.chart r.queues) r.articles))
    ++ end_nodes r.text r.version

-- its body
abbrev pub body_node : Report → Node
body_node r =
    block (codes "body") []
    (children (store_node ∷ block (codes "main") [] (children (main_nodes r)) ∷ []))

-- the page
abbrev pub report_node : Report → Node
report_node r =
    block (codes "html") (valued (codes "lang") (codes "en") ∷ [])
    (children (head_node (title_text r.scene.name r.chart r.queues r.races r.closest) ∷ body_node r ∷ []))

-- its bytes
abbrev pub report_text : Report → List ℕ
report_text r = codes "<!DOCTYPE html>\n" ++ line_text (report_node r)
