-- What is told of one closest race.
use Rattle.std.specs.Prelude.{ℕ, cond, List, [], ◌∷◌, ◌++◌, Option, None, Some, codes, nat_lt}
use Rattle.std.specs.Fmt.{decimal}
use Rattle.msc_chart.specs.Drawings.{Drawing}
use Rattle.msc_chart.specs.declared.queue.Queues.{Queues}
use Rattle.msc_links.specs.Said.{queue_options}
use Rattle.msc_picture.specs.declared.scene.Scene.{Scene}
use Rattle.msc_html.specs.declared.article.ShownRace.{ShownRace}
use Rattle.msc_html.specs.declared.part.SentenceStyle.TheVariants.{Plain}
use Rattle.msc_html.specs.Figures.{figure_of}
use Rattle.msc_html.specs.Parts.{code, sentence, words}
use Rattle.msc_html.specs.Telling.{drawn_parts, causes_parts, reason_parts, title_parts}
use Rattle.msc_tree.specs.Shapes.{plain, valued}
use Rattle.msc_tree.specs.Trees.{Attribute, Node, children}
use Rattle.msc_tree.specs.Trees.Node.{block}

-- a race that is told, and the picture of a run that reverses it, where it is drawn
pub record Article : Type 0 where
  pub told : ShownRace
  pub run : Option Scene

-- such an article
abbrev pub article : ShownRace → Option Scene → Article
article told run = record { told = told; run = run }

-- that a run reverses the race
abbrev pub run_text : ShownRace → List ℕ
run_text t = ((codes "A run with event " ++ decimal t.second) ++ codes " before event ") ++ decimal t.first

-- the command that draws the run
abbrev pub reverse_text : Drawing → Queues → ShownRace → List ℕ
reverse_text d queues t =
    ((((codes "msc reverse " ++ queue_options d queues) ++ codes " FILE ") ++ decimal t.first)
    ++ codes " ") ++ decimal t.second

-- how to have the run drawn
abbrev pub run_told : Drawing → Queues → ShownRace → Node
run_told d queues t =
    sentence (codes "p") Plain (words (run_text t ++ codes ": ") ∷ code (reverse_text d queues t) ∷ [])

-- the runs of the first three races are open
abbrev pub open_attributes : ℕ → List Attribute
open_attributes k = cond (nat_lt k 4) (valued (codes "open") [] ∷ []) []

-- the run of this picture
abbrev pub run_drawn : ShownRace → Scene → Node
run_drawn t run =
    block (codes "details") (open_attributes t.number)
    (children (plain (codes "summary") (run_text t) ∷ figure_of run (run_text t) [] ∷ []))

-- the run, which is drawn or not
abbrev pub run_node : Drawing → Queues → ShownRace → Option Scene → Node
run_node d queues t None = run_told d queues t
run_node d queues t (Some run) = run_drawn t run

-- where an article is found
abbrev pub place_text : ℕ → List ℕ
place_text k = codes "race-" ++ decimal k

-- what is told of a race in words, by the picture of the chart
abbrev pub told_nodes : Scene → ShownRace → List Node
told_nodes s t =
    sentence (codes "h3") Plain (title_parts s t.number t.first t.cause)
    ∷ sentence (codes "p") Plain (drawn_parts s t.first t.second)
    ∷ sentence (codes "p") Plain (reason_parts s t.first t.second t.cause)
    ∷ sentence (codes "p") Plain (causes_parts s t.cause) ∷ []

-- the article of a race
abbrev pub article_node : Scene → Drawing → Queues → Article → Node
article_node s d queues a =
    block (codes "article") (valued (codes "id") (place_text a.told.number) ∷ [])
    (children (told_nodes s a.told ++ run_node d queues a.told a.run ∷ []))
