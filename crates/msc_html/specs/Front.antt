-- What stands on a report's page whatever its chart is.
use Rattle.std.specs.Prelude.{ℕ, List, [], ◌∷◌, ◌++◌, codes}
use Rattle.msc_html.specs.declared.part.SentenceStyle.TheVariants.{Plain}
use Rattle.msc_html.specs.Parts.{code, sentence, words}
use Rattle.msc_svg.specs.Svg.{tip}
use Rattle.msc_tree.specs.Shapes.{class, plain, valued}
use Rattle.msc_tree.specs.Trees.{Attribute, Node, children}
use Rattle.msc_tree.specs.Trees.Node.{block, inline}
use Rattle.msc_tree.specs.Trees.Nodes.{no_nodes}

-- how a report looks
abbrev pub sheet : List ℕ
sheet =
    codes ":root{--ink:#111;--soft:#444;--faint:#555;--paper:#fff;--race:#b80f2a;--count:#fff;"
    ++ codes "--page:#f5f5f2;--edge:#999;--pass:#17652f}"
    ++ codes "body{margin:0;background:var(--page);color:var(--ink);font:16px/1.5 system-ui,"
    ++ codes "sans-serif;overflow-wrap:anywhere}"
    ++ codes "main{max-width:62rem;margin:0 auto;padding:1rem}h1{margin:1rem 0 0;font-size:1.8rem}"
    ++ codes "h2{margin:2.5rem 0 .5rem;font-size:1.3rem}h3{margin:0;font-size:1.05rem}"
    ++ codes "p,li{max-width:44rem}.soft,figcaption,footer{color:var(--soft)}"
    ++ codes ".verdict{font-size:1.2rem;font-weight:bold;color:var(--race)}"
    ++ codes ".pass{color:var(--pass)}article{margin:1rem 0;padding:1rem;background:var(--paper);"
    ++ codes "border:1px solid var(--edge);border-left:5px solid var(--race);border-radius:4px}"
    ++ codes "b{padding:0 .5em;border-radius:1em;background:var(--race);color:var(--count)}"
    ++ codes "code,pre{font:.9em ui-monospace,Menlo,Consolas,DejaVu Sans Mono,monospace}"
    ++ codes "pre,figure{margin:.5rem 0;padding:.5rem;background:var(--paper);border:1px solid "
    ++ codes "var(--edge);border-radius:4px;overflow-x:auto}"
    ++ codes "article figure{border:0;padding:0}svg{display:block;margin:auto}"
    ++ codes ".store{position:absolute}summary{cursor:pointer}footer{margin:2rem 0}"
    ++ codes "text{font:12px ui-monospace,Menlo,Consolas,DejaVu Sans Mono,monospace;"
    ++ codes "text-anchor:middle;fill:var(--ink)}"
    ++ codes ".right{text-anchor:start}.left{text-anchor:end}.name{font-weight:bold}"
    ++ codes ".kind{fill:var(--soft)}.number{font-size:10px;fill:var(--faint)}"
    ++ codes ".badge{font-size:10px;font-weight:bold;fill:var(--count)}.plate{fill:var(--paper);"
    ++ codes "fill-opacity:.8}"
    ++ codes ".head,.action{fill:var(--paper);stroke:var(--ink)}.axis,.tick,.open{fill:none;"
    ++ codes "stroke:var(--ink)}"
    ++ codes ".open{stroke-dasharray:6 4}.card,.head,.action,.axis,.tick,.open{"
    ++ codes "shape-rendering:crispEdges}"
    ++ codes ".foot,.tip{fill:var(--ink)}.arrow{fill:none;stroke:var(--ink);stroke-width:1.5;"
    ++ codes "marker-end:url(#tip)}"
    ++ codes ".race{fill:var(--race);fill-opacity:.14;stroke:var(--race);stroke-width:1.5}"
    ++ codes ".end,.count{fill:var(--race)}.hit{stroke:var(--race);stroke-width:2}"
    ++ codes "@media screen and (prefers-color-scheme:dark){:root{--ink:#eee;--soft:#bbb;"
    ++ codes "--faint:#aaa;--paper:#1b1c1f;--race:#ff6f80;--count:#111;--page:#111214;--edge:#666;"
    ++ codes "--pass:#7fd197}"
    ++ codes "}@media print{body{background:#fff}main{max-width:none;padding:0}"
    ++ codes "article{break-inside:avoid}h2,summary{break-after:avoid}svg{max-width:100%;"
    ++ codes "height:auto}"
    ++ codes "details::details-content{content-visibility:visible}}"

-- what a reader is told of a page
abbrev pub meta : List Attribute → Node
meta attributes = inline (codes "meta") attributes no_nodes

-- the same under a name
abbrev pub named_meta : List ℕ → List ℕ → Node
named_meta name content = meta (valued (codes "name") name ∷ valued (codes "content") content ∷ [])

-- the head of a page with this title and this style sheet
abbrev pub head_with : List ℕ → List ℕ → Node
head_with sheet title =
    block (codes "head") [] (children (meta (valued (codes "charset") (codes "utf-8") ∷ [])
    ∷ named_meta (codes "viewport") (codes "width=device-width,initial-scale=1")
    ∷ named_meta (codes "color-scheme") (codes "light dark")
    ∷ plain (codes "title") title ∷ plain (codes "style") sheet ∷ []))

-- the head of a page with this title
abbrev pub head_node : List ℕ → Node
head_node title = head_with sheet title

-- what a page for several scenarios adds to the style sheet: its pictures are as wide as the window
abbrev pub wide_sheet : List ℕ
wide_sheet = sheet ++ codes "main{max-width:none}article{max-width:62rem}"

-- the head of an arrow, where nothing of it is seen
abbrev pub store_node : Node
store_node =
    block (codes "svg") (class (codes "store") ∷ valued (codes "width") (codes "0")
    ∷ valued (codes "height") (codes "0") ∷ valued (codes "aria-hidden") (codes "true") ∷ [])
    (children (tip ∷ []))

-- what to do about a race
abbrev pub advice_nodes : List Node
advice_nodes =
    plain (codes "h2") (codes "What to do about a race")
    ∷ block (codes "ul") [] (children
    (plain (codes "li") (codes "Bring the missing order about, for instance by an acknowledgement that its sender waits for.")
    ∷ sentence (codes "li") Plain
    (words (codes "Or mean both orders: draw the two events in one coregion (") ∷ code (codes "concurrent")
    ∷ words (codes "), and program the instance for both.") ∷ [])
    ∷ plain (codes "li") (codes "Or let the instance leave a message in its queue until it is ready for it. That is another program than the one drawn, and nothing is said of it here.")
    ∷ [])) ∷ []

-- what to do about a race of a diagram
abbrev pub diagram_advice : List Node
diagram_advice =
    plain (codes "h2") (codes "What to do about a race")
    ∷ block (codes "ul") [] (children
    (plain (codes "li") (codes "Bring the missing order about, for instance by an answer that the sender waits for.")
    ∷ sentence (codes "li") Plain
    (words (codes "Or mean both orders: draw the two arrows as branches of a ") ∷ code (codes "par")
    ∷ words (codes " block, and program the participant for both.") ∷ [])
    ∷ sentence (codes "li") Plain
    (words (codes "Or accept the race: the line ") ∷ code (codes "%% race ok: REASON")
    ∷ words (codes " above one of its arrows does so for ") ∷ code (codes "msc check --accept")
    ∷ words (codes ".") ∷ [])
    ∷ sentence (codes "li") Plain
    (words (codes "Or let the participant leave a message in its queue until it is ready for it. That is another program than the one drawn; ")
    ∷ code (codes "msc ready") ∷ words (codes " says whether it can block.") ∷ [])
    ∷ [])) ∷ []
