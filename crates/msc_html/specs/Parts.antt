-- Sentences: words, names and labels as code, and numbers of races.
use Rattle.std.specs.Prelude.{ℕ, List, [], ◌∷◌, codes, map}
use Rattle.std.specs.List.{flat_map}
use Rattle.msc_html.specs.declared.part.SentenceStyle.{SentenceStyle}
use Rattle.msc_html.specs.declared.part.SentenceStyle.TheVariants.{Plain, Soft, Verdict, Pass, Scrolled}
use Rattle.msc_html.specs.declared.part.Part.{Part}
use Rattle.msc_html.specs.declared.part.Tag.{Tag}
use Rattle.msc_html.specs.declared.part.Tag.TheVariants.{Words, Code, Number}
use Rattle.msc_tree.specs.Shapes.{class, valued}
use Rattle.msc_tree.specs.Trees.{Attribute, Node, children, node_text}
use Rattle.msc_tree.specs.Trees.Node.{inline, literal}

-- a part of a sentence
abbrev pub part_of : Tag → List ℕ → Part
part_of tag text = record { tag = tag; text = text }

-- words; a name, a label or an event as code
abbrev pub words : List ℕ → Part
words text = part_of Words text

abbrev pub code : List ℕ → Part
code text = part_of Code text

-- an element that holds a text
abbrev pub held : List ℕ → List ℕ → Node
held name text = inline name [] (children (literal text ∷ []))

-- the node of a text that stands so in a sentence
abbrev pub tagged : Tag → List ℕ → Node
tagged Words text = literal text
tagged Code text = held (codes "code") text
tagged Number text = held (codes "b") text

-- the node of a part
abbrev pub part_node : Part → Node
part_node p = tagged p.tag p.text

-- its bytes
abbrev pub part_text : Part → List ℕ
part_text p = node_text (part_node p)

-- the bytes of parts
abbrev pub parts_text : List Part → List ℕ
parts_text parts = flat_map part_text parts

-- the attributes of a look
abbrev pub style_attributes : SentenceStyle → List Attribute
style_attributes Plain = []
style_attributes Soft = class (codes "soft") ∷ []
style_attributes Verdict = class (codes "verdict") ∷ []
style_attributes Pass = class (codes "verdict pass") ∷ []
style_attributes Scrolled = valued (codes "tabindex") (codes "0") ∷ []

-- a sentence in an element of this name
abbrev pub sentence : List ℕ → SentenceStyle → List Part → Node
sentence name style parts = inline name (style_attributes style) (children (map part_node parts))
