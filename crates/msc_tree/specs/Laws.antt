-- Laws of trees: what is read of their bytes, and how blocks nest.
use Rattle.std.specs.Prelude.{◌≡◌, ◌≢◌, ℕ, zero, suc, Bool, ◌||◌, cond, List, [], ◌∷◌, ◌++◌, codes, length, nat_eq, take, IsTrue}
use Rattle.std.specs.List.{AllByRecursion}
use Rattle.std.specs.Str.{bytes_eq}
use Rattle.msc_tree.specs.Trees.{Attribute, Node, children, closed, escaped, line_text, lines_text, node_text, opened}
use Rattle.msc_tree.specs.Trees.Node.{block}

-- a list begins with a name
abbrev pub begins_with : List ℕ → List ℕ → Bool
begins_with name bytes = bytes_eq (take (length name) bytes) name

-- which byte an escape stands for that has these bytes behind its ampersand, and how many of them are
-- its own
abbrev pub escape_of : List ℕ → ℕ × ℕ
escape_of bytes =
    cond (begins_with (codes "amp;") bytes) (38, 4) (cond (begins_with (codes "lt;") bytes) (60, 3)
    (cond (begins_with (codes "gt;") bytes) (62, 3)
    (cond (begins_with (codes "quot;") bytes) (34, 5) (38, 0))))

-- what a reader makes of bytes of which the first, so many, belong to an escape that it has read
abbrev pub unescaped_after : ℕ → List ℕ → List ℕ
unescaped_after left [] = []
unescaped_after zero (b ∷ bytes) =
    cond (nat_eq b 38) ((escape_of bytes).0 ∷ unescaped_after (escape_of bytes).1 bytes)
    (b ∷ unescaped_after 0 bytes)
unescaped_after (suc left) (b ∷ bytes) = unescaped_after left bytes

-- what a reader makes of bytes
abbrev pub unescaped : List ℕ → List ℕ
unescaped bytes = unescaped_after 0 bytes

-- what stands for a text is read as that text
abbrev pub EscapesReadBack : Type 0
EscapesReadBack = (text : List ℕ) → unescaped (escaped text) ≡ text

-- no sign of a tag and no quotation mark
abbrev pub IsNoMarkup : ℕ → Type 0
IsNoMarkup b = (b ≢ 60) × (b ≢ 62) × (b ≢ 34)

-- what stands for a text has none of these
abbrev pub EscapesHaveNoMarkup : Type 0
EscapesHaveNoMarkup = (text : List ℕ) → AllByRecursion IsNoMarkup (escaped text)

-- some escape goes on so behind its ampersand
abbrev pub is_named : List ℕ → Bool
is_named bytes =
    (begins_with (codes "amp;") bytes || begins_with (codes "lt;") bytes)
    || (begins_with (codes "gt;") bytes || begins_with (codes "quot;") bytes)

-- each ampersand begins an escape
abbrev pub AreNamed : List ℕ → Type 0
AreNamed [] = Unit {0}
AreNamed (b ∷ bytes) = (b ≡ 38 → IsTrue (is_named bytes)) × AreNamed bytes

-- so it is in what stands for a text
abbrev pub EachAmpersandIsAnEscape : Type 0
EachAmpersandIsAnEscape = (text : List ℕ) → AreNamed (escaped text)

-- a block has a line for each child, between its beginning and its end
abbrev pub BlocksHaveALineForEachChild : Type 0
BlocksHaveALineForEachChild =
    (name : List ℕ) (attributes : List Attribute) (child : Node) (others : List Node)
    → node_text (block name attributes (children (child ∷ others)))
    ≡ ((opened name attributes ++ codes ">\n") ++ lines_text (child ∷ others)) ++ closed name

-- the line of a block whose children come in two parts
abbrev pub BlocksComeInTwoParts : Type 0
BlocksComeInTwoParts =
    (name : List ℕ) (attributes : List Attribute) (child : Node) (front back : List Node)
    → (((opened name attributes ++ codes ">\n") ++ lines_text (child ∷ front)) ++ lines_text back)
    ++ (closed name ++ codes "\n")
    ≡ line_text (block name attributes (children (child ∷ (front ++ back))))
