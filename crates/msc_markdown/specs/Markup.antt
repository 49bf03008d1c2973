-- Blocks in HTML and in shortcodes of Hugo.
use Rattle.std.specs.Prelude.{ℕ, Bool, cond, not, ◌||◌, ◌&&◌, ◌==◌, nat_eq, nat_lt, List, [], length, take, drop, codes, Option, None, Some, is_some}
use Rattle.std.specs.List.{prefix_len, starts_with}
use Rattle.msc_lexer.specs.Bytes.{begins}
use Rattle.msc_mermaid.specs.Keys.{begin_so}
use Rattle.msc_markdown.specs.declared.markup.Shortcode.{Shortcode}
use Rattle.msc_markdown.specs.declared.markup.Shortcode.TheVariants as shortcodes
use Rattle.msc_markdown.specs.declared.markup.Tag.{Tag}
use Rattle.msc_markdown.specs.declared.markup.Tag.TheVariants as tags
use Rattle.msc_markdown.specs.Blanks.{behind_blanks, is_blank}

-- what a shortcode begins with
abbrev pub opening : Shortcode → List ℕ
opening shortcodes.Angle = codes "{{<"
opening shortcodes.Percent = codes "{{%"

-- what it ends with
abbrev pub ending : Shortcode → List ℕ
ending shortcodes.Angle = codes ">}}"
ending shortcodes.Percent = codes "%}}"

-- its name
abbrev pub is_named : List ℕ → Bool
is_named bytes = starts_with nat_eq bytes (codes "mermaid")

-- the end of the block of a shortcode: `{{< /mermaid >}}`, from the name on
abbrev pub ends_name : Shortcode → List ℕ → Bool
ends_name k bytes = is_named bytes && starts_with nat_eq (behind_blanks (drop 7 bytes)) (ending k)

-- the same from the slash on
abbrev pub ends_slash : Shortcode → List ℕ → Bool
ends_slash k bytes =
    starts_with nat_eq bytes (codes "/") && ends_name k (behind_blanks (drop 1 bytes))

-- the same from its beginning on
abbrev pub ends_shortcode : Shortcode → List ℕ → Bool
ends_shortcode k bytes =
    starts_with nat_eq bytes (opening k) && ends_slash k (behind_blanks (drop 3 bytes))

-- what an element begins with
abbrev pub tag_opening : Tag → List ℕ
tag_opening tags.Pre = codes "<pre"
tag_opening tags.Div = codes "<div"

-- what it ends with
abbrev pub tag_ending : Tag → List ℕ
tag_ending tags.Pre = codes "</pre>"
tag_ending tags.Div = codes "</div>"

-- no `>`
abbrev pub is_inside : ℕ → Bool
is_inside b = not (b == 62)

-- the byte is not this one
abbrev pub is_not : ℕ → ℕ → Bool
is_not mark b = not (b == mark)

-- the value of an attribute up to this mark
abbrev pub value_up_to : ℕ → List ℕ → Option (List ℕ)
value_up_to mark bytes =
    cond (nat_lt (prefix_len (is_not mark) bytes) (length bytes)) (Some (take (prefix_len (is_not mark) bytes) bytes)) None

-- a byte of a value without quotation marks
abbrev pub is_plain : ℕ → Bool
is_plain b = not (is_blank b || b == 34 || b == 39)

-- a value without quotation marks
abbrev pub plain_value : List ℕ → Option (List ℕ)
plain_value bytes =
    cond (nat_lt 0 (prefix_len is_plain bytes)) (Some (take (prefix_len is_plain bytes) bytes)) None

-- the value that stands here
abbrev pub value_of : List ℕ → Option (List ℕ)
value_of bytes =
    cond (starts_with nat_eq bytes (codes "\"")) (value_up_to 34 (drop 1 bytes)) (cond (starts_with nat_eq bytes (codes "'")) (value_up_to 39 (drop 1 bytes)) (plain_value bytes))

-- `=` and a value stand here
abbrev pub given_value : List ℕ → Option (List ℕ)
given_value bytes =
    cond (starts_with nat_eq bytes (codes "=")) (value_of (behind_blanks (drop 1 bytes))) None

-- the value of an attribute `class` that stands here, behind a blank
abbrev pub class_value : List ℕ → Option (List ℕ)
class_value bytes =
    cond (begins is_blank bytes && begin_so (drop 1 bytes) (codes "class")) (given_value (behind_blanks (drop 6 bytes))) None

-- the class `mermaid` stands here
abbrev pub is_class : List ℕ → Bool
is_class bytes =
    begin_so bytes (codes "mermaid") && (nat_lt 7 (length bytes) && begins is_blank (drop 7 bytes) || length bytes == 7)

-- it stands here behind a blank
abbrev pub is_further_class : List ℕ → Bool
is_further_class bytes = begins is_blank bytes && is_class (drop 1 bytes)
