-- What begins a block of Markdown behind the marks before it, and what ends it.
use Rattle.std.specs.Prelude.{ℕ, ◌+◌, ◌-◌, Bool, true, false, cond, not, ◌||◌, ◌&&◌, ◌==◌, nat_eq, nat_le, nat_lt, List, [], length, take, drop, get_or, codes, Option, None, Some}
use Rattle.std.specs.List.{list_any, prefix_len, starts_with}
use Rattle.std.specs.Str.{bytes_eq}
use Rattle.msc_lexer.specs.Bytes.{begins, is_run_byte}
use Rattle.msc_mermaid.specs.Keys.{are_spelled, begin_so}
use Rattle.msc_markdown.specs.declared.closing.Closing.{Closing}
use Rattle.msc_markdown.specs.declared.closing.Closing.TheVariants as closings
use Rattle.msc_markdown.specs.declared.closing.Ends.{Ends}
use Rattle.msc_markdown.specs.declared.markup.Shortcode.{Shortcode}
use Rattle.msc_markdown.specs.declared.markup.Shortcode.TheVariants as shortcodes
use Rattle.msc_markdown.specs.declared.markup.Tag.{Tag}
use Rattle.msc_markdown.specs.declared.markup.Tag.TheVariants as tags
use Rattle.msc_markdown.specs.declared.seeking.Sought.TheVariants as sought
use Rattle.msc_markdown.specs.Blanks.{behind_blanks, is_blank, trimmed}
use Rattle.msc_markdown.specs.Markup.{is_class, is_inside, is_named, class_value, opening, tag_opening}
use Rattle.msc_markdown.specs.Seeking.{before, holds}

-- backquotes, and tildes
abbrev pub is_backquote : ℕ → Bool
is_backquote b = b == 96

abbrev pub is_tilde : ℕ → Bool
is_tilde b = b == 126

abbrev pub backquotes : List ℕ → ℕ
backquotes bytes = prefix_len is_backquote bytes

abbrev pub tildes : List ℕ → ℕ
tildes bytes = prefix_len is_tilde bytes

-- a fence of backquotes: three or more, and no further one on the line
abbrev pub is_backquote_fence : List ℕ → Bool
is_backquote_fence bytes =
    nat_le 3 (backquotes bytes) && not (list_any is_backquote (drop (backquotes bytes) bytes))

-- a directive between lines of three colons
abbrev pub is_directive : List ℕ → Bool
is_directive bytes =
    starts_with nat_eq bytes (codes ":::") && are_spelled (trimmed (drop 3 bytes)) (codes "mermaid")

-- what stands behind the name of a shortcode
abbrev pub behind_name : List ℕ → List ℕ
behind_name bytes = drop 7 (behind_blanks (drop 3 bytes))

-- no slash stands before the end of a shortcode: it is not the whole
abbrev pub is_unclosed : List ℕ → Bool
is_unclosed bytes = cond (length bytes == 0) true (not (get_or bytes (length bytes - 1) 0 == 47))

-- a shortcode with these parameters ends with its mark
abbrev pub has_parameters : List ℕ → Bool
has_parameters bytes = (length bytes == 0 || begins is_blank bytes) && is_unclosed bytes

-- the ends of blocks of a shortcode in so many of the next lines
abbrev pub ends_of : Shortcode → Ends → ℕ
ends_of shortcodes.Angle ends = ends.angle
ends_of shortcodes.Percent ends = ends.percent

-- a shortcode of Hugo that has an end on a next line, or on its own
abbrev pub begins_shortcode_with : Shortcode → Ends → List ℕ → Bool
begins_shortcode_with k ends rest =
    holds (sought.Ending k) rest && has_parameters (take (before (sought.Ending k) rest) rest) && (nat_lt 0 (ends_of k ends) || holds (sought.ShortcodeEnd k) (drop (before (sought.Ending k) rest + 3) rest))

abbrev pub begins_shortcode : Shortcode → Ends → List ℕ → Bool
begins_shortcode k ends bytes =
    starts_with nat_eq bytes (opening k) && is_named (behind_blanks (drop 3 bytes)) && begins_shortcode_with k ends (behind_name bytes)

-- one of these classes is `mermaid`
abbrev pub has_class : Option (List ℕ) → Bool
has_class None = false
has_class (Some value) = is_class value || holds sought.FurtherClass value

-- attributes among which the first `class` has it
abbrev pub are_attributes : List ℕ → Bool
are_attributes bytes =
    begins is_blank bytes && holds sought.Class bytes && has_class (class_value (drop (before sought.Class bytes) bytes))

-- an element whose attributes stand before a `>`
abbrev pub has_attributes : List ℕ → Bool
has_attributes bytes =
    nat_lt (prefix_len is_inside bytes) (length bytes) && are_attributes (take (prefix_len is_inside bytes) bytes)

abbrev pub begins_tag : Tag → List ℕ → Bool
begins_tag t bytes = begin_so bytes (tag_opening t) && has_attributes (drop 4 bytes)

-- what ends the block that begins here, where so many ends of shortcodes follow on next lines
unfoldable pub closing_of : Ends → List ℕ → Option Closing
closing_of ends bytes =
    cond (is_backquote_fence bytes) (Some (closings.Backquotes (backquotes bytes))) (cond (nat_le 3 (tildes bytes)) (Some (closings.Tildes (tildes bytes))) (cond (is_directive bytes) (Some closings.Colons) (cond (begins_tag tags.Pre bytes) (Some (closings.Element tags.Pre)) (cond (begins_tag tags.Div bytes) (Some (closings.Element tags.Div)) (cond (begins_shortcode shortcodes.Angle ends bytes) (Some (closings.Short shortcodes.Angle)) (cond (begins_shortcode shortcodes.Percent ends bytes) (Some (closings.Short shortcodes.Percent)) None))))))

-- the word stands here, and no further byte of a word
abbrev pub is_word : List ℕ → List ℕ → Bool
is_word bytes word = begin_so bytes word && not (begins is_run_byte (drop (length word) bytes))

-- the same in this case
abbrev pub is_exactly : List ℕ → List ℕ → Bool
is_exactly bytes word =
    starts_with nat_eq bytes word && not (begins is_run_byte (drop (length word) bytes))

-- the word of a language of diagrams, as fences have it
abbrev pub is_language : List ℕ → Bool
is_language bytes =
    is_word bytes (codes "mermaid") || is_word bytes (codes "{mermaid") || is_word bytes (codes "{.mermaid") || is_exactly bytes (codes "plantuml") || is_exactly bytes (codes "puml") || is_exactly bytes (codes "mscgen")

-- a block of a diagram
abbrev pub is_marked : Closing → List ℕ → Bool
is_marked (closings.Backquotes n) bytes = is_language (behind_blanks (drop n bytes))
is_marked (closings.Tildes n) bytes = is_language (behind_blanks (drop n bytes))
is_marked c bytes = true

-- a directive of MyST, which may have options
abbrev pub has_options : Closing → List ℕ → Bool
has_options (closings.Backquotes n) bytes = is_word (behind_blanks (drop n bytes)) (codes "{mermaid")
has_options (closings.Tildes n) bytes = is_word (behind_blanks (drop n bytes)) (codes "{mermaid")
has_options c bytes = false

-- what stands on the line behind the beginning of the block, of which it is a part: in HTML and Hugo
abbrev pub text_of : Closing → List ℕ → List ℕ
text_of (closings.Element t) bytes = drop (prefix_len is_inside bytes + 1) bytes
text_of (closings.Short k) bytes =
    drop (before (sought.Ending k) (behind_name bytes) + 3) (behind_name bytes)
text_of c bytes = []

-- this many of these bytes and no others
abbrev pub is_closed_by : (ℕ → Bool) → ℕ → List ℕ → Bool
is_closed_by p n bytes = nat_le n (length bytes) && prefix_len p bytes == length bytes

-- the line, of which this is what stands behind the marks before it, ends the block
abbrev pub is_end : Closing → List ℕ → Bool
is_end (closings.Backquotes n) bytes = is_closed_by is_backquote n (trimmed bytes)
is_end (closings.Tildes n) bytes = is_closed_by is_tilde n (trimmed bytes)
is_end closings.Colons bytes = bytes_eq (trimmed bytes) (codes ":::")
is_end (closings.Element t) bytes = holds (sought.TagEnd t) bytes
is_end (closings.Short k) bytes = holds (sought.ShortcodeEnd k) bytes

-- what of such a line belongs to the block
abbrev pub before_end : Closing → List ℕ → List ℕ
before_end (closings.Element t) bytes = take (before (sought.TagEnd t) bytes) bytes
before_end (closings.Short k) bytes = take (before (sought.ShortcodeEnd k) bytes) bytes
before_end c bytes = cond (is_end c bytes) [] bytes
