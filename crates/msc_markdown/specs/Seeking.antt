-- The first place of a line at which something stands.
use Rattle.std.specs.Prelude.{ℕ, ◌+◌, Bool, cond, nat_eq, nat_lt, List, [], ◌∷◌, length, codes, is_some}
use Rattle.std.specs.List.{starts_with}
use Rattle.msc_mermaid.specs.Keys.{begin_so}
use Rattle.msc_markdown.specs.declared.seeking.Sought.{Sought}
use Rattle.msc_markdown.specs.declared.seeking.Sought.TheVariants as sought
use Rattle.msc_markdown.specs.Markup.{class_value, ending, ends_shortcode, is_further_class, tag_ending}

-- what is sought stands here
abbrev pub is_here : Sought → List ℕ → Bool
is_here (sought.Ending k) bytes = starts_with nat_eq bytes (ending k)
is_here (sought.ShortcodeEnd k) bytes = ends_shortcode k bytes
is_here (sought.TagEnd t) bytes = begin_so bytes (tag_ending t)
is_here sought.Class bytes = is_some (class_value bytes)
is_here sought.FurtherClass bytes = is_further_class bytes
is_here sought.Diagram bytes = starts_with nat_eq bytes (codes "sequenceDiagram")

-- how many bytes stand before the first place at which it stands, and else all of them
unfoldable pub before : Sought → List ℕ → ℕ
before s [] = 0
before s (b ∷ bs) = cond (is_here s (b ∷ bs)) 0 (1 + before s bs)

-- this stands in the bytes
abbrev pub holds : Sought → List ℕ → Bool
holds s bytes = nat_lt (before s bytes) (length bytes)
