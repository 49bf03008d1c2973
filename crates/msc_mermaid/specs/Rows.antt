-- The table of Mermaid's statements: for each word that one may begin with, what may stand behind it, and
-- what the statement says then.
use Rattle.std.specs.Prelude.{ℕ, Bool, true, false, cond, not, ◌||◌, ◌&&◌, ◌==◌, List, [], ◌∷◌, take, drop, Option, None, Some, is_some}
use Rattle.std.specs.List.{prefix_len}
use Rattle.msc_lexer.specs.Bytes.{begins, is_run_byte}
use Rattle.msc_mermaid.specs.declared.key.Key.{Key}
use Rattle.msc_mermaid.specs.declared.key.Key.TheVariants as keys
use Rattle.msc_mermaid.specs.declared.row.Closer.TheVariants as closers
use Rattle.msc_mermaid.specs.declared.row.Kind.TheVariants as kinds
use Rattle.msc_mermaid.specs.declared.row.Meaning.{Meaning}
use Rattle.msc_mermaid.specs.declared.row.Meaning.TheVariants as says
use Rattle.msc_mermaid.specs.declared.pattern.Pattern.{Pattern}
use Rattle.msc_mermaid.specs.declared.pattern.Pattern.TheVariants as patterns
use Rattle.msc_mermaid.specs.Keys.{key_of, head_of}
use Rattle.msc_mermaid.specs.Patterns.{is_empty, first_fit}
use Rattle.msc_mermaid.specs.White.{behind_white}

-- what may stand behind the word: one of these patterns
abbrev pub patterns_of : Key → List Pattern
patterns_of keys.Create = patterns.Participant ∷ patterns.Actor ∷ []
patterns_of keys.Participant = patterns.Name ∷ []
patterns_of keys.Actor = patterns.Name ∷ []
patterns_of keys.Destroy = patterns.Name ∷ []
patterns_of keys.Activate = patterns.Name ∷ []
patterns_of keys.Deactivate = patterns.Name ∷ []
patterns_of keys.End = patterns.Alone ∷ []
patterns_of keys.Note = patterns.LeftOf ∷ patterns.RightOf ∷ patterns.Over ∷ []
patterns_of keys.Autonumber =
    patterns.Alone ∷ patterns.Off ∷ patterns.Number ∷ patterns.Numbers ∷ []
patterns_of keys.Links = patterns.Text ∷ []
patterns_of keys.Link = patterns.Text ∷ []
patterns_of keys.Properties = patterns.Text ∷ []
patterns_of keys.Details = patterns.Text ∷ []
patterns_of keys.Title = patterns.Text ∷ patterns.ColonText ∷ []
patterns_of keys.Over = []
patterns_of keys.Off = []
patterns_of block = patterns.Anything ∷ []

-- what the statement says then
abbrev pub says_of : Key → Meaning
says_of keys.Create = says.Declaration
says_of keys.Participant = says.Declaration
says_of keys.Actor = says.Declaration
says_of keys.Destroy = says.Destruction
says_of keys.Loop = says.Begin kinds.Loop
says_of keys.Alt = says.Begin kinds.Alt
says_of keys.Opt = says.Begin kinds.Opt
says_of keys.Par = says.Begin kinds.Par
says_of keys.ParOver = says.Begin kinds.Par
says_of keys.Critical = says.Begin kinds.Critical
says_of keys.Break = says.Begin kinds.Break
says_of keys.Rect = says.Begin kinds.Plain
says_of keys.Box = says.Begin kinds.Plain
says_of keys.Else = says.Close closers.Else
says_of keys.And = says.Close closers.And
says_of keys.Option = says.Close closers.Option
says_of keys.End = says.Close closers.End
says_of keys.Note = says.Nothing
says_of keys.Activate = says.Activation
says_of keys.Deactivate = says.Activation
says_of keys.Autonumber = says.Nothing
says_of keys.Links = says.Links
says_of keys.Link = says.Links
says_of keys.Properties = says.Links
says_of keys.Details = says.Links
says_of keys.Title = says.Nothing
says_of keys.Over = says.Refused
says_of keys.Off = says.Refused

-- the word may be a name, too
abbrev pub may_be_name : Key → Bool
may_be_name keys.Title = true
may_be_name k = false

-- what the statement says where none of the patterns stands behind the word
abbrev pub otherwise : Key → Meaning
otherwise k = cond (may_be_name k) says.Arrow says.Refused

-- `-`
abbrev pub is_dash : ℕ → Bool
is_dash b = b == 45

-- `-`, or an arrow behind white space: a reader takes the word in front of it for a name
abbrev pub begins_arrow : List ℕ → Bool
begins_arrow bytes = begins is_dash bytes || is_some (head_of (behind_white bytes))

-- what is said behind a key word, where this stands behind a pattern
abbrev pub said_behind : Key → Option (List ℕ) → List ℕ → Meaning × List ℕ
said_behind k None bytes = (otherwise k, bytes)
said_behind k (Some rest) bytes = (says_of k, rest)

-- what is said behind a key word
abbrev pub said_by_key : Key → List ℕ → Meaning × List ℕ
said_by_key k bytes =
    cond (not (may_be_name k) && begins_arrow bytes) (says.Refused, bytes) (said_behind k (first_fit (patterns_of k) bytes) bytes)

-- what is said behind a word, if it is a key word
abbrev pub said_by : Option Key → List ℕ → Meaning × List ℕ
said_by None bytes = (says.Arrow, bytes)
said_by (Some k) bytes = said_by_key k bytes

-- the word at the front
abbrev pub first_word : List ℕ → List ℕ
first_word bytes = take (prefix_len is_run_byte bytes) bytes

-- what stands behind it
abbrev pub behind_first_word : List ℕ → List ℕ
behind_first_word bytes = drop (prefix_len is_run_byte bytes) bytes

-- what a statement says by its first word, with what stands behind the pattern
unfoldable pub meaning_of : List ℕ → Meaning × List ℕ
meaning_of bytes =
    cond (is_empty bytes) (says.Nothing, bytes) (said_by (key_of (first_word bytes)) (behind_first_word bytes))
