-- The words of a mark: what stands between blanks, up to the first colon.
use Rattle.std.specs.Prelude.{ℕ, ◌+◌, Bool, ◌||◌, not, ◌==◌, nat_eq, cond, List, [], take, drop, codes}
use Rattle.std.specs.List.{prefix_len, slice_split}
use Rattle.std.specs.Str.{bytes_eq}
use Rattle.msc_lexer.specs.Bytes.{is_run_byte}
use Rattle.msc_chart.specs.declared.queue.LinkKind.TheVariants.{Pair, Mailbox, Single}
use Rattle.msc_chart.specs.Architectures.{link_word}
use Rattle.msc_mark.specs.declared.word.Closing.{Closing}
use Rattle.msc_mark.specs.declared.word.Closing.TheVariants.{Bare, Comma, Semicolon, Other}

-- a blank
abbrev pub is_blank : ℕ → Bool
is_blank b = b == 32

-- no colon
abbrev pub is_head_byte : ℕ → Bool
is_head_byte b = not (b == 58)

-- what stands before the first colon, or all
abbrev pub head_of : List ℕ → List ℕ
head_of bytes = take (prefix_len is_head_byte bytes) bytes

-- what stands behind it, or nothing
abbrev pub behind_colon : List ℕ → List ℕ
behind_colon bytes = drop (prefix_len is_head_byte bytes + 1) bytes

-- the words of a comment, up to its first colon: one blank stands between two of them
unfoldable pub words_of : List ℕ → List (List ℕ)
words_of bytes = slice_split is_blank (head_of bytes)

-- the letters, digits and underscores that a word begins with
abbrev pub name_of : List ℕ → List ℕ
name_of word = take (prefix_len is_run_byte word) word

-- what is told by what stands behind these
abbrev pub closing_by : List ℕ → Closing
closing_by rest =
    cond (bytes_eq rest []) Bare (cond (bytes_eq rest (codes ",")) Comma (cond (bytes_eq rest (codes ";")) Semicolon Other))

-- what a word has behind them: nothing, a comma, a semicolon or something else; there is one at least
abbrev pub closing_of : List ℕ → Closing
closing_of word =
    cond (nat_eq (prefix_len is_run_byte word) 0) Other (closing_by (drop (prefix_len is_run_byte word) word))

-- the word for an architecture
abbrev pub is_architecture : List ℕ → Bool
is_architecture name =
    (bytes_eq name (link_word Pair) || bytes_eq name (link_word Mailbox)) || bytes_eq name (link_word Single)
