-- The comment after the name of a chart.
use Rattle.std.specs.Prelude.{ℕ, ◌+◌, ◌-◌, Bool, true, false, cond, ◌&&◌, nat_le, List, [], ◌∷◌, length, slice_range, Option, None, Some}
use Rattle.msc_lexer.specs.declared.word.Word.TheVariants as words
use Rattle.msc_lexer.specs.declared.token.Kind.{Kind}
use Rattle.msc_lexer.specs.declared.token.Kind.TheVariants as kinds
use Rattle.msc_lexer.specs.declared.token.Token.{Token}
use Rattle.msc_mark.specs.declared.after_name.ChartComment.{ChartComment}

-- a comment: its place, and its bytes
pub record PlainComment : Type 0 where
  pub at : ℕ
  pub bytes : List ℕ

-- the comment that the code has found
abbrev pub plain_comment : ChartComment → PlainComment
plain_comment c = record { at = c.at; bytes = c.bytes.now }

-- the token is the word `comment`
abbrev pub is_comment_word : Kind → Bool
is_comment_word (kinds.Word words.Comment) = true
is_comment_word kind = false

-- the bytes of a token between its first and its last one
abbrev pub inside : List ℕ → Token → List ℕ
inside text t =
    cond (nat_le (t.start + 1) (t.«end» - 1) && nat_le (t.«end» - 1) (length text))
    (slice_range text (t.start + 1) (t.«end» - 1)) []

-- The tokens of a chart begin with `msc NAME comment TEXT`: the place of this text, and the bytes
-- between its apostrophes, as they stand there.
abbrev pub chart_comment : List ℕ → List Token → Option PlainComment
chart_comment text (msc ∷ name ∷ word ∷ comment ∷ more) =
    cond (is_comment_word word.kind) (Some (record { at = comment.start; bytes = inside text comment })) None
chart_comment text tokens = None
