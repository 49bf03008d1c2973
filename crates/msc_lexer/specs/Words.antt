-- The reserved words of the profile of MSC/PR (ITU-T Z.120), and how they are spelled.
use Rattle.std.specs.Prelude.{ℕ, Bool, List, [], ◌∷◌, Option, map, find, codes}
use Rattle.std.specs.Char.{to_ascii_lowercase}
use Rattle.std.specs.Str.{bytes_eq}
use Rattle.msc_lexer.specs.declared.word.Word.{Word}
use Rattle.msc_lexer.specs.declared.word.Word.TheVariants.{Msc, EndMsc, Inst, Instance, EndInstance, Input, From, Output, To, Concurrent, EndConcurrent, Comment, Env, Action, Condition, Set, Reset, Timeout, Create, Stop}

-- a word in small letters
abbrev pub spelling : Word → List ℕ
spelling Msc = codes "msc"
spelling EndMsc = codes "endmsc"
spelling Inst = codes "inst"
spelling Instance = codes "instance"
spelling EndInstance = codes "endinstance"
spelling Input = codes "in"
spelling From = codes "from"
spelling Output = codes "out"
spelling To = codes "to"
spelling Concurrent = codes "concurrent"
spelling EndConcurrent = codes "endconcurrent"
spelling Comment = codes "comment"
spelling Env = codes "env"
spelling Action = codes "action"
spelling Condition = codes "condition"
spelling Set = codes "set"
spelling Reset = codes "reset"
spelling Timeout = codes "timeout"
spelling Create = codes "create"
spelling Stop = codes "stop"

-- each reserved word once
abbrev pub all_words : List Word
all_words =
    Msc ∷ EndMsc ∷ Inst ∷ Instance ∷ EndInstance ∷ Input ∷ From ∷ Output ∷ To ∷ Concurrent ∷ EndConcurrent ∷ Comment ∷ Env ∷ Action ∷ Condition ∷ Set ∷ Reset ∷ Timeout ∷ Create ∷ Stop ∷ []

-- the bytes are the word, where capital and small letters count as the same
abbrev pub is_spelled : List ℕ → Word → Bool
is_spelled bytes w = bytes_eq (map to_ascii_lowercase bytes) (spelling w)

-- the reserved word that the bytes are
unfoldable pub word_of : List ℕ → Option Word
word_of bytes = find (is_spelled bytes) all_words
