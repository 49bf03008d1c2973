-- The branches of a block, and what people call them.
use Rattle.std.specs.Prelude.{ℕ, ◌-◌, cond, ◌==◌, List, [], ◌++◌, codes, drop, encode_utf8_all, length, unwrap_or}
use Rattle.msc_mermaid.specs.Expectations.{closer_word}
use Rattle.msc_mermaid.specs.declared.row.Kind.{Kind}
use Rattle.msc_mermaid.specs.declared.row.Kind.TheVariants as kinds
use Rattle.msc_mermaid.specs.declared.statement.Placed.{Placed}
use Rattle.msc_mermaid.specs.declared.statement.Statement.{Statement}
use Rattle.msc_mermaid.specs.declared.statement.Statement.TheVariants.{Begins, Closes, Declares, Says}
use Rattle.msc_scenarios.specs.Steps.{joint}
use Rattle.msc_speech.specs.Quoting.{quoted}
use Rattle.msc_spoken.specs.Cutting.{cut_text}
use Rattle.msc_spoken.specs.Speaking.{spoken_text}
use Rattle.msc_shown_diagram.specs.Spans.{bytes_at}

-- the word with which a block begins
abbrev pub kind_word : Kind → List ℕ
kind_word kinds.Alt = codes "alt"
kind_word kinds.Opt = codes "opt"
kind_word kinds.Loop = codes "loop"
kind_word kinds.Break = codes "break"
kind_word kinds.Critical = codes "critical"
kind_word kinds.Par = codes "par"
kind_word kinds.Plain = codes "rect"

-- the word with which a branch begins
abbrev pub branch_word : Statement → List ℕ
branch_word (Begins kind) = kind_word kind
branch_word (Closes closer) = closer_word closer
branch_word (Declares ident shown) = []
branch_word (Says arrow) = []

-- the label of a branch: what follows the word
abbrev pub branch_label : List ℕ → Placed → List ℕ
branch_label text p = drop (length (branch_word p.statement)) (bytes_at text p.whole)

-- a label as people read it
abbrev pub label_text : List ℕ → List ℕ
label_text label = encode_utf8_all (cut_text (spoken_text label))

-- a label between quotes after a blank, if it is not empty
unfoldable pub quoted_part : List ℕ → List ℕ
quoted_part label = cond (length label == 0) [] (codes " " ++ quoted label)

unfoldable pub with_label : List ℕ → List ℕ → List ℕ
with_label word label = word ++ quoted_part label

-- a branch: `WORD "LABEL"`
abbrev pub branch_said : List ℕ → Placed → List ℕ
branch_said text p = with_label (branch_word p.statement) (label_text (branch_label text p))

-- the statement that begins the branch of a block that has this number, or the block
abbrev pub named_branch : Placed → List Placed → ℕ → Placed
named_branch p ps choice = cond (choice == 0) p (unwrap_or (joint 0 (choice - 1) ps) p)
