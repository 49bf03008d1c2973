-- How the text of a comment reads: `race ok`, a head, a colon and a reason.
use Rattle.std.specs.Prelude.{ℕ, Bool, false, cond, List, Option, None, Some, codes, drop, nat_eq, nat_lt, take}
use Rattle.std.specs.List.{list_any, starts_with}
use Rattle.msc_mermaid.specs.White.{trimmed}
use Rattle.msc_arrow_marks.specs.declared.fault.Slip.TheVariants as slip
use Rattle.msc_arrow_marks.specs.declared.head.MarkHead.{MarkHead}
use Rattle.msc_arrow_marks.specs.declared.reading.MarkText.{MarkText}
use Rattle.msc_arrow_marks.specs.declared.reading.Reading.{Reading}
use Rattle.msc_arrow_marks.specs.declared.reading.Reading.TheVariants.{Other, Faulty, Says}
use Rattle.msc_arrow_marks.specs.Heads.{head_of}
use Rattle.msc_arrow_marks.specs.Parts.{open_length}

abbrev pub is_marked : List ℕ → Bool
is_marked text = starts_with nat_eq text (codes "race ok")

-- what stands before the first colon that is not between quotes, and behind it
abbrev pub head_bytes : List ℕ → List ℕ
head_bytes text = take (open_length 58 false text) text

abbrev pub reason_bytes : List ℕ → List ℕ
reason_bytes text = drop 1 (drop (open_length 58 false text) text)

-- a reason has a byte that is no blank and no control
abbrev pub has_print : List ℕ → Bool
has_print bytes = list_any (λ b. nat_lt 32 b) bytes

-- what a mark says with this head and this reason
abbrev pub said : MarkHead → List ℕ → MarkText
said head reason = record { kinds = head.kinds; others = head.others; reason = trimmed reason }

abbrev pub reading_by : Option MarkHead → List ℕ → Reading
reading_by None reason = Faulty slip.Part
reading_by (Some head) reason = cond (has_print reason) (Says (said head reason)) (Faulty slip.Reason)

-- how the text of a comment reads
unfoldable pub reading_of : List ℕ → Reading
reading_of text = cond (is_marked text) (reading_by (head_of (drop 7 (head_bytes text))) (reason_bytes text)) Other
