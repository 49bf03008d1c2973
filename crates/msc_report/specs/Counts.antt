-- The one line that tells how many races or sticks a chart has. This project's own format.
use Rattle.std.specs.Prelude.{ℕ, cond, List, ◌++◌, Option, None, Some, codes, map, nat_eq}
use Rattle.std.specs.Fmt.{decimal}
use Rattle.msc_judge.specs.declared.renderer.Heading.{Heading}
use Rattle.msc_place.specs.Texts.{shown_byte}
use Rattle.msc_report.specs.Texts.{text_line}

-- how many of them are closest, where that was asked for
abbrev pub closest_number : Option ℕ → ℕ
closest_number None = 0
closest_number (Some count) = count

-- the line of a file by its name: whether its chart has no races, or how many, and how many of those that count
-- are closest
abbrev pub tally_line : List ℕ → Heading → List ℕ
tally_line file h = cond (nat_eq h.races 0)
    (codes "pass " ++ text_line (map shown_byte file))
    (codes "races " ++ (decimal h.races ++ (codes " closest " ++ (decimal (closest_number h.closest) ++ (codes " " ++ text_line (map shown_byte file))))))

-- the same of sticks: whether there is none, or how many, and how many of them are first
abbrev pub ready_tally_line : List ℕ → ℕ → ℕ → List ℕ
ready_tally_line file sticks first = cond (nat_eq sticks 0)
    (codes "finishes " ++ text_line (map shown_byte file))
    (codes "sticks " ++ (decimal sticks ++ (codes " first " ++ (decimal first ++ (codes " " ++ text_line (map shown_byte file))))))
