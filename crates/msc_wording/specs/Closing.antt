-- The closing line of a file, and the help on marks.
use Rattle.std.specs.Prelude.{ℕ, Bool, cond, ◌==◌, List, ◌∷◌, ◌++◌, codes, decimal}
use Rattle.msc_wording.specs.declared.closing.MarkedText.{MarkedText}
use Rattle.msc_wording.specs.declared.closing.MarkedText.TheVariants.{Chart, Diagram}
use Rattle.msc_wording.specs.Numbers.{plural}

-- a text in bold, if there are colours (ECMA-48, Select Graphic Rendition)
unfoldable pub bold : List ℕ → Bool → List ℕ
bold text colours = cond colours (27 ∷ codes "[1m" ++ (text ++ 27 ∷ codes "[0m")) text

-- `VERDICT (queues: QUEUES)`
abbrev pub with_queues : List ℕ → List ℕ → List ℕ
with_queues verdict queues = verdict ++ (codes " (queues: " ++ (queues ++ codes ")"))

-- a text that is refused, and its faults that are not shown
abbrev pub refused_verdict : ℕ → List ℕ
refused_verdict further =
    cond (further == 0) (codes "refused")
    (codes "refused, " ++ (decimal further ++ (codes " more " ++ (plural further (codes "fault") (codes "faults") ++ codes " not shown"))))

-- `FILE: VERDICT`
abbrev pub closing_line : List ℕ → List ℕ → Bool → List ℕ
closing_line file verdict colours = bold (file ++ codes ": ") colours ++ verdict

-- how a race of a text is accepted
abbrev pub accepting_text : MarkedText → List ℕ
accepting_text Chart = codes "the comment 'race ok: REASON' of one of its events"
accepting_text Diagram = codes "the line \"%% race ok: REASON\" above one of its arrows"

-- the help on marks
abbrev pub help_line : MarkedText → Bool → List ℕ
help_line text colours = bold (codes "help") colours ++ (codes ": a race that is meant is accepted by " ++ accepting_text text)
