-- Marks stand below their spans.
use Rattle.std.proofs.Common.{◌≡◌, ◌≤◌, ℕ, ◌+◌, ◌-◌, List, max, min, take, drop, sym, ap, ◌∙◌, arith}
use Rattle.std.proofs.lemmas.List.{take-append-drop}
use Rattle.std.proofs.lemmas.List.Sums.{sum_by-append, sum_by-take-le}
use Rattle.msc_spoken.specs.Cutting.{columns_of, fitting, width_of}
use Rattle.msc_spoken.specs.Showing.{shown_text}
use Rattle.msc_diagnostic.specs.Lines.{line_bytes, line_starts}
use Rattle.msc_diagnostic.specs.Marks.{placed_mark}
use Rattle.msc_diagnostic.specs.Windows.{inside, low_of, skipped, window_at}
use Rattle.msc_diagnostic.specs.Laws.{MarksStandBelowTheirSpans}

-- a window ends with its line at the latest
high_le_total : (line begin : ℕ) (shown : List ℕ) → (window_at line begin shown).high ≤ columns_of shown
high_le_total line begin shown =
    let n = skipped begin shown in let left = drop n shown in
    let parts : columns_of shown ≡ columns_of (take n shown) + columns_of left = ap columns_of (sym (take-append-drop n shown)) ∙ sum_by-append width_of (take n shown) left in
    let inside_le : columns_of (inside begin shown) ≤ columns_of left = sum_by-take-le width_of left (fitting (100 - (low_of begin shown - begin)) left) in
    omega (arith, parts, inside_le)

-- the columns of a mark in a window
clipped : (dots low high total column columns : ℕ) → low ≤ column → column + max columns 1 ≤ high → high ≤ total → (dots + (min column high - low) + (column - total)) + low ≡ dots + column
clipped dots low high total column columns begins ends within = omega arith

marked' : (low high column columns : ℕ) → low ≤ column → column + max columns 1 ≤ high → max (min (column + max columns 1) high - max column low) 1 ≡ max columns 1
marked' low high column columns begins ends = omega arith

pub spans_lem : MarksStandBelowTheirSpans
unfolding placed_mark
spans_lem ends text mark begin lies =
    let p = placed_mark ends text mark in
    let bytes = line_bytes (line_starts ends text) text p.line in
    let shown = shown_text bytes in
    let window = window_at p.line begin shown in
    let within = high_le_total p.line begin shown in
    let before = columns_of (shown_text (take p.first bytes)) in
    let column : p.column ≡ before = omega (arith, lies.on_line) in
    record {
      before = omega (arith, column, within, lies.begins, lies.ends);
      marked = omega (arith, within, lies.begins, lies.ends);
    }
