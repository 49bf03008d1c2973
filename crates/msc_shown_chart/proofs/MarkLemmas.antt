-- What is shown of marks, mark by mark.
use Rattle.std.proofs.Common.{ℕ, List, [], ◌∷◌, ◌++◌}
use Rattle.msc_mark.specs.declared.mark.Mark.{Mark}
use Rattle.msc_shown_chart.specs.Marks.{AreMarkWords, IsMarkWords, PlainMark}

-- one mark more is shown
pub marks_more : (file text : List ℕ) (ms : List Mark) (ws : List PlainMark) (m : Mark) (w : PlainMark)
    → AreMarkWords file text ms ws → IsMarkWords file text m w → AreMarkWords file text (ms ++ m ∷ []) (ws ++ w ∷ [])
marks_more file text [] [] m w are is = (is, tt)
marks_more file text [] (x ∷ ws) m w are is = absurd are
marks_more file text (k ∷ ms) [] m w are is = absurd are
marks_more file text (k ∷ ms) (x ∷ ws) m w (first, are) is = (first, marks_more file text ms ws m w are is)
