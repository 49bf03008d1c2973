-- Races are printed with the runs that show them.
use Rattle.std.proofs.Common.{◌≡◌, ℕ, List, [], ◌∷◌, ◌++◌, Some, None, sym, ap, ◌∙◌, append_assoc}
use Rattle.std.proofs.lemmas.List.{append-nil}
use Rattle.msc_chart.specs.Drawings.{Drawing}
use Rattle.msc_report.specs.Verdicts.{race_text, race_place, race_events, run_line}

-- a race without its run, and behind it the line of the run, are the race with its run
pub race_and_run : (d : Drawing) (e f : ℕ) (run : List ℕ) → race_text d e f None ++ run_line (Some run) ≡ race_text d e f (Some run)
race_and_run d e f run =
    append_assoc (race_place d e f) _ (run_line (Some run))
    ∙ ap (λ (t : List ℕ). race_place d e f ++ (58 ∷ 32 ∷ t))
    (append_assoc (race_events d e f) [] (run_line (Some run)))

-- also where the line was made before
pub race_and_line : (d : Drawing) (e f : ℕ) (run line : List ℕ) → line ≡ run_line (Some run)
    → race_text d e f None ++ line ≡ race_text d e f (Some run) ++ []
race_and_line d e f run line same =
    ap (λ (t : List ℕ). race_text d e f None ++ t) same ∙ race_and_run d e f run ∙ sym (append-nil (race_text d e f (Some run)))
