use Rattle.std.proofs.Common.{ℕ, List, ◌++◌, take}
use Rattle.msc_html.specs.Progress.{HasTold}
use Rattle.msc_html.proofs.races.put_races.Given as goal

abbrev pub invariant-loop-race : goal.invariant-loop-race
invariant-loop-race l =
    (base : List ℕ) (before : List (ℕ × ℕ)) → HasTold l.source base l.fn.page.items before l.fn.progress
    → HasTold l.source base l.page.items (before ++ take l.race-index l.races) l.progress
