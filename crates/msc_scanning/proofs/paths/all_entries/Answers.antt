use Rattle.std.proofs.Common.{◌+◌, List, ℕ, drop, subst}
use Rattle.msc_scan.specs.Walks.{names_of}
use Rattle.msc_scanning.specs.Words.{words_in}
use Rattle.msc_scanning.proofs.Scanned.{all_paths, no_words, one_path, words_at, FoundSoFar}
use Rattle.msc_scanning.proofs.paths.all_entries.Goals as goal

pub loop-path-preserved : goal.loop-path-preserved
loop-path-preserved g c =
    let l = c.loop-path in let skips = names_of c.args.args.skips.now in let words = c.args.args.paths.now in let paths = words_in words in
    rw c.in_ok-push.ensures.items
    (one_path skips paths _ (words_in (drop (l.path-index + 1) words)) l.all.items c.in_ok-entries_at.field-0
    (subst (λ (left : List (List ℕ)). FoundSoFar skips paths left l.all.items) (words_at words l.path-index _ c.loop-path-test.true) l.invariant)
    c.in_ok-entries_at.ensures)

pub returns : goal.returns
returns g c =
    let l = c.loop-path in let skips = names_of c.args.args.skips.now in let words = c.args.args.paths.now in let paths = words_in words in
    all_paths skips paths l.all.items
    (subst (λ (left : List (List ℕ)). FoundSoFar skips paths left l.all.items) (no_words words l.path-index c.loop-path-test.false) l.invariant)
