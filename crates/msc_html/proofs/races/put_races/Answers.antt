use Rattle.std.proofs.Common.{◌≡◌, ◌<◌, ◌+◌, ◌++◌, [], ◌∷◌, ℕ, List, length, take, get_or, arith, sym, ap, subst, ◌∙◌, append-nil, append_assoc}
use Rattle.std.proofs.lemmas.List.{take_more}
use Rattle.msc_html.specs.Progress.{HasTold}
use Rattle.msc_html.proofs.races.put_races.Goals as goal

pub loop-race-init : goal.loop-race-init
loop-race-init c = λ base before h.
    subst (λ (l : List (ℕ × ℕ)). HasTold c.args.source.now base c.args.page.now.items l c.args.progress.now)
    (sym (append-nil before)) h

pub loop-race-preserved : goal.loop-race-preserved
loop-race-preserved c = λ base before h.
    let races = c.args.races.now in
    let k = c.loop-race.race-index in
    let below : k < length races = omega arith in
    let so_far = take k races in
    let race = get_or races k (0, 0) in
    let next = c.in_ok-put_race.ensures base (before ++ so_far) (c.loop-race.invariant base before h) in
    let list : (before ++ so_far) ++ race ∷ [] ≡ before ++ take (k + 1) races =
    append_assoc before so_far (race ∷ [])
    ∙ ap (λ (l : List (ℕ × ℕ)). before ++ l) (sym (take_more races k (0, 0) below)) in
    subst (λ (l : List (ℕ × ℕ)). HasTold c.args.source.now base c.put_race.new.page.items l c.put_race.new.progress)
    list next
