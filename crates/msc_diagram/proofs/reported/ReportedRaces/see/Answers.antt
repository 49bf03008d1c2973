use Rattle.std.proofs.Common.{◌≡◌, ◌<◌, ℕ, cond, [], ◌∷◌, ◌++◌, length, get_or, take, ap₂, refl, arith}
use Rattle.std.proofs.lemmas.List.Elements.{All-get_or}
use Rattle.msc_diagram.specs.declared.place.EventPlace.{EventPlace}
use Rattle.std.proofs.lemmas.List.{take_more}
use Rattle.msc_diagram.proofs.Fresh.{next_seen}
use Rattle.msc_diagram.proofs.reported.ReportedRaces.see.Goals as goal
use Rattle.msc_diagram.proofs.reported.ReportedRaces.see.Goals.{then-branch+in_ok-push, else-branch}

pub loop-race-preserved : goal.loop-race-preserved
loop-race-preserved c s are =
    let k = c.loop-race.race-index in
    let races = c.args.races.now in
    let old = c.loop-race.list.items in
    let within : k < length races = omega arith in
    let p : ℕ × ℕ = get_or races k (0, 0) in
    let known = All-get_or (λ (r : ℕ × ℕ). (r.0 < length c.args.places.now) × (r.1 < length c.args.places.now)) races k (0, 0) within c.requires in
    let both = c.loop-race.invariant s are in
    let list : c.if-branch.list.items ≡ cond c.in_ok-sees.field-0 (old ++ p ∷ []) old =
    elim c.if-branch.branch [ then-branch+in_ok-push w ↦ rw (w.list-is, w.if-branch.true) w.in_ok-push.ensures.items | else-branch w ↦ rw (w.list-is, w.if-branch.false) refl ] in
    rw (take_more races k (0, 0) within)
    (next_seen s c.args.self.now c.loop-race.self c.sees.new.self (take k races) old c.if-branch.list.items p _ c.in_ok-sees.field-0
    (ap₂ (λ (a b : EventPlace). (a, b)) (are.each p.0 (omega (arith, known.0, are.size))) (are.each p.1 (omega (arith, known.1, are.size)))) both.0 both.1 c.in_ok-sees.ensures.new c.in_ok-sees.ensures.reported list)
