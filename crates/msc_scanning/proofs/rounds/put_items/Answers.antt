use Rattle.std.proofs.Common.{◌≡◌, ◌==◌, [], ◌∷◌, List, arith, drop, length, refl, subst, sym, take, true}
use Rattle.std.proofs.lemmas.Bool.{eqb-true}
use Rattle.std.proofs.lemmas.List.{take-append-drop}
use Rattle.msc_scanning.proofs.Folding.{all_done, some_more, SoFar}
use Rattle.msc_scanning.specs.Files.{PutsItem}
use Rattle.msc_scanning.specs.Progress.{none}
use Rattle.msc_scanning.specs.declared.files.Item.{Item}
use Rattle.msc_scanning.proofs.rounds.put_items.Goals as goal

empty : (xs : List Item) → (length xs == 0) ≡ true → xs ≡ []
empty [] is = refl
empty (x ∷ xs) is = absurd (let none = eqb-true _ _ is in omega (arith, none))

pub loop-rest-preserved : goal.loop-rest-preserved
loop-rest-preserved g c =
    let l = c.loop-rest in let y = rw c.first_items-round.ensures at c.in_ok-progress.ensures in let contents = g.O.Write.contents in
    let step = PutsItem c.args.plan c.args.input in let all = c.args.items.now in let rest = l.rest.now in let size = c.saturating_mul-size.result in
    rw c.items_behind-rest.ensures (some_more contents step all (drop size rest) none l.progress c.args.output.now l.output (take size rest) c.in_ok-progress.progress y.0 c.put_round.new.output
    (subst (λ (left : List Item). SoFar contents step all left none l.progress c.args.output.now l.output) (sym (take-append-drop size rest)) l.invariant)
    y.1 y.2)

pub returns : goal.returns
returns g c =
    let l = c.loop-rest in let contents = g.O.Write.contents in let step = PutsItem c.args.plan c.args.input in let all = c.args.items.now in
    all_done contents step all none l.progress c.args.output.now l.output
    (subst (λ (left : List Item). SoFar contents step all left none l.progress c.args.output.now l.output) (empty l.rest.now (sym c.loop-rest-test.ensures)) l.invariant)
