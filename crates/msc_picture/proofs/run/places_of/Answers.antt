use Rattle.std.proofs.Common.{◌≡◌, ℕ, ◌+◌, ◌-◌, ◌<◌, length, get_or, set, subst, sym, arith}
use Rattle.std.proofs.lemmas.Grind.{get_or_default_zero}
use Rattle.std.proofs.lemmas.List.Elements.{All-get_or}
use Rattle.msc_picture.proofs.QueuedLemmas.{ArePlaced, placed_none, placed_more, placed_all}
use Rattle.msc_picture.proofs.run.places_of.Goals as goal

pub index_mut-requires : goal.index_mut-requires
index_mut-requires c =
    let run = c.args.run.now in
    let inside : length run - 1 - c.loop-back.back < length run =
    omega (arith, c.loop-back-test.true) in
    let known = All-get_or (λ e. e < c.args.many) run (length run - 1 - c.loop-back.back) 0 inside
    c.requires in
    omega (arith, known, c.loop-back.invariant.long, c.loop-back.places.ok.0)

pub loop-back-init : goal.loop-back-init
loop-back-init c =
    placed_none c.args.run.now _ c.args.many _
    (c.in_ok-places.ensures.items_if_clones_equal (λ y e. e)) (omega arith)

pub loop-back-preserved : goal.loop-back-preserved
loop-back-preserved c =
    let run = c.args.run.now in
    let k = length run - 1 - c.loop-back.back in
    let inside : k < length run = omega (arith, c.loop-back-test.true) in
    let same : length run - (c.loop-back.back + 1) ≡ k = omega arith in
    subst (λ (w : ℕ). ArePlaced run (set c.loop-back.places.items (get_or run k 0) k) c.args.many w)
    (sym same)
    (placed_more run c.loop-back.places.items c.args.many k (get_or run k 0)
    (length run - c.loop-back.back) inside (sym (get_or_default_zero run k (get_or run k 0) inside))
    (All-get_or (λ e. e < c.args.many) run k 0 inside c.requires)
    (omega (arith, c.loop-back-test.true)) c.loop-back.invariant)

pub returns : goal.returns
returns c = let a = c.loop-back-test.false in
    placed_all c.args.run.now c.loop-back.places.items c.args.many
    (length c.args.run.now - c.loop-back.back) (omega (arith, c.loop-back-test.false))
    c.loop-back.invariant
