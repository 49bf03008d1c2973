use Rattle.std.proofs.Common.{◌<◌, ◌++◌, List, None, length, ap, ◌∙◌, arith}
use Rattle.std.proofs.lemmas.List.{get_or_default}
use Rattle.msc_picture.specs.declared.scene.Band.{Band}
use Rattle.msc_picture.proofs.ExtentLemmas.{band_same}
use Rattle.msc_picture.proofs.Ranges.{flat_next}
use Rattle.msc_picture.specs.Rows.{band_at}
use Rattle.msc_picture.proofs.band.bands_of.Goals as goal

pub loop-e-preserved : goal.loop-e-preserved
loop-e-preserved c =
    let events = c.args.chart.now.events in
    let rows = c.args.rows.now in
    let e = c.loop-e.e in
    let reaches = c.in_ok-reaches.reaches.items in
    let ensures = c.in_ok-reaches.ensures in
    let known : e < length events = omega (arith, c.loop-e-test.true, c.loop-e.auto.e-end, c.events-e-end.ensures.number) in
    let inside : e < length reaches = omega (arith, known, ensures.long) in
    flat_next (band_at events rows) e _ _ c.loop-e.invariant
    (c.in_ok-put_band.ensures ∙ ap (λ (l : List Band). c.loop-e.bands.items ++ l)
    (band_same events rows e c.index-reach.result.now (λ begins.
    c.index-reach.ensures ∙ get_or_default reaches e c.index-reach.result.now None inside
    ∙ ensures.each e known begins)))
