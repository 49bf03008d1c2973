use Rattle.std.proofs.Common.{fold, ap, ◌∙◌}
use Rattle.msc_picture.specs.declared.scene.Band.{Band}
use Rattle.msc_picture.specs.Signs.{instances_at, with_sign}
use Rattle.msc_picture.specs.Texts.{in_band}
use Rattle.msc_picture.proofs.SignLemmas.{same_put}
use Rattle.msc_picture.proofs.text.put_bands.Goals as goal

pub returns : goal.returns
returns c = λ bands many are known.
    let line = c.args.line.now.items in
    let r = c.args.r in
    c.put_signs.ensures ∙ ap (fold (with_sign c.args.c.now 58) line) c.at.ensures
    ∙ same_put c.args.c.now 58 (in_band r) (λ (band : Band). band.instance) line
    (instances_at c.args.bands.now.instances.items r) bands (λ i. are r i known)
