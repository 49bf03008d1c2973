use Rattle.std.proofs.Common.{rules, tests, arith}
use Rattle.std.proofs.lemmas.Iterator.{YieldsList-from_chars, YieldsList-from_map}
use Rattle.std.proofs.lemmas.Iterator.Consumers.{fits_by_from_yields_list}
use Rattle.std.specs.Str.{chars}
use Rattle.msc_spoken.specs.Cutting.{width_of}
use Rattle.msc_spoken.proofs.CuttingLemmas.{text_columns_le}
use Rattle.msc_spoken.proofs.cutting.columns.Goals as goal

pub sum-requires-clause-fits : goal.sum-requires-clause-fits
sum-requires-clause-fits c =
    let text = c.args.text.now in
    let few = text_columns_le text c.utf8.text in
    fits_by_from_yields_list width_of (chars text) c.map.result _ (YieldsList-from_map _ width_of (YieldsList-from_chars text c.utf8.text cc) c.map.ensures.closure (λ x r q k. search (rules, tests))) (omega (arith, few))
