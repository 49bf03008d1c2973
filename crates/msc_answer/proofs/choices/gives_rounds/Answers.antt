use Rattle.std.proofs.Common.{rules, tests}
use Rattle.std.proofs.lemmas.Iterator.Search.{all_from_yields_List}
use Rattle.std.proofs.lemmas.Iterator.Splits.{YieldsList-from_slice_split}
use Rattle.msc_answer.specs.Importing.{are_rounds, is_comma, number_of}
use Rattle.msc_answer.proofs.choices.gives_rounds.Goals as goal

pub returns : goal.returns
returns c =
    all_from_yields_List (λ part. are_rounds (number_of part)) _ _ c.all.result c.all.ensures.ran
    (YieldsList-from_slice_split _ is_comma c.args.bytes.now c.split.ensures.rest c.split.ensures.done c.split.ensures.closure (λ x b q h. search (rules, tests)))
    (λ x b q k. search (rules, tests))
