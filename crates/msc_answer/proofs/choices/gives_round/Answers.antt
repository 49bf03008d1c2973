use Rattle.std.proofs.Common.{◌==◌, false, rules, tests}
use Rattle.std.specs.Option.{option_map_or}
use Rattle.std.proofs.lemmas.Iterator.Search.{any_from_yields_List}
use Rattle.std.proofs.lemmas.Iterator.Splits.{YieldsList-from_slice_split}
use Rattle.msc_answer.specs.Importing.{is_comma, number_of}
use Rattle.msc_answer.proofs.choices.gives_round.Goals as goal

pub returns : goal.returns
returns c =
    any_from_yields_List (λ part. option_map_or (λ m. m == c.args.number) (number_of part) false) _ _ c.any.result c.any.ensures.ran
    (YieldsList-from_slice_split _ is_comma c.args.bytes.now c.split.ensures.rest c.split.ensures.done c.split.ensures.closure (λ x b q h. search (rules, tests)))
    (λ x b q k. search (rules, tests))
