use Rattle.std.proofs.lemmas.Result.{IfOk-weaker}
use Rattle.msc_race.proofs.Making.RowLemmas.{row_from}
use Rattle.msc_race.proofs.rows.empty.Goals as goal

pub returns-clause-row : goal.returns-clause-row
returns-clause-row c =
    IfOk-weaker c.blank.result _ _ (λ set words. row_from c.args.n set words c.requires) c.blank.ensures.words
