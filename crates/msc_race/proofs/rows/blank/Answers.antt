use Rattle.std.proofs.lemmas.Result.{IfOk-weaker}
use Rattle.msc_race.proofs.Making.RowLemmas.{row_from}
use Rattle.msc_race.proofs.rows.blank.Goals as goal

pub returns-clause-row : goal.returns-clause-row
returns-clause-row c =
    IfOk-weaker c.blank.result _ _ (λ row words. row_from c.args.n row.items words c.requires) c.blank.ensures.words
