use Rattle.msc_picture.proofs.ReadyLemmas.{with_it}
use Rattle.msc_picture.proofs.ready.Ready.list.Goals as goal

pub returns-clause-listed : goal.returns-clause-listed
returns-clause-listed c = record {
  rest = λ may. with_it _ _ _ c.args.e c.put_where.ensures.put (c.may_rest.ensures.1 may);
  send = λ may. with_it _ _ _ c.args.e c.put_where-2.ensures.put (c.may_send.ensures.1 may);
  level = λ may. with_it _ _ _ c.args.e c.put_where-3.ensures.put (c.may_level.ensures.1 may);
}
