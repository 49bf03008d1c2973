use Rattle.std.proofs.Common.{refl}
use Rattle.msc_instance.proofs.outlets.close_one.Goals as goal

pub returns : goal.returns
returns c = record {
  closed = cc;
  number = refl;
  same = c.close.ensures.same;
  put = c.close.ensures.put;
  claims = c.close.ensures.claims;
  again = c.close.ensures.again;
}
