use Rattle.msc_picture.proofs.ReadyLemmas.{bits_from}
use Rattle.msc_picture.proofs.ready.Ready.blank.Goals as goal

pub returns : goal.returns
returns c = record {
  room = record {
    rests = bits_from c.args.n _ c.in_ok-blank.ensures.words;
    sends = bits_from c.args.n _ c.in_ok-blank-2.ensures.words;
    levels = bits_from c.args.n _ c.in_ok-blank-3.ensures.words;
  };
}
