use Rattle.std.proofs.Common.{◌∙◌}
use Rattle.msc_mark.proofs.Naming.{put_last, put_next}
use Rattle.msc_mark.proofs.row.put_words.Goals as goal

pub loop-word-preserved : goal.loop-word-preserved
loop-word-preserved c = record {
  size = c.put_ident.auto.row ∙ c.loop-word.invariant.size;
  put = put_next c.args.idents.now.keys c.args.row.now c.args.words.now c.loop-word.word-index c.loop-word.place c.next-place.result c.loop-word.name.now c.name_of-name.result.now c.as_slice-word.result.now c.word-item.result c.loop-word.row c.put_ident.new.row c.ident_at.result c.loop-word-test.true (c.as_slice-word.ensures ∙ c.word-item.is) c.ident_at.ensures c.put_ident.ensures c.next-place.ensures c.name_of-name.ensures c.loop-word.invariant.put;
}

pub returns : goal.returns
returns c =
    put_last c.args.idents.now.keys c.args.row.now c.args.words.now c.loop-word.word-index c.loop-word.place c.loop-word.name.now c.loop-word.row c.loop-word-test.false c.loop-word.invariant.put
