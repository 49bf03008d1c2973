use Rattle.std.proofs.Common.{◌≡◌, length}
use Rattle.msc_mark.proofs.Naming.{IsPutTo}
use Rattle.msc_mark.proofs.row.put_words.Given as goal

abbrev pub invariant-loop-word : goal.invariant-loop-word
invariant-loop-word l = record {
  size : length l.row ≡ length l.fn.row;
  put : IsPutTo l.idents.keys l.fn.row l.words l.word-index l.place l.name l.row;
}
