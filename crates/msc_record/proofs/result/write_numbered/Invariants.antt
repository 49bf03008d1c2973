use Rattle.std.proofs.Common.{◌≡◌, ◌++◌, ◌∷◌, drop}
use Rattle.json.specs.Token.{begin_array}
use Rattle.msc_record.proofs.MarkLemmas.{numbered_tokens}
use Rattle.msc_record.proofs.result.write_numbered.Given as goal

-- the marks so far follow the bracket; those that are left are to follow
abbrev pub invariant-loop-id : goal.invariant-loop-id
invariant-loop-id l = record {
  before : l.writer.before ≡ l.fn.writer.before;
  tokens : l.writer.tokens ++ numbered_tokens l.fn.uri l.id (drop l.id l.marks) ≡ l.fn.writer.tokens ++ (begin_array ∷ numbered_tokens l.fn.uri 0 l.marks);
}
