use Rattle.std.proofs.Common.{◌<◌, take, All}
use Rattle.msc_lexer.specs.declared.token.Token.{Token}
use Rattle.msc_place.specs.TokensAt.{IsBehind}
use Rattle.msc_place.proofs.tokens_at.parted.Given as goal

abbrev pub invariant-loop-i : goal.invariant-loop-i
invariant-loop-i l = record {
  before : All (λ (t : Token). t.start < l.at) (take l.i l.tokens);
  behind : IsBehind (take l.i l.tokens) l.behind;
}
