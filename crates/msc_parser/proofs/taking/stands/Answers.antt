use Rattle.std.proofs.Common.{◌≡◌, ◌<◌, List, [], ◌∷◌, length, get_or, Some, arith, rules}
use Rattle.msc_lexer.specs.declared.token.Token.{Token}
use Rattle.msc_parser.specs.Reading.{first_kind}
use Rattle.msc_parser.proofs.taking.stands.Goals as goal

-- the first kind is that of the first token
first_kind-is : (tokens : List Token) (t : Token) → 0 < length tokens → t ≡ get_or tokens 0 t
    → first_kind tokens ≡ Some t.kind
first_kind-is [] t some is = absurd (omega arith)
first_kind-is (x ∷ xs) t some is = cc

pub returns-in-Some : goal.returns-in-Some
returns-in-Some c =
    let first = c.in-Some.ensures.item.3 in
    rw (first_kind-is c.args.tokens.now c.in-Some.token.now first.0 (first.1 _)) (search rules)
