use Rattle.std.proofs.Common.{◌≡◌, ℕ, true, List, [], ◌∷◌, ◌≤◌, length, get_or, refl, sym, ◌∙◌, arith}
use Rattle.msc_lexer.specs.declared.word.Word.{Word}
use Rattle.msc_lexer.specs.declared.token.Token.{Token}
use Rattle.msc_lexer.specs.declared.token.Kind.TheVariants as kinds
use Rattle.msc_lexer.specs.Lexemes.{lexemes}
use Rattle.msc_parser.specs.declared.fault.What.{What}
use Rattle.msc_parser.specs.declared.fault.ParseFault.TheVariants.{Unsupported}
use Rattle.msc_parser.specs.Parsing.{is_refused, fault_at}
use Rattle.msc_parser.proofs.taking.unexpected.Goals as goal

-- where a refused word stands first, the fault tells it as such
told : (text : List ℕ) (tokens : List Token) (w : What) (d : Token) (word : Word)
    → 1 ≤ length tokens → (get_or tokens 0 d).kind ≡ kinds.Word word → is_refused word ≡ true
    → Unsupported (get_or tokens 0 d).start word ≡ fault_at (length text) w (lexemes text tokens)
told text [] w d word some is refused = absurd (omega (arith, some))
told text (t ∷ ts) w d word some is refused = rw is (rw refused refl)

pub returns-in-Word : goal.returns-in-Word
returns-in-Word c =
    told c.args.text.now c.args.tokens.now c.args.what _ c.in-Word.word c.in-len1-up.len_at_least c.in-Word.is (sym c.is_refused.ensures ∙ c.if-is_refused.true)
