-- What a list of tokens begins with: one symbol, one end of a statement.
use Rattle.std.proofs.Common.{◌≡◌, ◌≢◌, ℕ, List, [], ◌∷◌, sym, ap, subst, ◌∙◌}
use Rattle.msc_lexer.specs.declared.word.Word.TheVariants as words
use Rattle.msc_lexer.specs.Lexemes.{Symbol, Reserved, Named, Quoted, Semicolon, Lexeme}
use Rattle.msc_parser.specs.Forms.{IsToken}
use Rattle.msc_parser.specs.Grammar.{IsEnd, Plain, Commented}

-- equal lists have equal tails
tails : {x y : Lexeme} {xs ys : List Lexeme} → x ∷ xs ≡ y ∷ ys → xs ≡ ys
tails e = cc

-- the first symbol of a list, if there is one
head_symbol : List Lexeme → Symbol
head_symbol [] = Semicolon
head_symbol (l ∷ ls) = l.symbol

-- a list begins with one symbol, and one list follows it
pub token_same : (s r : Symbol) (b a c : List Lexeme) → IsToken s b a → IsToken r b c
    → (s ≡ r) × (a ≡ c)
unfolding head_symbol
token_same s r b a c h g =
    let e : record { symbol = s; place = h.0 } ∷ a ≡ record { symbol = r; place = g.0 } ∷ c = sym h.1 ∙ g.1 in
    (ap head_symbol e, tails e)

-- a list begins with no two symbols
pub symbols_clash : (s r : Symbol) (b a c : List Lexeme) → IsToken s b a → IsToken r b c → s ≢ r → ⊥
symbols_clash s r b a c h g other = other (token_same s r b a c h g).0

-- two names at one place are one
pub name_same : (m n : List ℕ) (b a c : List Lexeme) → IsToken (Named m) b a → IsToken (Named n) b c
    → (m ≡ n) × (a ≡ c)
name_same m n b a c h g =
    let e = token_same (Named m) (Named n) b a c h g in let f : Named m ≡ Named n = e.0 in ((cc), e.1)

-- a token may be read off an equal list
pub token_at : (s : Symbol) (b d a : List Lexeme) → b ≡ d → IsToken s b a → IsToken s d a
token_at s b d a e h = subst (λ (m : List Lexeme). IsToken s m a) e h

-- what begins with the end of a statement begins with no other symbol than `;` and `comment`
pub end_apart : (s : Symbol) (b a c : List Lexeme) → IsEnd b a → IsToken s b c → s ≢ Semicolon
    → s ≢ Reserved words.Comment → ⊥
end_apart s b a c (Plain h) g no_semicolon no_comment =
    symbols_clash s Semicolon b c a g h no_semicolon
end_apart s b a c (Commented bytes text close h k m) g no_semicolon no_comment =
    symbols_clash s (Reserved words.Comment) b c text g h no_comment

-- one list follows the end of a statement
pub end_same : (b a c : List Lexeme) → IsEnd b a → IsEnd b c → a ≡ c
end_same b a c (Plain h) (Plain g) = (token_same Semicolon Semicolon b a c h g).1
end_same b a c (Plain h) (Commented bytes text close g k m) =
    absurd (symbols_clash Semicolon (Reserved words.Comment) b a text h g (λ e. cc))
end_same b a c (Commented bytes text close h k m) (Plain g) =
    absurd (symbols_clash Semicolon (Reserved words.Comment) b c text g h (λ e. cc))
end_same b a c (Commented bytes text close h k m) (Commented bytes_2 text_2 close_2 g l n) =
    let e0 = (token_same _ _ b text text_2 h g).1 in
    let e1 = (token_same (Quoted bytes) (Quoted bytes_2) text_2 close close_2 (token_at _ text text_2 close e0 k) l).1 in
    (token_same Semicolon Semicolon close_2 a c (token_at _ close close_2 a e1 m) n).1
