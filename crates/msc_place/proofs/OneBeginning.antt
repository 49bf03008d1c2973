-- The statement of an event begins at one place.
use Rattle.std.proofs.Common.{◌≡◌, ℕ, ◌+◌, Bool, true, cond, List, [], ◌∷◌, ◌++◌, refl, sym, ap, ◌∙◌, arith}
use Rattle.std.proofs.lemmas.List.Sums.{sum_by-cons}
use Rattle.msc_lexer.specs.declared.word.Word.TheVariants as words
use Rattle.msc_lexer.specs.Lexemes.{Symbol, Reserved, Lexeme, lexemes}
use Rattle.msc_lexer.specs.Lexing.{OneReading}
use Rattle.msc_parser.specs.declared.tree.Statement.{Statement}
use Rattle.msc_parser.specs.declared.tree.Statement.TheVariants.{Message, Action}
use Rattle.msc_parser.specs.Grammar.{IsEvent, direction_word}
use Rattle.msc_place.specs.Standing.{begins_event, tokens_with, EachEventBeginsOnce}
use Rattle.msc_place.proofs.EventWalks.{way_begins}

-- a token, and tokens behind it
with_first : (test : Symbol → Bool) (l : Lexeme) (ls : List Lexeme)
    → tokens_with test (l ∷ ls) ≡ cond (test l.symbol) 1 0 + tokens_with test ls
with_first test l ls = sum_by-cons (λ m. cond (test m.symbol) 1 0) l ls

-- one that passes is among them
with_some : (test : Symbol → Bool) (l : Lexeme) (ls : List Lexeme) → test l.symbol ≡ true
    → tokens_with test (l ∷ ls) ≡ 0 → ⊥
with_some test l ls passes none =
    let e : tokens_with test (l ∷ ls) ≡ 1 + tokens_with test ls = with_first test l ls ∙ rw passes refl in
    omega (arith, e, none)

-- the token that passes and has as many such before it is one
same_first : (test : Symbol → Bool) (f g r s : List Lexeme) (x y : Lexeme)
    → f ++ x ∷ r ≡ g ++ y ∷ s → tokens_with test f ≡ tokens_with test g → test x.symbol ≡ true
    → test y.symbol ≡ true → x ≡ y
same_first test [] [] r s x y e n p q = cc
same_first test [] (m ∷ g) r s x y e n p q =
    let same : x ≡ m = cc in
    absurd (with_some test m g (ap (λ l. test l.symbol) (sym same) ∙ p) (sym n))
same_first test (l ∷ f) [] r s x y e n p q =
    let same : l ≡ y = cc in
    absurd (with_some test l f (ap (λ m. test m.symbol) same ∙ q) n)
same_first test (l ∷ f) (m ∷ g) r s x y e n p q =
    let same : l ≡ m = cc in
    let rest : f ++ x ∷ r ≡ g ++ y ∷ s = cc in
    let a = with_first test l f in let b = with_first test m g in
    let one : Lexeme → ℕ = λ k. cond (test k.symbol) 1 0 in
    let c = ap one same in
    same_first test f g r s x y rest (omega (arith, a, b, c, n)) p q

-- the first token of an event's statement begins an event
event_begins : (b rest a : List Lexeme) (first : Lexeme) (e : Statement) → b ≡ first ∷ rest
    → IsEvent b e a → begins_event first.symbol ≡ true
event_begins b rest a first (Message e) is h =
    let all : first ∷ rest ≡ record { symbol = Reserved (direction_word e.direction); place = h.1.0 } ∷ h.0 = sym is ∙ h.1.1 in
    let same : first ≡ record { symbol = Reserved (direction_word e.direction); place = h.1.0 } = cc all in
    ap (λ l. begins_event l.symbol) same ∙ way_begins e.direction
event_begins b rest a first (Action l) is h =
    let all : first ∷ rest ≡ record { symbol = Reserved words.Action; place = h.1.0 } ∷ h.0 = sym is ∙ h.1.1 in
    let same : first ≡ record { symbol = Reserved words.Action; place = h.1.0 } = cc all in
    ap (λ l. begins_event l.symbol) same

pub begins_once : OneReading → EachEventBeginsOnce
begins_once one text t e a b h k =
    let u = h.statement.whole in let v = k.statement.whole in
    let same = ap (lexemes text) (one.tokens text u.tokens v.tokens u.have v.have) in
    let whole : h.front ++ h.first ∷ (h.rest ++ h.after) ≡ k.front ++ k.first ∷ (k.rest ++ k.after) = sym u.seen ∙ same ∙ v.seen in
    let x = event_begins _ (h.rest ++ h.after) h.after h.first h.event refl h.statement.is_event in
    let y = event_begins _ (k.rest ++ k.after) k.after k.first k.event refl k.statement.is_event in
    let first = same_first begins_event h.front k.front (h.rest ++ h.after) (k.rest ++ k.after) h.first k.first whole (h.statement.earlier ∙ sym k.statement.earlier) x y in
    h.place ∙ ap (λ l. l.place) first ∙ sym k.place
