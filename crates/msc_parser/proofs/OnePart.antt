-- Each part of a chart is determined by its tokens and by what stops it.
use Rattle.std.proofs.Common.{◌≡◌, ◌≢◌, ℕ, List, [], ◌∷◌, Option, Some, None, refl, sym, subst, ◌∙◌}
use Rattle.msc_lexer.specs.declared.word.Word.TheVariants as words
use Rattle.msc_lexer.specs.Lexemes.{Symbol, Reserved, Named, Quoted, Comma, Colon, LeftParen, RightParen, Lexeme}
use Rattle.msc_parser.specs.declared.tree.Direction.{Direction}
use Rattle.msc_parser.specs.declared.tree.Direction.TheVariants as directions
use Rattle.msc_parser.specs.declared.tree.Decl.{Decl}
use Rattle.msc_parser.specs.declared.tree.Signal.{Signal}
use Rattle.msc_parser.specs.declared.tree.Statement.TheVariants.{Message, Action}
use Rattle.msc_parser.specs.Forms.{IsToken, IsNamed, IsLedBy, AreListed}
use Rattle.msc_parser.specs.Grammar.{IsEnd, IsSecond, IsKind, IsDecl, direction_word, address_word, IsNumber, AreParameters, Absent, Empty, Given, IsIdent, IsSignal, IsAction, IsMessage, IsEvent, AreDecls}
use Rattle.msc_parser.proofs.Tokens.{token_same, symbols_clash, name_same, token_at, end_apart, end_same}
use Rattle.msc_parser.proofs.Decided.{Decided, IsSequence, behind_same, listed_same}

-- nothing is asked of what follows
abbrev pub Closed : List Lexeme → Type 0
Closed ls = Unit {0}

-- no symbol stands here that goes on with a kind
abbrev pub StopsKind : List Lexeme → Type 0
StopsKind ls =
    ((a : List Lexeme) → IsToken Colon ls a → ⊥) × ((n : List ℕ) (a : List Lexeme) → IsToken (Named n) ls a → ⊥)

-- no symbol stands here that goes on with an ident
abbrev pub StopsIdent : List Lexeme → Type 0
StopsIdent ls =
    ((a : List Lexeme) → IsToken Comma ls a → ⊥) × ((a : List Lexeme) → IsToken LeftParen ls a → ⊥)

-- ---- names of instances

-- the end of a statement stops a kind
pub end_stops : (b a : List Lexeme) → IsEnd b a → StopsKind b
end_stops b a h =
    (λ c g. end_apart Colon b a c h g (λ e. cc) (λ e. cc), λ n c g. end_apart (Named n) b a c h g (λ e. cc) (λ e. cc))

-- a second name, or none, is determined
second_same : Decided StopsKind IsSecond
second_same b a c [] [] h g stop_a stop_c = (refl, sym h ∙ g)
second_same b a c [] (y ∷ []) h g stop_a stop_c =
    absurd (stop_a.1 y c (subst (λ (m : List Lexeme). IsToken (Named y) m c) h g))
second_same b a c (x ∷ []) [] h g stop_a stop_c =
    absurd (stop_c.1 x a (subst (λ (m : List Lexeme). IsToken (Named x) m a) g h))
second_same b a c (x ∷ []) (y ∷ []) h g stop_a stop_c =
    let e = name_same x y b a c h g in let i = e.0 in ((cc), e.1)
second_same b a c (x ∷ z ∷ zs) ys h g stop_a stop_c = absurd h
second_same b a c xs (y ∷ z ∷ zs) h g stop_a stop_c = absurd g

-- a kind, or none, is determined
kind_same : Decided StopsKind IsKind
kind_same b a c [] [] h g stop_a stop_c = (refl, sym h ∙ g)
kind_same b a c [] (y ∷ ys) h g stop_a stop_c = absurd (stop_a.0 g.0 (token_at Colon b a g.0 h g.2))
kind_same b a c (x ∷ xs) [] h g stop_a stop_c = absurd (stop_c.0 h.0 (token_at Colon b c h.0 g h.2))
kind_same b a c (x ∷ xs) (y ∷ ys) h g stop_a stop_c =
    let e0 = (token_same Colon Colon b h.0 g.0 h.2 g.2).1 in
    let e1 = name_same x y g.0 h.1 g.1 (token_at (Named x) h.0 g.0 h.1 e0 h.3) g.3 in
    let e2 = second_same g.1 a c xs ys (subst (λ (m : List Lexeme). IsSecond m xs a) e1.1 h.4) g.4 stop_a stop_c in
    let i = e1.0 in
    let j = e2.0 in
    ((cc), e2.1)

-- a decl is determined
pub decl_same : Decided StopsKind IsDecl
decl_same b a c x y h g stop_a stop_c =
    let e0 = name_same x.name y.name b h.0 g.0 h.1 g.1 in
    let e1 = kind_same g.0 a c x.kind y.kind (subst (λ (m : List Lexeme). IsKind m x.kind a) e0.1 h.2) g.2 stop_a stop_c in
    (decl e0.0 e1.0, e1.1)
  where
    -- decls with equal parts are equal
    decl : {m n : List ℕ} {k l : List (List ℕ)} → m ≡ n → k ≡ l
        → (let d : Decl = record { name = m; kind = k } in d) ≡ record { name = n; kind = l }
    decl p q = cc

-- the statement ends here
abbrev EndsDecls : List Lexeme → Type 0
EndsDecls b = (a : List Lexeme) × IsEnd b a

-- decls follow one another up to the end of the statement
decl_sequence : IsSequence (IsLedBy Comma IsDecl) StopsKind EndsDecls
decl_sequence = record {
  one = behind_same Comma IsDecl StopsKind decl_same;
  goes_on = λ b a x h ends. end_apart Comma b ends.0 h.0 ends.1 h.1 (λ e. cc) (λ e. cc);
  begins = λ b a x h. (λ c g. symbols_clash Comma Colon b h.0 c h.1 g (λ e. cc), λ n c g. symbols_clash Comma (Named n) b h.0 c h.1 g (λ e. cc));
  ends = λ b ends. end_stops b ends.0 ends.1;
}

-- the decls of an `inst` statement are determined
pub decls_same : Decided Closed AreDecls
decls_same b a c xs ys h g stop_a stop_c =
    let e = listed_same IsDecl StopsKind EndsDecls decl_same decl_sequence b h.0 g.0 xs ys h.1 g.1 (a, h.2) (c, g.2) in
    (e.0, end_same g.0 a c (subst (λ (m : List Lexeme). IsEnd m a) e.1 h.2) g.2)

-- ---- events

-- a name is determined
named_same : Decided Closed IsNamed
named_same b a c x y h g stop_a stop_c = name_same x y b a c h g

-- `)` stands here
abbrev EndsNames : List Lexeme → Type 0
EndsNames b = (a : List Lexeme) × IsToken RightParen b a

-- parameters follow one another up to `)`
name_sequence : IsSequence (IsLedBy Comma IsNamed) Closed EndsNames
name_sequence = record {
  one = behind_same Comma IsNamed Closed named_same;
  goes_on = λ b a x h ends. symbols_clash Comma RightParen b h.0 ends.0 h.1 ends.1 (λ e. cc);
  begins = λ b a x h. tt;
  ends = λ b ends. tt;
}

-- a list of names doesn't begin with `)`
names_begin : (b a c : List Lexeme) (ps : List (List ℕ)) → AreListed IsNamed b ps a
    → IsToken RightParen b c → ⊥
names_begin b a c [] h g = h
names_begin b a c (p ∷ ps) h g = symbols_clash (Named p) RightParen b h.0 c h.1 g (λ e. cc)

-- no comma stands here
abbrev StopsNumber : List Lexeme → Type 0
StopsNumber ls = (a : List Lexeme) → IsToken Comma ls a → ⊥

-- a message instance name, or none, is determined
number_same : Decided StopsNumber IsNumber
number_same b a c None None h g stop_a stop_c = (refl, sym h ∙ g)
number_same b a c None (Some y) h g stop_a stop_c =
    absurd (stop_a g.0 (token_at Comma b a g.0 h g.1))
number_same b a c (Some x) None h g stop_a stop_c =
    absurd (stop_c h.0 (token_at Comma b c h.0 g h.1))
number_same b a c (Some x) (Some y) h g stop_a stop_c =
    let e = behind_same Comma IsNamed Closed named_same b a c x y h g tt tt in let i = e.0 in ((cc), e.1)

-- parameters are determined
parameters_same : Decided StopsIdent AreParameters
parameters_same b a c ps qs (Absent p h) (Absent q g) stop_a stop_c = (p ∙ sym q, sym h ∙ g)
parameters_same b a c ps qs (Absent p h) (Empty close q g k) stop_a stop_c =
    absurd (stop_a.1 close (token_at LeftParen b a close h g))
parameters_same b a c ps qs (Absent p h) (Given names close g k l) stop_a stop_c =
    absurd (stop_a.1 names (token_at LeftParen b a names h g))
parameters_same b a c ps qs (Empty close p h k) (Absent q g) stop_a stop_c =
    absurd (stop_c.1 close (token_at LeftParen b c close g h))
parameters_same b a c ps qs (Given names close h k l) (Absent q g) stop_a stop_c =
    absurd (stop_c.1 names (token_at LeftParen b c names g h))
parameters_same b a c ps qs (Empty close p h k) (Empty close_2 q g l) stop_a stop_c =
    let e = (token_same LeftParen LeftParen b close close_2 h g).1 in
    (p ∙ sym q, (token_same RightParen RightParen close_2 a c (token_at RightParen close close_2 a e k) l).1)
parameters_same b a c ps qs (Empty close p h k) (Given names close_2 g l m) stop_a stop_c =
    let e = (token_same LeftParen LeftParen b close names h g).1 in absurd (names_begin names close_2 a qs l (token_at RightParen close names a e k))
parameters_same b a c ps qs (Given names close_2 g l m) (Empty close p h k) stop_a stop_c =
    let e = (token_same LeftParen LeftParen b close names h g).1 in absurd (names_begin names close_2 c ps l (token_at RightParen close names c e k))
parameters_same b a c ps qs (Given names close h k l) (Given names_2 close_2 g m n) stop_a stop_c =
    let e0 = (token_same LeftParen LeftParen b names names_2 h g).1 in
    let e1 = listed_same IsNamed Closed EndsNames named_same name_sequence names_2 close close_2 ps qs (subst (λ (x : List Lexeme). AreListed IsNamed x ps close) e0 k) m (a, l) (c, n) in
    (e1.0, (token_same RightParen RightParen close_2 a c (token_at RightParen close close_2 a e1.1 l) n).1)

-- what stops an ident stops a message instance name, whatever the parameters
parameters_stop : (b a : List Lexeme) (ps : List (List ℕ)) → AreParameters b ps a → StopsIdent a
    → StopsNumber b
parameters_stop b a ps (Absent p h) stop c g = stop.0 c (token_at Comma b a c h g)
parameters_stop b a ps (Empty close p h k) stop c g =
    symbols_clash LeftParen Comma b close c h g (λ e. cc)
parameters_stop b a ps (Given names close h k l) stop c g =
    symbols_clash LeftParen Comma b names c h g (λ e. cc)

-- an ident is determined, as the parts of an event that it fills
pub ident_same : (b a c : List Lexeme) (x y : Signal) → IsIdent b x a → IsIdent b y c → StopsIdent a
    → StopsIdent c
    → (x.name ≡ y.name) × (x.number ≡ y.number) × (x.parameters ≡ y.parameters) × (a ≡ c)
ident_same b a c x y h g stop_a stop_c =
    let e0 = name_same x.name y.name b h.number g.number h.is_name g.is_name in
    let e1 = number_same g.number h.parameters g.parameters x.number y.number (subst (λ (m : List Lexeme). IsNumber m x.number h.parameters) e0.1 h.is_number) g.is_number
    (parameters_stop h.parameters a x.parameters h.are_parameters stop_a) (parameters_stop g.parameters c y.parameters g.are_parameters stop_c) in
    let e2 = parameters_same g.parameters a c x.parameters y.parameters (subst (λ (m : List Lexeme). AreParameters m x.parameters a) e1.1 h.are_parameters) g.are_parameters stop_a stop_c in
    (e0.0, e1.0, e2.0, e2.1)

-- the word before an address stops an ident
word_stops : (w : Direction) (b a : List Lexeme) → IsToken (Reserved (address_word w)) b a → StopsIdent b
word_stops w b a h =
    (λ c g. symbols_clash (Reserved (address_word w)) Comma b a c h g (λ e. cc), λ c g. symbols_clash (Reserved (address_word w)) LeftParen b a c h g (λ e. cc))

-- a way is known by its word
direction_word_same : (v w : Direction) → Reserved (direction_word v) ≡ Reserved (direction_word w) → v ≡ w
direction_word_same directions.Output directions.Output e = refl
direction_word_same directions.Input directions.Input e = refl
direction_word_same directions.Output directions.Input e = absurd cc
direction_word_same directions.Input directions.Output e = absurd cc

-- a message event is determined
message_same : Decided Closed IsMessage
message_same b a c x y h g stop_a stop_c =
    let e0 = token_same _ _ b h.0 g.0 h.1 g.1 in
    let direction = direction_word_same x.direction y.direction e0.0 in
    let k = subst (λ (m : List Lexeme). IsSignal m x a) e0.1 h.2 in
    let l = g.2 in
    let e1 = ident_same g.0 k.word l.word x y k.is_ident l.is_ident (word_stops x.direction k.word k.address k.is_word) (word_stops y.direction l.word l.address l.is_word) in
    let e2 = token_same _ _ l.word k.address l.address (token_at _ k.word l.word k.address e1.3 k.is_word) l.is_word in
    let e3 = name_same x.address y.address l.address k.close l.close (token_at _ k.address l.address k.close e2.1 k.is_address) l.is_address in
    (signal direction e1.0 e1.1 e1.2 e3.0, end_same l.close a c (subst (λ (m : List Lexeme). IsEnd m a) e3.1 k.is_end) l.is_end)
  where
    -- message events with equal parts are equal
    signal : {v w : Direction} {m n p q : List ℕ} {k l : Option (List ℕ)} {f g : List (List ℕ)} → v ≡ w
        → m ≡ n → k ≡ l → f ≡ g → p ≡ q
        → (let e : Signal = record { direction = v; name = m; number = k; parameters = f; address = p } in e) ≡ record { direction = w; name = n; number = l; parameters = g; address = q }
    signal p1 p2 p3 p4 p5 = cc

-- an action behind its first word is determined
action_same : Decided Closed IsAction
action_same b a c x y h g stop_a stop_c =
    let e0 = token_same (Quoted x) (Quoted y) b h.close g.close h.is_text g.is_text in
    let f : Quoted x ≡ Quoted y = e0.0 in
    ((cc), end_same g.close a c (subst (λ (m : List Lexeme). IsEnd m a) e0.1 h.is_end) g.is_end)

-- a message event begins with no other symbol than `out` and `in`
pub direction_apart : (w : Direction) (b a c : List Lexeme) → IsToken (Reserved (direction_word w)) b a
    → (s : Symbol) → IsToken s b c → s ≢ Reserved words.Output → s ≢ Reserved words.Input → ⊥
direction_apart directions.Output b a c h s g no_out no_in =
    symbols_clash s (Reserved words.Output) b c a g h no_out
direction_apart directions.Input b a c h s g no_out no_in =
    symbols_clash s (Reserved words.Input) b c a g h no_in

-- an event is determined
pub event_same : Decided Closed IsEvent
event_same b a c (Message x) (Message y) h g stop_a stop_c =
    let e = message_same b a c x y h g tt tt in let i = e.0 in ((cc), e.1)
event_same b a c (Message x) (Action l) h g stop_a stop_c =
    absurd (direction_apart x.direction b h.0 g.0 h.1 _ g.1 (λ e. cc) (λ e. cc))
event_same b a c (Action k) (Message y) h g stop_a stop_c =
    absurd (direction_apart y.direction b g.0 h.0 g.1 _ h.1 (λ e. cc) (λ e. cc))
event_same b a c (Action k) (Action l) h g stop_a stop_c =
    let e = behind_same (Reserved words.Action) IsAction Closed action_same b a c k l h g tt tt in let i = e.0 in ((cc), e.1)
