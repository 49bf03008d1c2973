-- Which tokens the parts of the grammar pass over: no part but an event has a token that begins
-- one, and no part but a section has one that begins a section.
use Rattle.std.proofs.Common.{◌≡◌, ℕ, Bool, false, ◌||◌, List, [], ◌∷◌, Option, Some, None, refl}
use Rattle.msc_lexer.specs.declared.word.Word.TheVariants as words
use Rattle.msc_lexer.specs.Lexemes.{Symbol, Reserved, Named, Quoted, Semicolon, Comma, Colon, LeftParen, RightParen, Lexeme}
use Rattle.msc_parser.specs.declared.tree.Direction.{Direction}
use Rattle.msc_parser.specs.declared.tree.Direction.TheVariants as directions
use Rattle.msc_parser.specs.declared.tree.Decl.{Decl}
use Rattle.msc_parser.specs.declared.tree.Signal.{Signal}
use Rattle.msc_parser.specs.Forms.{IsToken, IsNamed, AreMany, IsLedBy}
use Rattle.msc_parser.specs.Grammar.{Tree, IsChart, IsEnd, Plain, Commented, IsSecond, IsKind, IsDecl, IsNumber, AreParameters, Absent, Empty, Given, IsIdent, IsSignal, IsAction, AreDecls, IsHeader, address_word}
use Rattle.msc_place.specs.Standing.{begins_event, begins_section}
use Rattle.msc_place.proofs.Walks.{Passes, passes_on}

-- the test passes no part of a decl, and no part of the end of a statement
pub record IsPlain (test : Symbol → Bool) : Type 0 where
  pub named : (n : List ℕ) → test (Named n) ≡ false
  pub quoted : (n : List ℕ) → test (Quoted n) ≡ false
  pub semicolon : test Semicolon ≡ false
  pub colon : test Colon ≡ false
  pub comment : test (Reserved words.Comment) ≡ false

module _ (test : Symbol → Bool) where
  -- one token
  pub pass_token : (s : Symbol) (b a : List Lexeme) → IsToken s b a → test s ≡ false
      → Passes test b a
  pass_token s b a h fails =
      record { gap = record { symbol = s; place = h.0 } ∷ []; whole = h.1; fails = (fails, tt) }

  -- many parts
  pub pass_many : {X : Type 0} (IsPart : List Lexeme → X → List Lexeme → Type 0)
      → ((b a : List Lexeme) (x : X) → IsPart b x a → Passes test b a) → (b a : List Lexeme)
      (xs : List X)
      → AreMany IsPart b xs a → Passes test b a
  pass_many IsPart one b a [] h = record { gap = []; whole = h; fails = tt }
  pass_many IsPart one b a (x ∷ xs) h =
      passes_on test b h.0 a (one b h.0 x h.1) (pass_many IsPart one h.0 a xs h.2)

  -- a part behind a token
  pub pass_led : {X : Type 0} (s : Symbol) (IsPart : List Lexeme → X → List Lexeme → Type 0)
      → test s ≡ false → ((b a : List Lexeme) (x : X) → IsPart b x a → Passes test b a)
      → (b a : List Lexeme) (x : X) → IsLedBy s IsPart b x a → Passes test b a
  pass_led s IsPart fails one b a x h =
      passes_on test b h.0 a (pass_token s b h.0 h.1 fails) (one h.0 a x h.2)

  module _ (plain : IsPlain test) where
    -- the end of a statement
    pub pass_end : (b a : List Lexeme) → IsEnd b a → Passes test b a
    pass_end b a (Plain h) = pass_token Semicolon b a h plain.semicolon
    pass_end b a (Commented bytes text close h k l) =
        passes_on test b text a (pass_token _ b text h plain.comment)
        (passes_on test text close a (pass_token _ text close k (plain.quoted bytes)) (pass_token _ close a l plain.semicolon))

    -- a second name of a kind
    pass_second : (ks : List (List ℕ)) (b a : List Lexeme) → IsSecond b ks a → Passes test b a
    pass_second [] b a h = record { gap = []; whole = h; fails = tt }
    pass_second (k ∷ []) b a h = pass_token _ b a h (plain.named k)
    pass_second (k ∷ l ∷ ks) b a h = absurd h

    -- the kind of a decl
    pub pass_kind : (ks : List (List ℕ)) (b a : List Lexeme) → IsKind b ks a → Passes test b a
    pass_kind [] b a h = record { gap = []; whole = h; fails = tt }
    pass_kind (k ∷ ks) b a h =
        passes_on test b h.0 a (pass_token _ b h.0 h.2 plain.colon)
        (passes_on test h.0 h.1 a (pass_token _ h.0 h.1 h.3 (plain.named k)) (pass_second ks h.1 a h.4))

    -- a decl
    pub pass_decl : (b a : List Lexeme) (d : Decl) → IsDecl b d a → Passes test b a
    pass_decl b a d h =
        passes_on test b h.0 a (pass_token _ b h.0 h.1 (plain.named d.name)) (pass_kind d.kind h.0 a h.2)

-- ---- idents

-- the test passes no part of an ident
pub record IsFree (test : Symbol → Bool) : Type 0 where
  pub named : (n : List ℕ) → test (Named n) ≡ false
  pub comma : test Comma ≡ false
  pub left : test LeftParen ≡ false
  pub right : test RightParen ≡ false

module _ (test : Symbol → Bool) (free : IsFree test) where
  -- a message instance name
  pass_number : (o : Option (List ℕ)) (b a : List Lexeme) → IsNumber b o a → Passes test b a
  pass_number None b a h = record { gap = []; whole = h; fails = tt }
  pass_number (Some n) b a h =
      passes_on test b h.0 a (pass_token test _ b h.0 h.1 free.comma) (pass_token test _ h.0 a h.2 (free.named n))

  -- a name
  pass_name : (b a : List Lexeme) (n : List ℕ) → IsNamed b n a → Passes test b a
  pass_name b a n h = pass_token test (Named n) b a h (free.named n)

  -- parameters
  pass_parameters : (ps : List (List ℕ)) (b a : List Lexeme) → AreParameters b ps a
      → Passes test b a
  pass_parameters ps b a (Absent none h) = record { gap = []; whole = h; fails = tt }
  pass_parameters ps b a (Empty close none h k) =
      passes_on test b close a (pass_token test _ b close h free.left) (pass_token test _ close a k free.right)
  pass_parameters [] b a (Given names close h k l) = absurd k
  pass_parameters (p ∷ ps) b a (Given names close h k l) =
      let others = pass_many test (IsLedBy Comma IsNamed) (pass_led test Comma IsNamed free.comma pass_name) k.0 close ps k.2 in
      passes_on test b names a (pass_token test _ b names h free.left)
      (passes_on test names k.0 a (pass_name names k.0 p k.1)
      (passes_on test k.0 close a others (pass_token test _ close a l free.right)))

  -- an ident
  pub pass_ident : (e : Signal) (b a : List Lexeme) → IsIdent b e a → Passes test b a
  pass_ident e b a i =
      passes_on test b i.number a (pass_token test _ b i.number i.is_name (free.named e.name))
      (passes_on test i.number i.parameters a (pass_number e.number i.number i.parameters i.is_number) (pass_parameters e.parameters i.parameters a i.are_parameters))

-- ---- what begins no part

-- what begins an event or a section
abbrev pub begins_part : Symbol → Bool
begins_part s = begins_event s || begins_section s

pub part_plain : IsPlain begins_part
part_plain =
    record { named = λ n. refl; quoted = λ n. refl; semicolon = refl; colon = refl; comment = refl }

pub part_free : IsFree begins_part
part_free = record { named = λ n. refl; comma = refl; left = refl; right = refl }

-- an address word
way_passes : (w : Direction) → begins_part (Reserved (address_word w)) ≡ false
way_passes directions.Output = refl
way_passes directions.Input = refl

-- a message event behind its first word
pub pass_signal : (e : Signal) (b a : List Lexeme) → IsSignal b e a → Passes begins_part b a
pass_signal e b a k =
    passes_on begins_part b k.word a (pass_ident begins_part part_free e b k.word k.is_ident)
    (passes_on begins_part k.word k.address a (pass_token begins_part _ k.word k.address k.is_word (way_passes e.direction))
    (passes_on begins_part k.address k.close a (pass_token begins_part _ k.address k.close k.is_address refl) (pass_end begins_part part_plain k.close a k.is_end)))

-- an action behind its first word
pub pass_action : (l : List ℕ) (b a : List Lexeme) → IsAction b l a → Passes begins_part b a
pass_action l b a h =
    passes_on begins_part b h.close a (pass_token begins_part _ b h.close h.is_text refl) (pass_end begins_part part_plain h.close a h.is_end)

-- the decls of an `inst` statement
pass_decls : (b a : List Lexeme) (ds : List Decl) → AreDecls b ds a → Passes begins_part b a
pass_decls b a [] h = absurd h.1
pass_decls b a (d ∷ ds) h =
    let others = pass_many begins_part (IsLedBy Comma IsDecl) (pass_led begins_part Comma IsDecl refl (pass_decl begins_part part_plain)) h.1.0 h.0 ds h.1.2 in
    passes_on begins_part b h.1.0 a (pass_decl begins_part part_plain b h.1.0 d h.1.1)
    (passes_on begins_part h.1.0 h.0 a others (pass_end begins_part part_plain h.0 a h.2))

-- the header
pub pass_header : (b a : List Lexeme) (ds : List Decl) → IsHeader b ds a → Passes begins_part b a
pass_header b a ds h =
    pass_many begins_part (IsLedBy (Reserved words.Inst) AreDecls) (pass_led begins_part (Reserved words.Inst) AreDecls refl pass_decls) b a h.0 h.2

-- what stands before the sections, and behind them
pub before_sections : (ls : List Lexeme) (t : Tree) (h : IsChart ls t) → Passes begins_part ls h.sections
before_sections ls t h =
    passes_on begins_part ls h.name h.sections (pass_token begins_part _ ls h.name h.is_msc refl)
    (passes_on begins_part h.name h.close h.sections (pass_token begins_part _ h.name h.close h.is_name refl)
    (passes_on begins_part h.close h.header h.sections (pass_end begins_part part_plain h.close h.header h.is_end) (pass_header h.header h.sections t.header h.is_header)))

pub behind_sections : (ls : List Lexeme) (t : Tree) (h : IsChart ls t) → Passes begins_part h.last []
behind_sections ls t h =
    passes_on begins_part h.last h.last_close [] (pass_token begins_part _ h.last h.last_close h.is_endmsc refl) (pass_end begins_part part_plain h.last_close [] h.is_last_end)
