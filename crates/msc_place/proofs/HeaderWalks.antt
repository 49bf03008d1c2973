-- Up to the first section a name of the draft's header stands behind each `inst` and each comma.
use Rattle.std.proofs.Common.{◌≡◌, Bool, true, false, ◌||◌, List, [], ◌∷◌, refl, sym, subst}
use Rattle.std.specs.List.{flat_map}
use Rattle.msc_lexer.specs.declared.word.Word.TheVariants as words
use Rattle.msc_lexer.specs.Lexemes.{Symbol, Reserved, Comma, Lexeme}
use Rattle.msc_parser.specs.declared.tree.Decl.{Decl}
use Rattle.msc_parser.specs.Forms.{AreMany, IsLedBy}
use Rattle.msc_parser.specs.Grammar.{Tree, IsDecl, AreDecls, IsChart}
use Rattle.msc_place.specs.Standing.{begins_section, leads_decl}
use Rattle.msc_place.specs.Collecting.{second_place}
use Rattle.msc_place.proofs.Walks.{Passes, passes_on, Walks, walks_behind, walks_on, walks_past}
use Rattle.msc_place.proofs.Passing.{pass_token, pass_end, pass_decl, IsPlain}

-- a decl is read behind the first of these tokens
abbrev pub ReadsDecl : List Lexeme → Decl → Type 0
ReadsDecl [] d = ⊥
ReadsDecl (l ∷ ls) d = (after : List Lexeme) × IsDecl ls d after

abbrev pub DeclWalk : List Lexeme → List Lexeme → List Decl → Type 0
DeclWalk b a ds = Walks leads_decl begins_section ReadsDecl second_place b a ds

-- what leads to no decl, and ends no header
abbrev pub heads : Symbol → Bool
heads s = leads_decl s || begins_section s

heads_plain : IsPlain heads
heads_plain =
    record { named = λ n. refl; quoted = λ n. refl; semicolon = refl; colon = refl; comment = refl }

-- a decl behind a token that leads one
decl_walk : (s : Symbol) → leads_decl s ≡ true → begins_section s ≡ false → (b a : List Lexeme) (d : Decl)
    → IsLedBy s IsDecl b d a → DeclWalk b a (d ∷ [])
decl_walk s led goes b a d h = (
  record { symbol = s; place = h.1.0 },
  h.0,
  record { gap = []; whole = h.1.1; fails = tt },
  led,
  goes,
  (a, h.2),
  pass_decl heads heads_plain h.0 a d h.2,
)

-- decls behind commas
decls_many : (b a : List Lexeme) (ds : List Decl) → AreMany (IsLedBy Comma IsDecl) b ds a
    → DeclWalk b a ds
decls_many b a [] h = record { gap = []; whole = h; fails = tt }
decls_many b a (d ∷ ds) h =
    walks_on leads_decl begins_section ReadsDecl second_place (d ∷ []) ds b h.0 a (decl_walk Comma refl refl b h.0 d h.1) (decls_many h.0 a ds h.2)

-- an `inst` statement
inst_walk : (b a : List Lexeme) (ds : List Decl) → IsLedBy (Reserved words.Inst) AreDecls b ds a
    → DeclWalk b a ds
inst_walk b a [] h = absurd h.2.1
inst_walk b a (d ∷ ds) h =
    let l = h.2.1 in let close = h.2.0 in
    let first = decl_walk (Reserved words.Inst) refl refl b l.0 d (h.0, h.1, l.1) in
    walks_on leads_decl begins_section ReadsDecl second_place (d ∷ []) ds b l.0 a first
    (walks_past leads_decl begins_section ReadsDecl second_place ds l.0 close a (decls_many l.0 close ds l.2) (pass_end heads heads_plain close a h.2.2))

-- the decls of many `inst` statements
insts_walk : (b a : List Lexeme) (groups : List (List Decl))
    → AreMany (IsLedBy (Reserved words.Inst) AreDecls) b groups a
    → DeclWalk b a (flat_map (λ g. g) groups)
insts_walk b a [] h = record { gap = []; whole = h; fails = tt }
insts_walk b a (g ∷ gs) h =
    walks_on leads_decl begins_section ReadsDecl second_place g (flat_map (λ x. x) gs) b h.0 a (inst_walk b h.0 g h.1) (insts_walk h.0 a gs h.2)

-- the tokens of a chart up to its sections have the decls of its header
pub chart_header : (ls : List Lexeme) (t : Tree) (h : IsChart ls t) → DeclWalk ls h.sections t.header
chart_header ls t h =
    let before = passes_on heads ls h.name h.header (pass_token heads _ ls h.name h.is_msc refl) (passes_on heads h.name h.close h.header (pass_token heads _ h.name h.close h.is_name refl) (pass_end heads heads_plain h.close h.header h.is_end)) in
    let groups : DeclWalk h.header h.sections t.header =
    subst (DeclWalk h.header h.sections) (sym h.is_header.1) (insts_walk h.header h.sections h.is_header.0 h.is_header.2) in
    walks_behind leads_decl begins_section ReadsDecl second_place t.header ls h.header h.sections before groups

-- the tokens behind the last section lead to no decl
pub behind_header : (ls : List Lexeme) (t : Tree) (h : IsChart ls t) → Passes heads h.last []
behind_header ls t h =
    passes_on heads h.last h.last_close [] (pass_token heads _ h.last h.last_close h.is_endmsc refl) (pass_end heads heads_plain h.last_close [] h.is_last_end)
