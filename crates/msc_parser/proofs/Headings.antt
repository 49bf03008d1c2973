-- Kinds, decls and `inst` statements are read.
use Rattle.std.proofs.Common.{◌≡◌, ◌≢◌, ℕ, List, [], ◌∷◌, ◌++◌, Some, Err, refl, sym, ap, ◌∙◌, arith}
use Rattle.std.specs.List.{flat_map}
use Rattle.std.proofs.lemmas.List.{append-nil}
use Rattle.std.proofs.lemmas.List.Concat.{flat_map-append}
use Rattle.msc_lexer.specs.declared.word.Word.TheVariants as words
use Rattle.msc_lexer.specs.declared.token.Kind.{Kind}
use Rattle.msc_lexer.specs.declared.token.Kind.TheVariants as kinds
use Rattle.msc_lexer.specs.declared.token.Token.{Token}
use Rattle.msc_lexer.specs.Lexemes.{Reserved, Named, Colon, lexemes, symbol_of, AreWithin}
use Rattle.msc_parser.specs.declared.tree.Decl.{Decl}
use Rattle.msc_parser.specs.declared.fault.What.TheVariants as whats
use Rattle.msc_parser.specs.declared.fault.ParseFault.{ParseFault}
use Rattle.msc_parser.specs.Forms.{IsLedBy, AreListed}
use Rattle.msc_parser.specs.Grammar.{IsKind, IsDecl, AreDecls, IsHeader}
use Rattle.msc_parser.specs.Places.{DeclStatement, InInst, InInstance, GrammarPlace, Header, Sections, DeclName, DeclKind, KindFirst, KindSecond, DeclEnd, StatementEnd, next}
use Rattle.msc_parser.specs.Reading.{first_kind, fault_from, Stops, DidTake, TakesName, DidEnd, DidRead}
use Rattle.msc_parser.proofs.Leading.{colon_leads, second_leads}
use Rattle.msc_parser.proofs.Steps.{others, took, leads_on, fault_but, OnlyTakes, refuses_name, Stops-back}
use Rattle.msc_parser.proofs.Parts.{AreMany-push, behind_read}

-- ---- kinds

-- where a decl begins only a name may stand
only-DeclName : (st : DeclStatement) → OnlyTakes (DeclName st) kinds.Name
only-DeclName st kinds.Name bytes a = absurd (a refl)
only-DeclName st k bytes a = refl

-- behind `:` only a name may stand
only-KindFirst : (st : DeclStatement) → OnlyTakes (KindFirst st) kinds.Name
only-KindFirst st kinds.Name bytes a = absurd (a refl)
only-KindFirst st k bytes a = refl

-- but for `:`, behind a name stands what stands behind a decl
alike-DeclKind : (st : DeclStatement) (k : Kind) (bytes : List ℕ) → k ≢ kinds.Colon
    → next (DeclKind st) (symbol_of k bytes) ≡ next (DeclEnd st) (symbol_of k bytes)
alike-DeclKind InInst kinds.Colon bytes a = absurd (a refl)
alike-DeclKind InInst k bytes a = refl
alike-DeclKind InInstance kinds.Colon bytes a = absurd (a refl)
alike-DeclKind InInstance k bytes a = refl

-- but for a name, behind the first name of a kind stands what stands behind a decl
alike-KindSecond : (st : DeclStatement) (k : Kind) (bytes : List ℕ) → k ≢ kinds.Name
    → next (KindSecond st) (symbol_of k bytes) ≡ next (DeclEnd st) (symbol_of k bytes)
alike-KindSecond InInst kinds.Name bytes a = absurd (a refl)
alike-KindSecond InInst k bytes a = refl
alike-KindSecond InInstance kinds.Name bytes a = absurd (a refl)
alike-KindSecond InInstance k bytes a = refl

-- no colon stands behind the name
pub kind_none : (text : List ℕ) (a : List Token) (ks : List (List ℕ)) → AreWithin text a
    → first_kind a ≢ Some kinds.Colon → ks ≡ [] → (st : DeclStatement)
    → DidRead text IsKind (DeclKind st) (DeclEnd st) a a ks
kind_none text a ks within no_colon none st = rw none (record {
  part = refl;
  within = within;
  shorter = omega arith;
  leads = fault_but text (DeclKind st) (DeclEnd st) kinds.Colon a (alike-DeclKind st) no_colon refl (λ len ls. refl) (λ len ls. refl);
})

-- a colon and a first name stand there
first_leads : (text : List ℕ) (a b : List Token) (n : List ℕ) (st : DeclStatement) → AreWithin text a
    → first_kind a ≡ Some kinds.Colon → DidTake text (Named n) (others a) b
    → fault_from text (DeclKind st) a ≡ fault_from text (KindSecond st) b
first_leads text a b n st within colon name =
    leads_on text (DeclKind st) (KindFirst st) Colon a (others a) (took text kinds.Colon a within colon).1 (colon_leads st) ∙ leads_on text (KindFirst st) (KindSecond st) (Named n) (others a) b name refl

-- behind `:` no name stands
pub kind_first_refused : (text : List ℕ) (a : List Token) (e : ParseFault) → AreWithin text a
    → first_kind a ≡ Some kinds.Colon → TakesName text whats.Name (others a) (Err e)
    → (st : DeclStatement) → Stops text (DeclKind st) a e
kind_first_refused text a e within colon refused st =
    Stops-back text (DeclKind st) (KindFirst st) a (others a) e (leads_on text (DeclKind st) (KindFirst st) Colon a (others a) (took text kinds.Colon a within colon).1 (colon_leads st))
    (refuses_name text (KindFirst st) whats.Name (others a) e (λ len ls. refl) (only-KindFirst st) refl refused)

-- a kind of one name
pub kind_one : (text : List ℕ) (a : List Token) {b : List Token} {n : List ℕ}
    → AreWithin text a → first_kind a ≡ Some kinds.Colon → DidTake text (Named n) (others a) b
    → first_kind b ≢ Some kinds.Name
    → (st : DeclStatement) → DidRead text IsKind (DeclKind st) (DeclEnd st) a b (n ∷ [])
kind_one text a {b} {n} within colon name no_name st =
    let word = (took text kinds.Colon a within colon).1 in
    record {
      part = (lexemes text (others a), lexemes text b, word.part, name.part, refl);
      within = name.within;
      shorter = omega (arith, word.shorter, name.shorter);
      leads = first_leads text a b n st within colon name
          ∙ fault_but text (KindSecond st) (DeclEnd st) kinds.Name b (alike-KindSecond st) no_name refl (λ len ls. refl) (λ len ls. refl);
    }

-- a kind of two names
pub kind_two : (text : List ℕ) (a : List Token) {b c : List Token} {n m : List ℕ}
    → AreWithin text a → first_kind a ≡ Some kinds.Colon → DidTake text (Named n) (others a) b
    → DidTake text (Named m) b c
    → (st : DeclStatement) → DidRead text IsKind (DeclKind st) (DeclEnd st) a c (n ∷ m ∷ [])
kind_two text a {b} {c} {n} {m} within colon name second st =
    let word = (took text kinds.Colon a within colon).1 in
    record {
      part = (lexemes text (others a), lexemes text b, word.part, name.part, second.part);
      within = second.within;
      shorter = omega (arith, word.shorter, name.shorter, second.shorter);
      leads = first_leads text a b n st within colon name ∙ leads_on text (KindSecond st) (DeclEnd st) (Named m) b c second (second_leads st m);
    }

-- ---- decls

-- a decl is a name and its kind
pub decl_read : (text : List ℕ) (a b c : List Token) (n : List ℕ) (k : List (List ℕ))
    (st : DeclStatement) → DidTake text (Named n) a b
    → DidRead text IsKind (DeclKind st) (DeclEnd st) b c k
    → DidRead text IsDecl (DeclName st) (DeclEnd st) a c record { name = n; kind = k }
decl_read text a b c n k st name kind = record {
  part = (lexemes text b, name.part, kind.part);
  within = kind.within;
  shorter = omega (arith, name.shorter, kind.shorter);
  leads = leads_on text (DeclName st) (DeclKind st) (Named n) a b name refl ∙ kind.leads;
}

-- no name stands where a decl begins
pub decl_refused : (text : List ℕ) (a : List Token) (e : ParseFault)
    → TakesName text whats.Name a (Err e) → (st : DeclStatement) → Stops text (DeclName st) a e
decl_refused text a e refused st =
    refuses_name text (DeclName st) whats.Name a e (λ len ls. refl) (only-DeclName st) refl refused

-- a fault of the kind is a fault of the decl
pub decl_kind_refused : (text : List ℕ) (a b : List Token) (n : List ℕ) (e : ParseFault)
    (st : DeclStatement) → DidTake text (Named n) a b → Stops text (DeclKind st) b e
    → Stops text (DeclName st) a e
decl_kind_refused text a b n e st name stop =
    Stops-back text (DeclName st) (DeclKind st) a b e (leads_on text (DeclName st) (DeclKind st) (Named n) a b name refl) stop

-- ---- `inst` statements

-- but for a comma, behind a decl of `inst` stands what ends the statement
alike-DeclEnd : (k : Kind) (bytes : List ℕ) → k ≢ kinds.Comma
    → next (DeclEnd InInst) (symbol_of k bytes) ≡ next (StatementEnd Header) (symbol_of k bytes)
alike-DeclEnd kinds.Comma bytes a = absurd (a refl)
alike-DeclEnd k bytes a = refl

-- behind the decls no comma stands, so the statement ends
decls_lead : (text : List ℕ) (a b : List Token) (ds : List Decl)
    → DidRead text (AreListed IsDecl) (DeclName InInst) (DeclEnd InInst) a b ds
    → first_kind b ≢ Some kinds.Comma
    → fault_from text (DeclName InInst) a ≡ fault_from text (StatementEnd Header) b
decls_lead text a b ds h no_comma =
    h.leads ∙ fault_but text (DeclEnd InInst) (StatementEnd Header) kinds.Comma b alike-DeclEnd no_comma refl (λ len ls. refl) (λ len ls. refl)

-- an `inst` statement is its decls and its end
pub inst_read : (text : List ℕ) (a b c : List Token) (ds : List Decl)
    → DidRead text (AreListed IsDecl) (DeclName InInst) (DeclEnd InInst) a b ds
    → first_kind b ≢ Some kinds.Comma → DidEnd text b c
    → DidRead text AreDecls (DeclName InInst) Header a c ds
inst_read text a b c ds h no_comma end = record {
  part = (lexemes text b, h.part, end.part);
  within = end.within;
  shorter = omega (arith, h.shorter, end.shorter);
  leads = decls_lead text a b ds h no_comma ∙ end.leads Header;
}

-- a fault of the end is a fault of the `inst` statement
pub inst_end_refused : (text : List ℕ) (a b : List Token) (ds : List Decl) (e : ParseFault)
    → DidRead text (AreListed IsDecl) (DeclName InInst) (DeclEnd InInst) a b ds
    → first_kind b ≢ Some kinds.Comma → ((p : GrammarPlace) → Stops text (StatementEnd p) b e)
    → Stops text (DeclName InInst) a e
inst_end_refused text a b ds e h no_comma stop =
    Stops-back text (DeclName InInst) (StatementEnd Header) a b e (decls_lead text a b ds h no_comma) (stop Header)

-- ---- the header

-- one more `inst` statement
pub header_more : (text : List ℕ) {a b c : List Token} {hs ds : List Decl}
    → DidRead text IsHeader Header Header a b hs → first_kind b ≡ Some (kinds.Word words.Inst)
    → DidRead text AreDecls (DeclName InInst) Header (others b) c ds
    → DidRead text IsHeader Header Header a c (hs ++ ds)
header_more text {a} {b} {c} {hs} {ds} h inst one =
    let word = (took text (kinds.Word words.Inst) b h.within inst).1 in
    let group = behind_read text AreDecls Header (DeclName InInst) Header word refl one in
    let all : hs ++ ds ≡ flat_map (λ g. g) (h.part.0 ++ ds ∷ []) = rw h.part.1 (ap (λ (x : List Decl). flat_map (λ g. g) h.part.0 ++ x) (sym (append-nil ds)) ∙ sym (flat_map-append (λ (g : List Decl). g) h.part.0 (ds ∷ []))) in
    record {
      part = (h.part.0 ++ ds ∷ [], all, AreMany-push (IsLedBy (Reserved words.Inst) AreDecls) (lexemes text a) h.part.0 (lexemes text b) ds (lexemes text c) h.part.2 group.part);
      within = group.within;
      shorter = omega (arith, h.shorter, group.shorter);
      leads = h.leads ∙ group.leads;
    }

-- a fault of an `inst` statement is a fault of the header
pub header_stops : (text : List ℕ) (a b : List Token) (hs : List Decl) (e : ParseFault)
    → DidRead text IsHeader Header Header a b hs → first_kind b ≡ Some (kinds.Word words.Inst)
    → Stops text (DeclName InInst) (others b) e → Stops text Header a e
header_stops text a b hs e h inst stop =
    Stops-back text Header (DeclName InInst) a (others b) e (h.leads ∙ leads_on text Header (DeclName InInst) (Reserved words.Inst) b (others b) (took text (kinds.Word words.Inst) b h.within inst).1 refl) stop

-- but for `inst`, before the sections stands what stands between them
alike-Header : (k : Kind) (bytes : List ℕ) → k ≢ kinds.Word words.Inst
    → next Header (symbol_of k bytes) ≡ next Sections (symbol_of k bytes)
alike-Header (kinds.Word words.Inst) bytes a = absurd (a refl)
alike-Header k bytes a = refl

-- behind the last `inst` statement the sections begin
pub header_read : (text : List ℕ) (a b : List Token) (hs : List Decl)
    → DidRead text IsHeader Header Header a b hs → first_kind b ≢ Some (kinds.Word words.Inst)
    → DidRead text IsHeader Header Sections a b hs
header_read text a b hs h no_inst = record {
  part = h.part;
  within = h.within;
  shorter = h.shorter;
  leads = h.leads ∙ fault_but text Header Sections (kinds.Word words.Inst) b alike-Header no_inst refl (λ len ls. refl) (λ len ls. refl);
}
