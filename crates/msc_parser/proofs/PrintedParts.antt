-- The printed parts of a draft are read as those parts: decls, events, coregions and items.
use Rattle.std.proofs.Common.{◌≡◌, ℕ, ◌≤◌, List, [], ◌∷◌, ◌++◌, length, Option, Some, None, refl, sym, ap, ◌∙◌, append_assoc, arith}
use Rattle.std.specs.Prelude.{IfSome}
use Rattle.std.specs.List.{flat_map, AllByRecursion}
use Rattle.std.proofs.lemmas.List.{append-nil}
use Rattle.msc_lexer.specs.declared.word.Word.TheVariants as words
use Rattle.msc_lexer.specs.Pieces.{Piece, Blank, Run, Quoted, Mark}
use Rattle.msc_lexer.specs.Lexemes.{Reserved, Comma, IsName, lexemes_of, PrintsPieces}
use Rattle.msc_parser.specs.declared.tree.Decl.{Decl}
use Rattle.msc_parser.specs.declared.tree.Signal.{Signal}
use Rattle.msc_parser.specs.declared.tree.Statement.{Statement}
use Rattle.msc_parser.specs.declared.tree.Statement.TheVariants.{Message, Action}
use Rattle.msc_parser.specs.Forms.{IsNamed, IsLedBy}
use Rattle.msc_parser.specs.Grammar.{Plain, IsKind, IsDecl, direction_word, address_word, IsNumber, AreParameters, Absent, Given, IsIdent, IsAction, IsMessage, IsEvent, IsHeader}
use Rattle.msc_parser.specs.Canonical.{word, space, line_end, kind_pieces, decl_pieces, next_decl_pieces, header_pieces, next_name_pieces, number_pieces, parameter_pieces, ident_pieces, address_pieces, signal_pieces, action_pieces, event_pieces}
use Rattle.msc_parser.specs.Drafts.{IsDeclNamed, IsSignalNamed, IsStatementNamed}
use Rattle.msc_parser.proofs.Printing.{StopsRun, IsPrintedAs, after_space, same_pieces, a_colon, a_comma, a_left_paren, a_right_paren, a_line_end, a_word, a_name, a_text, a_behind, PrintsEach, many_follow, a_many}

-- behind a name a kind, or what follows, goes on with no letter, digit or underscore
kind_stops : (ks : List (List ℕ)) (rest : List Piece) → StopsRun rest
    → StopsRun (kind_pieces ks ++ rest)
kind_stops [] rest stop = stop
kind_stops (k ∷ ks) rest stop = refl

-- the same of a message instance name
number_stops : (o : Option (List ℕ)) (rest : List Piece) → StopsRun rest
    → StopsRun (number_pieces o ++ rest)
number_stops None rest stop = stop
number_stops (Some n) rest stop = refl

-- the same of parameters
printed_parameters_stop : (ps : List (List ℕ)) (rest : List Piece) → StopsRun rest
    → StopsRun (parameter_pieces ps ++ rest)
printed_parameters_stop [] rest stop = stop
printed_parameters_stop (p ∷ ps) rest stop = refl

-- anything may follow
abbrev pub Anything : List Piece → Type 0
Anything rest = Unit {0}

module _ (laws : PrintsPieces) where
  -- ---- decls

  -- a name with a space before it
  spaced_name : (n : List ℕ) (rest : List Piece) → IsName n → StopsRun rest
      → IsPrintedAs IsNamed n (space ∷ Run n ∷ rest) rest
  spaced_name n rest named stop =
      after_space IsNamed n (Run n ∷ rest) rest (a_name laws n rest named stop)

  -- a kind is read again
  a_kind : (ks : List (List ℕ)) (rest : List Piece) → AllByRecursion IsName ks → length ks ≤ 2
      → StopsRun rest → IsPrintedAs IsKind ks (kind_pieces ks ++ rest) rest
  a_kind [] rest named short stop = record { reads = λ at. (at, refl); cut = λ c. c }
  a_kind (n ∷ []) rest named short stop =
      let name = spaced_name n rest named.0 stop in
      let colon = after_space _ tt (Mark 58 ∷ space ∷ Run n ∷ rest) (space ∷ Run n ∷ rest) (a_colon (space ∷ Run n ∷ rest)) in
      record {
        reads = λ at. let t = colon.reads at in let u = name.reads t.0 in (u.0, (lexemes_of t.0 (space ∷ Run n ∷ rest), lexemes_of u.0 rest, t.1, u.1, refl));
        cut = λ c. colon.cut (name.cut c);
      }
  a_kind (n ∷ m ∷ []) rest named short stop =
      let second = spaced_name m rest named.1.0 stop in
      let name = spaced_name n (space ∷ Run m ∷ rest) named.0 refl in
      let colon = after_space _ tt (Mark 58 ∷ space ∷ Run n ∷ space ∷ Run m ∷ rest) (space ∷ Run n ∷ space ∷ Run m ∷ rest) (a_colon (space ∷ Run n ∷ space ∷ Run m ∷ rest)) in
      record {
        reads = λ at. let t = colon.reads at in let u = name.reads t.0 in let v = second.reads u.0 in (v.0, (lexemes_of t.0 (space ∷ Run n ∷ space ∷ Run m ∷ rest), lexemes_of u.0 (space ∷ Run m ∷ rest), t.1, u.1, v.1));
        cut = λ c. colon.cut (name.cut (second.cut c));
      }
  a_kind (n ∷ m ∷ l ∷ ks) rest named short stop = absurd (omega (arith, short))

  -- a decl is read again
  pub a_decl : (d : Decl) (rest : List Piece) → IsDeclNamed d → StopsRun rest
      → IsPrintedAs IsDecl d (decl_pieces d ++ rest) rest
  a_decl d rest named stop =
      let kind = a_kind d.kind rest named.kind named.short stop in
      let name = a_name laws d.name (kind_pieces d.kind ++ rest) named.name (kind_stops d.kind rest stop) in
      record {
        reads = λ at. let t = name.reads at in let u = kind.reads t.0 in (u.0, (lexemes_of t.0 (kind_pieces d.kind ++ rest), t.1, u.1));
        cut = λ c. name.cut (kind.cut c);
      }

  -- each further decl is printed behind a comma
  each_decl : PrintsEach (IsLedBy Comma IsDecl) next_decl_pieces IsDeclNamed StopsRun
  each_decl = record {
    one = λ d rest named stop. a_behind Comma IsDecl d (Mark 44 ∷ space ∷ decl_pieces d ++ rest) (space ∷ decl_pieces d ++ rest) rest (a_comma (space ∷ decl_pieces d ++ rest)) (after_space IsDecl d (decl_pieces d ++ rest) rest (a_decl d rest named stop));
    follows = λ d rest. refl;
  }

  -- one line with all decls, or none
  pub a_header : (ds : List Decl) (rest : List Piece) → AllByRecursion IsDeclNamed ds
      → IsPrintedAs IsHeader ds (header_pieces ds ++ rest) rest
  a_header [] rest named = record { reads = λ at. (at, ([], refl, refl)); cut = λ c. c }
  a_header (d ∷ ds) rest named =
      let tail = flat_map next_decl_pieces ds ++ Mark 59 ∷ Blank 10 ∷ rest in
      let end = a_line_end rest in
      let many = a_many (IsLedBy Comma IsDecl) next_decl_pieces IsDeclNamed StopsRun each_decl ds (Mark 59 ∷ Blank 10 ∷ rest) named.1 refl in
      let first = after_space IsDecl d (decl_pieces d ++ tail) tail (a_decl d tail named.0 (many_follow (IsLedBy Comma IsDecl) next_decl_pieces IsDeclNamed StopsRun each_decl ds (Mark 59 ∷ Blank 10 ∷ rest) refl)) in
      let inst = a_word laws words.Inst (space ∷ decl_pieces d ++ tail) refl in
      let same : (decl_pieces d ++ (flat_map next_decl_pieces ds ++ line_end)) ++ rest ≡ decl_pieces d ++ tail = append_assoc (decl_pieces d) (flat_map next_decl_pieces ds ++ line_end) rest ∙ ap (λ (x : List Piece). decl_pieces d ++ x) (append_assoc (flat_map next_decl_pieces ds) line_end rest) in
      same_pieces IsHeader (d ∷ ds) (header_pieces (d ∷ ds) ++ rest) (word words.Inst ∷ space ∷ decl_pieces d ++ tail) rest (ap (λ (x : List Piece). word words.Inst ∷ space ∷ x) same) (record {
        reads = λ at.
            let t0 = inst.reads at in
            let t1 = first.reads t0.0 in
            let t2 = many.reads t1.0 in
            let t3 = end.reads t2.0 in
            (t3.0, ((d ∷ ds) ∷ [], sym (append-nil (d ∷ ds)), (lexemes_of t3.0 rest, (lexemes_of t0.0 (space ∷ decl_pieces d ++ tail), t0.1, (lexemes_of t2.0 (Mark 59 ∷ Blank 10 ∷ rest), (lexemes_of t1.0 tail, t1.1, t2.1), Plain t3.1)), refl)));
        cut = λ c. inst.cut (first.cut (many.cut (end.cut c)));
      })

  -- ---- events

  -- a message instance name is read again
  a_number : (o : Option (List ℕ)) (rest : List Piece) → IfSome o IsName → StopsRun rest
      → IsPrintedAs IsNumber o (number_pieces o ++ rest) rest
  a_number None rest named stop = record { reads = λ at. (at, refl); cut = λ c. c }
  a_number (Some n) rest named stop =
      let b = a_behind Comma IsNamed n (Mark 44 ∷ space ∷ Run n ∷ rest) (space ∷ Run n ∷ rest) rest (a_comma (space ∷ Run n ∷ rest)) (spaced_name n rest named stop) in
      record { reads = b.reads; cut = b.cut }

  -- each further parameter is printed behind a comma
  each_name : PrintsEach (IsLedBy Comma IsNamed) next_name_pieces IsName StopsRun
  each_name = record {
    one = λ n rest named stop. a_behind Comma IsNamed n (Mark 44 ∷ space ∷ Run n ∷ rest) (space ∷ Run n ∷ rest) rest (a_comma (space ∷ Run n ∷ rest)) (spaced_name n rest named stop);
    follows = λ n rest. refl;
  }

  -- parameters are read again
  some_parameters : (ps : List (List ℕ)) (rest : List Piece) → AllByRecursion IsName ps
      → IsPrintedAs AreParameters ps (parameter_pieces ps ++ rest) rest
  some_parameters [] rest named = record { reads = λ at. (at, Absent refl refl); cut = λ c. c }
  some_parameters (p ∷ ps) rest named =
      let tail = flat_map next_name_pieces ps ++ Mark 41 ∷ rest in
      let close = a_right_paren rest in
      let many = a_many (IsLedBy Comma IsNamed) next_name_pieces IsName StopsRun each_name ps (Mark 41 ∷ rest) named.1 refl in
      let first = a_name laws p tail named.0 (many_follow (IsLedBy Comma IsNamed) next_name_pieces IsName StopsRun each_name ps (Mark 41 ∷ rest) refl) in
      let paren = a_left_paren (Run p ∷ tail) in
      let same : (flat_map next_name_pieces ps ++ Mark 41 ∷ []) ++ rest ≡ tail = append_assoc (flat_map next_name_pieces ps) (Mark 41 ∷ []) rest in
      same_pieces AreParameters (p ∷ ps) (parameter_pieces (p ∷ ps) ++ rest) (Mark 40 ∷ Run p ∷ tail) rest (ap (λ (x : List Piece). Mark 40 ∷ Run p ∷ x) same) (record {
        reads = λ at.
            let t0 = paren.reads at in
            let t1 = first.reads t0.0 in
            let t2 = many.reads t1.0 in
            let t3 = close.reads t2.0 in
            (t3.0, Given (lexemes_of t0.0 (Run p ∷ tail)) (lexemes_of t2.0 (Mark 41 ∷ rest)) t0.1 (lexemes_of t1.0 tail, t1.1, t2.1) t3.1);
        cut = λ c. paren.cut (first.cut (many.cut (close.cut c)));
      })

  -- an ident is read again
  an_ident : (e : Signal) (rest : List Piece) → IsSignalNamed e → StopsRun rest
      → IsPrintedAs IsIdent e (ident_pieces e ++ rest) rest
  an_ident e rest named stop =
      let after = parameter_pieces e.parameters ++ rest in
      let parameters = some_parameters e.parameters rest named.parameters in
      let stops = printed_parameters_stop e.parameters rest stop in
      let number = a_number e.number after named.number stops in
      let name = a_name laws e.name (number_pieces e.number ++ after) named.name (number_stops e.number after stops) in
      let same : (number_pieces e.number ++ parameter_pieces e.parameters) ++ rest ≡ number_pieces e.number ++ after = append_assoc (number_pieces e.number) (parameter_pieces e.parameters) rest in
      same_pieces IsIdent e (ident_pieces e ++ rest) (Run e.name ∷ number_pieces e.number ++ after) rest (ap (λ (x : List Piece). Run e.name ∷ x) same) (record {
        reads = λ at.
            let t0 = name.reads at in
            let t1 = number.reads t0.0 in
            let t2 = parameters.reads t1.0 in
            (t2.0, record { number = lexemes_of t0.0 (number_pieces e.number ++ after); parameters = lexemes_of t1.0 after; is_name = t0.1; is_number = t1.1; are_parameters = t2.1 });
        cut = λ c. name.cut (number.cut (parameters.cut c));
      })

  -- a message event is read again
  a_message : (e : Signal) (rest : List Piece) → IsSignalNamed e
      → IsPrintedAs IsMessage e (signal_pieces e ++ rest) rest
  a_message e rest named =
      let last = Mark 59 ∷ Blank 10 ∷ rest in
      let target = Run e.address ∷ last in
      let after = space ∷ word (address_word e.direction) ∷ space ∷ target in
      let end = a_line_end rest in
      let address = spaced_name e.address last named.address refl in
      let partner = after_space _ tt (word (address_word e.direction) ∷ space ∷ target) (space ∷ target) (a_word laws (address_word e.direction) (space ∷ target) refl) in
      let ident = after_space IsIdent e (ident_pieces e ++ after) after (an_ident e after named refl) in
      let direction = a_word laws (direction_word e.direction) (space ∷ ident_pieces e ++ after) refl in
      let same : (ident_pieces e ++ address_pieces e) ++ rest ≡ ident_pieces e ++ after = append_assoc (ident_pieces e) (address_pieces e) rest in
      same_pieces IsMessage e (signal_pieces e ++ rest) (word (direction_word e.direction) ∷ space ∷ ident_pieces e ++ after) rest (ap (λ (x : List Piece). word (direction_word e.direction) ∷ space ∷ x) same) (record {
        reads = λ at.
            let t0 = direction.reads at in
            let t1 = ident.reads t0.0 in
            let t2 = partner.reads t1.0 in
            let t3 = address.reads t2.0 in
            let t4 = end.reads t3.0 in
            (t4.0, (lexemes_of t0.0 (space ∷ ident_pieces e ++ after), t0.1, record { word = lexemes_of t1.0 after; address = lexemes_of t2.0 (space ∷ target); close = lexemes_of t3.0 last; is_ident = t1.1; is_word = t2.1; is_address = t3.1; is_end = Plain t4.1 }));
        cut = λ c. direction.cut (ident.cut (partner.cut (address.cut (end.cut c))));
      })

  -- an action is read again, whatever its text
  an_action : (l : List ℕ) (rest : List Piece)
      → IsPrintedAs (IsLedBy (Reserved words.Action) IsAction) l (action_pieces l ++ rest) rest
  an_action l rest =
      let last = Mark 59 ∷ Blank 10 ∷ rest in
      let end = a_line_end rest in
      let text = after_space _ tt (Quoted l ∷ last) last (a_text laws l last refl) in
      let action = a_word laws words.Action (space ∷ Quoted l ∷ last) refl in
      record {
        reads = λ at.
            let t0 = action.reads at in
            let t1 = text.reads t0.0 in
            let t2 = end.reads t1.0 in
            (t2.0, (lexemes_of t0.0 (space ∷ Quoted l ∷ last), t0.1, record { close = lexemes_of t1.0 last; is_text = t1.1; is_end = Plain t2.1 }));
        cut = λ c. action.cut (text.cut (end.cut c));
      }

  -- an event is read again
  pub an_event : (x : Statement) (rest : List Piece) → IsStatementNamed x
      → IsPrintedAs IsEvent x (event_pieces x ++ rest) rest
  an_event (Message e) rest named =
      let p = a_message e rest named in record { reads = p.reads; cut = p.cut }
  an_event (Action l) rest named =
      let p = an_action l rest in record { reads = p.reads; cut = p.cut }
