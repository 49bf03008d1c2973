-- What is written of a draft is read again as that draft.
use Rattle.std.proofs.Common.{◌≡◌, ℕ, ◌≤◌, List, [], ◌∷◌, ◌++◌, length, Option, None, Some, Result, Ok, Err, Vec, Global, refl, sym, ap, subst, ◌∙◌, append_assoc}
use Rattle.std.specs.Prelude.{IfOk}
use Rattle.std.specs.List.{flat_map, AllByRecursion}
use Rattle.std.specs.declared.alloc.AllocError.{AllocError}
use Rattle.msc_lexer.specs.declared.TheConstants.{TEXT_LIMIT}
use Rattle.msc_lexer.specs.declared.word.Word.TheVariants as words
use Rattle.msc_lexer.specs.Pieces.{Piece, Blank, Run, Quoted, Mark, AreCut, tokens_of}
use Rattle.msc_lexer.specs.Lexemes.{Reserved, Semicolon, Lexeme, lexemes_of, PrintsPieces}
use Rattle.msc_parser.specs.declared.tree.Statement.{Statement}
use Rattle.msc_parser.specs.declared.tree.Item.{Item}
use Rattle.msc_parser.specs.declared.tree.Item.TheVariants.{Single, Coregion}
use Rattle.msc_parser.specs.declared.tree.Section.{Section}
use Rattle.msc_parser.specs.Forms.{IsLedBy}
use Rattle.msc_parser.specs.Grammar.{Tree, IsEnd, Plain, Commented, IsEvent, IsCoregion, IsItem, IsSection, IsChart}
use Rattle.msc_parser.specs.Parsing.{HasDraft}
use Rattle.msc_parser.specs.Canonical.{word, space, line_end, decl_pieces, header_pieces, event_pieces, inner_pieces, coregion_pieces, item_pieces, section_pieces, first_end, printed_with, canonical_with}
use Rattle.msc_parser.specs.Drafts.{IsStatementNamed, IsItemNamed, IsSectionNamed, IsDraft}
use Rattle.msc_parser.proofs.Printing.{IsPrintedAs, IsOnly, StopsRun, after_space, same_pieces, a_line_end, a_word, a_name, a_text, PrintsEach, a_many}
use Rattle.msc_parser.proofs.PrintedParts.{Anything, a_decl, a_header, an_event}

-- nothing stands behind the last line
last_line : (to : ℕ) (b : List Lexeme) → IsOnly Semicolon b tt (lexemes_of to []) → IsEnd b []
unfolding lexemes_of
last_line to b h = Plain h

-- the end of a statement and no value
abbrev IsOnlyEnd : List Lexeme → Unit {0} → List Lexeme → Type 0
IsOnlyEnd before x after = IsEnd before after

module _ (laws : PrintsPieces) where
  -- ---- coregions and items

  -- each event of a coregion is printed in its own line
  each_event : PrintsEach IsEvent inner_pieces IsStatementNamed Anything
  each_event = record {
    one = λ e rest named any.
        after_space IsEvent e (space ∷ space ∷ space ∷ event_pieces e ++ rest) rest (after_space IsEvent e (space ∷ space ∷ event_pieces e ++ rest) rest (after_space IsEvent e (space ∷ event_pieces e ++ rest) rest (after_space IsEvent e (event_pieces e ++ rest) rest (an_event laws e rest named))));
    follows = λ e rest. tt;
  }

  -- a coregion is read again
  a_coregion : (es : List Statement) (rest : List Piece) → AllByRecursion IsStatementNamed es
      → IsPrintedAs (IsLedBy (Reserved words.Concurrent) IsCoregion) es (coregion_pieces es ++ rest) rest
  a_coregion es rest named =
      let close = Mark 59 ∷ Blank 10 ∷ rest in
      let last = space ∷ space ∷ word words.EndConcurrent ∷ close in
      let body = flat_map inner_pieces es ++ last in
      let first = Mark 59 ∷ Blank 10 ∷ body in
      let last_end = a_line_end rest in
      let end_word = after_space _ tt (space ∷ word words.EndConcurrent ∷ close) close (after_space _ tt (word words.EndConcurrent ∷ close) close (a_word laws words.EndConcurrent close refl)) in
      let many = a_many IsEvent inner_pieces IsStatementNamed Anything each_event es last named tt in
      let end = a_line_end body in
      let start = after_space _ tt (space ∷ word words.Concurrent ∷ first) first (after_space _ tt (word words.Concurrent ∷ first) first (a_word laws words.Concurrent first refl)) in
      let same : (flat_map inner_pieces es ++ (space ∷ space ∷ word words.EndConcurrent ∷ line_end)) ++ rest ≡ body = append_assoc (flat_map inner_pieces es) (space ∷ space ∷ word words.EndConcurrent ∷ line_end) rest in
      same_pieces (IsLedBy (Reserved words.Concurrent) IsCoregion) es (coregion_pieces es ++ rest) (space ∷ space ∷ word words.Concurrent ∷ first) rest (ap (λ (x : List Piece). space ∷ space ∷ word words.Concurrent ∷ Mark 59 ∷ Blank 10 ∷ x) same) (record {
        reads = λ at.
            let t0 = start.reads at in
            let t1 = end.reads t0.0 in
            let t2 = many.reads t1.0 in
            let t3 = end_word.reads t2.0 in
            let t4 = last_end.reads t3.0 in
            (t4.0, (lexemes_of t0.0 first, t0.1, record { events = lexemes_of t1.0 body; last = lexemes_of t2.0 last; close = lexemes_of t3.0 close; is_end = Plain t1.1; are_events = t2.1; is_endconcurrent = t3.1; is_last_end = Plain t4.1 }));
        cut = λ c. start.cut (end.cut (many.cut (end_word.cut (last_end.cut c))));
      })

  -- an item is read again
  an_item : (x : Item) (rest : List Piece) → IsItemNamed x
      → IsPrintedAs IsItem x (item_pieces x ++ rest) rest
  an_item (Single e) rest named =
      let p = after_space IsEvent e (space ∷ event_pieces e ++ rest) rest (after_space IsEvent e (event_pieces e ++ rest) rest (an_event laws e rest named)) in
      record { reads = p.reads; cut = p.cut }
  an_item (Coregion es) rest named =
      let p = a_coregion es rest named in record { reads = p.reads; cut = p.cut }

  -- each item is printed in its own lines
  each_item : PrintsEach IsItem item_pieces IsItemNamed Anything
  each_item = record { one = λ x rest named any. an_item x rest named; follows = λ x rest. tt }

  -- ---- sections and the chart

  -- a section is read again
  a_section : (s : Section) (rest : List Piece) → IsSectionNamed s
      → IsPrintedAs IsSection s (section_pieces s ++ rest) rest
  a_section s rest named =
      let close = Mark 59 ∷ Blank 10 ∷ rest in
      let last = word words.EndInstance ∷ close in
      let body = flat_map item_pieces s.items ++ last in
      let head = Mark 59 ∷ Blank 10 ∷ body in
      let last_end = a_line_end rest in
      let end_word = a_word laws words.EndInstance close refl in
      let many = a_many IsItem item_pieces IsItemNamed Anything each_item s.items last named.items tt in
      let end = a_line_end body in
      let decl = after_space _ s.decl (decl_pieces s.decl ++ head) head (a_decl laws s.decl head named.decl refl) in
      let start = a_word laws words.Instance (space ∷ decl_pieces s.decl ++ head) refl in
      let inside : (flat_map item_pieces s.items ++ (word words.EndInstance ∷ line_end)) ++ rest ≡ body = append_assoc (flat_map item_pieces s.items) (word words.EndInstance ∷ line_end) rest in
      let same : (decl_pieces s.decl ++ (line_end ++ (flat_map item_pieces s.items ++ (word words.EndInstance ∷ line_end)))) ++ rest ≡ decl_pieces s.decl ++ head =
      append_assoc (decl_pieces s.decl) (line_end ++ (flat_map item_pieces s.items ++ (word words.EndInstance ∷ line_end))) rest ∙ ap (λ (x : List Piece). decl_pieces s.decl ++ Mark 59 ∷ Blank 10 ∷ x) inside in
      same_pieces IsSection s (section_pieces s ++ rest) (word words.Instance ∷ space ∷ decl_pieces s.decl ++ head) rest (ap (λ (x : List Piece). word words.Instance ∷ space ∷ x) same) (record {
        reads = λ at.
            let t0 = start.reads at in
            let t1 = decl.reads t0.0 in
            let t2 = end.reads t1.0 in
            let t3 = many.reads t2.0 in
            let t4 = end_word.reads t3.0 in
            let t5 = last_end.reads t4.0 in (
              t5.0,
              (
                lexemes_of t0.0 (space ∷ decl_pieces s.decl ++ head),
                t0.1,
                record {
                  close = lexemes_of t1.0 head;
                  items = lexemes_of t2.0 body;
                  last = lexemes_of t3.0 last;
                  last_close = lexemes_of t4.0 close;
                  is_decl = t1.1;
                  is_end = Plain t2.1;
                  are_items = t3.1;
                  is_endinstance = t4.1;
                  is_last_end = Plain t5.1;
                },
              ),
            );
        cut = λ c. start.cut (decl.cut (end.cut (many.cut (end_word.cut (last_end.cut c)))));
      })

  -- each section is printed in its own lines
  each_section : PrintsEach IsSection section_pieces IsSectionNamed Anything
  each_section = record { one = λ s rest named any. a_section s rest named; follows = λ s rest. tt }

  -- the end of the first line is read again, whatever its comment
  a_first_end : (comment : Option (List ℕ)) (rest : List Piece)
      → IsPrintedAs IsOnlyEnd tt (first_end comment ++ rest) rest
  a_first_end None rest =
      let end = a_line_end rest in
      record { reads = λ at. let t = end.reads at in (t.0, Plain t.1); cut = end.cut }
  a_first_end (Some comment) rest =
      let close = Mark 59 ∷ Blank 10 ∷ rest in
      let end = a_line_end rest in
      let text = after_space _ tt (Quoted comment ∷ close) close (a_text laws comment close refl) in
      let start = after_space _ tt (word words.Comment ∷ space ∷ Quoted comment ∷ close) (space ∷ Quoted comment ∷ close) (a_word laws words.Comment (space ∷ Quoted comment ∷ close) refl) in
      record {
        reads = λ at.
            let t0 = start.reads at in
            let t1 = text.reads t0.0 in
            let t2 = end.reads t1.0 in
            (t2.0, Commented comment (lexemes_of t0.0 (space ∷ Quoted comment ∷ close)) (lexemes_of t1.0 close) t0.1 t1.1 t2.1);
        cut = λ c. start.cut (text.cut (end.cut c));
      }

  -- no letter, digit or underscore begins it
  first_end_stops : (comment : Option (List ℕ)) (rest : List Piece) → StopsRun (first_end comment ++ rest)
  first_end_stops None rest = refl
  first_end_stops (Some comment) rest = refl

  -- the printed tokens are the chart, and the printed pieces are cut
  a_chart : (comment : Option (List ℕ)) (t : Tree) → IsDraft t
      → IsChart (lexemes_of 0 (printed_with comment t)) t × AreCut (printed_with comment t) []
  a_chart comment t named =
      let last = word words.EndMsc ∷ line_end in
      let sections = flat_map section_pieces t.sections ++ last in
      let header = header_pieces t.header ++ sections in
      let head = first_end comment ++ header in
      let p0 = a_word laws words.Msc (space ∷ Run t.name ∷ head) refl in
      let p1 = after_space _ t.name (Run t.name ∷ head) head (a_name laws t.name head named.name (first_end_stops comment header)) in
      let p2 = a_first_end comment header in
      let p3 = a_header laws t.header sections named.header in
      let p4 = a_many IsSection section_pieces IsSectionNamed Anything each_section t.sections last named.sections tt in
      let p5 = a_word laws words.EndMsc line_end refl in
      let p6 = a_line_end [] in
      let t0 = p0.reads 0 in
      let t1 = p1.reads t0.0 in
      let t2 = p2.reads t1.0 in
      let t3 = p3.reads t2.0 in
      let t4 = p4.reads t3.0 in
      let t5 = p5.reads t4.0 in
      let t6 = p6.reads t5.0 in (
        record {
          name = lexemes_of t0.0 (space ∷ Run t.name ∷ head);
          close = lexemes_of t1.0 head;
          header = lexemes_of t2.0 header;
          sections = lexemes_of t3.0 sections;
          last = lexemes_of t4.0 last;
          last_close = lexemes_of t5.0 line_end;
          is_msc = t0.1;
          is_name = t1.1;
          is_end = t2.1;
          is_header = t3.1;
          are_sections = t4.1;
          is_endmsc = t5.1;
          is_last_end = last_line t6.0 (lexemes_of t5.0 line_end) t6.1;
        },
        p0.cut (p1.cut (p2.cut (p3.cut (p4.cut (p5.cut (p6.cut tt)))))),
      )

  -- what is written is a text of the draft, where it is short enough
  written_again : (comment : Option (List ℕ)) (t : Tree) → IsDraft t
      → length (canonical_with comment t) ≤ TEXT_LIMIT → HasDraft (canonical_with comment t) t
  written_again comment t named short =
      let c = a_chart comment t named in (
        tokens_of 0 (printed_with comment t),
        record { pieces = printed_with comment t; short = short; whole = refl; cut = c.1; made = refl },
        subst (λ (ls : List Lexeme). IsChart ls t) (sym (laws.seen (printed_with comment t))) c.0,
      )

  -- the text that was written is a text of the draft
  pub again : (comment : Option (List ℕ)) (t : Tree) (r : Result (Vec ℕ Global) AllocError)
      → IsDraft t → IfOk r (λ v. v.items ≡ canonical_with comment t)
      → IfOk r (λ v. length v.items ≤ TEXT_LIMIT → HasDraft v.items t)
  again comment t (Ok v) named text =
      λ short. subst (λ (x : List ℕ). HasDraft x t) (sym text) (written_again comment t named (subst (λ (x : List ℕ). length x ≤ TEXT_LIMIT) text short))
  again comment t (Err e) named text = tt
