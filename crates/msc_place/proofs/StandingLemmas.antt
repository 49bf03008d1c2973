-- What is collected from the tokens of a draft's text are the places of its parts.
use Rattle.std.proofs.Common.{◌≡◌, ℕ, ◌≤◌, List, [], ◌∷◌, ◌++◌, length, Option, Some, MatchOption, slice_get, refl, sym, ap, subst, ◌∙◌}
use Rattle.msc_lexer.specs.declared.word.Word.TheVariants as words
use Rattle.msc_lexer.specs.declared.token.Token.{Token}
use Rattle.msc_lexer.specs.Lexemes.{Reserved, Lexeme, lexemes}
use Rattle.msc_lexer.specs.Lexing.{HasTokens}
use Rattle.msc_parser.specs.declared.tree.Statement.{Statement}
use Rattle.msc_parser.specs.declared.tree.Statement.TheVariants.{Message, Action}
use Rattle.msc_parser.specs.declared.tree.Section.{Section}
use Rattle.msc_parser.specs.Drafts.{statements_of}
use Rattle.msc_parser.specs.Forms.{AreMany}
use Rattle.msc_parser.specs.Grammar.{Tree, IsEvent, IsSection, IsChart}
use Rattle.msc_parser.specs.Parsing.{HasDraft}
use Rattle.msc_place.specs.declared.places.EventPlace.{EventPlace}
use Rattle.msc_place.specs.declared.naming.Part.TheVariants.{Header, Sections}
use Rattle.msc_place.specs.Standing.{begins_event, begins_section, leads_decl, tokens_with, IsStatement, NamesAddress, HasNoAddress, IsEventPlace, NamesSection, NamesDecl, Stand, HasPlaces}
use Rattle.msc_place.specs.Collecting.{collected, never, second_place, event_place, event_places, name_places}
use Rattle.msc_place.proofs.Collected.{collected_nil, collected_stopped}
use Rattle.msc_place.proofs.Walks.{Found, found_all, collected_gap, match_weaker}
use Rattle.msc_place.proofs.EventWalks.{ReadsEvent, chart_events}
use Rattle.msc_place.proofs.SectionWalks.{ReadsSection, chart_sections}
use Rattle.msc_place.proofs.HeaderWalks.{ReadsDecl, chart_header, behind_header}
use Rattle.msc_place.proofs.EventParts.{HasAddress, semicolon_at, event_parts}

module _ (text : List ℕ) (t : Tree) (tokens : List Token) (have : HasTokens text tokens) where
  abbrev seen : List Lexeme
  seen = lexemes text tokens

  -- an event that was found has its statement there
  statement_at : (e : ℕ) (event : Statement) (front b own after : List Lexeme)
      → seen ≡ front ++ b → b ≡ own ++ after
      → slice_get (statements_of t.sections) e ≡ Some event
      → tokens_with begins_event front ≡ e → IsEvent b event after
      → IsStatement text t e event front own after
  statement_at e event front b own after whole parts listed earlier is_event = record {
    whole = record { tokens = tokens; have = have; seen = whole ∙ ap (λ ls. front ++ ls) parts };
    earlier = earlier;
    listed = listed;
    is_event = subst (λ ls. IsEvent ls event after) parts is_event;
  }

  -- its address
  address_at : (e : ℕ) (event : Statement) (front own after : List Lexeme) (o : Option ℕ)
      → IsStatement text t e event front own after → HasAddress event own o
      → MatchOption o (HasNoAddress t e) (NamesAddress text t e)
  address_at e (Message s) front own after o h a =
      let named : NamesAddress text t e a.2 = record {
        event = s;
        front = front;
        lead = a.0;
        word = a.1;
        close = a.3;
        after = after;
        statement = subst (λ ls. IsStatement text t e (Message s) front ls after) a.4 h;
      } in
      subst (λ x. MatchOption x (HasNoAddress t e) (NamesAddress text t e)) (sym a.5) named
  address_at e (Action l) front own after o h a =
      subst (λ x. MatchOption x (HasNoAddress t e) (NamesAddress text t e)) (sym a) (record { label = l; listed = h.listed })

  -- the place that was collected of an event is where it stands
  event_stands : (e : ℕ) (p : EventPlace)
      → Found begins_event never ReadsEvent event_place seen (statements_of t.sections) e p
      → IsEventPlace text t e p
  event_stands e p f =
      let b = f.first ∷ f.rest in let after = f.is_one.0 in
      let parts = event_parts b after f.element f.is_one.1 in
      let own = parts.first ∷ parts.inner ++ semicolon_at parts.last ∷ [] in
      let statement = statement_at e f.element f.front b own after f.whole parts.whole f.listed f.earlier f.is_one.1 in
      let stands : IsEventPlace text t e (event_place b) = record {
        start = record {
          event = f.element;
          front = f.front;
          first = parts.first;
          rest = parts.inner ++ semicolon_at parts.last ∷ [];
          after = after;
          statement = statement;
          place = parts.start_is;
        };
        «end» = record {
          event = f.element;
          front = f.front;
          body = parts.first ∷ parts.inner;
          last = parts.last;
          after = after;
          statement = statement;
          place = parts.end_is;
        };
        address = address_at e f.element f.front own after _ statement parts.address;
      } in
      subst (IsEventPlace text t e) (sym f.is) stands

  -- the place that was collected of a section is where its name stands
  section_stands : (i p : ℕ)
      → Found begins_section never ReadsSection second_place seen t.sections i p
      → NamesSection text t i p
  section_stands i p f =
      let h = f.is_one.1 in let name = h.2.is_decl.1 in
      let begins = h.1.1 ∙ ap (λ ls. record { symbol = Reserved words.Instance; place = h.1.0 } ∷ ls) name.1 in
      let stands : NamesSection text t i name.0 = record {
        section = f.element;
        front = f.front;
        word = h.1.0;
        rest = h.2.is_decl.0;
        after = f.is_one.0;
        own = f.first ∷ f.rest;
        begins = begins;
        whole = record { tokens = tokens; have = have; seen = f.whole };
        earlier = f.earlier;
        listed = f.listed;
        is_section = h;
      } in
      subst (NamesSection text t i) (sym (f.is ∙ ap second_place begins)) stands

  -- the place that was collected of a decl is where its name stands
  decl_stands : (k p : ℕ)
      → Found leads_decl begins_section ReadsDecl second_place seen t.header k p
      → NamesDecl text t k p
  decl_stands k p f =
      let h = f.is_one.1 in let name = h.1 in
      let begins = ap (λ ls. f.first ∷ ls) name.1 in
      let stands : NamesDecl text t k name.0 = record {
        decl = f.element;
        front = f.front;
        lead = f.first;
        rest = h.0;
        after = f.is_one.0;
        whole = record { tokens = tokens; have = have; seen = f.whole ∙ ap (λ ls. f.front ++ ls) begins };
        behind = f.led;
        earlier = f.earlier;
        no_section = f.on;
        listed = f.listed;
        is_decl = (h.0, (name.0, refl), h.2);
      } in
      subst (NamesDecl text t k) (sym (f.is ∙ ap second_place begins)) stands

-- no decl stands in sections
no_decls : (b a : List Lexeme) (ss : List Section) → AreMany IsSection b ss a
    → collected leads_decl begins_section second_place a ≡ []
    → collected leads_decl begins_section second_place b ≡ []
no_decls b a [] h none = ap (collected leads_decl begins_section second_place) h ∙ none
no_decls b a (s ∷ ss) h none =
    ap (collected leads_decl begins_section second_place) h.1.1.1 ∙ collected_stopped leads_decl begins_section second_place _ h.1.0 refl

-- nothing is collected behind the header
header_ends : (ls : List Lexeme) (t : Tree) (h : IsChart ls t)
    → collected leads_decl begins_section second_place h.sections ≡ []
header_ends ls t h =
    let behind = behind_header ls t h in
    let none = ap (collected leads_decl begins_section second_place) behind.whole ∙ collected_gap leads_decl begins_section ReadsDecl second_place behind.gap [] behind.fails ∙ collected_nil leads_decl begins_section second_place in
    no_decls h.sections h.last t.sections h.are_sections none

-- what is collected from the tokens of a text are the places of its draft's parts
pub all_stand : (text : List ℕ) (tokens : List Token) (p : Stand)
    → ((ts : List Token) → HasTokens text ts → tokens ≡ ts)
    → p.events ≡ event_places (lexemes text tokens)
    → p.sections ≡ name_places Sections (lexemes text tokens)
    → p.header ≡ name_places Header (lexemes text tokens)
    → (t : Tree) → HasDraft text t → HasPlaces text t p
all_stand text tokens p only events sections header t d =
    let ts = d.0 in let ls = lexemes text ts in let h = d.2 in
    let same = ap (lexemes text) (only ts d.1) in
    let es = statements_of t.sections in
    let found_events = found_all begins_event never ReadsEvent event_place es ls [] (chart_events ls t h) (collected_nil begins_event never event_place) in
    let found_sections = found_all begins_section never ReadsSection second_place t.sections ls [] (chart_sections ls t h) (collected_nil begins_section never second_place) in
    let found_header = found_all leads_decl begins_section ReadsDecl second_place t.header ls h.sections (chart_header ls t h) (header_ends ls t h) in
    record {
      events = λ e.
          subst (λ ps. MatchOption (slice_get ps e) (length es ≤ e) (IsEventPlace text t e)) (sym (events ∙ ap event_places same))
          (match_weaker (slice_get (event_places ls) e) _ _ _ _ (λ le. le) (event_stands text t ts d.1 e) (found_events e));
      sections = λ i.
          subst (λ ps. MatchOption (slice_get ps i) (length t.sections ≤ i) (NamesSection text t i)) (sym (sections ∙ ap (name_places Sections) same))
          (match_weaker (slice_get (name_places Sections ls) i) _ _ _ _ (λ le. le) (section_stands text t ts d.1 i) (found_sections i));
      header = λ k.
          subst (λ ps. MatchOption (slice_get ps k) (length t.header ≤ k) (NamesDecl text t k)) (sym (header ∙ ap (name_places Header) same))
          (match_weaker (slice_get (name_places Header ls) k) _ _ _ _ (λ le. le) (decl_stands text t ts d.1 k) (found_header k));
    }
