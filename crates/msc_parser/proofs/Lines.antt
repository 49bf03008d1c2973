-- Events, coregions, items and sections are read.
use Rattle.std.proofs.Common.{◌≡◌, ◌≢◌, ℕ, ◌<◌, ◌≤◌, List, [], ◌∷◌, ◌++◌, length, Option, Some, None, Result, Ok, Err, refl, ap, ◌∙◌, arith}
use Rattle.std.specs.Borrow.{Bor}
use Rattle.msc_lexer.specs.declared.word.Word.TheVariants as words
use Rattle.msc_lexer.specs.declared.token.Kind.{Kind}
use Rattle.msc_lexer.specs.declared.token.Kind.TheVariants as kinds
use Rattle.msc_lexer.specs.declared.token.Token.{Token}
use Rattle.msc_lexer.specs.Lexemes.{Reserved, Lexeme, lexemes, symbol_of, AreWithin}
use Rattle.msc_parser.specs.declared.tree.Direction.TheVariants as directions
use Rattle.msc_parser.specs.declared.tree.Decl.{Decl}
use Rattle.msc_parser.specs.declared.tree.Statement.{Statement}
use Rattle.msc_parser.specs.declared.tree.Statement.TheVariants as statements
use Rattle.msc_parser.specs.declared.opening.Opening.{Opening}
use Rattle.msc_parser.specs.declared.opening.Opening.TheVariants as openings
use Rattle.msc_parser.specs.declared.tree.Item.{Item}
use Rattle.msc_parser.specs.declared.tree.Item.TheVariants.{Single, Coregion}
use Rattle.msc_parser.specs.declared.tree.Section.{Section}
use Rattle.msc_parser.specs.declared.fault.What.TheVariants as whats
use Rattle.msc_parser.specs.declared.fault.ParseFault.{ParseFault}
use Rattle.msc_parser.specs.Forms.{IsToken, AreMany}
use Rattle.msc_parser.specs.Grammar.{IsDecl, IsEvent, IsCoregion, IsItem, IsInstance, IsSection}
use Rattle.msc_parser.specs.Places.{InInstance, GrammarPlace, Items, Events, Sections, DeclName, DeclEnd, StatementEnd, next}
use Rattle.msc_parser.specs.Parsing.{fault_at}
use Rattle.msc_parser.specs.Reading.{first_kind, fault_from, Stops, DidTake, Refuses, DidEnd, DidRead, Reads, Uses, opening_word, behind_opening, IsOpened, AreUpTo}
use Rattle.msc_parser.proofs.Leading.{LeadsToEvents, item_leads, event_leads}
use Rattle.msc_parser.proofs.Steps.{others, took, leads_on, same_fault, IsStuck, stops_here, Stops-back}
use Rattle.msc_parser.proofs.Endings.{stuck_but_two}
use Rattle.msc_parser.proofs.Parts.{behind_read, many_more}

-- a kind, as the first of some tokens
some_kind : Kind → Option Kind
some_kind k = Some k

-- no event begins here
abbrev pub NoEvent : List Token → Type 0
NoEvent tokens = (o : Opening) → first_kind tokens ≢ Some (kinds.Word (opening_word o))

-- ---- events

-- in a coregion only `out`, `in`, `action` and `endconcurrent` may stand
only-Events : (k : Kind) (bytes : List ℕ)
    → ((o : Opening) → k ≢ kinds.Word (opening_word o))
    → k ≢ kinds.Word words.EndConcurrent → next Events (symbol_of k bytes) ≡ None
only-Events (kinds.Word words.Output) bytes no_event c =
    absurd (no_event (openings.Message directions.Output) refl)
only-Events (kinds.Word words.Input) bytes no_event c =
    absurd (no_event (openings.Message directions.Input) refl)
only-Events (kinds.Word words.Action) bytes no_event c = absurd (no_event openings.Action refl)
only-Events (kinds.Word words.EndConcurrent) bytes no_event c = absurd (c refl)
only-Events k bytes no_event c = refl

-- none of these stands here
stuck_in_coregion : (text : List ℕ) (a : List Token) → NoEvent a
    → first_kind a ≢ Some (kinds.Word words.EndConcurrent) → IsStuck text Events a
unfolding some_kind
stuck_in_coregion text [] no_event no_end = tt
stuck_in_coregion text (t ∷ ts) no_event no_end =
    only-Events t.kind _ (λ o e. no_event o (ap some_kind e)) (λ e. no_end (ap some_kind e))

-- neither an event nor `endconcurrent` stands here
pub event_refused : (text : List ℕ) (a : List Token) (e : ParseFault) → NoEvent a
    → first_kind a ≢ Some (kinds.Word words.EndConcurrent)
    → e ≡ fault_at (length text) whats.Event (lexemes text a) → Stops text Events a e
event_refused text a e no_event no_end fault =
    stops_here text Events whats.Event a e (λ len ls. refl) (stuck_in_coregion text a no_event no_end) refl fault

-- the first word of an event leads to what follows it
first_word : (text : List ℕ) (o : Opening) (a : List Token) → AreWithin text a
    → first_kind a ≡ Some (kinds.Word (opening_word o))
    → DidTake text (Reserved (opening_word o)) a (others a)
first_word text o a within first = (took text (kinds.Word (opening_word o)) a within first).1

-- an event is its first word and what follows
put_together : (o : Opening) (b m a : List Lexeme) (x : Statement)
    → IsToken (Reserved (opening_word o)) b m → IsOpened o m x a → IsEvent b x a
put_together (openings.Message w) b m a (statements.Message e) t h = (m, rw h.0 t, h.1)
put_together (openings.Message w) b m a (statements.Action l) t h = absurd h
put_together openings.Action b m a (statements.Message e) t h = absurd h
put_together openings.Action b m a (statements.Action l) t h = (m, t, h)

-- an event behind its first word that was read is an event that was read
pub event_read : (text : List ℕ) (o : Opening) (p : GrammarPlace) (a b : List Token) (x : Statement)
    → AreWithin text a → first_kind a ≡ Some (kinds.Word (opening_word o)) → LeadsToEvents p
    → DidRead text (IsOpened o) (behind_opening o p) p (others a) b x
    → DidRead text IsEvent p p a b x
event_read text o p a b x within first leads h =
    let word = first_word text o a within first in
    record {
      part = put_together o (lexemes text a) (lexemes text (others a)) (lexemes text b) x word.part h.part;
      within = h.within;
      shorter = omega (arith, word.shorter, h.shorter);
      leads = leads_on text p (behind_opening o p) (Reserved (opening_word o)) a (others a) word (leads o) ∙ h.leads;
    }

-- a fault of an event behind its first word is a fault of the event
pub event_stops : (text : List ℕ) (o : Opening) (p : GrammarPlace) (a : List Token) (e : ParseFault)
    → AreWithin text a → first_kind a ≡ Some (kinds.Word (opening_word o)) → LeadsToEvents p
    → Stops text (behind_opening o p) (others a) e → Stops text p a e
event_stops text o p a e within first leads stop =
    Stops-back text p (behind_opening o p) a (others a) e (leads_on text p (behind_opening o p) (Reserved (opening_word o)) a (others a) (first_word text o a within first) (leads o)) stop

-- what is answered of an event behind its first word is answered of the event in a coregion
pub event_answer : (text : List ℕ) (o : Opening) (a : List Token)
    (r : Result (Statement × Bor (List Token)) ParseFault) → AreWithin text a
    → first_kind a ≡ Some (kinds.Word (opening_word o))
    → ((p : GrammarPlace) → Reads text (IsOpened o) (behind_opening o p) p (others a) r)
    → Reads text IsEvent Events Events a r × Uses a r
event_answer text o a (Ok x) within first h =
    let word = first_word text o a within first in (event_read text o Events a x.1.now x.0 within first event_leads (h Events), let s = (h Events).shorter in omega (arith, word.shorter, s))
event_answer text o a (Err e) within first h =
    (event_stops text o Events a e within first event_leads (h Events), tt)

-- ---- coregions

-- a coregion is its end, its events, `endconcurrent` and its end
pub coregion_read : (text : List ℕ) (a b c d : List Token) (es : List Statement) → DidEnd text a b
    → DidRead text (AreUpTo (Reserved words.EndConcurrent) IsEvent) Events (StatementEnd Items) b c es
    → DidEnd text c d → DidRead text IsCoregion (StatementEnd Events) Items a d es
coregion_read text a b c d es end events last = record {
  part = record {
    events = lexemes text b;
    last = events.part.0;
    close = lexemes text c;
    is_end = end.part;
    are_events = events.part.1;
    is_endconcurrent = events.part.2;
    is_last_end = last.part;
  };
  within = last.within;
  shorter = omega (arith, end.shorter, events.shorter, last.shorter);
  leads = end.leads Events ∙ events.leads ∙ last.leads Items;
}

-- ---- items

-- in a section only `out`, `in`, `action`, `concurrent` and `endinstance` may stand
only-Items : (k : Kind) (bytes : List ℕ)
    → ((o : Opening) → k ≢ kinds.Word (opening_word o))
    → k ≢ kinds.Word words.Concurrent → k ≢ kinds.Word words.EndInstance
    → next Items (symbol_of k bytes) ≡ None
only-Items (kinds.Word words.Output) bytes no_event c d =
    absurd (no_event (openings.Message directions.Output) refl)
only-Items (kinds.Word words.Input) bytes no_event c d =
    absurd (no_event (openings.Message directions.Input) refl)
only-Items (kinds.Word words.Action) bytes no_event c d = absurd (no_event openings.Action refl)
only-Items (kinds.Word words.Concurrent) bytes no_event c d = absurd (c refl)
only-Items (kinds.Word words.EndInstance) bytes no_event c d = absurd (d refl)
only-Items k bytes no_event c d = refl

-- none of these stands here
stuck_in_section : (text : List ℕ) (a : List Token) → NoEvent a
    → first_kind a ≢ Some (kinds.Word words.Concurrent)
    → first_kind a ≢ Some (kinds.Word words.EndInstance) → IsStuck text Items a
unfolding some_kind
stuck_in_section text [] no_event no_coregion no_end = tt
stuck_in_section text (t ∷ ts) no_event no_coregion no_end =
    only-Items t.kind _ (λ o e. no_event o (ap some_kind e)) (λ e. no_coregion (ap some_kind e)) (λ e. no_end (ap some_kind e))

-- neither an item nor `endinstance` stands here
pub item_refused : (text : List ℕ) (a : List Token) (e : ParseFault) → NoEvent a
    → first_kind a ≢ Some (kinds.Word words.Concurrent)
    → first_kind a ≢ Some (kinds.Word words.EndInstance)
    → e ≡ fault_at (length text) whats.Item (lexemes text a) → Stops text Items a e
item_refused text a e no_event no_coregion no_end fault =
    stops_here text Items whats.Item a e (λ len ls. refl) (stuck_in_section text a no_event no_coregion no_end) refl fault

-- an event is an item
pub single_read : (text : List ℕ) (o : Opening) (a b : List Token) (x : Statement)
    → AreWithin text a → first_kind a ≡ Some (kinds.Word (opening_word o))
    → DidRead text (IsOpened o) (behind_opening o Items) Items (others a) b x
    → DidRead text IsItem Items Items a b (Single x)
single_read text o a b x within first h =
    let r = event_read text o Items a b x within first item_leads h in
    record { part = r.part; within = r.within; shorter = r.shorter; leads = r.leads }

-- `concurrent` leads to a coregion
concurrent : (text : List ℕ) (a : List Token) → AreWithin text a
    → first_kind a ≡ Some (kinds.Word words.Concurrent)
    → DidTake text (Reserved words.Concurrent) a (others a)
concurrent text a within first = (took text (kinds.Word words.Concurrent) a within first).1

-- a coregion is an item
pub coregion_item : (text : List ℕ) (a b : List Token) (es : List Statement) → AreWithin text a
    → first_kind a ≡ Some (kinds.Word words.Concurrent)
    → DidRead text IsCoregion (StatementEnd Events) Items (others a) b es
    → DidRead text IsItem Items Items a b (Coregion es)
coregion_item text a b es within first h =
    let r = behind_read text IsCoregion Items (StatementEnd Events) Items (concurrent text a within first) refl h in
    record { part = r.part; within = r.within; shorter = r.shorter; leads = r.leads }

-- a fault of a coregion behind its first word is a fault of the item
pub coregion_stops : (text : List ℕ) (a : List Token) (e : ParseFault) → AreWithin text a
    → first_kind a ≡ Some (kinds.Word words.Concurrent)
    → Stops text (StatementEnd Events) (others a) e → Stops text Items a e
coregion_stops text a e within first stop =
    Stops-back text Items (StatementEnd Events) a (others a) e (leads_on text Items (StatementEnd Events) (Reserved words.Concurrent) a (others a) (concurrent text a within first) refl) stop

-- what follows a first token that was taken is shorter than the whole
pub shorter_behind : (text : List ℕ) (kind : Kind) (a b : List Token) → AreWithin text a
    → first_kind a ≡ Some kind → length b ≤ length (others a) → length b < length a
shorter_behind text kind a b within first h =
    let s = (took text kind a within first).1.shorter in omega (arith, s, h)

-- ---- sections

-- behind a decl of `instance` stands what ends the statement
ends_alike : (k : Kind) (bytes : List ℕ)
    → next (DeclEnd InInstance) (symbol_of k bytes) ≡ next (StatementEnd Items) (symbol_of k bytes)
ends_alike k bytes = refl

-- behind the decl of a section the statement ends
pub section_decl_leads : (text : List ℕ) (a b : List Token) (d : Decl)
    → DidRead text IsDecl (DeclName InInstance) (DeclEnd InInstance) a b d
    → fault_from text (DeclName InInstance) a ≡ fault_from text (StatementEnd Items) b
section_decl_leads text a [] d h =
    h.leads ∙ same_fault text (DeclEnd InInstance) (StatementEnd Items) [] tt refl (λ len ls. refl) (λ len ls. refl)
section_decl_leads text a (t ∷ ts) d h =
    h.leads ∙ same_fault text (DeclEnd InInstance) (StatementEnd Items) (t ∷ ts) (ends_alike t.kind _) refl (λ len ls. refl) (λ len ls. refl)

-- a section is its decl, its end, its items, `endinstance` and its end
pub section_read : (text : List ℕ) {a b c d e : List Token} {x : Decl} {xs : List Item}
    → DidRead text IsDecl (DeclName InInstance) (DeclEnd InInstance) a b x → DidEnd text b c
    → DidRead text (AreUpTo (Reserved words.EndInstance) IsItem) Items (StatementEnd Sections) c d xs
    → DidEnd text d e
    → DidRead text IsInstance (DeclName InInstance) Sections a e record { decl = x; items = xs }
section_read text {a} {b} {c} {d} {e} {x} {xs} decl end items last = record {
  part = record {
    close = lexemes text b;
    items = lexemes text c;
    last = items.part.0;
    last_close = lexemes text d;
    is_decl = decl.part;
    is_end = end.part;
    are_items = items.part.1;
    is_endinstance = items.part.2;
    is_last_end = last.part;
  };
  within = last.within;
  shorter = omega (arith, decl.shorter, end.shorter, items.shorter, last.shorter);
  leads = section_decl_leads text a b x decl ∙ end.leads Items ∙ items.leads ∙ last.leads Sections;
}

-- one more section
pub sections_more : (text : List ℕ) {a b c : List Token} {ss : List Section} {s : Section}
    → DidRead text (AreMany IsSection) Sections Sections a b ss
    → first_kind b ≡ Some (kinds.Word words.Instance)
    → DidRead text IsInstance (DeclName InInstance) Sections (others b) c s
    → DidRead text (AreMany IsSection) Sections Sections a c (ss ++ s ∷ [])
sections_more text {a} {b} {c} {ss} {s} h first one =
    let word = (took text (kinds.Word words.Instance) b h.within first).1 in
    let r = behind_read text IsInstance Sections (DeclName InInstance) Sections word refl one in
    many_more text IsSection Sections h (record { part = r.part; within = r.within; shorter = r.shorter; leads = r.leads })

-- a fault of a section is a fault of the sections
pub sections_stop : (text : List ℕ) (a b : List Token) (ss : List Section) (e : ParseFault)
    → DidRead text (AreMany IsSection) Sections Sections a b ss
    → first_kind b ≡ Some (kinds.Word words.Instance)
    → Stops text (DeclName InInstance) (others b) e → Stops text Sections a e
sections_stop text a b ss e h first stop =
    Stops-back text Sections (DeclName InInstance) a (others b) e (h.leads ∙ leads_on text Sections (DeclName InInstance) (Reserved words.Instance) b (others b) (took text (kinds.Word words.Instance) b h.within first).1 refl) stop

-- between sections only `instance` and `endmsc` may stand
only-Sections : (k : Kind) (bytes : List ℕ) → k ≢ kinds.Word words.Instance
    → k ≢ kinds.Word words.EndMsc → next Sections (symbol_of k bytes) ≡ None
only-Sections (kinds.Word words.Instance) bytes a b = absurd (a refl)
only-Sections (kinds.Word words.EndMsc) bytes a b = absurd (b refl)
only-Sections k bytes a b = refl

-- neither a section nor `endmsc` stands behind the sections
pub sections_refused : (text : List ℕ) (a b : List Token) (ss : List Section) (e : ParseFault)
    → DidRead text (AreMany IsSection) Sections Sections a b ss
    → first_kind b ≢ Some (kinds.Word words.Instance)
    → Refuses text (kinds.Word words.EndMsc) whats.Section b e → Stops text Sections a e
sections_refused text a b ss e h no_section refused =
    Stops-back text Sections Sections a b e h.leads (stops_here text Sections whats.Section b e (λ len ls. refl) (stuck_but_two text Sections (kinds.Word words.Instance) (kinds.Word words.EndMsc) b only-Sections no_section refused.1) refl refused.0)
