-- What may follow a place, with one token or part more in front.
use Rattle.std.proofs.Common.{◌≡◌, ℕ, List, [], ◌∷◌, None, refl, subst}
use Rattle.std.specs.List.{flat_map}
use Rattle.msc_lexer.specs.declared.word.Word.TheVariants as words
use Rattle.msc_lexer.specs.Lexemes.{Reserved, Named, Quoted, Semicolon, Comma, Lexeme}
use Rattle.msc_parser.specs.declared.tree.Direction.{Direction}
use Rattle.msc_parser.specs.declared.tree.Statement.TheVariants.{Message, Action}
use Rattle.msc_parser.specs.declared.tree.Item.TheVariants.{Single, Coregion}
use Rattle.msc_parser.specs.Forms.{IsToken}
use Rattle.msc_parser.specs.Grammar.{Tree, IsEnd, Plain, Commented, direction_word, address_word, Absent, IsInstance, IsChart}
use Rattle.msc_parser.specs.Places.{DeclStatement, InInst, InInstance}
use Rattle.msc_parser.proofs.Following.{at_place, SectionsRest, HeaderRest, ItemsRest, EventsRest, EndRest, DeclsRest, DeclRest, SecondRest, KindRest, NameRest, AddressRest, WordRest, ParametersRest, NumberRest, EventRest}

-- `;` in front of what may follow
pub plain_end : (More : List Lexeme → Type 0) (at : ℕ) (ls : List Lexeme) → More ls
    → EndRest More (at_place Semicolon at ∷ ls)
plain_end More at ls r = record { after = ls; is_end = Plain (at, refl); rest = r }

-- a comment and `;` in front of what may follow
pub commented_end : (More : List Lexeme → Type 0) (at bt ct : ℕ) (bytes : List ℕ) (ls : List Lexeme)
    → More ls
    → EndRest More (at_place (Reserved words.Comment) at ∷ at_place (Quoted bytes) bt ∷ at_place Semicolon ct ∷ ls)
commented_end More at bt ct bytes ls r =
    record { after = ls; is_end = Commented bytes (at_place (Quoted bytes) bt ∷ at_place Semicolon ct ∷ ls) (at_place Semicolon ct ∷ ls) (at, refl) (bt, refl) (ct, refl); rest = r }

-- the decls of `inst` may end here
pub no_decls : (ls : List Lexeme) → EndRest HeaderRest ls → DeclsRest ls
no_decls ls r = record { decls = []; close = ls; are = refl; rest = r }

-- a comma in front of a decl
pub comma_decl : (at : ℕ) (ls : List Lexeme) → NameRest InInst ls
    → DeclsRest (at_place Comma at ∷ ls)
comma_decl at ls r =
    record { decls = r.decl ∷ r.rest.decls; close = r.rest.close; are = (r.after, (ls, (at, refl), r.is), r.rest.are); rest = r.rest.rest }

-- there may be no kind here
pub no_kind : (st : DeclStatement) (ls : List Lexeme) → DeclRest st ls → KindRest st ls
no_kind st ls r = record { kind = []; after = ls; is = refl; rest = r }

-- there may be no second name here
pub no_second : (st : DeclStatement) (ls : List Lexeme) → DeclRest st ls → SecondRest st ls
no_second st ls r = record { second = []; after = ls; is = refl; rest = r }

-- there may be no message instance name here
pub no_number : (w : Direction) (More : List Lexeme → Type 0) (ls : List Lexeme)
    → ParametersRest w More ls → NumberRest w More ls
no_number w More ls r = record { number = None; parameters = ls; is = refl; rest = r }

-- there may be no parameters here
pub no_parameters : (w : Direction) (More : List Lexeme → Type 0) (ls : List Lexeme) → WordRest w More ls
    → ParametersRest w More ls
no_parameters w More ls r = record { parameters = []; word = ls; are = Absent refl refl; rest = r }

-- the word before an address in front of the address
pub word_back : (w : Direction) (More : List Lexeme → Type 0) (at : ℕ) (ls : List Lexeme)
    → AddressRest More ls → WordRest w More (at_place (Reserved (address_word w)) at ∷ ls)
word_back w More at ls r = record { address = ls; is = (at, refl); rest = r }

-- a way and a message name in front of the rest of the message event
pub event_back : (w : Direction) (More : List Lexeme → Type 0) (n : List ℕ) (at bt : ℕ) (ls : List Lexeme)
    → NumberRest w More ls
    → EventRest More (at_place (Reserved (direction_word w)) at ∷ at_place (Named n) bt ∷ ls)
event_back w More n at bt ls r =
    let p = r.rest in
    let q = p.rest in
    let a = q.rest in
    record {
      event = Message (record { direction = w; name = n; number = r.number; parameters = p.parameters; address = a.name });
      after = a.rest.after;
      is = (
        at_place (Named n) bt ∷ ls,
        (at, refl),
        record {
          word = p.word;
          address = q.address;
          close = a.close;
          is_ident = record { number = ls; parameters = r.parameters; is_name = (bt, refl); is_number = r.is; are_parameters = p.are };
          is_word = q.is;
          is_address = a.is;
          is_end = a.rest.is_end;
        },
      );
      rest = a.rest.rest;
    }

-- `action` and its text in front of the end of the action
pub action_back : (More : List Lexeme → Type 0) (label : List ℕ) (at bt : ℕ) (ls : List Lexeme)
    → EndRest More ls
    → EventRest More (at_place (Reserved words.Action) at ∷ at_place (Quoted label) bt ∷ ls)
action_back More label at bt ls r = record {
  event = Action label;
  after = r.after;
  is = (at_place (Quoted label) bt ∷ ls, (at, refl), record { close = ls; is_text = (bt, refl); is_end = r.is_end });
  rest = r.rest;
}

-- an event in front of the items of a section
pub item_back : (ls : List Lexeme) → EventRest ItemsRest ls → ItemsRest ls
item_back ls r = let i = r.rest in
    record { items = Single r.event ∷ i.items; last = i.last; close = i.close; after = i.after; are = (r.after, r.is, i.are); is_endinstance = i.is_endinstance; is_end = i.is_end; rest = i.rest }

-- an event in front of the events of a coregion
pub coregion_event : (ls : List Lexeme) → EventRest EventsRest ls → EventsRest ls
coregion_event ls r = let i = r.rest in
    record { events = r.event ∷ i.events; last = i.last; close = i.close; after = i.after; are = (r.after, r.is, i.are); is_endconcurrent = i.is_endconcurrent; is_end = i.is_end; rest = i.rest }

-- `concurrent` in front of a coregion and the items behind it
pub coregion_back : (at : ℕ) (ls : List Lexeme) → EndRest EventsRest ls
    → ItemsRest (at_place (Reserved words.Concurrent) at ∷ ls)
coregion_back at ls r =
    let e = r.rest in
    let i = e.rest in
    record {
      items = Coregion e.events ∷ i.items;
      last = i.last;
      close = i.close;
      after = i.after;
      are = (e.after, (ls, (at, refl), record { events = r.after; last = e.last; close = e.close; is_end = r.is_end; are_events = e.are; is_endconcurrent = e.is_endconcurrent; is_last_end = e.is_end }), i.are);
      is_endinstance = i.is_endinstance;
      is_end = i.is_end;
      rest = i.rest;
    }

-- `endmsc` in front of the last end
pub last_back : (at : ℕ) (ls : List Lexeme) → EndRest (λ after. after ≡ []) ls
    → SectionsRest (at_place (Reserved words.EndMsc) at ∷ ls)
last_back at ls r =
    record { sections = []; last = at_place (Reserved words.EndMsc) at ∷ ls; close = ls; are = refl; is_endmsc = (at, refl); is_end = subst (λ (a : List Lexeme). IsEnd ls a) r.rest r.is_end }

-- `instance` in front of a section and the sections behind it
pub section_back : (at : ℕ) (ls : List Lexeme) → NameRest InInstance ls
    → SectionsRest (at_place (Reserved words.Instance) at ∷ ls)
section_back at ls r =
    let i = r.rest.rest in
    let s = i.rest in
    let section : IsInstance ls (record { decl = r.decl; items = i.items }) i.after = record { close = r.after; items = r.rest.after; last = i.last; last_close = i.close; is_decl = r.is; is_end = r.rest.is_end; are_items = i.are; is_endinstance = i.is_endinstance; is_last_end = i.is_end } in
    record {
      sections = record { decl = r.decl; items = i.items } ∷ s.sections;
      last = s.last;
      close = s.close;
      are = (i.after, (ls, (at, refl), section), s.are);
      is_endmsc = s.is_endmsc;
      is_end = s.is_end;
    }

-- the header may end here
pub no_inst : (ls : List Lexeme) → SectionsRest ls → HeaderRest ls
no_inst ls r = record { groups = []; after = ls; are = refl; rest = r }

-- `inst` in front of its decls and the header behind them
pub inst_back : (at : ℕ) (ls : List Lexeme) → NameRest InInst ls
    → HeaderRest (at_place (Reserved words.Inst) at ∷ ls)
inst_back at ls r =
    let d = r.rest in
    let h = d.rest.rest in
    record { groups = (r.decl ∷ d.decls) ∷ h.groups; after = h.after; are = (d.rest.after, (ls, (at, refl), (d.close, (r.after, r.is, d.are), d.rest.is_end)), h.are); rest = h.rest }

-- `msc` in front of the rest of a chart
pub chart_back : (at : ℕ) (ls : List Lexeme)
    → ((name : List ℕ) × (close : List Lexeme) × IsToken (Named name) ls close × EndRest HeaderRest close)
    → (t : Tree) × IsChart (at_place (Reserved words.Msc) at ∷ ls) t
chart_back at ls r =
    let h = r.3.rest in
    let s = h.rest in (
      record { name = r.0; header = flat_map (λ g. g) h.groups; sections = s.sections },
      record {
        name = ls;
        close = r.1;
        header = r.3.after;
        sections = h.after;
        last = s.last;
        last_close = s.close;
        is_msc = (at, refl);
        is_name = r.2;
        is_end = r.3.is_end;
        is_header = (h.groups, refl, h.are);
        are_sections = s.are;
        is_endmsc = s.is_endmsc;
        is_last_end = s.is_end;
      },
    )
