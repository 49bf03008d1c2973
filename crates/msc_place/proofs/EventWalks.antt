-- Along the tokens of a chart each token that begins an event begins the next one of the draft.
use Rattle.std.proofs.Common.{◌≡◌, true, false, ◌||◌, List, [], ◌∷◌, refl, ap, subst}
use Rattle.std.specs.List.{flat_map}
use Rattle.msc_lexer.specs.declared.word.Word.TheVariants as words
use Rattle.msc_lexer.specs.Lexemes.{Symbol, Reserved, Lexeme}
use Rattle.msc_parser.specs.declared.tree.Direction.{Direction}
use Rattle.msc_parser.specs.declared.tree.Direction.TheVariants as directions
use Rattle.msc_parser.specs.declared.tree.Statement.{Statement}
use Rattle.msc_parser.specs.declared.tree.Statement.TheVariants.{Message, Action}
use Rattle.msc_parser.specs.declared.tree.Item.{Item}
use Rattle.msc_parser.specs.declared.tree.Item.TheVariants.{Single, Coregion}
use Rattle.msc_parser.specs.declared.tree.Section.{Section}
use Rattle.msc_parser.specs.Forms.{AreMany}
use Rattle.msc_parser.specs.Grammar.{Tree, direction_word, IsEvent, IsCoregion, IsItem, IsSection, IsChart}
use Rattle.msc_parser.specs.Drafts.{statements_in, statements_of}
use Rattle.msc_place.specs.Standing.{begins_event, begins_section}
use Rattle.msc_place.specs.Collecting.{event_place, never}
use Rattle.msc_place.proofs.Walks.{neither, Passes, passes_on, passes_weaker, Walks, walks_behind, walks_on, walks_past}
use Rattle.msc_place.proofs.Passing.{pass_token, pass_end, pass_decl, begins_part, part_plain, pass_signal, pass_action, before_sections, behind_sections}

-- what begins no part begins no event
no_event : (s : Symbol) → begins_part s ≡ false → (begins_event s || never s) ≡ false
no_event s h = rw (neither (begins_event s) (begins_section s) h).0 refl

-- an event is read from these tokens on
abbrev pub ReadsEvent : List Lexeme → Statement → Type 0
ReadsEvent ls event = (after : List Lexeme) × IsEvent ls event after

abbrev pub EventWalk : List Lexeme → List Lexeme → List Statement → Type 0
EventWalk b a es = Walks begins_event never ReadsEvent event_place b a es

-- tokens that begin no part lead to no event
event_gap : (b a : List Lexeme) → Passes begins_part b a
    → Passes (λ s. begins_event s || never s) b a
event_gap b a h = passes_weaker begins_part (λ s. begins_event s || never s) no_event b a h

-- the first word of a message event begins an event
pub way_begins : (w : Direction) → begins_event (Reserved (direction_word w)) ≡ true
way_begins directions.Output = refl
way_begins directions.Input = refl

-- an event is one event
event_walk : (b a : List Lexeme) (e : Statement) → IsEvent b e a → EventWalk b a (e ∷ [])
event_walk b a (Message e) h = (
  record { symbol = Reserved (direction_word e.direction); place = h.1.0 },
  h.0,
  record { gap = []; whole = h.1.1; fails = tt },
  way_begins e.direction,
  refl,
  (a, (h.0, (h.1.0, refl), h.2)),
  event_gap h.0 a (pass_signal e h.0 a h.2),
)
event_walk b a (Action l) h = (
  record { symbol = Reserved words.Action; place = h.1.0 },
  h.0,
  record { gap = []; whole = h.1.1; fails = tt },
  refl,
  refl,
  (a, (h.0, (h.1.0, refl), h.2)),
  event_gap h.0 a (pass_action l h.0 a h.2),
)

-- many parts have the events of each
events_many : {X : Type 0} (IsPart : List Lexeme → X → List Lexeme → Type 0) (f : X → List Statement)
    → ((b a : List Lexeme) (x : X) → IsPart b x a → EventWalk b a (f x)) → (b a : List Lexeme)
    (xs : List X)
    → AreMany IsPart b xs a → EventWalk b a (flat_map f xs)
events_many IsPart f one b a [] h = record { gap = []; whole = h; fails = tt }
events_many IsPart f one b a (x ∷ xs) h =
    walks_on begins_event never ReadsEvent event_place (f x) (flat_map f xs) b h.0 a (one b h.0 x h.1) (events_many IsPart f one h.0 a xs h.2)

-- a list is its elements, one after the other
flat_map_each : {X : Type 0} (xs : List X) → flat_map (λ x. x ∷ []) xs ≡ xs
flat_map_each [] = refl
flat_map_each (x ∷ xs) = ap (λ ys. x ∷ ys) (flat_map_each xs)

-- a coregion has its events
events_coregion : (b a : List Lexeme) (es : List Statement) → IsCoregion b es a → EventWalk b a es
events_coregion b a es h =
    let inner : EventWalk h.events h.last es =
    subst (EventWalk h.events h.last) (flat_map_each es) (events_many IsEvent (λ e. e ∷ []) event_walk h.events h.last es h.are_events) in
    let close = passes_on begins_part h.last h.close a (pass_token begins_part _ h.last h.close h.is_endconcurrent refl) (pass_end begins_part part_plain h.close a h.is_last_end) in
    walks_behind begins_event never ReadsEvent event_place es b h.events a (event_gap b h.events (pass_end begins_part part_plain b h.events h.is_end))
    (walks_past begins_event never ReadsEvent event_place es h.events h.last a inner (event_gap h.last a close))

-- an item has its events
events_item : (b a : List Lexeme) (x : Item) → IsItem b x a → EventWalk b a (statements_in x)
events_item b a (Single e) h = event_walk b a e h
events_item b a (Coregion es) h =
    walks_behind begins_event never ReadsEvent event_place es b h.0 a (event_gap b h.0 (pass_token begins_part _ b h.0 h.1 refl)) (events_coregion h.0 a es h.2)

-- a section has the events of its items
events_section : (b a : List Lexeme) (s : Section) → IsSection b s a
    → EventWalk b a (flat_map statements_in s.items)
events_section b a s h =
    let k = h.2 in let es = flat_map statements_in s.items in
    let head = passes_on begins_part h.0 k.close k.items (pass_decl begins_part part_plain h.0 k.close s.decl k.is_decl) (pass_end begins_part part_plain k.close k.items k.is_end) in
    let close = passes_on begins_part k.last k.last_close a (pass_token begins_part _ k.last k.last_close k.is_endinstance refl) (pass_end begins_part part_plain k.last_close a k.is_last_end) in
    let inner = walks_past begins_event never ReadsEvent event_place es k.items k.last a (events_many IsItem statements_in events_item k.items k.last s.items k.are_items) (event_gap k.last a close) in
    walks_behind begins_event never ReadsEvent event_place es b h.0 a (pass_token (λ s. begins_event s || never s) _ b h.0 h.1 refl)
    (walks_behind begins_event never ReadsEvent event_place es h.0 k.items a (event_gap h.0 k.items head) inner)

-- the tokens of a chart have its events
pub chart_events : (ls : List Lexeme) (t : Tree) → IsChart ls t
    → EventWalk ls [] (statements_of t.sections)
chart_events ls t h =
    let es = statements_of t.sections in
    let inner = events_many IsSection (λ s. flat_map statements_in s.items) events_section h.sections h.last t.sections h.are_sections in
    walks_behind begins_event never ReadsEvent event_place es ls h.sections [] (event_gap ls h.sections (before_sections ls t h))
    (walks_past begins_event never ReadsEvent event_place es h.sections h.last [] inner (event_gap h.last [] (behind_sections ls t h)))
