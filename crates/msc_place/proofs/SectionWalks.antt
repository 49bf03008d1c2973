-- Along the tokens of a chart each token that begins a section begins the next one of the draft.
use Rattle.std.proofs.Common.{◌≡◌, Bool, false, ◌||◌, List, [], ◌∷◌, refl}
use Rattle.msc_lexer.specs.declared.word.Word.TheVariants as words
use Rattle.msc_lexer.specs.Lexemes.{Symbol, Reserved, Lexeme}
use Rattle.msc_parser.specs.declared.tree.Direction.{Direction}
use Rattle.msc_parser.specs.declared.tree.Direction.TheVariants as directions
use Rattle.msc_parser.specs.declared.tree.Statement.{Statement}
use Rattle.msc_parser.specs.declared.tree.Statement.TheVariants.{Message, Action}
use Rattle.msc_parser.specs.declared.tree.Item.{Item}
use Rattle.msc_parser.specs.declared.tree.Item.TheVariants.{Single, Coregion}
use Rattle.msc_parser.specs.declared.tree.Section.{Section}
use Rattle.msc_parser.specs.Forms.{AreMany}
use Rattle.msc_parser.specs.Grammar.{Tree, direction_word, IsEvent, IsCoregion, IsItem, IsSection, IsChart}
use Rattle.msc_place.specs.Standing.{begins_event, begins_section}
use Rattle.msc_place.specs.Collecting.{never, second_place}
use Rattle.msc_place.proofs.Walks.{neither, Passes, passes_on, passes_weaker, Walks, walks_behind, walks_on, walks_past}
use Rattle.msc_place.proofs.Passing.{pass_token, pass_many, pass_led, pass_end, pass_decl, begins_part, part_plain, pass_signal, pass_action, before_sections, behind_sections}

-- what begins no part begins no section
no_section : (s : Symbol) → begins_part s ≡ false → (begins_section s || never s) ≡ false
no_section s h = rw (neither (begins_event s) (begins_section s) h).1 refl

-- a section is read from these tokens on
abbrev pub ReadsSection : List Lexeme → Section → Type 0
ReadsSection ls s = (after : List Lexeme) × IsSection ls s after

abbrev pub SectionWalk : List Lexeme → List Lexeme → List Section → Type 0
SectionWalk b a ss = Walks begins_section never ReadsSection second_place b a ss

-- what leads to no section
abbrev skips : Symbol → Bool
skips s = begins_section s || never s

-- tokens that begin no part lead to no section
section_gap : (b a : List Lexeme) → Passes begins_part b a → Passes skips b a
section_gap b a h = passes_weaker begins_part skips no_section b a h

-- the first word of a message event begins no section
way_skipped : (w : Direction) → skips (Reserved (direction_word w)) ≡ false
way_skipped directions.Output = refl
way_skipped directions.Input = refl

-- an event has no section
skip_event : (b a : List Lexeme) (e : Statement) → IsEvent b e a → Passes skips b a
skip_event b a (Message e) h =
    passes_on skips b h.0 a (pass_token skips _ b h.0 h.1 (way_skipped e.direction)) (section_gap h.0 a (pass_signal e h.0 a h.2))
skip_event b a (Action l) h =
    passes_on skips b h.0 a (pass_token skips _ b h.0 h.1 refl) (section_gap h.0 a (pass_action l h.0 a h.2))

-- a coregion has none
skip_coregion : (b a : List Lexeme) (es : List Statement) → IsCoregion b es a → Passes skips b a
skip_coregion b a es h =
    let close = passes_on begins_part h.last h.close a (pass_token begins_part _ h.last h.close h.is_endconcurrent refl) (pass_end begins_part part_plain h.close a h.is_last_end) in
    passes_on skips b h.events a (section_gap b h.events (pass_end begins_part part_plain b h.events h.is_end))
    (passes_on skips h.events h.last a (pass_many skips IsEvent skip_event h.events h.last es h.are_events) (section_gap h.last a close))

-- nor has an item
skip_item : (b a : List Lexeme) (x : Item) → IsItem b x a → Passes skips b a
skip_item b a (Single e) h = skip_event b a e h
skip_item b a (Coregion es) h =
    pass_led skips (Reserved words.Concurrent) IsCoregion refl skip_coregion b a es h

-- a section is one section
section_walk : (b a : List Lexeme) (s : Section) → IsSection b s a → SectionWalk b a (s ∷ [])
section_walk b a s h =
    let k = h.2 in
    let head = passes_on begins_part h.0 k.close k.items (pass_decl begins_part part_plain h.0 k.close s.decl k.is_decl) (pass_end begins_part part_plain k.close k.items k.is_end) in
    let close = passes_on begins_part k.last k.last_close a (pass_token begins_part _ k.last k.last_close k.is_endinstance refl) (pass_end begins_part part_plain k.last_close a k.is_last_end) in
    let inner = passes_on skips k.items k.last a (pass_many skips IsItem skip_item k.items k.last s.items k.are_items) (section_gap k.last a close) in (
      record { symbol = Reserved words.Instance; place = h.1.0 },
      h.0,
      record { gap = []; whole = h.1.1; fails = tt },
      refl,
      refl,
      (a, (h.0, (h.1.0, refl), h.2)),
      passes_on skips h.0 k.items a (section_gap h.0 k.items head) inner,
    )

-- many sections are those sections
sections_many : (b a : List Lexeme) (ss : List Section) → AreMany IsSection b ss a
    → SectionWalk b a ss
sections_many b a [] h = record { gap = []; whole = h; fails = tt }
sections_many b a (s ∷ ss) h =
    walks_on begins_section never ReadsSection second_place (s ∷ []) ss b h.0 a (section_walk b h.0 s h.1) (sections_many h.0 a ss h.2)

-- the tokens of a chart have its sections
pub chart_sections : (ls : List Lexeme) (t : Tree) → IsChart ls t → SectionWalk ls [] t.sections
chart_sections ls t h =
    let ss = t.sections in
    walks_behind begins_section never ReadsSection second_place ss ls h.sections [] (section_gap ls h.sections (before_sections ls t h))
    (walks_past begins_section never ReadsSection second_place ss h.sections h.last [] (sections_many h.sections h.last ss h.are_sections) (section_gap h.last [] (behind_sections ls t h)))
