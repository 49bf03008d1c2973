-- A list of tokens is at most one chart.
use Rattle.std.proofs.Common.{◌≡◌, ◌≢◌, ℕ, List, [], ◌∷◌, sym, ap, subst, ◌∙◌}
use Rattle.std.specs.List.{flat_map}
use Rattle.msc_lexer.specs.declared.word.Word.TheVariants as words
use Rattle.msc_lexer.specs.Lexemes.{Symbol, Reserved, Lexeme}
use Rattle.msc_parser.specs.declared.tree.Decl.{Decl}
use Rattle.msc_parser.specs.declared.tree.Statement.{Statement}
use Rattle.msc_parser.specs.declared.tree.Statement.TheVariants.{Message, Action}
use Rattle.msc_parser.specs.declared.tree.Item.{Item}
use Rattle.msc_parser.specs.declared.tree.Item.TheVariants.{Single, Coregion}
use Rattle.msc_parser.specs.declared.tree.Section.{Section}
use Rattle.msc_parser.specs.Forms.{IsToken, AreMany, IsLedBy}
use Rattle.msc_parser.specs.Grammar.{IsEnd, IsEvent, IsCoregion, IsItem, IsInstance, IsSection, AreDecls, Tree}
use Rattle.msc_parser.specs.Parsing.{OneDraft}
use Rattle.msc_parser.proofs.Tokens.{token_same, symbols_clash, name_same, token_at, end_same}
use Rattle.msc_parser.proofs.Decided.{Decided, IsSequence, many_same, behind_same}
use Rattle.msc_parser.proofs.OnePart.{Closed, end_stops, decl_same, decls_same, direction_apart, event_same}

-- this symbol stands first
abbrev StandsFirst : Symbol → List Lexeme → Type 0
StandsFirst s b = (a : List Lexeme) × IsToken s b a

-- ---- coregions and items

-- an event begins with no other symbol than `out`, `in` and `action`
event_apart : (x : Statement) (s : Symbol) (b a c : List Lexeme) → IsEvent b x a → IsToken s b c
    → s ≢ Reserved words.Output → s ≢ Reserved words.Input → s ≢ Reserved words.Action → ⊥
event_apart (Message e) s b a c h g no_out no_in no_action =
    direction_apart e.direction b h.0 c h.1 s g no_out no_in
event_apart (Action l) s b a c h g no_out no_in no_action =
    symbols_clash s (Reserved words.Action) b c h.0 g h.1 no_action

-- events of a coregion follow one another up to `endconcurrent`
event_sequence : IsSequence IsEvent Closed (StandsFirst (Reserved words.EndConcurrent))
event_sequence = record {
  one = event_same;
  goes_on = λ b a x h ends. event_apart x _ b a ends.0 h ends.1 (λ e. cc) (λ e. cc) (λ e. cc);
  begins = λ b a x h. tt;
  ends = λ b ends. tt;
}

-- a coregion is determined
coregion_same : Decided Closed IsCoregion
coregion_same b a c xs ys h g stop_a stop_c =
    let e0 = end_same b h.events g.events h.is_end g.is_end in
    let e1 = many_same IsEvent Closed (StandsFirst (Reserved words.EndConcurrent)) event_sequence xs ys g.events h.last g.last (subst (λ (m : List Lexeme). AreMany IsEvent m xs h.last) e0 h.are_events) g.are_events (h.close, h.is_endconcurrent) (g.close, g.is_endconcurrent) in
    let e2 = (token_same _ _ g.last h.close g.close (token_at _ h.last g.last h.close e1.1 h.is_endconcurrent) g.is_endconcurrent).1 in
    (e1.0, end_same g.close a c (subst (λ (m : List Lexeme). IsEnd m a) e2 h.is_last_end) g.is_last_end)

-- an item is determined: an event, or a coregion
item_same : Decided Closed IsItem
item_same b a c (Single x) (Single y) h g stop_a stop_c =
    let e = event_same b a c x y h g tt tt in let i = e.0 in ((cc), e.1)
item_same b a c (Single x) (Coregion ys) h g stop_a stop_c =
    absurd (event_apart x _ b a g.0 h g.1 (λ e. cc) (λ e. cc) (λ e. cc))
item_same b a c (Coregion xs) (Single y) h g stop_a stop_c =
    absurd (event_apart y _ b c h.0 g h.1 (λ e. cc) (λ e. cc) (λ e. cc))
item_same b a c (Coregion xs) (Coregion ys) h g stop_a stop_c =
    let e = behind_same (Reserved words.Concurrent) IsCoregion Closed coregion_same b a c xs ys h g tt tt in let i = e.0 in ((cc), e.1)

-- an item does not begin with `endinstance`
item_goes_on : (b a : List Lexeme) (x : Item) → IsItem b x a
    → StandsFirst (Reserved words.EndInstance) b → ⊥
item_goes_on b a (Single x) h ends =
    event_apart x _ b a ends.0 h ends.1 (λ e. cc) (λ e. cc) (λ e. cc)
item_goes_on b a (Coregion xs) h ends = symbols_clash _ _ b h.0 ends.0 h.1 ends.1 (λ e. cc)

-- items follow one another up to `endinstance`
item_sequence : IsSequence IsItem Closed (StandsFirst (Reserved words.EndInstance))
item_sequence =
    record { one = item_same; goes_on = item_goes_on; begins = λ b a x h. tt; ends = λ b ends. tt }

-- ---- sections and `inst` statements

-- a section behind its first word is determined
instance_same : Decided Closed IsInstance
instance_same b a c x y h g stop_a stop_c =
    let e0 = decl_same b h.close g.close x.decl y.decl h.is_decl g.is_decl (end_stops h.close h.items h.is_end) (end_stops g.close g.items g.is_end) in
    let e1 = end_same g.close h.items g.items (subst (λ (m : List Lexeme). IsEnd m h.items) e0.1 h.is_end) g.is_end in
    let e2 = many_same IsItem Closed (StandsFirst (Reserved words.EndInstance)) item_sequence x.items y.items g.items h.last g.last (subst (λ (m : List Lexeme). AreMany IsItem m x.items h.last) e1 h.are_items) g.are_items (h.last_close, h.is_endinstance) (g.last_close, g.is_endinstance) in
    let e3 = (token_same _ _ g.last h.last_close g.last_close (token_at _ h.last g.last h.last_close e2.1 h.is_endinstance) g.is_endinstance).1 in
    (section e0.0 e2.0, end_same g.last_close a c (subst (λ (m : List Lexeme). IsEnd m a) e3 h.is_last_end) g.is_last_end)
  where
    -- sections with equal parts are equal
    section : {d e : Decl} {k l : List Item} → d ≡ e → k ≡ l
        → (let s : Section = record { decl = d; items = k } in s) ≡ record { decl = e; items = l }
    section p q = cc

-- sections follow one another up to `endmsc`
section_sequence : IsSequence IsSection Closed (StandsFirst (Reserved words.EndMsc))
section_sequence = record {
  one = behind_same (Reserved words.Instance) IsInstance Closed instance_same;
  goes_on = λ b a x h ends. symbols_clash _ _ b h.0 ends.0 h.1 ends.1 (λ e. cc);
  begins = λ b a x h. tt;
  ends = λ b ends. tt;
}

-- no `inst` stands here
abbrev EndsHeader : List Lexeme → Type 0
EndsHeader b = (a : List Lexeme) → IsToken (Reserved words.Inst) b a → ⊥

-- `inst` statements follow one another up to what is none
inst_sequence : IsSequence (IsLedBy (Reserved words.Inst) AreDecls) Closed EndsHeader
inst_sequence = record {
  one = behind_same (Reserved words.Inst) AreDecls Closed decls_same;
  goes_on = λ b a x h ends. ends h.0 h.1;
  begins = λ b a x h. tt;
  ends = λ b ends. tt;
}

-- the sections and `endmsc` end the header
sections_end : (b a d : List Lexeme) (ss : List Section) → AreMany IsSection b ss a
    → IsToken (Reserved words.EndMsc) a d → EndsHeader b
sections_end b a d [] h g c k =
    symbols_clash (Reserved words.EndMsc) _ a d c g (token_at _ b a c h k) (λ e. cc)
sections_end b a d (s ∷ ss) h g c k =
    symbols_clash (Reserved words.Instance) _ b h.1.0 c h.1.1 k (λ e. cc)

-- ---- the whole chart

-- a list of tokens is at most one chart
pub one_chart : OneDraft
one_chart b t u h g =
    let e0 = (token_same _ _ b h.name g.name h.is_msc g.is_msc).1 in
    let e1 = name_same t.name u.name g.name h.close g.close (token_at _ h.name g.name h.close e0 h.is_name) g.is_name in
    let e2 = end_same g.close h.header g.header (subst (λ (m : List Lexeme). IsEnd m h.header) e1.1 h.is_end) g.is_end in
    let e3 = many_same (IsLedBy (Reserved words.Inst) AreDecls) Closed EndsHeader inst_sequence h.is_header.0 g.is_header.0 g.header h.sections g.sections
    (subst (λ (m : List Lexeme). AreMany (IsLedBy (Reserved words.Inst) AreDecls) m h.is_header.0 h.sections) e2 h.is_header.2) g.is_header.2
    (sections_end h.sections h.last h.last_close t.sections h.are_sections h.is_endmsc) (sections_end g.sections g.last g.last_close u.sections g.are_sections g.is_endmsc) in
    let e4 = many_same IsSection Closed (StandsFirst (Reserved words.EndMsc)) section_sequence t.sections u.sections g.sections h.last g.last
    (subst (λ (m : List Lexeme). AreMany IsSection m t.sections h.last) e3.1 h.are_sections) g.are_sections (h.last_close, h.is_endmsc) (g.last_close, g.is_endmsc) in
    tree e1.0 (h.is_header.1 ∙ ap (flat_map (λ g. g)) e3.0 ∙ sym g.is_header.1) e4.0
  where
    -- drafts with equal parts are equal
    tree : {m n : List ℕ} {k l : List Decl} {f g : List Section} → m ≡ n → k ≡ l → f ≡ g
        → (let t : Tree = record { name = m; header = k; sections = f } in t) ≡ record { name = n; header = l; sections = g }
    tree p q r = cc
