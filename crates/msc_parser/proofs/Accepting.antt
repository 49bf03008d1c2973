-- A chart leads from the start to the end: each part leads from its place to the place behind it.
use Rattle.std.proofs.Common.{◌≡◌, ◌≢◌, ℕ, List, [], ◌∷◌, Option, Some, None, refl, ap, ◌∙◌}
use Rattle.std.specs.Option.{option_map_or}
use Rattle.msc_lexer.specs.declared.word.Word.TheVariants as words
use Rattle.msc_lexer.specs.Lexemes.{Symbol, Reserved, Named, Quoted, Semicolon, Comma, Colon, LeftParen, RightParen, Lexeme}
use Rattle.msc_parser.specs.declared.tree.Direction.{Direction}
use Rattle.msc_parser.specs.declared.tree.Direction.TheVariants as directions
use Rattle.msc_parser.specs.declared.tree.Decl.{Decl}
use Rattle.msc_parser.specs.declared.tree.Signal.{Signal}
use Rattle.msc_parser.specs.declared.tree.Statement.{Statement}
use Rattle.msc_parser.specs.declared.tree.Statement.TheVariants as statements
use Rattle.msc_parser.specs.declared.opening.Opening.TheVariants as openings
use Rattle.msc_parser.specs.declared.tree.Item.{Item}
use Rattle.msc_parser.specs.declared.tree.Item.TheVariants.{Single, Coregion}
use Rattle.msc_parser.specs.declared.tree.Section.{Section}
use Rattle.msc_parser.specs.Forms.{IsToken, IsNamed, AreMany, IsLedBy, AreListed}
use Rattle.msc_parser.specs.Grammar.{Tree, IsEnd, Plain, Commented, IsSecond, IsKind, IsDecl, IsNumber, AreParameters, Absent, Empty, Given, IsSignal, IsAction, IsEvent, IsCoregion, IsItem, IsSection, AreDecls, IsChart}
use Rattle.msc_parser.specs.Places.{DeclStatement, InInst, InInstance, GrammarPlace, Start, ChartName, Header, Sections, Items, Events, DeclName, DeclKind, KindFirst, KindSecond, DeclEnd, Message, AfterMessage, Number, AfterNumber, Parameters, Parameter, AfterParameter, AfterParameters, Address, ActionText, StatementEnd, CommentText, CommentEnd, Done, behind, next, walk}
use Rattle.msc_parser.proofs.Leading.{colon_leads, second_leads, comma_leads, open_leads, word_leads, LeadsToEvents, item_leads, event_leads}

-- a token that may stand at a place leads on
pub walk_token : (p q : GrammarPlace) (s : Symbol) (before after : List Lexeme) → IsToken s before after
    → next p s ≡ Some q → walk p before ≡ walk q after
walk_token p q s before after h step =
    ap (walk p) h.1 ∙ ap (λ (o : Option GrammarPlace). option_map_or (λ n. walk n after) o (p, record { symbol = s; place = h.0 } ∷ after)) step

-- the tokens lead from the place to the end
abbrev pub Accepts : GrammarPlace → List Lexeme → Type 0
Accepts p ls = walk p ls ≡ (Done, [])

-- a token leads from its place to the place behind it
by_token : (p q : GrammarPlace) (s : Symbol) (b a : List Lexeme) → IsToken s b a → next p s ≡ Some q
    → Accepts q a → Accepts p b
by_token p q s b a h step rest = walk_token p q s b a h step ∙ rest

-- ---- a place that takes all that another takes

-- the place p takes whatever q takes, and goes on alike
abbrev Wider : GrammarPlace → GrammarPlace → Type 0
Wider p q = (x : Symbol) → next q x ≢ None → next p x ≡ next q x

-- one step of a wider place
wider_step : (p q : GrammarPlace) (l : Lexeme) (ls : List Lexeme) (o : Option GrammarPlace) → next q l.symbol ≡ o
    → (o ≢ None → next p l.symbol ≡ o) → option_map_or (λ a. walk a ls) o (q, l ∷ ls) ≡ (Done, [])
    → Accepts p (l ∷ ls)
wider_step p q l ls None step wide h =
    let e : l ∷ ls ≡ [] = ap (λ (x : GrammarPlace × List Lexeme). x.1) h in absurd cc
wider_step p q l ls (Some r) step wide h =
    ap (λ (o : Option GrammarPlace). option_map_or (λ a. walk a ls) o (p, l ∷ ls)) (wide (λ e. cc)) ∙ h

-- what leads to the end from a place leads there from a wider one
by_wider : (p q : GrammarPlace) → Wider p q → q ≢ Done → (ls : List Lexeme) → Accepts q ls → Accepts p ls
by_wider p q wide other [] h = absurd (other (ap (λ (x : GrammarPlace × List Lexeme). x.0) h))
by_wider p q wide other (l ∷ ls) h = wider_step p q l ls (next q l.symbol) refl (wide l.symbol) h

-- behind a name may stand what may stand behind a whole kind, and `:`
wide_kind : (st : DeclStatement) → Wider (DeclKind st) (DeclEnd st)
wide_kind InInst Colon h = absurd (h refl)
wide_kind InInst x h = refl
wide_kind InInstance Colon h = absurd (h refl)
wide_kind InInstance x h = refl

-- behind the first name of a kind may stand what may stand behind the second, and a name
wide_second : (st : DeclStatement) → Wider (KindSecond st) (DeclEnd st)
wide_second InInst (Named n) h = absurd (h refl)
wide_second InInst x h = refl
wide_second InInstance (Named n) h = absurd (h refl)
wide_second InInstance x h = refl

-- behind a decl may stand the end of the statement, and in `inst` a comma
wide_decl : (st : DeclStatement) → Wider (DeclEnd st) (StatementEnd (behind st))
wide_decl InInst Comma h = absurd (h refl)
wide_decl InInst x h = refl
wide_decl InInstance x h = refl

-- behind a message name may stand what may stand behind a message instance name, and a comma
wide_message : (w : Direction) (p : GrammarPlace) → Wider (AfterMessage w p) (AfterNumber w p)
wide_message directions.Output p Comma h = absurd (h refl)
wide_message directions.Output p x h = refl
wide_message directions.Input p Comma h = absurd (h refl)
wide_message directions.Input p x h = refl

-- behind a message instance name may stand what may stand behind parameters, and `(`
wide_number : (w : Direction) (p : GrammarPlace) → Wider (AfterNumber w p) (AfterParameters w p)
wide_number directions.Output p LeftParen h = absurd (h refl)
wide_number directions.Output p x h = refl
wide_number directions.Input p LeftParen h = absurd (h refl)
wide_number directions.Input p x h = refl

-- before the sections may stand what may stand between them, and `inst`
wide_header : Wider Header Sections
wide_header (Reserved words.Inst) h = absurd (h refl)
wide_header x h = refl

-- ---- parts

-- many parts lead back to their place
by_many : {X : Type 0} (IsPart : List Lexeme → X → List Lexeme → Type 0) (p : GrammarPlace)
    → ((b a : List Lexeme) (x : X) → IsPart b x a → Accepts p a → Accepts p b)
    → (xs : List X) (b a : List Lexeme) → AreMany IsPart b xs a → Accepts p a → Accepts p b
by_many IsPart p one [] b a h rest = ap (walk p) h ∙ rest
by_many IsPart p one (x ∷ xs) b a h rest = one b h.0 x h.1 (by_many IsPart p one xs h.0 a h.2 rest)

-- the end of a statement leads behind it
by_end : (p : GrammarPlace) (b a : List Lexeme) → IsEnd b a → Accepts p a → Accepts (StatementEnd p) b
by_end p b a (Plain h) rest = by_token (StatementEnd p) p Semicolon b a h refl rest
by_end p b a (Commented bytes text close h k l) rest =
    by_token (StatementEnd p) (CommentText p) (Reserved words.Comment) b text h refl (by_token (CommentText p) (CommentEnd p) (Quoted bytes) text close k refl (by_token (CommentEnd p) p Semicolon close a l refl rest))

-- a second name, or none, leads to the end of a decl
by_second : (st : DeclStatement) (ks : List (List ℕ)) (b a : List Lexeme) → IsSecond b ks a
    → Accepts (DeclEnd st) a → Accepts (KindSecond st) b
by_second st [] b a h rest =
    by_wider (KindSecond st) (DeclEnd st) (wide_second st) (λ e. cc) b (ap (walk (DeclEnd st)) h ∙ rest)
by_second st (k ∷ []) b a h rest = by_token _ (DeclEnd st) (Named k) b a h (second_leads st k) rest
by_second st (k ∷ l ∷ ks) b a h rest = absurd h

-- a kind, or none, leads to the end of a decl
by_kind : (st : DeclStatement) (ks : List (List ℕ)) (b a : List Lexeme) → IsKind b ks a
    → Accepts (DeclEnd st) a → Accepts (DeclKind st) b
by_kind st [] b a h rest =
    by_wider (DeclKind st) (DeclEnd st) (wide_kind st) (λ e. cc) b (ap (walk (DeclEnd st)) h ∙ rest)
by_kind st (k ∷ ks) b a h rest =
    by_token _ (KindFirst st) Colon b h.0 h.2 (colon_leads st) (by_token _ (KindSecond st) (Named k) h.0 h.1 h.3 refl (by_second st ks h.1 a h.4 rest))

-- a decl leads to its end
by_decl : (st : DeclStatement) (b a : List Lexeme) (d : Decl) → IsDecl b d a → Accepts (DeclEnd st) a
    → Accepts (DeclName st) b
by_decl st b a d h rest =
    by_token _ (DeclKind st) (Named d.name) b h.0 h.1 refl (by_kind st d.kind h.0 a h.2 rest)

-- the end of a statement with decls leads behind it
by_decl_end : (st : DeclStatement) (b a : List Lexeme) → IsEnd b a → Accepts (behind st) a
    → Accepts (DeclEnd st) b
by_decl_end st b a h rest =
    by_wider (DeclEnd st) (StatementEnd (behind st)) (wide_decl st) (λ e. cc) b (by_end (behind st) b a h rest)

-- an `inst` statement leads back to the header
by_inst : (b a : List Lexeme) (ds : List Decl) → IsLedBy (Reserved words.Inst) AreDecls b ds a
    → Accepts Header a → Accepts Header b
by_inst b a [] h rest = absurd h.2.1
by_inst b a (d ∷ ds) h rest =
    by_token Header (DeclName InInst) _ b h.0 h.1 refl (by_decl InInst h.0 h.2.1.0 d h.2.1.1
    (by_many (IsLedBy Comma IsDecl) (DeclEnd InInst) (λ c e x k more. by_token _ (DeclName InInst) Comma c k.0 k.1 refl (by_decl InInst k.0 e x k.2 more)) ds h.2.1.0 h.2.0 h.2.1.2
    (by_decl_end InInst h.2.0 a h.2.2 rest)))

-- a message instance name, or none, leads to what follows it
by_number : (w : Direction) (p : GrammarPlace) (o : Option (List ℕ)) (b a : List Lexeme) → IsNumber b o a
    → Accepts (AfterNumber w p) a → Accepts (AfterMessage w p) b
by_number w p None b a h rest =
    by_wider (AfterMessage w p) (AfterNumber w p) (wide_message w p) (λ e. cc) b (ap (walk (AfterNumber w p)) h ∙ rest)
by_number w p (Some n) b a h rest =
    by_token _ (Number w p) Comma b h.0 h.1 (comma_leads w p) (by_token _ _ (Named n) h.0 a h.2 refl rest)

-- names with commas between them lead behind the last of them
by_names : (w : Direction) (p : GrammarPlace) (ps : List (List ℕ)) (b a : List Lexeme) → AreListed IsNamed b ps a
    → Accepts (AfterParameter w p) a → Accepts (Parameters w p) b
by_names w p [] b a h rest = absurd h
by_names w p (x ∷ xs) b a h rest =
    by_token _ (AfterParameter w p) (Named x) b h.0 h.1 refl
    (by_many (IsLedBy Comma IsNamed) (AfterParameter w p) (λ c e y k more. by_token _ (Parameter w p) Comma c k.0 k.1 refl (by_token _ _ (Named y) k.0 e k.2 refl more)) xs h.0 a h.2 rest)

-- parameters, or none, lead to what follows them
by_parameters : (w : Direction) (p : GrammarPlace) (ps : List (List ℕ)) (b a : List Lexeme)
    → AreParameters b ps a → Accepts (AfterParameters w p) a → Accepts (AfterNumber w p) b
by_parameters w p ps b a (Absent none h) rest =
    by_wider (AfterNumber w p) (AfterParameters w p) (wide_number w p) (λ e. cc) b (ap (walk (AfterParameters w p)) h ∙ rest)
by_parameters w p ps b a (Empty close none h k) rest =
    by_token _ (Parameters w p) LeftParen b close h (open_leads w p) (by_token _ _ RightParen close a k refl rest)
by_parameters w p ps b a (Given names close h k l) rest =
    by_token _ (Parameters w p) LeftParen b names h (open_leads w p) (by_names w p ps names close k (by_token _ _ RightParen close a l refl rest))

-- a message event behind its first word leads behind the event
by_signal : (p : GrammarPlace) (b a : List Lexeme) (e : Signal) → IsSignal b e a → Accepts p a
    → Accepts (Message e.direction p) b
by_signal p b a e h rest =
    by_token _ (AfterMessage e.direction p) (Named e.name) b h.is_ident.number h.is_ident.is_name refl
    (by_number e.direction p e.number h.is_ident.number h.is_ident.parameters h.is_ident.is_number
    (by_parameters e.direction p e.parameters h.is_ident.parameters h.word h.is_ident.are_parameters
    (by_token _ (Address p) _ h.word h.address h.is_word (word_leads e.direction p)
    (by_token _ (StatementEnd p) (Named e.address) h.address h.close h.is_address refl (by_end p h.close a h.is_end rest)))))

-- an action behind its first word leads behind the action
by_action : (p : GrammarPlace) (b a : List Lexeme) (label : List ℕ) → IsAction b label a → Accepts p a
    → Accepts (ActionText p) b
by_action p b a label h rest =
    by_token _ (StatementEnd p) (Quoted label) b h.close h.is_text refl (by_end p h.close a h.is_end rest)

-- an event leads behind the event
by_event : (p : GrammarPlace) → LeadsToEvents p → (b a : List Lexeme) (x : Statement) → IsEvent b x a
    → Accepts p a → Accepts p b
by_event p leads b a (statements.Message e) h rest =
    by_token p (Message e.direction p) _ b h.0 h.1 (leads (openings.Message e.direction)) (by_signal p h.0 a e h.2 rest)
by_event p leads b a (statements.Action label) h rest =
    by_token p (ActionText p) _ b h.0 h.1 (leads openings.Action) (by_action p h.0 a label h.2 rest)

-- a coregion behind its first word leads to the next item
by_coregion : (b a : List Lexeme) (es : List Statement) → IsCoregion b es a → Accepts Items a
    → Accepts (StatementEnd Events) b
by_coregion b a es h rest =
    by_end Events b h.events h.is_end
    (by_many IsEvent Events (by_event Events event_leads) es h.events h.last h.are_events
    (by_token Events (StatementEnd Items) _ h.last h.close h.is_endconcurrent refl (by_end Items h.close a h.is_last_end rest)))

-- an item leads to the next item
by_item : (b a : List Lexeme) (x : Item) → IsItem b x a → Accepts Items a → Accepts Items b
by_item b a (Single e) h rest =
    by_event Items item_leads b a e h rest
by_item b a (Coregion es) h rest =
    by_token Items (StatementEnd Events) _ b h.0 h.1 refl (by_coregion h.0 a es h.2 rest)

-- a section leads to the next section
by_section : (b a : List Lexeme) (s : Section) → IsSection b s a → Accepts Sections a
    → Accepts Sections b
by_section b a s h rest =
    let k = h.2 in
    by_token Sections (DeclName InInstance) _ b h.0 h.1 refl (by_decl InInstance h.0 k.close s.decl k.is_decl (by_decl_end InInstance k.close k.items k.is_end
    (by_many IsItem Items by_item s.items k.items k.last k.are_items (by_token Items (StatementEnd Sections) _ k.last k.last_close k.is_endinstance refl (by_end Sections k.last_close a k.is_last_end rest)))))

-- ---- the whole chart

-- a chart leads from the start to the end of the text
pub chart_walks : (ls : List Lexeme) (t : Tree) → IsChart ls t → walk Start ls ≡ (Done, [])
chart_walks ls t h =
    by_token Start ChartName _ ls h.name h.is_msc refl (by_token ChartName (StatementEnd Header) (Named t.name) h.name h.close h.is_name refl (by_end Header h.close h.header h.is_end
    (by_many (IsLedBy (Reserved words.Inst) AreDecls) Header by_inst h.is_header.0 h.header h.sections h.is_header.2
    (by_wider Header Sections wide_header (λ e. cc) h.sections
    (by_many IsSection Sections by_section t.sections h.sections h.last h.are_sections (by_token Sections (StatementEnd Done) _ h.last h.last_close h.is_endmsc refl (by_end Done h.last_close [] h.is_last_end refl)))))))
