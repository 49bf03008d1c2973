-- A chart has no more decls and statements than tokens.
use Rattle.std.proofs.Common.{◌≡◌, ℕ, ◌+◌, ◌≤◌, List, [], ◌∷◌, length, Option, Some, None, ap, arith}
use Rattle.std.specs.List.{flat_map}
use Rattle.std.proofs.lemmas.List.{length-append}
use Rattle.msc_lexer.specs.declared.word.Word.TheVariants as words
use Rattle.msc_lexer.specs.Lexemes.{Symbol, Reserved, Comma, Lexeme}
use Rattle.msc_parser.specs.declared.tree.Statement.TheVariants.{Message, Action}
use Rattle.msc_parser.specs.declared.tree.Item.TheVariants.{Single, Coregion}
use Rattle.msc_parser.specs.Forms.{IsToken, IsNamed, AreMany, IsLedBy}
use Rattle.msc_parser.specs.Grammar.{Tree, IsEnd, Plain, Commented, IsSecond, IsKind, IsDecl, IsNumber, AreParameters, Absent, Empty, Given, IsAction, IsMessage, IsEvent, IsCoregion, IsItem, IsSection, AreDecls, IsChart}
use Rattle.msc_parser.specs.Drafts.{statements_in, statements_of}

-- a part of this size takes as many tokens, or more
abbrev TakesAsMany : {X : Type 0} → (List Lexeme → X → List Lexeme → Type 0) → (X → ℕ) → Type 0
TakesAsMany {X} IsPart size =
    (b a : List Lexeme) (x : X) → IsPart b x a → size x + length a ≤ length b

-- one token
takes_token : (s : Symbol) (b a : List Lexeme) → IsToken s b a → length b ≡ 1 + length a
takes_token s b a h = let e = ap length h.1 in omega (arith, e)

-- many parts take as many tokens as they have elements, where each gives a list of its elements
takes_many : {X Y : Type 0} (IsPart : List Lexeme → X → List Lexeme → Type 0) (f : X → List Y)
    → TakesAsMany IsPart (λ x. length (f x))
    → TakesAsMany (AreMany IsPart) (λ xs. length (flat_map f xs))
takes_many IsPart f one b a [] h = let e = ap length h in omega (arith, e)
takes_many IsPart f one b a (x ∷ xs) h =
    let first = one b h.0 x h.1 in let others = takes_many IsPart f one h.0 a xs h.2 in omega (arith, first, others, length-append (f x) (flat_map f xs))

-- many parts take as many tokens as they are
takes_each : {X : Type 0} (IsPart : List Lexeme → X → List Lexeme → Type 0)
    → TakesAsMany IsPart (λ x. 1) → TakesAsMany (AreMany IsPart) (λ xs. length xs)
takes_each IsPart one b a [] h = let e = ap length h in omega (arith, e)
takes_each IsPart one b a (x ∷ xs) h =
    let first = one b h.0 x h.1 in let others = takes_each IsPart one h.0 a xs h.2 in omega (arith, first, others)

-- a part behind a token takes no fewer than the part
takes_behind : {X : Type 0} (s : Symbol) (IsPart : List Lexeme → X → List Lexeme → Type 0)
    (size : X → ℕ) → TakesAsMany IsPart size → TakesAsMany (IsLedBy s IsPart) size
takes_behind s IsPart size one b a x h =
    let t = takes_token s b h.0 h.1 in let r = one h.0 a x h.2 in omega (arith, t, r)

-- the end of a statement takes no less than nothing
takes_end : (b a : List Lexeme) → IsEnd b a → length a ≤ length b
takes_end b a (Plain h) = let t = takes_token _ b a h in omega (arith, t)
takes_end b a (Commented bytes text close h k l) =
    let t = takes_token _ b text h in let u = takes_token _ text close k in let v = takes_token _ close a l in omega (arith, t, u, v)

-- ---- decls

-- a second name takes no less than nothing
takes_second : (ks : List (List ℕ)) (b a : List Lexeme) → IsSecond b ks a → length a ≤ length b
takes_second [] b a h = let e = ap length h in omega (arith, e)
takes_second (k ∷ []) b a h = let t = takes_token _ b a h in omega (arith, t)
takes_second (k ∷ l ∷ ks) b a h = absurd h

-- a kind takes no less than nothing
takes_kind : (ks : List (List ℕ)) (b a : List Lexeme) → IsKind b ks a → length a ≤ length b
takes_kind [] b a h = let e = ap length h in omega (arith, e)
takes_kind (k ∷ ks) b a h =
    let t = takes_token _ b h.0 h.2 in let u = takes_token _ h.0 h.1 h.3 in let v = takes_second ks h.1 a h.4 in omega (arith, t, u, v)

-- a decl takes a token, or more
takes_decl : TakesAsMany IsDecl (λ d. 1)
takes_decl b a d h =
    let t = takes_token _ b h.0 h.1 in let k = takes_kind d.kind h.0 a h.2 in omega (arith, t, k)

-- the decls of an `inst` statement take as many tokens, or more
takes_decls : TakesAsMany AreDecls (λ ds. length ds)
takes_decls b a [] h = absurd h.1
takes_decls b a (d ∷ ds) h =
    let first = takes_decl b h.1.0 d h.1.1 in
    let others = takes_each (IsLedBy Comma IsDecl) (takes_behind Comma IsDecl (λ d. 1) takes_decl) h.1.0 h.0 ds h.1.2 in
    let end = takes_end h.0 a h.2 in
    omega (arith, first, others, end)

-- ---- events

-- a message instance name takes no less than nothing
takes_number : (o : Option (List ℕ)) (b a : List Lexeme) → IsNumber b o a → length a ≤ length b
takes_number None b a h = let e = ap length h in omega (arith, e)
takes_number (Some n) b a h =
    let t = takes_token _ b h.0 h.1 in let u = takes_token _ h.0 a h.2 in omega (arith, t, u)

-- a name takes a token
takes_name : TakesAsMany IsNamed (λ n. 1)
takes_name b a n h = let t = takes_token _ b a h in omega (arith, t)

-- parameters take no less than nothing
takes_parameters : (ps : List (List ℕ)) (b a : List Lexeme) → AreParameters b ps a
    → length a ≤ length b
takes_parameters ps b a (Absent none h) = let e = ap length h in omega (arith, e)
takes_parameters ps b a (Empty close none h k) =
    let t = takes_token _ b close h in let u = takes_token _ close a k in omega (arith, t, u)
takes_parameters [] b a (Given names close h k l) = absurd k
takes_parameters (p ∷ ps) b a (Given names close h k l) =
    let t = takes_token _ b names h in
    let u = takes_token _ names k.0 k.1 in
    let v = takes_each (IsLedBy Comma IsNamed) (takes_behind Comma IsNamed (λ n. 1) takes_name) k.0 close ps k.2 in
    let w = takes_token _ close a l in
    omega (arith, t, u, v, w)

-- a message event takes a token, or more
takes_message : TakesAsMany IsMessage (λ e. 1)
takes_message b a e h =
    let k = h.2 in
    let i = k.is_ident in
    let t0 = takes_token _ b h.0 h.1 in
    let t1 = takes_token _ h.0 i.number i.is_name in
    let t2 = takes_number e.number i.number i.parameters i.is_number in
    let t3 = takes_parameters e.parameters i.parameters k.word i.are_parameters in
    let t4 = takes_token _ k.word k.address k.is_word in
    let t5 = takes_token _ k.address k.close k.is_address in
    let t6 = takes_end k.close a k.is_end in
    omega (arith, t0, t1, t2, t3, t4, t5, t6)

-- an action behind its first word takes no less than nothing
takes_action : (l : List ℕ) (b a : List Lexeme) → IsAction b l a → length a ≤ length b
takes_action l b a h =
    let t = takes_token _ b h.close h.is_text in let u = takes_end h.close a h.is_end in omega (arith, t, u)

-- an event takes a token, or more
takes_event : TakesAsMany IsEvent (λ e. 1)
takes_event b a (Message e) h = takes_message b a e h
takes_event b a (Action l) h =
    let t = takes_token _ b h.0 h.1 in let u = takes_action l h.0 a h.2 in omega (arith, t, u)

-- a coregion takes as many tokens as it has events, or more
takes_coregion : TakesAsMany IsCoregion (λ es. length es)
takes_coregion b a es h =
    let t0 = takes_end b h.events h.is_end in
    let t1 = takes_each IsEvent takes_event h.events h.last es h.are_events in
    let t2 = takes_token _ h.last h.close h.is_endconcurrent in
    let t3 = takes_end h.close a h.is_last_end in
    omega (arith, t0, t1, t2, t3)

-- an item takes as many tokens as it has events, or more
takes_item : TakesAsMany IsItem (λ x. length (statements_in x))
takes_item b a (Single e) h = takes_event b a e h
takes_item b a (Coregion es) h =
    takes_behind (Reserved words.Concurrent) IsCoregion (λ es. length es) takes_coregion b a es h

-- a section takes as many tokens as it has events, or more
takes_section : TakesAsMany IsSection (λ s. length (flat_map statements_in s.items))
takes_section b a s h =
    let k = h.2 in
    let t0 = takes_token _ b h.0 h.1 in
    let t1 = takes_decl h.0 k.close s.decl k.is_decl in
    let t2 = takes_end k.close k.items k.is_end in
    let t3 = takes_many IsItem statements_in takes_item k.items k.last s.items k.are_items in
    let t4 = takes_token _ k.last k.last_close k.is_endinstance in
    let t5 = takes_end k.last_close a k.is_last_end in
    omega (arith, t0, t1, t2, t3, t4, t5)

-- ---- the whole chart

-- a chart takes as many tokens as it has decls in the header and statements, or more
pub chart_takes : (ls : List Lexeme) (t : Tree) → IsChart ls t
    → length t.header + length (statements_of t.sections) ≤ length ls
chart_takes ls t h =
    let t0 = takes_token _ ls h.name h.is_msc in
    let t1 = takes_token _ h.name h.close h.is_name in
    let t2 = takes_end h.close h.header h.is_end in
    let t3 = takes_many (IsLedBy (Reserved words.Inst) AreDecls) (λ g. g) (takes_behind (Reserved words.Inst) AreDecls (λ ds. length ds) takes_decls) h.header h.sections h.is_header.0 h.is_header.2 in
    let t4 = takes_many IsSection (λ s. flat_map statements_in s.items) takes_section h.sections h.last t.sections h.are_sections in
    let e = ap length h.is_header.1 in
    omega (arith, t0, t1, t2, t3, t4, e)
