-- The names of a chart are names that a text can have, and a chart is no longer than its tokens: so it
-- is a draft.
use Rattle.std.proofs.Common.{ℕ, ◌≤◌, List, [], ◌∷◌, ◌++◌, length, Option, Some, None, sym, subst, arith}
use Rattle.std.specs.Prelude.{IfSome}
use Rattle.std.specs.List.{flat_map, AllByRecursion}
use Rattle.msc_lexer.specs.declared.TheConstants.{TEXT_LIMIT}
use Rattle.msc_lexer.specs.declared.word.Word.TheVariants as words
use Rattle.msc_lexer.specs.Lexemes.{Symbol, Reserved, Named, Quoted, Semicolon, Comma, Colon, LeftParen, RightParen, Lexeme, IsName, HasName, HaveNames}
use Rattle.msc_parser.specs.declared.tree.Statement.TheVariants.{Message, Action}
use Rattle.msc_parser.specs.declared.tree.Item.TheVariants.{Single, Coregion}
use Rattle.msc_parser.specs.Forms.{IsToken, IsNamed, AreMany, IsLedBy, AreListed}
use Rattle.msc_parser.specs.Grammar.{Tree, IsEnd, Plain, Commented, IsSecond, IsKind, IsDecl, IsNumber, AreParameters, Absent, Empty, Given, IsMessage, IsEvent, IsCoregion, IsItem, IsSection, AreDecls, IsChart}
use Rattle.msc_parser.specs.Drafts.{IsDeclNamed, IsSignalNamed, IsStatementNamed, IsItemNamed, IsSectionNamed, IsDraft}
use Rattle.msc_parser.proofs.Counting.{chart_takes}

-- of tokens with names a part has them, and what follows too
abbrev Names : {X : Type 0} → (List Lexeme → X → List Lexeme → Type 0) → (X → Type 0) → Type 0
Names {X} IsPart P = (b a : List Lexeme) (x : X) → IsPart b x a → HaveNames b → P x × HaveNames a

-- a token takes its own name alone
token_names : (s : Symbol) (b a : List Lexeme) → IsToken s b a → HaveNames b
    → HasName s × HaveNames a
token_names s b a h names = subst HaveNames h.1 names

-- the parts of many have names
many_names : {X : Type 0} (IsPart : List Lexeme → X → List Lexeme → Type 0) (P : X → Type 0)
    → Names IsPart P → Names (AreMany IsPart) (AllByRecursion P)
many_names IsPart P one b a [] h names = (tt, subst HaveNames h names)
many_names IsPart P one b a (x ∷ xs) h names =
    let first = one b h.0 x h.1 names in
    let others = many_names IsPart P one h.0 a xs h.2 first.1 in
    ((first.0, others.0), others.1)

-- a part behind a token has names
behind_names : {X : Type 0} (s : Symbol) (IsPart : List Lexeme → X → List Lexeme → Type 0)
    (P : X → Type 0) → Names IsPart P → Names (IsLedBy s IsPart) P
behind_names s IsPart P one b a x h names = one h.0 a x h.2 (token_names s b h.0 h.1 names).1

-- parts with commas between them have names
listed_names : {X : Type 0} (IsPart : List Lexeme → X → List Lexeme → Type 0) (P : X → Type 0)
    → Names IsPart P → Names (AreListed IsPart) (AllByRecursion P)
listed_names IsPart P one b a [] h names = absurd h
listed_names IsPart P one b a (x ∷ xs) h names =
    let first = one b h.0 x h.1 names in
    let others = many_names (IsLedBy Comma IsPart) P (behind_names Comma IsPart P one) h.0 a xs h.2 first.1 in
    ((first.0, others.0), others.1)

-- behind the end of a statement tokens have names
end_names : (b a : List Lexeme) → IsEnd b a → HaveNames b → HaveNames a
end_names b a (Plain h) names = (token_names Semicolon b a h names).1
end_names b a (Commented bytes text close h k l) names =
    (token_names _ close a l (token_names _ text close k (token_names _ b text h names).1).1).1

-- ---- decls

-- a second name is a name, and there is at most one
second_names : (ks : List (List ℕ)) (b a : List Lexeme) → IsSecond b ks a → HaveNames b
    → AllByRecursion IsName ks × (length ks ≤ 1) × HaveNames a
second_names [] b a h names = (tt, omega arith, subst HaveNames h names)
second_names (k ∷ []) b a h names =
    let t = token_names (Named k) b a h names in ((t.0, tt), omega arith, t.1)
second_names (k ∷ l ∷ ks) b a h names = absurd h

-- a kind is of at most two names
kind_names : (ks : List (List ℕ)) (b a : List Lexeme) → IsKind b ks a → HaveNames b
    → AllByRecursion IsName ks × (length ks ≤ 2) × HaveNames a
kind_names [] b a h names = (tt, omega arith, subst HaveNames h names)
kind_names (k ∷ ks) b a h names =
    let t = token_names (Named k) h.0 h.1 h.3 (token_names Colon b h.0 h.2 names).1 in
    let u = second_names ks h.1 a h.4 t.1 in
    let short : length (k ∷ ks) ≤ 2 = let s = u.1 in omega (arith, s) in
    ((t.0, u.0), short, u.2)

-- a decl is of names
decl_names : Names IsDecl IsDeclNamed
decl_names b a d h names =
    let t = token_names (Named d.name) b h.0 h.1 names in
    let k = kind_names d.kind h.0 a h.2 t.1 in
    (record { name = t.0; kind = k.0; short = k.1 }, k.2)

-- the decls of an `inst` statement are of names
decls_names : Names AreDecls (AllByRecursion IsDeclNamed)
decls_names b a ds h names =
    let t = listed_names IsDecl IsDeclNamed decl_names b h.0 ds h.1 names in
    (t.0, end_names h.0 a h.2 t.1)

-- ---- events

-- a message instance name is a name
number_names : (o : Option (List ℕ)) (b a : List Lexeme) → IsNumber b o a → HaveNames b
    → IfSome o IsName × HaveNames a
number_names None b a h names = (tt, subst HaveNames h names)
number_names (Some n) b a h names =
    token_names (Named n) h.0 a h.2 (token_names Comma b h.0 h.1 names).1

-- a name is a name
name_names : Names IsNamed IsName
name_names b a n h names = token_names (Named n) b a h names

-- parameters are names
parameters_names : (ps : List (List ℕ)) (b a : List Lexeme) → AreParameters b ps a → HaveNames b
    → AllByRecursion IsName ps × HaveNames a
parameters_names ps b a (Absent none h) names =
    (subst (AllByRecursion IsName) (sym none) tt, subst HaveNames h names)
parameters_names ps b a (Empty close none h k) names =
    (subst (AllByRecursion IsName) (sym none) tt, (token_names RightParen close a k (token_names LeftParen b close h names).1).1)
parameters_names ps b a (Given inner close h k l) names =
    let t = listed_names IsNamed IsName name_names inner close ps k (token_names LeftParen b inner h names).1 in
    (t.0, (token_names RightParen close a l t.1).1)

-- a message event is of names
message_names : Names IsMessage IsSignalNamed
message_names b a e h names =
    let k = h.2 in
    let i = k.is_ident in
    let t0 = token_names _ b h.0 h.1 names in
    let t1 = token_names (Named e.name) h.0 i.number i.is_name t0.1 in
    let t2 = number_names e.number i.number i.parameters i.is_number t1.1 in
    let t3 = parameters_names e.parameters i.parameters k.word i.are_parameters t2.1 in
    let t4 = token_names _ k.word k.address k.is_word t3.1 in
    let t5 = token_names (Named e.address) k.address k.close k.is_address t4.1 in
    (record { name = t1.0; number = t2.0; parameters = t3.0; address = t5.0 }, end_names k.close a k.is_end t5.1)

-- an event is of names
event_names : Names IsEvent IsStatementNamed
event_names b a (Message e) h names = message_names b a e h names
event_names b a (Action l) h names =
    let k = h.2 in
    let t0 = token_names _ b h.0 h.1 names in
    let t1 = token_names (Quoted l) h.0 k.close k.is_text t0.1 in
    (tt, end_names k.close a k.is_end t1.1)

-- the events of a coregion are of names
coregion_names : Names IsCoregion (AllByRecursion IsStatementNamed)
coregion_names b a es h names =
    let t = many_names IsEvent IsStatementNamed event_names h.events h.last es h.are_events (end_names b h.events h.is_end names) in
    (t.0, end_names h.close a h.is_last_end (token_names _ h.last h.close h.is_endconcurrent t.1).1)

-- an item is of names
item_names : Names IsItem IsItemNamed
item_names b a (Single e) h names = event_names b a e h names
item_names b a (Coregion es) h names =
    behind_names (Reserved words.Concurrent) IsCoregion (AllByRecursion IsStatementNamed) coregion_names b a es h names

-- a section is of names
section_names : Names IsSection IsSectionNamed
section_names b a s h names =
    let k = h.2 in
    let t0 = token_names _ b h.0 h.1 names in
    let t1 = decl_names h.0 k.close s.decl k.is_decl t0.1 in
    let t2 = many_names IsItem IsItemNamed item_names k.items k.last s.items k.are_items (end_names k.close k.items k.is_end t1.1) in
    (record { decl = t1.0; items = t2.0 }, end_names k.last_close a k.is_last_end (token_names _ k.last k.last_close k.is_endinstance t2.1).1)

-- ---- the whole chart

-- what holds of the elements of two lists holds of both together
append_all : {X : Type 0} (P : X → Type 0) (xs ys : List X) → AllByRecursion P xs
    → AllByRecursion P ys → AllByRecursion P (xs ++ ys)
append_all P [] ys h g = g
append_all P (x ∷ xs) ys h g = (h.0, append_all P xs ys h.1 g)

-- what holds of the elements of each group holds of all
flat_all : {X : Type 0} (P : X → Type 0) (groups : List (List X))
    → AllByRecursion (AllByRecursion P) groups → AllByRecursion P (flat_map (λ g. g) groups)
flat_all P [] h = tt
flat_all P (g ∷ groups) h = append_all P g (flat_map (λ g. g) groups) h.0 (flat_all P groups h.1)

-- a chart of few tokens with names is a draft
pub chart_draft : (ls : List Lexeme) (t : Tree) → IsChart ls t → HaveNames ls
    → length ls ≤ TEXT_LIMIT → IsDraft t
chart_draft ls t h names few =
    let t0 = token_names _ ls h.name h.is_msc names in
    let t1 = token_names (Named t.name) h.name h.close h.is_name t0.1 in
    let t2 = many_names (IsLedBy (Reserved words.Inst) AreDecls) (AllByRecursion IsDeclNamed) (behind_names (Reserved words.Inst) AreDecls (AllByRecursion IsDeclNamed) decls_names) h.header h.sections h.is_header.0 h.is_header.2 (end_names h.close h.header h.is_end t1.1) in
    let t3 = many_names IsSection IsSectionNamed section_names h.sections h.last t.sections h.are_sections t2.1 in
    let takes = chart_takes ls t h in
    record {
      name = t1.0;
      header = subst (AllByRecursion IsDeclNamed) (sym h.is_header.1) (flat_all IsDeclNamed h.is_header.0 t2.0);
      few_decls = omega (arith, takes, few);
      sections = t3.0;
      few_statements = omega (arith, takes, few);
    }
