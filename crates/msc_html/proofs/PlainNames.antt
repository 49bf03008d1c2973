-- The names of a draft's chart are plain: the grammar has letters, digits and underscores in them.
use Rattle.std.proofs.Common.{◌≡◌, ℕ, zero, suc, ◌+◌, ◌<◌, Bool, true, false, cond, List, [], ◌∷◌, ◌++◌, Option, None, Some, length, get_or, map, refl, subst, arith}
use Rattle.std.specs.List.{flat_map, list_all, AllByRecursion}
use Rattle.std.specs.Prelude.{codes, slice_get, IfSome}
use Rattle.std.proofs.lemmas.Bool.{and_parts, and_from}
use Rattle.msc_chart.specs.Charting.{messages_from}
use Rattle.msc_chart.specs.Drawings.{chart_of, no_message}
use Rattle.msc_chart.specs.Events.{Act, MessageEnd, acts_of, drawn, end_by, events_of, events_of_item, events_of_items, events_of_sections, instances_of, next_segment, DraftEvent}
use Rattle.msc_chart.specs.Events.Act.{OfMessage, Action}
use Rattle.msc_chart.specs.declared.message.Message.{Message}
use Rattle.msc_lexer.specs.Bytes.{is_run_byte}
use Rattle.msc_lexer.specs.Lexemes.{IsName}
use Rattle.msc_parser.specs.Drafts.{IsDraft, IsItemNamed, IsSectionNamed, IsSignalNamed, IsStatementNamed}
use Rattle.msc_parser.specs.Grammar.{Tree}
use Rattle.msc_parser.specs.declared.tree.Item.{Item}
use Rattle.msc_parser.specs.declared.tree.Item.TheVariants.{Single, Coregion}
use Rattle.msc_parser.specs.declared.tree.Section.{Section}
use Rattle.msc_parser.specs.declared.tree.Signal.{Signal}
use Rattle.msc_parser.specs.declared.tree.Statement.{Statement}
use Rattle.msc_parser.specs.declared.tree.Statement.TheVariants as statements
use Rattle.msc_parser.specs.declared.tree.Direction.{Direction}
use Rattle.msc_parser.specs.declared.tree.Direction.TheVariants.{Output, Input}
use Rattle.msc_picture.specs.declared.scene.Head.{Head}
use Rattle.msc_picture.specs.Plain.{HasPlainNames, IsPlain, is_plain, is_plain_byte}
use Rattle.msc_picture.specs.Scenes.{head_of, kind_text, message_text, next_name, number_text}
use Rattle.msc_picture.proofs.PlainBytes.{plain_by, plain_join}
use Rattle.msc_html.specs.Plain.{HasPlainInstances}

-- a byte of a name is plain
byte_plain : (b : ℕ) → is_run_byte b ≡ true → is_plain_byte b ≡ true
byte_plain b p = grind arith

-- bytes of names are
run_plain : (bs : List ℕ) → list_all is_run_byte bs ≡ true → is_plain bs ≡ true
unfolding is_plain
run_plain [] p = refl
run_plain (b ∷ bs) p = let parts = and_parts _ _ p in and_from _ _ (byte_plain b parts.0) (run_plain bs parts.1)

-- so names are
name_plain : (name : List ℕ) → IsName name → is_plain name ≡ true
name_plain name is = run_plain name is.run

-- a further name of a kind, behind a blank
next_plain : (name : List ℕ) → IsName name → is_plain (next_name name) ≡ true
unfolding is_plain
next_plain name is = and_from _ _ refl (name_plain name is)

-- further names
rest_plain : (names : List (List ℕ)) → AllByRecursion IsName names → is_plain (flat_map next_name names) ≡ true
rest_plain [] all = plain_by [] refl
rest_plain (name ∷ names) (is, all) = plain_join (next_name name) (flat_map next_name names) (next_plain name is) (rest_plain names all)

-- a kind
kind_plain : (names : List (List ℕ)) → AllByRecursion IsName names → is_plain (kind_text names) ≡ true
kind_plain [] all = plain_by [] refl
kind_plain (name ∷ names) (is, all) = plain_join name (flat_map next_name names) (name_plain name is) (rest_plain names all)

-- heads have plain texts
heads_plain : (ss : List Section) (i : ℕ) (h : Head) → AllByRecursion IsSectionNamed ss → slice_get (map head_of ss) i ≡ Some h
    → IsPlain h.name × IsPlain h.kind
heads_plain [] i h all same = cc
heads_plain (s ∷ ss) zero h (is, all) same =
    let here : head_of s ≡ h = cc in
    subst (λ (x : Head). IsPlain x.name × IsPlain x.kind) here (name_plain s.decl.name is.decl.name, kind_plain s.decl.kind is.decl.kind)
heads_plain (s ∷ ss) (suc i) h (is, all) same = heads_plain ss i h all same

-- the names of sections are plain
names_of_sections : (ss : List Section) (i : ℕ) → AllByRecursion IsSectionNamed ss
    → is_plain (get_or (map (λ s. s.decl.name) ss) i []) ≡ true
names_of_sections [] i all = plain_by [] refl
names_of_sections (s ∷ ss) zero (is, all) = name_plain s.decl.name is.decl.name
names_of_sections (s ∷ ss) (suc i) (is, all) = names_of_sections ss i all

-- so are those of a draft's instances
pub instances_plain : (draft : Tree) → IsDraft draft → HasPlainInstances (chart_of draft)
unfolding instances_of
instances_plain draft is = λ i. names_of_sections draft.sections i is.sections

-- the names of the message of an act are names
abbrev IsNamedAct : Act → Type 0
IsNamedAct (OfMessage x) = IsName x.key.name × IfSome x.key.number IsName
IsNamedAct (Action text) = IsPlain []

-- those of an event of a draft
abbrev IsNamedEvent : DraftEvent → Type 0
IsNamedEvent e = IsNamedAct e.act

end_named : (way : Direction) (own : List ℕ) (s : Signal) → IsSignalNamed s → IsNamedAct (OfMessage (end_by way own s))
end_named Output own s is = (is.name, is.number)
end_named Input own s is = (is.name, is.number)

statement_named : (line : ℕ) (own : List ℕ) (segment : ℕ) (s : Statement) → IsStatementNamed s → IsNamedEvent (drawn line own segment s)
statement_named line own segment (statements.Message s) is = end_named s.direction own s is
statement_named line own segment (statements.Action text) is = plain_by [] refl

coregion_named : (line : ℕ) (own : List ℕ) (segment : ℕ) (ss : List Statement) → AllByRecursion IsStatementNamed ss
    → AllByRecursion IsNamedEvent (map (drawn line own segment) ss)
coregion_named line own segment [] all = tt
coregion_named line own segment (s ∷ ss) (is, all) = (statement_named line own segment s is, coregion_named line own segment ss all)

all_join : (xs ys : List DraftEvent) → AllByRecursion IsNamedEvent xs → AllByRecursion IsNamedEvent ys → AllByRecursion IsNamedEvent (xs ++ ys)
all_join [] ys one all = all
all_join (x ∷ xs) ys (is, one) all = (is, all_join xs ys one all)

item_named : (line : ℕ) (own : List ℕ) (segment : ℕ) (i : Item) → IsItemNamed i → AllByRecursion IsNamedEvent (events_of_item line own segment i)
item_named line own segment (Single s) is = (statement_named line own segment s is, tt)
item_named line own segment (Coregion ss) all = coregion_named line own segment ss all

items_named : (line : ℕ) (own : List ℕ) (segment : ℕ) (is : List Item) → AllByRecursion IsItemNamed is
    → AllByRecursion IsNamedEvent (events_of_items line own segment is)
items_named line own segment [] all = tt
items_named line own segment (i ∷ is) (one, all) =
    all_join (events_of_item line own segment i) _ (item_named line own segment i one) (items_named line own (next_segment segment i) is all)

sections_named : (line : ℕ) (ss : List Section) → AllByRecursion IsSectionNamed ss → AllByRecursion IsNamedEvent (events_of_sections line ss)
sections_named line [] all = tt
sections_named line (s ∷ ss) (is, all) =
    all_join (events_of_items line s.decl.name 0 s.items) _ (items_named line s.decl.name 0 s.items is.items) (sections_named (line + 1) ss all)

-- what messages are called is plain
number_plain : (number : Option (List ℕ)) → IfSome number IsName → is_plain (number_text number) ≡ true
number_plain None is = plain_by [] refl
number_plain (Some name) is = plain_join (codes ", ") name (plain_by (codes ", ") refl) (name_plain name is)

-- a message is
abbrev IsPlainMessage : Message → Type 0
IsPlainMessage m = IsPlain (message_text m)

sent_plain : (e : ℕ) (x : MessageEnd) → IsNamedAct (OfMessage x) → IsPlainMessage (record { name = x.key.name; number = x.key.number; output = e })
sent_plain e x (name, number) =
    plain_join x.key.name (number_text x.key.number) (name_plain x.key.name name) (number_plain x.key.number number)

if_sent : (sends : Bool) (m : Message) (ms : List Message) → IsPlainMessage m → AllByRecursion IsPlainMessage ms
    → AllByRecursion IsPlainMessage (cond sends (m ∷ ms) ms)
if_sent true m ms is all = (is, all)
if_sent false m ms is all = all

-- and so are the messages of acts
messages_plain : (e : ℕ) (xs : List Act) → AllByRecursion IsNamedAct xs → AllByRecursion IsPlainMessage (messages_from e xs)
messages_plain e [] all = tt
messages_plain e (OfMessage x ∷ xs) (is, all) =
    if_sent x.sends (record { name = x.key.name; number = x.key.number; output = e }) (messages_from (e + 1) xs) (sent_plain e x is) (messages_plain (e + 1) xs all)
messages_plain e (Action text ∷ xs) (is, all) = messages_plain (e + 1) xs all

acts_named : (es : List DraftEvent) → AllByRecursion IsNamedEvent es → AllByRecursion IsNamedAct (map (λ e. e.act) es)
acts_named [] all = tt
acts_named (e ∷ es) (is, all) = (is, acts_named es all)

message_at_plain : (ms : List Message) (m : ℕ) → m < length ms → AllByRecursion IsPlainMessage ms → IsPlainMessage (get_or ms m no_message)
message_at_plain [] m less all = absurd (omega (arith, less))
message_at_plain (x ∷ xs) zero less (is, all) = is
message_at_plain (x ∷ xs) (suc m) less (is, all) = message_at_plain xs m (omega (arith, less)) all

-- the names of a draft's chart are plain
pub names_plain : (draft : Tree) → IsDraft draft → HasPlainNames draft (chart_of draft)
unfolding events_of acts_of
names_plain draft is = record {
  name = name_plain draft.name is.name;
  heads = λ i h same. heads_plain draft.sections i h is.sections same;
  messages = λ m less. message_at_plain (messages_from 0 (acts_of draft)) m less
      (messages_plain 0 (acts_of draft) (acts_named (events_of draft) (sections_named 0 draft.sections is.sections)));
}
