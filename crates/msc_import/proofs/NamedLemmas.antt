-- What is drawn has names of charts alone.
use Rattle.std.proofs.Common.{◌≡◌, ◌≢◌, ◌<◌, ◌≤◌, ℕ, ◌+◌, Bool, true, false, not, ◌&&◌, ◌||◌, cond, List, [], ◌∷◌, ◌++◌, length, get_or, drop, map, Option, None, Some, is_none, nat_le, codes, refl, sym, ap, ◌∙◌, subst, lit≤}
use Rattle.std.specs.List.{AllByRecursion, list_all}
use Rattle.std.specs.Str.{bytes_eq}
use Rattle.std.proofs.lemmas.Bool.{leb-true, false≢true}
use Rattle.std.proofs.lemmas.List.{drop_more, drop_all}
use Rattle.msc_lexer.specs.declared.TheConstants.{NAME_LIMIT, TEXT_LIMIT}
use Rattle.msc_lexer.specs.Bytes.{is_run_byte}
use Rattle.msc_lexer.specs.Lexemes.{IsName}
use Rattle.msc_lexer.specs.declared.word.Word.{Word}
use Rattle.msc_lexer.specs.Words.{word_of}
use Rattle.msc_parser.specs.declared.tree.Decl.{Decl}
use Rattle.msc_parser.specs.declared.tree.Section.{Section}
use Rattle.msc_parser.specs.Drafts.{IsDeclNamed, IsStatementNamed, IsItemNamed, IsSectionNamed, IsDraft, statements_of}
use Rattle.msc_scenarios.specs.declared.steps.Message.{Message}
use Rattle.msc_import.specs.declared.plan.Side.{Side}
use Rattle.msc_import.specs.declared.plan.Side.TheVariants as sides
use Rattle.msc_mermaid.specs.declared.statement.Placed.{Placed}
use Rattle.msc_scenarios.specs.Naming.{kind_of, made}
use Rattle.msc_mermaid.specs.Patterns.{is_empty}
use Rattle.msc_import.specs.Drafting.{is_chart_name, fitted, drawn_side, drawn_event, drawn_item, drawn_items, between, decl_of, kind_by, shown_of, line_name, section_of, sections_on, tree_of}
use Rattle.msc_import.specs.Plans.{Event, Plan}

-- both parts of a test
both : (a b : Bool) → (a && b) ≡ true → (a ≡ true) × (b ≡ true)
both true b e = (refl, e)
both false b e = absurd (false≢true e)

not_empty : (name : List ℕ) → not (is_empty name) ≡ true → name ≢ []
not_empty [] e = λ _. false≢true e
not_empty (b ∷ bs) e = λ h. cc

is_free : (o : Option Word) → is_none o ≡ true → o ≡ None
is_free None e = refl
is_free (Some w) e = absurd (false≢true e)

named_so : (name : List ℕ) → is_chart_name name ≡ true → IsName name
named_so name e =
    let a = both (not (is_empty name) && list_all is_run_byte name && is_none (word_of name)) (nat_le (length name) NAME_LIMIT) e in
    let b = both (not (is_empty name) && list_all is_run_byte name) (is_none (word_of name)) a.0 in
    let d = both (not (is_empty name)) (list_all is_run_byte name) b.0 in
    record {
      some = not_empty name d.0;
      run = d.1;
      free = is_free (word_of name) b.1;
      short = leb-true (length name) NAME_LIMIT a.1;
    }

-- one letter is a name
one_letter : IsName (codes "m")
unfolding word_of
one_letter = record { some = λ h. cc; run = refl; free = refl; short = lit≤ tt }

-- what is fitted is a name
fits_name : (name : List ℕ) (b : Bool) → is_chart_name name ≡ b → IsName (cond b name (codes "m"))
fits_name name true e = named_so name e
fits_name name false e = one_letter

pub fitted_named : (name : List ℕ) → IsName (fitted name)
unfolding fitted
fitted_named name = fits_name name (is_chart_name name) refl

-- an event has names alone
side_named : (names : List (List ℕ)) (m : Message) (s : Side) → IsStatementNamed (drawn_side names m s)
side_named names m sides.Out = record {
  name = fitted_named m.name;
  number = fitted_named m.number;
  parameters = tt;
  address = fitted_named (line_name names m.to);
}
side_named names m sides.In = record {
  name = fitted_named m.name;
  number = fitted_named m.number;
  parameters = tt;
  address = fitted_named (line_name names m.from);
}
side_named names m sides.OutBack = record {
  name = fitted_named m.name;
  number = fitted_named m.number;
  parameters = tt;
  address = fitted_named (line_name names m.from);
}
side_named names m sides.InBack = record {
  name = fitted_named m.name;
  number = fitted_named m.number;
  parameters = tt;
  address = fitted_named (line_name names m.to);
}
side_named names m sides.Own = tt
side_named names m sides.Lost = tt

event_named : (names : List (List ℕ)) (e : Event) → IsStatementNamed (drawn_event names e)
unfolding drawn_event
event_named names e = side_named names e.message e.side

events_named : (names : List (List ℕ)) (es : List Event) → AllByRecursion IsStatementNamed (map (drawn_event names) es)
events_named names [] = tt
events_named names (e ∷ es) = (event_named names e, events_named names es)

item_named : (names : List (List ℕ)) (es : List Event) → IsItemNamed (drawn_item names es)
unfolding drawn_item
item_named names [] = tt
item_named names (e ∷ []) = event_named names e
item_named names (e ∷ f ∷ es) = events_named names (e ∷ f ∷ es)

items_named : (names : List (List ℕ)) (es : List Event) (start : ℕ) (stops : List ℕ) → AllByRecursion IsItemNamed (drawn_items names es start stops)
unfolding drawn_items
items_named names es start [] = tt
items_named names es start (stop ∷ stops) =
    (item_named names (between es start stop), items_named names es stop stops)

-- so has what a line is of
all_fitted : (ks : List (List ℕ)) → AllByRecursion IsName (map fitted ks)
all_fitted [] = tt
all_fitted (k ∷ ks) = (fitted_named k, all_fitted ks)

one_kind : (b : Bool) (k : List ℕ) → length (map fitted (cond b [] (k ∷ []))) ≤ 2
one_kind true k = lit≤ tt
one_kind false k = lit≤ tt

kind_short : (name shown : List ℕ) → length (map fitted (kind_of name shown)) ≤ 2
unfolding kind_of
kind_short name shown = one_kind (is_empty (made shown []) || bytes_eq (made shown []) name) (made shown [])

kind_named : (name : List ℕ) (shown : Option (List ℕ)) → AllByRecursion IsName (kind_by name shown)
kind_named name None = tt
kind_named name (Some s) = all_fitted (kind_of name s)

kind_few : (name : List ℕ) (shown : Option (List ℕ)) → length (kind_by name shown) ≤ 2
kind_few name None = lit≤ tt
kind_few name (Some s) = kind_short name s

decl_named : (name ident : List ℕ) (ps : List Placed) → IsDeclNamed (decl_of name ident ps)
unfolding decl_of
decl_named name ident ps = record {
  name = fitted_named name;
  kind = kind_named name (shown_of ident ps);
  short = kind_few name (shown_of ident ps);
}

section_named : (names : List (List ℕ)) (line : ℕ) (ident : List ℕ) (ps : List Placed) (p : Plan) → IsSectionNamed (section_of names line ident ps p)
section_named names line ident ps p = record {
  decl = decl_named (line_name names line) ident ps;
  items = items_named names p.events 0 p.ends;
}

push_named : (ss : List Section) (s : Section) → AllByRecursion IsSectionNamed ss → IsSectionNamed s → AllByRecursion IsSectionNamed (ss ++ s ∷ [])
push_named [] s all one = (one, tt)
push_named (t ∷ ss) s all one = (all.0, push_named ss s all.1 one)

-- and all lines
module _ (lines names : List (List ℕ)) (ps : List Placed) where
  pub sections_named : (line : ℕ) (plans : List Plan) (done : List Section) → AllByRecursion IsSectionNamed done → AllByRecursion IsSectionNamed (sections_on lines names ps line plans done)
  unfolding sections_on
  sections_named line [] done all = all
  sections_named line (p ∷ plans) done all =
      let here = section_named names line (line_name lines line) ps p in
      sections_named (line + 1) plans (done ++ section_of names line (line_name lines line) ps p ∷ []) (push_named done (section_of names line (line_name lines line) ps p) all here)

-- the draft is one that a text can have
pub tree_named : (name : List ℕ) (ss : List Section) → AllByRecursion IsSectionNamed ss → length (statements_of ss) ≤ TEXT_LIMIT → IsDraft (tree_of name ss)
tree_named name ss all few = record {
  name = fitted_named (made name (codes "diagram"));
  header = tt;
  few_decls = lit≤ tt;
  sections = all;
  few_statements = few;
}

-- so is that of the parts that the code has
pub draft_named : (name plain : List ℕ) (header : List Decl) (ts ss : List Section) → name ≡ fitted plain → header ≡ [] → ts ≡ ss → AllByRecursion IsSectionNamed ss → length (statements_of ss) ≤ TEXT_LIMIT → IsDraft (record { name = name; header = header; sections = ts })
draft_named name plain header ts ss a b e all few =
    subst (λ n. IsDraft (record { name = n; header = header; sections = ts })) (sym a) (subst (λ h. IsDraft (record { name = fitted plain; header = h; sections = ts })) (sym b) (subst (λ x. IsDraft (record { name = fitted plain; header = []; sections = x })) (sym e) (record {
      name = fitted_named plain;
      header = tt;
      few_decls = lit≤ tt;
      sections = all;
      few_statements = few;
    })))

-- one line more
module _ (lines names : List (List ℕ)) (ps : List Placed) where
  sections_cons : (line : ℕ) (p : Plan) (plans : List Plan) (done : List Section) → sections_on lines names ps line (p ∷ plans) done ≡ sections_on lines names ps (line + 1) plans (done ++ section_of names line (line_name lines line) ps p ∷ [])
  unfolding sections_on
  sections_cons line p plans done = refl

  sections_none : (line : ℕ) (done : List Section) → sections_on lines names ps line [] done ≡ done
  unfolding sections_on
  sections_none line done = refl

  module _ (plans : List Plan) (i : ℕ) (done : List Section) where
    pub sections_more : (p : Plan) → i < length plans → get_or plans i p ≡ p → sections_on lines names ps i (drop i plans) done ≡ sections_on lines names ps (i + 1) (drop (i + 1) plans) (done ++ section_of names i (line_name lines i) ps p ∷ [])
    sections_more p inside is =
        ap (λ x. sections_on lines names ps i x done) (drop_more plans i p inside) ∙ sections_cons i (get_or plans i p) (drop (i + 1) plans) done
        ∙ ap (λ x. sections_on lines names ps (i + 1) (drop (i + 1) plans) (done ++ section_of names i (line_name lines i) ps x ∷ [])) is

    pub sections_end : length plans ≤ i → sections_on lines names ps i (drop i plans) done ≡ done
    sections_end over = ap (λ x. sections_on lines names ps i x done) (drop_all i plans over) ∙ sections_none i done
