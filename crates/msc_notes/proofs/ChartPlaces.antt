-- Where faults of a draft stand.
use Rattle.std.proofs.Common.{◌≡◌, ℕ, ◌<◌, inl, inr, List, [], ◌∷◌, ◌++◌, length, map, Option, Some, None, MatchOption, refl, sym, ap, subst, ◌∙◌, arith}
use Rattle.std.specs.List.{flat_map}
use Rattle.std.proofs.lemmas.List.{map-append}
use Rattle.std.proofs.lemmas.Option.{slice_get_within}
use Rattle.msc_parser.specs.declared.tree.Statement.{Statement}
use Rattle.msc_parser.specs.declared.tree.Section.{Section}
use Rattle.msc_parser.specs.Drafts.{statements_in, statements_of}
use Rattle.msc_parser.specs.Grammar.{Tree}
use Rattle.msc_notes.specs.declared.event.OwnEvent.{OwnEvent}
use Rattle.msc_notes.specs.declared.counting.Sort.{Sort}
use Rattle.msc_notes.specs.Events.{OwnStatement, own_statement, owned_in, owned_of, own_view, statement_view}
use Rattle.msc_notes.specs.Faults.{IsNth, IsFirstTooMany, HasNone, BeginsSome, BeginsOrNone}

-- the statement of one
abbrev pub statement_in : OwnStatement → Statement
statement_in o = o.statement

-- the statements of an instance are those that were taken
own_statements : (name : List ℕ) (xs : List Statement) → map statement_in (map (own_statement name) xs) ≡ xs
own_statements name [] = refl
own_statements name (x ∷ xs) = ap (λ ys. x ∷ ys) (own_statements name xs)

-- and so are those of a draft
pub owned_statements : (ss : List Section) → map statement_in (owned_of ss) ≡ statements_of ss
owned_statements [] = refl
owned_statements (s ∷ ss) =
    map-append statement_in (owned_in s) (owned_of ss)
    ∙ ap (λ xs. xs ++ map statement_in (owned_of ss)) (own_statements s.decl.name (flat_map statements_in s.items))
    ∙ ap (λ xs. flat_map statements_in s.items ++ xs) (owned_statements ss)

viewed : (events : List OwnEvent) → map statement_view events ≡ map statement_in (map own_view events)
viewed [] = refl
viewed (d ∷ ds) = ap (λ xs. d.statement.now ∷ xs) (viewed ds)

pub statements_same : (events : List OwnEvent) (ss : List Section) → map own_view events ≡ owned_of ss
    → map statement_view events ≡ statements_of ss
statements_same events ss e = viewed events ∙ ap (map statement_in) e ∙ owned_statements ss

-- an event of a list
pub nth_inside : (sort : Sort) (count : ℕ) (ss : List Statement) (e : ℕ) → IsNth sort count ss e
    → e < length ss
nth_inside sort count ss e n = slice_get_within ss e n.statement n.listed

pub first_inside : (ss : List Statement) (e : ℕ) → IsFirstTooMany ss e → e < length ss
first_inside ss e h = elim h.one [ inl x ↦ nth_inside _ _ ss e x | inr y ↦ nth_inside _ _ ss e y ]

module _ (Such : ℕ → Type 0) (text : List ℕ) (t : Tree) (inside : (e : ℕ) → Such e → e < length (statements_of t.sections)) where
  one_begins : (e : ℕ) (o : Option ℕ) → Such e → BeginsOrNone text t e o
      → MatchOption o (HasNone Such) (BeginsSome Such text t)
  one_begins e None h le = absurd (omega (arith, le, inside e h))
  one_begins e (Some at) h b = (e, h, b)

  -- where such an event begins, if there is one
  pub some_begins : (e o : Option ℕ) → MatchOption e (HasNone Such) Such
      → MatchOption e (o ≡ None) (λ e. BeginsOrNone text t e o)
      → MatchOption o (HasNone Such) (BeginsSome Such text t)
  some_begins None o none is = subst (λ o. MatchOption o (HasNone Such) (BeginsSome Such text t)) (sym is) none
  some_begins (Some e) o h b = one_begins e o h b
