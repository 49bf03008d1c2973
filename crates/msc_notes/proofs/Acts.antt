-- What the events of a draft do.
use Rattle.std.proofs.Common.{◌≡◌, ℕ, ◌+◌, List, [], ◌∷◌, ◌++◌, length, map, Option, Some, None, MatchOption, refl, sym, ap, ◌∙◌, arith}
use Rattle.std.specs.List.{flat_map}
use Rattle.std.proofs.lemmas.List.{map-append, length-map}
use Rattle.std.proofs.lemmas.Option.{slice_get_within}
use Rattle.msc_parser.specs.declared.tree.Statement.{Statement}
use Rattle.msc_parser.specs.declared.tree.Item.{Item}
use Rattle.msc_parser.specs.declared.tree.Item.TheVariants.{Single, Coregion}
use Rattle.msc_parser.specs.declared.tree.Section.{Section}
use Rattle.msc_parser.specs.Drafts.{statements_in, statements_of}
use Rattle.msc_parser.specs.Grammar.{Tree}
use Rattle.msc_chart.specs.Events.{Act, DraftEvent, act_of, acts_of, events_of, drawn, events_of_item, events_of_items, events_of_sections, next_segment}
use Rattle.msc_chart.specs.Events.Act.{OfMessage}
use Rattle.msc_place.specs.Standing.{BeginsEvent}
use Rattle.msc_notes.specs.declared.event.OwnEvent.{OwnEvent}
use Rattle.msc_notes.specs.Events.{own_statement, owned_in, owned_of, act_in, act_view, own_view}
use Rattle.msc_notes.specs.Faults.{BeginsOrNone}
use Rattle.msc_notes.specs.FaultNotes.{HasNoMessageAt, IsFirstLike}
use Rattle.msc_notes.proofs.ChartPlaces.{statement_in, owned_statements}

-- what an event does
abbrev act_there : DraftEvent → Act
act_there e = e.act

-- the events of a coregion do what its statements do
coregion_acts : (line : ℕ) (own : List ℕ) (segment : ℕ) (ss : List Statement)
    → map act_there (map (drawn line own segment) ss) ≡ map (act_of own) ss
coregion_acts line own segment [] = refl
coregion_acts line own segment (s ∷ ss) = ap (λ xs. act_of own s ∷ xs) (coregion_acts line own segment ss)

item_acts : (line : ℕ) (own : List ℕ) (segment : ℕ) (i : Item)
    → map act_there (events_of_item line own segment i) ≡ map (act_of own) (statements_in i)
item_acts line own segment (Single s) = refl
item_acts line own segment (Coregion ss) = coregion_acts line own segment ss

items_acts : (line : ℕ) (own : List ℕ) (segment : ℕ) (is : List Item)
    → map act_there (events_of_items line own segment is) ≡ map (act_of own) (flat_map statements_in is)
items_acts line own segment [] = refl
items_acts line own segment (i ∷ is) =
    let rest = events_of_items line own (next_segment segment i) is in
    map-append act_there (events_of_item line own segment i) rest
    ∙ ap (λ xs. xs ++ map act_there rest) (item_acts line own segment i)
    ∙ ap (λ xs. map (act_of own) (statements_in i) ++ xs) (items_acts line own (next_segment segment i) is)
    ∙ sym (map-append (act_of own) (statements_in i) (flat_map statements_in is))

-- statements with the name of their instance
owned_acts : (own : List ℕ) (xs : List Statement)
    → map act_in (map (own_statement own) xs) ≡ map (act_of own) xs
owned_acts own [] = refl
owned_acts own (x ∷ xs) = ap (λ ys. act_of own x ∷ ys) (owned_acts own xs)

sections_acts : (line : ℕ) (ss : List Section)
    → map act_there (events_of_sections line ss) ≡ map act_in (owned_of ss)
sections_acts line [] = refl
sections_acts line (s ∷ ss) =
    let rest = events_of_sections (line + 1) ss in let own = s.decl.name in
    map-append act_there (events_of_items line own 0 s.items) rest
    ∙ ap (λ xs. xs ++ map act_there rest) (items_acts line own 0 s.items ∙ sym (owned_acts own (flat_map statements_in s.items)))
    ∙ ap (λ xs. map act_in (owned_in s) ++ xs) (sections_acts (line + 1) ss)
    ∙ sym (map-append act_in (owned_in s) (owned_of ss))

-- the acts of a draft are those of its statements
pub acts_owned : (t : Tree) → acts_of t ≡ map act_in (owned_of t.sections)
unfolding acts_of events_of
acts_owned t = sections_acts 0 t.sections

viewed_acts : (events : List OwnEvent) → map act_view events ≡ map act_in (map own_view events)
viewed_acts [] = refl
viewed_acts (d ∷ ds) = ap (λ xs. act_view d ∷ xs) (viewed_acts ds)

pub acts_same : (events : List OwnEvent) (t : Tree) → map own_view events ≡ owned_of t.sections
    → map act_view events ≡ acts_of t
acts_same events t e = viewed_acts events ∙ ap (map act_in) e ∙ sym (acts_owned t)

-- a draft has as many acts as statements
pub acts_long : (t : Tree) → length (acts_of t) ≡ length (statements_of t.sections)
acts_long t =
    let os = owned_of t.sections in
    let a : length (map act_in os) ≡ length os = simp length-map in
    let b : length (map statement_in os) ≡ length os = simp length-map in
    ap length (acts_owned t) ∙ a ∙ sym b ∙ ap length (owned_statements t.sections)

-- where the first event of a kind and key begins
pub like_begins : (text : List ℕ) (t : Tree) (e j : ℕ) (o : Option ℕ) → IsFirstLike (acts_of t) e j
    → BeginsOrNone text t j o
    → MatchOption o (HasNoMessageAt (acts_of t) e) (λ at. (j : ℕ) × IsFirstLike (acts_of t) e j × BeginsEvent text t j at)
like_begins text t e j None h le =
    absurd (omega (arith, le, acts_long t, slice_get_within (acts_of t) j (OfMessage h.0) h.2.listed))
like_begins text t e j (Some at) h b = (j, h, b)
