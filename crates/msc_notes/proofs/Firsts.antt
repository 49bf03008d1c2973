-- The first of several that are alike.
use Rattle.std.proofs.Common.{◌≡◌, ℕ, ◌+◌, ◌<◌, true, false, List, length, get_or, map, Some, slice_get, sym, ap, ◌∙◌, below_more}
use Rattle.std.specs.Cmp.Lexicographic.{bytes_decides}
use Rattle.std.proofs.Math.ListN.{get_or-map}
use Rattle.std.proofs.lemmas.List.{length-map}
use Rattle.std.proofs.lemmas.Option.{slice_get_read}
use Rattle.std.proofs.lemmas.Bool.{true≢false}
use Rattle.msc_parser.specs.declared.tree.Section.{Section}
use Rattle.msc_chart.specs.Events.{Act, MessageEnd, is_end, same_name}
use Rattle.msc_chart.specs.Events.Act.{OfMessage}
use Rattle.msc_chart.proofs.MatchingLemmas.{is_end-true, same_end-refl}
use Rattle.msc_notes.specs.declared.event.OwnEvent.{OwnEvent}
use Rattle.msc_notes.specs.Events.{act_view}
use Rattle.msc_notes.specs.FaultNotes.{IsFirstEnd, IsFirstNamed}

-- what an event that was read does
pub act_at : (events : List OwnEvent) (e : ℕ) (d : OwnEvent) → e < length events
    → d ≡ get_or events e d → slice_get (map act_view events) e ≡ Some (act_view d)
act_at events e d inside is =
    let long : length (map act_view events) ≡ length events = simp length-map in
    slice_get_read (map act_view events) (length events) e (act_view d) (sym long) inside
    (ap act_view is ∙ sym (get_or-map act_view events e d))

-- none of the first events is this end
abbrev pub NoEndBefore : List Act → MessageEnd → ℕ → Type 0
NoEndBefore acts x e = (i : ℕ) → i < e → slice_get acts i ≡ Some (OfMessage x) → ⊥

-- nor is the next, where the test says so
pub no_end_more : (acts : List Act) (x : MessageEnd) (e : ℕ) (a : Act) → slice_get acts e ≡ Some a
    → is_end x a ≡ false → NoEndBefore acts x e → NoEndBefore acts x (e + 1)
no_end_more acts x e a h fails none =
    below_more (λ i. slice_get acts i ≡ Some (OfMessage x) → ⊥) e none (λ k.
    let same : Some a ≡ Some (OfMessage x) = sym h ∙ k in
    let one : a ≡ OfMessage x = cc same in
    true≢false (sym (same_end-refl x) ∙ ap (is_end x) (sym one) ∙ fails))

-- the first one
pub end_first : (acts : List Act) (x : MessageEnd) (e : ℕ) (a : Act) → slice_get acts e ≡ Some a
    → is_end x a ≡ true → NoEndBefore acts x e → IsFirstEnd acts x e
end_first acts x e a h is none = record { listed = h ∙ ap Some (is_end-true x a is); first = none }

-- none of the first sections has this name
abbrev pub NoNameBefore : List Section → List ℕ → ℕ → Type 0
NoNameBefore ss name e =
    (i : ℕ) → i < e → (s : Section) → slice_get ss i ≡ Some s → s.decl.name ≡ name → ⊥

-- nor has the next, where the test says so
pub no_name_more : (ss : List Section) (name : List ℕ) (e : ℕ) (s : Section)
    → slice_get ss e ≡ Some s → same_name s.decl.name name ≡ false → NoNameBefore ss name e
    → NoNameBefore ss name (e + 1)
no_name_more ss name e s h fails none =
    below_more (λ i. (r : Section) → slice_get ss i ≡ Some r → r.decl.name ≡ name → ⊥) e none (λ r k is.
    let same : Some s ≡ Some r = sym h ∙ k in
    let one : s ≡ r = cc same in
    let own : s.decl.name ≡ name = ap (λ (q : Section). q.decl.name) one ∙ is in
    true≢false (sym ((bytes_decides s.decl.name name).1 own) ∙ fails))

-- the first one
pub name_first : (ss : List Section) (name : List ℕ) (e : ℕ) (s : Section)
    → slice_get ss e ≡ Some s → same_name s.decl.name name ≡ true → NoNameBefore ss name e
    → IsFirstNamed ss name e
name_first ss name e s h is none = record {
  section = s;
  listed = h;
  named = (bytes_decides s.decl.name name).0 is;
  first = λ i r lt k own. none i lt r k own;
}
