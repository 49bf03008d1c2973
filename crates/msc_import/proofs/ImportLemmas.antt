-- What a text is taken as by what it holds, its diagram, and names that are held in place.
use Rattle.std.proofs.Common.{◌≡◌, ◌≤◌, ℕ, min, take, ◌++◌, Bool, true, false, List, [], length, map, nat_lt, Option, Result, Ok, Err, refl, sym, ap, ◌∙◌, subst, ⊎_elim, inl, inr, arith, tests}
use Rattle.std.specs.List.{list_any}
use Rattle.std.proofs.Math.Nat.{min-eq_left, min-eq_right, min-le_left}
use Rattle.std.proofs.Math.Seq.{take-append_seam}
use Rattle.std.proofs.lemmas.Bool.{cases_lt}
use Rattle.std.proofs.lemmas.List.{take_all, length-take-le}
use Rattle.msc_lexer.specs.declared.TheConstants.{NAME_LIMIT, TEXT_LIMIT}
use Rattle.msc_mermaid.specs.declared.fault.Expectation.TheVariants.{AnyDiagram}
use Rattle.msc_mermaid.specs.declared.fault.ImportFault.TheVariants.{Expected}
use Rattle.msc_mermaid.specs.declared.statement.Cross.{Cross}
use Rattle.msc_import.specs.declared.importing.Refused.{Refused}
use Rattle.msc_mermaid.specs.declared.statement.Diagram.{Diagram}
use Rattle.msc_mermaid.specs.declared.fault.ImportFault.{ImportFault}
use Rattle.msc_mermaid.specs.Gives.{Fails}
use Rattle.msc_markdown.specs.Markdowns.{Found, markdown}
use Rattle.msc_import.specs.Importing.{Imports, Refusal, RefusesSo, answered, begins_at, begins_diagram, entity_of, found_as, short_bytes, told_by_content, told_of}
use Rattle.msc_mermaid.specs.Lines.{lines_of}
use Rattle.msc_mermaid.specs.White.{trimmed}
use Rattle.msc_mermaid.specs.Mermaid.{is_head, mermaid}
use Rattle.msc_markdown.proofs.PassLemmas.{any_view as list_any_map}

module _ {X : Type 0} (view : X → List ℕ) (cross : Option Cross) (text : List ℕ) (lines : List X) (of_text : map view lines ≡ lines_of text) (short : length text ≤ TEXT_LIMIT) where
  begins_so : (b : Bool) → list_any (λ line. is_head (trimmed (view line))) lines ≡ b → begins_diagram text ≡ b
  begins_so b is = ap (list_any (λ line. is_head (trimmed line))) (sym of_text) ∙ list_any_map (λ line. is_head (trimmed line)) view lines ∙ is

  -- none of its lines begins a diagram
  pub told_none : list_any (λ line. is_head (trimmed (view line))) lines ≡ false → told_by_content cross text ≡ Err (Expected (begins_at text) AnyDiagram)
  unfolding told_by_content
  told_none none =
      let a : nat_lt TEXT_LIMIT (length text) ≡ false = search (arith, tests) in
      rw (a, begins_so false none) refl

  -- one of them does
  pub told_some : list_any (λ line. is_head (trimmed (view line))) lines ≡ true → told_by_content cross text ≡ mermaid cross text
  unfolding told_by_content
  told_some some =
      let a : nat_lt TEXT_LIMIT (length text) ≡ false = search (arith, tests) in
      rw (a, begins_so true some) refl

-- as many bytes of a name as there is room for, before others
pub filled : (name : List ℕ) (n : ℕ) (front rest : List ℕ) → n ≡ min (length name) NAME_LIMIT → front ≡ take n name → take n (front ++ rest) ≡ take NAME_LIMIT name
filled name n front rest size is =
    let low : n ≤ length name = subst (λ k. k ≤ length name) (sym size) (min-le_left (length name) NAME_LIMIT) in
    let room : length front ≡ n = ap length is ∙ length-take-le n name low in
    let first : take n (front ++ rest) ≡ front = subst (λ k. take k (front ++ rest) ≡ front) room (take-append_seam front rest) in
    let same : take n name ≡ take NAME_LIMIT name = ⊎_elim
    (λ over. ap (λ k. take k name) (size ∙ min-eq_right (omega (arith, over))))
    (λ within. take_all n name (let e : n ≡ length name = size ∙ min-eq_left within in omega (arith, e)) ∙ sym (take_all NAME_LIMIT name within))
    (cases_lt NAME_LIMIT (length name)) in
    first ∙ is ∙ same

-- a fault of a text is told with the entity that it speaks of
pub untold : {A : Type 0} (found : Found) (f : Diagram → Result A ImportFault) (e : Refused) (fault : ImportFault) (said : Result Diagram ImportFault) → e.fault ≡ fault → short_bytes e.name ≡ entity_of found fault → Fails fault said → RefusesSo e (answered found f said)
unfolding answered
untold found f e fault said is name (inl spent) = inl (is ∙ spent)
untold found f e fault said is name (inr same) = inr (rw (same, is, name) refl)

-- what is answered of what a text holds
module _ {A : Type 0} (g : Found → Result A Refusal) (text : List ℕ) where
  pub found_so : (r : Result A Refused) (x : Found) → markdown text ≡ Ok x → Imports r (g x) → Imports r (found_as g (markdown text))
  unfolding found_as
  found_so r x e h = subst (λ m. Imports r (found_as g m)) (sym e) h

  -- a text that is too long holds nothing
  pub found_none : (e : Refused) (fault : ImportFault) → e.fault ≡ fault → short_bytes e.name ≡ [] → Fails fault (markdown text) → RefusesSo e (found_as g (markdown text))
  unfolding found_as
  found_none e fault is name (inl spent) = inl (is ∙ spent)
  found_none e fault is name (inr same) = inr (rw (same, is, name) refl)

-- what is answered of a text by its diagram, if it has one; otherwise it is refused for what that is
module _ {A : Type 0} (g : Diagram → Result A ImportFault) where
  pub answered_read : (f : Found) (said : Result Diagram ImportFault) (d : Diagram) → answered f (λ x. Ok x) said ≡ Ok d → answered f g said ≡ told_of d.lines (g d)
  unfolding answered
  answered_read f (Ok x) d is = cc
  answered_read f (Err fault) d is = cc

  pub answered_unread : (f : Found) (said : Result Diagram ImportFault) (r : Refusal) → answered f (λ x. Ok x) said ≡ Err r → answered f g said ≡ Err r
  unfolding answered
  answered_unread f (Ok x) r is = cc
  answered_unread f (Err fault) r is = cc

  module _ (of : Found → Result Diagram ImportFault) where
    pub found_read : (said : Result Found ImportFault) (d : Diagram) → found_as (λ f. answered f (λ x. Ok x) (of f)) said ≡ Ok d
        → found_as (λ f. answered f g (of f)) said ≡ told_of d.lines (g d)
    unfolding found_as
    found_read (Ok f) d is = answered_read f (of f) d is
    found_read (Err fault) d is = cc

    pub found_unread : (said : Result Found ImportFault) (r : Refusal) → found_as (λ f. answered f (λ x. Ok x) (of f)) said ≡ Err r
        → found_as (λ f. answered f g (of f)) said ≡ Err r
    unfolding found_as
    found_unread (Ok f) r is = answered_unread f (of f) r is
    found_unread (Err fault) r is = cc
