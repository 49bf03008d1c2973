-- Ends of messages, compared.
use Rattle.std.proofs.Common.{◌≡◌, ℕ, Bool, true, false, ◌&&◌, not, List, map, Option, None, Some, refl, sym, ap, ◌∙◌, true≢false}
use mathlib.Core.Bool.{beq}
use Rattle.std.specs.Cmp.Lexicographic.{pointwise, bytes_decides}
use Rattle.std.specs.Option.{option_eq, option_copied}
use Rattle.std.proofs.lemmas.Bool.{and_parts, and_from, not-true, not_from_false}
use Rattle.std.proofs.Common.{Bor}
use Rattle.std.specs.List.{list_any}
use Rattle.std.specs.Map.Iter.{deref}
use Rattle.msc_chart.specs.Faults.{IsUnknown}
use Rattle.msc_chart.proofs.ListLemmas.{by_test, clash}
use Rattle.msc_chart.proofs.Places.{any_from, occurs_from}
use Rattle.std.specs.Prelude.{nat_eq}
use Rattle.msc_chart.specs.declared.end.MessageEnd as code
use Rattle.msc_chart.specs.declared.end.Mark as coded
use Rattle.msc_chart.specs.declared.end.Mark.TheVariants as marks
use Rattle.msc_chart.specs.contracts.end.MarkPartialEq.TheImpl as derived
use Rattle.msc_chart.specs.Events.{MessageEnd, Act, same_end, same_name, same_number, is_end}
use Rattle.msc_chart.specs.Events.Act.{OfMessage, Action}
use Rattle.msc_chart.specs.Hashing.{equal_ends}
use Rattle.msc_chart.specs.Views.{end_view, mark_view}

-- the code compares ends as their names compare
pub number_view : (a b : code.MessageEnd) → option_eq (λ x y. pointwise nat_eq x.now y.now) a.number b.number ≡ same_number (option_copied a.number) (option_copied b.number)
number_view a b = by a.number b.number
  where
    -- whether both have a number, or one has, or none has
    by : (m n : _) → option_eq (λ x y. pointwise nat_eq x.now y.now) m n ≡ same_number (option_copied m) (option_copied n)
    by None None = refl
    by None (Some y) = refl
    by (Some x) None = refl
    by (Some x) (Some y) = refl

-- truth values that compare equal are equal
beq-true : (a b : Bool) → beq a b ≡ true → a ≡ b
beq-true true true h = refl
beq-true true false h = absurd (true≢false (sym h))
beq-true false true h = absurd (true≢false (sym h))
beq-true false false h = refl

-- a truth value compares equal to itself
beq-refl : (a : Bool) → beq a a ≡ true
beq-refl true = refl
beq-refl false = refl

-- message instance names that compare equal are equal, and so are two that are missing
same_number-true : (a b : Option (List ℕ)) → same_number a b ≡ true → a ≡ b
same_number-true None None h = refl
same_number-true None (Some y) h = absurd (true≢false (sym h))
same_number-true (Some x) None h = absurd (true≢false (sym h))
same_number-true (Some x) (Some y) h = ap Some ((bytes_decides x y).0 h)

-- a message instance name compares equal to itself
same_number-refl : (a : Option (List ℕ)) → same_number a a ≡ true
same_number-refl None = refl
same_number-refl (Some x) = (bytes_decides x x).1 refl

-- ends that compare equal are equal, part by part
pub same_end-true : (a b : MessageEnd) → same_end a b ≡ true → a ≡ b
same_end-true a b h =
    let p = and_parts _ _ h in
    let q = and_parts _ _ p.1 in
    let r = and_parts _ _ q.1 in
    let s = and_parts _ _ r.1 in
    let sends : a.sends ≡ b.sends = beq-true _ _ p.0 in
    let sender : a.key.sender ≡ b.key.sender = (bytes_decides _ _).0 q.0 in
    let receiver : a.key.receiver ≡ b.key.receiver = (bytes_decides _ _).0 r.0 in
    let name : a.key.name ≡ b.key.name = (bytes_decides _ _).0 s.0 in
    let number : a.key.number ≡ b.key.number = same_number-true _ _ s.1 in
    λ i. record { sends = sends i; key = record { sender = sender i; receiver = receiver i; name = name i; number = number i } }

-- an end compares equal to itself
pub same_end-refl : (a : MessageEnd) → same_end a a ≡ true
same_end-refl a =
    and_from _ _ (beq-refl a.sends)
    (and_from _ _ ((bytes_decides a.key.sender a.key.sender).1 refl)
    (and_from _ _ ((bytes_decides a.key.receiver a.key.receiver).1 refl)
    (and_from _ _ ((bytes_decides a.key.name a.key.name).1 refl) (same_number-refl a.key.number))))

-- what the code computes for `==` of two ends is what the definition computes for what they show
pub equal_ends-view : (a b : code.MessageEnd) → equal_ends a b ≡ same_end (end_view a) (end_view b)
equal_ends-view a b = ap (λ n. beq a.sends b.sends && (same_name a.sender.now b.sender.now && (same_name a.receiver.now b.receiver.now && (same_name a.name.now b.name.now && n)))) (number_view a b)

-- so ends that the code finds equal show one end
pub equal_ends-true : (a b : code.MessageEnd) → equal_ends a b ≡ true → end_view a ≡ end_view b
equal_ends-true a b h = same_end-true _ _ (sym (equal_ends-view a b) ∙ h)

-- and ends that show one end are found equal
pub equal_ends-from : (a b : code.MessageEnd) → end_view a ≡ end_view b → equal_ends a b ≡ true
equal_ends-from a b h = equal_ends-view a b ∙ ap (same_end (end_view a)) (sym h) ∙ same_end-refl (end_view a)

-- an act that is an end is that end
pub is_end-true : (x : MessageEnd) (a : Act) → is_end x a ≡ true → a ≡ OfMessage x
is_end-true x (OfMessage y) h = ap OfMessage (sym (same_end-true x y h))
is_end-true x (Action text) h = absurd (true≢false (sym h))

-- what the code computes for `==` of two marks
abbrev pub mark_same : coded.Mark → coded.Mark → Bool
mark_same = derived.eq-value.it

-- the code finds the mark of an end where the definition finds the end
pub mark_same-view : (e : code.MessageEnd) (m : coded.Mark) → mark_same (marks.OfMessage e) m ≡ is_end (end_view e) (mark_view m)
mark_same-view e (marks.OfMessage x) = equal_ends-view e x
mark_same-view e (marks.Action n t) = refl

-- marks that show one end are found equal
pub mark_same-from : (a b : coded.Mark) (x : MessageEnd) → mark_view a ≡ OfMessage x → mark_view b ≡ OfMessage x → mark_same a b ≡ true
mark_same-from (marks.OfMessage a) (marks.OfMessage b) x p q =
    let here : end_view a ≡ x = cc in
    let there : end_view b ≡ x = cc in
    equal_ends-from a b (here ∙ sym there)
mark_same-from (marks.OfMessage a) (marks.Action n t) x p q = cc
mark_same-from (marks.Action n t) b x p q = cc

-- the tests of the two look-ups: a name is not found exactly where it does not occur
pub unknown_test : (keys : List (Bor (List ℕ))) (n : List ℕ) (r : Bool) → r ≡ list_any (λ k. pointwise nat_eq n k.now) keys
    → (not r ≡ true → IsUnknown (map deref keys) n) × (IsUnknown (map deref keys) n → not r ≡ true)
unknown_test keys n r is = (
  λ h known. clash (is ∙ any_from deref (λ k. pointwise nat_eq n k.now) n (λ x e. (bytes_decides n x.now).1 (sym e)) keys known) (not-true r h),
  λ unknown. by_test r
      (λ yes. absurd (unknown (occurs_from deref (λ k. pointwise nat_eq n k.now) n (λ x e. sym ((bytes_decides n x.now).0 e)) keys (sym is ∙ yes))))
      (λ no. not_from_false r no),
)
