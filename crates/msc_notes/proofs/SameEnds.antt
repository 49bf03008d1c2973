-- Names and ends of messages of the code, compared.
use Rattle.std.proofs.Common.{◌≡◌, ◌↔◌, ◌<◌, ◌^◌, ℕ, Bool, true, false, ◌&&◌, not, List, map, Option, None, Some, Bor, refl, sym, ap, subst, ◌∙◌}
use Rattle.std.specs.Prelude.{nat_eq}
use Rattle.std.specs.List.{list_any}
use Rattle.std.proofs.lemmas.Bool.{not-true, not-false, not_from_false}
use Rattle.std.specs.Cmp.Lexicographic.{pointwise, bytes_decides}
use Rattle.std.specs.Map.Iter.{deref}
use Rattle.std.specs.Option.{option_eq, option_copied}
use mathlib.Core.Bool.{beq}
use Rattle.msc_chart.specs.Events.{MessageEnd, same_end, same_name, same_number}
use Rattle.msc_chart.specs.Lists.{Occurs, StandsAt}
use Rattle.msc_chart.proofs.ListLemmas.{by_test, clash}
use Rattle.msc_chart.proofs.Places.{one_at}
use Rattle.msc_chart.proofs.MatchingLemmas.{same_end-refl, same_end-true}
use Rattle.msc_notes.specs.declared.alike.End as coded
use Rattle.msc_notes.specs.contracts.alike.EndPartialEq.TheImpl as derived
use Rattle.msc_notes.specs.Events.{end_view}
use Rattle.msc_notes.specs.Putting.{IsFewRepeats}
use Rattle.msc_notes.proofs.Sets.{Earlier, found}

-- names are equal where they show one
pub same_names : (a b : Bor (List ℕ)) → (pointwise nat_eq a.now b.now ≡ true) ↔ (deref a ≡ deref b)
same_names a b = bytes_decides a.now b.now

-- what the code computes for `==` of two ends
abbrev pub end_same : coded.End → coded.End → Bool
end_same = derived.eq-value.it

numbers_view : (m n : Option (Bor (List ℕ))) → option_eq (λ x y. pointwise nat_eq x.now y.now) m n ≡ same_number (option_copied m) (option_copied n)
numbers_view None None = refl
numbers_view None (Some y) = refl
numbers_view (Some x) None = refl
numbers_view (Some x) (Some y) = refl

-- it is what the definition computes for what they show
end_same-view : (a b : coded.End) → end_same a b ≡ same_end (end_view a) (end_view b)
end_same-view a b =
    ap (λ n. beq a.sends b.sends && (same_name a.sender.now b.sender.now && (same_name a.receiver.now b.receiver.now && (same_name a.name.now b.name.now && n))))
    (numbers_view a.number b.number)

-- so ends are equal where they show one
pub same_ends : (a b : coded.End) → (end_same a b ≡ true) ↔ (end_view a ≡ end_view b)
same_ends a b = (
  λ h. same_end-true (end_view a) (end_view b) (sym (end_same-view a b) ∙ h),
  λ e. end_same-view a b ∙ ap (same_end (end_view a)) (sym e) ∙ same_end-refl (end_view a),
)

-- an end is not found exactly where what it shows is not there
pub missing_test : (keys : List coded.End) (y : coded.End) (x : MessageEnd) (r : Bool)
    → r ≡ list_any (end_same y) keys → end_view y ≡ x
    → (not r ≡ true) ↔ (Occurs (map end_view keys) x → ⊥)
missing_test keys y x r is same =
    let f = found end_view end_same same_ends keys y in (
      λ h o. clash (is ∙ f.1 (subst (Occurs (map end_view keys)) (sym same) o)) (not-true r h),
      λ none. by_test r
          (λ yes. absurd (none (subst (Occurs (map end_view keys)) same (f.0 (sym is ∙ yes)))))
          (λ no. not_from_false r no),
    )

module _ (names : List (List ℕ)) (i : ℕ) (name : List ℕ) (here : StandsAt names i name) (keys : List (Bor (List ℕ))) (v : Bor (List ℕ)) (own : v.now ≡ name) (so_far : (n : List ℕ) → Occurs (map deref keys) n ↔ Earlier names i n) where
  -- the name of a section is found exactly where it stands earlier
  name_found : (list_any (λ b. pointwise nat_eq v.now b.now) keys ≡ true) ↔ Earlier names i name
  name_found =
      let f = found deref (λ a b. pointwise nat_eq a.now b.now) same_names keys v in (
        λ h. (so_far name).0 (subst (Occurs (map deref keys)) own (f.0 h)),
        λ e. f.1 (subst (Occurs (map deref keys)) (sym own) ((so_far name).1 e)),
      )

  -- then the section repeats it
  pub repeat_here : i < 2 ^ 32 → not (list_any (λ b. pointwise nat_eq v.now b.now) keys) ≡ false
      → IsFewRepeats names i
  repeat_here few old = (few, (name, here, name_found.0 (not-false _ old)))

  -- and only then
  pub repeat_old : IsFewRepeats names i → list_any (λ b. pointwise nat_eq v.now b.now) keys ≡ true
  repeat_old h =
      let one = one_at names i h.1.0 name h.1.1 here in
      name_found.1 (subst (Earlier names i) one h.1.2)
