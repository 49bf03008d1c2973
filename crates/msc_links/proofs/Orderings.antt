-- Lists of rules without a fault: their order does not matter.
use Rattle.std.proofs.Common.{◌≡◌, ℕ, zero, suc, Bool, true, false, not, ◌&&◌, cond, List, [], ◌∷◌, ◌++◌, Some, None, Option, take, drop, refl, sym, ap, ◌∙◌, subst, Result, Ok, Err, find, option_map}
use Rattle.std.specs.List.{list_any, slice_get}
use Rattle.std.specs.Option.{option_or}
use Rattle.std.proofs.lemmas.List.{take-append-drop}
use Rattle.std.proofs.lemmas.Option.{slice_get_within, get_or_from_slice_get}
use Rattle.std.proofs.Math.Seq.{drop-cons}
use Rattle.msc_chart.specs.declared.queue.LinkKind.{LinkKind}
use Rattle.msc_chart.specs.Lists.{Occurs, StandsAt}
use Rattle.msc_chart.proofs.ListLemmas.{by_test}
use Rattle.msc_links.specs.declared.line.LineNames.{LineNames}
use Rattle.msc_links.specs.declared.link.Link.{Link}
use Rattle.msc_links.specs.declared.rule.Rule.{Rule}
use Rattle.msc_links.specs.Blanks.{trimmed}
use Rattle.msc_links.specs.Links.{FaultText, two_kinds, link_of, same_link}
use Rattle.msc_links.specs.Rules.{AreFaultless, fault_among, fault_of, given_kind, has_other_kind, is_for, same_kind}
use Rattle.msc_links.specs.Laws.{HaveSameRules}
use Rattle.msc_links.proofs.Entering.{kind_or_none}
use Rattle.msc_links.proofs.SameLinks.{same_kind-refl, same_link-refl, same_link_true}

-- the kind that two joined lists give: that of the first, or else that of the second
given_append : (names : List LineNames) (xs ys : List Rule) (link : Link)
    → given_kind names (xs ++ ys) link ≡ option_or (given_kind names xs link) (given_kind names ys link)
unfolding given_kind
given_append names [] ys link = refl
given_append names (r ∷ rs) ys link =
    elim (is_for names link r) as (λ v. option_map (λ (x : Rule). x.kind) (cond v (Some r) (find (is_for names link) (rs ++ ys)))
    ≡ option_or (option_map (λ (x : Rule). x.kind) (cond v (Some r) (find (is_for names link) rs))) (option_map (λ (x : Rule). x.kind) (find (is_for names link) ys))) [
      | true ↦ refl
      | false ↦ given_append names rs ys link
    ]

-- a rule at the front is the first for its link
given_front : (names : List LineNames) (rule : Rule) (rules : List Rule) (link : Link)
    → is_for names link rule ≡ true → given_kind names (rule ∷ rules) link ≡ Some rule.kind
unfolding given_kind
given_front names rule rules link is = rw is refl

-- a list is what stands before one of its items, the item, and the rest
cut_at : (rules : List Rule) (j : ℕ) (rule : Rule) → slice_get rules j ≡ Some rule → rules ≡ take j rules ++ rule ∷ drop (suc j) rules
cut_at rules j rule stands =
    let inside = slice_get_within rules j rule stands in
    let own = get_or_from_slice_get rules j rule rule stands in
    sym (take-append-drop j rules) ∙ ap (λ (l : List Rule). take j rules ++ l) (drop-cons rules j rule inside ∙ ap (λ (r : Rule). r ∷ drop (suc j) rules) own)

-- a rule that has no fault means a link to which the earlier ones give no other kind
pub record Means (names : List LineNames) (earlier : List Rule) (rule : Rule) : Type 0 where
  pub link : Link
  pub is : link_of names rule.link.now ≡ Ok link
  pub agreed : has_other_kind names earlier link rule.kind ≡ false

means_by : (names : List LineNames) (earlier : List Rule) (rule : Rule) (m : Result Link FaultText)
    → link_of names rule.link.now ≡ m → fault_among names earlier rule m ≡ None → Means names earlier rule
means_by names earlier rule (Err f) is none = cc
means_by names earlier rule (Ok link) is none =
    by_test (has_other_kind names earlier link rule.kind)
    (λ other. let e : Some (two_kinds (trimmed rule.link.now)) ≡ None = rw other at none in cc)
    (λ agreed. record { link = link; is = is; agreed = agreed })

means_one : (names : List LineNames) (earlier : List Rule) (rule : Rule) → fault_of names earlier rule ≡ None → Means names earlier rule
unfolding fault_of
means_one names earlier rule none = means_by names earlier rule (link_of names rule.link.now) refl none

-- a rule is for the link that it means only
for_own : (names : List LineNames) (rule : Rule) (meant link : Link) → link_of names rule.link.now ≡ Ok meant
    → is_for names link rule ≡ same_link meant link
unfolding is_for
for_own names rule meant link is = rw is refl

-- the first rule for a link gives the kind
found_by : (names : List LineNames) (rule : Rule) (link : Link) (before after : List Rule) (g : Option LinkKind)
    → is_for names link rule ≡ true → has_other_kind names before link rule.kind ≡ false
    → given_kind names before link ≡ g → option_or g (given_kind names (rule ∷ after) link) ≡ Some rule.kind
found_by names rule link before after None is agreed g = given_front names rule after link is
found_by names rule link before after (Some old) is agreed g = ap Some (kind_or_none names before link old rule.kind g agreed)

-- each rule of a list without a fault gives its kind
pub each_counts : (names : List LineNames) (rules : List Rule) (rule : Rule) (link : Link)
    → AreFaultless names rules → Occurs rules rule → is_for names link rule ≡ true
    → given_kind names rules link ≡ Some rule.kind
each_counts names rules rule link faultless occurs is =
    let j = occurs.0 in
    let means = means_one names (take j rules) rule (faultless.each j rule occurs.1) in
    let meant : means.link ≡ link = same_link_true means.link link (sym (for_own names rule means.link link means.is) ∙ is) in
    let agreed = subst (λ (l : Link). has_other_kind names (take j rules) l rule.kind ≡ false) meant means.agreed in
    ap (λ (l : List Rule). given_kind names l link) (cut_at rules j rule occurs.1)
    ∙ given_append names (take j rules) (rule ∷ drop (suc j) rules) link
    ∙ found_by names rule link (take j rules) (drop (suc j) rules) (given_kind names (take j rules) link) is agreed refl

-- the kind that a list gives is that of one of its rules
pub record IsOfRule (names : List LineNames) (rules : List Rule) (link : Link) (kind : LinkKind) : Type 0 where
  pub rule : Rule
  pub occurs : Occurs rules rule
  pub is : is_for names link rule ≡ true
  pub own : rule.kind ≡ kind

of_rule : (names : List LineNames) (rules : List Rule) (link : Link) (kind : LinkKind)
    → given_kind names rules link ≡ Some kind → IsOfRule names rules link kind
unfolding given_kind
of_rule names [] link kind h = cc
of_rule names (r ∷ rs) link kind h =
    by_test (is_for names link r)
    (λ is. let e : Some r.kind ≡ Some kind = rw is at h in record { rule = r; occurs = (0, refl); is = is; own = cc })
    (λ other.
    let later = of_rule names rs link kind (rw other at h) in
    record { rule = later.rule; occurs = (suc later.occurs.0, later.occurs.1); is = later.is; own = later.own })

-- the kind that a list gives is also given by one without a fault that has its rules
given_there : (names : List LineNames) (rules others : List Rule) → AreFaultless names rules
    → ((rule : Rule) → Occurs others rule → Occurs rules rule)
    → (link : Link) (kind : LinkKind) → given_kind names others link ≡ Some kind → given_kind names rules link ≡ Some kind
given_there names rules others faultless within link kind given =
    let of = of_rule names others link kind given in
    each_counts names rules of.rule link faultless (within of.rule of.occurs) of.is ∙ ap Some of.own

-- values that are there exactly together are equal
same_options : {A : Type 0} (a b : Option A) → ((x : A) → a ≡ Some x → b ≡ Some x) → ((x : A) → b ≡ Some x → a ≡ Some x) → a ≡ b
same_options None None there back = refl
same_options None (Some x) there back = back x refl
same_options (Some x) b there back = sym (there x refl)

-- no item of a list passes a test that each item fails
none_passes : (p : Rule → Bool) (xs : List Rule) → ((x : Rule) → Occurs xs x → p x ≡ false) → list_any p xs ≡ false
none_passes p [] fails = refl
none_passes p (x ∷ xs) fails =
    let first : p x ≡ false = fails x (0, refl) in
    let later : list_any p xs ≡ false = none_passes p xs (λ y occurs. fails y (suc occurs.0, occurs.1)) in
    rw (first, later) refl

-- what occurs in the front of a list occurs in the list
occurs_take : (xs : List Rule) (n : ℕ) (x : Rule) (j : ℕ) → slice_get (take n xs) j ≡ Some x → slice_get xs j ≡ Some x
occurs_take xs zero x j h = cc
occurs_take [] (suc n) x j h = cc
occurs_take (y ∷ ys) (suc n) x zero h = h
occurs_take (y ∷ ys) (suc n) x (suc j) h = occurs_take ys n x j h

-- a list that has only rules of one without a fault has no fault
module _ (names : List LineNames) (rules others : List Rule) (faultless : AreFaultless names rules)
    (within : (rule : Rule) → Occurs others rule → Occurs rules rule) where
  -- a rule gives no link another kind than another one
  fits : (rule other : Rule) (link : Link) → Occurs rules rule → Occurs rules other → is_for names link rule ≡ true
      → (is_for names link other && not (same_kind other.kind rule.kind)) ≡ false
  fits rule other link occurs there is =
      by_test (is_for names link other)
      (λ too.
      let e : Some other.kind ≡ Some rule.kind = sym (each_counts names rules other link faultless there too) ∙ each_counts names rules rule link faultless occurs is in
      let own : other.kind ≡ rule.kind = cc in
      rw (too, own, same_kind-refl rule.kind) refl)
      (λ not_too. rw not_too refl)

  no_other : (rule : Rule) (link : Link) (j : ℕ) → Occurs rules rule → is_for names link rule ≡ true
      → has_other_kind names (take j others) link rule.kind ≡ false
  unfolding has_other_kind
  no_other rule link j occurs is =
      none_passes (λ (x : Rule). is_for names link x && not (same_kind x.kind rule.kind)) (take j others)
      (λ other there. fits rule other link occurs (within other (there.0, occurs_take others j other there.0 there.1)) is)

  no_fault_at : (j : ℕ) (rule : Rule) → StandsAt others j rule → fault_of names (take j others) rule ≡ None
  unfolding fault_of
  no_fault_at j rule stands =
      let occurs = within rule (j, stands) in
      let means = means_one names (take occurs.0 rules) rule (faultless.each occurs.0 rule occurs.1) in
      let own = for_own names rule means.link means.link means.is ∙ same_link-refl means.link in
      rw (means.is, no_other rule means.link j occurs own) refl

  pub faultless_too : AreFaultless names others
  faultless_too = record { each = no_fault_at }

-- lists with the same rules give the same kinds
pub same_kinds : (names : List LineNames) (rules others : List Rule) → AreFaultless names rules → HaveSameRules rules others
    → AreFaultless names others × ((link : Link) → given_kind names others link ≡ given_kind names rules link)
same_kinds names rules others faultless same =
    let too = faultless_too names rules others faultless (λ rule occurs. (same rule).1 occurs) in (
      too,
      λ link. same_options (given_kind names others link) (given_kind names rules link)
          (given_there names rules others faultless (λ rule occurs. (same rule).1 occurs) link)
          (given_there names others rules too (λ rule occurs. (same rule).0 occurs) link),
    )
