-- One more rule of a list.
use Rattle.std.proofs.Common.{◌≡◌, ℕ, ◌+◌, ◌<◌, ◌≤◌, Bool, true, false, not, ◌&&◌, ◌||◌, cond, List, [], ◌∷◌, ◌++◌, Some, None, Option, refl, sym, ap, ◌∙◌, subst, arith, Ok, Err, find, option_map, length, get_or, take}
use Rattle.std.proofs.lemmas.Option.{slice_get-get_or, slice_get_within}
use Rattle.std.specs.List.{list_any}
use Rattle.std.specs.Option.{option_or}
use Rattle.msc_chart.specs.declared.queue.LinkKind.{LinkKind}
use Rattle.msc_chart.specs.Lists.{StandsAt}
use Rattle.msc_chart.proofs.ListLemmas.{by_test, clash}
use Rattle.msc_chart.proofs.NumberingLemmas.{take-next}
use Rattle.msc_links.specs.declared.line.LineNames.{LineNames}
use Rattle.msc_links.specs.declared.link.Link.{Link}
use Rattle.msc_links.specs.declared.rule.Rule.{Rule}
use Rattle.msc_links.specs.declared.table.KindTable.{KindTable}
use Rattle.msc_links.specs.Blanks.{trimmed}
use Rattle.msc_links.specs.Links.{FaultText, two_kinds, IsWithin, link_of, same_link}
use Rattle.msc_links.specs.Rules.{AreFaultless, HasFaultAt, HasNoFaultAt, fault_of, given_kind, has_other_kind, is_for, same_kind}
use Rattle.msc_links.specs.Tables.{HasPut, IsTableOf, differs, kind_at}
use Rattle.msc_links.proofs.SameLinks.{same_kind_true, same_kind-refl, same_link_true}

-- the kind of a link after one more rule: that of the earlier rules, or else that of the new one
pub given_more : (names : List LineNames) (earlier : List Rule) (rule : Rule) (link : Link)
    → given_kind names (earlier ++ rule ∷ []) link
    ≡ option_or (given_kind names earlier link) (cond (is_for names link rule) (Some rule.kind) None)
unfolding given_kind
given_more names [] rule link =
    elim (is_for names link rule) as (λ v. option_map (λ (r : Rule). r.kind) (cond v (Some rule) None) ≡ cond v (Some rule.kind) None) [
      | true ↦ refl
      | false ↦ refl
    ]
given_more names (r ∷ rs) rule link =
    elim (is_for names link r) as (λ v. option_map (λ (x : Rule). x.kind) (cond v (Some r) (find (is_for names link) (rs ++ rule ∷ [])))
    ≡ option_or (option_map (λ (x : Rule). x.kind) (cond v (Some r) (find (is_for names link) rs))) (cond (is_for names link rule) (Some rule.kind) None)) [
      | true ↦ refl
      | false ↦ given_more names rs rule link
    ]

-- other kinds after one more rule: those of the earlier rules, and that of the new one
pub other_more : (names : List LineNames) (earlier : List Rule) (rule : Rule) (link : Link) (kind : LinkKind)
    → has_other_kind names (earlier ++ rule ∷ []) link kind
    ≡ (has_other_kind names earlier link kind || (is_for names link rule && not (same_kind rule.kind kind)))
unfolding has_other_kind
other_more names [] rule link kind =
    elim (is_for names link rule && not (same_kind rule.kind kind)) as (λ v. (v || false) ≡ v) [ true ↦ refl | false ↦ refl ]
other_more names (r ∷ rs) rule link kind =
    elim (is_for names link r && not (same_kind r.kind kind))
    as (λ v. (v || list_any (λ (x : Rule). is_for names link x && not (same_kind x.kind kind)) (rs ++ rule ∷ []))
    ≡ ((v || list_any (λ (x : Rule). is_for names link x && not (same_kind x.kind kind)) rs) || (is_for names link rule && not (same_kind rule.kind kind)))) [
      | true ↦ refl
      | false ↦ other_more names rs rule link kind
    ]

-- where no rule is for a link, none gives it another kind
pub none_other : (names : List LineNames) (rules : List Rule) (link : Link) (kind : LinkKind)
    → given_kind names rules link ≡ None → has_other_kind names rules link kind ≡ false
unfolding given_kind has_other_kind
none_other names [] link kind none = refl
none_other names (r ∷ rs) link kind none =
    (elim (is_for names link r)
    as (λ v. option_map (λ (x : Rule). x.kind) (cond v (Some r) (find (is_for names link) rs)) ≡ None
    → ((v && not (same_kind r.kind kind)) || list_any (λ (x : Rule). is_for names link x && not (same_kind x.kind kind)) rs) ≡ false) [
      | true ↦ λ h. cc
      | false ↦ λ h. none_other names rs link kind h
    ]) none

-- where the first rule for a link gives it one kind, some rule gives it another than any other
pub some_other : (names : List LineNames) (rules : List Rule) (link : Link) (old kind : LinkKind)
    → given_kind names rules link ≡ Some old → same_kind old kind ≡ false → has_other_kind names rules link kind ≡ true
unfolding given_kind has_other_kind
some_other names [] link old kind some differs = cc
some_other names (r ∷ rs) link old kind some differs =
    (elim (is_for names link r)
    as (λ v. option_map (λ (x : Rule). x.kind) (cond v (Some r) (find (is_for names link) rs)) ≡ Some old
    → ((v && not (same_kind r.kind kind)) || list_any (λ (x : Rule). is_for names link x && not (same_kind x.kind kind)) rs) ≡ true) [
      | true ↦ λ h. let same : r.kind ≡ old = cc in rw (same, differs) refl
      | false ↦ λ h. some_other names rs link old kind h differs
    ]) some

-- a list in which no rule gives a link another kind than this gives it this kind or none
pub kind_or_none : (names : List LineNames) (rules : List Rule) (link : Link) (old kind : LinkKind)
    → given_kind names rules link ≡ Some old → has_other_kind names rules link kind ≡ false → old ≡ kind
kind_or_none names rules link old kind some none =
    by_test (same_kind old kind) (same_kind_true old kind)
    (λ differs. clash (some_other names rules link old kind some differs) none)

-- a rule whose LINK means a link to which the earlier rules give no other kind
module _ (names : List LineNames) (earlier : List Rule) (rule : Rule) (meant : Link)
    (means_it : link_of names rule.link.now ≡ Ok meant) (agreed : has_other_kind names earlier meant rule.kind ≡ false) where
  -- it has no fault
  pub no_fault : fault_of names earlier rule ≡ None
  unfolding fault_of
  no_fault = rw (means_it, agreed) refl

  -- it is for that link only
  for_meant : (link : Link) → is_for names link rule ≡ same_link meant link
  unfolding is_for
  for_meant link = rw means_it refl

  -- the earlier rules give that link its kind or none
  same_given : (link : Link) (old : LinkKind) → same_link meant link ≡ true → given_kind names earlier link ≡ Some old → old ≡ rule.kind
  same_given link old same some =
      let is : meant ≡ link = same_link_true meant link same in
      kind_or_none names earlier link old rule.kind some (subst (λ (l : Link). has_other_kind names earlier l rule.kind ≡ false) is agreed)

  -- the kinds in the table, by those of the earlier rules
  kinds_by : (link : Link) (g : Option LinkKind) → given_kind names earlier link ≡ g
      → cond (same_link meant link) (Some rule.kind) g ≡ option_or g (cond (same_link meant link) (Some rule.kind) None)
  kinds_by link None is = refl
  kinds_by link (Some old) is =
      by_test (same_link meant link)
      (λ same. rw same (ap Some (sym (same_given link old same is))))
      (λ other. rw other refl)

  -- no rule gives a link another kind than that of the first rule for it
  agree_by : (link : Link) (kind : LinkKind) (g : Option LinkKind)
      → ((k : LinkKind) → given_kind names earlier link ≡ Some k → has_other_kind names earlier link k ≡ false)
      → given_kind names earlier link ≡ g
      → option_or g (cond (same_link meant link) (Some rule.kind) None) ≡ Some kind
      → (has_other_kind names earlier link kind || (same_link meant link && not (same_kind rule.kind kind))) ≡ false
  agree_by link kind None agree is h =
      by_test (same_link meant link)
      (λ same.
      let e : Some rule.kind ≡ Some kind = rw same at h in
      let own : rule.kind ≡ kind = cc in
      rw (none_other names earlier link kind is, same, own, same_kind-refl kind) refl)
      (λ other. let e : None ≡ Some kind = rw other at h in cc)
  agree_by link kind (Some old) agree is h =
      let own : old ≡ kind = cc in
      let some : given_kind names earlier link ≡ Some kind = is ∙ ap Some own in
      by_test (same_link meant link)
      (λ same.
      let mine : kind ≡ rule.kind = same_given link kind same some in
      rw (agree kind some, same, sym mine, same_kind-refl kind) refl)
      (λ other. rw (agree kind some, other) refl)

  -- the table with the kind of the rule is that of one more rule
  pub table_more : (old new : KindTable) → IsTableOf names earlier old → HasPut old new meant rule.kind
      → IsTableOf names (earlier ++ rule ∷ []) new
  table_more old new table put = record {
    kinds = λ link link_in.
        put link link_in
        ∙ ap (λ (g : Option LinkKind). cond (same_link meant link) (Some rule.kind) g) (table.kinds link link_in)
        ∙ kinds_by link (given_kind names earlier link) refl
        ∙ ap (λ (v : Bool). option_or (given_kind names earlier link) (cond v (Some rule.kind) None)) (sym (for_meant link))
        ∙ sym (given_more names earlier rule link);
    agree = λ link kind given.
        other_more names earlier rule link kind
        ∙ ap (λ (v : Bool). has_other_kind names earlier link kind || (v && not (same_kind rule.kind kind))) (for_meant link)
        ∙ agree_by link kind (given_kind names earlier link) (table.agree link) refl
        (ap (λ (v : Bool). option_or (given_kind names earlier link) (cond v (Some rule.kind) None)) (sym (for_meant link)) ∙ sym (given_more names earlier rule link) ∙ given);
  }

-- the table of earlier rules shows whether one of them gives a link another kind
other_by : (names : List LineNames) (earlier : List Rule) (link : Link) (kind : LinkKind) (g : Option LinkKind)
    → ((k : LinkKind) → given_kind names earlier link ≡ Some k → has_other_kind names earlier link k ≡ false)
    → given_kind names earlier link ≡ g → has_other_kind names earlier link kind ≡ differs g kind
other_by names earlier link kind None agree is = none_other names earlier link kind is
other_by names earlier link kind (Some old) agree is =
    by_test (same_kind old kind)
    (λ same.
    let own : old ≡ kind = same_kind_true old kind same in
    rw same (agree kind (is ∙ ap Some own)))
    (λ other. rw other (some_other names earlier link old kind is other))

other_in : (names : List LineNames) (earlier : List Rule) (table : KindTable) (link : Link) (kind : LinkKind)
    → IsTableOf names earlier table → IsWithin link → has_other_kind names earlier link kind ≡ differs (kind_at table link) kind
other_in names earlier table link kind of within =
    other_by names earlier link kind (given_kind names earlier link) (of.agree link) refl
    ∙ ap (λ (g : Option LinkKind). differs g kind) (sym (of.kinds link within))

-- a rule of a list, after the table of those before it
module _ (names : List LineNames) (rules : List Rule) (place : ℕ) (d : Rule) (inside : place < length rules) where
  -- the rule
  abbrev here : Rule
  here = get_or rules place d

  abbrev before : List Rule
  before = take place rules

  stands : StandsAt rules place here
  stands = slice_get-get_or rules place d inside

  -- it has the fault of its LINK
  pub link_fault : (fault : FaultText) → link_of names here.link.now ≡ Err fault → HasFaultAt names rules place fault
  unfolding fault_of
  link_fault fault is = record { rule = here; stands = stands; here = rw is refl }

  module _ (link : Link) (old : KindTable) (is : link_of names here.link.now ≡ Ok link) (of : IsTableOf names before old) (within : IsWithin link) where
    -- it gives its link a second kind
    pub second_kind : differs (kind_at old link) here.kind ≡ true → HasFaultAt names rules place (two_kinds (trimmed here.link.now))
    unfolding fault_of
    second_kind other = record { rule = here; stands = stands; here = rw (is, other_in names before old link here.kind of within, other) refl }

    -- it has no fault, and the table gets its kind
    pub entered : (new : KindTable) → differs (kind_at old link) here.kind ≡ false → HasPut old new link here.kind
        → HasNoFaultAt names rules place × IsTableOf names (take (place + 1) rules) new
    entered new same put =
        let agreed = other_in names before old link here.kind of within ∙ same in (
          λ rule at.
              let e : Some here ≡ Some rule = sym stands ∙ at in
              let own : here ≡ rule = cc in
              subst (λ (r : Rule). fault_of names before r ≡ None) own (no_fault names before here link is agreed),
          rw (take-next rules place here stands) (table_more names before here link is agreed old new of put),
        )

-- the table without a kind is that of no rule
pub table_of_none : (names : List LineNames) (table : KindTable) → ((link : Link) → IsWithin link → kind_at table link ≡ None)
    → IsTableOf names [] table
unfolding given_kind has_other_kind
table_of_none names table none = record { kinds = none; agree = λ link kind h. cc }

-- where no rule up to the end has a fault, none has
pub none_at_all : (names : List LineNames) (rules : List Rule) (n : ℕ) → length rules ≤ n
    → ((k : ℕ) → k < n → HasNoFaultAt names rules k) → AreFaultless names rules
none_at_all names rules n past none = record {
  each = λ place rule stands. none place (omega (arith, past, slice_get_within rules place rule stands)) rule stands;
}
