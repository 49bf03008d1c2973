-- Tests that two links or two kinds are the same, and places of links in a table.
use Rattle.std.proofs.Common.{◌≡◌, ℕ, ◌+◌, ◌<◌, Bool, true, false, ◌&&◌, refl, sym, ap, ◌∙◌, arith, nat_eq, cond, List, Option, Some, None, length, get_or, set}
use Rattle.std.proofs.lemmas.Bool.{eqb-true, eq-eqb, ne_eqb, and_parts}
use Rattle.std.proofs.lemmas.List.{get_or-set_other, get_or-set_same}
use Rattle.std.proofs.lemmas.Nat.{same_from_place}
use Rattle.msc_chart.specs.declared.queue.LinkKind.{LinkKind}
use Rattle.msc_chart.specs.declared.queue.LinkKind.TheVariants.{Pair, Mailbox, Single}
use Rattle.msc_chart.proofs.ListLemmas.{by_test, clash}
use Rattle.msc_links.specs.declared.link.Link.{Link}
use Rattle.msc_links.specs.declared.link.Link.TheVariants.{To, Between}
use Rattle.msc_links.specs.Links.{IsWithin, same_link}
use Rattle.msc_links.specs.Rules.{same_kind}
use Rattle.msc_links.specs.Tables.{place_of}

-- kinds that pass the test are one
pub same_kind_true : (a b : LinkKind) → same_kind a b ≡ true → a ≡ b
same_kind_true Pair Pair h = refl
same_kind_true Pair Mailbox h = cc
same_kind_true Pair Single h = cc
same_kind_true Mailbox Pair h = cc
same_kind_true Mailbox Mailbox h = refl
same_kind_true Mailbox Single h = cc
same_kind_true Single Pair h = cc
same_kind_true Single Mailbox h = cc
same_kind_true Single Single h = refl

-- each kind is the same as itself
pub same_kind-refl : (a : LinkKind) → same_kind a a ≡ true
same_kind-refl Pair = refl
same_kind-refl Mailbox = refl
same_kind-refl Single = refl

-- links that pass the test are one
pub same_link_true : (a b : Link) → same_link a b ≡ true → a ≡ b
same_link_true (To r) (To y) h = ap To (eqb-true r y h)
same_link_true (To r) (Between x y) h = cc
same_link_true (Between s r) (To y) h = cc
same_link_true (Between s r) (Between x y) h =
    let both = and_parts (nat_eq s x) (nat_eq r y) h in
    let first : s ≡ x = eqb-true s x both.0 in
    let second : r ≡ y = eqb-true r y both.1 in
    λ i. Between (first i) (second i)

-- each link is the same as itself
pub same_link-refl : (a : Link) → same_link a a ≡ true
same_link-refl (To r) = eq-eqb r r refl
same_link-refl (Between s r) = rw (eq-eqb s s refl, eq-eqb r r refl) refl

-- two links have one place exactly if they are the same
pub same_place : (a b : Link) → IsWithin a → IsWithin b → nat_eq (place_of a) (place_of b) ≡ same_link a b
same_place (To r) (To y) a_in b_in = refl
same_place (To r) (Between x y) a_in b_in = ne_eqb _ _ (λ same. omega (arith, same, a_in))
same_place (Between s r) (To y) a_in b_in = ne_eqb _ _ (λ same. omega (arith, same, b_in))
same_place (Between s r) (Between x y) a_in b_in =
    by_test (nat_eq s x && nat_eq r y)
    (λ both.
    let p = and_parts (nat_eq s x) (nat_eq r y) both in
    let first : s ≡ x = eqb-true s x p.0 in
    let second : r ≡ y = eqb-true r y p.1 in
    eq-eqb _ _ (λ i. place_of (Between (first i) (second i))) ∙ sym both)
    (λ other.
    by_test (nat_eq (place_of (Between s r)) (place_of (Between x y)))
    (λ same.
    let ends = same_from_place (s + 1) r (x + 1) y 32 a_in.1 b_in.1 (eqb-true _ _ same) in
    let first : s ≡ x = omega (arith, ends.0) in
    let is : (nat_eq s x && nat_eq r y) ≡ true = ap (λ (v : Bool). v && nat_eq r y) (eq-eqb s x first) ∙ eq-eqb r y ends.1 in
    clash is other)
    (λ differ. differ ∙ sym other))

-- a table in which the place of a link has got a kind
pub put_at : (kinds : List (Option LinkKind)) (link : Link) (kind : LinkKind) (place : ℕ) (other : Link)
    → place ≡ place_of link → place < length kinds → IsWithin link → IsWithin other
    → get_or (set kinds place (Some kind)) (place_of other) None
    ≡ cond (same_link link other) (Some kind) (get_or kinds (place_of other) None)
put_at kinds link kind place other is inside link_in other_in =
    by_test (same_link link other)
    (λ same.
    let own : place_of other ≡ place = ap place_of (sym (same_link_true link other same)) ∙ sym is in
    rw (same, own) (get_or-set_same kinds place (Some kind) None inside))
    (λ differ.
    let apart : nat_eq (place_of link) (place_of other) ≡ false = same_place link other link_in other_in ∙ differ in
    rw differ (get_or-set_other kinds place (place_of other) (Some kind) None (λ same. clash (eq-eqb (place_of link) (place_of other) (sym is ∙ sym same)) apart)))

-- each link has a place in a table
pub place_within : (link : Link) → IsWithin link → place_of link < 1056
place_within (To r) within = omega (arith, within)
place_within (Between s r) within = omega (arith, within.0, within.1)
