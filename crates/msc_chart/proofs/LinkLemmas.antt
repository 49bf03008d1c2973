-- Sets of links as rows of bits, and the kinds that they give.
use Rattle.std.proofs.Common.{◌≡◌, ℕ, ◌*◌, ◌<◌, Bool, true, false, not, ◌&&◌, ◌||◌, cond, List, replicate, refl, sym, ap, ◌∙◌, arith, nat_eq}
use Rattle.std.proofs.lemmas.Bool.{lt-ltb, eq-eqb, eqb-true, and_parts}
use Rattle.std.proofs.lemmas.Nat.{same_from_place}
use Rattle.bit_rows.specs.Rows.{all_ones, has}
use Rattle.bit_rows.proofs.Rows.{has_blank, has_ones}
use Rattle.msc_chart.specs.declared.queue.LinkKind.{LinkKind}
use Rattle.msc_chart.specs.declared.queue.LinkKind.TheVariants.{Pair, Mailbox, Single}
use Rattle.msc_chart.specs.Architectures.{link_number}
use Rattle.msc_chart.proofs.ListLemmas.{by_test}

-- words of ones have each link
pub every_link : (s r : ℕ) → s < 32 → r < 32 → has (replicate 16 all_ones) (link_number s r) ≡ true
every_link s r s_in r_in = has_ones 16 (link_number s r) ∙ lt-ltb (link_number s r) (64 * 16) (omega (arith, s_in, r_in))

-- words of zeros have none
pub no_link : (k : ℕ) → has (replicate 16 0) k ≡ false
no_link k = has_blank 16 k

-- links have one number exactly if their ends are the same
same_link : (x y s r : ℕ) → y < 32 → r < 32 → nat_eq (link_number x y) (link_number s r) ≡ (nat_eq x s && nat_eq y r)
same_link x y s r y_in r_in =
    by_test (nat_eq (link_number x y) (link_number s r))
    (λ same.
    let ends = same_from_place x y s r 32 y_in r_in (eqb-true _ _ same) in
    same ∙ sym (ap (λ (b : Bool). b && nat_eq y r) (eq-eqb x s ends.0) ∙ eq-eqb y r ends.1))
    (λ other.
    by_test (nat_eq x s && nat_eq y r)
    (λ both.
    let p = and_parts (nat_eq x s) (nat_eq y r) both in
    let first : x ≡ s = eqb-true x s p.0 in
    let second : y ≡ r = eqb-true y r p.1 in
    eq-eqb _ _ (λ i. link_number (first i) (second i)) ∙ sym both)
    (λ not_both. other ∙ sym not_both))

-- the kind of a link that is in two sets or not
abbrev pub kind_by : Bool → Bool → LinkKind
kind_by pair mailbox = cond pair Pair (cond mailbox Mailbox Single)

-- a link that leaves both sets, and then comes into one or none
put_pair : (p q b : Bool) → kind_by ((p && not b) || b) (q && not b) ≡ cond b Pair (kind_by p q)
put_pair true true true = refl
put_pair true true false = refl
put_pair true false true = refl
put_pair true false false = refl
put_pair false true true = refl
put_pair false true false = refl
put_pair false false true = refl
put_pair false false false = refl

put_mailbox : (p q b : Bool) → kind_by (p && not b) ((q && not b) || b) ≡ cond b Mailbox (kind_by p q)
put_mailbox true true true = refl
put_mailbox true true false = refl
put_mailbox true false true = refl
put_mailbox true false false = refl
put_mailbox false true true = refl
put_mailbox false true false = refl
put_mailbox false false true = refl
put_mailbox false false false = refl

put_none : (p q b : Bool) → kind_by (p && not b) (q && not b) ≡ cond b Single (kind_by p q)
put_none true true true = refl
put_none true true false = refl
put_none true false true = refl
put_none true false false = refl
put_none false true true = refl
put_none false true false = refl
put_none false false true = refl
put_none false false false = refl

-- the number of link (x, y) where link (s, r) leaves both sets, and then comes into one or none
module _ (pairs mailboxes : List ℕ) (x y s r : ℕ) (y_in : y < 32) (r_in : r < 32) where
  -- whether it is that link
  abbrev here : Bool
  here = nat_eq (link_number x y) (link_number s r)

  pub given_pair : (p q : Bool)
      → p ≡ ((has pairs (link_number x y) && not here) || here) → q ≡ (has mailboxes (link_number x y) && not here)
      → kind_by p q ≡ cond (nat_eq x s && nat_eq y r) Pair (kind_by (has pairs (link_number x y)) (has mailboxes (link_number x y)))
  given_pair p q of_p of_q =
      (λ i. kind_by (of_p i) (of_q i))
      ∙ put_pair _ _ here
      ∙ ap (λ (b : Bool). cond b Pair (kind_by (has pairs (link_number x y)) (has mailboxes (link_number x y)))) (same_link x y s r y_in r_in)

  pub given_mailbox : (p q : Bool)
      → p ≡ (has pairs (link_number x y) && not here) → q ≡ ((has mailboxes (link_number x y) && not here) || here)
      → kind_by p q ≡ cond (nat_eq x s && nat_eq y r) Mailbox (kind_by (has pairs (link_number x y)) (has mailboxes (link_number x y)))
  given_mailbox p q of_p of_q =
      (λ i. kind_by (of_p i) (of_q i))
      ∙ put_mailbox _ _ here
      ∙ ap (λ (b : Bool). cond b Mailbox (kind_by (has pairs (link_number x y)) (has mailboxes (link_number x y)))) (same_link x y s r y_in r_in)

  pub given_single : (p q : Bool)
      → p ≡ (has pairs (link_number x y) && not here) → q ≡ (has mailboxes (link_number x y) && not here)
      → kind_by p q ≡ cond (nat_eq x s && nat_eq y r) Single (kind_by (has pairs (link_number x y)) (has mailboxes (link_number x y)))
  given_single p q of_p of_q =
      (λ i. kind_by (of_p i) (of_q i))
      ∙ put_none _ _ here
      ∙ ap (λ (b : Bool). cond b Single (kind_by (has pairs (link_number x y)) (has mailboxes (link_number x y)))) (same_link x y s r y_in r_in)
