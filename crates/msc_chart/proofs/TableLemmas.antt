-- What the tables of partners and numbers hold.
use Rattle.std.proofs.Common.{◌≡◌, ℕ, ◌+◌, ◌<◌, ◌≤◌, Bool, true, false, cond, not, List, [], ◌∷◌, length, get_or, take, Some, suc, zero, refl, sym, ap, ◌∙◌, subst, arith, inl, inr}
use mathlib.Core.Bool.{beq}
use Rattle.std.specs.Cmp.{booleans_Decides}
use Rattle.std.specs.Prelude.{count_by, ◌↔◌, IsTrue, nat_eq, map}
use Rattle.std.proofs.lemmas.Bool.{cases_lt, eqb-true, eq-eqb}
use Rattle.std.proofs.lemmas.List.Sums.{sum_by-cons}
use Rattle.std.proofs.lemmas.Option.{slice_get_within, slice_get-get_or}
use Rattle.msc_chart.specs.Events.{MessageEnd, Act, is_sent, is_action, is_end, other_end}
use Rattle.msc_chart.specs.Events.Act.{OfMessage, Action}
use Rattle.msc_chart.specs.Charting.{end_place, act_kind, event_of, partner_of, subject_of, output_end, outputs_before, actions_before}
use Rattle.msc_chart.specs.Faults.{HoldsAt, IsTwice, IsUnmatched, OfEnd}
use Rattle.msc_chart.specs.Lists.{StandsAt, Occurs}
use Rattle.msc_chart.specs.declared.end.Mark.{Mark}
use Rattle.msc_chart.specs.declared.end.DraftEvent.{DraftEvent}
use Rattle.msc_chart.specs.declared.event.EventKind.{EventKind}
use Rattle.msc_chart.specs.Views.{event_view, mark_view}
use Rattle.msc_chart.specs.Tables.{partners_from, partners_of, numbers_from, numbers_of}
use Rattle.msc_chart.proofs.ListLemmas.{by_test, clash}
use Rattle.msc_chart.proofs.MatchingLemmas.{is_end-true, same_end-refl}
use Rattle.msc_chart.proofs.Places.{one_at, place-map}

-- an end that stands somewhere stands at its place
pub place-stands : (acts : List Act) (x : MessageEnd) (j : ℕ) → StandsAt acts j (OfMessage x)
    → StandsAt acts (end_place acts x) (OfMessage x) × (end_place acts x ≤ j)
place-stands [] x j h = cc
place-stands (y ∷ ys) x zero h =
    let same : y ≡ OfMessage x = cc in
    let found : is_end x y ≡ true = ap (is_end x) same ∙ same_end-refl x in
    rw found (h, omega arith)
place-stands (y ∷ ys) x (suc j) h =
    by_test (is_end x y)
    (λ found. rw found (ap Some (is_end-true x y found), omega arith))
    (λ other.
    let r = place-stands ys x j h in
    let step : end_place (y ∷ ys) x ≡ suc (end_place ys x) = rw other (omega arith) in
    (subst (λ (n : ℕ). StandsAt (y ∷ ys) n (OfMessage x)) (sym step) r.0, omega (arith, r.1, step)))

-- at a place within the list the end stands
pub place-found : (acts : List Act) (x : MessageEnd) → end_place acts x < length acts
    → StandsAt acts (end_place acts x) (OfMessage x)
place-found [] x h = absurd (omega (arith, h))
place-found (y ∷ ys) x h =
    by_test (is_end x y)
    (λ found. rw found (ap Some (is_end-true x y found)))
    (λ other.
    let step : end_place (y ∷ ys) x ≡ suc (end_place ys x) = rw other (omega arith) in
    let rest = place-found ys x (omega (arith, step, h)) in
    subst (λ (n : ℕ). StandsAt (y ∷ ys) n (OfMessage x)) (sym step) rest)

-- a place is at most the number of acts
pub place-few : (acts : List Act) (x : MessageEnd) → end_place acts x ≤ length acts
place-few [] x = omega arith
place-few (y ∷ ys) x =
    let rest = place-few ys x in
    by_test (is_end x y)
    (λ found. rw found (omega arith))
    (λ other. rw other (omega (arith, rest)))

-- where no end stands twice, each stands at its place
pub place-once : (acts : List Act) → ((k : ℕ) → IsTwice acts k → ⊥) → (e : ℕ) (x : MessageEnd)
    → StandsAt acts e (OfMessage x) → end_place acts x ≡ e
place-once acts once e x h =
    let p = place-stands acts x e h in
    elim (cases_lt (end_place acts x) e) [
      | inl below ↦ absurd (once e (x, h, (end_place acts x, below, p.0)))
      | inr ge ↦ omega (arith, p.1)
    ]

-- an end whose place is the number of acts occurs nowhere
pub place-none : (acts : List Act) (x : MessageEnd) → end_place acts x ≡ length acts
    → Occurs acts (OfMessage x) → ⊥
place-none acts x past o =
    let p = place-stands acts x o.0 o.1 in
    let within = slice_get_within acts (end_place acts x) (OfMessage x) p.0 in
    omega (arith, past, within)

-- and an end that occurs nowhere has that place
pub none-place : (acts : List Act) (x : MessageEnd) → (Occurs acts (OfMessage x) → ⊥)
    → end_place acts x ≡ length acts
none-place acts x none =
    elim (cases_lt (end_place acts x) (length acts)) [
      | inl below ↦ absurd (none (end_place acts x, place-found acts x below))
      | inr ge ↦ let few = place-few acts x in omega arith
    ]

-- at the place of an end no action stands
pub place-no_action : (acts : List Act) (x : MessageEnd) (text : List ℕ)
    → StandsAt acts (end_place acts x) (Action text) → ⊥
place-no_action acts x text h =
    let within = slice_get_within acts (end_place acts x) (Action text) h in
    let found = place-found acts x within in
    let one : Action text ≡ OfMessage x = one_at acts (end_place acts x) (Action text) (OfMessage x) h found in
    cc

-- as many partners as acts
partners-length : (acts : List Act) (e : ℕ) (xs : List Act)
    → length (partners_from acts e xs) ≡ length xs
partners-length acts e [] = refl
partners-length acts e (x ∷ xs) = ap suc (partners-length acts (e + 1) xs)

-- and so for all acts
pub partners-many : (acts : List Act) → length (partners_of acts) ≡ length acts
partners-many acts = partners-length acts 0 acts

-- at each place the partner of what stands there
partners-place : (acts : List Act) (e : ℕ) (xs : List Act) (k : ℕ) (x : Act) → StandsAt xs k x
    → get_or (partners_from acts e xs) k 0 ≡ partner_of acts (e + k) x
partners-place acts e [] k x h = cc
partners-place acts e (y ∷ ys) zero x h =
    let same : y ≡ x = cc in
    let number : e ≡ e + 0 = omega arith in
    ap (partner_of acts e) same ∙ ap (λ (n : ℕ). partner_of acts n x) number
partners-place acts e (y ∷ ys) (suc k) x h =
    let number : (e + 1) + k ≡ e + suc k = omega arith in
    partners-place acts (e + 1) ys k x h ∙ ap (λ (n : ℕ). partner_of acts n x) number

-- and so for all acts
pub partner-at : (acts : List Act) (k : ℕ) (x : Act) → StandsAt acts k x
    → get_or (partners_of acts) k 0 ≡ partner_of acts k x
partner-at acts k x h =
    let number : 0 + k ≡ k = omega arith in
    partners-place acts 0 acts k x h ∙ ap (λ (n : ℕ). partner_of acts n x) number

-- a number more than acts
numbers-length : (o a : ℕ) (xs : List Act) → length (numbers_from o a xs) ≡ length xs + 1
numbers-length o a [] = refl
numbers-length o a (OfMessage x ∷ xs) =
    let rest = numbers-length (cond x.sends (o + 1) o) a xs in omega (arith, rest)
numbers-length o a (Action text ∷ xs) =
    let rest = numbers-length o (a + 1) xs in omega (arith, rest)

-- and so for all acts
pub numbers-many : (acts : List Act) → length (numbers_of acts) ≡ length acts + 1
numbers-many acts = numbers-length 0 0 acts

-- an act in front is counted where it is such
more : (p : Act → Bool) (x : Act) (xs : List Act)
    → count_by p (x ∷ xs) ≡ cond (p x) 1 0 + count_by p xs
more p x xs = sum_by-cons (λ (y : Act). cond (p y) 1 0) x xs

-- one more where it is such
one_more : (o : ℕ) (b : Bool) → cond b (o + 1) o ≡ o + cond b 1 0
one_more o true = refl
one_more o false = omega arith

-- where no action stands, the number is that of the outputs before
outputs-at : (o a : ℕ) (xs : List Act) (k : ℕ) → k ≤ length xs
    → ((text : List ℕ) → StandsAt xs k (Action text) → ⊥)
    → get_or (numbers_from o a xs) k 0 ≡ o + outputs_before xs k
outputs-at o a [] zero le none = omega arith
outputs-at o a [] (suc k) le none = absurd (omega (arith, le))
outputs-at o a (OfMessage x ∷ xs) zero le none = omega arith
outputs-at o a (OfMessage x ∷ xs) (suc k) le none =
    let rest = outputs-at (cond x.sends (o + 1) o) a xs k (omega (arith, le)) none in
    let front : outputs_before (OfMessage x ∷ xs) (suc k) ≡ cond x.sends 1 0 + outputs_before xs k =
    more is_sent (OfMessage x) (take k xs) in
    let step : cond x.sends (o + 1) o ≡ o + cond x.sends 1 0 = one_more o x.sends in
    omega (arith, rest, front, step)
outputs-at o a (Action text ∷ xs) zero le none = absurd (none text refl)
outputs-at o a (Action text ∷ xs) (suc k) le none =
    let rest = outputs-at o (a + 1) xs k (omega (arith, le)) none in
    let front = more is_sent (Action text) (take k xs) in
    omega (arith, rest, front)

-- where an action stands, it is that of the actions before
actions-at : (o a : ℕ) (xs : List Act) (k : ℕ) (text : List ℕ) → StandsAt xs k (Action text)
    → get_or (numbers_from o a xs) k 0 ≡ a + actions_before xs k
actions-at o a [] k text h = cc
actions-at o a (OfMessage x ∷ xs) zero text h = cc
actions-at o a (OfMessage x ∷ xs) (suc k) text h =
    let rest = actions-at (cond x.sends (o + 1) o) a xs k text h in
    let front = more is_action (OfMessage x) (take k xs) in
    omega (arith, rest, front)
actions-at o a (Action other ∷ xs) zero text h = omega arith
actions-at o a (Action other ∷ xs) (suc k) text h =
    let rest = actions-at o (a + 1) xs k text h in
    let front = more is_action (Action other) (take k xs) in
    omega (arith, rest, front)

-- the number at the place of an output, or past all acts
pub number-of_end : (acts : List Act) (x : MessageEnd)
    → get_or (numbers_of acts) (end_place acts x) 0 ≡ outputs_before acts (end_place acts x)
number-of_end acts x =
    let r = outputs-at 0 0 acts (end_place acts x) (place-few acts x) (place-no_action acts x) in
    omega (arith, r)

-- the number at the place of an action is its subject
pub number-of_action : (acts : List Act) (e : ℕ) (text : List ℕ) → StandsAt acts e (Action text)
    → get_or (numbers_of acts) e 0 ≡ subject_of acts e (Action text)
number-of_action acts e text h = let r = actions-at 0 0 acts e text h in omega (arith, r)

-- the output of a message stands at the place of an output, or at the partner of an input
pub output-place : (acts : List Act) → ((k : ℕ) → IsTwice acts k → ⊥) → (e : ℕ) (x : MessageEnd)
    → StandsAt acts e (OfMessage x)
    → cond x.sends e (end_place acts (other_end x)) ≡ end_place acts (output_end x)
output-place acts once e x h =
    by_test x.sends
    (λ sent.
    let itself : x ≡ output_end x = λ i. record { sends = sent i; key = x.key } in
    ap (λ (b : Bool). cond b e (end_place acts (other_end x))) sent
    ∙ sym (place-once acts once e x h)
    ∙ ap (end_place acts) itself)
    (λ taken.
    let other : other_end x ≡ output_end x = λ i. record { sends = not (taken i); key = x.key } in
    ap (λ (b : Bool). cond b e (end_place acts (other_end x))) taken ∙ ap (end_place acts) other)

-- what the mark that is read at a place shows stands there
pub mark-at : (marks : List Mark) (e : ℕ) (d m : Mark) → e < length marks → get_or marks e d ≡ m
    → StandsAt (map mark_view marks) e (mark_view m)
mark-at marks e d m within is =
    place-map mark_view marks e m (slice_get-get_or marks e d within ∙ ap Some is)

-- what an event of a draft does stands at its place among the acts
pub act-at : (events : List DraftEvent) (e : ℕ) (d : DraftEvent) → e < length events
    → StandsAt (map (λ x. x.act) (map event_view events)) e (event_view (get_or events e d)).act
act-at events e d within =
    place-map (λ x. x.act) (map event_view events) e (event_view (get_or events e d))
    (place-map event_view events e (get_or events e d) (slice_get-get_or events e d within))

-- an end at a place, and what is unmatched there
module _ (acts : List Act) (sends : Bool) (e : ℕ) (x : MessageEnd)
    (here : StandsAt acts e (OfMessage x)) where
  -- what is unmatched at the place is this end
  unmatched-one : HoldsAt (OfEnd (IsUnmatched sends acts)) acts e → IsUnmatched sends acts x
  unmatched-one u = subst (OfEnd (IsUnmatched sends acts)) (one_at acts e u.0 (OfMessage x) u.1 here) u.2

  -- an end of the other kind is not
  pub other-kind : beq x.sends sends ≡ false → HoldsAt (OfEnd (IsUnmatched sends acts)) acts e → ⊥
  other-kind differ u = clash ((booleans_Decides x.sends sends).1 (unmatched-one u).kind) differ

  -- one of the kind is where the number of acts stands for its partner
  pub unmatched-test : (p n : ℕ) → p ≡ get_or (partners_of acts) e 0 → n ≡ length acts
      → beq x.sends sends ≡ true
      → IsTrue (nat_eq p n) ↔ HoldsAt (OfEnd (IsUnmatched sends acts)) acts e
  unmatched-test p n read count kind =
      let at : p ≡ end_place acts (other_end x) = read ∙ partner-at acts e (OfMessage x) here in (
        λ t.
            let past = sym at ∙ eqb-true p n t ∙ count in
            let same = (booleans_Decides x.sends sends).0 kind in
            (OfMessage x, here, record { kind = same; alone = place-none acts (other_end x) past }),
        λ u. eq-eqb p n (at ∙ none-place acts (other_end x) (unmatched-one u).alone ∙ sym count),
      )

-- no action is unmatched
pub action-matched : (acts : List Act) (sends : Bool) (e : ℕ) (text : List ℕ)
    → StandsAt acts e (Action text) → HoldsAt (OfEnd (IsUnmatched sends acts)) acts e → ⊥
action-matched acts sends e text here u =
    subst (OfEnd (IsUnmatched sends acts)) (one_at acts e u.0 (Action text) u.1 here) u.2

-- the number of the output of an end of a message is the subject of that end
module _ (acts : List Act) (once : (k : ℕ) → IsTwice acts k → ⊥) (e : ℕ) (x : MessageEnd)
    (here : StandsAt acts e (OfMessage x)) (k : ℕ)
    (output : k ≡ cond x.sends e (get_or (partners_of acts) e 0)) where
  -- k is the place of that output
  output-here : k ≡ end_place acts (output_end x)
  output-here =
      output ∙ ap (cond x.sends e) (partner-at acts e (OfMessage x) here)
      ∙ output-place acts once e x here

  -- it has one
  pub output-numbered : k < length (numbers_of acts)
  output-numbered =
      let few = place-few acts (output_end x) in
      omega (arith, output-here, few, numbers-many acts)

  -- and it is the subject of the end
  pub subject-of_end : get_or (numbers_of acts) k 0 ≡ subject_of acts e (OfMessage x)
  subject-of_end =
      ap (λ (n : ℕ). get_or (numbers_of acts) n 0) output-here ∙ number-of_end acts (output_end x)

-- the event that an event of a draft becomes, by the kind, partner and subject of what stands there
module _ (acts : List Act) (e : ℕ) (x : DraftEvent) (own : StandsAt acts e (event_view x).act) where
  -- the parts that were read make that event
  pub charted_act : (a : Act) (t : EventKind × ℕ) (p : ℕ) → StandsAt acts e a
      → p ≡ get_or (partners_of acts) e 0 → t ≡ (act_kind a, subject_of acts e a)
      → record { line = x.line; segment = x.segment; kind = t.0; partner = p; subject = t.1 }
      ≡ event_of acts e (event_view x)
  charted_act a t p here read parts =
      let same : a ≡ (event_view x).act = one_at acts e a (event_view x).act here own in
      let partner = read ∙ partner-at acts e a here ∙ ap (partner_of acts e) same in
      let whole = parts ∙ ap (λ (b : Act). (act_kind b, subject_of acts e b)) same in
      λ i. record {
        line = x.line;
        segment = x.segment;
        kind = (whole i).0;
        partner = partner i;
        subject = (whole i).1;
      }
