-- Walks that are given the choices of one of some paths take them.
use Rattle.std.proofs.Common.{◌≡◌, ◌⊎◌, inr, ℕ, zero, suc, ◌+◌, Bool, true, false, cond, nat_le, List, [], ◌∷◌, ◌++◌, map, refl, sym, ap, ◌∙◌, subst}
use Rattle.std.specs.List.{AllByRecursion}
use Rattle.msc_scenarios.specs.declared.path.Path.{Path}
use Rattle.msc_scenarios.specs.declared.steps.Ending.TheVariants as ends
use Rattle.msc_scenarios.specs.declared.steps.Step.{Step}
use Rattle.msc_scenarios.specs.declared.steps.Step.TheVariants as steps
use Rattle.msc_place.specs.declared.position.Position.{Position}
use Rattle.msc_mermaid.specs.declared.statement.Placed.{Placed}
use Rattle.msc_scenarios.specs.Choosing.{Chooser, behind, by_sides, chosen, goes_on, healed, joined, repeated, straight, under, with_end}
use Rattle.msc_scenarios.specs.Steps.{Walk, Walker, choice_of, choose, go_on, put, rounds_from, side_by_side, then, unbroken}
use Rattle.msc_scenarios.specs.Laws.{IsTooLong}
use Rattle.msc_scenarios.proofs.ChoiceLemmas.{repeated_more, repeated_none, sides_cons, sides_none}
use Rattle.msc_scenarios.proofs.FollowLemmas.{Follows, Kept, follows_healed, follows_joined, follows_none, follows_passed, follows_stopped, follows_under, follows_when, then_same, then_then}
use Rattle.msc_scenarios.proofs.WalkLemmas as walks
use Rattle.msc_place.proofs.Walks.{AllByRecursion-append as all_append}

pub all_map : {X Y : Type 0} (P : X → Type 0) (Q : Y → Type 0) (f : X → Y) → ((x : X) → P x → Q (f x)) → (xs : List X) → AllByRecursion P xs → AllByRecursion Q (map f xs)
all_map P Q f e [] h = tt
all_map P Q f e (x ∷ xs) h = (e x h.0, all_map P Q f e xs h.1)

pub all_same : {X : Type 0} (P Q : X → Type 0) → ((x : X) → P x → Q x) → (xs : List X) → AllByRecursion P xs → AllByRecursion Q xs
all_same P Q e [] h = tt
all_same P Q e (x ∷ xs) h = (e x h.0, all_same P Q e xs h.1)

abbrev pub AllFollow : (Walk → Walk) → List Path → Type 0
AllFollow f ws = AllByRecursion (Follows f) ws

-- another walk that does the same where it goes on
pub retold : (f g : Walk → Walk) (ws : List Path) → ((w : Walk) → w.ending ≡ ends.Goes → g w ≡ f w) → AllFollow f ws → AllFollow g ws
retold f g ws e h = all_same (Follows f) (Follows g) (λ path k. follows_when f g path e k) ws h

pub follow_straight : AllFollow (λ w. w) straight
follow_straight = (follows_none, tt)

-- a walk that takes some paths and goes on with others
module _ (f g : Walk → Walk) (vs : List Path) (next : AllFollow g vs) where
  on_by : (w : Path) (b : Bool) → w.broken ≡ b → Follows f w → AllFollow (λ x. then (f x) g) (cond b (w ∷ []) (map (joined w) vs))
  on_by w true e h = (follows_stopped f g w e h, tt)
  on_by w false e h = all_map (Follows g) (Follows (λ x. then (f x) g)) (joined w) (λ v k. follows_joined f g w v e h k) vs next

  pub follow_behind : (ws : List Path) → AllFollow f ws → AllFollow (λ x. then (f x) g) (behind ws vs)
  follow_behind [] h = tt
  follow_behind (w ∷ ws) h =
      all_append (Follows (λ x. then (f x) g)) (goes_on vs w) (behind ws vs) (on_by w w.broken refl h.0) (follow_behind ws h.1)

pub put_keeps : (s : Step) (v : Walk) → v.ending ≡ ends.Goes → IsTooLong (put s v) ⊎ Kept v (put s v)
put_keeps s v e = inr (record { given = refl; taken = refl; ending = e })

-- what goes on as another does
pub then_as : (x : Walk) (g h : Walk → Walk) → g x ≡ h x → then x g ≡ then x h
then_as x g h e = ap (go_on x.ending x) e

module _ (inner : Chooser) (walker : Walker) (same : (b : List Placed) (rs : List ℕ) → AllFollow (walker b rs) (inner b)) (rs : List ℕ) where
  -- rounds of a loop
  pub follow_rounds : (body : List Placed) (n k : ℕ) (f : Walk → Walk) (ws : List Path) → AllFollow f ws → AllFollow (λ w. then (f w) (rounds_from walker body rs k n)) (repeated (inner body) n ws)
  follow_rounds body zero k f ws h =
      let on = rounds_from walker body rs k 0 in
      subst (AllFollow (λ w. then (f w) on)) (sym (repeated_none (inner body) 0 ws refl)) (retold f (λ w. then (f w) on) ws (λ w e. then_as (f w) on (λ v. v) (walks.round_none walker body rs k 0 (f w) refl) ∙ then_same (f w)) h)
  follow_rounds body (suc n) k f ws h =
      let step = walker body (rs ++ (k + 1) ∷ []) in let more = behind ws (inner body) in
      let on = rounds_from walker body rs k (suc n) in let rest = rounds_from walker body rs (k + 1) n in
      let next = follow_rounds body n (k + 1) (λ w. then (f w) step) more (follow_behind f step (inner body) (same body (rs ++ (k + 1) ∷ [])) ws h) in
      let is = λ (w : Walk) (e : w.ending ≡ ends.Goes). then_as (f w) on (λ v. then (step v) rest) (walks.round_step walker body rs k (suc n) n (f w) refl) ∙ sym (then_then (f w) step rest) in
      subst (AllFollow (λ w. then (f w) on)) (sym (repeated_more (inner body) (suc n) n ws refl)) (retold (λ w. then (then (f w) step) rest) (λ w. then (f w) on) (repeated (inner body) n more) is next)

  -- parallel branches
  follow_side : (b : List Placed) → AllFollow (λ w. then (unbroken (walker b rs w)) (put steps.Next)) (healed (inner b))
  follow_side b =
      let step = λ (w : Walk). then (unbroken (walker b rs w)) (put steps.Next) in
      all_map (Follows (walker b rs)) (Follows step) (with_end false) (λ v h. follows_passed (λ w. unbroken (walker b rs w)) (put steps.Next) (put_keeps steps.Next) (with_end false v) (follows_healed (walker b rs) v h)) (inner b) (same b rs)

  pub follow_sides : (bs : List (List Placed)) (f : Walk → Walk) (ws : List Path) → AllFollow f ws → AllFollow (λ w. then (f w) (side_by_side walker bs rs)) (by_sides inner bs ws)
  follow_sides [] f ws h =
      let on = side_by_side walker [] rs in
      subst (AllFollow (λ w. then (f w) on)) (sym (sides_none inner ws)) (retold f (λ w. then (f w) on) ws (λ w e. then_as (f w) on (λ v. v) (walks.side_none walker rs (f w)) ∙ then_same (f w)) h)
  follow_sides (b ∷ bs) f ws h =
      let step = λ (w : Walk). then (unbroken (walker b rs w)) (put steps.Next) in let more = behind ws (healed (inner b)) in
      let on = side_by_side walker (b ∷ bs) rs in let rest = side_by_side walker bs rs in
      let next = follow_sides bs (λ w. then (f w) step) more (follow_behind f step (healed (inner b)) (follow_side b) ws h) in
      let is = λ (w : Walk) (e : w.ending ≡ ends.Goes). then_as (f w) on (λ v. then (step v) rest) (walks.side_cons walker b bs rs (f w)) ∙ sym (then_then (f w) step rest) in
      subst (AllFollow (λ w. then (f w) on)) (sym (sides_cons inner b bs ws)) (retold (λ w. then (then (f w) step) rest) (λ w. then (f w) on) (by_sides inner bs more) is next)

-- a block on this line of the text, with its greatest and its main choice and what follows each
module _ (line : Position) (most main : ℕ) (h : ℕ → Walk → Walk) where
  abbrev pub taking : Walk → Walk
  taking w = then (choose line most main w) (h (choice_of main w))

  pub follow_chosen : (c : ℕ) (b : Bool) → nat_le c most ≡ true → (ws : List Path) → AllByRecursion (λ v. Follows (h c) (with_end b v)) ws → AllFollow taking (chosen c b ws)
  follow_chosen c b small ws k =
      all_map (λ v. Follows (h c) (with_end b v)) (Follows taking) (under c b) (λ v e. follows_under line most main h c small (with_end b v) e) ws k

  pub follow_choice : (c : ℕ) → nat_le c most ≡ true → (f : Walk → Walk) → ((w : Walk) → w.ending ≡ ends.Goes → h c w ≡ unbroken (f w)) → (ws : List Path) → AllFollow f ws → AllFollow taking (chosen c false ws)
  follow_choice c small f is ws k =
      follow_chosen c false small ws (all_same (Follows f) (λ v. Follows (h c) (with_end false v)) (λ v e. follows_when (λ w. unbroken (f w)) (h c) (with_end false v) is (follows_healed f v e)) ws k)
