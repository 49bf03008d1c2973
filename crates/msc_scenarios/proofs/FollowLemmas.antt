-- Walks that are given the choices of a path take them.
use Rattle.std.proofs.Common.{◌≡◌, ◌⊎◌, inl, inr, ℕ, ◌+◌, Bool, true, false, cond, nat_le, Some, unwrap_or, List, [], ◌∷◌, ◌++◌, length, slice_get, refl, sym, ap, ◌∙◌, subst, append_assoc}
use Rattle.std.proofs.lemmas.List.{append-nil}
use Rattle.msc_scenarios.specs.declared.path.Path.{Path}
use Rattle.msc_scenarios.specs.declared.steps.Ending.{Ending}
use Rattle.msc_scenarios.specs.declared.steps.Ending.TheVariants as ends
use Rattle.msc_place.specs.declared.position.Position.{Position}
use Rattle.msc_mermaid.specs.declared.fault.ImportFault.TheVariants.{Choice}
use Rattle.msc_scenarios.specs.Choosing.{joined, under, with_end}
use Rattle.msc_scenarios.specs.Steps.{Walk, broken, choice_of, choose, cut_off, ended, go_on, healed, then, unbroken, with_choice}
use Rattle.msc_scenarios.specs.Laws.{IsTooLong}

-- how a path ends a walk
abbrev pub ending_of : Bool → Ending
ending_of true = ends.Broke
ending_of false = ends.Goes

-- from w on v took these choices, and v has ended so
pub record Took (w v : Walk) (choices : List ℕ) (e : Ending) : Type 0 where
  pub given : v.given ≡ w.given
  pub taken : v.taken ≡ w.taken ++ choices
  pub ending : v.ending ≡ e

-- w goes on, and is given these choices next
pub record IsGiven (w : Walk) (choices : List ℕ) : Type 0 where
  pub going : w.ending ≡ ends.Goes
  pub rest : List ℕ
  pub given : w.given ≡ w.taken ++ (choices ++ rest)

-- from w on v took the path, or stopped
abbrev pub Ends : Walk → Walk → Path → Type 0
Ends w v path = IsTooLong v ⊎ Took w v path.choices (ending_of path.broken)

pub record Follows (f : Walk → Walk) (path : Path) : Type 0 where
  pub ends : (w : Walk) → IsGiven w path.choices → Ends w (f w) path

-- the same of a walk that is another one
at_walk : (w : Walk) (path : Path) (v u : Walk) → v ≡ u → Ends w u path → Ends w v path
at_walk w path v u e h = subst (λ x. Ends w x path) (sym e) h

-- what has stopped or is broken stays
module _ (x : Walk) (g : Walk → Walk) where
  pub then_going : x.ending ≡ ends.Goes → then x g ≡ g x
  then_going e = ap (λ t. go_on t x (g x)) e

  pub then_broke : x.ending ≡ ends.Broke → then x g ≡ x
  then_broke e = ap (λ t. go_on t x (g x)) e

  pub then_long : IsTooLong x → then x g ≡ x
  then_long h = ap (λ t. go_on t x (g x)) h.1

-- going on in two steps
module _ (x : Walk) (g h : Walk → Walk) where
  then_by : (e : Ending) → x.ending ≡ e → then (then x g) h ≡ then x (λ v. then (g v) h)
  then_by ends.Goes e = ap (λ y. then y h) (then_going x g e) ∙ sym (then_going x (λ v. then (g v) h) e)
  then_by ends.Broke e = ap (λ y. then y h) (then_broke x g e) ∙ then_broke x h e ∙ sym (then_broke x (λ v. then (g v) h) e)
  then_by (ends.Stopped f) e =
      let stays : (k : Walk → Walk) → then x k ≡ x = λ k. ap (λ t. go_on t x (k x)) e in
      ap (λ y. then y h) (stays g) ∙ stays h ∙ sym (stays (λ v. then (g v) h))

  pub then_then : then (then x g) h ≡ then x (λ v. then (g v) h)
  then_then = then_by x.ending refl

same_by : (x : Walk) (e : Ending) → go_on e x x ≡ x
same_by x ends.Goes = refl
same_by x ends.Broke = refl
same_by x (ends.Stopped f) = refl

pub then_same : (x : Walk) → then x (λ v. v) ≡ x
then_same x = same_by x x.ending

-- another walk that does the same where it goes on
pub follows_when : (f g : Walk → Walk) (path : Path) → ((w : Walk) → w.ending ≡ ends.Goes → g w ≡ f w) → Follows f path → Follows g path
follows_when f g path e h = record { ends = λ w i. at_walk w path (g w) (f w) (e w i.going) (h.ends w i) }

-- nothing is done, and no choice taken
pub follows_none : Follows (λ w. w) (record { choices = []; broken = false })
follows_none = record { ends = λ w i. inr (record { given = refl; taken = sym (append-nil w.taken); ending = i.going }) }

module _ (w : Walk) (cs ds : List ℕ) where
  -- choices that are given in two parts
  pub front : IsGiven w (cs ++ ds) → IsGiven w cs
  front i = record { going = i.going; rest = ds ++ i.rest; given = i.given ∙ ap (λ x. w.taken ++ x) (append_assoc cs ds i.rest) }

  pub back : (v : Walk) → IsGiven w (cs ++ ds) → Took w v cs ends.Goes → IsGiven v ds
  back v i t =
      let parts = ap (λ x. w.taken ++ x) (append_assoc cs ds i.rest) ∙ sym (append_assoc w.taken cs (ds ++ i.rest)) in
      record { going = t.ending; rest = i.rest; given = t.given ∙ i.given ∙ parts ∙ ap (λ x. x ++ (ds ++ i.rest)) (sym t.taken) }

  pub both : (v u : Walk) (e : Ending) → Took w v cs ends.Goes → Took v u ds e → Took w u (cs ++ ds) e
  both v u e t s = record {
    given = s.given ∙ t.given;
    taken = s.taken ∙ ap (λ x. x ++ ds) t.taken ∙ append_assoc w.taken cs ds;
    ending = s.ending;
  }

-- one way, and then the other
module _ (f g : Walk → Walk) (a : Path) where
  module _ (b : Path) where
    join_end : (w v u : Walk) → Took w v a.choices ends.Goes → Ends v u b → Ends w u (joined a b)
    join_end w v u t (inl long) = inl long
    join_end w v u t (inr s) = inr (both w a.choices b.choices v u (ending_of b.broken) t s)

    join_next : (w v : Walk) → IsGiven w (a.choices ++ b.choices) → Took w v a.choices ends.Goes → Follows g b → Ends w (then v g) (joined a b)
    join_next w v i t h =
        at_walk w (joined a b) (then v g) (g v) (then_going v g t.ending) (join_end w v (g v) t (h.ends v (back w a.choices b.choices v i t)))

    join_by : (w : Walk) → IsGiven w (a.choices ++ b.choices) → a.broken ≡ false → Ends w (f w) a → Follows g b → Ends w (then (f w) g) (joined a b)
    join_by w i goes (inl long) h = inl (subst IsTooLong (sym (then_long (f w) g long)) long)
    join_by w i goes (inr t) h =
        join_next w (f w) i (record { given = t.given; taken = t.taken; ending = t.ending ∙ ap ending_of goes }) h

    pub follows_joined : a.broken ≡ false → Follows f a → Follows g b → Follows (λ w. then (f w) g) (joined a b)
    follows_joined goes h k = record { ends = λ w i. join_by w i goes (h.ends w (front w a.choices b.choices i)) k }

  stop_by : (w : Walk) → a.broken ≡ true → Ends w (f w) a → Ends w (then (f w) g) a
  stop_by w stops (inl long) = inl (subst IsTooLong (sym (then_long (f w) g long)) long)
  stop_by w stops (inr t) = at_walk w a (then (f w) g) (f w) (then_broke (f w) g (t.ending ∙ ap ending_of stops)) (inr t)

  pub follows_stopped : a.broken ≡ true → Follows f a → Follows (λ w. then (f w) g) a
  follows_stopped stops h = record { ends = λ w i. stop_by w stops (h.ends w i) }

-- what takes no choice and goes on, or stops
pub record Kept (v u : Walk) : Type 0 where
  pub given : u.given ≡ v.given
  pub taken : u.taken ≡ v.taken
  pub ending : u.ending ≡ ends.Goes

module _ (f g : Walk → Walk) (passes : (v : Walk) → v.ending ≡ ends.Goes → IsTooLong (g v) ⊎ Kept v (g v)) where
  kept_by : (w v u : Walk) (cs : List ℕ) → Took w v cs ends.Goes → Kept v u → Took w u cs ends.Goes
  kept_by w v u cs t k = record { given = k.given ∙ t.given; taken = k.taken ∙ t.taken; ending = k.ending }

  pass_end : (w v u : Walk) (cs : List ℕ) → Took w v cs ends.Goes → IsTooLong u ⊎ Kept v u → IsTooLong u ⊎ Took w u cs ends.Goes
  pass_end w v u cs t (inl long) = inl long
  pass_end w v u cs t (inr k) = inr (kept_by w v u cs t k)

  pass_by : (w v : Walk) (cs : List ℕ) (b : Bool) → Took w v cs (ending_of b) → IsTooLong (then v g) ⊎ Took w (then v g) cs (ending_of b)
  pass_by w v cs true t = subst (λ u. IsTooLong u ⊎ Took w u cs ends.Broke) (sym (then_broke v g t.ending)) (inr t)
  pass_by w v cs false t = subst (λ u. IsTooLong u ⊎ Took w u cs ends.Goes) (sym (then_going v g t.ending)) (pass_end w v (g v) cs t (passes v t.ending))

  pass_on : (w v : Walk) (path : Path) → Ends w v path → Ends w (then v g) path
  pass_on w v path (inl long) = inl (subst IsTooLong (sym (then_long v g long)) long)
  pass_on w v path (inr t) = pass_by w v path.choices path.broken t

  pub follows_passed : (path : Path) → Follows f path → Follows (λ w. then (f w) g) path
  follows_passed path h = record { ends = λ w i. pass_on w (f w) path (h.ends w i) }

-- a break ends nothing further out
pub healed_of : (b : Bool) → healed (ending_of b) ≡ ends.Goes
healed_of true = refl
healed_of false = refl

pub cut_of : (b : Bool) → cut_off (ending_of b) ≡ ends.Broke
cut_of true = refl
cut_of false = refl

heal_by : (w v : Walk) (path : Path) → Ends w v path → Ends w (unbroken v) (with_end false path)
heal_by w v path (inl long) = inl (long.0, ap healed long.1)
heal_by w v path (inr t) = inr (record { given = t.given; taken = t.taken; ending = ap healed t.ending ∙ healed_of path.broken })

pub follows_healed : (f : Walk → Walk) (path : Path) → Follows f path → Follows (λ w. unbroken (f w)) (with_end false path)
follows_healed f path h = record { ends = λ w i. heal_by w (f w) path (h.ends w (record { going = i.going; rest = i.rest; given = i.given })) }

cut_by : (w v : Walk) (path : Path) → Ends w v path → Ends w (broken v) (with_end true path)
cut_by w v path (inl long) = inl (long.0, ap cut_off long.1)
cut_by w v path (inr t) = inr (record { given = t.given; taken = t.taken; ending = ap cut_off t.ending ∙ cut_of path.broken })

pub follows_cut : (f : Walk → Walk) (path : Path) → Follows f path → Follows (λ w. broken (f w)) (with_end true path)
follows_cut f path h = record { ends = λ w i. cut_by w (f w) path (h.ends w (record { going = i.going; rest = i.rest; given = i.given })) }

pub unbroken_going : (w : Walk) → w.ending ≡ ends.Goes → unbroken w ≡ w
unbroken_going w e = ap (λ t. ended (healed t) w) e ∙ ap (λ t. ended t w) (sym e)

-- the choice that is given
get_seam : (xs ys : List ℕ) (c : ℕ) → slice_get (xs ++ c ∷ ys) (length xs) ≡ Some c
get_seam [] ys c = refl
get_seam (x ∷ xs) ys c = get_seam xs ys c

-- a block takes its choice, and goes on by it
module _ (line : Position) (most main : ℕ) (h : ℕ → Walk → Walk) (c : ℕ) (small : nat_le c most ≡ true) (v : Path) where
  given_is : (w : Walk) → IsGiven w (c ∷ v.choices) → choice_of main w ≡ c
  given_is w i = ap (λ x. unwrap_or (slice_get x (length w.taken)) main) i.given ∙ ap (λ x. unwrap_or x main) (get_seam w.taken (v.choices ++ i.rest) c)

  chosen_is : (w : Walk) → choice_of main w ≡ c → choose line most main w ≡ with_choice c w
  unfolding choose
  chosen_is w e =
      let stopped = λ (k : ℕ). ended (ends.Stopped (Choice line (length w.taken + 1) most)) (with_choice k w) in
      ap (λ k. cond (nat_le k most) (with_choice k w) (stopped k)) e ∙ ap (λ t. cond t (with_choice c w) (stopped c)) small

  pub after : (w : Walk) → IsGiven w (c ∷ v.choices) → IsGiven (with_choice c w) v.choices
  after w i = record { going = i.going; rest = i.rest; given = i.given ∙ sym (append_assoc w.taken (c ∷ []) (v.choices ++ i.rest)) }

  taken_too : (w u : Walk) → Ends (with_choice c w) u v → Ends w u (under c v.broken v)
  taken_too w u (inl long) = inl long
  taken_too w u (inr t) = inr (record { given = t.given; taken = t.taken ∙ append_assoc w.taken (c ∷ []) v.choices; ending = t.ending })

  pub block_is : (w : Walk) → IsGiven w (c ∷ v.choices) → then (choose line most main w) (h (choice_of main w)) ≡ h c (with_choice c w)
  block_is w i =
      let e = given_is w i in
      ap (λ x. then x (h (choice_of main w))) (chosen_is w e) ∙ ap (λ k. then (with_choice c w) (h k)) e ∙ then_going (with_choice c w) (h c) i.going

  pub follows_under : Follows (h c) v → Follows (λ w. then (choose line most main w) (h (choice_of main w))) (under c v.broken v)
  follows_under k = record { ends = λ w i. at_walk w (under c v.broken v) _ (h c (with_choice c w)) (block_is w i) (taken_too w (h c (with_choice c w)) (k.ends (with_choice c w) (after w i))) }
