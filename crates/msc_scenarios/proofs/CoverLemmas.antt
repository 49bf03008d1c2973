-- What a walk takes is one of some paths, or it stops.
use Rattle.std.proofs.Common.{◌≡◌, ◌⊎◌, inl, inr, ℕ, ◌+◌, Bool, true, false, cond, nat_le, List, [], ◌∷◌, ◌++◌, length, map, refl, sym, ap, ◌∙◌, subst, append_assoc}
use Rattle.std.proofs.lemmas.List.{append-nil}
use Rattle.msc_scenarios.specs.declared.path.Path.{Path}
use Rattle.msc_scenarios.specs.declared.steps.Ending.TheVariants as ends
use Rattle.msc_place.specs.declared.position.Position.{Position}
use Rattle.msc_mermaid.specs.declared.fault.ImportFault.{ImportFault}
use Rattle.msc_mermaid.specs.declared.fault.ImportFault.TheVariants.{Choice}
use Rattle.msc_scenarios.specs.declared.steps.Step.{Step}
use Rattle.msc_scenarios.specs.Choosing.{behind, chosen, goes_on, healed, joined, straight, under, with_end}
use Rattle.msc_scenarios.specs.Steps as passing
use Rattle.msc_scenarios.specs.Steps.{Walk, broken, choice_of, choose, cut_off, ended, go_on, put, then, unbroken, with_choice}
use Rattle.msc_scenarios.proofs.FollowLemmas.{Kept, Took, both, cut_of, ending_of, healed_of, then_broke, then_going}

-- P holds of an item of the list
abbrev pub Has : {X : Type 0} → (X → Type 0) → List X → Type 0
Has P [] = ⊥
Has P (x ∷ xs) = P x ⊎ Has P xs

pub has_left : {X : Type 0} (P : X → Type 0) (xs ys : List X) → Has P xs → Has P (xs ++ ys)
has_left P [] ys h = absurd h
has_left P (x ∷ xs) ys (inl h) = inl h
has_left P (x ∷ xs) ys (inr h) = inr (has_left P xs ys h)

pub has_right : {X : Type 0} (P : X → Type 0) (xs ys : List X) → Has P ys → Has P (xs ++ ys)
has_right P [] ys h = h
has_right P (x ∷ xs) ys h = inr (has_right P xs ys h)

pub has_map : {X Y : Type 0} (P : X → Type 0) (Q : Y → Type 0) (f : X → Y) → ((x : X) → P x → Q (f x)) → (xs : List X) → Has P xs → Has Q (map f xs)
has_map P Q f e [] h = absurd h
has_map P Q f e (x ∷ xs) (inl h) = inl (e x h)
has_map P Q f e (x ∷ xs) (inr h) = inr (has_map P Q f e xs h)

pub has_same : {X : Type 0} (P Q : X → Type 0) → ((x : X) → P x → Q x) → (xs : List X) → Has P xs → Has Q xs
has_same P Q e [] h = absurd h
has_same P Q e (x ∷ xs) (inl h) = inl (e x h)
has_same P Q e (x ∷ xs) (inr h) = inr (has_same P Q e xs h)

-- a fault stopped it
abbrev pub IsStopped : Walk → Type 0
IsStopped v = (fault : ImportFault) × (v.ending ≡ ends.Stopped fault)

-- from w on v took this way
abbrev pub Went : Walk → Walk → Path → Type 0
Went w v path = Took w v path.choices (ending_of path.broken)

abbrev pub Ended : Walk → Walk → List Path → Type 0
Ended w v ws = IsStopped v ⊎ Has (Went w v) ws

-- a walk that goes on takes one of the paths, or stops
pub record Covers (f : Walk → Walk) (ws : List Path) : Type 0 where
  pub paths : (w : Walk) → w.ending ≡ ends.Goes → Ended w (f w) ws

pub then_stopped : (x : Walk) (g : Walk → Walk) → IsStopped x → then x g ≡ x
then_stopped x g h = ap (λ t. go_on t x (g x)) h.1

ended_at : (w v u : Walk) (ws : List Path) → v ≡ u → Ended w u ws → Ended w v ws
ended_at w v u ws e h = subst (λ x. Ended w x ws) (sym e) h

-- another walk that does the same where it goes on
pub cover_when : (f g : Walk → Walk) (ws : List Path) → ((w : Walk) → w.ending ≡ ends.Goes → g w ≡ f w) → Covers f ws → Covers g ws
cover_when f g ws e h = record { paths = λ w i. ended_at w (g w) (f w) ws (e w i) (h.paths w i) }

pub cover_straight : Covers (λ w. w) straight
cover_straight = record { paths = λ w i. inr (inl (record { given = refl; taken = sym (append-nil w.taken); ending = i })) }

-- a walk that takes some paths and goes on with others
module _ (g : Walk → Walk) (vs : List Path) (next : Covers g vs) (w v : Walk) where
  on_end : (a : Path) (u : Walk) → Took w v a.choices ends.Goes → Ended v u vs → IsStopped u ⊎ Has (Went w u) (map (joined a) vs)
  on_end a u t (inl stopped) = inl stopped
  on_end a u t (inr h) = inr (has_map (Went v u) (Went w u) (joined a) (λ b s. both w a.choices b.choices v u (ending_of b.broken) t s) vs h)

  on_by : (a : Path) (b : Bool) → Took w v a.choices (ending_of b) → a.broken ≡ b → IsStopped (then v g) ⊎ Has (Went w (then v g)) (cond b (a ∷ []) (map (joined a) vs))
  on_by a true t e =
      let same : Went w v a = record { given = t.given; taken = t.taken; ending = t.ending ∙ sym (ap ending_of e) } in
      subst (λ u. IsStopped u ⊎ Has (Went w u) (a ∷ [])) (sym (then_broke v g t.ending)) (inr (inl same))
  on_by a false t e =
      subst (λ u. IsStopped u ⊎ Has (Went w u) (map (joined a) vs)) (sym (then_going v g t.ending)) (on_end a (g v) t (next.paths v t.ending))

  to_left : (a : Path) (ws : List Path) → IsStopped (then v g) ⊎ Has (Went w (then v g)) (goes_on vs a) → Ended w (then v g) (behind (a ∷ ws) vs)
  to_left a ws (inl stopped) = inl stopped
  to_left a ws (inr h) = inr (has_left (Went w (then v g)) (goes_on vs a) (behind ws vs) h)

  to_right : (a : Path) (ws : List Path) → Ended w (then v g) (behind ws vs) → Ended w (then v g) (behind (a ∷ ws) vs)
  to_right a ws (inl stopped) = inl stopped
  to_right a ws (inr h) = inr (has_right (Went w (then v g)) (goes_on vs a) (behind ws vs) h)

  went_on : (ws : List Path) → Has (Went w v) ws → Ended w (then v g) (behind ws vs)
  went_on [] h = absurd h
  went_on (a ∷ ws) (inl t) = to_left a ws (on_by a a.broken t refl)
  went_on (a ∷ ws) (inr h) = to_right a ws (went_on ws h)

  ended_on : (ws : List Path) → Ended w v ws → Ended w (then v g) (behind ws vs)
  ended_on ws (inl stopped) = inl (subst IsStopped (sym (then_stopped v g stopped)) stopped)
  ended_on ws (inr h) = went_on ws h

pub cover_behind : (f g : Walk → Walk) (ws vs : List Path) → Covers f ws → Covers g vs → Covers (λ w. then (f w) g) (behind ws vs)
cover_behind f g ws vs h k = record { paths = λ w i. ended_on g vs k w (f w) ws (h.paths w i) }

-- what takes no choice and goes on, or stops
module _ (g : Walk → Walk) (passes : (v : Walk) → v.ending ≡ ends.Goes → IsStopped (g v) ⊎ Kept v (g v)) (w v : Walk) where
  pass_end : (a : Path) (u : Walk) (b : Bool) → Took w v a.choices ends.Goes → a.broken ≡ false → IsStopped u ⊎ Kept v u → IsStopped u ⊎ Went w u a
  pass_end a u b t e (inl stopped) = inl stopped
  pass_end a u b t e (inr k) = inr (record { given = k.given ∙ t.given; taken = k.taken ∙ t.taken; ending = k.ending ∙ sym (ap ending_of e) })

  pass_by : (a : Path) (b : Bool) → Took w v a.choices (ending_of b) → a.broken ≡ b → IsStopped (then v g) ⊎ Went w (then v g) a
  pass_by a true t e =
      let same : Went w v a = record { given = t.given; taken = t.taken; ending = t.ending ∙ sym (ap ending_of e) } in
      subst (λ u. IsStopped u ⊎ Went w u a) (sym (then_broke v g t.ending)) (inr same)
  pass_by a false t e = subst (λ u. IsStopped u ⊎ Went w u a) (sym (then_going v g t.ending)) (pass_end a (g v) false t e (passes v t.ending))

  pass_left : (a : Path) (ws : List Path) → IsStopped (then v g) ⊎ Went w (then v g) a → Ended w (then v g) (a ∷ ws)
  pass_left a ws (inl stopped) = inl stopped
  pass_left a ws (inr h) = inr (inl h)

  pass_right : (a : Path) (ws : List Path) → Ended w (then v g) ws → Ended w (then v g) (a ∷ ws)
  pass_right a ws (inl stopped) = inl stopped
  pass_right a ws (inr h) = inr (inr h)

  passed : (ws : List Path) → Has (Went w v) ws → Ended w (then v g) ws
  passed [] h = absurd h
  passed (a ∷ ws) (inl t) = pass_left a ws (pass_by a a.broken t refl)
  passed (a ∷ ws) (inr h) = pass_right a ws (passed ws h)

  ended_passed : (ws : List Path) → Ended w v ws → Ended w (then v g) ws
  ended_passed ws (inl stopped) = inl (subst IsStopped (sym (then_stopped v g stopped)) stopped)
  ended_passed ws (inr h) = passed ws h

pub cover_passed : (f g : Walk → Walk) (ws : List Path) → ((v : Walk) → v.ending ≡ ends.Goes → IsStopped (g v) ⊎ Kept v (g v)) → Covers f ws → Covers (λ w. then (f w) g) ws
cover_passed f g ws passes h = record { paths = λ w i. ended_passed g passes w (f w) ws (h.paths w i) }

pub put_passes : (s : Step) (v : Walk) → v.ending ≡ ends.Goes → IsStopped (put s v) ⊎ Kept v (put s v)
put_passes s v e = inr (record { given = refl; taken = refl; ending = e })

-- a break ends nothing further out
heal_one : (w v : Walk) (a : Path) → Went w v a → Went w (unbroken v) (with_end false a)
heal_one w v a t = record { given = t.given; taken = t.taken; ending = ap passing.healed t.ending ∙ healed_of a.broken }

heal_end : (w v : Walk) (ws : List Path) → Ended w v ws → Ended w (unbroken v) (healed ws)
heal_end w v ws (inl stopped) = inl (stopped.0, ap passing.healed stopped.1)
heal_end w v ws (inr h) = inr (has_map (Went w v) (Went w (unbroken v)) (with_end false) (heal_one w v) ws h)

pub cover_healed : (f : Walk → Walk) (ws : List Path) → Covers f ws → Covers (λ w. unbroken (f w)) (healed ws)
cover_healed f ws h = record { paths = λ w i. heal_end w (f w) ws (h.paths w i) }

-- from w on v took what such a path has behind its first choice
abbrev pub WentUnder : ℕ → Walk → Walk → Path → Type 0
WentUnder c w v u = (cs : List ℕ) × (u.choices ≡ c ∷ cs) × Took w v cs (ending_of u.broken)

-- what follows a choice takes what one of the paths has behind it, or stops
pub record CoversUnder (c : ℕ) (f : Walk → Walk) (ws : List Path) : Type 0 where
  pub paths : (w : Walk) → w.ending ≡ ends.Goes → IsStopped (f w) ⊎ Has (WentUnder c w (f w)) ws

heal_under : (c : ℕ) (w v u : Walk) (ws : List Path) → u ≡ unbroken v → Ended w v ws → IsStopped u ⊎ Has (WentUnder c w u) (chosen c false ws)
heal_under c w v u ws e (inl stopped) = inl (stopped.0, ap (λ x. x.ending) e ∙ ap passing.healed stopped.1)
heal_under c w v u ws e (inr h) =
    inr (has_map (Went w v) (WentUnder c w u) (under c false) (λ a t. (a.choices, refl, record { given = ap (λ x. x.given) e ∙ t.given; taken = ap (λ x. x.taken) e ∙ t.taken; ending = ap (λ x. x.ending) e ∙ ap passing.healed t.ending ∙ healed_of a.broken })) ws h)

pub cover_under : (c : ℕ) (f h : Walk → Walk) (ws : List Path) → ((w : Walk) → w.ending ≡ ends.Goes → h w ≡ unbroken (f w)) → Covers f ws → CoversUnder c h (chosen c false ws)
cover_under c f h ws is k = record { paths = λ w i. heal_under c w (f w) (h w) ws (is w i) (k.paths w i) }

cut_under : (c : ℕ) (w v : Walk) (ws : List Path) → Ended w v ws → IsStopped (broken v) ⊎ Has (WentUnder c w (broken v)) (chosen c true ws)
cut_under c w v ws (inl stopped) = inl (stopped.0, ap cut_off stopped.1)
cut_under c w v ws (inr h) =
    inr (has_map (Went w v) (WentUnder c w (broken v)) (under c true) (λ a t. (a.choices, refl, record { given = t.given; taken = t.taken; ending = ap cut_off t.ending ∙ cut_of a.broken })) ws h)

pub cover_cut : (c : ℕ) (f : Walk → Walk) (ws : List Path) → Covers f ws → CoversUnder c (λ w. broken (f w)) (chosen c true ws)
cover_cut c f ws k = record { paths = λ w i. cut_under c w (f w) ws (k.paths w i) }

-- more paths cover as much
under_more : (c : ℕ) (w v : Walk) (ws vs : List Path) → ((P : Path → Type 0) → Has P ws → Has P vs) → IsStopped v ⊎ Has (WentUnder c w v) ws → IsStopped v ⊎ Has (WentUnder c w v) vs
under_more c w v ws vs e (inl stopped) = inl stopped
under_more c w v ws vs e (inr h) = inr (e (WentUnder c w v) h)

pub cover_more : (c : ℕ) (f : Walk → Walk) (ws vs : List Path) → ((P : Path → Type 0) → Has P ws → Has P vs) → CoversUnder c f ws → CoversUnder c f vs
cover_more c f ws vs e k = record { paths = λ w i. under_more c w (f w) ws vs e (k.paths w i) }

-- a block takes a choice that it has, or stops
module _ (line : Position) (most main : ℕ) (h : ℕ → Walk → Walk) (ws : List Path) (each : (c : ℕ) → nat_le c most ≡ true → CoversUnder c (h c) ws) where
  choose_is : (w : Walk) (c : ℕ) (t : Bool) → nat_le (choice_of main w) most ≡ t → choose line most main w ≡ cond t (with_choice (choice_of main w) w) (ended (ends.Stopped (Choice line (length w.taken + 1) most)) (with_choice (choice_of main w) w))
  unfolding choose
  choose_is w c t e =
      ap (λ b. cond b (with_choice (choice_of main w) w) (ended (ends.Stopped (Choice line (length w.taken + 1) most)) (with_choice (choice_of main w) w))) e

  taken_too : (w v : Walk) (c : ℕ) → IsStopped v ⊎ Has (WentUnder c (with_choice c w) v) ws → Ended w v ws
  taken_too w v c (inl stopped) = inl stopped
  taken_too w v c (inr k) =
      inr (has_same (WentUnder c (with_choice c w) v) (Went w v) (λ u e. record { given = e.2.given; taken = e.2.taken ∙ append_assoc w.taken (c ∷ []) e.0 ∙ ap (λ x. w.taken ++ x) (sym e.1); ending = e.2.ending }) ws k)

  taking_by : (w : Walk) → w.ending ≡ ends.Goes → (t : Bool) → nat_le (choice_of main w) most ≡ t → Ended w (then (choose line most main w) (h (choice_of main w))) ws
  taking_by w i true e =
      let c = choice_of main w in
      let is = ap (λ x. then x (h c)) (choose_is w c true e) ∙ then_going (with_choice c w) (h c) i in
      ended_at w (then (choose line most main w) (h c)) (h c (with_choice c w)) ws is (taken_too w (h c (with_choice c w)) c ((each c e).paths (with_choice c w) i))
  taking_by w i false e =
      let c = choice_of main w in let stopped = ended (ends.Stopped (Choice line (length w.taken + 1) most)) (with_choice c w) in
      let is = ap (λ x. then x (h c)) (choose_is w c false e) in
      ended_at w (then (choose line most main w) (h c)) stopped ws is (inl (Choice line (length w.taken + 1) most, refl))

  pub cover_taking : Covers (λ w. then (choose line most main w) (h (choice_of main w))) ws
  cover_taking = record { paths = λ w i. taking_by w i (nat_le (choice_of main w) most) refl }
