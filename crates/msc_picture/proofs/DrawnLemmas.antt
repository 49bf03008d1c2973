-- Which events are drawn, one more each time.
use Rattle.std.proofs.Common.{◌≡◌, ℕ, ◌<◌, Bool, true, false, List, [], ◌∷◌, ◌++◌, length, get_or, set, replicate, Option, Some, None, IfSome, inl, inr, sym, ap, subst, ◌∙◌, refl, arith}
use Rattle.std.proofs.lemmas.Bool.{cases_eq}
use Rattle.std.proofs.lemmas.List.{length-replicate, get_or-replicate, length-set, get_or-set_same, get_or-set_other, get_or_default}
use Rattle.msc_chart.specs.Lists.{Steps, occurs, IsLeast}
use Rattle.msc_chart.proofs.ListLemmas.{occurs-push, occurs_other, Steps-push}
use Rattle.msc_chart.proofs.Left.{is_left, left_less}
use Rattle.msc_chart.proofs.Numbers.{count_below}
use Rattle.msc_picture.specs.declared.rule.Rule.{Rule}
use Rattle.msc_picture.specs.declared.rule.Rule.TheVariants.{Answer, Rest, Level, Send}
use Rattle.msc_picture.specs.Frames.{Frame, last_of, MayFollow, Fits, HasNone, IsEarliest, IsDrawnNext, answering, ranking, resting, levelling, sending}
use Rattle.msc_picture.specs.Drawn.{IsDrawn}

-- the last of a list that was put behind others
last_pushed : (xs : List ℕ) (x : ℕ) → Some x ≡ last_of (xs ++ x ∷ [])
last_pushed [] x = refl
last_pushed (y ∷ []) x = refl
last_pushed (y ∷ z ∷ zs) x = last_pushed (z ∷ zs) x

-- an event that fits a rule may follow
pub fitting_may : (f : Frame) (past : List ℕ) (rule : Rule) (e : ℕ) → Fits f past rule e
    → MayFollow f past e
fitting_may f past Answer e h = h.0
fitting_may f past Rest e h = h.0
fitting_may f past Level e h = h.0
fitting_may f past Send e h = h.0

-- what is drawn next may follow
pub next_may : {f : Frame} {ranks : Option (List ℕ)} {past : List ℕ} {e : ℕ}
    → IsDrawnNext f ranks past e → MayFollow f past e
next_may {f} {ranks} {past} {e} (answering h) = fitting_may f past Answer e h.itself
next_may {f} {ranks} {past} {e} (ranking given is p h) = h.itself
next_may {f} {ranks} {past} {e} (resting none p h) = fitting_may f past Rest e h.itself
next_may {f} {ranks} {past} {e} (levelling none p q h) = fitting_may f past Level e h.itself
next_may {f} {ranks} {past} {e} (sending none p q r h) = fitting_may f past Send e h.itself

-- nothing is drawn yet
pub drawing_begins : (f : Frame) (ranks : Option (List ℕ)) (past : List ℕ) (last : Option ℕ) (done : List Bool)
    (n : ℕ) → n ≡ length f.events → past ≡ [] → last ≡ None → done ≡ replicate n false
    → IsDrawn f ranks past last done
unfolding occurs
drawing_begins f ranks past last done n many none start d = record {
  steps = subst (λ (l : List ℕ). Steps (IsDrawnNext f ranks) [] l) (sym none) tt;
  end = start ∙ ap (λ (l : List ℕ). last_of l) (sym none);
  known = λ s is. let f : ⊥ = cc (start, is) in absurd f;
  long = ap (λ (l : List Bool). length l) d ∙ length-replicate n false ∙ many;
  told = λ e below. ap (λ (l : List Bool). get_or l e false) d
      ∙ get_or-replicate n e false false (omega arith)
      ∙ ap (λ (l : List ℕ). occurs l e) (sym none);
}

module _ {f : Frame} {ranks : Option (List ℕ)} {past : List ℕ} {last : Option ℕ} {done : List Bool}
    (d : IsDrawn f ranks past last done) where
  -- whether an event is drawn, as it was read
  pub done_tells : (e : ℕ) (r : Bool) → e < length f.events → r ≡ get_or done e r
      → r ≡ occurs past e
  done_tells e r below is = is ∙ get_or_default done e r false (omega (arith, d.long)) ∙ d.told e below

  -- with the next event more is drawn
  pub drawn_more : (e : ℕ) (next : List ℕ) → IsDrawnNext f ranks past e → next ≡ past ++ e ∷ []
      → IsDrawn f ranks next (Some e) (set done e true)
  drawn_more e next h same =
      let may = next_may h in
      let inside : e < length done = omega (arith, d.long, may.event) in
      subst (λ (l : List ℕ). IsDrawn f ranks l (Some e) (set done e true)) (sym same)
      (record {
        steps = Steps-push (IsDrawnNext f ranks) past e d.steps h;
        end = last_pushed past e;
        known = λ s is. let same : e ≡ s = cc in subst (λ (w : ℕ). w < length f.events) same may.event;
        long = length-set done e true ∙ d.long;
        told = λ x below. elim (cases_eq x e) [
          | inl here ↦
              ap (λ (w : ℕ). get_or (set done e true) w false) here
              ∙ get_or-set_same done e true false inside
              ∙ sym (ap (λ (w : ℕ). occurs (past ++ e ∷ []) w) here ∙ occurs-push past e)
          | inr other ↦
              get_or-set_other done e x true false other ∙ d.told x below
              ∙ sym (occurs_other past e x other)
        ];
      })

-- an output is drawn next where no other rule fits
pub sends_if : {f : Frame} {ranks : Option (List ℕ)} {past : List ℕ} (r : Option ℕ) → ranks ≡ None
    → HasNone f past Answer → HasNone f past Rest → HasNone f past Level
    → IfSome r (IsLeast (Fits f past Send)) → IfSome r (IsDrawnNext f ranks past)
sends_if None none p q l h = tt
sends_if (Some e) none p q l h = sending none p q l h

-- if ranks are given, the earliest event is drawn next, unless the last one has its input
pub ranks_if : {f : Frame} {ranks : Option (List ℕ)} {past : List ℕ} (r : Option ℕ) (given : List ℕ)
    → ranks ≡ Some given → HasNone f past Answer → IfSome r (IsEarliest given (MayFollow f past))
    → IfSome r (IsDrawnNext f ranks past)
ranks_if None given is p h = tt
ranks_if (Some e) given is p h = ranking given is p h

-- less is left to draw
pub less_left : (f : Frame) (past next : List ℕ) (e : ℕ) → MayFollow f past e
    → next ≡ past ++ e ∷ []
    → count_below (is_left (λ x. true) next) (length f.events)
    < count_below (is_left (λ x. true) past) (length f.events)
less_left f past next e may same =
    rw same (left_less (λ x. true) past (length f.events) e may.event refl may.new)
