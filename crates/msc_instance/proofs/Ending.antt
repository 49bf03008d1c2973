-- How the run of an instance goes on, and how it ends.
use Rattle.std.proofs.Common.{◌≡◌, ℕ, ◌+◌, ◌-◌, ◌*◌, ◌<◌, ◌≤◌, Bool, true, false, refl, sym, ap, ◌∙◌, subst, arith, All, mul-le-mul_right}
use Rattle.std.specs.List.{sum_by}
use Rattle.msc_chart.specs.Lists.{occurs}
use Rattle.msc_chart.specs.Drawings.{Drawing}
use Rattle.msc_chart.proofs.ListLemmas.{clash}
use Rattle.msc_fifo.specs.Ends.{IsSpentClock, unended_in}
use Rattle.msc_ending.specs.declared.end.End.TheVariants as end
use Rattle.msc_execution.specs.Roles.{NumberedInlet}
use Rattle.msc_execution.specs.Running.{IsHungry, IsReadyToSend, AllHaveEnded}
use Rattle.msc_instance.specs.declared.active.Active.{Active}
use Rattle.msc_instance.specs.declared.active.Post.{Post}
use Rattle.msc_instance.specs.Active.{IsSound, HasSent, HasUpTo, IsBlocked, EndsSo, logged_by, post_role, weight}
use Rattle.msc_instance.proofs.Logs.{on_post, whole}
use Rattle.msc_instance.proofs.Kept.{comes}

-- sending leaves no more to come
pub weight_sent : (d : Drawing) (p : Post) (a b : Active) → HasSent a b → weight d p b ≤ weight d p a
weight_sent d p a b sent =
    let same = ap (sum_by (λ (n : NumberedInlet). unended_in n.1)) sent.inlets in
    omega (arith, same, sent.longer)

-- the loop's measure falls where something was found
falls : (w u p e f : ℕ) → w < u → w * (p + 1) + (p - f) < u * (p + 1) + (p - e)
falls w u p e f less =
    let big : (w + 1) * (p + 1) ≤ u * (p + 1) = mul-le-mul_right (p + 1) (omega arith) in
    let opened : (w + 1) * (p + 1) ≡ w * (p + 1) + 1 * (p + 1) = grind arith in
    omega (arith, big, opened)

-- and where nothing was found
falls_empty : (w u p e : ℕ) → w ≤ u → e < p → w * (p + 1) + (p - (e + 1)) < u * (p + 1) + (p - e)
falls_empty w u p e most room =
    let big : w * (p + 1) ≤ u * (p + 1) = mul-le-mul_right (p + 1) most in
    omega (arith, big)

module _ (d : Drawing) (post : Post) (a b c : Active) (patience empty : ℕ) (sent : HasSent a b) where
  -- so it falls in a round that found something
  pub smaller_busy : weight d post c < weight d post b
      → weight d post c * (patience + 1) + (patience - 0) < weight d post a * (patience + 1) +
      (patience - empty)
  smaller_busy less = falls (weight d post c) (weight d post a) patience empty 0
      (omega (arith, weight_sent d post a b sent, less))

  -- and in an empty one, while patience lasts
  pub smaller_empty : weight d post c ≡ weight d post b → empty < patience
      → weight d post c * (patience + 1) + (patience - (empty + 1)) < weight d post a *
      (patience + 1) + (patience - empty)
  smaller_empty same room = falls_empty (weight d post c) (weight d post a) patience empty
      (omega (arith, weight_sent d post a b sent, same)) room

module _ (d : Drawing) (p : Post) (a : Active) (s : IsSound d p a) (open' : Bool) (patience : ℕ) where
  -- the gate or the clock has stopped it
  pub ends_stopped : (open' ≡ true → IsSpentClock a.clock)
      → (open' ≡ true → IsReadyToSend (post_role d p) (logged_by a))
      → EndsSo d p open' patience a end.Stopped
  ends_stopped spent ready =
      comes s.begun open' patience end.Stopped
      (λ reading is. (λ q. refl, λ known. sym is ∙ spent known, ready))

  -- all is logged
  pub ends_finished : a.first ≡ p.end → EndsSo d p open' patience a end.Finished
  ends_finished at =
      comes s.begun open' patience end.Finished
      (λ reading is. (λ q. refl, whole d p (logged_by a) s.post (subst (HasUpTo p (logged_by a)) at s.first)))

  -- something is missing, and what comes next waits
  module _ (part : a.first < p.end) (missing : a.first < p.end → occurs (logged_by a) a.first ≡ false)
      (blocked : IsBlocked d p.instance (logged_by a)) where
    -- so the instance is hungry
    hungry : IsHungry (post_role d p) (logged_by a)
    hungry =
        let on = on_post d p s.post (logged_by a) a.next s.next a.first s.first.from part in
        record { part = λ all. clash (all a.first on.0 on.1) (missing part); blocked = blocked }

    -- it starves where all its inlets have ended
    pub ends_starved : AllHaveEnded a.inlets.items → EndsSo d p open' patience a end.Starved
    ends_starved ended =
        comes s.begun open' patience end.Starved
        (λ reading is. (λ q. refl, hungry, ended))

    -- and is impatient where some have not, but all have been idle that long
    pub ends_impatient : (AllHaveEnded a.inlets.items → ⊥)
        → All (λ (n : NumberedInlet). patience ≤ n.1.idle) a.inlets.items
        → EndsSo d p open' patience a end.Impatient
    ends_impatient going idle =
        comes s.begun open' patience end.Impatient
        (λ reading is. (λ q. refl, hungry, going, idle))
