use Rattle.std.proofs.Common.{◌≡◌, ℕ, ◌+◌, ◌<◌, Bool, cond, List, [], ◌∷◌, ◌++◌, map, length, get_or, drop, append_assoc, sym, ap, ◌∙◌, arith}
use Rattle.std.proofs.lemmas.List.{drop_more}
use Rattle.msc_chart.specs.declared.end.Mark.{Mark}
use Rattle.msc_chart.specs.Events.{Act}
use Rattle.msc_chart.specs.Tables.{numbers_from}
use Rattle.msc_chart.specs.Views.{mark_view}
use Rattle.msc_chart.proofs.charting.numbers.Goals as goal
use Rattle.msc_chart.proofs.charting.numbers.Goals.{in-OfMessage+in_ok-push-in-OfMessage+then-end, in-OfMessage+in_ok-push-in-OfMessage+else-end, in-Action+in_ok-push-in-Action}

-- what is told at a mark, where these are the numbers told before it and from it on
module _ (xs ys : List ℕ) (o a : ℕ) (marks : List Mark) (k : ℕ) (d m : Mark) (within : k < length marks)
    (here : get_or marks k d ≡ m) (told : xs ++ numbers_from o a (map mark_view (drop k marks)) ≡ ys) where
  -- the numbers of this mark and of the marks behind it are told from it on
  told-at : xs ++ numbers_from o a (mark_view m ∷ map mark_view (drop (k + 1) marks)) ≡ ys
  told-at =
      let read = drop_more marks k d within ∙ ap (λ x. x ∷ drop (k + 1) marks) here in
      sym (ap (λ ms. xs ++ numbers_from o a (map mark_view ms)) read) ∙ told

  -- with this number behind those told before, and the numbers from then on these, the same is told
  told-next : (n : ℕ) (told : List ℕ) (outputs actions : ℕ) → told ≡ xs ++ n ∷ []
      → n ∷ numbers_from outputs actions (map mark_view (drop (k + 1) marks)) ≡ numbers_from o a (mark_view m ∷ map mark_view (drop (k + 1) marks))
      → told ++ numbers_from outputs actions (map mark_view (drop (k + 1) marks)) ≡ ys
  told-next n told outputs actions put same =
      ap (λ l. l ++ numbers_from outputs actions (map mark_view (drop (k + 1) marks))) put
      ∙ append_assoc xs (n ∷ []) _ ∙ ap (λ l. xs ++ l) same ∙ told-at

-- equal counts before the marks behind give equal numbers
same-counts : (n : ℕ) (rest : List Act) (o o' a a' : ℕ) → o ≡ o' → a ≡ a' → n ∷ numbers_from o a rest ≡ n ∷ numbers_from o' a' rest
same-counts n rest o o' a a' outputs actions = λ i. n ∷ numbers_from (outputs i) (actions i) rest

pub loop-mark-preserved : goal.loop-mark-preserved
loop-mark-preserved c =
    let counted = λ (b : Bool). cond b (c.loop-mark.outputs + 1) c.loop-mark.outputs in
    elim c.match-mark.branch [
      | in-OfMessage+in_ok-push-in-OfMessage+then-end w ↦
          let put = ap (λ v. v.items) w.numbers-is ∙ w.in_ok-push-in-OfMessage.ensures.items in
          record { told = told-next _ _ _ _ _ _ _ _ c.loop-mark-test.true w.in-OfMessage.is c.loop-mark.invariant.told _ _ _ _ put (same-counts _ _ _ _ _ _ (w.outputs-is ∙ sym (ap counted w.if-end.true)) (omega arith)); outputs = omega arith; actions = omega arith }
      | in-OfMessage+in_ok-push-in-OfMessage+else-end w ↦
          let put = ap (λ v. v.items) w.numbers-is ∙ w.in_ok-push-in-OfMessage.ensures.items in
          record { told = told-next _ _ _ _ _ _ _ _ c.loop-mark-test.true w.in-OfMessage.is c.loop-mark.invariant.told _ _ _ _ put (same-counts _ _ _ _ _ _ (w.outputs-is ∙ sym (ap counted w.if-end.false)) (omega arith)); outputs = omega arith; actions = omega arith }
      | in-Action+in_ok-push-in-Action w ↦
          let put = ap (λ v. v.items) w.numbers-is ∙ w.in_ok-push-in-Action.ensures.items in
          record { told = told-next _ _ _ _ _ _ _ _ c.loop-mark-test.true w.in-Action.is c.loop-mark.invariant.told _ _ _ _ put (same-counts _ _ _ _ _ _ w.outputs-is (omega arith)); outputs = omega arith; actions = omega arith }
    ]
