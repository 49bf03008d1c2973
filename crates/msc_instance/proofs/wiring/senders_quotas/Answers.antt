use Rattle.std.proofs.Common.{◌<◌, ◌≤◌, ◌≡◌, ℕ, ◌+◌, cond, List, [], ◌∷◌, ◌++◌, filter, get_or, length, nat_lt, take, ap, sym, ◌∙◌}
use Rattle.std.proofs.lemmas.Bool.{lt-ltb, le-ltb}
use Rattle.std.proofs.lemmas.List.{append-nil}
use Rattle.std.proofs.lemmas.List.Elements.{filter_more}
use Rattle.msc_instance.proofs.wiring.senders_quotas.Goals.{then-quota-gt0+in_ok-push, else-quota-gt0}
use Rattle.msc_instance.proofs.wiring.senders_quotas.Goals as goal

-- one quota more, of one who sends
more : (quotas : List ℕ) (i : ℕ) → i < length quotas → 0 < get_or quotas i 0
    → filter (nat_lt 0) (take (i + 1) quotas) ≡ filter (nat_lt 0) (take i quotas) ++ get_or quotas i 0 ∷ []
more quotas i within some =
    filter_more (nat_lt 0) quotas i 0 within
    ∙ ap (λ b. filter (nat_lt 0) (take i quotas) ++ cond b (get_or quotas i 0 ∷ []) []) (lt-ltb _ _ some)

-- and of one who does not
no_more : (quotas : List ℕ) (i : ℕ) → i < length quotas → get_or quotas i 0 ≤ 0
    → filter (nat_lt 0) (take (i + 1) quotas) ≡ filter (nat_lt 0) (take i quotas)
no_more quotas i within none =
    filter_more (nat_lt 0) quotas i 0 within
    ∙ ap (λ b. filter (nat_lt 0) (take i quotas) ++ cond b (get_or quotas i 0 ∷ []) []) (le-ltb _ _ none)
    ∙ append-nil _

pub loop-quota-preserved : goal.loop-quota-preserved
loop-quota-preserved c =
    let quotas = c.args.quotas.now in
    let i = c.loop-quota.quota-index in
    elim c.if-quota-gt0.branch [
      | then-quota-gt0+in_ok-push w ↦
          ap (λ v. v.items) w.own-is
          ∙ w.in_ok-push.ensures.items
          ∙ ap (λ l. l ++ get_or quotas i 0 ∷ []) c.loop-quota.invariant
          ∙ sym (more quotas i c.loop-quota-test.true w.if-quota-gt0.true)
      | else-quota-gt0 w ↦
          ap (λ v. v.items) w.own-is ∙ c.loop-quota.invariant ∙ sym (no_more quotas i c.loop-quota-test.true w.if-quota-gt0.false)
    ]
