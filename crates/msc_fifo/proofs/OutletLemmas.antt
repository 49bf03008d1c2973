-- What the outlet knows after it put something.
use Rattle.std.proofs.Common.{◌≡◌, ℕ, ◌+◌, ◌-◌, ◌<◌, ◌≤◌, Bool, true, false, true≢false, cond, List, [], ◌∷◌, ◌++◌, length, sym, refl, ap, ◌∙◌, subst, arith, length-append}
use Rattle.msc_fifo.specs.declared.entry.Entry.TheVariants.{Message, Ended}
use Rattle.msc_fifo.specs.declared.claim.Claim.{Claim}
use Rattle.msc_fifo.specs.declared.rule.TicketView.{TicketView}
use Rattle.msc_fifo.specs.Claims.{claim, is_message}
use Rattle.msc_fifo.specs.Lists.{Each}
use Rattle.msc_fifo.specs.Views.{outlet_view, resting, offers_of, left_of, IsProper}
use Rattle.msc_fifo.specs.Moves.{after_offer, after_claim, after_date, after_show, after_store}
use Rattle.msc_fifo.proofs.LogLemmas.{each-append}

-- a choice in front of a list that is one longer
cond-snoc : (b : Bool) (x y : ℕ) (xs zs : List ℕ) → zs ≡ xs ++ y ∷ [] → cond b (x ∷ zs) zs ≡ cond b (x ∷ xs) xs ++ y ∷ []
cond-snoc true x y xs zs e = ap (λ l. x ∷ l) e
cond-snoc false x y xs zs e = e

-- a choice in front of two equal lists
cond-both : (b : Bool) (x : ℕ) (xs zs : List ℕ) → zs ≡ xs → cond b (x ∷ zs) zs ≡ cond b (x ∷ xs) xs
cond-both b x xs zs e = ap (λ l. cond b (x ∷ l) l) e

-- a message more is one offer more
pub offers-message : (claims : List Claim) (k i m o n : ℕ) → offers_of (claims ++ claim k (Message i m) o n ∷ []) ≡ offers_of claims ++ o ∷ []
offers-message [] k i m o n = refl
offers-message (c ∷ claims) k i m o n = cond-snoc (is_message c.entry) c.offer o (offers_of claims) (offers_of (claims ++ claim k (Message i m) o n ∷ [])) (offers-message claims k i m o n)

-- an end mark more is no offer more
pub offers-mark : (claims : List Claim) (k i : ℕ) → offers_of (claims ++ claim k (Ended i) 0 0 ∷ []) ≡ offers_of claims
offers-mark [] k i = refl
offers-mark (c ∷ claims) k i = cond-both (is_message c.entry) c.offer (offers_of claims) (offers_of (claims ++ claim k (Ended i) 0 0 ∷ [])) (offers-mark claims k i)

-- after a message the outlet is at rest again, with one message, one claim and one offer more
pub sent : (p quota i m k o n : ℕ) (put after : List ℕ) (claims more : List Claim) (w : TicketView) → length put < quota → after ≡ put ++ m ∷ [] → more ≡ claims ++ claim k (Message i m) o n ∷ []
    → w ≡ outlet_view (left_of quota put false - 1) (after_store (after_show n (after_date n (after_claim k (Message i m) (after_offer o (resting p i put false claims))))))
    → w ≡ outlet_view (left_of quota after false) (resting p i after false more)
sent p quota i m k o n put after claims more w lt push push' now =
    let len : length (put ++ m ∷ []) ≡ length put + 1 = length-append put (m ∷ []) in
    let room : left_of quota put false - 1 ≡ left_of quota (put ++ m ∷ []) false = omega arith in
    let offers = offers-message claims k i m o n in
    now ∙ (λ j. outlet_view (room j) record { from = i; places = p; put = put ++ m ∷ []; closed = false; claims = claims ++ claim k (Message i m) o n ∷ []; pending = []; offers = sym offers j; ready = 0; shown = 0 })
    ∙ (λ j. outlet_view (left_of quota (sym push j) false) (resting p i (sym push j) false (sym push' j)))

-- after the end mark the outlet is at rest again, closed, with one claim more
pub ended : (p quota i k : ℕ) (put : List ℕ) (claims more : List Claim) (w : TicketView) → more ≡ claims ++ claim k (Ended i) 0 0 ∷ []
    → w ≡ outlet_view (left_of quota put false - 1) (after_store (after_claim k (Ended i) (resting p i put false claims)))
    → w ≡ outlet_view (left_of quota put true) (resting p i put true more)
ended p quota i k put claims more w push' now =
    let room : left_of quota put false - 1 ≡ left_of quota put true = omega arith in
    let offers = offers-mark claims k i in
    now ∙ (λ j. outlet_view (room j) record { from = i; places = p; put = put; closed = true; claims = claims ++ claim k (Ended i) 0 0 ∷ []; pending = []; offers = sym offers j; ready = 0; shown = 0 })
    ∙ (λ j. outlet_view (left_of quota put true) (resting p i put true (sym push' j)))

-- the claim of a message with an offer that its clock covers is proper
pub proper_more : (claims more : List Claim) (k i m o n : ℕ) → more ≡ claims ++ claim k (Message i m) o n ∷ [] → 0 < o → o ≤ n → Each IsProper claims → Each IsProper more
proper_more claims more k i m o n push some le h = subst (Each IsProper) (sym push) (each-append IsProper claims (claim k (Message i m) o n ∷ []) h ((λ _. (some, le)), tt))

-- the claim of an end mark is proper
pub proper_mark : (claims more : List Claim) (k i : ℕ) → more ≡ claims ++ claim k (Ended i) 0 0 ∷ [] → Each IsProper claims → Each IsProper more
proper_mark claims more k i push h = subst (Each IsProper) (sym push) (each-append IsProper claims (claim k (Ended i) 0 0 ∷ []) h ((λ no. absurd (true≢false (sym no))), tt))
