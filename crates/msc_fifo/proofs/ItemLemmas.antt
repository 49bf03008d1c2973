-- The items of a sender among all entries: its messages, and then its end mark.
use Rattle.std.proofs.Common.{◌≡◌, ℕ, ◌==◌, ◌||◌, Bool, true, false, cond, List, [], ◌∷◌, ◌++◌, map, sym, refl, ap, ◌∙◌, subst, eqb-true}
use Rattle.msc_fifo.specs.declared.entry.Entry.{Entry}
use Rattle.msc_fifo.specs.declared.entry.Entry.TheVariants.{Message, Ended}
use Rattle.msc_fifo.specs.declared.claim.Claim.{Claim}
use Rattle.msc_fifo.specs.Entries.{sender_of, messages_of, has_ended, HasNothingOf, IsOrderly}
use Rattle.msc_fifo.specs.Settlement.{entries_at, claims_of}
use Rattle.msc_fifo.proofs.EntryLemmas.{messages_of-nothing}
use Rattle.msc_fifo.proofs.LogLemmas.{cond-false}
use Rattle.std.proofs.Common.{ne_eqb}

-- the entries of sender i
abbrev by_sender : ℕ → List Entry → List Entry
by_sender i [] = []
by_sender i (e ∷ es) = cond (sender_of e == i) (e ∷ by_sender i es) (by_sender i es)

-- what sender i put, and then its end mark where it is closed
abbrev items : ℕ → List ℕ → Bool → List Entry
items i put closed = map (λ (m : ℕ). Message i m) put ++ cond closed (Ended i ∷ []) []

-- the entries of a choice between lists of claims
entries_cond : (b : Bool) (c : Claim) (xs : List Claim) (ys : List Entry) → entries_at xs ≡ ys → entries_at (cond b (c ∷ xs) xs) ≡ cond b (c.entry ∷ ys) ys
entries_cond true c xs ys e = ap (λ l. c.entry ∷ l) e
entries_cond false c xs ys e = e

-- the claims of a sender are for its entries
entries_claims : (i : ℕ) (log : List Claim) → entries_at (claims_of i log) ≡ by_sender i (entries_at log)
entries_claims i [] = refl
entries_claims i (c ∷ log) = entries_cond (sender_of c.entry == i) c (claims_of i log) (by_sender i (entries_at log)) (entries_claims i log)

-- where nothing of a sender stands, it has no entry
by_sender-nothing : (i : ℕ) (es : List Entry) → HasNothingOf i es → by_sender i es ≡ []
by_sender-nothing i [] h = refl
by_sender-nothing i (e ∷ es) h = cond-false (sender_of e == i) (e ∷ by_sender i es) (by_sender i es) (ne_eqb (sender_of e) i h.0) ∙ by_sender-nothing i es h.1

-- a message more in front
message_first : (i j m : ℕ) (es : List Entry) (ms : List ℕ) (h b : Bool) → (j == i) ≡ b → es ≡ items i ms h → cond b (Message j m ∷ es) es ≡ items i (cond b (m ∷ ms) ms) h
message_first i j m es ms h true is e = let same : j ≡ i = eqb-true j i is in λ k. Message (same k) m ∷ e k
message_first i j m es ms h false is e = e

-- an end mark in front: nothing of its sender follows
mark_first : (i j : ℕ) (es : List Entry) (b : Bool) → (j == i) ≡ b → HasNothingOf j es → by_sender i es ≡ items i (messages_of i es) (has_ended i es)
    → cond b (Ended j ∷ by_sender i es) (by_sender i es) ≡ items i (messages_of i es) (b || has_ended i es)
mark_first i j es true is h e = let same : j ≡ i = eqb-true j i is in let none = subst (λ (k : ℕ). HasNothingOf k es) same h in
    (λ k. Ended (same k) ∷ by_sender-nothing i es none k) ∙ (λ k. items i (sym (messages_of-nothing i es none) k) true)
mark_first i j es false is h e = e

-- in an orderly list the entries of a sender are its messages and then its end mark
by_items : (i n : ℕ) (es : List Entry) → IsOrderly n es → by_sender i es ≡ items i (messages_of i es) (has_ended i es)
by_items i n [] o = refl
by_items i n (Message j m ∷ es) o = message_first i j m (by_sender i es) (messages_of i es) (has_ended i es) (j == i) refl (by_items i n es o.2)
by_items i n (Ended j ∷ es) o = mark_first i j es (j == i) refl o.1 (by_items i n es o.2)

-- so what a sender claimed is what it put and then its end mark
pub claimed_items : (i n : ℕ) (log : List Claim) (put : List ℕ) (closed : Bool) → IsOrderly n (entries_at log) → put ≡ messages_of i (entries_at log) → closed ≡ has_ended i (entries_at log)
    → entries_at (claims_of i log) ≡ items i put closed
claimed_items i n log put closed orderly is shut = entries_claims i log ∙ by_items i n (entries_at log) orderly ∙ (λ k. items i (sym is k) (sym shut k))
