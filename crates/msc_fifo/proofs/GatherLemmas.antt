-- Lists that are taken in from their ends.
use Rattle.std.proofs.Common.{◌≡◌, ℕ, suc, List, [], ◌∷◌, ◌++◌, length, map, All, sym, refl, ap, ◌∙◌, subst, arith, length-append}
use Rattle.std.proofs.lemmas.List.{get_or_append_left}
use Rattle.msc_fifo.specs.declared.rule.Sender.{Sender}
use Rattle.msc_fifo.specs.declared.parts.Part.{Part}
use Rattle.msc_fifo.specs.Ends.{OutletState}
use Rattle.msc_fifo.specs.Settling.{IsSenderOf, AreSendersOf}
use Rattle.msc_fifo.specs.Parts.{IsPartOf, ArePartsOf}
use Rattle.msc_fifo.proofs.FillLemmas.{put_length, snoc_same}

-- what holds of all holds of the first
pub all_front : (P : OutletState → Type 0) (xs ys : List OutletState) → All P (xs ++ ys) → All P xs
all_front P xs ys h = λ k d lt. subst P (get_or_append_left xs ys d k lt) (h k d (let n = length-append xs ys in omega arith))

-- the rooms of one outlet more
pub map-snoc : (rest : List OutletState) (o : OutletState) → map put_length (rest ++ o ∷ []) ≡ map put_length rest ++ put_length o ∷ []
map-snoc [] o = refl
map-snoc (r ∷ rest) o = ap (λ l. put_length r ∷ l) (map-snoc rest o)

-- the last room is the last outlet's
pub rooms_front : (whole rest : List OutletState) (o : OutletState) (rooms more : List ℕ) (room : ℕ) → rooms ≡ map put_length whole → whole ≡ rest ++ o ∷ [] → rooms ≡ more ++ room ∷ [] → (more ≡ map put_length rest) × (room ≡ length o.put)
rooms_front whole rest o rooms more room are popped split = snoc_same more (map put_length rest) room (length o.put) (sym split ∙ are ∙ ap (map put_length) popped ∙ map-snoc rest o)

-- one sender more
pub senders_snoc : (os : List OutletState) (xs : List Sender) (o : OutletState) (x : Sender) → AreSendersOf os xs → IsSenderOf o x → AreSendersOf (os ++ o ∷ []) (xs ++ x ∷ [])
senders_snoc [] [] o x h is = (is, tt)
senders_snoc [] (y ∷ xs) o x h is = absurd h
senders_snoc (p ∷ os) [] o x h is = absurd h
senders_snoc (p ∷ os) (y ∷ xs) o x h is = (h.0, senders_snoc os xs o x h.1 is)

-- one part more
pub parts_snoc : (os : List OutletState) (ps : List Part) (o : OutletState) (p : Part) → ArePartsOf os ps → IsPartOf o p → ArePartsOf (os ++ o ∷ []) (ps ++ p ∷ [])
parts_snoc [] [] o x h is = (is, tt)
parts_snoc [] (y ∷ ps) o x h is = absurd h
parts_snoc (p ∷ os) [] o x h is = absurd h
parts_snoc (p ∷ os) (y ∷ ps) o x h is = (h.0, parts_snoc os ps o x h.1 is)

-- as many parts as outlets
pub parts_length : (os : List OutletState) (ps : List Part) → ArePartsOf os ps → length ps ≡ length os
parts_length [] [] h = refl
parts_length [] (y ∷ ps) h = absurd h
parts_length (p ∷ os) [] h = absurd h
parts_length (p ∷ os) (y ∷ ps) h = ap suc (parts_length os ps h.1)

-- the last part is the last outlet's
pub parts_back : (os : List OutletState) (ps : List Part) (p : Part) → ArePartsOf os (ps ++ p ∷ []) → (rest : List OutletState) × (o : OutletState) × (os ≡ rest ++ o ∷ []) × ArePartsOf rest ps × IsPartOf o p
parts_back [] [] p h = absurd h
parts_back [] (y ∷ ps) p h = absurd h
parts_back (o ∷ []) [] p h = ([], o, refl, tt, h.0)
parts_back (o ∷ (o' ∷ os)) [] p h = absurd h.1
parts_back (o ∷ os) (y ∷ ps) p h = let r = parts_back os ps p h.1 in (o ∷ r.0, r.1, ap (λ l. o ∷ l) r.2, (h.0, r.3), r.4)
