-- A text has at most one list of tokens, or one fault.
use Rattle.std.proofs.Common.{◌≡◌, ◌≢◌, ◌⊎◌, ℕ, ◌<◌, List, [], ◌∷◌, ◌++◌, length, Result, Ok, Err, refl, sym, ap, ◌∙◌, append_assoc, inl, inr, arith}
use Rattle.std.specs.Prelude.{IfOk, IfErr}
use Rattle.std.specs.Global.{Vec}
use Rattle.std.proofs.lemmas.List.{append_cancel_left, length-append, get_or_at, get_or-append-add}
use Rattle.msc_lexer.specs.declared.TheConstants.{TEXT_LIMIT}
use Rattle.msc_lexer.specs.declared.token.Token.{Token}
use Rattle.msc_lexer.specs.declared.fault.LexFault.{LexFault}
use Rattle.msc_lexer.specs.declared.fault.LexFault.TheVariants.{TooLong, BadByte, OpenNote, OpenText, LongName, Memory}
use Rattle.msc_lexer.specs.Pieces.{Piece, spelled, text_of, AreCut, tokens_of}
use Rattle.msc_lexer.specs.Lexing.{HasTokens, HasFault, IsFirstFlaw, IsFlaw, IsOkOrMemory, IsErrOrMemory}
use Rattle.msc_lexer.proofs.OnePiece.{same_front}
use Rattle.msc_lexer.proofs.Flaws.{NoPieceStands, nil_stops, flaw_stops}
use Rattle.msc_lexer.proofs.OneFlaw.{one_flaw}

-- a text is cut in one way up to a place at which no piece stands
one_cut : (ps qs : List Piece) (r s : List ℕ) → AreCut ps r → AreCut qs s
    → text_of ps ++ r ≡ text_of qs ++ s → NoPieceStands r → NoPieceStands s → (ps ≡ qs) × (r ≡ s)
unfolding NoPieceStands
one_cut [] [] r s a b e stop_r stop_s = (refl, e)
one_cut [] (q ∷ qs) r s a b e stop_r stop_s =
    absurd (stop_r q (text_of qs ++ s) b.0 (e ∙ append_assoc (spelled q) (text_of qs) s))
one_cut (p ∷ ps) [] r s a b e stop_r stop_s =
    absurd (stop_s p (text_of ps ++ r) a.0 (sym e ∙ append_assoc (spelled p) (text_of ps) r))
one_cut (p ∷ ps) (q ∷ qs) r s a b e stop_r stop_s =
    let t : spelled p ++ (text_of ps ++ r) ≡ spelled q ++ (text_of qs ++ s) = sym (append_assoc (spelled p) (text_of ps) r) ∙ e ∙ append_assoc (spelled q) (text_of qs) s in
    let first = same_front p q (text_of ps ++ r) (text_of qs ++ s) a.0 b.0 t in
    let others = one_cut ps qs r s a.1 b.1 first.1 stop_r stop_s in
    let h = first.0 in
    let i = others.0 in
    ((cc), others.1)

-- an equation with nothing at its end
nil_right : (xs ys : List ℕ) → xs ≡ ys → xs ≡ ys ++ []
nil_right xs ys e = e ∙ sym (Rattle.std.proofs.lemmas.List.append-nil ys)

-- ---- the laws of texts

-- two lists of tokens of a text are one
pub one_tokens : (text : List ℕ) (ts us : List Token) → HasTokens text ts → HasTokens text us
    → ts ≡ us
one_tokens text ts us a b =
    let e : text_of a.pieces ++ [] ≡ text_of b.pieces ++ [] = sym (nil_right text (text_of a.pieces) a.whole) ∙ nil_right text (text_of b.pieces) b.whole in
    let same = one_cut a.pieces b.pieces [] [] a.cut b.cut e nil_stops nil_stops in
    a.made ∙ ap (tokens_of 0) same.0 ∙ sym b.made

-- a text with tokens has no flaw
tokens_or_flaw : (text : List ℕ) (ts : List Token) (fault : LexFault) → HasTokens text ts
    → IsFirstFlaw text fault → ⊥
unfolding NoPieceStands
tokens_or_flaw text ts fault a b =
    let e : text_of a.pieces ++ [] ≡ text_of b.pieces ++ b.rest = sym (nil_right text (text_of a.pieces) a.whole) ∙ b.whole in
    let same = one_cut a.pieces b.pieces [] b.rest a.cut b.cut e nil_stops (flaw_stops fault _ b.rest b.flaw) in
    no_flaw_of_nil fault (length (text_of b.pieces)) (rw (← same.1) at b.flaw)
  where
    -- where nothing is left there is no flaw
    no_flaw_of_nil : (f : LexFault) (at : ℕ) → IsFlaw f at [] → ⊥
    no_flaw_of_nil TooLong at h = h
    no_flaw_of_nil Memory at h = h
    no_flaw_of_nil (BadByte a) at h = h.1
    no_flaw_of_nil (OpenNote a) at h = let e = h.2 in absurd cc
    no_flaw_of_nil (OpenText a) at h = let e = h.2 in absurd cc
    no_flaw_of_nil (LongName a) at h = let e = h.3 in omega (arith, h.6, ap length e, length-append h.1 h.2)

-- two first flaws of a text are one
one_first_flaw : (text : List ℕ) (f g : LexFault) → IsFirstFlaw text f → IsFirstFlaw text g → f ≡ g
one_first_flaw text f g a b =
    let same = one_cut a.pieces b.pieces a.rest b.rest a.cut b.cut (sym a.whole ∙ b.whole) (flaw_stops f _ a.rest a.flaw) (flaw_stops g _ b.rest b.flaw) in
    one_flaw f g (length (text_of b.pieces)) b.rest (rw (same.0, same.1) at a.flaw) b.flaw

-- where a text has a fault, it is too long or has a flaw
fault_cases : (text : List ℕ) (f : LexFault) → HasFault text f
    → ((f ≡ TooLong) × (TEXT_LIMIT < length text)) ⊎ IsFirstFlaw text f
fault_cases text TooLong h = inl (refl, h)
fault_cases text Memory h = absurd h
fault_cases text (BadByte a) h = inr h
fault_cases text (OpenNote a) h = inr h
fault_cases text (OpenText a) h = inr h
fault_cases text (LongName a) h = inr h

-- a text with tokens has no fault
pub tokens_or_fault : (text : List ℕ) (ts : List Token) (f : LexFault) → HasTokens text ts
    → HasFault text f → ⊥
tokens_or_fault text ts f a h =
    elim (fault_cases text f h) [
      | inl long ↦ omega (arith, long.1, a.short)
      | inr flaw ↦ tokens_or_flaw text ts f a flaw
    ]

-- two faults of a text are one
pub one_fault : (text : List ℕ) (f g : LexFault) → HasFault text f → HasFault text g → f ≡ g
one_fault text f g a b =
    elim (fault_cases text f a) [
      | inl long ↦ elim (fault_cases text g b) [
        | inl other ↦ long.0 ∙ sym other.0
        | inr flaw ↦ absurd (omega (arith, long.1, flaw.short))
      ]
      | inr flaw ↦ elim (fault_cases text g b) [
        | inl other ↦ absurd (omega (arith, other.1, flaw.short))
        | inr other ↦ one_first_flaw text f g flaw other
      ]
    ]

-- ---- what lex answers

-- a fault is want of memory or another
is_memory : (f : LexFault) → (f ≡ Memory) ⊎ (f ≢ Memory)
is_memory Memory = inl refl
is_memory TooLong = inr (λ e. cc)
is_memory (BadByte a) = inr (λ e. cc)
is_memory (OpenNote a) = inr (λ e. cc)
is_memory (OpenText a) = inr (λ e. cc)
is_memory (LongName a) = inr (λ e. cc)

-- what answers only what stands in the text answers its tokens
pub answers_tokens : (text : List ℕ) (r : Result (Vec Token) LexFault)
    → IfOk r (λ v. HasTokens text v.items) → IfErr r (λ e. e ≢ Memory → HasFault text e)
    → (ts : List Token) → HasTokens text ts → IsOkOrMemory ts r
answers_tokens text (Ok v) good bad ts h = one_tokens text v.items ts good h
answers_tokens text (Err e) good bad ts h =
    elim (is_memory e) [ inl m ↦ m | inr other ↦ absurd (tokens_or_fault text ts e h (bad other)) ]

-- and its fault
pub answers_fault : (text : List ℕ) (r : Result (Vec Token) LexFault)
    → IfOk r (λ v. HasTokens text v.items) → IfErr r (λ e. e ≢ Memory → HasFault text e)
    → (f : LexFault) → HasFault text f → IsErrOrMemory f r
answers_fault text (Ok v) good bad f h = tokens_or_fault text v.items f good h
answers_fault text (Err e) good bad f h =
    elim (is_memory e) [ inl m ↦ inr m | inr other ↦ inl (one_fault text e f (bad other) h) ]
