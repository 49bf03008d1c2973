-- How far a text has been cut into pieces.
use Rattle.std.proofs.Common.{◌≡◌, ◌≢◌, ℕ, ◌+◌, ◌≤◌, List, [], ◌∷◌, ◌++◌, length, drop, Option, Some, None, Result, Ok, Err, sym, ap, subst, ◌∙◌, append_assoc, zero-add, arith}
use Rattle.std.specs.Result.{IfErr, IsErrAnd}
use Rattle.std.proofs.lemmas.List.{length-append, drop_at, drop-drop, append-nil}
use Rattle.std.proofs.lemmas.List.Concat.{flat_map-append}
use Rattle.msc_lexer.specs.declared.TheConstants.{TEXT_LIMIT}
use Rattle.msc_lexer.specs.declared.token.Kind.{Kind}
use Rattle.msc_lexer.specs.declared.token.Token.{Token}
use Rattle.msc_lexer.specs.declared.fault.LexFault.{LexFault}
use Rattle.msc_lexer.specs.declared.fault.LexFault.TheVariants.{TooLong, BadByte, OpenNote, OpenText, LongName, Memory}
use Rattle.msc_lexer.specs.Pieces.{Piece, spelled, kind_of, Fits, text_of, AreCut, token_of, tokens_of}
use Rattle.msc_lexer.specs.Scanning.{StartsWith}
use Rattle.msc_lexer.specs.Lexing.{HasFault, IsFirstFlaw, IsFlaw}

-- the text of pieces joined is their texts joined
text_of-append : (ps qs : List Piece) → text_of (ps ++ qs) ≡ text_of ps ++ text_of qs
text_of-append ps qs = flat_map-append spelled ps qs

-- the same before a rest
pub text_of-append-rest : (ps qs : List Piece) (rest : List ℕ)
    → text_of (ps ++ qs) ++ rest ≡ text_of ps ++ (text_of qs ++ rest)
text_of-append-rest ps qs rest =
    ap (λ (t : List ℕ). t ++ rest) (text_of-append ps qs) ∙ append_assoc (text_of ps) (text_of qs) rest

-- pieces that fit before pieces that fit may be joined
pub AreCut-append : (ps qs : List Piece) (rest : List ℕ) → AreCut ps (text_of qs ++ rest)
    → AreCut qs rest → AreCut (ps ++ qs) rest
AreCut-append [] qs rest a b = b
AreCut-append (p ∷ ps) qs rest a b =
    (subst (λ (t : List ℕ). Fits p t) (sym (text_of-append-rest ps qs rest)) a.0, AreCut-append ps qs rest a.1 b)

-- the tokens of pieces joined: the later ones begin where the text of the first ends
pub tokens_of-append : (at : ℕ) (ps qs : List Piece)
    → tokens_of at (ps ++ qs) ≡ tokens_of at ps ++ tokens_of (at + length (text_of ps)) qs
tokens_of-append at [] qs = ap (λ (n : ℕ). tokens_of n qs) (let e : at ≡ at + 0 = omega arith in e)
tokens_of-append at (p ∷ ps) qs =
    let n : at + length (spelled p) + length (text_of ps) ≡ at + length (text_of (p ∷ ps)) = omega (arith, length-append (spelled p) (text_of ps)) in
    ap (λ (ts : List Token). token_of (kind_of p) at (length (spelled p)) ++ ts) (tokens_of-append (at + length (spelled p)) ps qs ∙ ap (λ (k : ℕ). tokens_of (at + length (spelled p)) ps ++ tokens_of k qs) n)
    ∙ sym (append_assoc (token_of (kind_of p) at (length (spelled p))) (tokens_of (at + length (spelled p)) ps) (tokens_of (at + length (text_of (p ∷ ps))) qs))

-- the text before a place is cut into pieces with these tokens
pub record IsReadTo (text : List ℕ) (at : ℕ) (tokens : List Token) : Type 0 where
  pub pieces : List Piece
  pub inside : at ≤ length text
  pub whole : text ≡ text_of pieces ++ drop at text
  pub cut : AreCut pieces (drop at text)
  pub place : at ≡ length (text_of pieces)
  pub made : tokens ≡ tokens_of 0 pieces

-- one piece more at the place
pub reads_one : (text : List ℕ) (at : ℕ) (tokens : List Token) (kind : Option Kind) (len : ℕ)
    → IsReadTo text at tokens → StartsWith (drop at text) kind len
    → IsReadTo text (at + len) (tokens ++ token_of kind at len)
reads_one text at tokens kind len so_far next =
    let ps = so_far.pieces in
    let p = next.piece in
    let rest : drop (at + len) text ≡ next.rest = sym (drop-drop len at text) ∙ rw (next.whole) (drop_at (spelled p) next.rest len (sym next.len_is)) in
    let one : text_of (p ∷ []) ≡ spelled p = append-nil (spelled p) in
    let whole : text ≡ text_of (ps ++ p ∷ []) ++ next.rest = so_far.whole ∙ ap (λ (t : List ℕ). text_of ps ++ t) (next.whole ∙ ap (λ (t : List ℕ). t ++ next.rest) (sym one)) ∙ sym (text_of-append-rest ps (p ∷ []) next.rest) in
    let cut : AreCut ps (text_of (p ∷ []) ++ next.rest) = subst (AreCut ps) (next.whole ∙ ap (λ (t : List ℕ). t ++ next.rest) (sym one)) so_far.cut in
    let long : length (text_of (ps ++ p ∷ [])) ≡ at + len = rw text_of-append (omega (arith, length-append (text_of ps) (text_of (p ∷ [])), ap length one, so_far.place, next.len_is)) in
    record {
      pieces = ps ++ p ∷ [];
      inside = omega (arith, long, ap length whole, length-append (text_of (ps ++ p ∷ [])) next.rest);
      whole = rw rest whole;
      cut = rw rest (AreCut-append ps (p ∷ []) next.rest cut (next.fits, tt));
      place = sym long;
      made = rw (so_far.made, next.kind_is, next.len_is, tokens_of-append, so_far.place, zero-add) (ap (λ (ts : List Token). tokens_of 0 ps ++ ts) (sym (append-nil _)));
    }

-- a flaw where reading stands is the first one
first_flaw : (text : List ℕ) (at : ℕ) (tokens : List Token) (fault : LexFault)
    → length text ≤ TEXT_LIMIT → IsReadTo text at tokens → IsFlaw fault at (drop at text)
    → IsFirstFlaw text fault
first_flaw text at tokens fault short so_far flaw =
    record {
      pieces = so_far.pieces;
      rest = drop at text;
      short = short;
      whole = so_far.whole;
      cut = so_far.cut;
      flaw = subst (λ (n : ℕ). IsFlaw fault n (drop at text)) so_far.place flaw;
    }

-- so it is the fault of the text
pub flaw_found : (text : List ℕ) (at : ℕ) (tokens : List Token) (fault : LexFault)
    → length text ≤ TEXT_LIMIT → IsReadTo text at tokens → IsFlaw fault at (drop at text)
    → HasFault text fault
flaw_found text at tokens TooLong short so_far flaw = absurd flaw
flaw_found text at tokens Memory short so_far flaw = absurd flaw
flaw_found text at tokens (BadByte a) short so_far flaw =
    first_flaw text at tokens (BadByte a) short so_far flaw
flaw_found text at tokens (OpenNote a) short so_far flaw =
    first_flaw text at tokens (OpenNote a) short so_far flaw
flaw_found text at tokens (OpenText a) short so_far flaw =
    first_flaw text at tokens (OpenText a) short so_far flaw
flaw_found text at tokens (LongName a) short so_far flaw =
    first_flaw text at tokens (LongName a) short so_far flaw

-- and of the text is the fault that is passed on
pub flaw_passed : {X : Type 0} (text : List ℕ) (at : ℕ) (tokens : List Token) (r : Result X LexFault) (fault : LexFault)
    → IsErrAnd r (λ e. e ≡ fault) → length text ≤ TEXT_LIMIT → IsReadTo text at tokens → IsFlaw fault at (drop at text)
    → IfErr r (λ e. e ≢ Memory → HasFault text e)
flaw_passed text at tokens (Ok x) fault same short so_far flaw = tt
flaw_passed text at tokens (Err e) fault same short so_far flaw =
    λ _. subst (HasFault text) (sym same) (flaw_found text at tokens fault short so_far flaw)

-- a piece that is no token adds none
pub reads_gap : (text : List ℕ) (at : ℕ) (tokens : List Token) (kind : Option Kind) (len : ℕ)
    → IsReadTo text at tokens → StartsWith (drop at text) kind len → kind ≡ None
    → IsReadTo text (at + len) tokens
reads_gap text at tokens kind len so_far next none =
    subst (IsReadTo text (at + len)) (ap (λ (k : Option Kind). tokens ++ token_of k at len) none ∙ append-nil tokens) (reads_one text at tokens kind len so_far next)

-- a piece that is a token adds it
pub reads_token : (text : List ℕ) (at : ℕ) (tokens : List Token) (kind : Option Kind) (k : Kind) (len : ℕ)
    → IsReadTo text at tokens → StartsWith (drop at text) kind len → kind ≡ Some k
    → IsReadTo text (at + len) (tokens ++ record { kind = k; start = at; «end» = at + len } ∷ [])
reads_token text at tokens kind k len so_far next some =
    subst (IsReadTo text (at + len)) (ap (λ (o : Option Kind). tokens ++ token_of o at len) some)
    (reads_one text at tokens kind len so_far next)
