-- At the end of a text and at a flaw no piece stands.
use Rattle.std.proofs.Common.{◌≡◌, ℕ, ◌<◌, false, ◌||◌, eqb, nat_eq, List, [], ◌∷◌, ◌++◌, length, Option, Some, None, refl, sym, ap, subst, ◌∙◌, inl, inr, arith}
use Rattle.std.specs.List.{take_while}
use Rattle.std.specs.Option.{is_some}
use Rattle.std.proofs.lemmas.Bool.{or_parts, true≢false}
use Rattle.msc_lexer.specs.declared.TheConstants.{NAME_LIMIT}
use Rattle.msc_lexer.specs.declared.token.Kind.{Kind}
use Rattle.msc_lexer.specs.declared.fault.LexFault.{LexFault}
use Rattle.msc_lexer.specs.declared.fault.LexFault.TheVariants.{TooLong, BadByte, OpenNote, OpenText, LongName, Memory}
use Rattle.msc_lexer.specs.Bytes.{is_white, is_run_byte, begins}
use Rattle.msc_lexer.specs.Words.{word_of}
use Rattle.msc_lexer.specs.Pieces.{Piece, Blank, Note, Run, Quoted, Mark, NeverCloses, doubled, mark_of, IsRun, spelled, Fits}
use Rattle.msc_lexer.specs.Lexing.{IsFlaw, BeginsNothing}
use Rattle.msc_lexer.proofs.Shapes.{class_of, class_at, shape_of, class_of_piece, run_begins, run_class}
use Rattle.msc_lexer.proofs.OnePiece.{doubled_first, note_at_end}

-- no piece stands at the front of the text
unfoldable pub NoPieceStands : List ℕ → Type 0
NoPieceStands text = (p : Piece) (rest : List ℕ) → Fits p rest → text ≡ spelled p ++ rest → ⊥

-- none stands at the end of a text
pub nil_stops : NoPieceStands []
unfolding NoPieceStands class_at shape_of
nil_stops (Blank b) rest f e = cc
nil_stops (Run bytes) rest f e =
    let r = run_begins bytes rest f.0 in let t : [] ≡ (r.0 ∷ r.1) ++ rest = e ∙ ap (λ (t : List ℕ). t ++ rest) r.2 in cc
nil_stops (Quoted body) rest f e = cc
nil_stops (Note body) rest f e = cc
nil_stops (Mark b) rest f e = cc

-- none stands at a byte that begins none
pub bad_stops : (text : List ℕ) → BeginsNothing text → NoPieceStands text
unfolding NoPieceStands
bad_stops text bad (Blank b) rest f e =
    let h = (subst BeginsNothing e bad).0 in
    let w = (or_parts (is_white b) (is_run_byte b) (or_parts (is_white b || is_run_byte b) (is_some (mark_of b)) (or_parts (is_white b || is_run_byte b || is_some (mark_of b)) (eqb b 39) h).0).0).0 in
    true≢false (sym f ∙ w)
bad_stops text bad (Run bytes) rest f e =
    let r = run_begins bytes rest f.0 in
    let b = r.0 in
    let whole : text ≡ b ∷ (r.1 ++ rest) = e ∙ ap (λ (t : List ℕ). t ++ rest) r.2 in
    let h = (subst BeginsNothing whole bad).0 in
    let w = (or_parts (is_white b) (is_run_byte b) (or_parts (is_white b || is_run_byte b) (is_some (mark_of b)) (or_parts (is_white b || is_run_byte b || is_some (mark_of b)) (eqb b 39) h).0).0).1 in
    true≢false (sym r.3 ∙ w)
bad_stops text bad (Quoted body) rest f e = let h = subst BeginsNothing e bad in true≢false h.0
bad_stops text bad (Note body) rest f e = let h = subst BeginsNothing e bad in true≢false h.1
bad_stops text bad (Mark b) rest f e =
    let h = (subst BeginsNothing e bad).0 in
    let w = (or_parts (is_white b || is_run_byte b) (is_some (mark_of b)) (or_parts (is_white b || is_run_byte b || is_some (mark_of b)) (eqb b 39) h).0).1 in
    f (none_of (mark_of b) w)
  where
    -- what is not some is none
    none_of : (o : Option Kind) → is_some o ≡ false → o ≡ None
    none_of None h = refl
    none_of (Some k) h = absurd (true≢false h)

-- none stands at a note without end
pub open_note_stops : (body : List ℕ) → NeverCloses body → NoPieceStands (47 ∷ 42 ∷ body)
unfolding NoPieceStands class_at class_of shape_of
open_note_stops body never (Note inner) rest f e =
    let t : body ≡ (inner ++ 42 ∷ 47 ∷ []) ++ rest = cc in
    let ends = note_at_end inner rest in
    never (length inner) (rw t ends.0) (rw t ends.1)
open_note_stops body never (Blank b) rest f e =
    let h = ap class_at e ∙ class_of_piece (Blank b) rest f in absurd (omega (arith, h))
open_note_stops body never (Run b) rest f e =
    let h = ap class_at e ∙ class_of_piece (Run b) rest f in absurd (omega (arith, h))
open_note_stops body never (Quoted b) rest f e =
    let h = ap class_at e ∙ class_of_piece (Quoted b) rest f in absurd (omega (arith, h))
open_note_stops body never (Mark b) rest f e =
    let h = ap class_at e ∙ class_of_piece (Mark b) rest f in absurd (omega (arith, h))

-- bytes that are all doubled hold no lone apostrophe
pub no_open_quote : (a b r : List ℕ) → begins (nat_eq 39) r ≡ false
    → doubled a ≡ (doubled b ++ 39 ∷ []) ++ r → ⊥
no_open_quote [] [] r f e = absurd cc
no_open_quote [] (y ∷ ys) r f e =
    elim (doubled_first y ys) [
      | inl q ↦ let t : [] ≡ 39 ∷ 39 ∷ ((doubled ys ++ 39 ∷ []) ++ r) = e ∙ rw q.1 refl in absurd cc
      | inr q ↦ let t : [] ≡ y ∷ ((doubled ys ++ 39 ∷ []) ++ r) = e ∙ rw q.1 refl in absurd cc
    ]
no_open_quote (x ∷ xs) [] r f e =
    elim (doubled_first x xs) [
      | inl p ↦ let t : 39 ∷ 39 ∷ doubled xs ≡ 39 ∷ r = sym p.1 ∙ e in let u : r ≡ 39 ∷ doubled xs = cc in true≢false (sym (rw u refl) ∙ f)
      | inr p ↦ let t : x ∷ doubled xs ≡ 39 ∷ r = sym p.1 ∙ e in let u : x ≡ 39 = cc in absurd (p.0 u)
    ]
no_open_quote (x ∷ xs) (y ∷ ys) r f e =
    elim (doubled_first x xs) [
      | inl p ↦ elim (doubled_first y ys) [
        | inl q ↦ let t : 39 ∷ 39 ∷ doubled xs ≡ 39 ∷ 39 ∷ ((doubled ys ++ 39 ∷ []) ++ r) = sym p.1 ∙ e ∙ rw q.1 refl in no_open_quote xs ys r f cc
        | inr q ↦ let t : 39 ∷ 39 ∷ doubled xs ≡ y ∷ ((doubled ys ++ 39 ∷ []) ++ r) = sym p.1 ∙ e ∙ rw q.1 refl in let u : y ≡ 39 = cc in absurd (q.0 u)
      ]
      | inr p ↦ elim (doubled_first y ys) [
        | inl q ↦ let t : x ∷ doubled xs ≡ 39 ∷ 39 ∷ ((doubled ys ++ 39 ∷ []) ++ r) = sym p.1 ∙ e ∙ rw q.1 refl in let u : x ≡ 39 = cc in absurd (p.0 u)
        | inr q ↦ let t : x ∷ doubled xs ≡ y ∷ ((doubled ys ++ 39 ∷ []) ++ r) = sym p.1 ∙ e ∙ rw q.1 refl in no_open_quote xs ys r f cc
      ]
    ]

-- none stands at a text without end
pub open_text_stops : (body : List ℕ) → NoPieceStands (39 ∷ doubled body)
unfolding NoPieceStands class_at class_of shape_of
open_text_stops body (Quoted inner) rest f e =
    let t : doubled body ≡ (doubled inner ++ 39 ∷ []) ++ rest = cc in
    no_open_quote body inner rest f t
open_text_stops body (Blank b) rest f e =
    let h = ap class_at e ∙ class_of_piece (Blank b) rest f in absurd (omega (arith, h))
open_text_stops body (Run b) rest f e =
    let h = ap class_at e ∙ class_of_piece (Run b) rest f in absurd (omega (arith, h))
open_text_stops body (Note b) rest f e =
    let h = ap class_at e ∙ class_of_piece (Note b) rest f in absurd (omega (arith, h))
open_text_stops body (Mark b) rest f e =
    let h = ap class_at e ∙ class_of_piece (Mark b) rest f in absurd (omega (arith, h))

-- the longest run at the front is one
pub same_run : (a b r s : List ℕ) → IsRun a r → IsRun b s → a ++ r ≡ b ++ s → a ≡ b
same_run a b r s f g e = f.longest ∙ ap (take_while is_run_byte) e ∙ sym g.longest

-- a run is told by its first byte
pub run_class_at : (bytes rest : List ℕ) → IsRun bytes rest → class_at (bytes ++ rest) ≡ 2
unfolding class_at
run_class_at bytes rest run =
    let r = run_begins bytes rest run in
    ap (λ (t : List ℕ). class_at (t ++ rest)) r.2 ∙ run_class r.0 r.3

-- none stands at a long name: the run there is the name, which does not fit
pub long_name_stops : (bytes rest : List ℕ) → IsRun bytes rest → word_of bytes ≡ None
    → NAME_LIMIT < length bytes → NoPieceStands (bytes ++ rest)
unfolding NoPieceStands shape_of
long_name_stops bytes rest run none long (Run other) more f e =
    let same = same_run bytes other rest more run f.0 e in
    omega (arith, long, ap length same, f.1 (rw (← same) none))
long_name_stops bytes rest run none long (Blank b) more f e =
    let h = sym (run_class_at bytes rest run) ∙ ap class_at e ∙ class_of_piece (Blank b) more f in absurd (omega (arith, h))
long_name_stops bytes rest run none long (Quoted b) more f e =
    let h = sym (run_class_at bytes rest run) ∙ ap class_at e ∙ class_of_piece (Quoted b) more f in absurd (omega (arith, h))
long_name_stops bytes rest run none long (Note b) more f e =
    let h = sym (run_class_at bytes rest run) ∙ ap class_at e ∙ class_of_piece (Note b) more f in absurd (omega (arith, h))
long_name_stops bytes rest run none long (Mark b) more f e =
    let h = sym (run_class_at bytes rest run) ∙ ap class_at e ∙ class_of_piece (Mark b) more f in absurd (omega (arith, h))

-- none stands at a flaw
pub flaw_stops : (fault : LexFault) (at : ℕ) (text : List ℕ) → IsFlaw fault at text
    → NoPieceStands text
flaw_stops TooLong at text flaw = absurd flaw
flaw_stops Memory at text flaw = absurd flaw
flaw_stops (BadByte a) at text flaw = bad_stops text flaw.1
flaw_stops (OpenNote a) at text flaw =
    subst NoPieceStands (sym flaw.2) (open_note_stops flaw.1 flaw.3)
flaw_stops (OpenText a) at text flaw = subst NoPieceStands (sym flaw.2) (open_text_stops flaw.1)
flaw_stops (LongName a) at text flaw =
    subst NoPieceStands (sym flaw.3) (long_name_stops flaw.1 flaw.2 flaw.4 flaw.5 flaw.6)
