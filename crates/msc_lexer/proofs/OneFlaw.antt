-- At one place at most one flaw stands.
use Rattle.std.proofs.Common.{◌≡◌, ℕ, ◌||◌, eqb, List, ◌∷◌, ◌++◌, sym, ap, subst, ◌∙◌, arith}
use Rattle.std.specs.Option.{is_some}
use Rattle.std.proofs.lemmas.Bool.{or_parts, true≢false}
use Rattle.msc_lexer.specs.declared.fault.LexFault.{LexFault}
use Rattle.msc_lexer.specs.declared.fault.LexFault.TheVariants.{TooLong, BadByte, OpenNote, OpenText, LongName, Memory}
use Rattle.msc_lexer.specs.Bytes.{is_white, is_run_byte}
use Rattle.msc_lexer.specs.Pieces.{doubled, mark_of, IsRun}
use Rattle.msc_lexer.specs.Lexing.{IsFlaw, BeginsNothing}
use Rattle.msc_lexer.proofs.Shapes.{class_of, class_at, run_begins}
use Rattle.msc_lexer.proofs.Flaws.{run_class_at}

-- a byte that begins nothing is not the start of a note
pub bad_is_no_note : (body : List ℕ) → BeginsNothing (47 ∷ 42 ∷ body) → ⊥
bad_is_no_note body h = true≢false h.1

-- nor of a text
pub bad_is_no_text : (body : List ℕ) → BeginsNothing (39 ∷ body) → ⊥
bad_is_no_text body h = true≢false h.0

-- nor of a run
pub bad_is_no_run : (bytes rest : List ℕ) → IsRun bytes rest → BeginsNothing (bytes ++ rest) → ⊥
bad_is_no_run bytes rest run h =
    let r = run_begins bytes rest run in
    let b = r.0 in
    let g = (subst BeginsNothing (ap (λ (t : List ℕ). t ++ rest) r.2) h).0 in
    let w = (or_parts (is_white b) (is_run_byte b) (or_parts (is_white b || is_run_byte b) (is_some (mark_of b)) (or_parts (is_white b || is_run_byte b || is_some (mark_of b)) (eqb b 39) g).0).0).1 in
    true≢false (sym r.3 ∙ w)

-- two flaws at one place are one
pub one_flaw : (f g : LexFault) (at : ℕ) (text : List ℕ) → IsFlaw f at text → IsFlaw g at text
    → f ≡ g
unfolding class_at class_of
one_flaw TooLong g at text a b = absurd a
one_flaw Memory g at text a b = absurd a
one_flaw f TooLong at text a b = absurd b
one_flaw f Memory at text a b = absurd b
one_flaw (BadByte x) (BadByte y) at text a b = let h : x ≡ y = a.0 ∙ sym b.0 in cc
one_flaw (OpenNote x) (OpenNote y) at text a b = let h : x ≡ y = a.0 ∙ sym b.0 in cc
one_flaw (OpenText x) (OpenText y) at text a b = let h : x ≡ y = a.0 ∙ sym b.0 in cc
one_flaw (LongName x) (LongName y) at text a b = let h : x ≡ y = a.0 ∙ sym b.0 in cc
one_flaw (BadByte x) (OpenNote y) at text a b =
    absurd (bad_is_no_note b.1 (subst BeginsNothing b.2 a.1))
one_flaw (BadByte x) (OpenText y) at text a b =
    absurd (bad_is_no_text (doubled b.1) (subst BeginsNothing b.2 a.1))
one_flaw (BadByte x) (LongName y) at text a b =
    absurd (bad_is_no_run b.1 b.2 b.4 (subst BeginsNothing b.3 a.1))
one_flaw (OpenNote x) (BadByte y) at text a b =
    absurd (bad_is_no_note a.1 (subst BeginsNothing a.2 b.1))
one_flaw (OpenText x) (BadByte y) at text a b =
    absurd (bad_is_no_text (doubled a.1) (subst BeginsNothing a.2 b.1))
one_flaw (LongName x) (BadByte y) at text a b =
    absurd (bad_is_no_run a.1 a.2 a.4 (subst BeginsNothing a.3 b.1))
one_flaw (OpenNote x) (OpenText y) at text a b =
    let h = ap class_at (sym a.2 ∙ b.2) in absurd (omega (arith, h))
one_flaw (OpenText x) (OpenNote y) at text a b =
    let h = ap class_at (sym a.2 ∙ b.2) in absurd (omega (arith, h))
one_flaw (OpenNote x) (LongName y) at text a b =
    let h = ap class_at (sym a.2 ∙ b.3) ∙ run_class_at b.1 b.2 b.4 in absurd (omega (arith, h))
one_flaw (OpenText x) (LongName y) at text a b =
    let h = ap class_at (sym a.2 ∙ b.3) ∙ run_class_at b.1 b.2 b.4 in absurd (omega (arith, h))
one_flaw (LongName x) (OpenNote y) at text a b =
    let h = ap class_at (sym b.2 ∙ a.3) ∙ run_class_at a.1 a.2 a.4 in absurd (omega (arith, h))
one_flaw (LongName x) (OpenText y) at text a b =
    let h = ap class_at (sym b.2 ∙ a.3) ∙ run_class_at a.1 a.2 a.4 in absurd (omega (arith, h))
