-- What stands at the front of a text.
use Rattle.std.proofs.Common.{◌≡◌, ℕ, ◌+◌, ◌<◌, ◌≤◌, true, List, [], ◌∷◌, ◌++◌, length, get_or, take, drop, Some, None, refl, sym, ap, subst, ◌∙◌, append_assoc, arith}
use Rattle.std.specs.List.{prefix_len}
use Rattle.std.proofs.lemmas.List.{take-append-drop, length-append, length-take, drop_more}
use Rattle.std.proofs.lemmas.List.Folds.{length-prefix_len}
use Rattle.msc_lexer.specs.declared.TheConstants.{NAME_LIMIT}
use Rattle.msc_lexer.specs.declared.token.Kind.{Kind}
use Rattle.msc_lexer.specs.declared.token.Kind.TheVariants as kinds
use Rattle.msc_lexer.specs.Bytes.{begins, is_run_byte, is_white}
use Rattle.msc_lexer.specs.Words.{word_of}
use Rattle.msc_lexer.specs.Pieces.{Piece, Blank, Note, Run, Quoted, Mark, NeverCloses, doubled, IsRun, mark_of}
use Rattle.msc_lexer.specs.Scanning.{ClosesAt, QuoteEndsAt, StartsWith}
use Rattle.msc_lexer.proofs.EndsLemmas.{run_at}

-- a list in three parts: what stands before a place, two elements there, and the rest
two_at : (xs : List ℕ) (at : ℕ) → at + 2 ≤ length xs
    → xs ≡ (take at xs ++ get_or xs at 0 ∷ get_or xs (at + 1) 0 ∷ []) ++ drop (at + 2) xs
two_at xs at fits =
    let two : at + 1 + 1 ≡ at + 2 = omega arith in
    let lt : at < length xs = omega arith in
    let lt2 : at + 1 < length xs = omega arith in
    let first = drop_more xs at 0 lt in
    let second = drop_more xs (at + 1) 0 lt2 in
    sym (take-append-drop at xs) ∙ rw first (rw second (rw two (sym (append_assoc (take at xs) (get_or xs at 0 ∷ get_or xs (at + 1) 0 ∷ []) (drop (at + 2) xs)))))

-- a list in three parts: what stands before a place, the element there, and the rest
one_at : (xs : List ℕ) (at : ℕ) → at < length xs
    → xs ≡ (take at xs ++ get_or xs at 0 ∷ []) ++ drop (at + 1) xs
one_at xs at lt =
    sym (take-append-drop at xs) ∙ rw (drop_more xs at 0 lt) (sym (append_assoc (take at xs) (get_or xs at 0 ∷ []) (drop (at + 1) xs)))

-- a note whose first `*/` is found stands at the front
pub note_front : (body : List ℕ) (at len : ℕ) → ClosesAt body at → len ≡ at + 4
    → StartsWith (47 ∷ 42 ∷ body) None len
note_front body at len closes l = record {
  piece = Note (take at body);
  rest = drop (at + 2) body;
  whole = ap (λ (t : List ℕ). 47 ∷ 42 ∷ t) (two_at body at closes.inside ∙ rw (closes.star, closes.slash) refl);
  fits = closes.first;
  kind_is = refl;
  len_is = omega (arith, l, length-append (take at body) (42 ∷ 47 ∷ []), length-take at body, closes.inside);
}

-- a text whose last apostrophe is found stands at the front
pub quoted_front : (body : List ℕ) (at len : ℕ) → QuoteEndsAt body at → len ≡ at + 2
    → StartsWith (39 ∷ body) (Some kinds.Text) len
quoted_front body at len ends l = record {
  piece = Quoted ends.before.0;
  rest = drop (at + 1) body;
  whole = ap (λ (t : List ℕ). 39 ∷ t) (one_at body at ends.inside ∙ rw (ends.mark, ends.before.1) refl);
  fits = ends.lone;
  kind_is = refl;
  len_is = omega (arith, l, length-append (doubled ends.before.0) (39 ∷ []), ap length ends.before.1, length-take at body, ends.inside);
}

-- the longest run stands at the front, if as a name it is not too long
pub run_front : (text : List ℕ) (kind : Kind) (len : ℕ) → begins is_run_byte text ≡ true
    → len ≡ prefix_len is_run_byte text
    → Some kind ≡ Rattle.msc_lexer.specs.Pieces.kind_of (Run (take len text))
    → (word_of (take len text) ≡ None → len ≤ NAME_LIMIT) → StartsWith text (Some kind) len
run_front text kind len h l k short =
    let len_is : len ≡ length (take len text) = rw l (sym (length-prefix_len is_run_byte text)) in
    record {
      piece = Run (take len text);
      rest = drop len text;
      whole = sym (take-append-drop len text);
      fits = (rw l (run_at text h), λ e. rw (← len_is) (short e));
      kind_is = k;
      len_is = len_is;
    }

-- the same of a text that begins with `/*`
pub note_starts : (text : List ℕ) (at : ℕ) → ((body : List ℕ) × (text ≡ 47 ∷ 42 ∷ body))
    → ClosesAt (drop 2 text) at → StartsWith text None (at + 4)
note_starts text at h closes =
    let e : drop 2 text ≡ h.0 = ap (drop 2) h.1 in
    subst (λ (t : List ℕ). StartsWith t None (at + 4)) (sym h.1) (note_front h.0 at (at + 4) (subst (λ (t : List ℕ). ClosesAt t at) e closes) refl)

-- the same of a text that begins with an apostrophe
pub quoted_starts : (text : List ℕ) (at : ℕ) → ((body : List ℕ) × (text ≡ 39 ∷ body))
    → QuoteEndsAt (drop 1 text) at → StartsWith text (Some kinds.Text) (at + 2)
quoted_starts text at h ends =
    let e : drop 1 text ≡ h.0 = ap (drop 1) h.1 in
    subst (λ (t : List ℕ). StartsWith t (Some kinds.Text) (at + 2)) (sym h.1) (quoted_front h.0 at (at + 2) (subst (λ (t : List ℕ). QuoteEndsAt t at) e ends) refl)

-- a byte of white space stands at the front
pub blank_starts : (text : List ℕ) → 0 < length text → is_white (get_or text 0 0) ≡ true
    → StartsWith text None 1
blank_starts [] lt h = absurd (omega arith)
blank_starts (b ∷ bs) lt h =
    record { piece = Blank b; rest = bs; whole = refl; fits = h; kind_is = refl; len_is = refl }

-- a mark stands at the front
pub mark_starts : (text : List ℕ) (kind : Kind) → 0 < length text
    → Some kind ≡ mark_of (get_or text 0 0) → StartsWith text (Some kind) 1
mark_starts [] kind lt h = absurd (omega arith)
mark_starts (b ∷ bs) kind lt h =
    record { piece = Mark b; rest = bs; whole = refl; fits = rw (← h) (λ e. absurd cc); kind_is = h; len_is = refl }
