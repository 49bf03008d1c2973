-- What the tokens of a text keep: they stand in the text, their names are names, and they are no more than its bytes.
use Rattle.std.proofs.Common.{◌≡◌, ◌≢◌, ℕ, ◌+◌, ◌≤◌, Bool, true, false, cond, List, [], ◌∷◌, ◌++◌, length, Option, Some, None, refl, sym, ap, subst, append_assoc, ◌∙◌, inl, inr, arith}
use Rattle.std.specs.Prelude.{slice_range, option_map, unwrap_or, take_while}
use Rattle.std.specs.List.{list_all}
use Rattle.std.proofs.lemmas.Bool.{and_from, cases_Bool}
use Rattle.std.proofs.lemmas.List.{length-append}
use Rattle.std.proofs.lemmas.List.Elements.{All-nil, All-cons, All-same}
use Rattle.std.proofs.lemmas.List.Sums.{take_while-cons}
use Rattle.msc_lexer.specs.declared.TheConstants.{NAME_LIMIT}
use Rattle.msc_lexer.specs.declared.word.Word.{Word}
use Rattle.msc_lexer.specs.declared.token.Kind.{Kind}
use Rattle.msc_lexer.specs.declared.token.Kind.TheVariants as kinds
use Rattle.msc_lexer.specs.declared.token.Token.{Token}
use Rattle.msc_lexer.specs.Bytes.{is_run_byte}
use Rattle.msc_lexer.specs.Words.{word_of}
use Rattle.msc_lexer.specs.Pieces.{Piece, Blank, Note, Run, Mark, IsRun, quoted, spelled, kind_of, mark_of, text_of, AreCut, token_of, tokens_of}
use Rattle.msc_lexer.specs.Pieces as pieces
use Rattle.msc_lexer.specs.Lexing.{HasTokens}
use Rattle.msc_lexer.specs.Lexemes.{Lexeme, lexemes, lexemes_of, lexeme_at, AreWithin, IsWithin, IsName, HaveNames}
use Rattle.msc_lexer.proofs.Printed.{cut_out, lexemes_seen}

-- ---- what is no mark

-- a choice between what is not this kind is not it
if_other : (t : Bool) (k n : Kind) (o : Option Kind) → k ≢ n → o ≢ Some n
    → cond t (Some k) o ≢ Some n
if_other true k n o h g e = h (inside e)
  where
    -- where they are equal, so are the kinds in them
    inside : {a b : Kind} → Some a ≡ Some b → a ≡ b
    inside e = cc
if_other false k n o h g e = g e

-- no mark is a name
mark_no_name : (b : ℕ) → mark_of b ≢ Some kinds.Name
mark_no_name b =
    if_other _ kinds.Semicolon kinds.Name _ (λ e. cc) (if_other _ kinds.Comma kinds.Name _ (λ e. cc) (if_other _ kinds.Colon kinds.Name _ (λ e. cc) (if_other _ kinds.LeftParen kinds.Name _ (λ e. cc) (if_other _ kinds.RightParen kinds.Name _ (λ e. cc) (λ e. none_name e)))))
  where
    -- what has no kind is no name
    none_name : None ≡ Some kinds.Name → ⊥
    none_name e = cc

-- no mark is a text
mark_no_text : (b : ℕ) → mark_of b ≢ Some kinds.Text
mark_no_text b =
    if_other _ kinds.Semicolon kinds.Text _ (λ e. cc) (if_other _ kinds.Comma kinds.Text _ (λ e. cc) (if_other _ kinds.Colon kinds.Text _ (λ e. cc) (if_other _ kinds.LeftParen kinds.Text _ (λ e. cc) (if_other _ kinds.RightParen kinds.Text _ (λ e. cc) (λ e. none_text e)))))
  where
    -- what has no kind is no text
    none_text : None ≡ Some kinds.Text → ⊥
    none_text e = cc

-- no run is a text
run_no_text : (o : Option Word) → Some (unwrap_or (option_map kinds.Word o) kinds.Name) ≢ Some kinds.Text
run_no_text None e = cc
run_no_text (Some w) e = cc

-- ---- tokens stand in their text

-- a piece that is a text has the bytes of one
as_text : (p : Piece) → kind_of p ≡ Some kinds.Text → (body : List ℕ) × (spelled p ≡ quoted body)
as_text (Blank b) e = absurd (none_text e)
  where
    -- white space has no kind, so it is no text
    none_text : None ≡ Some kinds.Text → ⊥
    none_text e = cc
as_text (Note body) e = absurd (none_text e)
  where
    -- a note has no kind, so it is no text
    none_text : None ≡ Some kinds.Text → ⊥
    none_text e = cc
as_text (Run bytes) e = absurd (run_no_text (word_of bytes) e)
as_text (pieces.Quoted body) e = (body, refl)
as_text (Mark b) e = absurd (mark_no_text b e)

-- a token within the text goes before tokens within it
token_within : (text : List ℕ) (o : Option Kind) (at len : ℕ) (ts : List Token)
    → at + len ≤ length text
    → (o ≡ Some kinds.Text → (body : List ℕ) × (slice_range text at (at + len) ≡ quoted body))
    → AreWithin text ts → AreWithin text (token_of o at len ++ ts)
token_within text None at len ts fits bytes others = others
token_within text (Some k) at len ts fits bytes others =
    All-cons (IsWithin text) (record { kind = k; start = at; «end» = at + len }) ts (record { ordered = omega arith; inside = fits; as_text = λ e. bytes (ap (λ (x : Kind). Some x) e) }) others

-- the tokens of pieces stand within the text of the pieces
tokens_within : (text front : List ℕ) (ps : List Piece) → text ≡ front ++ text_of ps
    → AreWithin text (tokens_of (length front) ps)
tokens_within text front [] e = All-nil (IsWithin text)
tokens_within text front (p ∷ ps) e =
    let one : slice_range text (length front) (length front + length (spelled p)) ≡ spelled p = rw e (cut_out front (spelled p) (text_of ps)) in
    let n : length (front ++ spelled p) ≡ length front + length (spelled p) = length-append front (spelled p) in
    let others = tokens_within text (front ++ spelled p) ps (e ∙ sym (append_assoc front (spelled p) (text_of ps))) in
    let fits : length front + length (spelled p) ≤ length text = omega (arith, ap length e, length-append front (spelled p ++ text_of ps), length-append (spelled p) (text_of ps)) in
    token_within text (kind_of p) (length front) (length (spelled p)) (tokens_of (length front + length (spelled p)) ps) fits
    (λ k. let b = as_text p k in (b.0, one ∙ b.1))
    (subst (λ (k : ℕ). AreWithin text (tokens_of k ps)) n others)

-- so the tokens of a text stand in it
pub are_within : (text : List ℕ) (tokens : List Token) → HasTokens text tokens
    → AreWithin text tokens
are_within text tokens h =
    All-same (IsWithin text) tokens (tokens_of 0 h.pieces) h.made (tokens_within text [] h.pieces h.whole)

-- ---- names are names

-- what is taken while a test passes passes it
while_all : (p : ℕ → Bool) (xs : List ℕ) → list_all p (take_while p xs) ≡ true
while_all p [] = refl
while_all p (x ∷ xs) =
    elim (cases_Bool (p x)) [
      | inl e ↦ rw (take_while-cons p x xs, e) (and_from (p x) (list_all p (take_while p xs)) e (while_all p xs))
      | inr e ↦ rw (take_while-cons p x xs, e) refl
    ]

-- a run that is no word is a name
run_name : (bytes rest : List ℕ) → IsRun bytes rest
    → (word_of bytes ≡ None → length bytes ≤ NAME_LIMIT) → word_of bytes ≡ None → IsName bytes
run_name bytes rest h short none =
    record { some = h.some; run = rw h.longest (while_all is_run_byte (bytes ++ rest)); free = none; short = short none }

-- a run is a word, or named by a name
run_named : (bytes rest : List ℕ) (at : ℕ) (ls : List Lexeme) (o : Option Word) → word_of bytes ≡ o
    → IsRun bytes rest → (word_of bytes ≡ None → length bytes ≤ NAME_LIMIT) → HaveNames ls
    → HaveNames (lexeme_at (Some (unwrap_or (option_map kinds.Word o) kinds.Name)) bytes at ++ ls)
unfolding lexeme_at
run_named bytes rest at ls None e h short others = (run_name bytes rest h short e, others)
run_named bytes rest at ls (Some w) e h short others = (tt, others)

-- a mark names nothing
mark_named : (o : Option Kind) (b at : ℕ) (ls : List Lexeme) → o ≢ Some kinds.Name → HaveNames ls
    → HaveNames (lexeme_at o (b ∷ []) at ++ ls)
unfolding lexeme_at
mark_named None b at ls h others = others
mark_named (Some kinds.Name) b at ls h others = absurd (h refl)
mark_named (Some k) b at ls h others = (tt, others)

-- the names among pieces are names
pieces_named : (at : ℕ) (ps : List Piece) (rest : List ℕ) → AreCut ps rest
    → HaveNames (lexemes_of at ps)
unfolding lexemes_of lexeme_at
pieces_named at [] rest h = tt
pieces_named at (Blank b ∷ ps) rest h = pieces_named (at + 1) ps rest h.1
pieces_named at (Note body ∷ ps) rest h = pieces_named _ ps rest h.1
pieces_named at (Run bytes ∷ ps) rest h =
    run_named bytes _ at _ (word_of bytes) refl h.0.0 h.0.1 (pieces_named (at + length bytes) ps rest h.1)
pieces_named at (pieces.Quoted body ∷ ps) rest h = (tt, pieces_named _ ps rest h.1)
pieces_named at (Mark b ∷ ps) rest h =
    mark_named (mark_of b) b at _ (mark_no_name b) (pieces_named (at + 1) ps rest h.1)

-- so the names of a text are names
pub are_named : (text : List ℕ) (tokens : List Token) → HasTokens text tokens
    → HaveNames (lexemes text tokens)
are_named text tokens h =
    rw (h.made, lexemes_seen text [] h.pieces h.whole) (pieces_named 0 h.pieces [] h.cut)

-- ---- each token has a byte

-- a piece makes at most one token, and only of some bytes
token_some : (p : Piece) (rest : List ℕ) (at len : ℕ) → pieces.Fits p rest
    → length (token_of (kind_of p) at len) ≤ length (spelled p)
token_some (Blank b) rest at len h = omega arith
token_some (Note body) rest at len h = omega arith
token_some (Run []) rest at len h = absurd (h.0.some refl)
token_some (Run (b ∷ bs)) rest at len h = omega arith
token_some (pieces.Quoted body) rest at len h = omega arith
token_some (Mark b) rest at len h = one (mark_of b)
  where
    -- a mark makes one token or none
    one : (o : Option Kind) → length (token_of o at len) ≤ 1
    one None = omega arith
    one (Some k) = omega arith

-- so pieces make no more tokens than bytes
tokens_few : (at : ℕ) (ps : List Piece) (rest : List ℕ) → AreCut ps rest
    → length (tokens_of at ps) ≤ length (text_of ps)
tokens_few at [] rest h = omega arith
tokens_few at (p ∷ ps) rest h =
    let first = token_some p (text_of ps ++ rest) at (length (spelled p)) h.0 in
    let others = tokens_few (at + length (spelled p)) ps rest h.1 in
    omega (arith, first, others, length-append (token_of (kind_of p) at (length (spelled p))) (tokens_of (at + length (spelled p)) ps), length-append (spelled p) (text_of ps))

-- and a text has no more tokens than bytes
pub are_few : (text : List ℕ) (tokens : List Token) → HasTokens text tokens
    → length tokens ≤ length text
are_few text tokens h =
    let n = tokens_few 0 h.pieces [] h.cut in omega (arith, n, ap length h.made, ap length h.whole)
