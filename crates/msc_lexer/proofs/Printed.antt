-- What is printed as pieces is read as those pieces.
use Rattle.std.proofs.Common.{◌≡◌, ◌≢◌, ℕ, ◌+◌, ◌-◌, true, false, List, [], ◌∷◌, ◌++◌, length, Option, Some, None, refl, sym, ap, subst, ◌∙◌, append_assoc, arith}
use Rattle.std.specs.Prelude.{take_while}
use Rattle.std.specs.List.{list_all, slice_range}
use Rattle.std.proofs.lemmas.Bool.{and_parts}
use Rattle.std.proofs.lemmas.List.{length-append, take_at, drop_at}
use Rattle.std.proofs.lemmas.List.Sums.{take_while-cons}
use Rattle.msc_lexer.specs.declared.word.Word.{Word}
use Rattle.msc_lexer.specs.declared.word.Word.TheVariants as words
use Rattle.msc_lexer.specs.declared.token.Kind.{Kind}
use Rattle.msc_lexer.specs.declared.token.Token.{Token}
use Rattle.msc_lexer.specs.Bytes.{is_run_byte, begins}
use Rattle.msc_lexer.specs.Words.{spelling}
use Rattle.msc_lexer.specs.Pieces.{Piece, Run, IsRun, Fits, spelled, kind_of, text_of, token_of, tokens_of}
use Rattle.msc_lexer.specs.Lexemes.{Lexeme, symbol_of, lexeme_of, lexemes, lexeme_at, lexemes_of, IsName, PrintsPieces}
use Rattle.msc_lexer.proofs.Spellings.{word_of-spelling}
use Rattle.msc_lexer.proofs.Cuts.{AreCut-append}
use Rattle.msc_lexer.proofs.Quotes.{unquoted-quoted}

-- ---- what a grammar sees of pieces

-- a token is seen as its bytes in the text
one_token : (text : List ℕ) (o : Option Kind) (bytes : List ℕ) (at : ℕ)
    → slice_range text at (at + length bytes) ≡ bytes
    → lexemes text (token_of o at (length bytes)) ≡ lexeme_at o bytes at
unfolding lexeme_at
one_token text None bytes at e = refl
one_token text (Some k) bytes at e =
    ap (λ (b : List ℕ). record { symbol = symbol_of k b; place = at } ∷ []) e

-- tokens joined are seen one after the other
lexemes-append : (text : List ℕ) (ts us : List Token)
    → lexemes text (ts ++ us) ≡ lexemes text ts ++ lexemes text us
lexemes-append text [] us = refl
lexemes-append text (t ∷ ts) us =
    ap (λ (x : List Lexeme). lexeme_of text t ∷ x) (lexemes-append text ts us)

-- the bytes between a front and a rest
pub cut_out : (front bytes rest : List ℕ)
    → slice_range (front ++ (bytes ++ rest)) (length front) (length front + length bytes) ≡ bytes
cut_out front bytes rest =
    let n : length front + length bytes - length front ≡ length bytes = omega arith in
    rw (drop_at front (bytes ++ rest) (length front) refl, n) (take_at bytes rest (length bytes) refl)

-- the tokens of the text of pieces are seen as the pieces are
pub lexemes_seen : (text front : List ℕ) (ps : List Piece) → text ≡ front ++ text_of ps
    → lexemes text (tokens_of (length front) ps) ≡ lexemes_of (length front) ps
unfolding lexemes_of
lexemes_seen text front [] e = refl
lexemes_seen text front (p ∷ ps) e =
    let one : slice_range text (length front) (length front + length (spelled p)) ≡ spelled p = rw e (cut_out front (spelled p) (text_of ps)) in
    let n : length (front ++ spelled p) ≡ length front + length (spelled p) = length-append front (spelled p) in
    let others = lexemes_seen text (front ++ spelled p) ps (e ∙ sym (append_assoc front (spelled p) (text_of ps))) in
    lexemes-append text (token_of (kind_of p) (length front) (length (spelled p))) (tokens_of (length front + length (spelled p)) ps)
    ∙ ap (λ (x : List Lexeme). x ++ lexemes text (tokens_of (length front + length (spelled p)) ps)) (one_token text (kind_of p) (spelled p) (length front) one)
    ∙ ap (λ (x : List Lexeme). lexeme_at (kind_of p) (spelled p) (length front) ++ x) (subst (λ (k : ℕ). lexemes text (tokens_of k ps) ≡ lexemes_of k ps) n others)

-- ---- words and names are pieces

-- bytes of a run before another byte are all that is taken
run_all : (w rest : List ℕ) → list_all is_run_byte w ≡ true → begins is_run_byte rest ≡ false
    → take_while is_run_byte (w ++ rest) ≡ w
run_all [] [] h g = refl
run_all [] (b ∷ bs) h g = take_while-cons is_run_byte b bs ∙ rw g refl
run_all (b ∷ w) rest h g =
    let parts = and_parts (is_run_byte b) (list_all is_run_byte w) h in
    take_while-cons is_run_byte b (w ++ rest) ∙ rw parts.0 (ap (λ (x : List ℕ). b ∷ x) (run_all w rest parts.1 g))

-- they are the longest run
a_run : (w rest : List ℕ) → w ≢ [] → list_all is_run_byte w ≡ true → begins is_run_byte rest ≡ false
    → IsRun w rest
a_run w rest some all stop = record { some = some; longest = sym (run_all w rest all stop) }

-- a spelled word is made of run bytes
spelling_run : (w : Word) → (spelling w ≢ []) × (list_all is_run_byte (spelling w) ≡ true)
spelling_run words.Msc = (λ e. cc, refl)
spelling_run words.EndMsc = (λ e. cc, refl)
spelling_run words.Inst = (λ e. cc, refl)
spelling_run words.Instance = (λ e. cc, refl)
spelling_run words.EndInstance = (λ e. cc, refl)
spelling_run words.Input = (λ e. cc, refl)
spelling_run words.From = (λ e. cc, refl)
spelling_run words.Output = (λ e. cc, refl)
spelling_run words.To = (λ e. cc, refl)
spelling_run words.Concurrent = (λ e. cc, refl)
spelling_run words.EndConcurrent = (λ e. cc, refl)
spelling_run words.Comment = (λ e. cc, refl)
spelling_run words.Env = (λ e. cc, refl)
spelling_run words.Action = (λ e. cc, refl)
spelling_run words.Condition = (λ e. cc, refl)
spelling_run words.Set = (λ e. cc, refl)
spelling_run words.Reset = (λ e. cc, refl)
spelling_run words.Timeout = (λ e. cc, refl)
spelling_run words.Create = (λ e. cc, refl)
spelling_run words.Stop = (λ e. cc, refl)

-- a spelled word stands where no run byte follows
word_fits : (w : Word) (rest : List ℕ) → begins is_run_byte rest ≡ false
    → Fits (Run (spelling w)) rest
word_fits w rest stop =
    (a_run (spelling w) rest (spelling_run w).0 (spelling_run w).1 stop, λ none. let e : Some w ≡ None = sym (word_of-spelling w) ∙ none in absurd cc)

-- a name stands where no run byte follows
name_fits : (n rest : List ℕ) → IsName n → begins is_run_byte rest ≡ false → Fits (Run n) rest
name_fits n rest h stop = (a_run n rest h.some h.run stop, λ none. h.short)

-- ---- the laws of printing

-- the laws of printing, together
pub prints_pieces : PrintsPieces
prints_pieces = record {
  words = word_of-spelling;
  word_fits = word_fits;
  name_fits = name_fits;
  texts = unquoted-quoted;
  joined = AreCut-append;
  seen = λ ps. lexemes_seen (text_of ps) [] ps refl;
}
