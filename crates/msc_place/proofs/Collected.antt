-- One step of each walk over tokens.
use Rattle.std.proofs.Common.{◌≡◌, ℕ, ◌+◌, ◌<◌, ◌≤◌, Bool, true, false, List, [], ◌∷◌, ◌++◌, length, get_or, drop, Some, None, refl, sym, ap, ◌∙◌}
use Rattle.std.proofs.lemmas.List.{at_drop_more, at_drop_all, append-nil, append_assoc}
use Rattle.msc_lexer.specs.declared.word.Word.TheVariants as words
use Rattle.msc_lexer.specs.declared.token.Kind.TheVariants as kinds
use Rattle.msc_lexer.specs.declared.token.Token.{Token}
use Rattle.msc_lexer.specs.Lexemes.{Symbol, Lexeme, lexemes, lexeme_of}
use Rattle.msc_place.specs.Collecting.{collected, is_semicolon, leads_address, first_place, end_of, address_of}

-- the token that is read past the end of a list
abbrev pub no_token : Token
no_token = record { kind = kinds.Word words.Msc; start = 0; «end» = 0 }

-- token i of a text, as a grammar sees it
abbrev pub seen_at : List ℕ → List Token → ℕ → Lexeme
seen_at text tokens i = lexeme_of text (get_or tokens i no_token)

-- the tokens from i on are token i and the others
pub seen_more : (text : List ℕ) (tokens : List Token) (i : ℕ) → i < length tokens
    → lexemes text (drop i tokens) ≡ seen_at text tokens i ∷ lexemes text (drop (i + 1) tokens)
seen_more text tokens i inside = at_drop_more (lexemes text) tokens i no_token inside

-- past the last token there is none
pub seen_all : (text : List ℕ) (tokens : List Token) (i : ℕ) → length tokens ≤ i
    → lexemes text (drop i tokens) ≡ []
seen_all text tokens i past = at_drop_all (lexemes text) tokens i past

-- ---- places that are collected

module _ {P : Type 0} (leads stops : Symbol → Bool) (of : List Lexeme → P) where
  -- a token that stops
  pub collected_stopped : (l : Lexeme) (ls : List Lexeme) → stops l.symbol ≡ true
      → collected leads stops of (l ∷ ls) ≡ []
  unfolding collected
  collected_stopped l ls stop = rw stop refl

  -- a token that passes the test
  pub collected_led : (l : Lexeme) (ls : List Lexeme) → stops l.symbol ≡ false
      → leads l.symbol ≡ true
      → collected leads stops of (l ∷ ls) ≡ of (l ∷ ls) ∷ collected leads stops of ls
  unfolding collected
  collected_led l ls go lead = rw (go, lead) refl

  -- any other token
  pub collected_passed : (l : Lexeme) (ls : List Lexeme) → stops l.symbol ≡ false
      → leads l.symbol ≡ false → collected leads stops of (l ∷ ls) ≡ collected leads stops of ls
  unfolding collected
  collected_passed l ls go lead = rw (go, lead) refl

  -- no token
  pub collected_nil : collected leads stops of [] ≡ []
  unfolding collected
  collected_nil = refl

  -- `places` and what is collected from token i on are all that is collected
  abbrev pub IsCollectedTo : List ℕ → List Token → ℕ → List P → Type 0
  IsCollectedTo text tokens i places =
      places ++ collected leads stops of (lexemes text (drop i tokens)) ≡ collected leads stops of (lexemes text tokens)

  -- one more place
  pub collects_one : (text : List ℕ) (tokens : List Token) (i : ℕ) (places : List P) (place : P)
      → IsCollectedTo text tokens i places → i < length tokens
      → stops (seen_at text tokens i).symbol ≡ false → leads (seen_at text tokens i).symbol ≡ true
      → place ≡ of (seen_at text tokens i ∷ lexemes text (drop (i + 1) tokens))
      → IsCollectedTo text tokens (i + 1) (places ++ place ∷ [])
  collects_one text tokens i places place so_far inside go lead is =
      let l = seen_at text tokens i in let ls = lexemes text (drop (i + 1) tokens) in
      let one : collected leads stops of (lexemes text (drop i tokens)) ≡ of (l ∷ ls) ∷ collected leads stops of ls =
      ap (collected leads stops of) (seen_more text tokens i inside) ∙ collected_led l ls go lead in
      append_assoc places (place ∷ []) (collected leads stops of ls)
      ∙ ap (λ (p : P). places ++ p ∷ collected leads stops of ls) is
      ∙ ap (λ (ps : List P). places ++ ps) (sym one) ∙ so_far

  -- a token that is passed over
  pub collects_none : (text : List ℕ) (tokens : List Token) (i : ℕ) (places : List P)
      → IsCollectedTo text tokens i places → i < length tokens
      → stops (seen_at text tokens i).symbol ≡ false → leads (seen_at text tokens i).symbol ≡ false
      → IsCollectedTo text tokens (i + 1) places
  collects_none text tokens i places so_far inside go lead =
      let l = seen_at text tokens i in let ls = lexemes text (drop (i + 1) tokens) in
      let one : collected leads stops of (lexemes text (drop i tokens)) ≡ collected leads stops of ls =
      ap (collected leads stops of) (seen_more text tokens i inside) ∙ collected_passed l ls go lead in
      ap (λ (ps : List P). places ++ ps) (sym one) ∙ so_far

  -- the end, at a token that stops
  pub collects_stop : (text : List ℕ) (tokens : List Token) (i : ℕ) (places : List P)
      → IsCollectedTo text tokens i places → i < length tokens
      → stops (seen_at text tokens i).symbol ≡ true
      → places ≡ collected leads stops of (lexemes text tokens)
  collects_stop text tokens i places so_far inside stop =
      let l = seen_at text tokens i in let ls = lexemes text (drop (i + 1) tokens) in
      let none : collected leads stops of (lexemes text (drop i tokens)) ≡ [] =
      ap (collected leads stops of) (seen_more text tokens i inside) ∙ collected_stopped l ls stop in
      sym (append-nil places) ∙ ap (λ (ps : List P). places ++ ps) (sym none) ∙ so_far

  -- the end, behind the last token
  pub collects_all : (text : List ℕ) (tokens : List Token) (i : ℕ) (places : List P)
      → IsCollectedTo text tokens i places → length tokens ≤ i
      → places ≡ collected leads stops of (lexemes text tokens)
  collects_all text tokens i places so_far past =
      let none : collected leads stops of (lexemes text (drop i tokens)) ≡ [] =
      ap (collected leads stops of) (seen_all text tokens i past) ∙ collected_nil in
      sym (append-nil places) ∙ ap (λ (ps : List P). places ++ ps) (sym none) ∙ so_far

-- ---- the end of a statement, and its address

pub end_here : (l : Lexeme) (ls : List Lexeme) → is_semicolon l.symbol ≡ true
    → end_of (l ∷ ls) ≡ l.place + 1
unfolding end_of
end_here l ls is = rw is refl

pub end_later : (l : Lexeme) (ls : List Lexeme) → is_semicolon l.symbol ≡ false
    → end_of (l ∷ ls) ≡ end_of ls
unfolding end_of
end_later l ls is = rw is refl

pub end_nowhere : end_of [] ≡ 0
unfolding end_of
end_nowhere = refl

pub address_none : (l : Lexeme) (ls : List Lexeme) → is_semicolon l.symbol ≡ true
    → address_of (l ∷ ls) ≡ None
unfolding address_of
address_none l ls is = rw is refl

pub address_here : (l : Lexeme) (ls : List Lexeme) → is_semicolon l.symbol ≡ false
    → leads_address l.symbol ≡ true → address_of (l ∷ ls) ≡ Some (first_place ls)
unfolding address_of
address_here l ls is leads = rw (is, leads) refl

pub address_later : (l : Lexeme) (ls : List Lexeme) → is_semicolon l.symbol ≡ false
    → leads_address l.symbol ≡ false → address_of (l ∷ ls) ≡ address_of ls
unfolding address_of
address_later l ls is leads = rw (is, leads) refl

pub address_nowhere : address_of [] ≡ None
unfolding address_of
address_nowhere = refl
