-- What parsing answers is what stands in the text, and nothing else stands there.
use Rattle.std.proofs.Common.{◌≡◌, ◌≢◌, ◌⊎◌, ℕ, Bool, true, false, cond, List, [], ◌∷◌, ◌++◌, length, Some, None, Result, Ok, Err, refl, sym, ap, subst, ◌∙◌, append_assoc, inl, inr}
use Rattle.std.specs.Prelude.{IfOk, IfErr}
use Rattle.std.proofs.lemmas.List.{append-nil}
use Rattle.msc_lexer.specs.declared.token.Token.{Token}
use Rattle.msc_lexer.specs.declared.fault.LexFault.{LexFault}
use Rattle.msc_lexer.specs.Lexemes.{Symbol, Reserved, Lexeme, lexemes}
use Rattle.msc_lexer.specs.Lexing.{HasTokens, HasFault, OneReading}
use Rattle.msc_parser.specs.declared.fault.What.{What}
use Rattle.msc_parser.specs.declared.fault.ParseFault.{ParseFault}
use Rattle.msc_parser.specs.declared.fault.ParseFault.TheVariants as faults
use Rattle.msc_parser.specs.Grammar.{IsChart, Tree}
use Rattle.msc_parser.specs.Places.{GrammarPlace, Start, Done, what, walk}
use Rattle.msc_parser.specs.Parsing.{is_refused, refused_at, fault_at, HasDraft, HasParseFault, IsGrammarFault, IsContinuable, IsEndOfGood, IsDraftOrMemory, IsFaultOrMemory, OneParsing}
use Rattle.msc_parser.specs.Reading.{fault_of, fault_from, Stops, ReadsChart}
use Rattle.msc_parser.proofs.OneChart.{one_chart}
use Rattle.msc_parser.proofs.FirstFault.{fault_at_walk}

-- ---- the fault of a walk

-- a symbol that was not expected gives no lexical fault
no_lex_symbol : (at : ℕ) (w : What) (s : Symbol) (f : LexFault) → faults.Lex f ≡ refused_at at w s
    → ⊥
no_lex_symbol at w (Reserved word) f e = refused (is_refused word) e
  where
    -- neither does an unsupported word nor one that was not expected
    refused : (b : Bool) → faults.Lex f ≡ cond b (faults.Unsupported at word) (faults.Expected at w)
        → ⊥
    refused true h = cc
    refused false h = cc
no_lex_symbol at w s f e = cc

-- a fault of the grammar is no lexical fault
no_lex : (len : ℕ) (w : What) (ls : List Lexeme) (f : LexFault) → faults.Lex f ≡ fault_at len w ls
    → ⊥
no_lex len w [] f e = cc
no_lex len w (l ∷ ls) f e = no_lex_symbol l.place w l.symbol f e

-- a walk that ends elsewhere than at the end of a chart has the fault of its place
fault_inside : (len : ℕ) (q : GrammarPlace) (rest : List Lexeme) → ((q ≡ Done) → rest ≡ [] → ⊥)
    → fault_of len (q, rest) ≡ Some (fault_at len (what q) rest)
fault_inside len Done [] h = absurd (h refl refl)
fault_inside len q rest h = refl

-- a walk with a fault doesn't reach the end of a chart
not_done : (len : ℕ) (end : GrammarPlace × List Lexeme) (e : ParseFault) → Some e ≡ fault_of len end
    → end.0 ≡ Done → end.1 ≡ [] → ⊥
not_done len end e h p q =
    let f : end ≡ (Done, []) = cc in let g : Some e ≡ fault_of len (Done, []) = h ∙ ap (fault_of len) f in some_none e g
  where
    -- a fault is not the cause of one
    some_none : (e : ParseFault) → Some e ≡ None → ⊥
    some_none e h = cc

-- the fault of the walk from the start is the first grammar fault
grammar_fault : (text : List ℕ) (tokens : List Token) (e : ParseFault) → HasTokens text tokens
    → Some e ≡ fault_from text Start tokens → IsGrammarFault text e
unfolding fault_from
grammar_fault text tokens e have h =
    let failed = λ (p : (walk Start (lexemes text tokens)).0 ≡ Done) (q : (walk Start (lexemes text tokens)).1 ≡ []). not_done (length text) (walk Start (lexemes text tokens)) e h p q in
    let w = fault_at_walk (lexemes text tokens) failed in
    let same : Some e ≡ Some (fault_at (length text) (what (walk Start (lexemes text tokens)).0) (walk Start (lexemes text tokens)).1) = h ∙ fault_inside (length text) (walk Start (lexemes text tokens)).0 (walk Start (lexemes text tokens)).1 failed in
    let is : e ≡ fault_at (length text) (what (walk Start (lexemes text tokens)).0) (walk Start (lexemes text tokens)).1 = cc in
    record {
      tokens = tokens;
      front = w.front;
      rest = w.rest;
      have = have;
      whole = w.whole;
      good = w.good;
      last = w.last;
      fault_is = is ∙ rw (w.place, w.rest_is) refl;
    }

-- what reading the tokens answers as a fault is the fault of the text
pub reads_fault : (text : List ℕ) (tokens : List Token) (e : ParseFault) → HasTokens text tokens
    → Stops text Start tokens e → e ≢ faults.Memory → HasParseFault text e
reads_fault text tokens faults.Memory have h other = absurd (other refl)
reads_fault text tokens (faults.Unsupported at w) have h other = grammar_fault text tokens _ have h
reads_fault text tokens (faults.Expected at w) have h other = grammar_fault text tokens _ have h
reads_fault text tokens (faults.Lex f) have h other =
    let g = grammar_fault text tokens (faults.Lex f) have h in
    absurd (no_lex (length text) (what (walk Start g.front).0) g.rest f g.fault_is)

-- what reading the tokens answers is the draft or the fault of the text
pub reads_answer : (text : List ℕ) (tokens : List Token) (r : Result Tree ParseFault)
    → HasTokens text tokens → ReadsChart text tokens r
    → IfOk r (HasDraft text) × IfErr r (λ e. e ≢ faults.Memory → HasParseFault text e)
reads_answer text tokens (Ok t) have h = ((tokens, have, h), tt)
reads_answer text tokens (Err e) have h = (tt, λ other. reads_fault text tokens e have h other)

-- ---- one place of the first fault

-- a chart has no grammar fault
chart_or_fault : (front rest : List Lexeme) (t : Tree) → IsChart (front ++ rest) t
    → IsEndOfGood front rest → ⊥
chart_or_fault front [] t h last =
    last t (subst (λ (ls : List Lexeme). IsChart ls t) (append-nil front) h)
chart_or_fault front (l ∷ rest) t h last =
    last (rest, t, subst (λ (ls : List Lexeme). IsChart ls t) (sym (append_assoc front (l ∷ []) rest)) h)

-- a beginning of what can go on can go on
shorter_good : (front more : List Lexeme) → IsContinuable (front ++ more) → IsContinuable front
shorter_good front more h =
    (more ++ h.0, h.1, subst (λ (ls : List Lexeme). IsChart ls h.1) (append_assoc front more h.0) h.2)

-- what goes on is no end of what goes on
longer_good : (before b : List Lexeme) (y : Lexeme) → IsContinuable (before ++ y ∷ b)
    → IsContinuable ((before ++ []) ++ y ∷ [])
longer_good before b y good =
    subst (λ (x : List Lexeme). IsContinuable (x ++ y ∷ [])) (sym (append-nil before)) (shorter_good (before ++ y ∷ []) b (subst IsContinuable (sym (append_assoc before (y ∷ []) b)) good))

-- tokens have one place at which they stop to be continuable
same_split : (before a b r s : List Lexeme) → a ++ r ≡ b ++ s → IsContinuable (before ++ a)
    → IsContinuable (before ++ b) → IsEndOfGood (before ++ a) r → IsEndOfGood (before ++ b) s
    → (a ≡ b) × (r ≡ s)
same_split before [] [] r s e good_a good_b last_a last_b = (refl, e)
same_split before [] (y ∷ b) r s e good_a good_b last_a last_b =
    absurd (subst (λ (x : List Lexeme). IsEndOfGood (before ++ []) x) e last_a (longer_good before b y good_b))
same_split before (x ∷ a) [] r s e good_a good_b last_a last_b =
    absurd (subst (λ (z : List Lexeme). IsEndOfGood (before ++ []) z) (sym e) last_b (longer_good before a x good_a))
same_split before (x ∷ a) (y ∷ b) r s e good_a good_b last_a last_b =
    let h : x ≡ y = cc in
    let t : a ++ r ≡ b ++ s = cc in
    let p : before ++ x ∷ a ≡ (before ++ x ∷ []) ++ a = sym (append_assoc before (x ∷ []) a) in
    let q : before ++ y ∷ b ≡ (before ++ x ∷ []) ++ b = ap (λ (z : Lexeme). before ++ z ∷ b) (sym h) ∙ sym (append_assoc before (x ∷ []) b) in
    let others = same_split (before ++ x ∷ []) a b r s t (subst IsContinuable p good_a) (subst IsContinuable q good_b) (subst (λ (z : List Lexeme). IsEndOfGood z r) p last_a) (subst (λ (z : List Lexeme). IsEndOfGood z s) q last_b) in
    let i = others.0 in
    ((cc), others.1)

-- ---- one answer, since a text has one reading

module _ (one : OneReading) where
  -- a text with a draft has no fault of the grammar
  draft_or_grammar : (text : List ℕ) (t : Tree) (e : ParseFault) → HasDraft text t
      → IsGrammarFault text e → ⊥
  draft_or_grammar text t e d g =
      let same = one.tokens text d.0 g.tokens d.1 g.have in
      chart_or_fault g.front g.rest t (subst (λ (ls : List Lexeme). IsChart ls t) (ap (lexemes text) same ∙ g.whole) d.2) g.last

  -- a text with a draft has no fault
  draft_or_fault : (text : List ℕ) (t : Tree) (e : ParseFault) → HasDraft text t
      → HasParseFault text e → ⊥
  draft_or_fault text t faults.Memory d h = h
  draft_or_fault text t (faults.Lex f) d h = one.apart text d.0 f d.1 h
  draft_or_fault text t (faults.Unsupported at w) d h = draft_or_grammar text t _ d h
  draft_or_fault text t (faults.Expected at w) d h = draft_or_grammar text t _ d h

  -- a text has one first grammar fault
  one_grammar_fault : (text : List ℕ) (e f : ParseFault) → IsGrammarFault text e
      → IsGrammarFault text f → e ≡ f
  one_grammar_fault text e f g h =
      let same = one.tokens text g.tokens h.tokens g.have h.have in
      let split = same_split [] g.front h.front g.rest h.rest (sym g.whole ∙ ap (lexemes text) same ∙ h.whole) g.good h.good g.last h.last in
      g.fault_is ∙ rw (split.0, split.1) refl ∙ sym h.fault_is

  -- a text with a lexical fault has no grammar fault
  lex_or_grammar : (text : List ℕ) (f : LexFault) (e : ParseFault) → HasFault text f
      → IsGrammarFault text e → ⊥
  lex_or_grammar text f e h g = one.apart text g.tokens f g.have h

  -- a text has one first fault
  one_parse_fault : (text : List ℕ) (e f : ParseFault) → HasParseFault text e → HasParseFault text f
      → e ≡ f
  one_parse_fault text faults.Memory f g h = absurd g
  one_parse_fault text e faults.Memory g h = absurd h
  one_parse_fault text (faults.Lex a) (faults.Lex b) g h = let same = one.fault text a b g h in cc
  one_parse_fault text (faults.Lex a) (faults.Unsupported at w) g h =
      absurd (lex_or_grammar text a _ g h)
  one_parse_fault text (faults.Lex a) (faults.Expected at w) g h =
      absurd (lex_or_grammar text a _ g h)
  one_parse_fault text (faults.Unsupported at w) (faults.Lex b) g h =
      absurd (lex_or_grammar text b _ h g)
  one_parse_fault text (faults.Expected at w) (faults.Lex b) g h =
      absurd (lex_or_grammar text b _ h g)
  one_parse_fault text (faults.Unsupported at w) (faults.Unsupported bt v) g h =
      one_grammar_fault text _ _ g h
  one_parse_fault text (faults.Unsupported at w) (faults.Expected bt v) g h =
      one_grammar_fault text _ _ g h
  one_parse_fault text (faults.Expected at w) (faults.Unsupported bt v) g h =
      one_grammar_fault text _ _ g h
  one_parse_fault text (faults.Expected at w) (faults.Expected bt v) g h =
      one_grammar_fault text _ _ g h

  -- a text has one draft
  one_text_draft : (text : List ℕ) (t u : Tree) → HasDraft text t → HasDraft text u → t ≡ u
  one_text_draft text t u d h =
      let same = one.tokens text d.0 h.0 d.1 h.1 in
      one_chart (lexemes text h.0) t u (subst (λ (ts : List Token). IsChart (lexemes text ts) t) same d.2) h.2

  -- a text has one draft or one first fault
  pub one_parsing : OneParsing
  one_parsing = record { draft = one_text_draft; fault = one_parse_fault; apart = draft_or_fault }

-- a fault is want of memory, or it is not
is_memory : (f : ParseFault) → (f ≡ faults.Memory) ⊎ (f ≢ faults.Memory)
is_memory faults.Memory = inl refl
is_memory (faults.Lex f) = inr (λ e. cc)
is_memory (faults.Unsupported at w) = inr (λ e. cc)
is_memory (faults.Expected at w) = inr (λ e. cc)

-- a text's draft is answered, unless memory runs out
pub answers_draft : (one : OneParsing) (text : List ℕ) (r : Result Tree ParseFault)
    → IfOk r (HasDraft text) → IfErr r (λ e. e ≢ faults.Memory → HasParseFault text e) → (t : Tree)
    → HasDraft text t → IsDraftOrMemory t r
answers_draft one text (Ok d) good bad t h = one.draft text d t good h
answers_draft one text (Err e) good bad t h =
    elim (is_memory e) [ inl m ↦ m | inr other ↦ absurd (one.apart text t e h (bad other)) ]

-- a text's first fault is answered, unless memory runs out
pub answers_fault : (one : OneParsing) (text : List ℕ) (r : Result Tree ParseFault)
    → IfOk r (HasDraft text) → IfErr r (λ e. e ≢ faults.Memory → HasParseFault text e)
    → (f : ParseFault) → HasParseFault text f → IsFaultOrMemory f r
answers_fault one text (Ok d) good bad f h = one.apart text d f good h
answers_fault one text (Err e) good bad f h =
    elim (is_memory e) [ inl m ↦ inr m | inr other ↦ inl (one.fault text e f (bad other) h) ]
