-- The places that are collected are places of the text.
use Rattle.std.proofs.Common.{◌≡◌, ℕ, suc, ◌≤◌, Bool, true, false, List, [], ◌∷◌, length, Some, All, IfSome, refl, sym, subst, arith}
use Rattle.std.specs.List.{AllByRecursion}
use Rattle.std.proofs.lemmas.List.Elements.{All-nil, All-cons}
use Rattle.msc_lexer.specs.declared.token.Token.{Token}
use Rattle.msc_lexer.specs.Lexemes.{Symbol, Lexeme, lexemes, AreWithin, IsWithin}
use Rattle.msc_place.specs.declared.naming.Part.{Part}
use Rattle.msc_place.specs.declared.naming.Part.TheVariants.{Header, Sections}
use Rattle.msc_place.specs.Standing.{begins_event, IsInside, AreInside, Stand}
use Rattle.msc_place.specs.Collecting.{collected, never, is_semicolon, leads_address, first_place, second_place, address_of, event_place, event_places, leads_name, stops_part, name_places}
use Rattle.msc_place.proofs.Collected.{collected_nil, collected_stopped, collected_led, collected_passed, address_none, address_here, address_later, address_nowhere}

-- the tokens begin at places of a text of so many bytes
abbrev pub BeginInside : ℕ → List Lexeme → Type 0
BeginInside n ls = AllByRecursion (λ l. l.place ≤ n) ls

-- the tokens of a text begin in it
pub tokens_inside : (text : List ℕ) (tokens : List Token) → AreWithin text tokens
    → BeginInside (length text) (lexemes text tokens)
tokens_inside text [] h = tt
tokens_inside text (t ∷ ts) h =
    let own : IsWithin text t = h 0 t (omega arith) in
    (omega (arith, own.ordered, own.inside), tokens_inside text ts (λ k d lt. h (suc k) d (omega arith)))

module _ {P : Type 0} (leads stops : Symbol → Bool) (of : List Lexeme → P) (n : ℕ) (Q : P → Type 0) (each : (l : Lexeme) (ls : List Lexeme) → BeginInside n (l ∷ ls) → Q (of (l ∷ ls))) where
  -- one token more
  collected_more : (l : Lexeme) (ls : List Lexeme) (s d : Bool) → stops l.symbol ≡ s
      → leads l.symbol ≡ d → Q (of (l ∷ ls)) → All Q (collected leads stops of ls)
      → All Q (collected leads stops of (l ∷ ls))
  collected_more l ls true d e f own others =
      subst (All Q) (sym (collected_stopped leads stops of l ls e)) (All-nil Q)
  collected_more l ls false true e f own others =
      subst (All Q) (sym (collected_led leads stops of l ls e f)) (All-cons Q (of (l ∷ ls)) (collected leads stops of ls) own others)
  collected_more l ls false false e f own others =
      subst (All Q) (sym (collected_passed leads stops of l ls e f)) others

  -- what holds of the place of each token holds of all that is collected
  pub collected_inside : (ls : List Lexeme) → BeginInside n ls → All Q (collected leads stops of ls)
  collected_inside [] h = subst (All Q) (sym (collected_nil leads stops of)) (All-nil Q)
  collected_inside (l ∷ ls) h =
      collected_more l ls (stops l.symbol) (leads l.symbol) refl refl (each l ls h) (collected_inside ls h.1)

-- the first token
first_inside : (n : ℕ) (ls : List Lexeme) → BeginInside n ls → first_place ls ≤ n
first_inside n [] h = omega arith
first_inside n (l ∷ ls) h = h.0

-- an address
address_more : (n : ℕ) (l : Lexeme) (ls : List Lexeme) (s d : Bool) → is_semicolon l.symbol ≡ s
    → leads_address l.symbol ≡ d → BeginInside n ls → IfSome (address_of ls) (λ at. at ≤ n)
    → IfSome (address_of (l ∷ ls)) (λ at. at ≤ n)
address_more n l ls true d e f h others =
    subst (λ o. IfSome o (λ at. at ≤ n)) (sym (address_none l ls e)) tt
address_more n l ls false true e f h others =
    let here : IfSome (Some (first_place ls)) (λ at. at ≤ n) = first_inside n ls h in
    subst (λ o. IfSome o (λ at. at ≤ n)) (sym (address_here l ls e f)) here
address_more n l ls false false e f h others =
    subst (λ o. IfSome o (λ at. at ≤ n)) (sym (address_later l ls e f)) others

address_inside : (n : ℕ) (ls : List Lexeme) → BeginInside n ls
    → IfSome (address_of ls) (λ at. at ≤ n)
address_inside n [] h =
    subst (λ o. IfSome o (λ at. at ≤ n)) (sym address_nowhere) tt
address_inside n (l ∷ ls) h =
    address_more n l ls (is_semicolon l.symbol) (leads_address l.symbol) refl refl h.1 (address_inside n ls h.1)

-- all places of a text are in it
pub all_inside : (text : List ℕ) (tokens : List Token) (p : Stand) → AreWithin text tokens
    → p.events ≡ event_places (lexemes text tokens)
    → p.sections ≡ name_places Sections (lexemes text tokens)
    → p.header ≡ name_places Header (lexemes text tokens) → AreInside (length text) p
all_inside text tokens p within events sections header =
    let n = length text in let ls = lexemes text tokens in
    let h = tokens_inside text tokens within in
    let names : (part : Part) → All (λ at. at ≤ n) (name_places part ls) =
    λ part. collected_inside (leads_name part) (stops_part part) second_place n (λ at. at ≤ n) (λ l ms k. first_inside n ms k.1) ls h in
    record {
      events =
          subst (All (IsInside n)) (sym events)
          (collected_inside begins_event never event_place n (IsInside n) (λ l ms k. record { start = k.0; address = address_inside n (l ∷ ms) k }) ls h);
      sections = subst (All (λ at. at ≤ n)) (sym sections) (names Sections);
      header = subst (All (λ at. at ≤ n)) (sym header) (names Header);
    }
