-- The parts of an event's statement: its first word, its address behind `to` or `from`, and its
-- `;`.
use Rattle.std.proofs.Common.{◌≡◌, ℕ, ◌+◌, Bool, true, false, ◌||◌, List, [], ◌∷◌, ◌++◌, Option, Some, None, refl, sym, ap, ◌∙◌}
use Rattle.std.specs.List.{AllByRecursion}
use Rattle.std.proofs.lemmas.List.{append_assoc}
use Rattle.msc_lexer.specs.declared.word.Word.TheVariants as words
use Rattle.msc_lexer.specs.Lexemes.{Symbol, Reserved, Named, Quoted, Semicolon, Lexeme}
use Rattle.msc_parser.specs.declared.tree.Direction.{Direction}
use Rattle.msc_parser.specs.declared.tree.Direction.TheVariants as directions
use Rattle.msc_parser.specs.declared.tree.Signal.{Signal}
use Rattle.msc_parser.specs.declared.tree.Statement.{Statement}
use Rattle.msc_parser.specs.declared.tree.Statement.TheVariants.{Message, Action}
use Rattle.msc_parser.specs.Grammar.{IsEnd, Plain, Commented, IsEvent, IsMessage, direction_word, address_word}
use Rattle.msc_place.specs.Collecting.{is_semicolon, leads_address, first_place, end_of, address_of}
use Rattle.msc_place.proofs.Collected.{end_here, end_later, address_none, address_here, address_later}
use Rattle.msc_place.proofs.Walks.{Passes, passes_on, weaker_all, neither}
use Rattle.msc_place.proofs.Passing.{IsFree, pass_token, pass_ident}

-- `;`, `to` or `from`
abbrev closes : Symbol → Bool
closes s = is_semicolon s || leads_address s

closes_free : IsFree closes
closes_free = record { named = λ n. refl; comma = refl; left = refl; right = refl }

not_semicolon : (s : Symbol) → closes s ≡ false → is_semicolon s ≡ false
not_semicolon s h = (neither (is_semicolon s) (leads_address s) h).0

-- the first `;` is behind what is none
end_behind : (gap a : List Lexeme) → AllByRecursion (λ l. is_semicolon l.symbol ≡ false) gap
    → end_of (gap ++ a) ≡ end_of a
end_behind [] a h = refl
end_behind (l ∷ ls) a h = end_later l (ls ++ a) h.0 ∙ end_behind ls a h.1

-- the address is behind what is no `;` and leads none
address_behind : (gap a : List Lexeme) → AllByRecursion (λ l. closes l.symbol ≡ false) gap
    → address_of (gap ++ a) ≡ address_of a
address_behind [] a h = refl
address_behind (l ∷ ls) a h =
    let n = neither (is_semicolon l.symbol) (leads_address l.symbol) h.0 in
    address_later l (ls ++ a) n.0 n.1 ∙ address_behind ls a h.1

-- a `;` at a place
abbrev pub semicolon_at : ℕ → Lexeme
semicolon_at at = record { symbol = Semicolon; place = at }

-- the end of a statement is what is no `;` and leads no address, and a `;`
end_parts : (b a : List Lexeme) → IsEnd b a → (last : ℕ) × Passes closes b (semicolon_at last ∷ a)
end_parts b a (Plain h) = (h.0, record { gap = []; whole = h.1; fails = tt })
end_parts b a (Commented bytes text close h k l) = (
  l.0,
  passes_on closes b text (semicolon_at l.0 ∷ a) (pass_token closes _ b text h refl)
      (passes_on closes text close (semicolon_at l.0 ∷ a) (pass_token closes _ text close k refl) (record { gap = []; whole = l.1; fails = tt })),
)

-- where the address of an event stands among its tokens
abbrev pub HasAddress : Statement → List Lexeme → Option ℕ → Type 0
HasAddress (Message e) own o =
    (lead : List Lexeme) × (word : ℕ) × (at : ℕ) × (close : List Lexeme) × (own ≡ lead ++ record { symbol = Reserved (address_word e.direction); place = word } ∷ record { symbol = Named e.address; place = at } ∷ close) × (o ≡ Some at)
HasAddress (Action l) own o = o ≡ None

-- the tokens of an event's statement, of which `a` follows
pub record EventParts (b : List Lexeme) (e : Statement) (a : List Lexeme) : Type 0 where
  pub first : Lexeme
  pub inner : List Lexeme
  pub last : ℕ
  pub whole : b ≡ (first ∷ inner ++ semicolon_at last ∷ []) ++ a
  pub start_is : first_place b ≡ first.place
  pub end_is : end_of b ≡ last + 1
  pub address : HasAddress e (first ∷ inner ++ semicolon_at last ∷ []) (address_of b)

-- the words of message events
direction_apart : (w : Direction) → closes (Reserved (direction_word w)) ≡ false
direction_apart directions.Output = refl
direction_apart directions.Input = refl

word_apart : (w : Direction) → is_semicolon (Reserved (address_word w)) ≡ false
word_apart directions.Output = refl
word_apart directions.Input = refl

word_leads : (w : Direction) → leads_address (Reserved (address_word w)) ≡ true
word_leads directions.Output = refl
word_leads directions.Input = refl

-- the end of a statement is where its `;` is
ended : (b a : List Lexeme) (h : (last : ℕ) × Passes closes b (semicolon_at last ∷ a))
    → end_of b ≡ h.0 + 1
ended b a h =
    let none = weaker_all closes is_semicolon not_semicolon h.1.gap h.1.fails in
    ap end_of h.1.whole ∙ end_behind h.1.gap (semicolon_at h.0 ∷ a) none ∙ end_here (semicolon_at h.0) a refl

-- the same tokens, grouped in another way
regrouped : (x g a : List Lexeme) (w n s : Lexeme)
    → x ++ w ∷ n ∷ (g ++ s ∷ a) ≡ ((x ++ w ∷ n ∷ g) ++ s ∷ []) ++ a
regrouped x g a w n s = simp append_assoc

-- those of a message event
message_parts : (b a : List Lexeme) (e : Signal) → IsMessage b e a → EventParts b (Message e) a
message_parts b a e h =
    let k = h.2 in
    let first : Lexeme = record { symbol = Reserved (direction_word e.direction); place = h.1.0 } in
    let word : Lexeme = record { symbol = Reserved (address_word e.direction); place = k.is_word.0 } in
    let name : Lexeme = record { symbol = Named e.address; place = k.is_address.0 } in
    let end = end_parts k.close a k.is_end in
    let semi = semicolon_at end.0 in
    let ident = pass_ident closes closes_free e h.0 k.word k.is_ident in
    let id = ident.gap in
    let tail : k.word ≡ word ∷ name ∷ k.close = k.is_word.1 ∙ ap (λ ls. word ∷ ls) k.is_address.1 in
    let front : b ≡ first ∷ (id ++ word ∷ name ∷ k.close) =
    h.1.1 ∙ ap (λ ls. first ∷ ls) (ident.whole ∙ ap (λ ls. id ++ ls) tail) in
    let apart = neither (is_semicolon first.symbol) (leads_address first.symbol) (direction_apart e.direction) in
    let no_end = weaker_all closes is_semicolon not_semicolon id ident.fails in
    let close = end.1.gap in
    record {
      first = first;
      inner = id ++ word ∷ name ∷ close;
      last = end.0;
      whole = front ∙ ap (λ ls. first ∷ (id ++ word ∷ name ∷ ls)) end.1.whole ∙ ap (λ ls. first ∷ ls) (regrouped id close a word name semi);
      start_is = ap first_place h.1.1;
      end_is =
          ap end_of front ∙ end_later first (id ++ word ∷ name ∷ k.close) apart.0
          ∙ end_behind id (word ∷ name ∷ k.close) no_end ∙ end_later word (name ∷ k.close) (word_apart e.direction)
          ∙ end_later name k.close refl ∙ ended k.close a end;
      address = (
        first ∷ id,
        word.place,
        name.place,
        close ++ semi ∷ [],
        ap (λ ls. first ∷ ls) (append_assoc id (word ∷ name ∷ close) (semi ∷ [])),
        ap address_of front ∙ address_later first (id ++ word ∷ name ∷ k.close) apart.0 apart.1
            ∙ address_behind id (word ∷ name ∷ k.close) ident.fails ∙ address_here word (name ∷ k.close) (word_apart e.direction) (word_leads e.direction),
      );
    }

-- a statement without an address has none up to its `;`
unaddressed : (b a : List Lexeme) (h : (last : ℕ) × Passes closes b (semicolon_at last ∷ a))
    → address_of b ≡ None
unaddressed b a h =
    ap address_of h.1.whole ∙ address_behind h.1.gap (semicolon_at h.0 ∷ a) h.1.fails ∙ address_none (semicolon_at h.0) a refl

-- those of an action
action_parts : (b a : List Lexeme) (l : List ℕ) → IsEvent b (Action l) a
    → EventParts b (Action l) a
action_parts b a l h =
    let k = h.2 in
    let first : Lexeme = record { symbol = Reserved words.Action; place = h.1.0 } in
    let text : Lexeme = record { symbol = Quoted l; place = k.is_text.0 } in
    let end = end_parts k.close a k.is_end in
    let semi = semicolon_at end.0 in
    let front : b ≡ first ∷ text ∷ k.close = h.1.1 ∙ ap (λ ls. first ∷ ls) k.is_text.1 in
    record {
      first = first;
      inner = text ∷ end.1.gap;
      last = end.0;
      whole = front ∙ ap (λ ls. first ∷ text ∷ ls) (end.1.whole ∙ sym (append_assoc end.1.gap (semi ∷ []) a));
      start_is = ap first_place h.1.1;
      end_is =
          ap end_of front ∙ end_later first (text ∷ k.close) refl ∙ end_later text k.close refl ∙ ended k.close a end;
      address =
          ap address_of front ∙ address_later first (text ∷ k.close) refl refl ∙ address_later text k.close refl refl ∙ unaddressed k.close a end;
    }

pub event_parts : (b a : List Lexeme) (e : Statement) → IsEvent b e a → EventParts b e a
event_parts b a (Message e) h = message_parts b a e h
event_parts b a (Action l) h = action_parts b a l h
