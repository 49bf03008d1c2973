-- The comment of an event's statement, read by the grammar.
use Rattle.std.proofs.Common.{◌≡◌, ℕ, Bool, false, ◌||◌, List, [], ◌∷◌, ◌++◌, Some, None, refl, sym, ap, ◌∙◌, subst}
use Rattle.std.specs.List.{AllByRecursion}
use Rattle.std.proofs.lemmas.List.{append_assoc}
use Rattle.msc_lexer.specs.declared.word.Word.TheVariants as words
use Rattle.msc_lexer.specs.Lexemes.{Symbol, Reserved, Named, Quoted, Semicolon, Lexeme}
use Rattle.msc_parser.specs.declared.tree.Direction.{Direction}
use Rattle.msc_parser.specs.declared.tree.Direction.TheVariants as directions
use Rattle.msc_parser.specs.declared.tree.Statement.{Statement}
use Rattle.msc_parser.specs.declared.tree.Statement.TheVariants.{Message, Action}
use Rattle.msc_parser.specs.Grammar.{Tree, IsEnd, Plain, Commented, IsEvent, direction_word, address_word}
use Rattle.msc_place.specs.Standing.{tokens_with, IsStatement}
use Rattle.msc_place.proofs.Walks.{weaker_all, neither, none_with, AllByRecursion-append as all_joined}
use Rattle.msc_place.proofs.Passing.{IsFree, pass_ident}
use Rattle.msc_mark.specs.Comments.{comment_in, is_comment, is_semicolon}
use Rattle.msc_mark.specs.Statements.{HasComment, HasNoComment, IsCommentOf, comment_end}
use Rattle.msc_mark.proofs.Steps.{comment_none, comment_here, comment_later}

-- `;` or `comment`
abbrev pub ends : Symbol → Bool
ends s = is_semicolon s || is_comment s

ends_free : IsFree ends
ends_free = record { named = λ n. refl; comma = refl; left = refl; right = refl }

way_goes : (w : Direction) → ends (Reserved (direction_word w)) ≡ false
way_goes directions.Output = refl
way_goes directions.Input = refl

word_goes : (w : Direction) → ends (Reserved (address_word w)) ≡ false
word_goes directions.Output = refl
word_goes directions.Input = refl

-- the comment is behind what is neither
behind_gap : (gap a : List Lexeme) → AllByRecursion (λ l. ends l.symbol ≡ false) gap
    → comment_in (gap ++ a) ≡ comment_in a
behind_gap [] a h = refl
behind_gap (l ∷ ls) a h =
    let n = neither (is_semicolon l.symbol) (is_comment l.symbol) h.0 in
    comment_later l (ls ++ a) n.0 n.1 ∙ behind_gap ls a h.1

-- an event: its first word, what ends nothing, and its end
pub record EventEnd (b : List Lexeme) (a : List Lexeme) : Type 0 where
  pub first : Lexeme
  pub lead : List Lexeme
  pub close : List Lexeme
  pub whole : b ≡ first ∷ (lead ++ close)
  pub goes : ends first.symbol ≡ false
  pub inner : AllByRecursion (λ l. ends l.symbol ≡ false) lead
  pub is_end : IsEnd close a

pub event_end : (b a : List Lexeme) (e : Statement) → IsEvent b e a → EventEnd b a
event_end b a (Message e) h =
    let k = h.2 in
    let ident = pass_ident ends ends_free e h.0 k.word k.is_ident in
    let word : Lexeme = record { symbol = Reserved (address_word e.direction); place = k.is_word.0 } in
    let name : Lexeme = record { symbol = Named e.address; place = k.is_address.0 } in
    let first : Lexeme = record { symbol = Reserved (direction_word e.direction); place = h.1.0 } in
    let tail : k.word ≡ word ∷ name ∷ k.close = k.is_word.1 ∙ ap (λ ls. word ∷ ls) k.is_address.1 in
    record {
      first = first;
      lead = ident.gap ++ word ∷ name ∷ [];
      close = k.close;
      whole =
          h.1.1 ∙ ap (λ ls. first ∷ ls) (ident.whole ∙ ap (λ ls. ident.gap ++ ls) tail ∙ sym (append_assoc ident.gap (word ∷ name ∷ []) k.close));
      goes = way_goes e.direction;
      inner = all_joined (λ l. ends l.symbol ≡ false) ident.gap (word ∷ name ∷ []) ident.fails (word_goes e.direction, (refl, tt));
      is_end = k.is_end;
    }
event_end b a (Action l) h =
    let k = h.2 in
    let first : Lexeme = record { symbol = Reserved words.Action; place = h.1.0 } in
    record {
      first = first;
      lead = record { symbol = Quoted l; place = k.is_text.0 } ∷ [];
      close = k.close;
      whole = h.1.1 ∙ ap (λ ls. first ∷ ls) k.is_text.1;
      goes = refl;
      inner = (refl, tt);
      is_end = k.is_end;
    }

-- the tokens of an event with a comment, and of one without
with_comment : (first : Lexeme) (lead : List Lexeme) (word : ℕ) (bytes : List ℕ) (at close : ℕ) (a : List Lexeme)
    → first ∷ (lead ++ record { symbol = Reserved words.Comment; place = word } ∷ record { symbol = Quoted bytes; place = at } ∷ record { symbol = Semicolon; place = close } ∷ a)
    ≡ ((first ∷ lead) ++ comment_end word bytes at close) ++ a
with_comment first lead word bytes at close a =
    ap (λ ls. first ∷ ls) (sym (append_assoc lead (comment_end word bytes at close) a))

without_comment : (first : Lexeme) (lead : List Lexeme) (close : ℕ) (a : List Lexeme)
    → first ∷ (lead ++ record { symbol = Semicolon; place = close } ∷ a)
    ≡ (first ∷ (lead ++ record { symbol = Semicolon; place = close } ∷ [])) ++ a
without_comment first lead close a =
    ap (λ ls. first ∷ ls) (sym (append_assoc lead (record { symbol = Semicolon; place = close } ∷ []) a))

-- no `comment` is among them
none_among : (first : Lexeme) (lead : List Lexeme) (close : ℕ) → ends first.symbol ≡ false
    → AllByRecursion (λ l. ends l.symbol ≡ false) lead
    → tokens_with is_comment (first ∷ (lead ++ record { symbol = Semicolon; place = close } ∷ [])) ≡ 0
none_among first lead close goes inner =
    let no : (s : Symbol) → ends s ≡ false → is_comment s ≡ false = λ s h. (neither (is_semicolon s) (is_comment s) h).1 in
    let semi : Lexeme = record { symbol = Semicolon; place = close } in
    none_with is_comment (first ∷ (lead ++ semi ∷ [])) (
      no first.symbol goes,
      all_joined (λ l. is_comment l.symbol ≡ false) lead (semi ∷ []) (weaker_all ends is_comment no lead inner) (refl, tt),
    )

-- the tokens behind an event's first word tell its comment
pub comment_told : (text : List ℕ) (t : Tree) (e : ℕ) (event : Statement) (front rest a : List Lexeme) (first : Lexeme)
    → ((own : List Lexeme) → first ∷ rest ≡ own ++ a → IsStatement text t e event front own a)
    → EventEnd (first ∷ rest) a → IsCommentOf text t e (comment_in rest)
comment_told text t e event front rest a first stands p = by p.is_end
  where
    rest_is : rest ≡ p.lead ++ p.close
    rest_is = cc p.whole

    behind : comment_in rest ≡ comment_in p.close
    behind = ap comment_in rest_is ∙ behind_gap p.lead p.close p.inner

    by : IsEnd p.close a → IsCommentOf text t e (comment_in rest)
    by (Plain h) =
        let none : comment_in rest ≡ None = behind ∙ ap comment_in h.1 ∙ comment_none (record { symbol = Semicolon; place = h.0 }) a refl in
        let whole = p.whole ∙ ap (λ ls. p.first ∷ (p.lead ++ ls)) h.1 ∙ without_comment p.first p.lead h.0 a in
        let has : HasNoComment text t e = record {
          event = event;
          front = front;
          own = p.first ∷ (p.lead ++ record { symbol = Semicolon; place = h.0 } ∷ []);
          after = a;
          statement = stands _ whole;
          none = none_among p.first p.lead h.0 p.goes p.inner;
        } in
        subst (IsCommentOf text t e) (sym none) has
    by (Commented bytes quoted close h k l) =
        let comment : Lexeme = record { symbol = Quoted bytes; place = k.0 } in
        let word : Lexeme = record { symbol = Reserved words.Comment; place = h.0 } in
        let parts : p.close ≡ word ∷ comment ∷ record { symbol = Semicolon; place = l.0 } ∷ a =
        h.1 ∙ ap (λ ls. word ∷ ls) (k.1 ∙ ap (λ ls. comment ∷ ls) l.1) in
        let some : comment_in rest ≡ Some comment = behind ∙ ap comment_in parts ∙ comment_here word _ refl refl in
        let whole = p.whole ∙ ap (λ ls. p.first ∷ (p.lead ++ ls)) parts ∙ with_comment p.first p.lead h.0 bytes k.0 l.0 a in
        let has : HasComment text t e comment = record {
          event = event;
          front = front;
          lead = p.first ∷ p.lead;
          word = h.0;
          bytes = bytes;
          close = l.0;
          after = a;
          is = refl;
          statement = stands _ whole;
        } in
        subst (IsCommentOf text t e) (sym some) has
