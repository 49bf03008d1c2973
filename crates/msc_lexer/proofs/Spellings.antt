-- The reserved words.
use Rattle.std.proofs.Common.{◌≡◌, ◌≢◌, ℕ, ◌+◌, ◌<◌, ◌↔◌, Bool, true, false, inl, inr, nat_eq, List, [], ◌∷◌, length, get_or, drop, map, None, Some, refl, sym, ap, ◌∙◌, find}
use Rattle.std.specs.List.{filter}
use Rattle.std.specs.Char.{to_ascii_lowercase}
use Rattle.std.proofs.lemmas.Bool.{cases_Bool, eqb-false, false_from_ne_true, ne_eqb}
use Rattle.std.proofs.lemmas.List.{at_drop_more, length-map}
use Rattle.std.proofs.lemmas.Bool.Decides.{same_from_decides}
use Rattle.std.proofs.lemmas.Slice.Eq.{bytes_eq-Decides}
use Rattle.msc_lexer.specs.declared.word.Word.{Word}
use Rattle.msc_lexer.specs.declared.word.Word.TheVariants.{Msc, EndMsc, Inst, Instance, EndInstance, Input, From, Output, To, Concurrent, EndConcurrent, Comment, Env, Action, Condition, Set, Reset, Timeout, Create, Stop}
use Rattle.msc_lexer.specs.Words.{all_words, spelling, word_of, is_spelled}

-- words are spelled in small letters
lowercase-spelling : (w : Word) → map to_ascii_lowercase (spelling w) ≡ spelling w
lowercase-spelling Msc = refl
lowercase-spelling EndMsc = refl
lowercase-spelling Inst = refl
lowercase-spelling Instance = refl
lowercase-spelling EndInstance = refl
lowercase-spelling Input = refl
lowercase-spelling From = refl
lowercase-spelling Output = refl
lowercase-spelling To = refl
lowercase-spelling Concurrent = refl
lowercase-spelling EndConcurrent = refl
lowercase-spelling Comment = refl
lowercase-spelling Env = refl
lowercase-spelling Action = refl
lowercase-spelling Condition = refl
lowercase-spelling Set = refl
lowercase-spelling Reset = refl
lowercase-spelling Timeout = refl
lowercase-spelling Create = refl
lowercase-spelling Stop = refl

-- a spelled word is that word
pub word_of-spelling : (w : Word) → word_of (spelling w) ≡ Some w
unfolding word_of
word_of-spelling Msc = refl
word_of-spelling EndMsc = refl
word_of-spelling Inst = refl
word_of-spelling Instance = refl
word_of-spelling EndInstance = refl
word_of-spelling Input = refl
word_of-spelling From = refl
word_of-spelling Output = refl
word_of-spelling To = refl
word_of-spelling Concurrent = refl
word_of-spelling EndConcurrent = refl
word_of-spelling Comment = refl
word_of-spelling Env = refl
word_of-spelling Action = refl
word_of-spelling Condition = refl
word_of-spelling Set = refl
word_of-spelling Reset = refl
word_of-spelling Timeout = refl
word_of-spelling Create = refl
word_of-spelling Stop = refl

-- what the comparison of the code answered is the test of the definition
pub compared : (r : Bool) (bytes other : List ℕ) (w : Word) → other ≡ spelling w
    → ((r ≡ true) ↔ (map to_ascii_lowercase bytes ≡ map to_ascii_lowercase other))
    → r ≡ is_spelled bytes w
compared r bytes other w same both =
    let e : map to_ascii_lowercase other ≡ spelling w = ap (map to_ascii_lowercase) same ∙ lowercase-spelling w in
    same_from_decides r (is_spelled bytes w) (rw e at both) (bytes_eq-Decides (map to_ascii_lowercase bytes) (spelling w))

-- a search that passes at a place finds what stands there
pub found : (p : Word → Bool) (ws : List Word) (i : ℕ) (d : Word) → i < length ws
    → p (get_or ws i d) ≡ true → find p (drop i ws) ≡ Some (get_or ws i d)
found p ws i d lt pass = at_drop_more (find p) ws i d lt ∙ rw pass refl

-- a search that fails at a place goes on behind it
pub missed : (p : Word → Bool) (ws : List Word) (i : ℕ) (d : Word) → i < length ws
    → p (get_or ws i d) ≡ false → find p (drop i ws) ≡ find p (drop (i + 1) ws)
missed p ws i d lt fail = at_drop_more (find p) ws i d lt ∙ rw fail refl

-- bytes of another length do not spell the word
other_length : (bytes : List ℕ) (w : Word) (n : ℕ) → length bytes ≡ n
    → nat_eq (length (spelling w)) n ≡ false → is_spelled bytes w ≡ false
other_length bytes w n size other =
    false_from_ne_true (is_spelled bytes w) (λ spelled.
    let same = (bytes_eq-Decides (map to_ascii_lowercase bytes) (spelling w)).0 spelled in
    eqb-false (length (spelling w)) n other (sym (ap length same) ∙ length-map bytes to_ascii_lowercase ∙ size))

-- so a search need only look at the words of the length of the bytes
searched : (bytes : List ℕ) (n : ℕ) → length bytes ≡ n → (ws : List Word)
    → find (is_spelled bytes) (filter (λ w. nat_eq (length (spelling w)) n) ws) ≡ find (is_spelled bytes) ws
searched bytes n size [] = refl
searched bytes n size (w ∷ ws) =
    let rest = searched bytes n size ws in
    elim (cases_Bool (nat_eq (length (spelling w)) n)) [
      | inl same ↦ rw (same, rest) refl
      | inr other ↦ rw (other, other_length bytes w n size other) rest
    ]

-- the word of the bytes is among those of their length
pub word_of-length : (bytes : List ℕ) (n : ℕ) → length bytes ≡ n
    → find (is_spelled bytes) (filter (λ w. nat_eq (length (spelling w)) n) all_words) ≡ word_of bytes
unfolding word_of
word_of-length bytes n size = searched bytes n size all_words

-- and no word has another length
pub no_word : (bytes : List ℕ) (n : ℕ) → length bytes ≡ n
    → n ≢ 2 → n ≢ 3 → n ≢ 4 → n ≢ 5 → n ≢ 6 → n ≢ 7 → n ≢ 8 → n ≢ 9 → n ≢ 10 → n ≢ 11 → n ≢ 13
    → word_of bytes ≡ None
no_word bytes n size n2 n3 n4 n5 n6 n7 n8 n9 n10 n11 n13 =
    let other = λ (k : ℕ) (h : n ≢ k). ne_eqb k n (λ e. h (sym e)) in
    sym (word_of-length bytes n size)
    ∙ rw (other 2 n2, other 3 n3, other 4 n4, other 5 n5, other 6 n6, other 7 n7, other 8 n8, other 9 n9, other 10 n10, other 11 n11, other 13 n13) refl
