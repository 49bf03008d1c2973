-- The characters of a text are those of its UTF-8.
use Rattle.std.proofs.Common.{◌≡◌, ◌≤◌, ℕ, zero, suc, ◌-◌, List, [], ◌∷◌, ◌++◌, length, length-drop, drop, Option, Some, None, refl, sym, ap, ◌∙◌, arith}
use Rattle.std.proofs.lemmas.Str.{len_utf8_bounds, length-encode}
use Rattle.std.specs.Prelude.{encode_utf8}
use Rattle.bstr.specs.Utf8.{Decoded, decoded}
use Rattle.bstr.proofs.lemmas.EncodeLemmas.{decoded-encode}
use Rattle.bstr.proofs.lemmas.SoundLemmas.{SpellsChar-decoded}
use Rattle.msc_spoken.specs.declared.reading.Notation.TheVariants.{Plain}
use Rattle.msc_spoken.specs.Reading.{decoded_front, or_mark, read_front}
use Rattle.msc_spoken.specs.Replacing.{replaced}
use Rattle.msc_spoken.specs.Laws.{BeginsNone, ReadAs, ReadsUtf8, nothing, character, stray}
use Rattle.msc_spoken.proofs.ReplacingLemmas.{front_replaced, none_replaced, replaced_dropped}

abbrev read : List ℕ → List ℕ
read bytes = replaced (read_front Plain) 0 bytes

-- bytes that do not decode begin no character
none_begins : (bytes : List ℕ) → (decoded bytes).char ≡ None → BeginsNone bytes
none_begins bytes none c rest scalar same =
    let found = decoded-encode c rest scalar in
    let some : (decoded bytes).char ≡ Some c = ap (λ b. (decoded b).char) same ∙ ap (λ (d : Decoded). d.char) found in
    absurd cc

-- what is read at the front, and then of the rest
first_read : (b : ℕ) (bs : List ℕ) (front : ℕ × ℕ) → decoded_front (b ∷ bs) ≡ front → read (b ∷ bs) ≡ front.0 ∷ read (drop front.1 bs)
unfolding read_front
first_read b bs front is =
    front_replaced (read_front Plain) b bs ∙ ap (λ (q : ℕ × ℕ). q.0 ∷ replaced (read_front Plain) q.1 bs) is ∙ ap (λ t. front.0 ∷ t) (replaced_dropped (read_front Plain) front.1 bs)

same_read : (bytes bytes' cs cs' : List ℕ) → bytes ≡ bytes' → cs ≡ cs' → ReadAs bytes cs → ReadAs bytes' cs'
same_read bytes bytes' cs cs' e f h = rw (← e, ← f) h

module _ (b : ℕ) (bs : List ℕ) where
  stray_read : (decoded (b ∷ bs)).char ≡ None → ReadAs bs (read bs) → ReadAs (b ∷ bs) (read (b ∷ bs))
  unfolding decoded_front
  stray_read none rest =
      let front : decoded_front (b ∷ bs) ≡ (63, 0) = ap (λ o. or_mark o ((decoded (b ∷ bs)).size - 1)) none in
      same_read (b ∷ bs) (b ∷ bs) (63 ∷ read bs) (read (b ∷ bs)) refl (sym (first_read b bs (63, 0) front)) (stray b bs (read bs) (none_begins (b ∷ bs) none) rest)

  character_read : (c : ℕ) → (decoded (b ∷ bs)).char ≡ Some c → ((k : ℕ) → ReadAs (drop k bs) (read (drop k bs))) → ReadAs (b ∷ bs) (read (b ∷ bs))
  unfolding decoded_front
  character_read c some rest =
      let size = (decoded (b ∷ bs)).size in
      let more = size - 1 in
      let spells = SpellsChar-decoded (b ∷ bs) c some in
      let front : decoded_front (b ∷ bs) ≡ (c, more) = ap (λ o. or_mark o more) some in
      let positive : size ≡ suc more = omega (arith, spells.width, length-encode c, len_utf8_bounds c) in
      let behind : drop size (b ∷ bs) ≡ drop more bs = ap (λ n. drop n (b ∷ bs)) positive in
      let whole = spells.bytes ∙ ap (λ t. encode_utf8 c ++ t) behind in
      same_read (encode_utf8 c ++ drop more bs) (b ∷ bs) (c ∷ read (drop more bs)) (read (b ∷ bs)) (sym whole) (sym (first_read b bs (c, more) front)) (character c (drop more bs) (read (drop more bs)) spells.scalar (rest more))

  read_by : (o : Option ℕ) → (decoded (b ∷ bs)).char ≡ o → ((k : ℕ) → ReadAs (drop k bs) (read (drop k bs))) → ReadAs (b ∷ bs) (read (b ∷ bs))
  read_by None none rest = stray_read none (rest 0)
  read_by (Some c) some rest = character_read c some rest

read_within : (n : ℕ) (bytes : List ℕ) → length bytes ≤ n → ReadAs bytes (read bytes)
read_within n [] few = same_read [] [] [] (read []) refl (sym (none_replaced (read_front Plain) 0)) nothing
read_within zero (b ∷ bs) few = absurd (omega arith)
read_within (suc n) (b ∷ bs) few =
    read_by b bs (decoded (b ∷ bs)).char refl (λ k. read_within n (drop k bs) (omega (arith, few, length-drop k bs)))

pub reads_utf8_lem : ReadsUtf8
reads_utf8_lem bytes = read_within (length bytes) bytes (omega arith)
