-- Tokens that are written one after another.
use Rattle.std.proofs.Common.{◌≡◌, ℕ, List, [], ◌∷◌, ◌++◌, Result, Ok, Err, subst, sym, ap, ◌∙◌, append_assoc, append-nil}
use Rattle.std.specs.Prelude.{OnOk}
use Rattle.std.proofs.lemmas.Result.{on_ok_weaker}
use Rattle.json.specs.Token.{Token}
use Rattle.json.specs.Written.{Writes, Written}
use Rattle.std.proofs.lemmas.Grind.{flat_map-append}
use Rattle.msc_record.specs.Members.{Member, member_tokens, tokens_of}
use Rattle.msc_record.specs.Writing.{Adds}

-- a last token after others
pub adds_last : {E : Type 0} (r : Result (Unit {0}) E) (old mid new : Written) (xs ts : List Token) (t : Token)
    → mid.before ≡ old.before → mid.tokens ≡ old.tokens ++ xs
    → new.before ≡ mid.before → OnOk r (new.tokens ≡ mid.tokens ++ t ∷ [])
    → xs ++ t ∷ [] ≡ ts → Adds r old new ts
adds_last r old mid new xs ts t before tokens stays last all = record {
  before = stays ∙ before;
  ok = on_ok_weaker r (λ e. e ∙ ap (λ l. l ++ t ∷ []) tokens ∙ append_assoc old.tokens xs (t ∷ []) ∙ ap (λ l. old.tokens ++ l) all) last;
}

-- the same tokens, written another way
pub adds_same : {E : Type 0} {r : Result (Unit {0}) E} {old new : Written} {xs ys : List Token} → xs ≡ ys → Adds r old new xs → Adds r old new ys
adds_same {E} {r} {old} {new} e h = subst (Adds r old new) e h

-- tokens after others
pub adds_on : {E : Type 0} {u : Unit {0}} {r : Result (Unit {0}) E} {old mid new : Written} {xs ys : List Token}
    → Adds {E = E} (Ok u) old mid xs → Adds r mid new ys → Adds r old new (xs ++ ys)
adds_on {E} {u} {r} {old} {mid} {new} {xs} {ys} first second = record {
  before = second.before ∙ first.before;
  ok = on_ok_weaker r (λ e. e ∙ ap (λ l. l ++ ys) first.ok ∙ append_assoc old.tokens xs ys) second.ok;
}

-- the last ones
pub adds_end : {E : Type 0} {r : Result (Unit {0}) E} {old new : Written} {xs : List Token}
    → Adds r old new xs → Adds r old new (xs ++ [])
adds_end {E} {r} {old} {new} {xs} h = adds_same (sym (append-nil xs)) h

-- members after others
pub adds_more : {E : Type 0} {u : Unit {0}} {r : Result (Unit {0}) E} {old mid new : Written} (xs ys : List Member)
    → Adds {E = E} (Ok u) old mid (tokens_of xs) → Adds r mid new (tokens_of ys) → Adds r old new (tokens_of (xs ++ ys))
adds_more xs ys first second = adds_same (sym (flat_map-append member_tokens xs ys)) (adds_on first second)

-- a fact holds after a success
pub on_ok_always : {T E P : Type 0} (r : Result T E) → P → OnOk r P
on_ok_always (Ok x) p = p
on_ok_always (Err e) p = tt

-- one token
pub adds_token : {E : Type 0} {r : Result (Unit {0}) E} {old new : Written} {t : Token} → Writes r old new t → Adds r old new (t ∷ [])
adds_token h = record { before = h.room.0; ok = h.ok }

-- bytes after others
pub puts_on : {E : Type 0} (r : Result (Unit {0}) E) (old mid new xs ys : List ℕ)
    → mid ≡ old ++ xs → OnOk r (new ≡ mid ++ ys) → OnOk r (new ≡ old ++ (xs ++ ys))
puts_on r old mid new xs ys first second =
    on_ok_weaker r (λ e. e ∙ ap (λ l. l ++ ys) first ∙ append_assoc old xs ys) second
