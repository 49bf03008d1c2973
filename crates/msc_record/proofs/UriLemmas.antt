-- The kit's escapes of a name are those of its URI.
use Rattle.std.proofs.Common.{◌≡◌, ℕ, ◌<◌, Bool, true, false, not, cond, List, [], ◌∷◌, ◌++◌, All, refl, ap, ap₂, ◌∙◌}
use Rattle.std.proofs.lemmas.Bool.{agree_below, agree_below_at}
use Rattle.std.proofs.lemmas.List.Elements.{All-head, All-tail}
use Rattle.percent_encoding.specs.AsciiSet.{should_percent_encode}
use Rattle.percent_encoding.specs.Percent.{encode_byte, percent_encode, percent_encode_byte}
use Rattle.percent_encoding.proofs.PercentLemmas.{IsByte}
use Rattle.msc_record.specs.declared.uri.TheConstants.{ESCAPED}
use Rattle.msc_record.specs.Uris.{escaped_name, stays, uri_byte}

-- the set has all bytes that do not stay
escaped_bytes : agree_below (should_percent_encode ESCAPED) (λ b. not (stays b)) 256 ≡ true
unfolding should_percent_encode
escaped_bytes = refl

turned : {A : Type 0} (s : Bool) (x y : A) → cond (not s) x y ≡ cond s y x
turned true x y = refl
turned false x y = refl

same_byte : (b : ℕ) → b < 256 → encode_byte ESCAPED b ≡ uri_byte b
same_byte b small =
    ap (λ e. cond e (percent_encode_byte b) (b ∷ [])) (agree_below_at (should_percent_encode ESCAPED) (λ x. not (stays x)) 256 b escaped_bytes small)
    ∙ turned (stays b) (percent_encode_byte b) (b ∷ [])

pub same_name : (name : List ℕ) → All IsByte name → percent_encode ESCAPED name ≡ escaped_name name
unfolding percent_encode escaped_name
same_name [] small = refl
same_name (b ∷ bs) small =
    ap₂ (λ x y. x ++ y) (same_byte b (All-head IsByte b bs small)) (same_name bs (All-tail IsByte b bs small))
