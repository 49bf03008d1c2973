-- What stands at a place stands in the text.
use Rattle.std.proofs.Common.{◌≡◌, ℕ, ◌+◌, ◌≤◌, List, [], ◌∷◌, ◌++◌, length, get_or, Option, Some, None, IfSome, ap, subst, ◌∙◌, arith, length-append}
use Rattle.std.proofs.Math.Seq.{get_or-append_seam}
use Rattle.std.proofs.lemmas.List.{append_assoc}
use Rattle.msc_lexer.specs.declared.token.Token.{Token}
use Rattle.msc_lexer.specs.Lexemes.{IsWithin, AreWithin}
use Rattle.msc_place.specs.declared.tokens_at.TokenAt.{TokenAt}
use Rattle.msc_place.specs.TokensAt.{IsTokenAt, IsFound, IsBehind}
use Rattle.msc_place.proofs.Collected.{no_token}

-- a token among those of a text stands in it
among : (text : List ℕ) (tokens front more : List Token) (t : Token) → AreWithin text tokens
    → tokens ≡ front ++ t ∷ more → IsWithin text t
among text tokens front more t within whole =
    let long : length tokens ≡ length front + (1 + length more) =
    ap length whole ∙ length-append front (t ∷ more) ∙ omega arith in
    let is : get_or tokens (length front) no_token ≡ t =
    ap (λ ts. get_or ts (length front) no_token) whole ∙ get_or-append_seam front t more no_token in
    subst (IsWithin text) is (within (length front) no_token (omega (arith, long)))

-- the token that was found
found_within : (text : List ℕ) (tokens front rest : List Token) (at : ℕ) (o : Option Token)
    → AreWithin text tokens → tokens ≡ front ++ rest → IsFound at rest o → IfSome o (IsWithin text)
found_within text tokens front rest at None within whole found = tt
found_within text tokens front rest at (Some t) within whole found =
    among text tokens front found.0 t within (whole ∙ ap (λ ts. front ++ ts) found.1)

-- the token before it
behind_within : (text : List ℕ) (tokens front rest : List Token) (o : Option ℕ)
    → AreWithin text tokens → tokens ≡ front ++ rest → IsBehind front o
    → IfSome o (λ b. b ≤ length text)
behind_within text tokens front rest None within whole behind = tt
behind_within text tokens front rest (Some b) within whole behind =
    let t = behind.1 in
    let cut : tokens ≡ behind.0 ++ t ∷ rest =
    whole ∙ ap (λ ts. ts ++ rest) behind.2 ∙ append_assoc behind.0 (t ∷ []) rest in
    let own = among text tokens behind.0 rest t within cut in
    omega (arith, own.inside, behind.3)

pub spot_within : (text : List ℕ) (tokens : List Token) (at : ℕ) (spot : TokenAt)
    → AreWithin text tokens → IsTokenAt tokens at spot
    → IfSome spot.token (IsWithin text) × IfSome spot.behind (λ b. b ≤ length text)
spot_within text tokens at spot within h = (
  found_within text tokens h.front h.rest at spot.token within h.whole h.found,
  behind_within text tokens h.front h.rest spot.behind within h.whole h.behind,
)
