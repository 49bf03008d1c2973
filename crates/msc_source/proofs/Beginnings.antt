-- The drafts and the faults of what was read are those of the input.
use Rattle.msc_source.specs.declared.reading.TheConstants.{BYTE_LIMIT}
use Rattle.std.proofs.Common.{◌≡◌, ◌⊎◌, ℕ, ◌<◌, min, List, length, take, ◌∙◌, subst, ap, refl, sym, inl, inr, arith}
use Rattle.std.proofs.lemmas.List.{take_all, length-take}
use Rattle.std.proofs.lemmas.Bool.{cases_lt}
use Rattle.msc_lexer.specs.declared.TheConstants.{TEXT_LIMIT}
use Rattle.msc_lexer.specs.declared.fault.LexFault.TheVariants as lexical
use Rattle.msc_parser.specs.declared.fault.ParseFault.{ParseFault}
use Rattle.msc_parser.specs.declared.fault.ParseFault.TheVariants as grammar
use Rattle.msc_parser.specs.Parsing.{HasDraft, HasParseFault}
use Rattle.msc_parser.specs.Grammar.{Tree}
use Rattle.msc_source.specs.declared.language.Language.TheVariants.{MscPr}
use Rattle.msc_source.specs.Inputs.{WhatIsReadTellsTheInput}

-- texts that are both too long have the same fault
long_fault : (xs ys : List ℕ) → TEXT_LIMIT < length xs → TEXT_LIMIT < length ys → (f : ParseFault)
    → HasParseFault xs f → HasParseFault ys f
long_fault xs ys long also grammar.Memory h = h
long_fault xs ys long also (grammar.Lex lexical.TooLong) h = also
long_fault xs ys long also (grammar.Lex (lexical.BadByte at)) h = absurd (omega (arith, long, h.short))
long_fault xs ys long also (grammar.Lex (lexical.OpenNote at)) h = absurd (omega (arith, long, h.short))
long_fault xs ys long also (grammar.Lex (lexical.OpenText at)) h = absurd (omega (arith, long, h.short))
long_fault xs ys long also (grammar.Lex (lexical.LongName at)) h = absurd (omega (arith, long, h.short))
long_fault xs ys long also (grammar.Lex lexical.Memory) h = h
long_fault xs ys long also (grammar.Unsupported at w) h = absurd (omega (arith, long, h.have.short))
long_fault xs ys long also (grammar.Expected at w) h = absurd (omega (arith, long, h.have.short))

-- what was read is the whole input, or both are too long
read_whole : (xs bytes : List ℕ) → xs ≡ take BYTE_LIMIT bytes
    → (xs ≡ bytes) ⊎ ((TEXT_LIMIT < length xs) × (TEXT_LIMIT < length bytes))
read_whole xs bytes front =
    let long : length xs ≡ min BYTE_LIMIT (length bytes) = ap length front ∙ length-take BYTE_LIMIT bytes in
    elim (cases_lt TEXT_LIMIT (length bytes)) [
      | inl more ↦ inr (omega (arith, long, more), more)
      | inr less ↦ inl (front ∙ take_all BYTE_LIMIT bytes (omega (arith, less)))
    ]

-- so a fault of what was read is one of the input
fault_on : (xs bytes : List ℕ) → xs ≡ take BYTE_LIMIT bytes → (f : ParseFault)
    → HasParseFault xs f → HasParseFault bytes f
fault_on xs bytes front f h = elim (read_whole xs bytes front) [
  | inl same ↦ subst (λ (t : List ℕ). HasParseFault t f) same h
  | inr long ↦ long_fault xs bytes long.0 long.1 f h
]

-- and a fault of the input one of what was read
fault_back : (xs bytes : List ℕ) → xs ≡ take BYTE_LIMIT bytes → (f : ParseFault)
    → HasParseFault bytes f → HasParseFault xs f
fault_back xs bytes front f h = elim (read_whole xs bytes front) [
  | inl same ↦ subst (λ (t : List ℕ). HasParseFault t f) (sym same) h
  | inr long ↦ long_fault bytes xs long.1 long.0 f h
]

-- a draft of what was read is one of the input, since no text that is too long has one
draft_on : (xs bytes : List ℕ) → xs ≡ take BYTE_LIMIT bytes → (d : Tree) → HasDraft xs d → HasDraft bytes d
draft_on xs bytes front d (tokens, has, chart) = elim (read_whole xs bytes front) [
  | inl same ↦ subst (λ (t : List ℕ). HasDraft t d) same (tokens, has, chart)
  | inr long ↦ let much = long.0 in absurd (omega (arith, much, has.short))
]

-- and a draft of the input is one of what was read
draft_back : (xs bytes : List ℕ) → xs ≡ take BYTE_LIMIT bytes → (d : Tree) → HasDraft bytes d → HasDraft xs d
draft_back xs bytes front d (tokens, has, chart) = elim (read_whole xs bytes front) [
  | inl same ↦ subst (λ (t : List ℕ). HasDraft t d) (sym same) (tokens, has, chart)
  | inr long ↦ let much = long.1 in absurd (omega (arith, much, has.short))
]

-- so what is read tells the input
pub told : WhatIsReadTellsTheInput
told MscPr bytes = record {
  draft = λ d. (draft_on (take BYTE_LIMIT bytes) bytes refl d, draft_back (take BYTE_LIMIT bytes) bytes refl d);
  fault = λ f. (fault_on (take BYTE_LIMIT bytes) bytes refl f, fault_back (take BYTE_LIMIT bytes) bytes refl f);
}
