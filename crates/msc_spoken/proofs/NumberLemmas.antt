-- The numbers of entities.
use Rattle.std.proofs.Common.{◌≡◌, ◌<◌, ◌≤◌, ◌^◌, ℕ, true, List, length, Ok, Some, sym, arith}
use Rattle.std.proofs.lemmas.Bool.{cond-true}
use Rattle.std.proofs.lemmas.Bool.Decides.{nat_tests}
use Rattle.std.proofs.lemmas.Fmt.{IsAscii-from_digits}
use Rattle.std.proofs.lemmas.Str.{IsUtf8-from_ascii}
use Rattle.std.proofs.lemmas.Str.Parse.{IsNumeralModel, digits_value_short, numerals_by_value, parse_gives, tells_all_ascii_digits}
use Rattle.std.specs.Prelude.{IsUtf8, Result}
use Rattle.std.specs.Str.{all_ascii_digits}
use Rattle.std.specs.Str.Parse.{digits_value, ParsesUnsigned}
use Rattle.msc_spoken.specs.Entities.{is_number, number_of}

decimals : IsNumeralModel (λ ds. all_ascii_digits ds ≡ true) (digits_value 10)
decimals = numerals_by_value (λ ds. all_ascii_digits ds ≡ true) tells_all_ascii_digits

module _ (word : List ℕ) (is : true ≡ is_number word) where
  some_digit : 0 < length word
  some_digit = grind (arith, nat_tests, is)

  few_digits : length word ≤ 7
  few_digits = grind (arith, nat_tests, is)

  all_digits : all_ascii_digits word ≡ true
  all_digits = grind (arith, nat_tests, is)

  -- a number is UTF-8
  pub number_utf8 : IsUtf8 word
  number_utf8 = IsUtf8-from_ascii word (IsAscii-from_digits word (decimals.to word all_digits))

  -- a number is read as its value
  pub number_read : {E : Type 0} (r : Result ℕ E) → ParsesUnsigned 32 10 word r → r ≡ Ok (digits_value 10 word)
  number_read r parses =
      let short : digits_value 10 word < 10 ^ 7 = digits_value_short decimals word 7 all_digits few_digits in
      parse_gives decimals 32 word r parses all_digits some_digit (omega (arith, short))

  pub number_is : number_of word ≡ Some (digits_value 10 word)
  number_is = cond-true _ _ _ (sym is)
