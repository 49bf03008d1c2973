-- Writing tokens of JSON.
use Rattle.std.specs.Prelude.{◌≡◌, List, ◌++◌, Result, OnOk}
use Rattle.json.specs.Token.{Token}
use Rattle.json.specs.Written.{Written}

-- These tokens follow those that a writer had, unless memory ran out. What the bytes began with
-- stays.
pub record Adds {E : Type 0} (r : Result (Unit {0}) E) (old new : Written) (tokens : List Token) : Type 0 where
  pub before : new.before ≡ old.before
  pub ok : OnOk r (new.tokens ≡ old.tokens ++ tokens)
