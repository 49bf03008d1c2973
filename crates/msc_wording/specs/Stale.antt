-- Marks that accept no race, in words.
use Rattle.std.specs.Prelude.{ℕ, Bool, cond, List, codes}

abbrev pub stale_sentence : Bool → List ℕ
stale_sentence has_arrow = cond has_arrow (codes "this mark accepts no race") (codes "this mark has no arrow below it")
