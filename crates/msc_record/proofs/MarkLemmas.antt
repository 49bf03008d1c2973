-- Marks with numbers, and the events of a run.
use Rattle.std.proofs.Common.{◌≡◌, ℕ, ◌-◌, ◌<◌, List, [], ◌∷◌, length, take, drop, map, sym, ap, arith}
use Rattle.std.proofs.lemmas.List.{take_all}
use Rattle.std.specs.List.{enumerate_from, flat_map}
use Rattle.json.specs.Token.{Token}
use Rattle.json.specs.Tree.{json_tokens}
use Rattle.msc_record.specs.declared.flow.Step.{Step}
use Rattle.msc_record.specs.declared.result.Mark.{Mark}
use Rattle.msc_record.specs.Members.{array_of, member_if_any}
use Rattle.msc_record.specs.Results.{numbered_marks, related_json, step_json}
use Rattle.msc_record.specs.SarifLent.{plain_mark, plain_step}

-- the tokens of marks with numbers from this one on
abbrev pub numbered_tokens : List ℕ → ℕ → List Mark → List Token
numbered_tokens uri first marks =
    flat_map (λ p. json_tokens (related_json uri p)) (enumerate_from first (map plain_mark marks))

-- those of events
abbrev pub steps_tokens : List ℕ → List Step → List Token
steps_tokens uri steps = flat_map (λ s. json_tokens (step_json uri (plain_step s))) steps

-- marks after the first one are a member
pub related_member : (uri name : List ℕ) (ms : List Mark) → 1 < length ms
    → member_if_any (related_json uri) name (numbered_marks (map plain_mark ms))
    ≡ (name, array_of (map (related_json uri) (enumerate_from 0 (map plain_mark (take (length ms - 1) (drop 1 ms)))))) ∷ []
related_member uri name [] many = absurd (omega arith)
related_member uri name (m ∷ []) many = absurd (omega arith)
related_member uri name (m ∷ n ∷ ns) many =
    ap (λ l. (name, array_of (map (related_json uri) (enumerate_from 0 (map plain_mark l)))) ∷ [])
    (sym (take_all (length (m ∷ n ∷ ns) - 1) (n ∷ ns) (omega arith)))
