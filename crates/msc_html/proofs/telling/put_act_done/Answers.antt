use Rattle.std.proofs.Common.{◌≡◌, ℕ, List, [], ◌∷◌, ◌++◌, codes, sym, subst}
use Rattle.msc_html.proofs.Bytes.{put_behind, told_pair}
use Rattle.msc_html.specs.declared.part.Part.{Part}
use Rattle.msc_html.specs.Parts.{code, words}
use Rattle.msc_html.specs.Telling.{act_done, label_at, sender_at, taker_at}
use Rattle.msc_picture.specs.declared.scene.Act.{Act}
use Rattle.msc_html.proofs.telling.put_act_done.Goals as goal

pub returns-in_ok-put_pair-in-Sends-2 : goal.returns-in_ok-put_pair-in-Sends-2
returns-in_ok-put_pair-in-Sends-2 c =
    let s = c.args.scene.now in
    let m : ℕ = c.in-Sends.m in
    let base = c.args.parts.now.items in
    let p = c.put_code.new.parts.items in
    let q = c.put_pair.new.parts.items in
    let next = c.put_pair-in-Sends.new.parts.items in
    let home : List Part = code c.args.name.now ∷ [] in
    let sent : List Part = words (codes " has sent ") ∷ code (label_at s m) ∷ [] in
    let to : List Part = words (codes " to ") ∷ code (taker_at s m) ∷ [] in
    let all = put_behind base (home ++ sent) to q next
    (put_behind base home sent p q c.in_ok-put_code.ensures
    (told_pair p q (codes " has sent ") c.label_at.result.now (label_at s m) c.in_ok-put_pair-in-Sends.ensures
    c.label_at.ensures))
    (told_pair q next (codes " to ") c.taker_at.result.now (taker_at s m) c.in_ok-put_pair-in-Sends-2.ensures
    c.taker_at.ensures) in
    subst (λ (act : Act). next ≡ base ++ act_done s c.args.name.now act) (sym c.in-Sends.is) all

pub returns-in_ok-put_pair-in-Takes-2 : goal.returns-in_ok-put_pair-in-Takes-2
returns-in_ok-put_pair-in-Takes-2 c =
    let s = c.args.scene.now in
    let m : ℕ = c.in-Takes.m in
    let base = c.args.parts.now.items in
    let p = c.put_code.new.parts.items in
    let q = c.put_pair-in-Takes.new.parts.items in
    let next = c.put_pair-in-Takes-2.new.parts.items in
    let home : List Part = code c.args.name.now ∷ [] in
    let taken : List Part = words (codes " has taken ") ∷ code (label_at s m) ∷ [] in
    let from : List Part = words (codes " from ") ∷ code (sender_at s m) ∷ [] in
    let all = put_behind base (home ++ taken) from q next
    (put_behind base home taken p q c.in_ok-put_code.ensures
    (told_pair p q (codes " has taken ") c.label_at-in-Takes.result.now (label_at s m)
    c.in_ok-put_pair-in-Takes.ensures c.label_at-in-Takes.ensures))
    (told_pair q next (codes " from ") c.sender_at.result.now (sender_at s m)
    c.in_ok-put_pair-in-Takes-2.ensures c.sender_at.ensures) in
    subst (λ (act : Act). next ≡ base ++ act_done s c.args.name.now act) (sym c.in-Takes.is) all
