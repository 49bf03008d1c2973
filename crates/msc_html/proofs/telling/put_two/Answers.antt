use Rattle.std.proofs.Common.{List, [], ◌∷◌, ◌++◌, codes}
use Rattle.msc_html.proofs.Bytes.{put_behind, told_code, told_pair}
use Rattle.msc_html.specs.declared.part.Part.{Part}
use Rattle.msc_html.specs.Parts.{code, words}
use Rattle.msc_html.specs.Telling.{home, label, other}
use Rattle.msc_html.proofs.telling.put_two.Goals as goal

pub returns : goal.returns
returns c =
    let s = c.args.scene.now in
    let e = c.args.e in
    let f = c.args.f in
    let base = c.args.parts.now.items in
    let p1 = c.put_code.new.parts.items in
    let p2 = c.put_pair.new.parts.items in
    let p3 = c.put_pair-2.new.parts.items in
    let p4 = c.put_pair-3.new.parts.items in
    let p5 = c.put_pair-4.new.parts.items in
    let p6 = c.put_words.new.parts.items in
    let x1 : List Part = code (label s e) ∷ [] in
    let x2 : List Part = words (codes " from ") ∷ code (other s e) ∷ [] in
    let x3 : List Part = words (codes " and ") ∷ code (label s f) ∷ [] in
    let x4 : List Part = words (codes " from ") ∷ code (other s f) ∷ [] in
    let x5 : List Part = words (codes " come to ") ∷ code (home s e) ∷ [] in
    let x6 : List Part = words c.args.way.now ∷ [] in
    let a1 = told_code base p1 c.label.result.now (label s e) c.in_ok-put_code.ensures c.label.ensures in
    let a2 = told_pair p1 p2 (codes " from ") c.other.result.now (other s e) c.in_ok-put_pair.ensures c.other.ensures in
    let a3 = told_pair p2 p3 (codes " and ") c.label-2.result.now (label s f) c.in_ok-put_pair-2.ensures c.label-2.ensures in
    let a4 = told_pair p3 p4 (codes " from ") c.other-2.result.now (other s f) c.in_ok-put_pair-3.ensures c.other-2.ensures in
    let a5 = told_pair p4 p5 (codes " come to ") c.home.result.now (home s e) c.in_ok-put_pair-4.ensures c.home.ensures in
    put_behind base ((((x1 ++ x2) ++ x3) ++ x4) ++ x5) x6 p5 p6
    (put_behind base (((x1 ++ x2) ++ x3) ++ x4) x5 p4 p5
    (put_behind base ((x1 ++ x2) ++ x3) x4 p3 p4
    (put_behind base (x1 ++ x2) x3 p2 p3 (put_behind base x1 x2 p1 p2 a1 a2) a3) a4) a5)
    c.in_ok-put_words.ensures
