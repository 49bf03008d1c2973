use Rattle.std.proofs.Common.{[], ◌∷◌, codes}
use Rattle.msc_html.proofs.Blocks.{put_block}
use Rattle.msc_html.specs.Front.{meta, named_meta}
use Rattle.msc_svg.proofs.Chains.{as_lines, line_then}
use Rattle.msc_svg.proofs.Ranges.{lines_behind}
use Rattle.msc_tree.specs.Shapes.{plain, valued}
use Rattle.msc_tree.specs.Trees.{Node}
use Rattle.std.proofs.Common.{List}
use Rattle.msc_html.proofs.front.put_head_with.Goals as goal

pub returns : goal.returns
returns c =
    let p = c.extend_from_slice.new.self.items in
    let r = c.extend_from_slice-2.new.self.items in
    let t = c.put_plain.new.page.items in
    let q = c.put_plain-2.new.page.items in
    let charset : Node = meta (valued (codes "charset") (codes "utf-8") ∷ []) in
    let metas : List Node = named_meta (codes "viewport") (codes "width=device-width,initial-scale=1")
    ∷ named_meta (codes "color-scheme") (codes "light dark") ∷ [] in
    let title : Node = plain (codes "title") c.args.title.now in
    let styles : Node = plain (codes "style") c.args.sheet.now in
    put_block c.args.page.now.items p q c.extend_from_slice-3.new.self.items (codes "head") [] charset
    (named_meta (codes "viewport") (codes "width=device-width,initial-scale=1")
    ∷ named_meta (codes "color-scheme") (codes "light dark") ∷ title ∷ styles ∷ [])
    c.in_ok-extend_from_slice.ensures.items
    (lines_behind p r q (charset ∷ metas) (title ∷ styles ∷ []) c.in_ok-extend_from_slice-2.ensures.items
    (line_then r t q title (styles ∷ []) c.in_ok-put_plain.ensures
    (as_lines t q styles c.in_ok-put_plain-2.ensures)))
    c.in_ok-extend_from_slice-3.ensures.items
