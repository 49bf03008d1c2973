-- A picture with an instance has an element.
use Rattle.std.proofs.Common.{◌≡◌, ◌<◌, ℕ, zero, suc, List, [], ◌∷◌, ◌++◌, length, map, refl, arith}
use Rattle.std.specs.List.{flat_map, range_with_len}
use Rattle.msc_picture.specs.declared.scene.Scene.{Scene}
use Rattle.msc_svg.specs.declared.layout.Layout.{Layout}
use Rattle.msc_svg.specs.Elements.{arrow_node, instance_nodes, bar_nodes, picture_nodes, upper_nodes}
use Rattle.msc_html.specs.Reports.{main_nodes, Report}
use Rattle.msc_tree.specs.Trees.{Node}

-- a list with a first item
pub record HasFirst (nodes : List Node) : Type 0 where
  pub first : Node
  pub others : List Node
  pub are : nodes ≡ first ∷ others

-- the elements, by the number of instances
by_number : Scene → Layout → ℕ → List Node
by_number s l n =
    (((flat_map (instance_nodes s l) (range_with_len 0 n) ++ flat_map (bar_nodes s l) s.bars)
    ++ map (arrow_node s l) s.arrows) ++ upper_nodes s l)

-- what stands behind the first item
rest_of : List Node → List Node
rest_of [] = []
rest_of (x ∷ xs) = xs

-- what is joined to a list with a first item has one
joined : (xs ys : List Node) → HasFirst xs → HasFirst (xs ++ ys)
joined [] ys h = let f : ⊥ = let e = h.are in cc in absurd f
joined (x ∷ xs) ys h = record { first = x; others = xs ++ ys; are = refl }

-- an instance has an element
instance_first : (s : Scene) (l : Layout) (i : ℕ) → HasFirst (instance_nodes s l i)
instance_first s l i = record { first = _; others = _; are = refl }

-- so have the instances, where there is one
instances_first : (s : Scene) (l : Layout) (n : ℕ) → 0 < n
    → HasFirst (flat_map (instance_nodes s l) (range_with_len 0 n))
instances_first s l zero some = absurd (omega (arith, some))
instances_first s l (suc n) some =
    joined (instance_nodes s l 0) (flat_map (instance_nodes s l) (range_with_len 1 n)) (instance_first s l 0)

-- and the picture
pub picture_first : (s : Scene) (l : Layout) → 0 < length s.heads → HasFirst (picture_nodes s l [])
picture_first s l some =
    let instances = flat_map (instance_nodes s l) (range_with_len 0 (length s.heads)) in
    let bars = flat_map (bar_nodes s l) s.bars in
    let arrows = map (arrow_node s l) s.arrows in
    joined ((instances ++ bars) ++ arrows) (upper_nodes s l) (joined (instances ++ bars) arrows
    (joined instances bars (instances_first s l (length s.heads) some)))

-- what a page tells has a first element, its title
pub main_first : (r : Report) → HasFirst (main_nodes r)
main_first r = record { first = _; others = _; are = refl }
