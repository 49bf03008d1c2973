-- Which signs stand in a row, as the code keeps it for all rows.
use Rattle.std.specs.Prelude.{◌≡◌, ℕ, ◌<◌, Bool, ◌&&◌, List, [], Option, None, Some, Vec, fold, get_or, map, nat_eq, slice_set}
use Rattle.std.specs.Global.{Global}
use Rattle.std.specs.List.{list_any}
use Rattle.msc_picture.specs.declared.columns.Columns.{Columns}
use Rattle.msc_picture.specs.declared.scene.Band.{Band}
use Rattle.msc_picture.specs.declared.scene.RaceBar.{RaceBar}
use Rattle.msc_picture.specs.declared.scene.Row.{Row}
use Rattle.msc_picture.specs.Columns.{column}
use Rattle.msc_picture.specs.Texts.{in_band, is_marked, with_band, with_bar}

-- the instances at place e of signs; past the last place there are none
abbrev pub instances_at : List (Vec ℕ Global) → ℕ → List ℕ
instances_at signs e = get_or (map (λ (l : Vec ℕ Global). l.items) signs) e []

-- instance i stands at place e
abbrev pub has_at : List (Vec ℕ Global) → ℕ → ℕ → Bool
has_at signs e i = list_any (nat_eq i) (instances_at signs e)

-- a bar of instance i names event e
abbrev pub is_named : List RaceBar → ℕ → ℕ → Bool
is_named bars e i = list_any (λ m. is_marked m e && nat_eq i m.instance) bars

-- at the place of each event stand the instances of the bars that name it
abbrev pub AreBarsIn : List RaceBar → List (Vec ℕ Global) → Type 0
AreBarsIn bars signs = (e i : ℕ) → has_at signs e i ≡ is_named bars e i

-- the instances at the place of a second event of a row
abbrev pub second_at : List (Vec ℕ Global) → Option ℕ → List ℕ
second_at signs None = []
second_at signs (Some e) = instances_at signs e

-- a line with a sign over it, on the axis of instance i
abbrev pub with_sign : Columns → ℕ → List ℕ → ℕ → List ℕ
with_sign c sign line i = slice_set line (column c i) sign

-- the bars of a row were put over a line, whatever bars have these signs
abbrev pub PutsBars : Columns → Row → List (Vec ℕ Global) → List ℕ → List ℕ → Type 0
PutsBars c row signs old new =
    (bars : List RaceBar) → AreBarsIn bars signs → new ≡ fold (with_bar c row) old bars

-- at the place of each of so many rows stand the instances of the bands over it
abbrev pub AreBandsIn : List Band → ℕ → List (Vec ℕ Global) → Type 0
AreBandsIn bands many signs =
    (r i : ℕ) → r < many
    → has_at signs r i ≡ list_any (λ band. in_band r band && nat_eq i band.instance) bands

-- the bands over row r were put over a line, whatever bands have these signs
abbrev pub PutsBands : Columns → ℕ → List (Vec ℕ Global) → List ℕ → List ℕ → Type 0
PutsBands c r signs old new =
    (bands : List Band) (many : ℕ) → AreBandsIn bands many signs → r < many
    → new ≡ fold (with_band c r) old bands
