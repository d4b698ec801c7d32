-- What `get`, `has` and `keys` say of the items at paths.
use Rattle.std.specs.Prelude.{◌≡◌, Bool, true, false, List, [], ◌∷◌, ◌++◌, Option, Some, None, map, Vec}
use Rattle.std.specs.declared.alloc.Global.{Global}
use Rattle.toml_edit_model.specs.Keys.{names}
use Rattle.toml_edit_model.specs.Text.{Text, newline}
use Rattle.toml_edit_model.specs.Tree.{Key, Node, Tree}
use Rattle.toml_edit_edit_laws.specs.Commands.{item_at}
use Rattle.toml_edit_items.specs.Below.{path_lines, paths_at, table_keys}
use Rattle.toml_edit_items.specs.Kinds.{kind_in}
use Rattle.toml_edit_items.specs.Shapes.{HasNoShape, IsShaped}
use Rattle.toml_edit_items.specs.declared.kind.Kind.{Kind}
use Rattle.toml_edit_items.specs.declared.shape.Shape.{Shape}
use Rattle.toml_edit_files.specs.declared.stop.Reason.{Reason}
use Rattle.toml_edit_files.specs.declared.stop.Reason.TheVariants.{No, Mistaken}

-- ---- get

-- the item that is found, or else the default
abbrev pub IsGot : Shape → Option Text → Option Node → Text → Type 0
IsGot shape default (Some n) s = IsShaped shape n s
IsGot shape (Some d) None s = s ≡ d ++ newline
IsGot shape None None s = ⊥

abbrev pub found_at : Tree → List (Vec Key Global) → List (Option Node)
found_at t paths = map (λ path. item_at (names path.items) t) paths

-- one after another
abbrev pub AreGot : Shape → Option Text → List (Option Node) → Text → Type 0
AreGot shape default [] s = s ≡ []
AreGot shape default (o ∷ os) s =
    (t : Text) × (rest : Text) × IsGot shape default o t × AreGot shape default os rest
    × (s ≡ t ++ rest)

-- Why there is no text, where memory has not run out: the answer is no where nothing is found and
-- there is no default, and a mistake is what has no such text.
abbrev pub IsNotGot : Shape → Option Text → Option Reason → Option Node → Type 0
IsNotGot shape default None o = Unit {0}
IsNotGot shape default (Some No) o = (o ≡ None) × (default ≡ None)
IsNotGot shape default (Some Mistaken) o = (n : Node) × (o ≡ Some n) × HasNoShape shape n
IsNotGot shape default (Some _) o = ⊥

-- ---- has

-- something is there, and of the kind, if one is asked for
abbrev pub HasAt : Option Kind → Option Node → Type 0
HasAt kind None = ⊥
HasAt None (Some n) = Unit {0}
HasAt (Some kind) (Some n) = kind_in n ≡ Some kind

-- ---- keys

-- the keys of a table, or all paths below any item
abbrev pub IsListed : Bool → List Key → Node → Text → Type 0
IsListed false path n s = table_keys n ≡ Some s
IsListed true path n s = s ≡ path_lines (paths_at path n)

abbrev pub IsListedAt : Bool → List Key → Tree → Text → Type 0
IsListedAt all path t s =
    (n : Node) × (item_at (names path) t ≡ Some n) × IsListed all path n s

-- why there is no text, where memory has not run out
abbrev pub IsNotListed : Bool → Option Reason → Option Node → Type 0
IsNotListed all None o = Unit {0}
IsNotListed all (Some No) o = o ≡ None
IsNotListed all (Some Mistaken) o =
    (n : Node) × (o ≡ Some n) × (table_keys n ≡ None) × (all ≡ false)
IsNotListed all (Some _) o = ⊥
