-- Which keys of `[tool.poetry]` are moved to `[project]`.
use Rattle.std.specs.Prelude.{◌≡◌, is_none, is_some, List, [], ◌∷◌, ◌++◌, Option, None, Some, Vec, codes, option_to_list}
use Rattle.std.specs.declared.alloc.Global.{Global}
use Rattle.toml_edit.specs.model.Keys.{names, new_key}
use Rattle.toml_edit.specs.model.Text.{Text}
use Rattle.toml_edit.specs.model.Tree.{Key, Tree}
use Rattle.toml_edit.specs.edits.Commands.{item_at}
use Rattle.toml_edit.specs.Documents.{IsOwnedReading}
use Rattle.toml_edit_edits.specs.declared.edit.Edit.{Edit}
use Rattle.toml_edit_edits.specs.declared.edit.Edit.TheVariants.{Move, Section}

abbrev pub in_poetry : Text → List Key
in_poetry k = new_key (codes "tool") ∷ new_key (codes "poetry") ∷ new_key k ∷ []

abbrev pub in_project : Text → List Key
in_project k = new_key (codes "project") ∷ new_key k ∷ []

abbrev pub project : List Key
project = new_key (codes "project") ∷ []

-- the table is added, and is not there; or is there
abbrev pub IsSection : Option Edit → Type 0
IsSection None = Unit {0}
IsSection (Some e) = (path : Vec Key Global) × (path.items ≡ project) × (e ≡ Section path)

abbrev pub MakesProject : Tree → Option Edit → Type 0
MakesProject t o = IsSection o × (is_none o ≡ is_some (item_at (names project) t))

-- the key is moved, and is there; or is not there
abbrev pub IsMove : Text → Option Edit → Type 0
IsMove k None = Unit {0}
IsMove k (Some e) =
    (from : Vec Key Global) × (to : Vec Key Global) × (from.items ≡ in_poetry k)
    × (to.items ≡ in_project k) × (e ≡ Move from to)

abbrev pub MovesKey : Text → Tree → Option Edit → Type 0
MovesKey k t o = IsMove k o × (is_some o ≡ is_some (item_at (names (in_poetry k)) t))

-- so are three keys, one after another
abbrev pub MovesAll : Tree → List Edit → Type 0
MovesAll t es =
    (s : Option Edit) × (a : Option Edit) × (b : Option Edit) × (c : Option Edit)
    × MakesProject t s × MovesKey (codes "name") t a × MovesKey (codes "version") t b
    × MovesKey (codes "description") t c
    × (es ≡ ((option_to_list s ++ option_to_list a) ++ option_to_list b) ++ option_to_list c)

abbrev pub MovesToProject : Text → List Edit → Type 0
MovesToProject text es = (tree : Tree) × IsOwnedReading text tree × MovesAll tree es
