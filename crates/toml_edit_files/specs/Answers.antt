-- What commands write of a document.
use Rattle.std.specs.Prelude.{◌≡◌, ◌↔◌, ◌++◌, Any, Bool, true, IsTrue, List, [], Option, Some, None}
use Rattle.std.specs.Option.{option_copied}
use Rattle.toml_edit_model.specs.Keys.{names}
use Rattle.toml_edit_model.specs.Text.{Text, newline}
use Rattle.toml_edit_model.specs.Tree.{Node, Tree}
use Rattle.toml_edit_edit_laws.specs.Commands.{item_at}
use Rattle.toml_edit_files.specs.declared.stop.Reason.{Reason}
use Rattle.toml_edit_files.specs.declared.stop.Reason.TheVariants.{No}
use Rattle.toml_edit_files.specs.declared.words.Question.{Question}
use Rattle.toml_edit_files.specs.declared.words.Question.TheVariants.{Get, Has, Keys, Json}
use Rattle.toml_edit_files.specs.Get.{AreGot, HasAt, IsListedAt, IsNotGot, IsNotListed, found_at}
use Rattle.toml_edit_json.specs.Values.{json_text}

-- the item at the path as JSON, and a newline
abbrev pub IsJsonAt : List Text → Tree → Text → Type 0
IsJsonAt path t s = (n : Node) × (item_at path t ≡ Some n) × (s ≡ json_text n ++ newline)

-- there is none, where memory has not run out
abbrev pub IsNoJson : Option Reason → Option Node → Type 0
IsNoJson None o = Unit {0}
IsNoJson (Some No) o = o ≡ None
IsNoJson (Some _) o = ⊥

-- ---- questions

abbrev pub file_of : Question → Text
file_of (Get c) = c.file.now
file_of (Has c) = c.file.now
file_of (Keys c) = c.file.now
file_of (Json c) = c.file.now

-- the answer to a question about a tree: whether it is yes, and what is written
abbrev pub IsAnswer : Question → Tree → Bool → Text → Type 0
IsAnswer (Get c) t is_yes s =
    (is_yes ≡ true) × AreGot c.shape (option_copied c.default) (found_at t c.paths.items) s
IsAnswer (Has c) t is_yes s =
    (IsTrue is_yes ↔ HasAt c.kind (item_at (names c.path.items) t)) × (s ≡ [])
IsAnswer (Keys c) t is_yes s = (is_yes ≡ true) × IsListedAt c.all c.path.items t s
IsAnswer (Json c) t is_yes s = (is_yes ≡ true) × IsJsonAt (names c.path.items) t s

-- why there is none, where memory has not run out
abbrev pub HasNoAnswer : Question → Tree → Option Reason → Type 0
HasNoAnswer (Get c) t why =
    Any (IsNotGot c.shape (option_copied c.default) why) (found_at t c.paths.items)
HasNoAnswer (Has c) t why = ⊥
HasNoAnswer (Keys c) t why = IsNotListed c.all why (item_at (names c.path.items) t)
HasNoAnswer (Json c) t why = IsNoJson why (item_at (names c.path.items) t)
