-- What a contract sees of documents: the text, the tree, and how it is printed.
use Rattle.std.specs.Prelude.{◌≡◌, Bool, false}
use Rattle.toml_edit_model.specs.Mode.{Mode, plain}
use Rattle.toml_edit_model.specs.Print.{print_in}
use Rattle.toml_edit_model.specs.Text.{Text}
use Rattle.toml_edit_model.specs.Tree.{Tree}
use Rattle.toml_edit_repr.specs.Modes.{mode_of}
use Rattle.toml_edit.specs.declared.document.Document.{Document}
use Rattle.toml_edit.specs.declared.document.DocumentMut.{DocumentMut}
use Rattle.toml_edit.specs.declared.document.SourceText.{Ghosts}
use Rattle.toml_edit.specs.Roots.{tree_under}

-- the text that was read
abbrev pub source : {S : Type 0} {text : Ghosts S} → Document S text → Text
source {S} {text} x = text.content x.raw

-- the tree of a document that was read, whose texts may be spans of the source
abbrev pub tree_read : {S : Type 0} {text : Ghosts S} → Document S text → Tree
tree_read x = tree_under x.root x.trailing

-- the tree of a document that owns its texts
abbrev pub tree_owned : DocumentMut → Tree
tree_owned x = tree_under x.root x.trailing

-- ---- line endings

-- whether they are kept where it is printed
abbrev pub mode_read : {S : Type 0} {text : Ghosts S} → Document S text → Mode
mode_read x = mode_of x.mode

abbrev pub mode_owned : DocumentMut → Mode
mode_owned x = mode_of x.mode

-- whether its end is to be open: its last statement without a newline
abbrev pub open_read : {S : Type 0} {text : Ghosts S} → Document S text → Bool
open_read x = x.open_end

abbrev pub open_owned : DocumentMut → Bool
open_owned x = x.open_end

-- a document that was read keeps no line endings
abbrev pub IsPlainRead : {S : Type 0} {text : Ghosts S} → Document S text → Type 0
IsPlainRead x = (mode_read x ≡ plain) × (open_read x ≡ false)

-- one that owns its texts keeps none
abbrev pub IsPlain : DocumentMut → Type 0
IsPlain x = (mode_owned x ≡ plain) × (open_owned x ≡ false)

-- the first is printed in the mode of the second, and with its end as that is
abbrev pub IsPrintedAs : DocumentMut → DocumentMut → Type 0
IsPrintedAs x y = (mode_owned x ≡ mode_owned y) × (open_owned x ≡ open_owned y)

-- ---- the print

abbrev pub print_of : DocumentMut → Text
print_of x = print_in (mode_owned x) (open_owned x) (tree_owned x)
