-- What a command writes of a document.
use Rattle.std.specs.Prelude.{◌≡◌, Bool}
use Rattle.toml_edit_model.specs.Text.{Text}
use Rattle.toml_edit_model.specs.Mode.{Mode}
use Rattle.toml_edit_model.specs.Version.{Version}
use Rattle.toml_edit_model.specs.Accepted.{AcceptedIn}
use Rattle.toml_edit_model.specs.Syntax.{Document}
use Rattle.toml_edit_model.specs.Normal.{normal_in, normal_text_in}
use Rattle.toml_edit_model.specs.Fits.{FitsIn}
use Rattle.toml_edit_model.specs.Print.{print_in}
use Rattle.toml_edit_model.specs.Tree.{Tree}
use Rattle.toml_edit_edit_laws.specs.Commands.{Refusal, done, refused, get_text, remove_at}
use Rattle.toml_edit_edit_laws.specs.CommandLaws.{IsRead}
use Rattle.toml_edit.specs.DocumentView.{mode_owned, open_owned, tree_owned}
use Rattle.toml_edit.specs.Documents.{HasNormalText, MeansWhatIsShown, opens}
use Rattle.toml_edit.specs.declared.document.DocumentMut.{DocumentMut}
use Rattle.toml_edit_command.specs.Words.{Action, printing, getting, setting, removing}
use Rattle.toml_edit_command.specs.Edits.{Sets, Removes, set_names}

module _ (mode : Mode) where
  -- The version accepts the bytes with this cut, and their normal text too, and this is the tree of
  -- the cut, which owns its texts.
  pub record IsReadAs (version : Version) (bytes : Text) (d : Document) (t : Tree) : Type 0 where
    pub accepted : AcceptedIn version bytes d
    pub stays : AcceptedIn version (normal_text_in mode d) (normal_in mode d)
    pub normal : HasNormalText mode bytes d
    pub read : IsRead mode d t

  -- so it is by some cut
  abbrev pub IsReadOf : Version → Text → Tree → Type 0
  IsReadOf version bytes t = (d : Document) × IsReadAs version bytes d t

  -- The tree fits, and this is its print, its end open where that is asked for, which is accepted
  -- and means what the tree shows.
  pub record IsPrintOf (is_open : Bool) (u : Tree) (x : Text) : Type 0 where
    pub fits : FitsIn mode u
    pub back : ∥ MeansWhatIsShown mode is_open u ∥₁
    pub text : x ≡ print_in mode is_open u

  -- Of a document and its tree `print` writes the normal text, `get` the text of the item at the
  -- path, and `set` and `remove` the print of the tree that is changed there, its end open where
  -- that of the document is (in the plain mode it is closed).
  abbrev pub Writes : Action → Document → Tree → Text → Type 0
  Writes printing d t x = x ≡ normal_text_in mode d
  Writes (getting names) d t x = get_text names t ≡ done x
  Writes (setting names n) d t x =
      (u : Tree) × Sets mode d t u names n × IsPrintOf (opens mode d) u x
  Writes (removing names) d t x =
      (u : Tree) × Removes mode d t u names × IsPrintOf (opens mode d) u x

-- ---- by the tree alone

-- the tree after the action, where it changes one
abbrev pub Changes : Action → Tree → Tree → Type 0
Changes printing t u = ⊥
Changes (getting names) t u = ⊥
Changes (setting names n) t u = set_names names n t ≡ done u
Changes (removing names) t u = remove_at names t ≡ done u

-- there is nothing to be done at the path
abbrev pub Refuses : Action → Tree → Refusal → Type 0
Refuses printing t r = ⊥
Refuses (getting names) t r = get_text names t ≡ refused r
Refuses (setting names n) t r = set_names names n t ≡ refused r
Refuses (removing names) t r = remove_at names t ≡ refused r

-- ---- by what is held of it

-- what is held of a document that was read: its tree, the mode that it is printed in, and whether
-- its end is to be open
pub record Held : Type 0 where
  pub tree : Tree
  pub mode : Mode
  pub is_open : Bool

abbrev pub held : DocumentMut → Held
held m = record { tree = tree_owned m; mode = mode_owned m; is_open = open_owned m }

-- it is held of what was read in this mode
pub record IsHeldAs (mode : Mode) (version : Version) (bytes : Text) (d : Document)
    (h : Held) : Type 0 where
  pub read : IsReadAs mode version bytes d h.tree
  pub same_mode : h.mode ≡ mode
  pub open_end : h.is_open ≡ opens mode d

abbrev pub IsHeldOf : Mode → Version → Text → Held → Type 0
IsHeldOf mode version bytes h = (d : Document) × IsHeldAs mode version bytes d h

-- the print of this tree in place of its own
abbrev pub IsPrintFor : Held → Tree → Text → Type 0
IsPrintFor h u x = IsPrintOf h.mode h.is_open u x

-- what is written of it, whatever document it is of
abbrev pub Makes : Action → Held → Text → Type 0
Makes printing h x = x ≡ print_in h.mode h.is_open h.tree
Makes (getting names) h x = get_text names h.tree ≡ done x
Makes (setting names n) h x = (u : Tree) × (set_names names n h.tree ≡ done u) × IsPrintFor h u x
Makes (removing names) h x = (u : Tree) × (remove_at names h.tree ≡ done u) × IsPrintFor h u x
