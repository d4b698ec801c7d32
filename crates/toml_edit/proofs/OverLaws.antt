-- What parsing gives is a tree over its text, and a reading of it.
use Rattle.std.proofs.Common.{◌≡◌, refl, sym, ap, subst, ◌∙◌}
use Rattle.std.specs.Prelude.{Bool, ◌&&◌}
use Rattle.std.specs.Str.{IsUtf8}
use Rattle.toml_edit_model.specs.Mode.{Mode, is_exact}
use Rattle.toml_edit_model.specs.Text.{Text}
use Rattle.toml_edit_model.specs.Tree.{Raw, Slots, Tree}
use Rattle.toml_edit_model.specs.TreeOf.{spanned_in, root_fields, IsTreeOf}
use Rattle.toml_edit_model.specs.OwnedForm.{IsOver, owned_tree}
use Rattle.toml_edit_laws.proofs.read_trees.MeaningOfTrees.{trees_mean}
use Rattle.toml_edit_laws.proofs.read_trees.ReadLaws.{owned_trees, trees_over, spans_cut_spellings}
use Rattle.toml_edit_laws.proofs.read_trees.TreeMade.{tree-made}
use Rattle.toml_edit_tree.specs.declared.item.Item.TheVariants as items
use Rattle.toml_edit_tree.specs.declared.table.Table.{Table}
use Rattle.toml_edit.specs.Roots.{tree_under}
use Rattle.toml_edit.proofs.RootLaws.{tree-under}
use Rattle.toml_edit_tree.specs.View.{table_slots, fields_view, tree_view}
use Rattle.toml_edit_parser.specs.DocumentRead.{IsParsedWith}
use Rattle.toml_edit_parser.specs.StatementRead.{tree_of}
use Rattle.toml_edit_model.specs.Version.{Version}
use Rattle.toml_edit_model.specs.Syntax.{Document, IsCut}
use Rattle.toml_edit_model.specs.Accepted.{AcceptedAs, AcceptedIn, is_accepted_in}
use Rattle.toml_edit_laws.proofs.versions.Accepting.{later-accepts}
use Rattle.toml_edit.specs.Documents.{IsReadingIn, IsReadingWith}

-- ---- what was parsed

-- The text has one cut, by which it is accepted, and these slots and this trailing text are the tree of it, read in this mode.
pub record IsParsedAs (mode : Mode) (t : Text) (slots : Slots) (trailing : Raw) : Type 0 where
  pub document : Document
  pub accepted : AcceptedAs t document
  pub only : (other : Document) → IsCut other t → other ≡ document
  pub tree : IsTreeOf (spanned_in mode) document (tree_of slots trailing)

-- what a version accepts is parsed as in TOML 1.1
abbrev pub parsed-later : (mode : Mode) (version : Version) (t : Text) (slots : Slots) (trailing : Raw) (is_open : Bool)
    → IsParsedWith mode version t slots trailing is_open → IsParsedAs mode t slots trailing
parsed-later mode version t slots trailing is_open h =
    record { document = h.document; accepted = later-accepts version t h.document h.accepted; only = h.only; tree = h.tree }

-- ---- a root that holds these slots

-- the tree of the root that holds what was parsed
root-tree : (mode : Mode) (root : Table) (slots : Slots) (trailing : Raw) → fields_view root ≡ root_fields (spanned_in mode)
    → table_slots root ≡ slots
    → tree_of slots trailing ≡ tree_under (items.Table root) trailing
root-tree mode root slots trailing fields same =
    sym
    (tree-under (items.Table root) root trailing refl ∙ ap (λ f. record (tree_view root trailing) { root = f }) fields
    ∙ ap (λ ss. tree_of ss trailing) same)

-- what was parsed, of a text that is this one
module _ (mode : Mode) (t u : Text) (root : Table) (slots : Slots) (trailing : Raw) (same : u
    ≡ t) (utf8 : IsUtf8 u) (h : IsParsedAs mode u slots trailing)
    (fields : fields_view root ≡ root_fields (spanned_in mode)) (held : table_slots root ≡ slots) where
  pub is-text : IsUtf8 t
  is-text = subst IsUtf8 same utf8

  pub is-accepted : AcceptedAs t h.document
  is-accepted = subst (λ v. AcceptedAs v h.document) same h.accepted

  pub is-tree : IsTreeOf (spanned_in mode) h.document (tree_under (items.Table root) trailing)
  is-tree = subst (IsTreeOf (spanned_in mode) h.document) (root-tree mode root slots trailing fields held) h.tree

  -- The root's tree is over the text: its spans cut texts from it, and the spellings so cut are true.
  pub root-over : IsOver t (tree_under (items.Table root) trailing)
  root-over = trees_over mode t h.document is-text is-accepted (tree_under (items.Table root) trailing) is-tree

  -- It is the text's one reading.
  abbrev pub root-reading : IsReadingWith mode t (tree_under (items.Table root) trailing)
  root-reading =
      let x = tree_under (items.Table root) trailing in
      let own = owned_trees mode t h.document is-accepted.0 x is-tree in
      record {
        document = h.document;
        accepted = is-accepted;
        only = λ other cut. h.only other (subst (IsCut other) (sym same) cut);
        tree = is-tree;
        owned = own;
        made = tree-made mode h.document (owned_tree t x) is-accepted.0.0 is-accepted.1 own;
        spellings = spans_cut_spellings mode t h.document is-text is-accepted x is-tree;
        meaning = trees_mean h.document is-accepted.0.0 is-accepted.1 (spanned_in mode) x is-tree;
      }

-- ---- in a version of the grammar

-- the version accepts a text that is this one, by each cut that it has
accepted-in : (mode : Mode) (version : Version) (t u : Text) (slots : Slots) (trailing : Raw) (is_open : Bool) → u ≡ t
    → IsParsedWith mode version u slots trailing is_open → (d : Document) → IsCut d t → AcceptedIn version t d
accepted-in mode version t u slots trailing is_open same h d cut =
    (cut, ap (is_accepted_in version) (h.only d (subst (IsCut d) (sym same) cut)) ∙ h.accepted.1)

-- What a version accepts is read as in TOML 1.1, with an open end where that is kept.
pub root-reading-in : (mode : Mode) (version : Version) (t u : Text) (root : Table) (slots : Slots) (trailing : Raw)
    (is_open keeps left : Bool)
    → u ≡ t → IsUtf8 u → IsParsedWith mode version u slots trailing is_open → fields_view root ≡ root_fields (spanned_in mode)
    → table_slots root ≡ slots
    → keeps ≡ is_exact mode → left ≡ (keeps && is_open) → IsReadingIn mode version t (tree_under (items.Table root) trailing) left
root-reading-in mode version t u root slots trailing is_open keeps left same utf8 h fields held kept is_left =
    record {
      reading =
          root-reading mode t u root slots trailing same utf8 (parsed-later mode version u slots trailing is_open h) fields held;
      accepted = accepted-in mode version t u slots trailing is_open same h;
      open_end = is_left ∙ ap (λ b. b && is_open) kept ∙ ap (λ b. is_exact mode && b) h.open_end;
    }

-- the same in a mode and a version that are these
pub read-as : (m mode : Mode) (v version : Version) (t : Text) (x : Tree) (is_open : Bool) → m ≡ mode → v ≡ version
    → IsReadingIn m v t x is_open → IsReadingIn mode version t x is_open
read-as m mode v version t x is_open mode-is version-is h =
    subst (λ w. IsReadingIn mode w t x is_open) version-is (subst (λ k. IsReadingIn k v t x is_open) mode-is h)
