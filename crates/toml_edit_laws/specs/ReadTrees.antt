-- The laws of the trees of texts: each text has at most one in each form, what its spans cut makes
-- the owned one, and the spans of keys and scalars cut their spellings.
use Rattle.std.specs.Prelude.{◌≡◌, true, Option, Some, None}
use Rattle.std.specs.Str.{IsUtf8}
use Rattle.toml_edit_model.specs.Mode.{Mode}
use Rattle.toml_edit_model.specs.Text.{Text}
use Rattle.toml_edit_model.specs.Spelling.{SpellsKey, SpellsInRange}
use Rattle.toml_edit_model.specs.Syntax.{Document, IsDocument, IsCut}
use Rattle.toml_edit_model.specs.Accepted.{is_accepted, AcceptedAs}
use Rattle.toml_edit_model.specs.Meaning.{SameFacts, meaning}
use Rattle.toml_edit_model.specs.Shown.{shown_meaning}
use Rattle.toml_edit_model.specs.Tree.{Raw, owned, span, Node, nothing, leaf, list, inline, table, tables, Items, no_items, item, Slots}
use Rattle.toml_edit_model.specs.Tree.{no_slots, slot, Tree}
use Rattle.toml_edit_model.specs.TreeOf.{Form, spanned_in, owned_in, IsTreeOf}
use Rattle.toml_edit_model.specs.OwnedForm.{cut_out, owned_tree, RawFits, IsOver}

-- A document has at most one tree in each form.
abbrev pub OneTreeOf : Type 0
OneTreeOf =
    (form : Form) (d : Document) (t u : Tree) → IsTreeOf form d t → IsTreeOf form d u → t ≡ u

-- ---- spans of spellings

-- the spelling is a span that lies in the text, and what it cuts from the text is such
abbrev pub IsCutAs : Text → (Text → Type 0) → Option Raw → Type 0
IsCutAs text Is (Some (span i j)) = RawFits text (span i j) × Is (cut_out text i j)
IsCutAs text Is (Some (owned t)) = ⊥
IsCutAs text Is None = ⊥

-- so it is with each key and each scalar
abbrev mutual
  pub HasCutSpellings : Text → Node → Type 0
  HasCutSpellings text (leaf s spelling d) = IsCutAs text (SpellsInRange s) spelling
  HasCutSpellings text (list f xs) = ItemsHaveCutSpellings text xs
  HasCutSpellings text (tables e xs) = ItemsHaveCutSpellings text xs
  HasCutSpellings text (inline f ss) = HaveCutSpellings text ss
  HasCutSpellings text (table f ss) = HaveCutSpellings text ss
  HasCutSpellings text nothing = Unit {0}

  pub ItemsHaveCutSpellings : Text → Items → Type 0
  ItemsHaveCutSpellings text no_items = Unit {0}
  ItemsHaveCutSpellings text (item n xs) = HasCutSpellings text n × ItemsHaveCutSpellings text xs

  pub HaveCutSpellings : Text → Slots → Type 0
  HaveCutSpellings text no_slots = Unit {0}
  HaveCutSpellings text (slot k n ss) =
      IsCutAs text (SpellsKey k.name) k.spelling × HasCutSpellings text n × HaveCutSpellings text ss

-- ---- in each mode

module _ (mode : Mode) where
  -- The tree with spans becomes that with owned texts, by what the spans cut from the text.
  abbrev pub OwnedTrees : Type 0
  OwnedTrees =
      (text : Text) (d : Document) → IsCut d text → (t : Tree) → IsTreeOf (spanned_in mode) d t
      → IsTreeOf (owned_in mode) d (owned_tree text t)

  -- Where the text is accepted, the spans lie in it on the boundaries of characters, and what they
  -- cut is well made.
  abbrev pub TreesOver : Type 0
  TreesOver =
      (text : Text) (d : Document) → IsUtf8 text → AcceptedAs text d → (t : Tree)
      → IsTreeOf (spanned_in mode) d t → IsOver text t

  -- The span of each key and each scalar cuts its spelling from the text.
  abbrev pub SpansCutSpellings : Type 0
  SpansCutSpellings =
      (text : Text) (d : Document) → IsUtf8 text → AcceptedAs text d → (t : Tree)
      → IsTreeOf (spanned_in mode) d t → HaveCutSpellings text t.slots

-- ---- the meaning

-- The tree of an accepted document shows what the document means.
abbrev pub TreesMean : Type 0
TreesMean =
    (d : Document) → IsDocument d → is_accepted d ≡ true → (form : Form) (t : Tree)
    → IsTreeOf form d t → SameFacts (shown_meaning t) (meaning d)

-- So does a root that is taken as it is: its slots with other fields and another trailing text.
abbrev pub TakenRootsMean : Type 0
TakenRootsMean =
    (d : Document) → IsDocument d → is_accepted d ≡ true → (form : Form) (t u : Tree)
    → IsTreeOf form d t → u.slots ≡ t.slots
    → SameFacts (shown_meaning u) (meaning d)
