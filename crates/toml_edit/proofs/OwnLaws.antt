-- A document in owned form, by the document over its text.
use mathlib.Core.Logic.{∥∥₁_elim, ∥∥₁_map}
use Rattle.std.proofs.Common.{◌≡◌, Bool, sym, ap, subst, ◌∙◌}
use Rattle.toml_edit_model.specs.Mode.{Mode, plain, exact}
use Rattle.toml_edit_model.specs.Text.{Text}
use Rattle.toml_edit_model.specs.Syntax.{Document}
use Rattle.toml_edit_model.specs.Accepted.{AcceptedAs, AcceptedIn}
use Rattle.toml_edit_model.specs.Normal.{has_open_end, normal_text_in}
use Rattle.toml_edit_model.specs.Print.{print_in, document_in}
use Rattle.toml_edit_model.specs.Tree.{Tree, SlotsAreWellMade}
use Rattle.toml_edit_model.specs.TreeOf.{spanned_in, owned_in, IsTreeOf}
use Rattle.toml_edit_model.specs.Version.{Version}
use Rattle.toml_edit_laws.proofs.read_trees.ReadLaws.{owned_trees}
use Rattle.toml_edit_laws.proofs.read_trees.TreeMade.{tree-made}
use Rattle.toml_edit_laws.proofs.print_of_read.PrintOfRead.{print_normal}
use Rattle.toml_edit_laws.proofs.normal_texts.TextLaws.{normal_texts}
use Rattle.toml_edit_laws.proofs.normal_texts.TreesFit.{texts_fit}
use Rattle.toml_edit_laws.proofs.normal_texts.LinesInModes.{steady_in_each_mode}
use Rattle.toml_edit_laws.proofs.versions.EarlyPrints.{prints_stay}
use Rattle.toml_edit.specs.Documents.{IsOwnedReadingIn, IsOwnedReadingWith, IsOwnedTreeWith, IsReadingIn, IsReadingWith, opens}
use Rattle.toml_edit_laws.proofs.read_trees.MeaningOfTrees.{trees_mean}
use Rattle.toml_edit.proofs.SpanProps.{DecorFits-prop, SlotsFit-prop, RawFits-prop}
use Rattle.toml_edit.proofs.ReadInModes.{fits-in-each}
use Rattle.toml_edit_model.specs.OwnedForm.{IsOver, DecorFits, SlotsFit, RawFits, owned_raw, owned_fields, owned_slots, owned_tree}

-- ---- what is known of a tree over its text

module _ (t u : Text) (x : Tree) (over : ∥ IsOver t x ∥₁) (same : u ≡ t) where
  -- the spans of its root's decor lie in the text
  pub over-root : DecorFits u x.root.decor
  over-root = subst (λ v. DecorFits v x.root.decor) (sym same) (∥∥₁_elim over (DecorFits-prop t x.root.decor) (λ o. o.root))

  -- those of its slots do
  pub over-slots : SlotsFit u x.slots
  over-slots = subst (λ v. SlotsFit v x.slots) (sym same) (∥∥₁_elim over (SlotsFit-prop t x.slots) (λ o. o.slots))

  -- that of its trailing text does
  pub over-trailing : RawFits u x.trailing
  over-trailing = subst (λ v. RawFits v x.trailing) (sym same) (∥∥₁_elim over (RawFits-prop t x.trailing) (λ o. o.trailing))

  -- its spellings are true, once they are cut out
  pub over-true : ∥ SlotsAreWellMade (owned_slots u x.slots) ∥₁
  over-true = subst (λ v. ∥ SlotsAreWellMade (owned_slots v x.slots) ∥₁) (sym same) (∥∥₁_map over (λ o. o.well_made))

-- ---- the tree in owned form

-- a tree whose parts are in owned form is the tree in owned form
pub owned-parts : (t u : Text) (x y : Tree) → u ≡ t → y.root ≡ owned_fields u x.root → y.slots ≡ owned_slots u x.slots
    → y.trailing ≡ owned_raw u x.trailing → y ≡ owned_tree t x
owned-parts t u x y same root slots trailing =
    ap (λ r. record y { root = r }) root
    ∙ ap (λ ss. record (owned_tree u x) { slots = ss; trailing = y.trailing }) slots
    ∙ ap (λ r. record (owned_tree u x) { trailing = r }) trailing
    ∙ ap (λ v. owned_tree v x) same

-- What is printed with its end open as that of the text is, is printed so, where line endings are kept; else no end is open.
opens-so : (mode : Mode) (d : Document) (x : Tree) → print_in mode (has_open_end d.statements) x ≡ normal_text_in mode d
    → print_in mode (opens mode d) x ≡ normal_text_in mode d
opens-so plain d x h = h
opens-so exact d x h = h

-- And a version accepts what is printed of it so.
stays-so : (mode : Mode) (version : Version) (d : Document) (x : Tree)
    → AcceptedIn version (print_in mode (has_open_end d.statements) x) (document_in mode (has_open_end d.statements) x)
    → AcceptedIn version (print_in mode (opens mode d) x) (document_in mode (opens mode d) x)
stays-so plain version d x h = h
stays-so exact version d x h = h

-- The tree of an accepted text stays its tree, fits and is steady in each mode, and prints as the normal text, which each version accepts
-- that accepts the text.
pub stays-tree : (mode : Mode) (t : Text) (x y : Tree) → y ≡ owned_tree t x → (d : Document) → AcceptedAs t d
    → IsTreeOf (spanned_in mode) d x
    → IsOwnedTreeWith mode t d y
stays-tree mode t x y e d accepted is =
    let own = subst (IsTreeOf (owned_in mode) d) (sym e) (owned_trees mode t d accepted.0 x is) in
    let fine = texts_fit mode t d accepted y own in
    record {
      tree = own;
      made = tree-made mode d y accepted.0.0 accepted.1 own;
      fits = fits-in-each mode d accepted.0.0 y own fine.0;
      steady = λ printed. steady_in_each_mode printed mode y ∙ fine.1;
      prints = opens-so mode d y (print_normal mode d accepted.0.0 accepted.1 y own);
      normal = (accepted, normal_texts mode t d accepted);
      stays = λ version accepted_in. stays-so mode version d y (prints_stay mode version t d accepted_in y own);
    }

-- ---- what is made of a reading of a text

-- what a document that was read says of its tree, made to own its texts
abbrev Stays : Mode → Text → Tree → Tree → Type 0
Stays mode u x y = (d : Document) → AcceptedAs u d → IsTreeOf (spanned_in mode) d x → IsOwnedTreeWith mode u d y

-- where the document was read in the mode that was asked for
module _ (mode m : Mode) (mode-is : m ≡ mode) (t u : Text) (same : u ≡ t) (x y : Tree) (stays : Stays m u x y) where
  -- its tree owns its texts
  pub owns : (r : IsReadingWith mode t x) → IsOwnedTreeWith mode t r.document y
  owns r =
      let asked : Stays mode u x y = subst (λ k. Stays k u x y) mode-is stays in
      subst (λ v. IsOwnedTreeWith mode v r.document y) same
      (asked r.document (subst (λ v. AcceptedAs v r.document) (sym same) r.accepted) r.tree)

  -- What is made of a reading of a text is one that owns its texts.
  abbrev pub own-reading : IsReadingWith mode t x → IsOwnedReadingWith mode t y
  own-reading r =
      record {
        document = r.document;
        accepted = r.accepted;
        only = r.only;
        tree = owns r;
        meaning = trees_mean r.document r.accepted.0.0 r.accepted.1 (owned_in mode) y (owns r).tree;
      }

  -- The same in a version of the grammar, where the end is open as it was.
  pub own-reading-in : (version : Version) (was is_open : Bool) → is_open ≡ was → IsReadingIn mode version t x was
      → IsOwnedReadingIn mode version t y is_open
  own-reading-in version was is_open kept r =
      let d = r.reading.document in
      let open_so = kept ∙ r.open_end in
      let printed = (owns r.reading).stays version (r.accepted d r.reading.accepted.0) in
      record {
        reading = own-reading r.reading;
        accepted = r.accepted;
        open_end = open_so;
        stays = subst (λ b. AcceptedIn version (print_in mode b y) (document_in mode b y)) (sym open_so) printed;
      }
