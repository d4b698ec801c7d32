-- The root of a document that was read, taken as it is and made the root of a document again.
use Rattle.std.proofs.Common.{◌≡◌, refl, sym, ap, ◌∙◌, Option, Some, None, option_map}
use Rattle.std.specs.Prelude.{[], ◌||◌}
use Rattle.toml_edit_model.specs.Mode.{Mode}
use Rattle.toml_edit_model.specs.Text.{Text, same_text}
use Rattle.toml_edit_model.specs.Syntax.{Document}
use Rattle.toml_edit_model.specs.Accepted.{AcceptedAs}
use Rattle.toml_edit_model.specs.Tree.{Raw, owned, span, Node, nothing, leaf, list, inline, table, tables, Items, no_items, item, Slots}
use Rattle.toml_edit_model.specs.Tree.{no_slots, slot, Tree, has_key, HasTrueSpelling, IsWellMade, ItemsAreWellMade, SlotsAreWellMade}
use Rattle.toml_edit_model.specs.TreeOf.{spanned_in, owned_in, IsTreeOf}
use Rattle.toml_edit_model.specs.Fits.{FitsIn}
use Rattle.toml_edit_model.specs.OwnedForm.{owned_raw, owned_node, owned_items, owned_slots, owned_tree}
use Rattle.toml_edit_laws.specs.AcceptedPrints.{IsFitting}
use Rattle.toml_edit_laws.proofs.normal_texts.SpansSuit.{spans_fit}
use Rattle.toml_edit_laws.proofs.normal_texts.TreesFit.{texts_fit}
use Rattle.toml_edit_laws.proofs.read_trees.MeaningOfTrees.{taken_roots_mean}
use Rattle.toml_edit_laws.proofs.read_trees.ReadLaws.{owned_trees}
use Rattle.toml_edit_laws.proofs.read_trees.TreeMade.{tree-made}
use Rattle.toml_edit.specs.Documents.{PrintsMeaningOf}
use Rattle.toml_edit.proofs.PrintMeaning.{made-print}
use Rattle.toml_edit.proofs.ReadInModes.{fits-in-each}

-- ---- a tree over its text is as well made as the one that owns its texts

spelled-over : (t : Text) (Is : Text → Type 0) (o : Option Raw) → HasTrueSpelling Is (option_map (owned_raw t) o) → HasTrueSpelling Is o
spelled-over t Is None h = tt
spelled-over t Is (Some (owned u)) h = h
spelled-over t Is (Some (span i j)) h = tt

same-key : (t k : Text) (ss : Slots) → has_key k (owned_slots t ss) ≡ has_key k ss
same-key t k no_slots = refl
same-key t k (slot l n ss) = ap (λ b. same_text k l.name || b) (same-key t k ss)

mutual
  node-over : (t : Text) (n : Node) → IsWellMade (owned_node t n) → IsWellMade n
  node-over t nothing h = tt
  node-over t (leaf s spelling d) h = (spelled-over t _ spelling h.0, h.1)
  node-over t (list f xs) h = items-over t xs h
  node-over t (tables e xs) h = items-over t xs h
  node-over t (inline f ss) h = slots-over t ss h
  node-over t (table f ss) h = slots-over t ss h

  items-over : (t : Text) (xs : Items) → ItemsAreWellMade (owned_items t xs) → ItemsAreWellMade xs
  items-over t no_items h = tt
  items-over t (item n xs) h = (node-over t n h.0, items-over t xs h.1)

  slots-over : (t : Text) (ss : Slots) → SlotsAreWellMade (owned_slots t ss) → SlotsAreWellMade ss
  slots-over t no_slots h = tt
  slots-over t (slot k n ss) h = (sym (same-key t k.name ss) ∙ h.0, spelled-over t _ k.spelling h.1, node-over t n h.2, slots-over t ss h.3)

-- ---- what its print means

module _ (mode : Mode) (t : Text) (d : Document) (x : Tree) (accepted : AcceptedAs t d) (is : IsTreeOf (spanned_in mode) d x) where
  -- the root alone, with no text after it
  abbrev root : Tree
  root = record x { trailing = owned [] }

  own : IsTreeOf (owned_in mode) d (owned_tree t x)
  own = owned_trees mode t d accepted.0 x is

  -- It fits in each mode, as what its spans cut from the text does.
  root-fits : (printed : Mode) → FitsIn printed root
  root-fits printed =
      let fine = texts_fit mode t d accepted (owned_tree t x) own in
      (spans_fit printed mode t d x is (fits-in-each mode d accepted.0.0 (owned_tree t x) own fine.0 printed)).1

  -- So it prints a text of the same meaning in each.
  pub root-prints : (printed : Mode) → PrintsMeaningOf printed d root
  root-prints printed =
      let made = slots-over t x.slots (tree-made mode d (owned_tree t x) accepted.0.0 accepted.1 own) in
      let fitting : IsFitting printed root = record { made = made; fits = root-fits printed } in
      let means = taken_roots_mean d accepted.0.0 accepted.1 (spanned_in mode) x root is refl in
      record {
        fits = root-fits printed;
        accepted = λ is_open. (made-print printed is_open root fitting).accepted;
        meaning = λ is_open f.
            let shown = (made-print printed is_open root fitting).meaning f in
            (λ c. (means f).0 (shown.0 c), λ c. shown.1 ((means f).1 c));
      }
