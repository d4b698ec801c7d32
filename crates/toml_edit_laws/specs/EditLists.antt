-- Lists of edits of a steady tree, and what they leave of its printed statements.
use Rattle.std.specs.Prelude.{◌≡◌, ℕ, Bool, true, false, not, ◌||◌, if◌then◌else◌, List, [], ◌∷◌, ◌++◌, map, filter, Some, None}
use Rattle.toml_edit_model.specs.Mode.{Mode}
use Rattle.toml_edit_model.specs.Text.{Text, one, joined}
use Rattle.toml_edit_model.specs.Syntax.{statement_text}
use Rattle.toml_edit_model.specs.Paths.{Path, to_key}
use Rattle.toml_edit_model.specs.Tree.{Key, Node, SlotsAreWellMade, Tree, is_value_node, shown_raw}
use Rattle.toml_edit_model.specs.HeaderOrder.{Visit}
use Rattle.toml_edit_model.specs.Print.{Printed, printed, open_last, leaves_open, root_prefix, root_suffix, print_in}
use Rattle.toml_edit_model.specs.Fits.{is_steady_in}
use Rattle.toml_edit_model.specs.Slots.{Slot, keyed, on_item, lookup_slot, changed, without}
use Rattle.toml_edit_model.specs.Lists.{slot_list, on_items}
use Rattle.toml_edit_model.specs.ArrayCalls.{removed_at}
use Rattle.toml_edit_laws.specs.Locality.{Turn, into_element, Leads, root_visit, edited, is_plain_value, is_at_or_below, statements}
use Rattle.toml_edit_laws.specs.Locality.{has_block, outside, OneChanges, OneMore, StaysSteady, IsWellMadeSlot}

-- ---- edits

-- of the table at the end of a way: a value is replaced, and its key perhaps made anew; a value is
-- added under a new key; a slot is removed; an element is removed of an array of tables that is a
-- slot of it
pub data Edit : Type 0 where
  replace : List Turn → Text → (Key → Key) → Node → Edit
  add : List Turn → Key → Node → Edit
  remove : List Turn → Text → Edit
  remove_element : List Turn → Text → ℕ → Edit

-- the tree after it
abbrev pub after : Edit → Tree → Tree
after (replace way k f n) t = edited way (changed k (λ s. keyed (f s.key) n)) t
after (add way k n) t = edited way (λ ss. ss ++ one (keyed k n)) t
after (remove way k) t = edited way (without k) t
after (remove_element way k i) t = edited way (changed k (on_item (on_items (removed_at i)))) t

abbrev pub after_all : List Edit → Tree → Tree
after_all [] t = t
after_all (e ∷ es) t = after_all es (after e t)

module _ (mode : Mode) where
  -- What the edit names is there, or isn't for a new key, and what is written there is well made
  -- and no dotted inline table.
  abbrev pub Applies : Edit → Tree → Type 0
  Applies (replace way k f n) t =
      (v : Visit) × (l : Key) × (old : Node) × Leads way (root_visit t) v
      × (lookup_slot k (slot_list v.slots) ≡ Some (keyed l old))
      × (is_value_node old ≡ true) × (is_plain_value n ≡ true) × ((f l).name ≡ l.name)
      × IsWellMadeSlot (f l) n
  Applies (add way k n) t =
      (v : Visit) × Leads way (root_visit t) v × (lookup_slot k.name (slot_list v.slots) ≡ None)
      × (is_plain_value n ≡ true) × (has_block mode v ≡ true)
      × IsWellMadeSlot k n
  Applies (remove way k) t =
      (v : Visit) × (s : Slot Node) × Leads way (root_visit t) v
      × (lookup_slot k (slot_list v.slots) ≡ Some s)
  Applies (remove_element way k i) t =
      (v : Visit) × (w : Visit) × Leads way (root_visit t) v × Leads (into_element k i ∷ []) v w

  -- each of the tree that those before it leave
  abbrev pub AllApply : List Edit → Tree → Type 0
  AllApply [] t = Unit {0}
  AllApply (e ∷ es) t = Applies e t × AllApply es (after e t)

  -- ---- the printed statements

  -- what it leaves of them: one is changed, or added, or those of what is removed are gone
  abbrev pub Leaves : (e : Edit) (t : Tree) → Applies e t → Type 0
  Leaves (replace way k f n) t a =
      OneChanges mode t (after (replace way k f n) t) (to_key a.0.path a.1.name) a.1 (f a.1) a.2 n
  Leaves (add way k n) t a = OneMore mode t (after (add way k n) t) a.0 k n
  Leaves (remove way k) t a =
      printed mode (after (remove way k) t) ≡ outside mode (to_key a.0.path a.1.key.name) t
  Leaves (remove_element way k i) t a =
      statements (printed mode (after (remove_element way k i) t))
      ≡ statements (outside mode a.1.path t)

  abbrev pub AllLeave : (es : List Edit) (t : Tree) → AllApply es t → Type 0
  AllLeave [] t a = Unit {0}
  AllLeave (e ∷ es) t a = Leaves e t a.0 × AllLeave es (after e t) a.1

  -- the path that the edit names; where an element is removed, that of its array, since later
  -- elements get other numbers
  abbrev pub named_path : (e : Edit) (t : Tree) → Applies e t → Path
  named_path (replace way k f n) t a = to_key a.0.path a.1.name
  named_path (add way k n) t a = to_key a.0.path k.name
  named_path (remove way k) t a = to_key a.0.path a.1.key.name
  named_path (remove_element way k i) t a = to_key a.0.path k

  -- the path is that of an edit, or below it
  abbrev pub is_named : (es : List Edit) (t : Tree) → AllApply es t → Path → Bool
  is_named [] t a q = false
  is_named (e ∷ es) t a q = is_at_or_below (named_path e t a.0) q || is_named es (after e t) a.1 q

  abbrev pub unnamed : (es : List Edit) (t : Tree) → AllApply es t → List Printed → List Printed
  unnamed es t a ps = filter (λ s. not (is_named es t a s.path)) ps

  -- the text of these statements, with what the tree prints before and after its own, and with its
  -- end open or not
  abbrev pub print_of_statements : Bool → Tree → List Printed → Text
  print_of_statements is_open t ps =
      root_prefix mode t
      ++ (joined (map statement_text
      (statements (if leaves_open mode is_open t then open_last ps else ps)))
      ++ (root_suffix mode t ++ shown_raw mode t.trailing))

  -- What a list of edits leaves of a tree: the statements that no edit names stay, each as it was
  -- and in their order, and so does what is printed before and after all.
  pub record StaysBut (es : List Edit) (t u : Tree) (a : AllApply es t) : Type 0 where
    pub others : unnamed es t a (printed mode u) ≡ unnamed es t a (printed mode t)
    pub text : (is_open : Bool)
        → print_in mode is_open u ≡ print_of_statements is_open t (printed mode u)
    pub steady : StaysSteady mode t u
    pub made : SlotsAreWellMade u.slots

  abbrev pub EditsStayLocal : Type 0
  EditsStayLocal =
      (es : List Edit) (t : Tree) → SlotsAreWellMade t.slots → is_steady_in mode t ≡ true
      → (a : AllApply es t)
      → AllLeave es t a × StaysBut es t (after_all es t) a
