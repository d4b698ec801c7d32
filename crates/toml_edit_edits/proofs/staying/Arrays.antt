-- An array that gets a value more or less, with its line.
use Rattle.std.proofs.Common.{◌≡◌, refl, sym, ◌∙◌, ap, subst, ℕ, true, List, [], ◌∷◌, append-nil, length, drop, take, Some, None}
use Rattle.std.specs.Prelude.{◌-◌, ◌||◌, nat_lt, Result, Ok}
use Rattle.std.specs.Option.{ok_or}
use Rattle.toml_edit_model.specs.Fits.{is_steady_in}
use Rattle.toml_edit_model.specs.Keys.{names}
use Rattle.toml_edit_model.specs.Lists.{items_from}
use Rattle.toml_edit_model.specs.Mode.{Mode}
use Rattle.toml_edit_model.specs.Slots.{changed_at}
use Rattle.toml_edit_model.specs.Tree.{ArrayFields, IsWellMade, ItemsAreWellMade, Key, Node, SlotsAreWellMade, Tree, inline, leaf, list, node_decor, nothing, owned, table, tables}
use Rattle.toml_edit_laws.proofs.locality.Slots.{items_from-list}
use Rattle.toml_edit_edit_laws.specs.Commands.{item_at, root_item}
use Rattle.toml_edit_edit_laws.proofs.commands.Keeping.{decor-made}
use Rattle.toml_edit_tree.specs.ArrayLines.{followed, gaps_around, line_inserted, placed, with_line, with_suffix}
use Rattle.toml_edit_tree.specs.Casts.{array_in}
use Rattle.toml_edit_tree.specs.Containers.{ArrayView}
use Rattle.toml_edit_edits.specs.Effects as effects
use Rattle.toml_edit_edits.specs.Effects.{array_at, array_of, array_set, set, values_of}
use Rattle.toml_edit_edits.specs.Outcomes.{and_then}
use Rattle.toml_edit_edits.specs.declared.fault.EditFault.{EditFault}
use Rattle.toml_edit_edits.specs.declared.fault.EditFault.TheVariants.{NoSuchPath, WrongKind}
use Rattle.toml_edit_edits.proofs.MoveLaws.{answered, there-is, went}
use Rattle.toml_edit_edits.proofs.staying.Words.{StaysWithin}
use Rattle.toml_edit_edits.proofs.staying.Below.{AreMade, below-made, made-changed, made-dropped, made-join, made-taken}
use Rattle.toml_edit_edits.proofs.staying.Removals.{either-made, gap-made, line-removed-made}
use Rattle.toml_edit_edits.proofs.staying.Sets.{set-in}

-- ---- the array stays well made

followed-made : (i : ℕ) (f : ArrayFields) (xs : List Node) → AreMade xs → AreMade (followed i f xs)
followed-made i f xs a =
    either-made (f.comma || nat_lt i (length xs)) xs (changed_at (length xs - 1) (with_suffix (owned [])) xs) a
    (made-changed (length xs - 1) (with_suffix (owned [])) (λ n w. decor-made (record (node_decor n) { suffix = Some (owned []) }) n w) xs a)

line-inserted-made : (i : ℕ) (v : Node) (f : ArrayFields) (xs : List Node) → IsWellMade v → AreMade xs → AreMade (line_inserted i v f xs)
line-inserted-made i v f xs w a =
    let ys : List Node = followed i f xs in
    let b : AreMade ys = followed-made i f xs a in
    let p : Node = placed (owned (gaps_around i (node_decor v) f xs).0) v in
    let wp : IsWellMade p = decor-made (record { prefix = Some (owned (gaps_around i (node_decor v) f xs).0); suffix = None }) v w in
    gap-made _ (owned (gaps_around i (node_decor v) f xs).1) f (with_line i v f xs)
    (made-join (take i ys) (p ∷ drop i ys) (made-taken i ys b) (wp, made-dropped i ys b))

values-made : (a : ArrayView) → ItemsAreWellMade a.items → AreMade (values_of a)
values-made a w = subst ItemsAreWellMade (sym (items_from-list a.items)) w

-- the item is an array that is well made
pub record IsMadeArray (n : Node) : Type 0 where
  pub fields : ArrayFields
  pub items : List Node
  pub is : n ≡ list fields (items_from items)
  pub made : AreMade items

pub with-line-made : (i : ℕ) (v : Node) (a : ArrayView) → IsWellMade v → ItemsAreWellMade a.items → IsMadeArray (effects.with_line i v a)
with-line-made i v a wv w =
    record { fields = _; items = line_inserted i v a.fields (values_of a); is = refl; made = line-inserted-made i v a.fields (values_of a) wv (values-made a w) }

pub without-line-made : (i : ℕ) (a : ArrayView) → ItemsAreWellMade a.items → IsMadeArray (effects.without_line i a)
without-line-made i a w =
    record { fields = _; items = _; is = refl; made = line-removed-made i a.fields (values_of a) (values-made a w) }

-- ---- the array at a path

pub array-found : (path : List Key) (t : Tree) (a : ArrayView) → array_at (names path) t ≡ Ok a
    → (n : Node) × (item_at (names path) t ≡ Some n) × (array_in n ≡ Some a)
array-found path t a h =
    let x = went array_of (ok_or (item_at (names path) t) NoSuchPath) a h in
    (x.0, there-is (item_at (names path) t) NoSuchPath x.0 x.1, there-is (array_in x.0) WrongKind a x.2)

module _ (mode : Mode) (t u : Tree) (path : List Key) (made : SlotsAreWellMade t.slots) (steady : is_steady_in mode t ≡ true)
    (go : ArrayView → Result Node EditFault)
    (each : (a : ArrayView) (n : Node) → ItemsAreWellMade a.items → go a ≡ Ok n → IsMadeArray n) where
  by_node : (x : Node) (a : ArrayView) (n : Node) → item_at (names path) t ≡ Some x → array_in x ≡ Some a → go a ≡ Ok n → set path n t ≡ Ok u
      → StaysWithin mode t u (names path)
  by_node (list f xs) a n there is goes put =
      let w : ItemsAreWellMade xs = below-made (names path) (root_item t) (list f xs) made there in
      let same : ◌≡◌ {A = ArrayView} (record { fields = f; items = xs }) a = cc in
      let x = each a n (subst (λ (b : ArrayView). ItemsAreWellMade b.items) same w) goes in
      let m : Node = list x.fields (items_from x.items) in
      set-in mode t u path m made steady refl x.made (answered _ u (ap (λ y. set path y t) (sym x.is) ∙ put)) path [] (list f xs)
      (sym (append-nil path)) tt there refl
  by_node (leaf s r d) a n there is goes put = absurd cc
  by_node (inline f ss) a n there is goes put = absurd cc
  by_node (table f ss) a n there is goes put = absurd cc
  by_node (tables e xs) a n there is goes put = absurd cc
  by_node nothing a n there is goes put = absurd cc

  pub array-stays : array_set go path t ≡ Ok u → StaysWithin mode t u (names path)
  array-stays h =
      let x = went (λ n. set path n t) (and_then go (array_at (names path) t)) u h in
      let y = went go (array_at (names path) t) x.0 x.1 in
      let z = array-found path t y.0 y.1 in
      by_node z.0 y.0 x.0 z.1 z.2 y.2 x.2
