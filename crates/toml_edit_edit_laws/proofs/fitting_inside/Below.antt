-- A value in which a scalar is set, or something is removed, is no worse than it was.
use Rattle.std.proofs.Common.{◌≡◌, refl, sym, ◌∙◌, ap, subst, ℕ, arith, Bool, true, false, List, [], ◌∷◌, ◌++◌, Option, Some, None}
use Rattle.std.specs.Prelude.{not}
use Rattle.std.specs.List.{AllByRecursion}
use Rattle.toml_edit_model.specs.Mode.{Mode}
use Rattle.toml_edit_model.specs.Text.{Text}
use Rattle.toml_edit_model.specs.Syntax.{nesting_limit}
use Rattle.toml_edit_model.specs.Tree.{Decor, Key, Node, nothing, leaf, list, inline, table, tables, Items, Slots, node_decor}
use Rattle.toml_edit_model.specs.Tree.{is_value_node, IsWellMade, ItemsAreWellMade, SlotsAreWellMade}
use Rattle.toml_edit_model.specs.Print.{value_of}
use Rattle.toml_edit_model.specs.Shown.{is_table_node}
use Rattle.toml_edit_model.specs.Conversions.{with_decor}
use Rattle.toml_edit_model.specs.Keys.{names, new_key}
use Rattle.toml_edit_model.specs.Slots.{Slot, keyed, is_at, with_item, lookup_slot, changed, without}
use Rattle.toml_edit_model.specs.Lists.{slot_list, slots_from, item_list, items_from}
use Rattle.toml_edit_model.specs.ArrayCalls.{written_at, removed_at}
use Rattle.toml_edit_laws.specs.Locality.{is_plain_value}
use Rattle.toml_edit_laws.proofs.common.OptionSteps.{some-is}
use Rattle.toml_edit_laws.proofs.common.Each.{all-append, all-front, all-back, all-filter}
use Rattle.toml_edit_laws.proofs.locality.Slots.{Found, found, items_from-list, change-item, remove-item}
use Rattle.toml_edit_laws.proofs.locality.Elements.{item-made}
use Rattle.toml_edit_laws.proofs.locality.Values.{plain-value, plain-undotted, line-value}
use Rattle.toml_edit_edit_laws.specs.Commands.{Answer, done, element_of, present, second, child, item_below, change_slot, change_element}
use Rattle.toml_edit_edit_laws.specs.Commands.{child_changed}
use Rattle.toml_edit_edit_laws.specs.Commands.{set_here, set_below, drop_slot, drop_element, remove_child, remove_below}
use Rattle.toml_edit_edit_laws.specs.CommandLaws.{is_scalar}
use Rattle.toml_edit_edit_laws.specs.Fitting.{FitsAnywhere}
use Rattle.toml_edit_edit_laws.specs.FittingInside.{SetInsideFits, RemoveInsideFits}
use Rattle.toml_edit_edit_laws.proofs.commands.Keeping.{present-is, ItemParts, item-parts}
use Rattle.toml_edit_edit_laws.proofs.commands.Apart.{named}
use Rattle.toml_edit_edit_laws.proofs.commands.Finding.{some-and, some-second, was-there}
use Rattle.toml_edit_edit_laws.proofs.commands.Setting.{was-mapped, done-is}
use Rattle.toml_edit_edit_laws.proofs.fitting_inside.Limits.{limits-within, within-limits}
use Rattle.toml_edit_edit_laws.proofs.fitting_inside.Parts.{ItemIsSound, SlotIsSound}
use Rattle.toml_edit_edit_laws.proofs.fitting_inside.NoWorse.{NoWorse, SlotsKeep, ItemsKeep, inline-no-worse, table-no-worse}
use Rattle.toml_edit_edit_laws.proofs.fitting_inside.NoWorse.{list-no-worse, tables-no-worse, slots-changed, items-changed}

-- the part that a segment leads to is well made where the whole is
element-made : (xs : Items) (i : ℕ) (a : Node) (p : ItemParts i (item_list xs) a) → ItemsAreWellMade xs → IsWellMade a
element-made xs i a p w =
    item-made p.before a p.after (subst ItemsAreWellMade (sym (items_from-list xs) ∙ ap items_from p.is) w)

child-made : (k : Text) (n a : Node) → IsWellMade n → child k n ≡ Some a → IsWellMade a
child-made k (table f ss) a w h =
    let p = present-is (lookup_slot k (slot_list ss)) a h in
    let fd : Found k (keyed p.key a) (slot_list ss) = found k ss (keyed p.key a) w p.is in fd.made
child-made k (inline f ss) a w h =
    let p = present-is (lookup_slot k (slot_list ss)) a h in
    let fd : Found k (keyed p.key a) (slot_list ss) = found k ss (keyed p.key a) w p.is in fd.made
child-made k (list f xs) a w h =
    let y = some-second (element_of is_value_node k (item_list xs)) a h in
    let e = named is_value_node k (item_list xs) (y.0, a) y.1 in
    element-made xs y.0 a (item-parts y.0 (item_list xs) a e.item) w
child-made k (tables e xs) a w h =
    let y = some-second (element_of is_table_node k (item_list xs)) a h in
    let e = named is_table_node k (item_list xs) (y.0, a) y.1 in
    element-made xs y.0 a (item-parts y.0 (item_list xs) a e.item) w
child-made k (leaf s r d) a w h = absurd cc
child-made k nothing a w h = absurd cc

module _ (mode : Mode) where
  -- ---- below a segment

  module _ (makes : Bool) (k : Key) (go : Node → Answer Node) (a : Node) (each : (b : Node) → go a ≡ done b → NoWorse mode a b) where
    slots-below : (ss : Slots) (xs : List (Slot Node)) → SlotsAreWellMade ss → present (lookup_slot k.name (slot_list ss)) ≡ Some a
        → change_slot makes k go (slot_list ss) (lookup_slot k.name (slot_list ss)) ≡ done xs
        → SlotsKeep mode (slot_list ss) xs
    slots-below ss xs w there h =
        let p = present-is (lookup_slot k.name (slot_list ss)) a there in
        let fd : Found k.name (keyed p.key a) (slot_list ss) = found k.name ss (keyed p.key a) w p.is in
        let r = was-mapped (λ m. changed k.name (with_item m) (slot_list ss)) (go a) xs
        (sym (ap (change_slot makes k go (slot_list ss)) p.is) ∙ h) in
        subst (SlotsKeep mode (slot_list ss)) (sym (r.gives ∙ fd.change (with_item r.from)))
        (slots-changed mode a r.from (each r.from r.is) p.key (slot_list ss) fd.front fd.back fd.is)

    items-below : (is : Node → Bool) (ns ys : List Node) → second (element_of is k.name ns) ≡ Some a
        → change_element go ns (element_of is k.name ns) ≡ done ys
        → ItemsKeep mode ns ys
    items-below is ns ys there h =
        let x = some-second (element_of is k.name ns) a there in
        let p = item-parts x.0 ns a (named is k.name ns (x.0, a) x.1).item in
        let r = was-mapped (λ m. written_at x.0 m ns) (go a) ys (sym (ap (change_element go ns) x.1) ∙ h) in
        subst (ItemsKeep mode ns)
        (sym (r.gives ∙ ap (written_at x.0 r.from) p.is ∙ change-item p.before a p.after x.0 (λ old. r.from) p.place))
        (items-changed mode a r.from (each r.from r.is) ns p.before p.after p.is)

    below-no-worse : (n m : Node) → IsWellMade n → child k.name n ≡ Some a → child_changed makes k go n ≡ done m → NoWorse mode n m
    below-no-worse (table f ss) m w there h =
        let c = change_slot makes k go (slot_list ss) (lookup_slot k.name (slot_list ss)) in
        let r = was-mapped (λ xs. table f (slots_from xs)) c m h in
        subst (NoWorse mode (table f ss)) (sym r.gives) (table-no-worse mode f ss r.from (slots-below ss r.from w there r.is))
    below-no-worse (inline f ss) m w there h =
        let c = change_slot makes k go (slot_list ss) (lookup_slot k.name (slot_list ss)) in
        let r = was-mapped (λ xs. inline f (slots_from xs)) c m h in
        subst (NoWorse mode (inline f ss)) (sym r.gives) (inline-no-worse mode f ss r.from (slots-below ss r.from w there r.is))
    below-no-worse (list f xs) m w there h =
        let c = change_element go (item_list xs) (element_of is_value_node k.name (item_list xs)) in
        let r = was-mapped (λ ns. list f (items_from ns)) c m h in
        subst (NoWorse mode (list f xs)) (sym r.gives)
        (list-no-worse mode f xs r.from (items-below is_value_node (item_list xs) r.from there r.is))
    below-no-worse (tables e xs) m w there h =
        let c = change_element go (item_list xs) (element_of is_table_node k.name (item_list xs)) in
        let r = was-mapped (λ ns. tables e (items_from ns)) c m h in
        subst (NoWorse mode (tables e xs)) (sym r.gives) (tables-no-worse mode e xs (items_from r.from))
    below-no-worse (leaf s x d) m w there h = absurd cc
    below-no-worse nothing m w there h = absurd cc

  -- ---- set

  scalar-no-worse : (v old : Node) (d : Decor) → is_scalar v ≡ true → is_plain_value old ≡ true → d ≡ node_decor old
      → NoWorse mode old (with_decor d v)
  scalar-no-worse (leaf s r e) old d is plain h =
      record {
        value = sym (plain-value old plain);
        line = sym (line-value old (plain-value old plain) (plain-undotted old plain));
        decor = h;
        sound = λ e g. (tt, (omega arith, refl));
        inside = λ e ks g. (tt, tt);
      }
  scalar-no-worse (list f xs) old d is plain h = absurd cc
  scalar-no-worse (inline f ss) old d is plain h = absurd cc
  scalar-no-worse (table f ss) old d is plain h = absurd cc
  scalar-no-worse (tables e xs) old d is plain h = absurd cc
  scalar-no-worse nothing old d is plain h = absurd cc

  here-no-worse : (v old n : Node) → is_scalar v ≡ true → is_plain_value old ≡ true → set_here v old ≡ done n → NoWorse mode old n
  here-no-worse v (leaf s r d) n is plain h =
      subst (NoWorse mode (leaf s r d)) (done-is (with_decor d v) n h) (scalar-no-worse v (leaf s r d) d is plain refl)
  here-no-worse v (list f xs) n is plain h =
      subst (NoWorse mode (list f xs)) (done-is (with_decor f.decor v) n h) (scalar-no-worse v (list f xs) f.decor is plain refl)
  here-no-worse v (inline f ss) n is plain h =
      subst (NoWorse mode (inline f ss)) (done-is (with_decor f.decor v) n h) (scalar-no-worse v (inline f ss) f.decor is plain refl)
  here-no-worse v (table f ss) n is plain h = absurd cc
  here-no-worse v (tables e xs) n is plain h = absurd cc
  here-no-worse v nothing n is plain h = absurd cc

  set-no-worse : (v x : Node) (inner : List Key) (old n : Node) → is_scalar v ≡ true → is_plain_value x ≡ true → IsWellMade old
      → item_below (names inner) old ≡ Some x → set_below v inner old ≡ done n → NoWorse mode old n
  set-no-worse v x [] old n is plain w at h =
      here-no-worse v old n is (subst (λ y. is_plain_value y ≡ true) (sym (some-is old x at)) plain) h
  set-no-worse v x (k ∷ inner) old n is plain w at h =
      let a = some-and (item_below (names inner)) (child k.name old) x at in
      let made = child-made k.name old a.0 w a.1 in
      below-no-worse true k (set_below v inner) a.0 (λ b g. set-no-worse v x inner a.0 b is plain made a.2 g) old n w a.1 h

  -- ---- remove

  slots-less : (k : Text) (ss xs : List (Slot Node)) (o : Option Node) → drop_slot k ss o ≡ done xs → SlotsKeep mode ss xs
  slots-less k ss xs (Some n) h =
      subst (SlotsKeep mode ss) (done-is (without k ss) xs h)
      (λ d ks g. all-filter (SlotIsSound mode d ks) (λ s. not (is_at k s)) ss g)
  slots-less k ss xs None h = absurd cc

  items-less : (is : Node → Bool) (k : Text) (ns ys : List Node) (o : Option (ℕ × Node)) → element_of is k ns ≡ o
      → drop_element ns o ≡ done ys → ItemsKeep mode ns ys
  items-less is k ns ys (Some x) e h =
      let p = item-parts x.0 ns x.1 (named is k ns x e).item in
      let left : p.before ++ p.after ≡ ys =
      sym (ap (removed_at x.0) p.is ∙ remove-item p.before x.1 p.after x.0 p.place) ∙ done-is (removed_at x.0 ns) ys h in
      subst (ItemsKeep mode ns) left
      (λ d g. without_one (ItemIsSound mode d) p.before x.1 p.after (subst (AllByRecursion (ItemIsSound mode d)) p.is g))
    where
      without_one : (P : Node → Type 0) (before : List Node) (n : Node) (after : List Node) → AllByRecursion P (before ++ (n ∷ after))
          → AllByRecursion P (before ++ after)
      without_one P before n after g =
          all-append P before after (all-front P before (n ∷ after) g) (all-back P before (n ∷ after) g).1
  items-less is k ns ys None e h = absurd cc

  drop-no-worse : (k : Text) (n m : Node) → remove_child k n ≡ done m → NoWorse mode n m
  drop-no-worse k (table f ss) m h =
      let o = present (lookup_slot k (slot_list ss)) in
      let r = was-mapped (λ xs. table f (slots_from xs)) (drop_slot k (slot_list ss) o) m h in
      subst (NoWorse mode (table f ss)) (sym r.gives) (table-no-worse mode f ss r.from (slots-less k (slot_list ss) r.from o r.is))
  drop-no-worse k (inline f ss) m h =
      let o = present (lookup_slot k (slot_list ss)) in
      let r = was-mapped (λ xs. inline f (slots_from xs)) (drop_slot k (slot_list ss) o) m h in
      subst (NoWorse mode (inline f ss)) (sym r.gives) (inline-no-worse mode f ss r.from (slots-less k (slot_list ss) r.from o r.is))
  drop-no-worse k (list f xs) m h =
      let o = element_of is_value_node k (item_list xs) in
      let r = was-mapped (λ ns. list f (items_from ns)) (drop_element (item_list xs) o) m h in
      subst (NoWorse mode (list f xs)) (sym r.gives)
      (list-no-worse mode f xs r.from (items-less is_value_node k (item_list xs) r.from o refl r.is))
  drop-no-worse k (tables e xs) m h =
      let o = element_of is_table_node k (item_list xs) in
      let r = was-mapped (λ ns. tables e (items_from ns)) (drop_element (item_list xs) o) m h in
      subst (NoWorse mode (tables e xs)) (sym r.gives) (tables-no-worse mode e xs (items_from r.from))
  drop-no-worse k (leaf s r d) m h = absurd cc
  drop-no-worse k nothing m h = absurd cc

  remove-no-worse : (x : Text) (inner : List Text) (old n : Node) → IsWellMade old → remove_below (x ∷ inner) old ≡ done n
      → NoWorse mode old n
  remove-no-worse x [] old n w h = drop-no-worse x old n h
  remove-no-worse x (y ∷ inner) old n w h =
      let there = was-there (x ∷ y ∷ inner) old n h in
      let a = some-and (item_below (y ∷ inner)) (child x old) there.0 there.1 in
      let made = child-made x old a.0 w a.1 in
      below-no-worse false (new_key x) (remove_below (y ∷ inner)) a.0 (λ b g. remove-no-worse y inner a.0 b made g) old n w a.1 h

  -- ---- so it still fits

  still-anywhere : (old n : Node) → NoWorse mode old n → FitsAnywhere mode old → FitsAnywhere mode n
  still-anywhere old n r h =
      let s = r.sound nesting_limit (h.0, limits-within (value_of mode old) h.1) in
      (s.0, within-limits (value_of mode n) s.1)

  pub set_inside_fits : SetInsideFits mode
  set_inside_fits v old n x inner w fits is at plain h = still-anywhere old n (set-no-worse v x inner old n is plain w at h) fits

  pub remove_inside_fits : RemoveInsideFits mode
  remove_inside_fits old n x inner w fits h = still-anywhere old n (remove-no-worse x inner old n w h) fits
