-- Slots that are taken out of a block, part by part.
use Rattle.std.proofs.Common.{◌≡◌, List, [], ◌∷◌, refl, sym, ap, ◌∙◌, rules, Option, Some, None, Vec}
use Rattle.std.specs.Prelude.{option_and_then}
use Rattle.toml_edit_model.specs.Text.{Text}
use Rattle.toml_edit_model.specs.Tree.{Extent, Node, tables, Items, no_items, item, Slots}
use Rattle.toml_edit_laws.specs.InlineTree.{node_at, with_node}
use Rattle.toml_edit_laws.specs.Building.{block_slots, last_slots, slots_along}
use Rattle.toml_edit_laws.specs.AddPath.{put_last, put_in, put_along, last_item, with_last}
use Rattle.toml_edit_laws.proofs.common.OptionSteps.{some-is}
use Rattle.toml_edit_parser.proofs.SlotLaws.{node-same}
use Rattle.toml_edit_laws.proofs.building.Along.{put_put, along_put, put_same}
use Rattle.std.specs.declared.alloc.Global.{Global}
use Rattle.toml_edit_tree.specs.declared.array_of_tables.ArrayOfTables.{ArrayOfTables, out-ArrayOfTables, roll-ArrayOfTables}
use Rattle.toml_edit_tree.specs.declared.item.Item.{Item, the_lemmas}
use Rattle.toml_edit_tree.specs.Containers.{tables_node}
use Rattle.toml_edit_tree.specs.View.{items_view, tables_view}
use Rattle.toml_edit_parser.specs.BlockRead.{Swaps, split_name}

-- ---- at a name

pub name-is : (block : List Text) (k : Text) (rest : List Text) → ◌≡◌ {A = Option (Text × List Text)} (Some (k, rest)) (split_name block)
    → block ≡ k ∷ rest
name-is [] k rest h = absurd cc
name-is (j ∷ js) k rest h = let e : ◌≡◌ {A = Text × List Text} (k, rest) (j, js) = cc in ap (λ (p : Text × List Text). p.0 ∷ p.1) (sym e)

pub swap-all : (block : List Text) (others ss out new : Slots) → block ≡ [] → out ≡ ss → new ≡ others
    → Swaps (slots_along block ss) others ss (put_along block others ss) out new
swap-all block others ss out new p e f = rw p (λ inner h. (e ∙ some-is ss inner h, f), λ h. absurd cc)

pub swap-none : (block : List Text) (k : Text) (rest : List Text) (others ss out new : Slots) → block ≡ k ∷ rest → node_at k ss ≡ None → out
    ≡ others → new ≡ ss
    → Swaps (slots_along block ss) others ss (put_along block others ss) out new
swap-none block k rest others ss out new p e same stays = rw (p, e) (λ inner h. absurd cc, λ h. (same, stays))

pub swap-there : (block : List Text) (k : Text) (rest : List Text) (others ss out new : Slots) (old changed : Node) → block ≡ k ∷ rest
    → node_at k ss ≡ Some old
    → new ≡ with_node k changed ss
    → Swaps (option_and_then (slots_along rest) (block_slots old)) others old (put_in (put_along rest others) old) out changed
    → Swaps (slots_along block ss) others ss (put_along block others ss) out new
swap-there block k rest others ss out new old changed p e s f =
    rw (p, e) (
      λ inner h. let g = f.0 inner h in (g.0, s ∙ ap (λ (n : Node). with_node k n ss) g.1),
      λ h. let g = f.1 h in (g.0, s ∙ ap (λ (n : Node). with_node k n ss) g.1 ∙ node-same k old ss e),
    )

-- ---- in the last element

last-found : (xs : Items) (last : Node) → last_item xs ≡ Some last → last_slots xs ≡ last_slots (item last no_items)
last-found no_items last h = absurd cc
last-found (item x no_items) last h = ap (λ (n : Node). last_slots (item n no_items)) (some-is x last h)
last-found (item x (item m xs)) last h = last-found (item m xs) last h

last-put : (put : Slots → Slots) (xs : Items) (last changed : Node) → last_item xs ≡ Some last → item changed no_items
    ≡ put_last put (item last no_items)
    → with_last changed xs ≡ put_last put xs
last-put put no_items last changed h e = absurd cc
last-put put (item x no_items) last changed h e = e ∙ ap (λ (n : Node). put_last put (item n no_items)) (sym (some-is x last h))
last-put put (item x (item m xs)) last changed h e = ap (item x) (last-put put (item m xs) last changed h e)

last-same : (xs : Items) (last : Node) → last_item xs ≡ Some last → with_last last xs ≡ xs
last-same no_items last h = refl
last-same (item x no_items) last h = ap (λ (n : Node). item n no_items) (sym (some-is x last h))
last-same (item x (item m xs)) last h = ap (item x) (last-same (item m xs) last h)

one_item : (n m : Node) → item n no_items ≡ item m no_items → n ≡ m
one_item n m h = cc

pub swap-last : (block : List Text) (others out : Slots) (e : Extent) (xs ys : Items) (new last changed : Node) → new ≡ tables e ys
    → last_item xs ≡ Some last → ys ≡ with_last changed xs
    → Swaps (option_and_then (slots_along block) (last_slots (item last no_items))) others (item last no_items)
    (put_last (put_along block others) (item last no_items)) out (item changed no_items)
    → Swaps (option_and_then (slots_along block) (last_slots xs)) others (tables e xs) (tables e (put_last (put_along block others) xs)) out
    new
swap-last block others out e xs ys new last changed is one put f =
    let found = ap (option_and_then (slots_along block)) (sym (last-found xs last one)) in (
      λ inner h.
          let g = f.0 inner (found ∙ h) in
          (g.0, is ∙ ap (tables e) (put ∙ last-put (put_along block others) xs last changed one g.1)),
      λ h.
          let g = f.1 (found ∙ h) in
          (g.0, is ∙ ap (tables e) (put ∙ ap (λ (n : Node). with_last n xs) (one_item changed last g.1) ∙ last-same xs last one)),
    )

-- ---- between statements

-- what is put back is the whole
pub whole-again : (ks : List Text) (current root old out new : Slots) → slots_along ks root ≡ Some old
    → Swaps (slots_along ks root) current root (put_along ks current root) out new → new ≡ put_along ks current root
whole-again ks current root old out new there s = (s.0 old there).1

-- What is taken out of the whole, where the table of a block is there, is the whole together with what stays.
pub taken-out : (ks : List Text) (empty whole inner out new : Slots) → slots_along ks whole ≡ Some inner
    → Swaps (slots_along ks whole) empty whole (put_along ks empty whole) out new
    → (slots_along ks new ≡ Some empty) × (whole ≡ put_along ks out new)
taken-out ks empty whole inner out new there s =
    let (is, left) = s.0 inner there in (
      ap (slots_along ks) left ∙ along_put ks empty whole inner there,
      sym (ap (put_along ks out) left ∙ put_put ks empty out whole ∙ ap (λ (us : Slots). put_along ks us whole) is
          ∙ put_same ks whole inner there),
    )

-- ---- an array of tables as it is seen

pub tables_items : (a : ArrayOfTables) → (tables_view a).items ≡ items_view (out-ArrayOfTables a).values.items
tables_items a = search (rules, the_lemmas)

pub tables_extent : (a : ArrayOfTables) → (tables_view a).extent ≡ (out-ArrayOfTables a).span
tables_extent a = search (rules, the_lemmas)

pub tables-made : (e : Extent) (v : Vec Item Global) → tables_node (tables_view (roll-ArrayOfTables (record { values = v; span = e })))
    ≡ tables e (items_view v.items)
tables-made e v = search (rules, the_lemmas)
