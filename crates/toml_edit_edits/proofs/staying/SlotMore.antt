-- A slot more at the end of a table, where its item has no lines: the lines stay, and its blocks come after those of the others.
use Rattle.std.proofs.Common.{◌≡◌, refl, sym, ◌∙◌, ap, subst, ℕ, suc, List, [], ◌∷◌, ◌++◌, append-nil, drop, length, take, Some, None}
use Rattle.std.specs.Prelude.{◌&&◌, false, map, not, Ok}
use Rattle.std.specs.List.{AllByRecursion}
use Rattle.std.specs.Option.{option_map_or}
use Rattle.toml_edit_model.specs.HeaderOrder.{Visit, node_walk, slots_walk}
use Rattle.toml_edit_model.specs.Keys.{names}
use Rattle.toml_edit_model.specs.Lists.{on_slots, slot_list, slots_from, slots_in}
use Rattle.toml_edit_model.specs.Mode.{Mode}
use Rattle.toml_edit_model.specs.Paths.{Path, to_key}
use Rattle.toml_edit_model.specs.Print.{below, table_lines}
use Rattle.toml_edit_model.specs.Slots.{Slot, keyed, lookup_slot}
use Rattle.toml_edit_model.specs.Text.{Text, one}
use Rattle.toml_edit_model.specs.Tree.{Key, Node, Tree, is_value_node, table}
use Rattle.toml_edit_laws.proofs.common.OptionSteps.{some-is}
use Rattle.toml_edit_laws.proofs.common.PathLaws.{front-refl}
use Rattle.toml_edit_laws.proofs.locality.Blocks.{blocks, blocks-append}
use Rattle.toml_edit_laws.proofs.locality.Replacing.{itself}
use Rattle.toml_edit_laws.proofs.locality.Slots.{HaveOtherKeys, lines-append, none-there, slots_from-list, slots_under, walk-append}
use Rattle.toml_edit_laws.proofs.locality.Splice.{BlockSplice, LineSplice, other-blocks-out, other-lines-out}
use Rattle.toml_edit_laws.proofs.locality.Under.{IsBlockOut, IsLineOut, slot_lines}
use Rattle.toml_edit_edit_laws.specs.Commands.{child, done, item_at, item_below, present, root_item}
use Rattle.toml_edit_edit_laws.proofs.commands.Finding.{some-and}
use Rattle.toml_edit_edit_laws.proofs.path_calls.Places.{names-join}
use Rattle.toml_edit_paths.specs.Calls.{replaced_at}
use Rattle.toml_edit_edits.specs.Effects.{changed_at}
use Rattle.toml_edit_edits.specs.Missing.{keys_there, unled}
use Rattle.toml_edit_edits.specs.Moves.{put_in}
use Rattle.toml_edit_edits.proofs.staying.Carrying.{put-was}
use Rattle.toml_edit_edits.proofs.staying.Effects.{was-changed}

module _ (mode : Mode) (w : Visit) (k : Key) (n : Node) (no-line : (lk : List Key) → slot_lines mode k n lk ≡ [])
    (is_new : lookup_slot k.name (slot_list w.slots) ≡ None) where
  abbrev pub one_more : List (Slot Node) → List (Slot Node)
  one_more = λ es. es ++ (keyed k n ∷ [])

  abbrev q : Path
  q = to_key w.path k.name

  abbrev walk : List Visit
  walk = node_walk n q (w.keys ++ (k ∷ [])) false

  others : HaveOtherKeys k.name (slot_list w.slots)
  others = none-there k.name (slot_list w.slots) is_new

  same-lines : (lk : List Key) → table_lines mode (slots_under one_more w.slots) lk ≡ table_lines mode w.slots lk
  same-lines lk =
      lines-append mode (slot_list w.slots) (keyed k n ∷ []) lk
      ∙ ap (λ z. table_lines mode z lk ++ (slot_lines mode k n lk ++ [])) (slots_from-list w.slots)
      ∙ ap (λ z. table_lines mode w.slots lk ++ (z ++ [])) (no-line lk)
      ∙ append-nil (table_lines mode w.slots lk)

  pub same-splice : (bp : Path) (lk : List Key) → below bp lk ≡ w.path
      → LineSplice mode q bp [] [] (table_lines mode w.slots lk) (table_lines mode (slots_under one_more w.slots) lk)
  same-splice bp lk at =
      record {
        front = table_lines mode w.slots lk;
        back = [];
        first = sym (append-nil (table_lines mode w.slots lk));
        second = same-lines lk ∙ sym (append-nil (table_lines mode w.slots lk));
        out_front = subst (λ z. AllByRecursion (IsLineOut q bp) (table_lines mode z lk)) (slots_from-list w.slots)
            (other-lines-out mode q w.path k.name (front-refl q) bp lk (slot_list w.slots) at others);
        out_back = tt;
      }

  pub more-blocks : BlockSplice mode q itself [] (blocks mode walk) (blocks mode (slots_walk w.slots w.path w.keys))
      (blocks mode (slots_walk (slots_under one_more w.slots) w.path w.keys))
  more-blocks =
      record {
        front = blocks mode (slots_walk w.slots w.path w.keys);
        back = [];
        first = sym (append-nil (blocks mode (slots_walk w.slots w.path w.keys)));
        second = ap (map itself)
            (ap (blocks mode)
            (walk-append (slot_list w.slots) (keyed k n ∷ []) w.path w.keys
            ∙ ap (λ z. slots_walk z w.path w.keys ++ (walk ++ [])) (slots_from-list w.slots))
            ∙ blocks-append mode (slots_walk w.slots w.path w.keys) (walk ++ [])
            ∙ ap (λ z. blocks mode (slots_walk w.slots w.path w.keys) ++ z) (blocks-append mode walk []));
        out_front = subst (λ z. AllByRecursion (IsBlockOut q) (blocks mode (slots_walk z w.path w.keys))) (slots_from-list w.slots)
            (other-blocks-out mode q w.path k.name (front-refl q) w.keys (slot_list w.slots) others);
        out_back = tt;
      }

-- ---- the keys that are there

drop-front : {A : Type 0} (xs ys : List A) → drop (length xs) (xs ++ ys) ≡ ys
drop-front [] ys = refl
drop-front (x ∷ xs) ys = drop-front xs ys

take-front : {A : Type 0} (xs ys : List A) → take (length xs) (xs ++ ys) ≡ xs
take-front [] ys = refl
take-front {A} (x ∷ xs) ys = ap (λ (zs : List A). x ∷ zs) (take-front xs ys)

there-along : (path : List Key) (rest : List Text) (n m : Node) → item_below (names path) n ≡ Some m → keys_there rest m ≡ 0
    → keys_there (names path ++ rest) n ≡ length path
there-along [] rest n m h none = ap (keys_there rest) (some-is n m h) ∙ none
there-along (j ∷ path) rest n m h none =
    let c = some-and (item_below (names path)) (child j.name n) m h in
    ap (λ o. option_map_or (λ x. suc (keys_there (names path ++ rest) x)) o 0) c.1 ∙ ap suc (there-along path rest c.0 m c.2 none)

module _ (t : Tree) (path : List Key) (w : Visit) (k : Key) (more : List Key)
    (there : item_at (names path) t ≡ Some (table w.fields w.slots)) (is_new : lookup_slot k.name (slot_list w.slots) ≡ None) where
  count : keys_there (names (path ++ (k ∷ more))) (root_item t) ≡ length path
  count =
      ap (λ q. keys_there q (root_item t)) (names-join path (k ∷ more))
      ∙ there-along path (k.name ∷ names more) (root_item t) (table w.fields w.slots) there
      (ap (λ o. option_map_or (λ x. suc (keys_there (names more) x)) (present o) 0) is_new)

  pub new-keys : unled (path ++ (k ∷ more)) t ≡ k ∷ more
  new-keys = ap (λ i. drop i (path ++ (k ∷ more))) count ∙ drop-front path (k ∷ more)

  pub old-keys : take (keys_there (names (path ++ (k ∷ more))) (root_item t)) (path ++ (k ∷ more)) ≡ path
  old-keys = ap (λ i. take i (path ++ (k ∷ more))) count ∙ take-front path (k ∷ more)

-- ---- the table

pub put-left : (t u : Tree) (path : List Text) (w : Visit) (s : Slot Node) → item_at path t ≡ Some (table w.fields w.slots)
    → changed_at (put_in s) path t ≡ Ok u → replaced_at path (table w.fields (slots_from (slot_list w.slots ++ one s))) t ≡ done u
put-left t u path w s there h =
    let x = was-changed (put_in s) path t u _ h in
    let p = put-was s x.old x.new (is_value_node x.old && not (is_value_node s.item)) x.goes in
    let old : x.old ≡ table w.fields w.slots = sym (some-is (table w.fields w.slots) x.old (sym there ∙ x.there)) in
    let slots : slot_list w.slots ≡ p.slots = some-is (slot_list w.slots) p.slots (ap slots_in (sym old) ∙ p.there) in
    let new : x.new ≡ table w.fields (slots_from (slot_list w.slots ++ one s)) =
    p.is ∙ ap (λ n. on_slots (λ _. p.slots ++ one s) n) old ∙ ap (λ es. table w.fields (slots_from (es ++ one s))) (sym slots) in
    ap (λ n. replaced_at path n t) (sym new) ∙ x.put
