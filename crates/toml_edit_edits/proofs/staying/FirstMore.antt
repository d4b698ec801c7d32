-- The first table of an array of tables, below keys that are missing.
use Rattle.std.proofs.Common.{◌≡◌, refl, sym, ◌∙◌, ap, subst, ℕ, suc, Bool, true, false, List, [], ◌∷◌, ◌++◌, append-nil, drop, length, take, Some, None}
use Rattle.std.specs.Prelude.{◌&&◌, if◌then◌else◌, map, not, Err, Ok}
use Rattle.std.specs.List.{AllByRecursion}
use Rattle.std.specs.Option.{option_map_or}
use Rattle.toml_edit_model.specs.Mode.{Mode}
use Rattle.toml_edit_model.specs.Text.{Text, is_empty, one}
use Rattle.toml_edit_model.specs.Conversions.{new_table}
use Rattle.toml_edit_model.specs.HeaderOrder.{Visit, node_walk, slots_walk, visit_of}
use Rattle.toml_edit_model.specs.Keys.{cleared_key, names}
use Rattle.toml_edit_model.specs.Lists.{on_slots, slot_list, slots_from, slots_in}
use Rattle.toml_edit_model.specs.Paths.{Path, at_key, to_element, to_key}
use Rattle.toml_edit_model.specs.Print.{below, table_lines}
use Rattle.toml_edit_model.specs.Slots.{Slot, keyed, lookup_slot}
use Rattle.toml_edit_model.specs.Tree.{InlineFields, Key, Node, Slots, SlotsAreWellMade, Tree, inline, is_value_node, no_slots, slot, table}
use Rattle.toml_edit_laws.specs.Locality.{Leads, Turn, edited, root_visit}
use Rattle.toml_edit_laws.proofs.common.Each.{all-append}
use Rattle.toml_edit_laws.proofs.common.OptionSteps.{some-is}
use Rattle.toml_edit_laws.proofs.common.PathLaws.{front-refl}
use Rattle.toml_edit_laws.proofs.locality.Blocks.{Block, block_of, blocks, blocks-append, is_headed}
use Rattle.toml_edit_laws.proofs.locality.Replacing.{itself}
use Rattle.toml_edit_laws.proofs.locality.Slots.{HaveOtherKeys, lines-append, none-there, slots_from-list, slots_under, walk-append}
use Rattle.toml_edit_laws.proofs.locality.Sound.{Steady, steady-parts}
use Rattle.toml_edit_laws.proofs.locality.Splice.{BlockSplice, LineSplice, other-blocks-out, other-lines-out}
use Rattle.toml_edit_laws.proofs.locality.Under.{IsBlockOut, IsBlockUnder, IsLineOut, node-under, slot_lines}
use Rattle.toml_edit_edit_laws.specs.Commands.{child, done, item_at, item_below, present, root_item}
use Rattle.toml_edit_edit_laws.specs.HeaderAdds.{OneTableMore}
use Rattle.toml_edit_edit_laws.proofs.commands.Finding.{some-and}
use Rattle.toml_edit_edit_laws.proofs.commands.Going.{item-along}
use Rattle.toml_edit_paths.specs.Calls.{replaced_at}
use Rattle.toml_edit_edits.specs.Effects.{changed_at}
use Rattle.toml_edit_edits.specs.FirstTable.{first_below, tabled, tabled_from}
use Rattle.toml_edit_edits.specs.Missing.{is_numbered, keys_there, unled}
use Rattle.toml_edit_edits.specs.Moves.{put_in}
use Rattle.toml_edit_edits.specs.OthersStay.{FirstAddsTable, first_visit, has_values}
use Rattle.toml_edit_edits.specs.declared.fault.EditFault.TheVariants.{NoSuchPath}
use Rattle.toml_edit_edit_laws.proofs.path_calls.Places.{names-join}
use Rattle.toml_edit_edits.proofs.staying.ElementMore.{has-header, one-block, own_slots}
use Rattle.toml_edit_edits.proofs.staying.SlotMore.{more-blocks, new-keys, old-keys, one_more, put-left, same-splice}
use Rattle.toml_edit_edits.proofs.staying.TableMore.{nothing_lined, one-table-more}
use Rattle.toml_edit_edits.proofs.staying.Tables.{walk-left}

and-false : (b : Bool) → (b && false) ≡ false
and-false true = refl
and-false false = refl

-- ---- the blocks of new tables

module _ (mode : Mode) (ss : Slots) (values : has_values ss ≡ true) where
  abbrev pub own : Node
  own = table new_table (own_slots mode ss values)

  -- those that exist only for the last one have neither header nor lines
  record NewBlocks (p : Path) (ks : List Key) (k : Key) (more : List Key) : Type 0 where
    implied : List Block
    is : blocks mode (node_walk (first_below more own) (to_key p k.name) (ks ++ (cleared_key k ∷ [])) false)
        ≡ implied ++ (block_of mode (first_visit p ks k more ss) ∷ [])
    bare_ones : AllByRecursion (λ b. (is_headed b ≡ false) × (b.lines ≡ [])) implied
    unplaced : AllByRecursion (λ (b : Block). b.fields.position ≡ None) implied
    headed : is_headed (block_of mode (first_visit p ks k more ss)) ≡ true
    last_unplaced : (first_visit p ks k more ss).fields.position ≡ None

  no-line : (l : Key) (more : List Key) (lk : List Key) → slot_lines mode l (first_below more own) lk ≡ []
  no-line l [] lk = refl
  no-line l (j ∷ more) lk = refl

  new-blocks : (p : Path) (ks : List Key) (k : Key) (more : List Key) → NewBlocks p ks k more
  new-blocks p ks k [] =
      let deep : List Key = ks ++ (cleared_key k ∷ []) in
      let q : Path = to_element (to_key p k.name) 0 in
      record {
        implied = [];
        is = ap (blocks mode) (append-nil (visit_of q deep true new_table (own_slots mode ss values) ∷ slots_walk (own_slots mode ss values) q deep))
            ∙ one-block mode ss values q deep;
        bare_ones = tt;
        unplaced = tt;
        headed = has-header mode ss values q ks (cleared_key k);
        last_unplaced = refl;
      }
  new-blocks p ks k (j ∷ more) =
      let deep : List Key = ks ++ (cleared_key k ∷ []) in
      let at : Path = to_key p k.name in
      let r = new-blocks at deep j more in
      let walk = node_walk (first_below more own) (to_key at j.name) (deep ++ (cleared_key j ∷ [])) false in
      let first : Block =
      block_of mode (visit_of at deep false (record new_table { is_implicit = true }) (slot (cleared_key j) (first_below more own) no_slots)) in
      let empty : first.lines ≡ [] = ap (λ z. z ++ []) (no-line (cleared_key j) more []) in
      record {
        implied = first ∷ r.implied;
        is = ap (λ z. first ∷ z) (blocks-append mode walk [] ∙ append-nil (blocks mode walk) ∙ r.is);
        bare_ones = ((ap (λ z. not (is_empty deep) && not (true && is_empty z)) empty ∙ and-false (not (is_empty deep)), empty), r.bare_ones);
        unplaced = (refl, r.unplaced);
        headed = r.headed;
        last_unplaced = r.last_unplaced;
      }

-- ---- a slot more

module _ (mode : Mode) (t : Tree) (way : List Turn) (w : Visit) (k : Key) (more : List Key) (ss : Slots) (values : has_values ss ≡ true)
    (made : SlotsAreWellMade t.slots) (st : Steady mode t) (leads : Leads way (root_visit t) w)
    (is_new : lookup_slot k.name (slot_list w.slots) ≡ None) where
  abbrev n : Node
  n = first_below more (own mode ss values)

  pub unlined : (lk : List Key) → slot_lines mode (cleared_key k) n lk ≡ []
  unlined = no-line mode ss values (cleared_key k) more

  abbrev pub more_slots : List (Slot Node) → List (Slot Node)
  more_slots = one_more mode w (cleared_key k) n unlined is_new

  abbrev q : Path
  q = to_key w.path k.name

  parts : NewBlocks mode ss values w.path w.keys k more
  parts = new-blocks mode ss values w.path w.keys k more

  abbrev last : Visit
  last = first_visit w.path w.keys k more ss

  pub first-more : OneTableMore mode t (edited way more_slots t) q last
  first-more =
      one-table-more mode t way w more_slots q (at_key k.name) (front-refl q) parts.implied last parts.bare_ones
      (all-append (λ (b : Block). b.fields.position ≡ None) parts.implied (block_of mode last ∷ []) parts.unplaced (parts.last_unplaced, tt))
      parts.headed
      (subst (AllByRecursion (IsBlockUnder q)) parts.is (node-under mode q n q (w.keys ++ (cleared_key k ∷ [])) false (front-refl q)))
      made st leads (same-splice mode w (cleared_key k) n unlined is_new)
      (subst (λ m. BlockSplice mode q itself [] m (blocks mode (slots_walk w.slots w.path w.keys))
      (blocks mode (slots_walk (slots_under more_slots w.slots) w.path w.keys))) parts.is (more-blocks mode w (cleared_key k) n unlined is_new))

-- ---- the law

was : (mode : Mode) (t u : Tree) (path : List Key) (w : Visit) (k : Key) (more : List Key) (f : InlineFields) (ss : Slots) (values : has_values ss ≡ true)
    → item_at (names path) t ≡ Some (table w.fields w.slots) → lookup_slot k.name (slot_list w.slots) ≡ None
    → tabled (path ++ (k ∷ more)) (inline f ss) t ≡ Ok u
    → changed_at (put_in (keyed (cleared_key k) (first_below more (own mode ss values)))) (names path) t ≡ Ok u
was mode t u path w k more f ss values there is_new h =
    by_test (is_numbered (k ∷ more)) (ap (λ q. tabled_from all q (inline f ss) t) (sym (new-keys t path w k more there is_new)) ∙ h)
  where
    all : List Key
    all = path ++ (k ∷ more)

    s : Slot Node
    s = keyed (cleared_key k) (first_below more (own mode ss values))

    by_test : (b : Bool)
        → (if b then Err NoSuchPath else changed_at (put_in s) (names (take (keys_there (names all) (root_item t)) all)) t) ≡ Ok u
        → changed_at (put_in s) (names path) t ≡ Ok u
    by_test true g = absurd cc
    by_test false g = ap (λ q. changed_at (put_in s) (names q) t) (sym (old-keys t path w k more there is_new)) ∙ g

pub first-adds : (mode : Mode) → FirstAddsTable mode
first-adds mode t u path w k more f ss made steady named is_new values h =
    let st = steady-parts mode t steady in
    let at = item-along named.way (names path) (root_visit t) w named.goes named.leads in
    let put = put-left t u (names path) w (keyed (cleared_key k) (first_below more (own mode ss values))) at
    (was mode t u path w k more f ss values at is_new h) in
    let g : List (Slot Node) → List (Slot Node) = more_slots mode t named.way w k more ss values made st named.leads is_new in
    let is : u ≡ edited named.way g t =
    walk-left t u (names path) w.fields w.slots g made (record { visit = w; named = named; fields = refl; slots = refl }) put in
    subst (λ (y : Tree). OneTableMore mode t y (to_key w.path k.name) (first_visit w.path w.keys k more ss)) (sym is)
    (first-more mode t named.way w k more ss values made st named.leads is_new)
