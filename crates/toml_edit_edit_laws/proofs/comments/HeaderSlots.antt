-- The slot in which a table has another decor: its lines, its blocks and its facts.
use Rattle.std.proofs.Common.{◌≡◌, refl, sym, ◌∙◌, ap, subst, ℕ, suc, ◌+◌, arith, true, false, List, [], ◌∷◌, ◌++◌, Some}
use Rattle.std.specs.Prelude.{if◌then◌else◌}
use Rattle.toml_edit_model.specs.Mode.{Mode}
use Rattle.toml_edit_model.specs.Text.{Text}
use Rattle.toml_edit_model.specs.Paths.{at_key, Path, to_key, to_element}
use Rattle.toml_edit_model.specs.Meaning.{fact, a_table, an_array}
use Rattle.toml_edit_model.specs.Tree.{Key, Decor, TableFields, Node, table, tables, Items, Slots, IsWellMade, ItemsAreWellMade}
use Rattle.toml_edit_model.specs.Tree.{SlotsAreWellMade}
use Rattle.toml_edit_model.specs.HeaderOrder.{Visit, visit_of, node_walk, items_walk, slots_walk}
use Rattle.toml_edit_model.specs.Shown.{has_table, is_shown, node_facts, tables_facts, slots_facts, shown_meaning}
use Rattle.toml_edit_model.specs.Slots.{Slot, keyed, on_item, changed_at, lookup_slot}
use Rattle.toml_edit_model.specs.Lists.{slot_list, slots_from, items_from, on_items, is_dotted_inline}
use Rattle.toml_edit_laws.specs.Locality.{Turn, into_table, into_element, Leads, root_visit, along, element_count}
use Rattle.toml_edit_laws.proofs.common.PathLaws.{front-refl}
use Rattle.toml_edit_laws.proofs.common.Tests.{if-true, if-false}
use Rattle.toml_edit_laws.proofs.locality.Blocks.{Block, block_of, blocks, blocks-append}
use Rattle.toml_edit_laws.proofs.locality.Elements.{counted, counted-more, items-append, item-made}
use Rattle.toml_edit_laws.proofs.locality.Made.{made-node, items-swap, split-made, along-made}
use Rattle.toml_edit_laws.proofs.locality.Slots.{slots_under, Found, found, slots_from-list, items_from-list, change-item}
use Rattle.toml_edit_laws.proofs.locality.Sound.{NodeIsSound, ItemsAreSound, sound-items, sound-items-front, sound-items-back}
use Rattle.toml_edit_laws.proofs.locality.Under.{slot_lines}
use Rattle.toml_edit_edit_laws.proofs.comments.Facts.{as_is, stays-as_is, facts-as_is}
use Rattle.toml_edit_edit_laws.proofs.renaming.Facts.{Told, has-element, in-place, element-in-place, along-told}
use Rattle.toml_edit_edit_laws.specs.Comments.{recommented, with_header_decor, header_edited, visit_with, HeaderRecommentedMeans}
use Rattle.toml_edit_edit_laws.specs.Comments.{HeaderRecommentedStaysMade}

-- ---- the slot that holds the table

-- one block in the place of another
pub record BlockChange (old new : List Block) (b c : Block) : Type 0 where
  pub front : List Block
  pub back : List Block
  pub first : old ≡ front ++ (b ∷ back)
  pub second : new ≡ front ++ (c ∷ back)

-- one slot of a table has another item, in which the decor of one table is another
pub record Slotted (g : List (Slot Node) → List (Slot Node)) (s v : Visit) (d : Decor) : Type 0 where
  pub name : Text
  pub key : Key
  pub old : Node
  pub new : Node
  pub is_there : lookup_slot name (slot_list s.slots) ≡ Some (keyed key old)
  pub change : (fd : Found name (keyed key old) (slot_list s.slots)) → g (slot_list s.slots) ≡ fd.front ++ (keyed key new ∷ fd.back)
  pub inline : is_dotted_inline new ≡ false
  pub sound : NodeIsSound old → NodeIsSound new
  pub made : IsWellMade old → IsWellMade new
  pub shown : is_shown new ≡ is_shown old
  pub facts : node_facts new (to_key s.path key.name) ≡ node_facts old (to_key s.path key.name)
  pub lines : (mode : Mode) (lk : List Key) → slot_lines mode key new lk ≡ slot_lines mode key old lk
  pub changes : (mode : Mode) → v.fields.is_dotted ≡ false
      → BlockChange (blocks mode (node_walk old (to_key s.path key.name) (s.keys ++ (key ∷ [])) false))
      (blocks mode (node_walk new (to_key s.path key.name) (s.keys ++ (key ∷ [])) false))
      (block_of mode v) (block_of mode (visit_with d v))
  pub kept : (mode : Mode) → v.fields.is_dotted ≡ true
      → blocks mode (node_walk new (to_key s.path key.name) (s.keys ++ (key ∷ [])) false)
      ≡ blocks mode (node_walk old (to_key s.path key.name) (s.keys ++ (key ∷ [])) false)

-- an element with another decor
elements-sound : (before after : List Node) (f h : TableFields) (ss : Slots) → h.is_dotted ≡ f.is_dotted
    → ItemsAreSound (items_from (before ++ (table f ss ∷ after)))
    → ItemsAreSound (items_from (before ++ (table h ss ∷ after)))
elements-sound before after f h ss e a =
    let back = sound-items-back before (table f ss ∷ after) a in
    sound-items before (table h ss ∷ after) (sound-items-front before (table f ss ∷ after) a) ((e ∙ back.0.0, back.0.1), back.1)

-- the blocks of an element among those of its array
module _ (mode : Mode) (r : Path) (ks : List Key) (before after : List Node) (f : TableFields) (ss : Slots) where
  abbrev element_path : Path
  element_path = to_element r (element_count before)

  abbrev below_element : List Block
  below_element = blocks mode (slots_walk ss element_path ks)

  abbrev own_element : Block
  own_element = block_of mode (visit_of element_path ks true f ss)

  abbrev blocks_before : List Block
  blocks_before = blocks mode (items_walk (items_from before) r ks 0)

  abbrev blocks_after : List Block
  blocks_after = blocks mode (items_walk (items_from after) r ks (suc (element_count before)))

  element-blocks : blocks mode (items_walk (items_from (before ++ (table f ss ∷ after))) r ks 0)
      ≡ blocks_before ++ ((if f.is_dotted then below_element else own_element ∷ below_element) ++ blocks_after)
  element-blocks =
      let m : ℕ = element_count before in
      let count : counted 0 before ≡ m = (let c : counted 0 before ≡ 0 + element_count before = counted-more 0 before in omega arith) in
      let here : ℕ → List Visit = λ z. visit_of (to_element r z) ks true f ss ∷ slots_walk ss (to_element r z) ks in
      ap (blocks mode) (items-append before (table f ss ∷ after) r ks 0)
      ∙ ap (λ z. blocks mode (items_walk (items_from before) r ks 0 ++ (here z ++ items_walk (items_from after) r ks (suc z)))) count
      ∙ blocks-append mode (items_walk (items_from before) r ks 0) (here m ++ items_walk (items_from after) r ks (suc m))
      ∙ ap (λ z. blocks_before ++ z) (blocks-append mode (here m) (items_walk (items_from after) r ks (suc m)))

  element-undotted : f.is_dotted ≡ false → blocks mode (items_walk (items_from (before ++ (table f ss ∷ after))) r ks 0) ≡ blocks_before
      ++ (own_element ∷ (below_element ++ blocks_after))
  element-undotted d =
      element-blocks ∙ ap (λ z. blocks_before ++ (z ++ blocks_after)) (if-false f.is_dotted below_element (own_element ∷ below_element) d)

  element-dotted : f.is_dotted ≡ true → blocks mode (items_walk (items_from (before ++ (table f ss ∷ after))) r ks 0) ≡ blocks_before
      ++ (below_element ++ blocks_after)
  element-dotted d = element-blocks ∙ ap (λ z. blocks_before
      ++ (z ++ blocks_after)) (if-true f.is_dotted below_element (own_element ∷ below_element) d)

pub slotted : (x : Turn) (s v : Visit) (d : Decor) → Leads (x ∷ []) s v → Slotted (header_edited x d) s v d
slotted (into_table k) s v d (l, f, ss, is_there, e) =
    let p : Path = to_key s.path l.name in
    let ks : List Key = s.keys ++ (l ∷ []) in
    let h : TableFields = recommented d f in
    record {
      name = k;
      key = l;
      old = table f ss;
      new = table (recommented d f) ss;
      is_there = is_there;
      change = λ fd. fd.change (on_item (with_header_decor d));
      inline = refl;
      sound = λ h. h;
      made = λ h. h;
      shown = refl;
      facts = refl;
      lines = λ mode lk. refl;
      changes = λ mode.
          subst (λ (y : Visit). y.fields.is_dotted ≡ false
          → BlockChange (blocks mode (node_walk (table f ss) p ks false)) (blocks mode (node_walk (table h ss) p ks false))
          (block_of mode y) (block_of mode (visit_with d y))) e
          (λ u.
          record {
            front = [];
            back = blocks mode (slots_walk ss p ks);
            first = if-false f.is_dotted (blocks mode (slots_walk ss p ks)) (block_of mode (visit_of p ks false f ss)
                ∷ blocks mode (slots_walk ss p ks)) u;
            second = if-false f.is_dotted (blocks mode (slots_walk ss p ks)) (block_of mode (visit_of p ks false h ss)
                ∷ blocks mode (slots_walk ss p ks)) u;
          });
      kept = λ mode.
          subst (λ (y : Visit). y.fields.is_dotted ≡ true → blocks mode (node_walk (table h ss) p ks false)
          ≡ blocks mode (node_walk (table f ss) p ks false)) e
          (λ u.
          if-true f.is_dotted (blocks mode (slots_walk ss p ks)) (block_of mode (visit_of p ks false h ss)
          ∷ blocks mode (slots_walk ss p ks)) u
          ∙ sym (if-true f.is_dotted (blocks mode (slots_walk ss p ks)) (block_of mode (visit_of p ks false f ss)
          ∷ blocks mode (slots_walk ss p ks)) u));
    }
slotted (into_element k i) s v d (l, x, xs, before, f, ss, after, is_there, items, place, e) =
    let h : TableFields = recommented d f in
    let ys : Items = items_from (before ++ (table h ss ∷ after)) in
    let ex : xs ≡ items_from (before ++ (table f ss ∷ after)) = sym (items_from-list xs) ∙ ap items_from items in
    let r : Path = to_key s.path l.name in
    let q : Path = to_element r (element_count before) in
    let ks : List Key = s.keys ++ (l ∷ []) in
    record {
      name = k;
      key = l;
      old = tables x xs;
      new = tables x ys;
      is_there = is_there;
      change = λ fd.
          fd.change (on_item (on_items (changed_at i (with_header_decor d))))
          ∙ ap (λ zs. fd.front ++ (keyed l (tables x (items_from zs)) ∷ fd.back)) (ap (changed_at i (with_header_decor d)) items
          ∙ change-item before (table f ss) after i (with_header_decor d) place);
      inline = refl;
      sound = λ a. elements-sound before after f h ss refl (subst ItemsAreSound ex a);
      made = λ a.
          let all : ItemsAreWellMade (items_from (before ++ (table f ss ∷ after))) = subst ItemsAreWellMade ex a in
          items-swap before after (table f ss) (table h ss) (item-made before (table f ss) after all) all;
      shown = has-element as_is q (stays-as_is q) before after h ss
          ∙ sym (ap has_table ex ∙ has-element as_is q (stays-as_is q) before after f ss);
      facts = ap (λ z. fact r an_array ∷ z)
          (element-in-place as_is q (stays-as_is q) r before after f h ss ss (front-refl q) (sym (facts-as_is (node_facts (table f ss) q)))
          ∙ facts-as_is (tables_facts (items_from (before ++ (table f ss ∷ after))) r 0) ∙ ap (λ z. tables_facts z r 0) (sym ex));
      lines = λ mode lk. refl;
      changes = λ mode.
          subst (λ (y : Visit). y.fields.is_dotted ≡ false
          → BlockChange (blocks mode (items_walk xs r ks 0)) (blocks mode (items_walk ys r ks 0)) (block_of mode y)
          (block_of mode (visit_with d y))) e
          (λ u.
          record {
            front = blocks mode (items_walk (items_from before) r ks 0);
            back = blocks mode (slots_walk ss q ks) ++ blocks mode (items_walk (items_from after) r ks (suc (element_count before)));
            first = ap (λ z. blocks mode (items_walk z r ks 0)) ex ∙ element-undotted mode r ks before after f ss u;
            second = element-undotted mode r ks before after h ss u;
          });
      kept = λ mode.
          subst (λ (y : Visit). y.fields.is_dotted ≡ true → blocks mode (items_walk ys r ks 0) ≡ blocks mode (items_walk xs r ks 0)) e
          (λ u.
          element-dotted mode r ks before after h ss u ∙ sym (ap (λ z. blocks mode (items_walk z r ks 0)) ex
          ∙ element-dotted mode r ks before after f ss u));
    }

-- ---- meaning, and what the types see to

pub header_recommented_means : HeaderRecommentedMeans
unfolding shown_meaning
header_recommented_means t way s v x d made leads turn =
    let c : Slotted (header_edited x d) s v d = slotted x s v d turn in
    let q : Path = to_key s.path c.key.name in
    let told : Told as_is q (stays-as_is q) [] t.slots (slots_under (along way (header_edited x d)) t.slots) =
    along-told as_is q (stays-as_is q) s (at_key c.key.name) (front-refl q) way (header_edited x d) (root_visit t) made leads
    (λ w.
    let fd : Found c.name (keyed c.key c.old) (slot_list s.slots) = found c.name s.slots (keyed c.key c.old) w c.is_there in
    subst (λ ss. Told as_is q (stays-as_is q) s.path ss (slots_under (header_edited x d) s.slots)) (sym (sym (slots_from-list s.slots)
    ∙ ap slots_from fd.is))
    (subst (λ ss. Told as_is q (stays-as_is q) s.path (slots_from (fd.front ++ (keyed c.key c.old ∷ fd.back))) ss)
    (sym (ap slots_from (c.change fd)))
    (in-place as_is q (stays-as_is q) s.path fd.front fd.back (keyed c.key c.old) (keyed c.key c.new) (front-refl q) fd.others_front
    fd.others_back c.shown
    (c.facts ∙ sym (facts-as_is (node_facts c.old q)))))) in
    ap (λ zs. fact [] a_table ∷ zs) (told.0 ∙ facts-as_is (slots_facts t.slots []))

pub header_recommented_stays_made : HeaderRecommentedStaysMade
header_recommented_stays_made t way s v x d made leads turn =
    let c : Slotted (header_edited x d) s v d = slotted x s v d turn in
    along-made way (header_edited x d) (root_visit t) s made leads
    (λ w.
    let fd : Found c.name (keyed c.key c.old) (slot_list s.slots) = found c.name s.slots (keyed c.key c.old) w c.is_there in
    subst SlotsAreWellMade (sym (ap slots_from (c.change fd)))
    (made-node fd.front fd.back c.key c.old c.new (c.made fd.made) (split-made c.name (keyed c.key c.old) s.slots fd w)))
