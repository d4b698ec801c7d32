-- A line with other comments: one statement changes, and the tree is as its types see to.
use Rattle.std.proofs.Common.{◌≡◌, refl, sym, ◌∙◌, ap, subst, false, true, List, [], ◌∷◌, ◌++◌, Some}
use Rattle.std.specs.Prelude.{not}
use Rattle.toml_edit_model.specs.Text.{Text}
use Rattle.toml_edit_model.specs.Mode.{Mode}
use Rattle.toml_edit_model.specs.Spelling.{SpellsKey}
use Rattle.toml_edit_model.specs.Paths.{to_key}
use Rattle.toml_edit_model.specs.Tree.{Decor, Node, nothing, leaf, list, inline, table, tables, HasTrueSpelling, IsWellMade}
use Rattle.toml_edit_model.specs.Tree.{SlotsAreWellMade, Tree, is_value_node}
use Rattle.toml_edit_model.specs.HeaderOrder.{Visit}
use Rattle.toml_edit_model.specs.Slots.{Slot, keyed, lookup_slot, changed}
use Rattle.toml_edit_model.specs.Lists.{slot_list, slots_from, is_dotted_inline}
use Rattle.toml_edit_model.specs.Conversions.{with_decor}
use Rattle.toml_edit_laws.specs.Locality.{Turn, Leads, root_visit, edited, is_plain_value, OneChanges, StaysSteady}
use Rattle.toml_edit_laws.proofs.common.Tests.{and_both}
use Rattle.toml_edit_laws.proofs.locality.Made.{replaced_stays_made, split-made}
use Rattle.toml_edit_laws.proofs.locality.Replacing.{replaced}
use Rattle.toml_edit_laws.proofs.locality.Slots.{Found, found}
use Rattle.toml_edit_laws.proofs.locality.Sound.{Steady, steady-parts, leads-made, leads-sound, sound-slot}
use Rattle.toml_edit_edit_laws.proofs.commands.Keeping.{decor-made}
use Rattle.toml_edit_edit_laws.proofs.renaming.Along.{edited-same}
use Rattle.toml_edit_edit_laws.specs.Comments.{LineRecommented, RecommentedStaysMade}

decor-dotted : (d : Decor) (n : Node) → is_dotted_inline (with_decor d n) ≡ is_dotted_inline n
decor-dotted d (leaf s r e) = refl
decor-dotted d (list f xs) = refl
decor-dotted d (inline f ss) = refl
decor-dotted d (table f ss) = refl
decor-dotted d (tables e xs) = refl
decor-dotted d nothing = refl

decor-value : (d : Decor) (n : Node) → is_value_node (with_decor d n) ≡ is_value_node n
decor-value d (leaf s r e) = refl
decor-value d (list f xs) = refl
decor-value d (inline f ss) = refl
decor-value d (table f ss) = refl
decor-value d (tables e xs) = refl
decor-value d nothing = refl

-- the spelling of a key among others
made-key : (xs ys : List (Slot Node)) (s : Slot Node) → SlotsAreWellMade (slots_from (xs ++ (s ∷ ys)))
    → HasTrueSpelling (SpellsKey s.key.name) s.key.spelling
made-key [] ys s h = h.1
made-key (x ∷ xs) ys s h = made-key xs ys s h.3

-- the slot alone counts
module _ (t : Tree) (way : List Turn) (v : Visit) (k : Text) (h : Slot Node → Slot Node) (s : Slot Node) (made : SlotsAreWellMade t.slots)
    (leads : Leads way (root_visit t) v) (is_there : lookup_slot k (slot_list v.slots) ≡ Some s) where
  abbrev by_parts : Slot Node → Slot Node
  by_parts x = keyed (h s).key (h s).item

  same-edit : edited way (changed k by_parts) t ≡ edited way (changed k h) t
  same-edit =
      edited-same way (changed k by_parts) (changed k h) t v made leads
      (λ w.
      let fd : Found k s (slot_list v.slots) = found k v.slots s w is_there in
      fd.change by_parts ∙ sym (fd.change h))

pub recommented_stays_made : RecommentedStaysMade
recommented_stays_made t way v k h s d made leads is_there name spelling item =
    let w : SlotsAreWellMade v.slots = leads-made way (root_visit t) v made leads in
    let fd : Found k s (slot_list v.slots) = found k v.slots s w is_there in
    let own : HasTrueSpelling (SpellsKey s.key.name) s.key.spelling = made-key fd.front fd.back s (split-made k s v.slots fd w) in
    let spells : HasTrueSpelling (SpellsKey (h s).key.name) (h s).key.spelling =
    subst (λ x. HasTrueSpelling (SpellsKey x) (h s).key.spelling) (sym name)
    (subst (λ x. HasTrueSpelling (SpellsKey s.key.name) x) (sym spelling) own) in
    subst (λ (r : Tree). SlotsAreWellMade r.slots) (same-edit t way v k h s made leads is_there)
    (replaced_stays_made t way v k (λ _. (h s).key) s.key s.item (h s).item made leads is_there name (
      spells,
      subst IsWellMade (sym item) (decor-made d s.item fd.made),
    ))

module _ (mode : Mode) where
  pub line_recommented : LineRecommented mode
  line_recommented t way v k h s d made is_steady leads is_there value name item =
      let st : Steady mode t = steady-parts mode t is_steady in
      let w : SlotsAreWellMade v.slots = leads-made way (root_visit t) v made leads in
      let fd : Found k s (slot_list v.slots) = found k v.slots s w is_there in
      let undotted : is_dotted_inline s.item ≡ false =
      (sound-slot k s v.slots fd (leads-sound way (root_visit t) v made st.sound leads)).1 in
      let plain : is_plain_value (h s).item ≡ true =
      ap is_plain_value item
      ∙ and_both (is_value_node (with_decor d s.item)) (not (is_dotted_inline (with_decor d s.item))) (decor-value d s.item ∙ value)
      (ap not (decor-dotted d s.item ∙ undotted)) in
      subst (λ r. OneChanges mode t r (to_key v.path s.key.name) s.key (h s).key s.item (h s).item
      × StaysSteady mode t r) (same-edit t way v k h s made leads is_there)
      (replaced mode t way v k (λ _. (h s).key) s.key s.item (h s).item made is_steady leads is_there value plain name)
