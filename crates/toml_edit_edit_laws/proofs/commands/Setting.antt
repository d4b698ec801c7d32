-- `set` at a value of a table that the walk enters, or inside it.
use Rattle.std.proofs.Common.{◌≡◌, refl, sym, ◌∙◌, ap, subst, Bool, true, false, List, [], ◌∷◌, ◌++◌, map, Some}
use Rattle.std.specs.Prelude.{not}
use Rattle.toml_edit_model.specs.Normal.{normal_last}
use Rattle.toml_edit_model.specs.Mode.{Mode}
use Rattle.toml_edit_model.specs.Text.{Text}
use Rattle.toml_edit_model.specs.Syntax.{Statement, key_line, Document, Frame}
use Rattle.toml_edit_model.specs.Paths.{Path, to_key}
use Rattle.toml_edit_model.specs.Tree.{Decor, Key, Node, nothing, leaf, list, inline, table, tables, Tree, node_decor, is_value_node}
use Rattle.toml_edit_model.specs.Tree.{SlotsAreWellMade}
use Rattle.toml_edit_model.specs.HeaderOrder.{Visit}
use Rattle.toml_edit_model.specs.Fits.{is_steady_in}
use Rattle.toml_edit_model.specs.Print.{Printed, printed, printed_line, printed_table, value_of, line_statement}
use Rattle.toml_edit_model.specs.Conversions.{with_decor}
use Rattle.toml_edit_model.specs.Keys.{cleared_key}
use Rattle.toml_edit_model.specs.Slots.{Slot, keyed, with_item, lookup_slot, changed}
use Rattle.toml_edit_model.specs.Lists.{slot_list, slots_from, item_list, items_from, is_dotted_inline}
use Rattle.toml_edit_laws.specs.Locality.{Turn, root_visit, edited, is_plain_value, value_line, statements, OneChanges, OneMore}
use Rattle.toml_edit_laws.specs.Locality.{StaysSteady}
use Rattle.toml_edit_edit_laws.specs.Commands.{Answer, done, refused, mapped, element_of, change_slot, change_element, child_changed, root_item}
use Rattle.toml_edit_edit_laws.specs.Commands.{set_below, with_slots}
use Rattle.toml_edit_edit_laws.specs.CommandLaws.{IsRead, NamesTable, text_with, ChangesStatement, SetChanges, made_below, AddsStatement}
use Rattle.toml_edit_edit_laws.specs.CommandLaws.{SetAdds}
use Rattle.toml_edit_laws.proofs.locality.Slots.{Found, found}
use Rattle.toml_edit_laws.proofs.locality.Sound.{Steady, steady-parts, leads-made, leads-sound, sound-slot}
use Rattle.toml_edit_laws.proofs.locality.Values.{keeps_frame}
use Rattle.toml_edit_laws.proofs.locality.Replacing.{replaced}
use Rattle.toml_edit_laws.proofs.locality.Adding.{added}
use Rattle.toml_edit_edit_laws.proofs.commands.Going.{goes-along}
use Rattle.toml_edit_edit_laws.proofs.commands.Reading.{statements-read, edited-text}
use Rattle.toml_edit_laws.proofs.normal_texts.SteadyTrees.{steady-tree}
use Rattle.toml_edit_laws.proofs.common.Statements.{statements-append}

-- what an answer was made of
pub record WasMapped {A B : Type 0} (f : A → B) (a : Answer A) (b : B) : Type 0 where
  pub from : A
  pub is : a ≡ done from
  pub gives : b ≡ f from

pub done-is : {A : Type 0} (a b : A) → done a ≡ done b → a ≡ b
done-is a b h = cc

pub was-mapped : {A B : Type 0} (f : A → B) (a : Answer A) (b : B) → mapped f a ≡ done b → WasMapped f a b
was-mapped f (done x) b h = record { from = x; is = refl; gives = sym (done-is (f x) b h) }
was-mapped f (refused r) b h = absurd cc

-- ---- a value, changed

-- it is plain, and has the decor of the old one
abbrev pub Stands : Node → Node → Type 0
Stands old n = (is_plain_value n ≡ true) × (node_decor n ≡ node_decor old)

with-decor-stands : (d : Decor) (v old : Node) → is_plain_value v ≡ true → d ≡ node_decor old → Stands old (with_decor d v)
with-decor-stands d (leaf s r e) old h is = (h, is)
with-decor-stands d (list f xs) old h is = (h, is)
with-decor-stands d (inline f ss) old h is = (h, is)
with-decor-stands d (table f ss) old h is = absurd cc
with-decor-stands d (tables e xs) old h is = absurd cc
with-decor-stands d nothing old h is = absurd cc

-- the value after a change inside it
pub below-stands : (makes : Bool) (k : Key) (go : Node → Answer Node) (old n : Node) → is_value_node old ≡ true → is_dotted_inline old
    ≡ false
    → child_changed makes k go old ≡ done n → Stands old n
below-stands makes k go (leaf s r d) n is undotted h = absurd cc
below-stands makes k go (list f xs) n is undotted h =
    let w = was-mapped (λ ns. list f (items_from ns)) (change_element go (item_list xs) (element_of is_value_node k.name (item_list xs))) n h in
    subst (Stands (list f xs)) (sym w.gives) (refl, refl)
below-stands makes k go (inline f ss) n is undotted h =
    let w = was-mapped (λ xs. inline f (slots_from xs)) (change_slot makes k go (slot_list ss) (lookup_slot k.name (slot_list ss))) n h in
    subst (Stands (inline f ss)) (sym w.gives) (ap not undotted, refl)
below-stands makes k go (table f ss) n is undotted h = absurd cc
below-stands makes k go (tables e xs) n is undotted h = absurd cc
below-stands makes k go nothing n is undotted h = absurd cc

-- the value after `set` at it, or inside it
set-stands : (value : Node) (inner : List Key) (old n : Node) → is_value_node old ≡ true → is_dotted_inline old ≡ false
    → is_plain_value value ≡ true
    → set_below value inner old ≡ done n → Stands old n
set-stands value [] (leaf s r d) n is undotted plain h =
    subst (Stands (leaf s r d)) (done-is (with_decor d value) n h) (with-decor-stands d value (leaf s r d) plain refl)
set-stands value [] (list f xs) n is undotted plain h =
    subst (Stands (list f xs)) (done-is (with_decor f.decor value) n h) (with-decor-stands f.decor value (list f xs) plain refl)
set-stands value [] (inline f ss) n is undotted plain h =
    subst (Stands (inline f ss)) (done-is (with_decor f.decor value) n h) (with-decor-stands f.decor value (inline f ss) plain refl)
set-stands value (k ∷ inner) old n is undotted plain h = below-stands true k (set_below value inner) old n is undotted h
set-stands value [] (table f ss) n is undotted plain h = absurd cc
set-stands value [] (tables e xs) n is undotted plain h = absurd cc
set-stands value [] nothing n is undotted plain h = absurd cc

pub made-below-is : (value : Node) (more : List Key) → set_below value more nothing ≡ done (made_below more value)
made-below-is value [] = refl
made-below-is value (k ∷ more) = rw (made-below-is value more) refl

made-below-plain : (value : Node) (more : List Key) → is_plain_value value ≡ true → is_plain_value (made_below more value) ≡ true
made-below-plain value [] h = h
made-below-plain value (k ∷ more) h = refl

module _ (mode : Mode) where
  -- ---- the statement that changes

  module _ (d : Document) (t : Tree) (read : IsRead mode d t) (way : List Turn) (g : List (Slot Node)
      → List (Slot Node)) (p : Path) (l : Key) (old n : Node)
      (same : node_decor n ≡ node_decor old) (one : OneChanges mode t (edited way g t) p l l old n) where
    abbrev at_end : List Key
    at_end = one.keys ++ (l ∷ [])

    abbrev frame : Frame
    frame = (keeps_frame mode at_end old n same).0

    abbrev end : Text
    end = (keeps_frame mode at_end old n same).1

    framed-old : line_statement mode (value_line mode at_end old) ≡ key_line frame (value_of mode old) end
    framed-old = (keeps_frame mode at_end old n same).2

    framed-new : line_statement mode (value_line mode at_end n) ≡ key_line frame (value_of mode n) end
    framed-new = (keeps_frame mode at_end old n same).3

    abbrev as_printed : Path → Statement → Printed
    as_printed q s = record { block = one.block; path = q; statement = s }

    first-is : printed mode t ≡ one.before ++ (as_printed p (key_line frame (value_of mode old) end) ∷ one.after)
    first-is =
        one.first ∙ ap (λ q. one.before ++ (as_printed q (line_statement mode (value_line mode at_end old)) ∷ one.after)) one.path
        ∙ ap (λ s. one.before ++ (as_printed p s ∷ one.after)) framed-old

    second-is : printed mode (edited way g t) ≡ one.before ++ (as_printed p (key_line frame (value_of mode n) end) ∷ one.after)
    second-is =
        one.second ∙ ap (λ q. one.before ++ (as_printed q (line_statement mode (value_line mode at_end n)) ∷ one.after)) one.other_path
        ∙ ap (λ s. one.before ++ (as_printed p s ∷ one.after)) framed-new

    pub changes-statement : ChangesStatement mode d t (edited way g t) p old n
    changes-statement =
        let x = as_printed p (key_line frame (value_of mode old) end) in
        let y = as_printed p (key_line frame (value_of mode n) end) in
        record {
          before = one.before;
          after = one.after;
          block = one.block;
          frame = frame;
          end = end;
          first = first-is;
          second = second-is;
          others_before = one.others_before;
          others_after = one.others_after;
          read = statements-read mode d t read ∙ ap (λ ps. normal_last mode d (statements ps)) first-is
              ∙ ap (normal_last mode d) (statements-append one.before (x ∷ one.after));
          text = edited-text mode d t read way g ∙ ap (λ ss. text_with mode d (statements ss)) second-is
              ∙ ap (text_with mode d) (statements-append one.before (y ∷ one.after));
        }

  -- a command that changes a value of a table that the walk enters, on its way inside
  module _ {A : Type 0} (key_of : A → Key) (makes : Bool) (run : List A → Node → Answer Node) (rest : List A)
      (goes_down : (k : A) (path : List A) (n : Node) → run (k ∷ (path ++ rest)) n
      ≡ child_changed makes (key_of k) (run (path ++ rest)) n) where
    pub value-changes : (d : Document) (t : Tree) (path : List A) (v : Visit) (k : Text) (l : Key) (old n : Node)
        → IsRead mode d t → (named : NamesTable t (map (λ k. (key_of k).name) path) v) → lookup_slot k (slot_list v.slots) ≡ Some (keyed l old) → is_value_node old
        ≡ true
        → (is_dotted_inline old ≡ false → Stands old n)
        → run rest (table v.fields v.slots) ≡ done (table v.fields (slots_from (changed k (with_item n) (slot_list v.slots))))
        → (u : Tree) × (mapped (with_slots t) (run (path ++ rest) (root_item t)) ≡ done u)
        × ChangesStatement mode d t u (to_key v.path l.name) old n × StaysSteady mode t u
    value-changes d t path v k l old n read named is_there is_value stands here =
        let way = named.way in
        let g : List (Slot Node) → List (Slot Node) = changed k (with_item n) in
        let u : Tree = edited way g t in
        let steady : is_steady_in mode t ≡ true = steady-tree mode d t read.tree in
        let st : Steady mode t = steady-parts mode t steady in
        let well : SlotsAreWellMade v.slots = leads-made way (root_visit t) v read.made named.leads in
        let fd : Found k (keyed l old) (slot_list v.slots) = found k v.slots (keyed l old) well is_there in
        let parts = sound-slot k (keyed l old) v.slots fd (leads-sound way (root_visit t) v read.made st.sound named.leads) in
        let new : Stands old n = stands parts.1 in
        let law = replaced mode t way v k (λ x. x) l old n read.made steady named.leads is_there is_value new.0 refl in
        let along = goes-along key_of makes run rest goes_down g way path (root_visit t) v read.made named.goes named.leads here in
        (u, ap (mapped (with_slots t)) along, changes-statement d t read way g (to_key v.path l.name) l old n new.1 law.0, law.1)

  pub set_changes : SetChanges mode
  set_changes d t path v k l old inner value n read named is_there is_value plain set =
      value-changes (λ j. j) true (set_below value) (k ∷ inner) (λ j more n. refl) d t path v k.name l old n read named is_there is_value
      (λ undotted. set-stands value inner old n is_value undotted plain set)
      (ap (λ o. mapped (λ xs. table v.fields (slots_from xs)) (change_slot true k (set_below value inner) (slot_list v.slots) o)) is_there
      ∙ ap (λ a. mapped (λ xs. table v.fields (slots_from xs)) (mapped (λ m. changed k.name (with_item m) (slot_list v.slots)) a)) set)

  -- ---- a new key

  module _ (d : Document) (t : Tree) (read : IsRead mode d t) (way : List Turn) (g : List (Slot Node)
      → List (Slot Node)) (v : Visit) (k : Key) (n : Node)
      (one : OneMore mode t (edited way g t) v k n) where
    pub adds-statement : AddsStatement mode d t (edited way g t) v k n
    adds-statement =
        let block = printed_table mode true v in
        let line = printed_line mode v.path (value_line mode (k ∷ []) n) in
        record {
          before = one.before;
          after = one.after;
          first = one.first;
          second = one.second;
          others_before = one.others_before;
          others_in = one.others_in;
          others_after = one.others_after;
          read = statements-read mode d t read ∙ ap (λ ps. normal_last mode d (statements ps)) one.first
              ∙ ap (normal_last mode d) (statements-append one.before (block ++ one.after)
              ∙ ap (λ z. statements one.before ++ z) (statements-append block one.after));
          text = edited-text mode d t read way g ∙ ap (λ ss. text_with mode d (statements ss)) one.second
              ∙ ap (text_with mode d) (statements-append one.before (block ++ (line ∷ one.after))
              ∙ ap (λ z. statements one.before ++ z) (statements-append block (line ∷ one.after)));
        }

  pub set_adds : SetAdds mode
  set_adds d t path v k more value read named is_new plain has =
      let way = named.way in
      let n : Node = made_below more value in
      let g : List (Slot Node) → List (Slot Node) = λ ss. ss ++ (keyed (cleared_key k) n ∷ []) in
      let law = added mode t way v (cleared_key k) n read.made (steady-tree mode d t read.tree) named.leads is_new
      (made-below-plain value more plain) has in
      let here : set_below value (k ∷ more) (table v.fields v.slots) ≡ done (table v.fields (slots_from (g (slot_list v.slots)))) =
      ap (λ o. mapped (λ xs. table v.fields (slots_from xs)) (change_slot true k (set_below value more) (slot_list v.slots) o)) is_new
      ∙ ap (λ a. mapped (λ xs. table v.fields (slots_from xs)) (mapped (λ m. slot_list v.slots ++ (keyed (cleared_key k) m ∷ [])) a))
      (made-below-is value more) in
      let along = goes-along (λ j. j) true (set_below value) (k ∷ more) (λ j rest n. refl) g way path (root_visit t) v read.made named.goes
      named.leads here in
      (edited way g t, ap (mapped (with_slots t)) along, adds-statement d t read way g v (cleared_key k) n law.0, law.1)
