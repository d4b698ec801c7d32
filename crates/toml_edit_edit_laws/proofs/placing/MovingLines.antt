-- A value moved to a place among the other slots: its statement moves with it.
use Rattle.std.proofs.Common.{◌≡◌, sym, ◌∙◌, ap, subst, ℕ, true, false, List, [], ◌∷◌, ◌++◌, append-nil, Some}
use Rattle.std.specs.Prelude.{not, take, drop}
use Rattle.std.specs.List.{AllByRecursion}
use Rattle.std.proofs.lemmas.List.{take-append-drop}
use Rattle.toml_edit_model.specs.Mode.{Mode}
use Rattle.toml_edit_model.specs.Text.{Text}
use Rattle.toml_edit_model.specs.Paths.{at_key, Path, to_key}
use Rattle.toml_edit_model.specs.Tree.{Node, SlotsAreWellMade, Tree, is_value_node}
use Rattle.toml_edit_model.specs.HeaderOrder.{Visit, slots_walk}
use Rattle.toml_edit_model.specs.Print.{is_line_node, Printed, printed, printed_table}
use Rattle.toml_edit_model.specs.Slots.{Slot, place, lookup_slot, without}
use Rattle.toml_edit_model.specs.Lists.{slot_list, slots_from, is_dotted_inline}
use Rattle.toml_edit_model.specs.Rearranging.{inserted_slot, moved_slot}
use Rattle.toml_edit_laws.specs.Locality.{Turn, Leads, root_visit, edited, is_plain_value, texts, framed, has_block}
use Rattle.toml_edit_laws.proofs.common.Tests.{and_both}
use Rattle.toml_edit_laws.proofs.common.OptionSteps.{some-is}
use Rattle.toml_edit_laws.proofs.common.PathLaws.{front-refl}
use Rattle.toml_edit_laws.proofs.locality.Blocks.{blocks}
use Rattle.toml_edit_laws.proofs.locality.Under.{IsBlockOut}
use Rattle.toml_edit_laws.proofs.locality.Slots.{Found, found, slots_under, slots_from-list}
use Rattle.toml_edit_laws.proofs.locality.Splice.{other-blocks-out}
use Rattle.toml_edit_laws.proofs.locality.Sound.{Steady, SlotsAreSound, steady-parts, leads-made, leads-sound, sound-slot}
use Rattle.toml_edit_laws.proofs.locality.Printing.{are-outside}
use Rattle.toml_edit_laws.proofs.locality.Texts.{print-framed, edited-framed}
use Rattle.toml_edit_laws.proofs.locality.Values.{line-value}
use Rattle.toml_edit_edit_laws.specs.Placing.{on_list, front_of, back_of, statement_in, OneMoves, MovedLine}
use Rattle.toml_edit_edit_laws.proofs.placing.Lists.{Taken, taken, others-inserted}
use Rattle.toml_edit_edit_laws.proofs.placing.InBlock.{KeepsHeader, header-kept, table-apart, table-between, BlockChanges, block-changes}
use Rattle.toml_edit_edit_laws.proofs.placing.Inserting.{blocks-between, table-out, lines-outside, regroup, texts-between}
use Rattle.toml_edit_edit_laws.proofs.placing.Moving.{sound-moved}

module _ (mode : Mode) where
  module _ (t : Tree) (way : List Turn) (v : Visit) (k : Text) (i : ℕ) (s : Slot Node)
      (made : SlotsAreWellMade t.slots) (st : Steady mode t) (leads : Leads way (root_visit t) v)
      (is_there : lookup_slot k (slot_list v.slots) ≡ Some s) (value : is_value_node s.item ≡ true) (has : has_block mode v ≡ true) where
    abbrev g : List (Slot Node) → List (Slot Node)
    g = moved_slot k i

    abbrev u : Tree
    u = edited way g t

    -- the table without the slot
    abbrev w : Visit
    w = on_list (without k) v

    abbrev rest : List (Slot Node)
    rest = slot_list w.slots

    abbrev q : Path
    q = to_key v.path s.key.name

    fd : Found k s (slot_list v.slots)
    fd = found k v.slots s (leads-made way (root_visit t) v made leads) is_there

    tk : Taken k s (slot_list v.slots) rest
    tk = taken k s v.slots is_there fd

    is_old : v.slots ≡ slots_from (inserted_slot tk.at s rest)
    is_old = sym (slots_from-list v.slots) ∙ ap slots_from tk.is

    is_new : slots_under g v.slots ≡ slots_from (inserted_slot i s rest)
    is_new = ap slots_from (tk.moved i)

    undotted : is_dotted_inline s.item ≡ false
    undotted = (sound-slot k s v.slots fd (leads-sound way (root_visit t) v made st.sound leads)).1

    plain : is_plain_value s.item ≡ true
    plain = and_both (is_value_node s.item) (not (is_dotted_inline s.item)) value (ap not undotted)

    line : is_line_node s.item ≡ true
    line = line-value s.item value undotted

    -- the blocks behind the table's own are those of the other slots
    blocks-at : (j : ℕ)
        → blocks mode (slots_walk (slots_from (inserted_slot j s rest)) v.path v.keys)
        ≡ blocks mode (slots_walk (slots_from rest) v.path v.keys)
    blocks-at j =
        blocks-between mode v (take j rest) (drop j rest) s.key s.item plain
        ∙ ap (λ z. blocks mode (slots_walk (slots_from z) v.path v.keys)) (take-append-drop j rest)

    old-blocks : blocks mode (slots_walk v.slots v.path v.keys) ≡ blocks mode (slots_walk (slots_from rest) v.path v.keys)
    old-blocks = ap (λ z. blocks mode (slots_walk z v.path v.keys)) is_old ∙ blocks-at tk.at

    same : blocks mode (slots_walk (slots_under g v.slots) v.path v.keys) ≡ blocks mode (slots_walk v.slots v.path v.keys)
    same = ap (λ z. blocks mode (slots_walk z v.path v.keys)) is_new ∙ blocks-at i ∙ sym old-blocks

    out : AllByRecursion (IsBlockOut q) (blocks mode (slots_walk v.slots v.path v.keys))
    out =
        subst (AllByRecursion (IsBlockOut q)) (sym old-blocks)
        (other-blocks-out mode q v.path s.key.name (front-refl q) v.keys rest tk.others)

    sound : SlotsAreSound v.slots → SlotsAreSound (slots_under g v.slots)
    sound d = subst SlotsAreSound (sym is_new) (sound-moved i tk.at s rest (subst SlotsAreSound is_old d))

    kept : KeepsHeader mode v
    kept = header-kept mode t way v made st leads has

    changes : BlockChanges mode q t u v (on_list g v)
    changes = block-changes mode t way v g q (at_key s.key.name) made st leads has (front-refl q) same out sound

    abbrev x : Printed
    x = statement_in mode w s.key s.item

    table-at : (j : ℕ)
        → printed_table mode true (record v { slots = slots_from (inserted_slot j s rest) }) ≡ front_of mode j w ++ (x ∷ back_of mode j w)
    table-at j = table-between mode v kept (take j rest) (drop j rest) s.key s.item line

    -- the statements of the others, split at a place
    others-at : (j : ℕ) → front_of mode j w ++ back_of mode j w ≡ printed_table mode true w
    others-at j =
        sym (table-apart mode v kept (take j rest) (drop j rest))
        ∙ ap (λ z. printed_table mode true (record v { slots = z })) (ap slots_from (take-append-drop j rest) ∙ slots_from-list w.slots)

    first-list : printed mode t ≡ changes.before ++ (front_of mode tk.at w ++ (x ∷ (back_of mode tk.at w ++ changes.after)))
    first-list =
        changes.first
        ∙ ap (λ z. changes.before ++ (z ++ changes.after))
        (ap (λ z. printed_table mode true (record v { slots = z })) is_old ∙ table-at tk.at)
        ∙ regroup mode changes.before (front_of mode tk.at w) (back_of mode tk.at w) changes.after x

    second-list : printed mode u ≡ changes.before ++ (front_of mode i w ++ (x ∷ (back_of mode i w ++ changes.after)))
    second-list =
        changes.second
        ∙ ap (λ z. changes.before ++ (z ++ changes.after)) (ap (λ z. printed_table mode true (record v { slots = z })) is_new ∙ table-at i)
        ∙ regroup mode changes.before (front_of mode i w) (back_of mode i w) changes.after x

    texts-at : (j : ℕ) → texts (changes.before ++ (front_of mode j w ++ (x ∷ (back_of mode j w ++ changes.after))))
        ≡ texts changes.before ++ (texts (front_of mode j w) ++ (texts (x ∷ []) ++ (texts (back_of mode j w) ++ texts changes.after)))
    texts-at j = texts-between mode changes.before (front_of mode j w) (back_of mode j w) changes.after x

    at-places : OneMoves mode t u w tk.at i s.key s.item
    at-places =
        let out = others-inserted s.key.name i rest tk.others in
        record {
          before = changes.before;
          after = changes.after;
          block = others-at tk.at ∙ sym (others-at i);
          first = first-list;
          second = second-list;
          others_before = are-outside q changes.before changes.out_before;
          others_front = table-out mode v s.key (take i rest) out.0;
          others_back = lines-outside mode v s.key (drop i rest) out.1;
          others_after = are-outside q changes.after changes.out_after;
          text = print-framed mode t ∙ ap (λ z. framed mode t (texts z)) first-list
              ∙ ap (framed mode t)
              (texts-at tk.at
              ∙ ap (λ z. texts changes.before ++ (texts (front_of mode tk.at w)
              ++ (z ++ (texts (back_of mode tk.at w) ++ texts changes.after)))) (append-nil _));
          other_text = edited-framed mode way g t ∙ ap (λ z. framed mode t (texts z)) second-list
              ∙ ap (framed mode t)
              (texts-at i
              ∙ ap (λ z. texts changes.before ++ (texts (front_of mode i w) ++ (z ++ (texts (back_of mode i w) ++ texts changes.after))))
              (append-nil _));
        }

    -- its place is the one that it is at
    one-moves : (j : ℕ) → place k (slot_list v.slots) ≡ Some j → OneMoves mode t u w j i s.key s.item
    one-moves j h = subst (λ z. OneMoves mode t u w z i s.key s.item) (some-is tk.at j (sym tk.placed ∙ h)) at-places

  pub moved_line : MovedLine mode
  moved_line t way v k j i s made steady leads is_there at value has =
      one-moves t way v k i s made (steady-parts mode t steady) leads is_there value has j at
