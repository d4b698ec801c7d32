-- A value inserted at a place of a table under a new key: one statement more, at that place.
use Rattle.std.proofs.Common.{◌≡◌, refl, sym, ◌∙◌, ap, subst, ℕ, true, false, List, [], ◌∷◌, ◌++◌, append_assoc, append-nil, None}
use Rattle.std.specs.Prelude.{map, take, drop}
use Rattle.std.specs.List.{AllByRecursion}
use Rattle.std.proofs.lemmas.List.{take-append-drop}
use Rattle.toml_edit_model.specs.Mode.{Mode}
use Rattle.toml_edit_model.specs.Paths.{at_key, Path, to_key}
use Rattle.toml_edit_model.specs.Tree.{Key, Node, SlotsAreWellMade, Tree}
use Rattle.toml_edit_model.specs.HeaderOrder.{Visit, slots_walk}
use Rattle.toml_edit_model.specs.Print.{lines_of, is_line_node, Printed, printed, printed_line, printed_table}
use Rattle.toml_edit_model.specs.Slots.{Slot, keyed, lookup_slot}
use Rattle.toml_edit_model.specs.Lists.{slot_list, slots_from}
use Rattle.toml_edit_model.specs.Rearranging.{inserted_slot}
use Rattle.toml_edit_laws.specs.Locality.{Turn, Leads, root_visit, edited, is_plain_value, AreOutside, texts, framed, has_block}
use Rattle.toml_edit_laws.proofs.common.PathLaws.{front-refl}
use Rattle.toml_edit_laws.proofs.common.Each.{all-front, all-back}
use Rattle.toml_edit_laws.proofs.locality.Blocks.{block_of, blocks, blocks-append}
use Rattle.toml_edit_laws.proofs.locality.Under.{IsLineOut, IsBlockOut, apart-above}
use Rattle.toml_edit_laws.proofs.locality.Slots.{HaveOtherKeys, none-there, slots_under, slots_from-list, walk-append}
use Rattle.toml_edit_laws.proofs.locality.Splice.{other-lines-out, other-blocks-out, blocks-split}
use Rattle.toml_edit_laws.proofs.locality.Sound.{Steady, SlotsAreSound, steady-parts, sound-append, sound-front, sound-back}
use Rattle.toml_edit_laws.proofs.locality.Printing.{are-outside, block-out, map-lines-out}
use Rattle.toml_edit_laws.proofs.locality.Edited.{stays-steady}
use Rattle.toml_edit_laws.proofs.locality.Texts.{print-framed, edited-framed, texts-append}
use Rattle.toml_edit_laws.proofs.locality.Values.{plain-value, plain-undotted, line-value, no-value-walk, value-sound}
use Rattle.toml_edit_edit_laws.specs.Placing.{on_list, front_of, back_of, statement_in, OneInserted, InsertedAt, InsertedStaysMade}
use Rattle.toml_edit_edit_laws.proofs.placing.Lists.{made-between}
use Rattle.toml_edit_edit_laws.proofs.placing.Along.{along-made}
use Rattle.toml_edit_edit_laws.proofs.placing.InBlock.{KeepsHeader, header-kept, table-apart, table-between, BlockChanges, block-steady}
use Rattle.toml_edit_edit_laws.proofs.placing.InBlock.{block-changes}

pub sound-between : (xs ys : List (Slot Node)) (s : Slot Node) → SlotsAreSound (slots_from (s ∷ [])) → SlotsAreSound (slots_from (xs ++ ys))
    → SlotsAreSound (slots_from (xs ++ (s ∷ ys)))
sound-between xs ys s one h = sound-append xs (s ∷ ys) (sound-front xs ys h) (one.0, one.1, sound-back xs ys h)

module _ (mode : Mode) where
  -- a value has no blocks of its own
  pub blocks-between : (v : Visit) (xs ys : List (Slot Node)) (k : Key) (n : Node) → is_plain_value n ≡ true
      → blocks mode (slots_walk (slots_from (xs ++ (keyed k n ∷ ys))) v.path v.keys)
      ≡ blocks mode (slots_walk (slots_from (xs ++ ys)) v.path v.keys)
  blocks-between v xs ys k n plain =
      let front = blocks mode (slots_walk (slots_from xs) v.path v.keys) in
      let back = blocks mode (slots_walk (slots_from ys) v.path v.keys) in
      blocks-split mode xs (keyed k n) ys v.path v.keys
      ∙ ap (λ z. front ++ (blocks mode z ++ back)) (no-value-walk n (to_key v.path k.name) (v.keys ++ (k ∷ [])) false (plain-value n plain))
      ∙ sym (blocks-append mode (slots_walk (slots_from xs) v.path v.keys) (slots_walk (slots_from ys) v.path v.keys))
      ∙ ap (blocks mode) (sym (walk-append xs ys v.path v.keys))

  -- ---- the statements of a table and those of another name

  module _ (v : Visit) (k : Key) where
    abbrev q : Path
    q = to_key v.path k.name

    lines-out : (xs : List (Slot Node)) → HaveOtherKeys k.name xs
        → AllByRecursion (IsLineOut q v.path) (lines_of mode (record v { slots = slots_from xs }))
    lines-out xs others = other-lines-out mode q v.path k.name (front-refl q) v.path [] xs refl others

    pub table-out : (xs : List (Slot Node)) → HaveOtherKeys k.name xs
        → AreOutside q (printed_table mode true (record v { slots = slots_from xs }))
    table-out xs others =
        are-outside q (printed_table mode true (record v { slots = slots_from xs }))
        (block-out mode q (block_of mode (record v { slots = slots_from xs }))
        (apart-above v.path q (at_key k.name) (front-refl q), lines-out xs others))

    pub lines-outside : (xs : List (Slot Node)) → HaveOtherKeys k.name xs
        → AreOutside q (map (printed_line mode v.path) (lines_of mode (record v { slots = slots_from xs })))
    lines-outside xs others =
        are-outside q (map (printed_line mode v.path) (lines_of mode (record v { slots = slots_from xs })))
        (map-lines-out mode q v.path (lines_of mode (record v { slots = slots_from xs })) (lines-out xs others))

  -- ---- regrouped

  pub regroup : (a b c d : List Printed) (x : Printed) → a ++ ((b ++ (x ∷ c)) ++ d) ≡ a ++ (b ++ (x ∷ (c ++ d)))
  regroup a b c d x = ap (λ z. a ++ z) (append_assoc b (x ∷ c) d)

  pub texts-between : (a b c d : List Printed) (x : Printed)
      → texts (a ++ (b ++ (x ∷ (c ++ d)))) ≡ texts a ++ (texts b ++ (texts (x ∷ []) ++ (texts c ++ texts d)))
  texts-between a b c d x =
      texts-append a (b ++ (x ∷ (c ++ d)))
      ∙ ap (λ z. texts a ++ z)
      (texts-append b (x ∷ (c ++ d))
      ∙ ap (λ z. texts b ++ z) (texts-append (x ∷ []) (c ++ d) ∙ ap (λ z. texts (x ∷ []) ++ z) (texts-append c d)))

  -- ---- the law

  module _ (t : Tree) (way : List Turn) (v : Visit) (i : ℕ) (k : Key) (n : Node)
      (made : SlotsAreWellMade t.slots) (st : Steady mode t) (leads : Leads way (root_visit t) v)
      (is_new : lookup_slot k.name (slot_list v.slots) ≡ None) (plain : is_plain_value n ≡ true) (has : has_block mode v ≡ true) where
    abbrev g : List (Slot Node) → List (Slot Node)
    g = inserted_slot i (keyed k n)

    abbrev p : Path
    p = to_key v.path k.name

    abbrev xs : List (Slot Node)
    xs = take i (slot_list v.slots)

    abbrev ys : List (Slot Node)
    ys = drop i (slot_list v.slots)

    parts : slots_from (xs ++ ys) ≡ v.slots
    parts = ap slots_from (take-append-drop i (slot_list v.slots)) ∙ slots_from-list v.slots

    others : HaveOtherKeys k.name (xs ++ ys)
    others = subst (HaveOtherKeys k.name) (sym (take-append-drop i (slot_list v.slots))) (none-there k.name (slot_list v.slots) is_new)

    new-line : is_line_node n ≡ true
    new-line = line-value n (plain-value n plain) (plain-undotted n plain)

    same : blocks mode (slots_walk (slots_under g v.slots) v.path v.keys) ≡ blocks mode (slots_walk v.slots v.path v.keys)
    same = blocks-between v xs ys k n plain ∙ ap (λ z. blocks mode (slots_walk z v.path v.keys)) parts

    out : AllByRecursion (IsBlockOut p) (blocks mode (slots_walk v.slots v.path v.keys))
    out =
        subst (λ z. AllByRecursion (IsBlockOut p) (blocks mode (slots_walk z v.path v.keys))) parts
        (other-blocks-out mode p v.path k.name (front-refl p) v.keys (xs ++ ys) others)

    sound : SlotsAreSound v.slots → SlotsAreSound (slots_under g v.slots)
    sound s =
        sound-between xs ys (keyed k n) (plain-undotted n plain, value-sound n (plain-value n plain), tt)
        (subst SlotsAreSound (sym parts) s)

    kept : KeepsHeader mode v
    kept = header-kept mode t way v made st leads has

    abbrev front : List Printed
    front = front_of mode i v

    abbrev back : List Printed
    back = back_of mode i v

    abbrev x : Printed
    x = statement_in mode v k n

    changes : BlockChanges mode p t (edited way g t) v (on_list g v)
    changes = block-changes mode t way v g p (at_key k.name) made st leads has (front-refl p) same out sound

    pub inserted-steady : Steady mode (edited way g t)
    inserted-steady = block-steady mode t way v g p (at_key k.name) made st leads has (front-refl p) same out sound

    old-block : printed_table mode true v ≡ front ++ back
    old-block = ap (λ z. printed_table mode true (record v { slots = z })) (sym parts) ∙ table-apart mode v kept xs ys

    first-list : printed mode t ≡ changes.before ++ ((front ++ back) ++ changes.after)
    first-list = changes.first ∙ ap (λ z. changes.before ++ (z ++ changes.after)) old-block

    second-list : printed mode (edited way g t) ≡ changes.before ++ (front ++ (x ∷ (back ++ changes.after)))
    second-list =
        changes.second ∙ ap (λ z. changes.before ++ (z ++ changes.after)) (table-between mode v kept xs ys k n new-line)
        ∙ regroup changes.before front back changes.after x

    one-inserted : OneInserted mode t (edited way g t) v i k n
    one-inserted =
        record {
          before = changes.before;
          after = changes.after;
          block = old-block;
          first = first-list;
          second = second-list;
          others_before = are-outside p changes.before changes.out_before;
          others_front = table-out v k xs (all-front _ xs ys others);
          others_back = lines-outside v k ys (all-back _ xs ys others);
          others_after = are-outside p changes.after changes.out_after;
          text = print-framed mode t ∙ ap (λ z. framed mode t (texts z)) first-list
              ∙ ap (framed mode t)
              (texts-append changes.before ((front ++ back) ++ changes.after)
              ∙ ap (λ z. texts changes.before ++ z)
              (texts-append (front ++ back) changes.after ∙ ap (λ z. z ++ texts changes.after) (texts-append front back)));
          other_text = edited-framed mode way g t ∙ ap (λ z. framed mode t (texts z)) second-list
              ∙ ap (framed mode t)
              (texts-between changes.before front back changes.after x
              ∙ ap (λ z. texts changes.before ++ (texts front ++ (z ++ (texts back ++ texts changes.after)))) (append-nil _));
        }

  pub inserted_at : InsertedAt mode
  inserted_at t way v i k n made steady leads is_new plain has =
      let st : Steady mode t = steady-parts mode t steady in (
        one-inserted t way v i k n made st leads is_new plain has,
        stays-steady mode way (inserted_slot i (keyed k n)) t (inserted-steady t way v i k n made st leads is_new plain has),
      )

pub inserted_stays_made : InsertedStaysMade
inserted_stays_made t way v i k n made leads is_new new =
    along-made way (inserted_slot i (keyed k n)) (root_visit t) v made leads
    (λ w.
    let es : List (Slot Node) = slot_list v.slots in
    let whole : take i es ++ drop i es ≡ es = take-append-drop i es in
    made-between (take i es) (drop i es) (keyed k n) (subst (HaveOtherKeys k.name) (sym whole) (none-there k.name es is_new)) new.0 new.1
    (subst SlotsAreWellMade (sym (ap slots_from whole ∙ slots_from-list v.slots)) w))
