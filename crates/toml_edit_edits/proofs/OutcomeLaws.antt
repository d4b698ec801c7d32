-- What calls make of an edit.
use Rattle.std.proofs.Common.{◌≡◌, ◌∙◌, refl, sym, ap, subst, List, [], ◌∷◌, ◌++◌, true, Option, Some, None, inl, inr}
use Rattle.std.specs.Prelude.{◌⊎◌, Result, Ok, Err, option_map}
use Rattle.std.specs.Option.{ok_or}
use Rattle.toml_edit_model.specs.Keys.{names}
use Rattle.toml_edit_model.specs.Lists.{is_dotted_inline, is_dotted_table, item_list, items_from, on_slots, slot_list, slots_from, slots_in}
use Rattle.toml_edit_model.specs.Slots.{Slot}
use Rattle.toml_edit_model.specs.Text.{Text}
use Rattle.toml_edit_model.specs.Sorting.{sorted_slots}
use Rattle.toml_edit_model.specs.Comments.{with_comment_after}
use Rattle.toml_edit_model.specs.Conversions.{with_decor}
use Rattle.toml_edit_model.specs.Tree.{ArrayFields, Decor, Key, Node, Tree, nothing, leaf, inline, list, table, tables, is_value_node, node_decor}
use Rattle.toml_edit_repr.specs.Comments.{may_stand}
use Rattle.toml_edit_laws.proofs.common.Tests.{if-true}
use Rattle.toml_edit_edit_laws.specs.Commands.{Answer, done}
use Rattle.toml_edit_edit_laws.proofs.commands.Setting.{done-is}
use Rattle.toml_edit_paths.specs.Calls.{replaced_at}
use Rattle.toml_edit_paths.specs.Changes.{Changes}
use Rattle.toml_edit_paths.specs.declared.fault.ChangeFault.{ChangeFault}
use Rattle.toml_edit_paths.specs.declared.fault.ChangeFault.TheVariants as changes
use Rattle.toml_edit_paths.proofs.StepLaws.{slots-kept}
use Rattle.toml_edit_laws.proofs.locality.Slots.{items_from-list, slots_from-list}
use Rattle.toml_edit_slots.specs.declared.slots.Slot as held
use Rattle.toml_edit_tree.specs.Containers.{ArrayView, InlineView, TableView, array_node, inline_node, table_node}
use Rattle.toml_edit_tree.specs.Indexed.{shown_slots}
use Rattle.toml_edit_tree.specs.View.{slots_view}
use Rattle.toml_edit_tree.specs.declared.item.Item.{Item}
use Rattle.toml_edit_edits.specs.Effects.{array_at, array_set, at_end, body_of, changed_by, ended, on_table, set, with_comment}
use Rattle.toml_edit_edits.specs.Outcomes.{Makes, and_then, of_answer, of_change}
use Rattle.toml_edit_edits.specs.declared.fault.EditFault.{EditFault}
use Rattle.toml_edit_edits.specs.declared.fault.EditFault.TheVariants.{NoSuchPath, WrongKind, Memory}

-- ---- calls by paths

pub ok-made : {A : Type 0} (a : Answer A) (old new : A) → a ≡ done new → of_answer a ≡ Ok new
ok-made a old new h = ap of_answer h

pub err-made : {A : Type 0} (a : Answer A) (old new : A) (e : ChangeFault) → Changes a old new (Err e)
    → ((of_change e ≡ Memory) ⊎ (of_answer a ≡ Err (of_change e))) × (new ≡ old)
err-made a old new changes.NoSuchPath h = (inr (ap of_answer h.0), h.1)
err-made a old new changes.WrongKind h = (inr (ap of_answer h.0), h.1)
err-made a old new changes.Memory h = (inl refl, h)

-- the same with the meaning and the fault under other names
pub means : {A : Type 0} (meant other : Result A EditFault) (old new : A) (f g : EditFault) → meant ≡ other → f ≡ g
    → ((g ≡ Memory) ⊎ (other ≡ Err g)) × (new ≡ old) → Makes meant old new (Err f)
means meant other old new f g e h made =
    subst (λ x. Makes x old new (Err f)) (sym e) (subst (λ x. Makes other old new (Err x)) (sym h) made)

-- ---- arrays

pub array-goes : (go : ArrayView → Result Node EditFault) (path : List Key) (t : Tree) (a : ArrayView) (n : Node)
    → array_at (names path) t ≡ Ok a → go a ≡ Ok n → array_set go path t ≡ set path n t
array-goes go path t a n h g =
    ap (λ r. and_then (λ m. set path m t) (and_then go r)) h ∙ ap (and_then (λ m. set path m t)) g

pub array-stops : (go : ArrayView → Result Node EditFault) (path : List Key) (t : Tree) (a : ArrayView) (f : EditFault)
    → array_at (names path) t ≡ Ok a → go a ≡ Err f → array_set go path t ≡ Err f
array-stops go path t a f h g =
    ap (λ r. and_then (λ m. set path m t) (and_then go r)) h ∙ ap (and_then (λ m. set path m t)) g

pub no-array : (go : ArrayView → Result Node EditFault) (path : List Key) (t : Tree) (f : EditFault)
    → array_at (names path) t ≡ Err f → array_set go path t ≡ Err f
no-array go path t f h = ap (λ r. and_then (λ m. set path m t) (and_then go r)) h

-- ---- an item at a path

pub changed-made : (go : Node → Result Node EditFault) (path : List Text) (t u : Tree) (n m : Node) (found : Option Node)
    (r : Result (Unit {0}) EditFault) → found ≡ Some n → replaced_at path n t ≡ done t → replaced_at path m t ≡ done u
    → Makes (go n) n m r → Makes (changed_by go path t found) t u r
changed-made go path t u n m found (Ok v) at same put made =
    ap (λ o. and_then (λ x. of_answer (replaced_at path x t)) (and_then go (ok_or o NoSuchPath))) at
    ∙ ap (and_then (λ x. of_answer (replaced_at path x t))) made
    ∙ ap of_answer put
changed-made go path t u n m found (Err f) at same put made = (stops made.0, done-is u t (sym put ∙ ap (λ x. replaced_at path x t) made.1 ∙ same))
  where
    stops : (f ≡ Memory) ⊎ (go n ≡ Err f) → (f ≡ Memory) ⊎ (changed_by go path t found ≡ Err f)
    stops (inl e) = inl e
    stops (inr e) =
        inr (ap (λ o. and_then (λ x. of_answer (replaced_at path x t)) (and_then go (ok_or o NoSuchPath))) at
        ∙ ap (and_then (λ x. of_answer (replaced_at path x t))) e)

pub nothing-made : (go : Node → Result Node EditFault) (path : List Text) (t u : Tree) (found : Option Node) → found ≡ None → u ≡ t
    → Makes (changed_by go path t found) t u (Err NoSuchPath)
nothing-made go path t u found none kept =
    (inr (ap (λ o. and_then (λ x. of_answer (replaced_at path x t)) (and_then go (ok_or o NoSuchPath))) none), kept)

-- ---- the slots of an item

pub table-made : (go : List (Slot Node) → Result (List (Slot Node)) EditFault) (n : Node) (old new : List (Slot Node))
    (r : Result (Unit {0}) EditFault) → slots_in n ≡ Some old → Makes (go old) old new r
    → Makes (on_table go n) n (on_slots (λ _. new) n) r
table-made go n old new (Ok v) is made =
    ap (λ o. and_then (λ es. Ok (on_slots (λ _. es) n)) (and_then go (ok_or o WrongKind))) is
    ∙ ap (and_then (λ es. Ok (on_slots (λ _. es) n))) made
table-made go n old new (Err f) is made =
    (stops made.0, ap (λ es. on_slots (λ _. es) n) made.1 ∙ slots-kept n old is)
  where
    stops : (f ≡ Memory) ⊎ (go old ≡ Err f) → (f ≡ Memory) ⊎ (on_table go n ≡ Err f)
    stops (inl e) = inl e
    stops (inr e) =
        inr (ap (λ o. and_then (λ es. Ok (on_slots (λ _. es) n)) (and_then go (ok_or o WrongKind))) is
        ∙ ap (and_then (λ es. Ok (on_slots (λ _. es) n))) e)

pub no-table : (go : List (Slot Node) → Result (List (Slot Node)) EditFault) (n : Node) → slots_in n ≡ None
    → on_table go n ≡ Err WrongKind
no-table go n none = ap (λ o. and_then (λ es. Ok (on_slots (λ _. es) n)) (and_then go (ok_or o WrongKind))) none

-- ---- the end of a path

pub ended-last : {A : Type 0} (rest : List A) (last : A) → ended (rest ++ (last ∷ [])) ≡ Some (rest, last)
ended-last [] last = refl
ended-last (k ∷ []) last = refl
ended-last (k ∷ l ∷ rest) last = ap (option_map (λ e. (k ∷ e.0, e.1))) (ended-last (l ∷ rest) last)

pub at-end : {A : Type 0} (go : List A → A → Result Tree EditFault) (path rest : List A) (last : A) → path ≡ rest ++ (last ∷ [])
    → at_end go path ≡ go rest last
at-end go path rest last h =
    ap (at_end go) h ∙ ap (λ o. and_then (λ e. go e.0 e.1) (ok_or o NoSuchPath)) (ended-last rest last)

pub names-last : (rest : List Key) (last : Key) → names (rest ++ (last ∷ [])) ≡ names rest ++ (last.name ∷ [])
names-last [] last = refl
names-last (k ∷ rest) last = ap (λ r. k.name ∷ r) (names-last rest last)

-- ---- tables, and what they hold

pub table-left : (t w : TableView) (new : List (held.Slot Item)) → w ≡ record { fields = t.fields; slots = slots_view new }
    → on_slots (λ _. shown_slots new) (table_node t) ≡ table_node w
table-left t w new h = ap (table t.fields) (slots_from-list (slots_view new)) ∙ ap table_node (sym h)

pub in-table : (go : List (Slot Node) → Result (List (Slot Node)) EditFault) (t w : TableView) (old new : List (held.Slot Item))
    (r : Result (Unit {0}) EditFault) → slots_view old ≡ t.slots → w ≡ record { fields = t.fields; slots = slots_view new }
    → Makes (go (shown_slots old)) (shown_slots old) (shown_slots new) r
    → Makes (on_table go (table_node t)) (table_node t) (table_node w) r
in-table go t w old new r is left made =
    subst (λ m. Makes (on_table go (table_node t)) (table_node t) m r) (table-left t w new left)
    (table-made go (table_node t) (shown_slots old) (shown_slots new) r (ap (λ ss. Some (slot_list ss)) (sym is)) made)

pub array-holds : (a : ArrayView) (f : ArrayFields) (xs : List Node) → a.fields ≡ f → item_list a.items ≡ xs → array_node a ≡ list f (items_from xs)
array-holds a f xs fields items =
    ap (λ g. list g a.items) fields ∙ ap (list f) (sym (items_from-list a.items) ∙ ap items_from items)

pub sorted-table : (v w x : TableView) → w ≡ v → x.fields ≡ w.fields
    → slot_list x.slots ≡ sorted_slots is_dotted_table (slots_from (slot_list w.slots))
    → table v.fields (slots_from (sorted_slots is_dotted_table v.slots)) ≡ table_node x
sorted-table v w x same fields order =
    ap (λ (y : TableView). table y.fields (slots_from (sorted_slots is_dotted_table y.slots))) (sym same)
    ∙ ap (λ ss. table w.fields (slots_from (sorted_slots is_dotted_table ss))) (sym (slots_from-list w.slots))
    ∙ ap (λ es. table w.fields (slots_from es)) (sym order) ∙ ap (table w.fields) (slots_from-list x.slots)
    ∙ ap (λ f. table f x.slots) (sym fields)

pub sorted-inline : (v w x : InlineView) → w ≡ v → x.fields ≡ w.fields
    → slot_list x.slots ≡ sorted_slots is_dotted_inline (slots_from (slot_list w.slots))
    → inline v.fields (slots_from (sorted_slots is_dotted_inline v.slots)) ≡ inline_node x
sorted-inline v w x same fields order =
    ap (λ (y : InlineView). inline y.fields (slots_from (sorted_slots is_dotted_inline y.slots))) (sym same)
    ∙ ap (λ ss. inline w.fields (slots_from (sorted_slots is_dotted_inline ss))) (sym (slots_from-list w.slots))
    ∙ ap (λ es. inline w.fields (slots_from es)) (sym order) ∙ ap (inline w.fields) (slots_from-list x.slots)
    ∙ ap (λ f. inline f x.slots) (sym fields)

-- ---- a comment after a value

pub comment-made : (t : Text) (n : Node) (d : Decor) → is_value_node n ≡ true → may_stand (body_of t) ≡ true
    → d ≡ with_comment_after (body_of t) (node_decor n) → with_comment t n ≡ Ok (with_decor d n)
comment-made t (leaf s r e) d value may is =
    if-true (may_stand (body_of t)) _ _ may ∙ ap (λ x. Ok (with_decor x (leaf s r e))) (sym is)
comment-made t (list f xs) d value may is =
    if-true (may_stand (body_of t)) _ _ may ∙ ap (λ x. Ok (with_decor x (list f xs))) (sym is)
comment-made t (inline f ss) d value may is =
    if-true (may_stand (body_of t)) _ _ may ∙ ap (λ x. Ok (with_decor x (inline f ss))) (sym is)
comment-made t (table f ss) d value may is = absurd cc
comment-made t (tables e xs) d value may is = absurd cc
comment-made t nothing d value may is = absurd cc

-- a refusal that is meant where another is
pub err-means : (meant : Result Tree EditFault) (f : EditFault) (P : Type 0) → (P → meant ≡ Err f) → (f ≡ Memory) ⊎ P
    → (f ≡ Memory) ⊎ (meant ≡ Err f)
err-means meant f P h (inl e) = inl e
err-means meant f P h (inr p) = inr (h p)
