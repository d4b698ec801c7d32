-- What a `retain` of values or of tables leaves.
use Rattle.std.proofs.Common.{◌≡◌, Bool, true, false, cond, List, [], ◌∷◌, filter, map, Some, None, MatchBool, unwrap_or, refl, sym, ap}
use Rattle.std.proofs.Common.{subst, ◌∙◌}
use Rattle.toml_edit_model.specs.Retaining.{RetainsBy}
use Rattle.toml_edit_model.specs.Tree.{Node, nothing, leaf, list, inline, table, tables, is_value_node}
use Rattle.toml_edit_laws.proofs.slots.Retains.{retains-seen}
use Rattle.toml_edit_tree.specs.Containers.{value_in}
use Rattle.toml_edit_tree.specs.declared.item.Item.{Item}
use Rattle.toml_edit_tree.specs.ElementClosures.{KeepsOnly}
use Rattle.toml_edit_tree.specs.Elements.{listed}
use Rattle.toml_edit_tree.specs.View.{item_view}
use Rattle.toml_edit_tree.proofs.ElementLaws.{listed-map}

-- where what fails a test is never kept, the closure decides of what passes it
retains-one : (says : Node → Bool → Type 0) (b : Bool) (n : Node) (keeps : Bool) (rest passed after : List Node)
    → MatchBool b (says n keeps) (keeps ≡ false)
    → RetainsBy says passed rest → after ≡ cond keeps (n ∷ rest) rest → RetainsBy says (cond b (n ∷ passed) passed) after
retains-one says true n keeps rest passed after m r e = (keeps, rest, m, r, e)
retains-one says false n keeps rest passed after m r e = subst (RetainsBy says passed) (sym (e ∙ ap (λ b. cond b (n ∷ rest) rest) m)) r

retains-those : (test : Node → Bool) (says : Node → Bool → Type 0) (before after : List Node)
    → RetainsBy (KeepsOnly test says) before after → RetainsBy says (filter test before) after
retains-those test says [] after r = r
retains-those test says (n ∷ before) after r =
    retains-one says (test n) n r.0 r.1 (filter test before) after r.2 (retains-those test says before r.1 r.3) r.4

pub retains-listed : (test : Node → Bool) (says : Node → Bool → Type 0) (before after : List Item)
    → RetainsBy (λ x. KeepsOnly test says (item_view x)) before after → RetainsBy says (filter test (listed before)) (listed after)
retains-listed test says before after r =
    subst (λ l. RetainsBy says (filter test l) (listed after)) (sym (listed-map before))
    (subst (RetainsBy says (filter test (map item_view before))) (sym (listed-map after))
    (retains-those test says (map item_view before) (map item_view after) (retains-seen item_view (KeepsOnly test says) before after r)))

-- ---- what the closure is shown

pub value-shown : (n m : Node) → Some m ≡ value_in n → (is_value_node n ≡ true) × (m ≡ n)
value-shown nothing m e = absurd cc
value-shown (leaf s spelling d) m e = (refl, ap (λ o. unwrap_or o m) e)
value-shown (list f xs) m e = (refl, ap (λ o. unwrap_or o m) e)
value-shown (inline f ss) m e = (refl, ap (λ o. unwrap_or o m) e)
value-shown (table f ss) m e = absurd cc
value-shown (tables t xs) m e = absurd cc

pub no_value : (n : Node) → None ≡ value_in n → is_value_node n ≡ false
no_value nothing e = refl
no_value (leaf s spelling d) e = absurd cc
no_value (list f xs) e = absurd cc
no_value (inline f ss) e = absurd cc
no_value (table f ss) e = refl
no_value (tables t xs) e = refl
