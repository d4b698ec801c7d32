-- A table removed from the root and a string added there, as edits of the laws.
use Rattle.std.proofs.Common.{◌≡◌, refl, sym, ◌∙◌, ap, subst, false, List, [], ◌∷◌, ◌++◌, None}
use Rattle.toml_edit.specs.model.Keys.{new_key}
use Rattle.toml_edit.specs.model.Lists.{slot_list, slots_from}
use Rattle.toml_edit.specs.model.Mode.{Mode, plain}
use Rattle.toml_edit.specs.model.Scalars.{string}
use Rattle.toml_edit.specs.model.Slots.{Slot, keyed, lookup_slot, without}
use Rattle.toml_edit.specs.model.Text.{Text, one}
use Rattle.toml_edit.specs.model.Tree.{Node, leaf, Tree, unset}
use Rattle.toml_edit.specs.laws.EditLists.{after_all, AllApply, EditsStayLocal}
use Rattle.toml_edit.specs.edits.Fitting.{ScalarsFitAnywhere, StillFitsAfterAll}
use Rattle.toml_edit.specs.laws.Locality.{root_visit}
use Rattle.toml_edit.specs.Documents.{IsOwnedReading}
use Rattle.example_calls.specs.Exchanges.{exchanging, ExchangesInTree, HasExchanged}
use Rattle.example_calls.specs.Prints.{ReadsBack}
use Rattle.example_calls.proofs.EditLaws.{slots_from-list}

slot_list-from : (xs : List (Slot Node)) → slot_list (slots_from xs) ≡ xs
slot_list-from [] = refl
slot_list-from (x ∷ xs) = ap (λ r. x ∷ r) (slot_list-from xs)

-- a table that is removed from the root, and a string that is added there
pub told : (text name key x out : Text) (t u : Tree) → ((mode : Mode) → EditsStayLocal mode) → ((mode : Mode) → StillFitsAfterAll mode)
    → ((mode : Mode) → ScalarsFitAnywhere mode) → (r : IsOwnedReading text t)
    → ExchangesInTree name key (leaf (string x) None unset) t u → ReadsBack plain false u out → HasExchanged text name key x out
told text name key x out t u law still scalars r (root, trailing, (mid, (s, f, ss, there, s-is, less), (new, more))) printed =
    let n : Node = leaf (string x) None unset in
    let rest : slot_list (slots_from (without name (slot_list t.slots))) ≡ mid = slot_list-from (without name (slot_list t.slots))
    ∙ sym less in
    let a : AllApply plain (exchanging name key x) t = (
      (root_visit t, s, refl, there),
      (
        (
          root_visit (record t { slots = slots_from (without name (slot_list t.slots)) }),
          refl,
          ap (lookup_slot key) rest ∙ new,
          refl,
          refl,
          (tt, (tt, tt)),
        ),
        tt,
      ),
    ) in
    let local = law plain (exchanging name key x) t r.tree.made (r.tree.steady plain) a in
    let fits = still plain (exchanging name key x) t r.tree.made (r.tree.steady plain) (r.tree.fits plain) a
    (tt, (((refl, refl), (refl, refl), (refl, refl), scalars plain (string x) None unset), tt)) in
    let slots : slots_from (slot_list (slots_from (without name (slot_list t.slots))) ++ one (keyed (new_key key) n)) ≡ u.slots =
    ap (λ es. slots_from (es ++ one (keyed (new_key key) n))) rest ∙ ap slots_from (sym more) ∙ slots_from-list u.slots in
    let is : after_all (exchanging name key x) t ≡ u =
    ap (λ xs. record t { slots = xs }) slots ∙ ap (λ q. record (record t { trailing = q }) { slots = u.slots }) (sym trailing)
    ∙ ap (λ q. record u { root = q }) (sym root) in
    let left : ReadsBack plain false (after_all (exchanging name key x) t) out =
    subst (λ (y : Tree). ReadsBack plain false y out) (sym is) printed in
    record {
      document = r.document;
      tree = t;
      read = r.tree;
      applies = a;
      fields = f;
      slots = ss;
      was = s-is;
      leaves = local.0;
      stays = local.1;
      print = left.0;
      back = left.1 (record { made = local.1.made; fits = fits });
    }
