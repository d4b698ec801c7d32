-- A key that is removed from the root, by the law of removals.
use Rattle.std.proofs.Common.{◌≡◌, refl, ◌∙◌, true, false, [], Option, Some, None}
use Rattle.std.specs.Prelude.{is_some, option_map}
use Rattle.toml_edit.specs.model.Lists.{slot_list}
use Rattle.toml_edit.specs.model.Mode.{Mode, plain}
use Rattle.toml_edit.specs.model.Slots.{Slot, lookup, lookup_slot}
use Rattle.toml_edit.specs.model.Text.{Text}
use Rattle.toml_edit.specs.model.Tree.{Node, Tree}
use Rattle.toml_edit.specs.laws.EditLists.{Applies, remove}
use Rattle.toml_edit.specs.laws.Locality.{Removed, RemovedStaysMade, root_visit}
use Rattle.toml_edit.specs.edits.Fitting.{StillFits}
use Rattle.toml_edit.specs.Documents.{IsOwnedReading}
use Rattle.example_calls.specs.Prints.{ReadsBack}
use Rattle.example_calls.specs.Removals.{HasKeyRemoved, without_key}

slot-of : (o : Option (Slot Node)) → is_some (option_map (λ s. s.item) o) ≡ true → (s : Slot Node) × (o ≡ Some s)
slot-of (Some s) h = (s, refl)
slot-of None h = absurd cc

pub told : (text name out : Text) (t : Tree) → ((mode : Mode) → Removed mode) → RemovedStaysMade → ((mode : Mode) → StillFits mode)
    → (r : IsOwnedReading text t) → is_some (lookup name (slot_list t.slots)) ≡ true → ReadsBack plain false (without_key name t) out
    → HasKeyRemoved text name out
told text name out t law stays still r there (print, back) =
    let s = slot-of (lookup_slot name (slot_list t.slots)) there in
    let gone = law plain t [] (root_visit t) name s.0 r.tree.made (r.tree.steady plain) refl s.1 in
    let made = stays t [] (root_visit t) name s.0 r.tree.made refl s.1 in
    let applies : Applies plain (remove [] name) t = (root_visit t, s.0, refl, s.1) in
    let fits = still plain (remove [] name) t r.tree.made (r.tree.steady plain) (r.tree.fits plain) applies tt in
    record {
      document = r.document;
      tree = t;
      read = r.tree;
      slot = s.0;
      was = s.1;
      others = gone.0;
      print = print ∙ gone.1;
      steady = gone.2;
      back = back (record { made = made; fits = fits });
    }
